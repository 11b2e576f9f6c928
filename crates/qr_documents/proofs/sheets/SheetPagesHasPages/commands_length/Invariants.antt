use Rattle.qr_drawing.specs.Raster.{texts_below}
use Rattle.qr_documents.specs.Sheets.{place_commands}
use Rattle.std.proofs.Common.{◌≡◌, ◌≤◌, ◌*◌, length, map}
use Rattle.qr_documents.proofs.sheets.SheetPagesHasPages.commands_length.Given as goal

abbrev pub invariant-loop-place : goal.invariant-loop-place
invariant-loop-place g l = record {
  len : l.len ≡ length (texts_below l.place (place_commands l.self.settings (map g.S.HasSquare.grid l.self.symbols.now) l.page));
  low : l.len ≤ 600000 * l.place;
}
