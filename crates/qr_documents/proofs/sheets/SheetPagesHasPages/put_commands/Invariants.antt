use Rattle.qr_devices.specs.Writing.{Writes}
use Rattle.qr_drawing.specs.Raster.{texts_below}
use Rattle.qr_documents.specs.Sheets.{place_commands}
use Rattle.std.proofs.Common.{◌++◌, map}
use Rattle.qr_documents.proofs.sheets.SheetPagesHasPages.put_commands.Given as goal

abbrev pub invariant-loop-place : goal.invariant-loop-place
invariant-loop-place g l = Writes (g.W.Sink.device l.fn.out) (g.W.Sink.device l.out)
    l.fn.pen.interrupted l.pen.interrupted
    (l.fn.pen.piece ++ texts_below l.place (place_commands l.self.settings (map g.S.HasSquare.grid l.self.symbols.now) l.page)) l.pen.piece
