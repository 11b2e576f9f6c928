use Rattle.qr_documents.specs.{Sheets.{place_commands, places_of}}
use Rattle.qr_documents.proofs.lemmas.pdf.{text-length}
use Rattle.qr_drawing.proofs.Facts.{no-texts}
use Rattle.std.proofs.Common.{◌≡◌, ap, arith, length, map, sym}
use Rattle.qr_documents.proofs.sheets.SheetPagesHasPages.commands_length.Goals as goal

pub loop-place-init : goal.loop-place-init
loop-place-init g c = record { len = sym (ap length (no-texts _)); low = omega arith }

pub loop-place-preserved : goal.loop-place-preserved
loop-place-preserved g c =
    let text = place_commands c.args.self.now.settings (map g.S.HasSquare.grid c.args.self.now.symbols.now) c.args.page in
    record {
      len = text-length c.loop-place.place text c.loop-place.len _ c.loop-place.invariant.len c.label_length-len.ensures.value;
      low = omega (arith, c.loop-place.invariant.low, c.label_length-len.ensures.most);
    }

pub returns : goal.returns
returns g c =
    let all : c.loop-place.place ≡ places_of c.args.self.now.settings.sheet = omega (arith, c.places-place-end.ensures) in
    record {
      value = rw (← all) c.loop-place.invariant.len;
      most = omega (arith, c.loop-place.invariant.low);
    }
