use Rattle.qr_drawing.proofs.Facts.{no-texts, put-next, put-none, put-stops}
use Rattle.qr_documents.specs.Sheets.{place_commands, places_of}
use Rattle.std.proofs.{Common.{◌≡◌, arith, map, refl}, lemmas.Result.err_from_is_err_and}
use Rattle.qr_documents.proofs.sheets.SheetPagesHasPages.put_commands.Goals as goal

pub loop-place-init : goal.loop-place-init
loop-place-init g c = put-none _ _ _ _ _ (no-texts _)

pub returns-in_err-put_label : goal.returns-in_err-put_label
returns-in_err-put_label g c =
    let text = place_commands c.args.self.now.settings (map g.S.HasSquare.grid c.args.self.now.symbols.now) c.args.page in
    rw ((err_from_is_err_and c.from_residual.result c.from_residual.ensures.1).1)
    (put-stops _ _ _ _ _ _ _ _ _ _ text refl (omega (arith, c.places-place-end.ensures)) c.loop-place.invariant c.in_err-put_label.ensures)

pub loop-place-preserved : goal.loop-place-preserved
loop-place-preserved g c =
    let text = place_commands c.args.self.now.settings (map g.S.HasSquare.grid c.args.self.now.symbols.now) c.args.page in
    put-next _ _ _ _ _ _ _ _ _ _ _ _ text refl refl c.loop-place.invariant c.in_ok-put_label.ensures

pub returns : goal.returns
returns g c =
    let all : c.loop-place.place ≡ places_of c.args.self.now.settings.sheet = omega (arith, c.places-place-end.ensures) in
    rw (← all) c.loop-place.invariant
