use Rattle.std.proofs.{Common.{arith, ℕ, ◌≡◌, ◌-◌, ◌∷◌, [], append-nil, refl}, lemmas.Result.err_from_is_err_and}
use Rattle.qr_devices.proofs.Facts.{stops-first}
use Rattle.qr_images.specs.{Image.joined_below, Packing.{first_line, packed_row}}
use Rattle.qr_images.proofs.lemmas.{lines.joined-none, runs.{failed-after, more-after}}
use Rattle.qr_images.proofs.zpl.put_packed_row.Goals as goal

pub returns-in_err-put_first_line : goal.returns-in_err-put_first_line
unfolding packed_row
returns-in_err-put_first_line g c =
    let s = c.args.settings.now in
    rw ((err_from_is_err_and c.from_residual.result c.from_residual.ensures.1).1)
    (stops-first _ _ _ c.args.pen.now.piece (first_line s c.args.square.now c.args.row) (joined_below (s.scale - 1) (λ (k : ℕ). 58 ∷ [])) c.in_err-put_first_line.ensures)

pub loop-copy-init : goal.loop-copy-init
loop-copy-init g c = rw (joined-none, append-nil) c.in_ok-put_first_line.ensures

pub returns-in_err-put_text : goal.returns-in_err-put_text
unfolding packed_row
returns-in_err-put_text g c =
    rw ((err_from_is_err_and c.from_residual-in_err-put_text.result c.from_residual-in_err-put_text.ensures.1).1)
    (failed-after _ _ _ _ _ _ _ _ _ (λ (k : ℕ). 58 ∷ []) c.loop-copy.copy (c.args.settings.now.scale - 1) refl (omega arith) c.loop-copy.invariant c.in_err-put_text.ensures)

pub loop-copy-preserved : goal.loop-copy-preserved
loop-copy-preserved g c = more-after _ _ _ _ _ _ _ _ _ _ _ (λ (k : ℕ). 58 ∷ []) c.loop-copy.copy refl c.loop-copy.invariant c.in_ok-put_text.ensures

pub returns : goal.returns
unfolding packed_row
returns g c =
    let all : c.loop-copy.copy ≡ c.args.settings.now.scale - 1 = omega arith in
    rw all at c.loop-copy.invariant
