use Rattle.std.proofs.{Common.{rules, ◌≡◌, ◌∷◌, [], ◌/◌, ◌%◌, ◌*◌, ◌+◌, ◌^◌, arith, ap, bit_and, refl, ◌∙◌}, lemmas.Nat.and_mask}
use Rattle.qr_field.{specs.Steps.Register.unpacked, proofs.lemmas.register.{joined-halves, word-bytes}}
use Rattle.qr_field.proofs.register.bytes_of_half.Goals as goal

pub returns : goal.returns
returns c =
    let half = c.args.half in
    let upper : c.copy_from_slice-2.new.self ≡ unpacked 8 (half / 2 ^ 64) = search (rules, word-bytes) in
    let whole : half / 2 ^ 64 * 256 ^ 8 + half % 2 ^ 64 ≡ half = omega arith in
    joined-halves 8 (half / 2 ^ 64) (half % 2 ^ 64) c.copy_from_slice.new.self c.copy_from_slice-2.new.self
    (0 ∷ 0 ∷ 0 ∷ 0 ∷ 0 ∷ 0 ∷ 0 ∷ 0 ∷ []) (omega arith) (c.copy_from_slice.ensures.after ∙ (c.to_le_bytes.ensures ∙ (word-bytes (bit_and half 0xFFFFFFFFFFFFFFFF) ∙ ap (unpacked 8) (and_mask half 64)))) upper refl
    ∙ ap (unpacked 16) whole
