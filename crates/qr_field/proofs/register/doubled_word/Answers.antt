use Rattle.{qr_field.proofs.lemmas.register.doubled-packed, std.proofs.{Common.{◌≡◌, ◌*◌, ◌%◌, ◌^◌, arith, bit_and}, lemmas.Nat.and_le_r}}
use Rattle.qr_field.proofs.register.doubled_word.Goals as goal

pub returns : goal.returns
returns c =
    let word = c.args.word in
    let others = bit_and word 0x7F7F7F7F7F7F7F7F in
    let moved : others * 2 % 2 ^ 64 ≡ others * 2 = omega (arith, and_le_r word 0x7F7F7F7F7F7F7F7F) in
    cc (moved, doubled-packed 8 word)
