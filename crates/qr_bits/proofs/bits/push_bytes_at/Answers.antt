use Rattle.std.proofs.{Common.{◌≡◌, ◌+◌, ◌-◌, ◌*◌, ◌/◌, ◌%◌, ◌≤◌, length, drop, append-nil, append_assoc, arith, rules}, lemmas.List.drop-drop}
use Rattle.qr_bits.{specs.{Bits.bits_of, Parsing.bytes_of}, proofs.lemmas.bits.WindowLemmas.{byte-window, bytes_of-more}}
use Rattle.qr_bits.proofs.bits.push_bytes_at.Goals as goal

pub loop-i-init : goal.loop-i-init
unfolding bytes_of
loop-i-init c = search (rules, append-nil)

pub loop-i-preserved : goal.loop-i-preserved
loop-i-preserved c =
    let xs = c.args.bytes.now in
    let at = c.args.at in
    let i = c.loop-i.i in
    let inv = c.loop-i.invariant in
    let bits = drop at (bits_of xs) in
    let next : at / 8 + (i + 1) ≡ at / 8 + i + 1 = omega arith in
    let place : ((at + 8 * i) / 8 ≡ at / 8 + i) × (at + 8 * i + 8 ≤ 8 * length xs) × ((at + 8 * i) % 8 + (8 - at % 8) ≡ 8) = search rules in
    search (rules, byte-window, drop-drop, bits_of, bytes_of-more, append_assoc)
