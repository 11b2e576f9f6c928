use Rattle.std.proofs.Common.{◌+◌, ◌*◌, ◌<◌, ◌^◌, arith, append_assoc, get_or, rules}
use Rattle.std.proofs.{Math.Nat.mod-lt, Math.Nat.div-lt_iff_lt-mul, lemmas.Nat.pow_pos, lemmas.List.take_all}
use Rattle.qr_bits.proofs.lemmas.bits.BitLemmas.{bits_of-take, byte-behind, power-fits}
use Rattle.qr_bits.proofs.bits.BitWriter.put_bytes.Goals as goal

pub overflow_cast-bits : goal.overflow_cast-bits
overflow_cast-bits c =
    let small : (256 * c.from.result + c.from-in-loop-byte.result) < 256 * 2 ^ c.self.inside.width = omega arith in
    search (arith, div-lt_iff_lt-mul, pow_pos)

pub loop-byte-preserved : goal.loop-byte-preserved
loop-byte-preserved c =
    let w = c.self.inside.width in
    let i = c.loop-byte.byte-index in
    let rest = c.loop-byte.rest in
    let byte = get_or c.args.bytes.now i 0 in
    let n = 256 * c.from.result + c.from-in-loop-byte.result in
    let more = bits_of-take c.args.bytes.now i c.loop-byte-test.true in
    rw (power-fits w 7 65536 (omega (arith, c.self.invariant.0)) (omega arith)) (record {
      rest = mod-lt n (pow_pos w);
      bits = rw (c.in_ok-push.ensures.items, byte-behind c.loop-byte.whole.items w rest byte n (omega arith) (omega (arith, c.from.ensures, c.from-in-loop-byte.ensures))) (search (arith, append_assoc));
    })

pub returns : goal.returns
returns c = search (rules, take_all)
