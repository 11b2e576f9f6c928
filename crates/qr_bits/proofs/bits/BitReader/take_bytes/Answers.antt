use Rattle.qr_bits.{proofs.lemmas.bits.BitLemmas.left_at, specs.Bits.bits_of}
use Rattle.std.proofs.Common.{rules, ◌≡◌, ℕ, ◌+◌, ◌*◌, ◌≤◌, Bool, List, length, drop, ap, arith}
use Rattle.qr_bits.proofs.bits.BitReader.take_bytes.Goals as goal

inside : (bs : List ℕ) (i n : ℕ) (bits : List Bool) → drop i (bits_of bs) ≡ bits → i ≤ 8 * length bs → 8 * n ≤ length bits → i + 8 * n ≤ 8 * length bs
inside bs i n bits e h k = omega (arith, ap length e, left_at bs i)

pub push_bytes_at-requires : goal.push_bytes_at-requires
push_bytes_at-requires c = search (rules, inside)

pub overflow_mul-self : goal.overflow_mul-self
overflow_mul-self c = omega (arith, inside _ _ c.args.count _ c.self.view_is c.self.invariant.0 c.requires, c.self.invariant.1)

pub overflow_add-self : goal.overflow_add-self
overflow_add-self c = omega (arith, inside _ _ c.args.count _ c.self.view_is c.self.invariant.0 c.requires, c.self.invariant.1)

pub invariant_of-self : goal.invariant_of-self
invariant_of-self c = search (rules, inside)
