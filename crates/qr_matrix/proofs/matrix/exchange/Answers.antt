use Rattle.qr_matrix.{proofs.lemmas.matrix.TranspositionLemmas.{AreNext, two-other, upper-more, upper-word, lower-more, lower-word}, specs.BitRow.has_bit}
use Rattle.{qr_matrix.specs.Steps.bit_in, std.proofs.Common.{rules, ◌≡◌, ℕ, ◌+◌, ◌*◌, ◌/◌, ◌%◌, ◌^◌, ◌<◌, ◌≤◌, ◌∙◌, bit_and, bit_xor, get_or, set, ap, arith}}
use Rattle.std.proofs.{Math.{ListN.length-set, Nat.{mul-le-mul_left, mul-mod_right}}, lemmas.Bool.cases_lt}
use Rattle.qr_matrix.proofs.matrix.exchange.Goals as goal

pub loop-row-init : goal.loop-row-init
loop-row-init c = search rules

-- a group of rows is inside the tile
room : (s k : ℕ) → 1 ≤ s → 32 % s ≡ 0 → k < 32 / s → 2 * s * k + 2 * s ≤ 64
room s k p q l = search (rules, mul-le-mul_left)

pub loop-row-preserved : goal.loop-row-preserved
unfolding bit_in
loop-row-preserved c =
    let s = c.args.steps in
    let first = 2 * s * c.loop-group.group in
    let row = c.loop-row.row in
    let w = c.loop-row.tile in
    let b = c.args.tile.now in
    let upper = get_or w row 0 in let lower = get_or w (row + s) 0 in
    let d = bit_and (bit_xor (upper / 2 ^ s) lower) c.args.mask in
    let u = bit_xor upper (d * 2 ^ s % 2 ^ 64) in
    let v = bit_xor lower d in
    let i = c.loop-row.invariant in
    let next : AreNext s first row w b = record {
      some = c.requires.some;
      long = i.long;
      whole = mul-mod_right (2 * s) c.loop-group.group;
      begun = omega arith;
      within = omega arith;
      room = search rules;
      upper = i.between row (omega arith) (omega arith);
      lower = i.below (row + s) (omega arith);
    } in record {
      long = length-set (set w row u) (row + s) v ∙ (length-set w row u ∙ i.long);
      before = λ r k l m. ap (λ z. has_bit z k) (two-other w row (row + s) u v r (λ e. omega arith) (λ e. omega arith)) ∙ i.before r k l m;
      upper = upper-more s first row w b u v next (λ k l. upper-word upper lower s c.args.mask k c.requires.some c.requires.masks l) i.upper;
      lower = lower-more s first row w b u v next (λ k l. lower-word upper lower s c.args.mask k c.requires.masks l) i.lower;
      between = λ r l m. two-other w row (row + s) u v r (λ e. omega arith) (λ e. omega arith) ∙ i.between r (omega arith) m;
      below = λ r l. two-other w row (row + s) u v r (λ e. omega arith) (λ e. omega arith) ∙ i.below r (omega arith);
    }

pub loop-group-preserved : goal.loop-group-preserved
loop-group-preserved c = search (rules, cases_lt)
