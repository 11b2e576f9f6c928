use Rattle.{qr_symbol.proofs.lemmas.words.BitLemmas.{codewords-more, codewords-fits, codewords-room}, std.proofs.Common.{rules, ◌≡◌, ◌+◌, get_or, arith}}
use Rattle.qr_symbol.proofs.words.last_codewords.Goals as goal

pub overflow_mul-bits : goal.overflow_mul-bits
overflow_mul-bits c = omega (arith, codewords-room _ _ (omega arith) c.loop-next.invariant.small)

pub overflow_add-bits : goal.overflow_add-bits
overflow_add-bits c = omega (arith, codewords-room _ _ (omega arith) c.loop-next.invariant.small)

pub loop-next-preserved : goal.loop-next-preserved
loop-next-preserved c = let i = c.loop-next.invariant in let next : c.from.result ≡ get_or c.args.codewords.now (c.args.first + c.loop-next.next) 0 = search rules in record {
  small = codewords-fits _ _ _ i.small (omega arith);
  held = codewords-more _ _ _ _ _ next (omega arith) i.held;
}

pub returns : goal.returns
returns c = search rules
