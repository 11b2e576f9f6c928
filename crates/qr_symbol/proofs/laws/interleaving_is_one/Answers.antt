use Rattle.{qr_layout.specs.Blocks.blocks_of, qr_symbol.proofs.lemmas.interleaving.MessageLemmas.{final-one, final-whole, data-one, data-sizes-whole}}
use Rattle.std.proofs.Common.{rules, ◌∙◌, sym, arith}
use Rattle.qr_symbol.proofs.laws.interleaving_is_one.Goals as goal

pub returns : goal.returns
returns c = let whole = data-sizes-whole c.args.version c.args.level (omega arith) (omega arith) in record {
  interleaved = final-one (blocks_of c.args.version c.args.level);
  many = search (rules, final-whole);
  message = λ d e xs m n. data-one (blocks_of c.args.version c.args.level) d e xs (m ∙ sym whole) (n ∙ sym whole);
}
