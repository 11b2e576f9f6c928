use Rattle.{qr_symbol.{proofs.lemmas.interleaving.OrderLemmas.IsPlaced, specs.Interleaving.codeword_count}, std.proofs.Common.{◌≡◌, length}}
use Rattle.qr_symbol.proofs.interleaving.gather_into.Given as goal

abbrev pub invariant-loop-block : goal.invariant-loop-block
invariant-loop-block l = record { long : length l.message ≡ codeword_count l.sizes; placed : IsPlaced l.sizes l.block 0 l.codewords l.message }

abbrev pub invariant-loop-index : goal.invariant-loop-index
invariant-loop-index l = record { long : length l.message ≡ codeword_count l.sizes; placed : IsPlaced l.sizes l.block l.index l.codewords l.message }
