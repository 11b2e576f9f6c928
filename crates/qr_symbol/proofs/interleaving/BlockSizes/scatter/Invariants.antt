use Rattle.{qr_symbol.{proofs.lemmas.interleaving.OrderLemmas.IsPlaced, specs.Interleaving.codeword_count}, std.proofs.Common.{◌≡◌, length}}
use Rattle.qr_symbol.proofs.interleaving.BlockSizes.scatter.Given as goal

abbrev pub invariant-loop-block : goal.invariant-loop-block
invariant-loop-block l = record { long : length l.interleaved ≡ codeword_count l.self; placed : IsPlaced l.self l.block 0 l.interleaved l.codewords }

abbrev pub invariant-loop-index : goal.invariant-loop-index
invariant-loop-index l = record { long : length l.interleaved ≡ codeword_count l.self; placed : IsPlaced l.self l.block l.index l.interleaved l.codewords }
