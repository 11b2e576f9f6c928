use Rattle.{std.proofs.Common.{rules, ◌≡◌, ◌++◌, length, length-append, sym, ◌∙◌, subst, arith}, qr_layout.proofs.Facts.blocks-sound}
use Rattle.{qr_layout.specs.Blocks.blocks_of, qr_symbol.specs.Interleaving.{IsFinalMessage, codeword_count, data_sizes}}
use Rattle.qr_symbol.proofs.lemmas.interleaving.{CheckLemmas.both-interleaved, MessageLemmas.{data-sizes-whole, final-whole, take-front}}
use Rattle.qr_symbol.proofs.interleaving.interleave.Goals as goal

pub corrections-requires : goal.corrections-requires
corrections-requires c = search (rules, blocks-sound, data-sizes-whole)

pub scatter-requires : goal.scatter-requires
scatter-requires c =
    let w : length c.args.message.now ≡ codeword_count (data_sizes c.blocks-blocks.result) = rw c.blocks-blocks.ensures (c.requires.whole ∙ sym (data-sizes-whole _ _ (omega arith) (omega arith))) in
    search rules

pub returns : goal.returns
returns c =
    let v = c.args.v in let l = c.args.level in
    let b : c.blocks-blocks.result ≡ blocks_of v l = c.blocks-blocks.ensures in
    let first = rw (c.of_data.ensures, b) at c.scatter.ensures in
    let checks = rw (c.of_corrections.ensures, b, c.deref.ensures.value) at c.scatter-2.ensures in
    let es = rw b at c.in_ok-corrections.ensures in
    let all = c.scatter.new.interleaved ++ c.scatter-2.new.interleaved in
    let len : length all ≡ c.in_ok-interleaved.interleaved.len = length-append c.scatter.new.interleaved c.scatter-2.new.interleaved
    ∙ omega (arith, first.long, checks.long, c.requires.whole, data-sizes-whole v l (omega arith) (omega arith), es.long, c.in_ok-interleaved.ensures.len) in
    let is = subst (IsFinalMessage (blocks_of v l) c.args.message.now) (sym (take-front c.in_ok-interleaved.interleaved.len all _ len))
    (both-interleaved _ _ _ _ _ es.each first.long checks.long first.gathered checks.gathered) in
    record { interleaved = is; many = final-whole v l _ _ (omega arith) (omega arith) is }
