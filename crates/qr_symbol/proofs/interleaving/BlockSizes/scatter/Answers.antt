use Rattle.std.proofs.{Common.{rules, ◌≡◌, ℕ, ◌+◌, ◌*◌, ◌-◌, List, get_or, sym, ◌∙◌, ap, subst, arith}, lemmas.{List.length-set, Bool.Decides.nat_tests}}
use Rattle.qr_symbol.{specs.Interleaving.{block_count, start_of}, proofs.interleaving.BlockSizes.scatter.Goals.{then-block-short, else-block-short}}
use Rattle.qr_symbol.proofs.lemmas.interleaving.{OrderLemmas.{IsPlaced, placed-block, placed-end, placed-interleaved}, PositionLemmas.len-most, RankLemmas.{in-row, in-last-row}}
use Rattle.qr_symbol.proofs.interleaving.BlockSizes.scatter.Goals as goal

pub loop-index-preserved : goal.loop-index-preserved
loop-index-preserved c =
    let sizes = c.args.self in let p = c.loop-index.index in
    let b = c.loop-block.block in let h = c.loop-index.invariant in let w = in-row sizes p b (omega arith) (omega arith) in
    let index-is = ap (λ (n : ℕ). n * p + b) c.count-blocks.ensures ∙ w.1 in record {
      long = length-set c.loop-index.interleaved _ _ ∙ h.long;
      placed = placed-interleaved sizes b p c.loop-index.interleaved c.args.codewords.now _ _ (omega (arith, h.long)) w.0 index-is (ap (λ (z : ℕ). get_or c.args.codewords.now (z + p) 0) c.start-start.ensures) h.placed;
    }

pub loop-block-preserved : goal.loop-block-preserved
loop-block-preserved c =
    let sizes = c.args.self in let b = c.loop-block.block in let h = c.loop-index.invariant in
    let e : c.loop-index.index ≡ sizes.short_len = omega arith in
    let all = subst (λ (p : ℕ). IsPlaced sizes b p c.loop-index.interleaved c.args.codewords.now) e h.placed in record {
      long = search (rules, length-set);
      placed = elim c.if-block-short.branch [
        | then-block-short w ↦
            let v = in-last-row sizes b (omega arith) (omega arith) in
            let index-is : c.from-short_len.result * c.count-blocks.result + (b - c.from-short.result) ≡ sizes.short_len * block_count sizes + (b - sizes.short) = cc in
            let at : get_or c.args.codewords.now (c.start-start.result + c.from-short_len.result) 0 ≡ get_or c.args.codewords.now (start_of sizes b + sizes.short_len) 0 = cc in
            subst (λ (xs : List ℕ). IsPlaced sizes (b + 1) 0 xs c.args.codewords.now) (sym w.interleaved-is) (placed-block sizes b (sizes.short_len + 1) _ _ (len-most sizes b) (placed-interleaved sizes b sizes.short_len _ c.args.codewords.now _ _ (omega (arith, h.long)) v.0 (index-is ∙ v.1) at all))
        | else-block-short w ↦
            subst (λ (xs : List ℕ). IsPlaced sizes (b + 1) 0 xs c.args.codewords.now) (sym w.interleaved-is) (placed-block sizes b sizes.short_len _ _ (search (arith, nat_tests)) all)
      ];
    }

pub returns-clause-gathered : goal.returns-clause-gathered
returns-clause-gathered c = placed-end c.args.self c.loop-block.block c.loop-block.interleaved c.args.codewords.now c.requires.whole (omega (arith, c.loop-block.invariant.long)) (omega arith) c.loop-block.invariant.placed
