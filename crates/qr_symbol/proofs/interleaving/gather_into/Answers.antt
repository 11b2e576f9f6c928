use Rattle.std.proofs.{Common.{rules, ◌≡◌, ℕ, ◌+◌, ◌*◌, ◌-◌, List, get_or, sym, ◌∙◌, ap, subst, arith}, lemmas.{List.length-set, Bool.Decides.nat_tests}}
use Rattle.qr_symbol.{specs.Interleaving.{block_count, start_of}, proofs.interleaving.gather_into.Goals.{then-block-short, else-block-short}}
use Rattle.qr_symbol.proofs.lemmas.interleaving.{OrderLemmas.{IsPlaced, placed-block, placed-end, placed-gathered}, PositionLemmas.{len-most, position-in}, RankLemmas.{in-row, in-last-row}}
use Rattle.qr_symbol.proofs.interleaving.gather_into.Goals as goal

pub bounds-message-start : goal.bounds-message-start
bounds-message-start c =
    let w = in-row c.args.sizes c.loop-index.index c.loop-block.block (omega arith) (omega arith) in
    let k = position-in c.args.sizes c.loop-index.index c.loop-block.block w.0 in search rules

pub loop-index-preserved : goal.loop-index-preserved
loop-index-preserved c =
    let sizes = c.args.sizes in let p = c.loop-index.index in
    let b = c.loop-block.block in let h = c.loop-index.invariant in let w = in-row sizes p b (omega arith) (omega arith) in
    let index-is = ap (λ (n : ℕ). n * p + b) c.count-blocks.ensures ∙ w.1 in record {
      long = length-set c.loop-index.message _ _ ∙ h.long;
      placed = placed-gathered sizes b p c.args.codewords.now c.loop-index.message _ _ h.long w.0 (ap (λ (z : ℕ). z + p) c.start-start.ensures) (ap (λ (z : ℕ). get_or c.args.codewords.now z 0) index-is) h.placed;
    }

pub loop-block-preserved : goal.loop-block-preserved
loop-block-preserved c =
    let sizes = c.args.sizes in let b = c.loop-block.block in let h = c.loop-index.invariant in
    let e : c.loop-index.index ≡ sizes.short_len = omega arith in
    let all = subst (λ (p : ℕ). IsPlaced sizes b p c.args.codewords.now c.loop-index.message) e h.placed in record {
      long = search (rules, length-set);
      placed = elim c.if-block-short.branch [
        | then-block-short w ↦
            let v = in-last-row sizes b (omega arith) (omega arith) in
            let index-is : c.from-short_len.result * c.count-blocks.result + (b - c.from-short.result) ≡ sizes.short_len * block_count sizes + (b - sizes.short) = cc in
            let at : c.start-start.result + c.from-short_len.result ≡ start_of sizes b + sizes.short_len = cc in
            subst (λ (xs : List ℕ). IsPlaced sizes (b + 1) 0 c.args.codewords.now xs) (sym w.message-is) (placed-block sizes b (sizes.short_len + 1) _ _ (len-most sizes b) (placed-gathered sizes b sizes.short_len c.args.codewords.now _ _ _ h.long v.0 at (ap (λ (z : ℕ). get_or c.args.codewords.now z 0) (index-is ∙ v.1)) all))
        | else-block-short w ↦
            subst (λ (xs : List ℕ). IsPlaced sizes (b + 1) 0 c.args.codewords.now xs) (sym w.message-is) (placed-block sizes b sizes.short_len _ _ (search (arith, nat_tests)) all)
      ];
    }

pub returns : goal.returns
returns c = placed-end c.args.sizes c.loop-block.block c.args.codewords.now c.loop-block.message c.loop-block.invariant.long c.requires.interleaved (omega arith) c.loop-block.invariant.placed
