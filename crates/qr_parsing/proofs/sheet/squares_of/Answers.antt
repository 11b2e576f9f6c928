use Rattle.{qr_matrix.specs.Grid.square, qr_parsing.specs.Steps.Sheet.is_dark_on}
use Rattle.std.proofs.{Common.{◌+◌, ◌++◌, ◌∷◌, [], ℕ, sym, ◌∙◌, arith}, lemmas.List.FromFn.map-range_with_len_more}
use Rattle.qr_parsing.proofs.sheet.squares_of.Goals as goal

pub loop-k-preserved : goal.loop-k-preserved
loop-k-preserved c =
    let s = c.args.sheet.now in
    c.in_ok-push.ensures.items
    ∙ ((λ i. c.loop-k.invariant i ++ (c.in_ok-square_of.ensures i ∷ []))
    ∙ sym (map-range_with_len_more (λ (k : ℕ). square c.args.side (λ row col. is_dark_on s.kind s.width s.bytes.now k (c.args.margin + row) (c.args.margin + col))) 0 c.loop-k.k c.loop-k.k (omega arith)))
