use Rattle.std.proofs.Common.{◌≡◌, ℕ, List, [], ◌∷◌, ◌++◌, map, append_assoc, sym, ap, ◌∙◌, arith}
use Rattle.std.{proofs.lemmas.List.FromFn.map-range_with_len_more, specs.List.range_with_len}
use Rattle.{qr_matrix.specs.Grid.colour, example_label.specs.Label.character_of}
use Rattle.example_label.proofs.push_line.Goals as goal

pub loop-col-preserved : goal.loop-col-preserved
loop-col-preserved c =
    let f = λ (col : ℕ). character_of (colour c.args.matrix.now c.args.row col) in
    let col = c.loop-col.col in
    let before = c.args.text.now.items in
    let line = map f (range_with_len 0 col) in
    let last : c.character_of.result ≡ f col = c.character_of.ensures ∙ ap character_of c.dark.ensures in
    let added = ap (λ (xs : List ℕ). xs ++ (c.character_of.result ∷ [])) c.loop-col.invariant in
    c.in_ok-push.ensures.items ∙ (added ∙ (append_assoc before line (c.character_of.result ∷ []) ∙ ap (λ (xs : List ℕ). before ++ xs) (ap (λ (x : ℕ). line ++ (x ∷ [])) last ∙ sym (map-range_with_len_more f 0 col col (omega arith)))))

pub returns : goal.returns
returns c _ =
    let f = λ (col : ℕ). character_of (colour c.args.matrix.now c.args.row col) in
    let before = c.args.text.now.items in
    let end : c.loop-col.col ≡ c.args.matrix.now.side = omega (arith, c.side-col-end.ensures.value) in
    let line = c.loop-col.invariant ∙ ap (λ (n : ℕ). before ++ map f (range_with_len 0 n)) end in
    c.in_ok-push-2.ensures.items ∙ (ap (λ (xs : List ℕ). xs ++ (10 ∷ [])) line ∙ append_assoc before (map f (range_with_len 0 c.args.matrix.now.side)) (10 ∷ []))
