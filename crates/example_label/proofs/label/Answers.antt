use Rattle.std.proofs.Common.{◌≡◌, ◌≢◌, ◌↔◌, ℕ, suc, ◌+◌, List, [], ◌∷◌, ◌++◌, Result, Err, append_assoc, refl, sym, ap, ◌∙◌, arith}
use Rattle.std.{proofs.lemmas.Result.err_from_is_err_and, specs.List.{flat_map, range_with_len}}
use Rattle.example_label.{specs.Label.line_of_row, proofs.LineLemmas.flat-more}
use Rattle.example_label.proofs.label.Goals as goal

-- if `encode` returns a refusal exactly if P holds, unless memory is refused, so does the call that passes it on
passed-on : {X Y E : Type 0} (r : Result X E) (s : Result Y E) (e refused memory : E) (P : Type 0) → r ≡ Err e → s ≡ Err e
    → ((r ≡ Err refused) ↔ ((r ≢ Err memory) × P)) → ((s ≡ Err refused) ↔ ((s ≢ Err memory) × P))
passed-on r s e refused memory P is goes (f, g) = (
  λ h. let k : r ≡ Err refused = cc in let w = f k in ((λ m. let n : r ≡ Err memory = cc in w.0 n), w.1),
  λ w. let k : r ≡ Err refused = g ((λ m. let n : s ≡ Err memory = cc in w.0 n), w.1) in cc,
)

pub loop-row-preserved : goal.loop-row-preserved
loop-row-preserved c =
    let row = c.loop-row.row in
    let f = line_of_row c.in_ok-symbol.symbol.matrix in
    let more = flat-more f 0 row in
    let here : 0 + row ≡ row = omega arith in
    let next : suc row ≡ row + 1 = omega arith in
    c.in_ok-push_line.ensures refl
    ∙ (ap (λ (xs : List ℕ). xs ++ f row) c.loop-row.invariant
    ∙ (ap (λ (n : ℕ). flat_map f (range_with_len 0 row) ++ f n) (sym here) ∙ (sym more ∙ ap (λ (n : ℕ). flat_map f (range_with_len 0 n)) next)))

pub returns-clause-label : goal.returns-clause-label
returns-clause-label c =
    let f = line_of_row c.in_ok-symbol.symbol.matrix in
    let side = c.in_ok-symbol.symbol.matrix.side in
    let end : c.loop-row.row ≡ side = omega (arith, c.side-row-end.ensures.value) in
    let lines = c.loop-row.invariant ∙ ap (λ (n : ℕ). flat_map f (range_with_len 0 n)) end in
    let words = c.in_ok-extend_from_slice.ensures.items ∙ ap (λ (xs : List ℕ). xs ++ c.args.words.now) lines in
    record {
      version = c.in_ok-symbol.symbol.version;
      mask = c.in_ok-symbol.symbol.mask;
      square = c.in_ok-symbol.symbol.matrix;
      symbol = c.in_ok-symbol.ensures.symbol;
      drawn = c.in_ok-push.ensures.items ∙ (ap (λ (xs : List ℕ). xs ++ (10 ∷ [])) words ∙ append_assoc (flat_map f (range_with_len 0 side)) c.args.words.now (10 ∷ []));
    }

pub returns-in_err-symbol-clause-too_long : goal.returns-in_err-symbol-clause-too_long
returns-in_err-symbol-clause-too_long c =
    let p = err_from_is_err_and c.from_residual.result c.from_residual.ensures.1 in
    passed-on _ c.from_residual.result c.in_err-symbol.field-0.0 _ _ _ refl (rw (p.1, p.2) refl) c.in_err-symbol.ensures.too_long
