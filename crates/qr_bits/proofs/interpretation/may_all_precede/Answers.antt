use Rattle.std.proofs.{Common.{◌≡◌, ℕ, ◌+◌, ◌<◌, true, List, [], ◌∷◌, length, drop, get_or, refl, ap, ◌∙◌, arith, rules}, Math.Bool.{and-true, and_assoc}}
use Rattle.std.proofs.lemmas.List.{drop_more, get_or-drop, length-drop}
use Rattle.qr_bits.specs.Interpretation.{are_fields}
use Rattle.qr_bits.proofs.interpretation.may_all_precede.Goals as goal

short-fields : (xs : List ℕ) → length xs < 2 → are_fields xs ≡ true
unfolding are_fields
short-fields [] h = refl
short-fields (x ∷ []) h = refl
short-fields (x ∷ y ∷ xs) h = absurd (omega arith)

pub loop-i-preserved : goal.loop-i-preserved
unfolding are_fields
loop-i-preserved c =
    let xs = c.args.firsts.now in
    let i = c.loop-i.i in
    let inside : i + 1 < length xs = search (rules, length-drop) in
    let first : drop i xs ≡ get_or xs i 0 ∷ drop (i + 1) xs = drop_more xs i 0 (omega arith) in
    let second : drop (i + 1) xs ≡ get_or xs (i + 1) 0 ∷ drop (i + 1 + 1) xs = drop_more xs (i + 1) 0 inside in
    let here : get_or c.args.seconds.now i 0 ≡ get_or xs (i + 1) 0 = rw c.requires (get_or-drop 1 xs i 0 ∙ ap (λ (k : ℕ). get_or xs k 0) (omega arith)) in
    search (rules, and_assoc)

pub returns : goal.returns
returns c = search (rules, length-drop, and-true, short-fields)
