use Rattle.qr_symbol.proofs.lemmas.{placement.PlacementLemmas.{places-push, kept-append}, reading.SymbolReadLemmas.{all-read, filled-few, read-across}}
use Rattle.std.proofs.{lemmas.List.map-append, Common.{rules, refl, ◌≡◌, ◌≤◌, List, [], ◌∷◌, ◌++◌, map, ◌∙◌, ap, sym, subst, append_assoc, append-nil, arith}}
use Rattle.qr_layout.{proofs.Facts.Inside, specs.{Order.{IsOrder, in_region_of}, Strips.{both_of, places_of, rows_from}, Version.side_of, declared.strips.Strip.Strip}}
use Rattle.std.{proofs.lemmas.List.Elements.{All-tail}, specs.List.All, proofs.lemmas.Result.IfOk-weaker}
use Rattle.std.specs.{Option.IsSome, Result.{IsErr, IfOk, IsOkAnd}, Prelude.{Result, Ok, Err, Option, None}}
use Rattle.qr_symbol.specs.Steps.Collecting.{colour_across}
use Rattle.qr_symbol.proofs.collecting.collect_strips.Goals as goal

-- a result that is no error is a value, for which the same holds
ok-and : {A E : Type 0} (r : Result A E) (P : A → Type 0) → (IsErr r → ⊥) → IfOk r P → IsOkAnd r P
ok-and (Ok x) P none h = h
ok-and (Err e) P none h = absurd (none refl)

some-none : {A : Type 0} (o : Option A) → IsSome o → o ≡ None → ⊥
some-none o h e = grind arith

pub loop-strip-init : goal.loop-strip-init
loop-strip-init c =
    let v = c.args.version in
    let e = sym c.into_iter-strip-iterator.ensures.into_iter_gives in record {
      can_next = tt;
      is_finite = tt;
      inside = search rules;
      whole = subst (λ (xs : List Strip). IsOrder v (in_region_of v (places_of (side_of v) xs))) e c.all_strips-strip-items.ensures.order;
      bits = c.requires.memory;
    }

pub loop-strip-preserved : goal.loop-strip-preserved
loop-strip-preserved c =
    let v = c.args.version in let s = side_of v in
    let i = c.loop-strip.invariant in let x = c.in-Some.strip in
    let xs = c.loop-strip.yielded in let f = colour_across c.args.across.now in
    let all : map f (in_region_of v (places_of s (xs ++ x ∷ []))) ≡ map f (in_region_of v (places_of s xs)) ++ map f (in_region_of v (both_of (rows_from s x 0 s))) =
    search (rules, map-append, kept-append, places-push) in record {
      can_next = tt;
      is_finite = tt;
      inside = All-tail (Inside v) x c.next.new.self (subst (All (Inside v)) c.in-Some.ensures.steps i.inside);
      whole = subst (λ (zs : List Strip). IsOrder v (in_region_of v (places_of s zs))) (ap (λ (zs : List Strip). xs ++ zs) c.in-Some.ensures.steps ∙ sym (append_assoc xs _ _)) i.whole;
      bits = rw all (c.collect_strip.ensures _ _ i.bits);
    }

pub returns : goal.returns
returns c =
    let v = c.args.version in let xs = c.loop-strip.yielded in
    let i = c.loop-strip.invariant in let r = c.into_codewords.result in
    let order = subst (λ (zs : List Strip). IsOrder v (in_region_of v (places_of (side_of v) zs)))
    (ap (λ (zs : List Strip). xs ++ zs) c.in-None.ensures.steps.0 ∙ append-nil xs) i.whole in
    let least : 1 ≤ v = omega arith in let most : v ≤ 40 = omega arith in
    let some = i.bits.enough (filled-few v _ _ least most order) in
    ok-and r _ (λ err. some-none _ some (c.into_codewords.ensures.err err))
    (IfOk-weaker r _ _ (λ cw b. (read-across v _ _ _ b.0 b.1 least most c.requires.side order b.3 b.2 (rw b.4 at i.bits.bits), all-read v _ _ _ b.0 b.1 least most order b.2 (rw b.4 at i.bits.bits))) c.into_codewords.ensures.ok)
