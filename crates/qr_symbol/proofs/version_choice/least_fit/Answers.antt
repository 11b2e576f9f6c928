use Rattle.std.proofs.{lemmas.Grind.common_steps, Common.{rules, ◌≡◌, ◌≤◌, Option, Some, ℕ, inl, inr, length, refl, sym, ap, ◌∙◌, ◌+◌, ◌-◌, arith}}
use Rattle.{std.{proofs.lemmas.{Bool.{cases_lt, eqb-false, eqb-true}, List.nil_from_length, Result.err_from_is_err_and}, specs.Option.SomeIff}, qr_layout.specs.declared.version.Version.Version}
use Rattle.qr_symbol.proofs.lemmas.fault.{empty-has-version, empty-long, empty-short, exactly, long-has-no-version, refused-some}
use Rattle.qr_bits.{proofs.Facts.{capacity-26, capacity-least, capacity-nine, fitting-medium, least-most, least_fits}, specs.{Interpretation.interpretation_bits, Padding.capacity_of, Segmentation.bits}}
use Rattle.qr_symbol.proofs.lemmas.version_choice.{FitNone, HaveSameWidths, LackRoom, interpretation-most, segmentation-same, version-found, none-fits}
use Rattle.qr_symbol.specs.VersionChoice.{IsVersion}
use Rattle.qr_symbol.proofs.version_choice.least_fit.Goals as goal
use Rattle.qr_symbol.proofs.version_choice.least_fit.Goals.{then-input-gt-MEDIUM_BYTES, else-input-gt-MEDIUM_BYTES+then-matches, else-input-gt-MEDIUM_BYTES+else-matches+then-bits-capacity_at, else-input-gt-MEDIUM_BYTES+else-matches+else-bits-capacity_at+then-bits-capacity_at-2, else-input-gt-MEDIUM_BYTES+else-matches+else-bits-capacity_at+else-bits-capacity_at-2}
use Rattle.qr_symbol.proofs.version_choice.least_fit.Goals.{in-1-to-9, in-10-to-26, in_default-number, in_default-number-2, else-loop-number-test, then-loop-number-test+else-bits-capacity+else-number-last, After-segments, After-new-in-loop-last, Then-bits-capacity}

-- a version that is made of a number has this number
is-number : {o : Option Version} {v n : ℕ} → o ≡ Some v → SomeIff o ((1 ≤ n) × (n ≤ 40)) n → v ≡ n
is-number {n = n} e h = search rules

pub loop-last-init : goal.loop-last-init
loop-last-init c =
    let e = is-number c.unwrap-first.ensures c.new.ensures in
    let least = c.number.ensures.least in record {
      from = omega arith;
      none = λ v a b fits.
          let l = c.args.least.level in let i = c.args.writing.interpretation in
          let one : 1 ≤ v = omega arith in
          elim c.if-input-gt-MEDIUM_BYTES.branch [
            | then-input-gt-MEDIUM_BYTES w ↦ (let few = fits.2 in omega (arith, w.start-is, w.if-input-gt-MEDIUM_BYTES.true, fitting-medium i v l _ _ one (omega (arith, w.start-is)) (fits.0, fits.1, omega arith)))
            | else-input-gt-MEDIUM_BYTES+then-matches w ↦ omega (arith, w.start-is)
            | else-input-gt-MEDIUM_BYTES+else-matches+then-bits-capacity_at w ↦
                omega (arith, w.start-is, w.if-bits-capacity_at.true, w.from.ensures, w.interpretation_bits.ensures.value, w.capacity_at.ensures, capacity-26 v l one (omega (arith, w.start-is)), capacity-least v l one (omega (arith, w.start-is)), interpretation-most i, w.least_bits.ensures.least i v (capacity_of v l - interpretation_bits i) c.args.writing.rule fits)
            | else-input-gt-MEDIUM_BYTES+else-matches+else-bits-capacity_at+then-bits-capacity_at-2 w ↦
                omega (arith, w.start-is, w.if-bits-capacity_at-2.true, w.from.ensures, w.interpretation_bits.ensures.value, w.capacity_at-else-bits-capacity_at.ensures, capacity-nine v l one (omega (arith, w.start-is)), capacity-least v l one (omega (arith, w.start-is)), interpretation-most i, w.least_bits.ensures.least i v (capacity_of v l - interpretation_bits i) c.args.writing.rule fits)
            | else-input-gt-MEDIUM_BYTES+else-matches+else-bits-capacity_at+else-bits-capacity_at-2 w ↦ omega (arith, w.start-is)
          ];
    }

pub needed_bits-bits-requires : goal.needed_bits-bits-requires
needed_bits-bits-requires c = let is = c.in_ok-segmented.ensures.ok in record {
  covered = (least_fits _ _ _ _ _ _ is).0;
  short = omega (arith, least-most _ _ _ _ _ _ is, c.if-input-gt-SYMBOL_BYTES_MAX.false);
}

pub returns-then-is_empty : goal.returns-then-is_empty
returns-then-is_empty c =
    grind (arith, common_steps, nil_from_length, eqb-true, empty-long, empty-has-version, empty-short)

pub returns-then-input-gt-SYMBOL_BYTES_MAX : goal.returns-then-input-gt-SYMBOL_BYTES_MAX
returns-then-input-gt-SYMBOL_BYTES_MAX c = let long = c.if-input-gt-SYMBOL_BYTES_MAX.true in record {
  fit = tt;
  refused = record {
    empty = search (rules, empty-long, empty-short);
    too_long = exactly _ _ _ _ (λ e. cc) (λ _. long-has-no-version _ _ _ _ c.args.least.version (omega arith) long) tt (inl (λ _. refl));
    long = λ _. refl;
    fault = inr (inl refl);
  };
}

pub returns-in_err-segmented-clause-refused : goal.returns-in_err-segmented-clause-refused
returns-in_err-segmented-clause-refused c = grind (arith, common_steps, err_from_is_err_and, refused-some, eqb-false)

-- `last` is the last of a range of versions in which the counts have the same widths
ranged : (c : After-segments) → (c.loop-last.first ≤ c.if-number-lt1.last) × (c.if-number-lt1.last ≤ 40) × HaveSameWidths c.loop-last.first (c.if-number-lt1.last + 1)
ranged c = let e = c.number-in-loop-last.ensures in elim c.if-number-lt1.branch [
  | in-1-to-9 w ↦ rw w.last-is (omega (arith, w.in-1-to-9, e.value), omega arith, λ v k l m. search rules)
  | in-10-to-26 w ↦ rw w.last-is (omega (arith, w.in-10-to-26, e.value), omega arith, λ v k l m. search rules)
  | in_default-number w ↦ search rules
  | in_default-number-2 w ↦ rw w.last-is (omega (arith, e.most, e.value), omega arith, λ v k l m. search rules)
]

-- all versions of the range have too little room
full : (c : After-new-in-loop-last) → LackRoom c.loop-last.first (c.if-number-lt1.last + 1) c.args.least.level (interpretation_bits c.args.writing.interpretation + bits c.loop-last.first c.in_ok-segmented.segmented.segments.items)
full c v a b =
    let n = c.needed_bits-bits.ensures in let e = c.number-number.ensures.value in let before = c.loop-number.invariant in
    elim c.loop-number-test.branch [
      | else-loop-number-test w ↦ omega (arith, n, before v (omega (arith, e)) (omega (arith, w.loop-number-test.false)))
      | then-loop-number-test+else-bits-capacity+else-number-last w ↦ elim (cases_lt v c.loop-number.number) [
        | inl k ↦ omega (arith, n, before v (omega (arith, e)) k)
        | inr k ↦ (let is = is-number w.unwrap-version.ensures w.new-in-loop-number.ensures in let same : w.unwrap-version.result ≡ v = search rules in
            omega (arith, n, w.if-bits-capacity.false, w.capacity.ensures.value ∙ ap (λ z. capacity_of z c.args.least.level) same))
      ]
    ]

-- the input fits no version of the range
none : (c : After-new-in-loop-last) → FitNone c.args.least.version (c.if-number-lt1.last + 1) c.args.least.level c.args.writing.rule c.args.writing.interpretation c.args.input.now
none c v a b =
    let range = ranged (goal.at.After-new-in-loop-last c).After-segments in
    none-fits c.args.input.now _ c.args.least.level c.args.least.version c.args.writing.rule c.args.writing.interpretation c.loop-last.first (c.if-number-lt1.last + 1) _ (omega arith) (omega (arith, range.1)) c.loop-last.invariant.none
    range.2 c.in_ok-segmented.ensures.ok (full c) v a b

-- the version that has room is the least that the input fits
least : (c : Then-bits-capacity) → IsVersion c.args.least.version c.args.least.level c.args.writing.rule c.args.writing.interpretation c.args.input.now c.unwrap-version.result
least c =
    let is = is-number c.unwrap-version.ensures c.new-in-loop-number.ensures in
    let range = ranged (goal.at.Then-bits-capacity c).After-segments in let e = c.number-number.ensures.value in
    version-found _ _ _ _ _ _ c.loop-last.first c.unwrap-version.result _ (omega arith) c.loop-last.invariant.from (omega (arith, is, e, c.loop-number.auto.number)) (omega arith) c.loop-last.invariant.none
    (λ w i j. range.2 w i (omega (arith, is, c.loop-number-test.true))) c.in_ok-segmented.ensures.ok
    (λ w i j. omega (arith, c.needed_bits-bits.ensures))
    (omega (arith, c.needed_bits-bits.ensures, c.if-bits-capacity.true, c.capacity.ensures.value))

pub returns-then-bits-capacity-clause-fit : goal.returns-then-bits-capacity-clause-fit
returns-then-bits-capacity-clause-fit c =
    let is = least (goal.at.returns-then-bits-capacity-clause-fit c).Then-bits-capacity in
    let e = is-number c.unwrap-version.ensures c.new-in-loop-number.ensures in
    let range = ranged (goal.at.returns-then-bits-capacity-clause-fit c).After-segments in record {
      version = is;
      chosen = segmentation-same _ _ _ _ _ _ _ (λ m. sym (range.2 c.unwrap-version.result (omega (arith, e, c.number-number.ensures.value, c.loop-number.auto.number)) (omega (arith, e, c.loop-number-test.true)) m)) c.in_ok-segmented.ensures.ok;
    }

pub returns-then-bits-capacity-clause-refused : goal.returns-then-bits-capacity-clause-refused
returns-then-bits-capacity-clause-refused c =
    let is = least (goal.at.returns-then-bits-capacity-clause-refused c).Then-bits-capacity in
    refused-some _ _ _ _ _ _ (eqb-false (length _) 0 (sym c.is_empty.ensures ∙ c.if-is_empty.false)) c.if-input-gt-SYMBOL_BYTES_MAX.false (λ none. none _ is.least is.most is.fits)

pub returns-in-None-clause-refused : goal.returns-in-None-clause-refused
returns-in-None-clause-refused c =
    refused-some _ _ _ _ _ _ (eqb-false (length _) 0 (sym c.is_empty.ensures ∙ c.if-is_empty.false)) c.if-input-gt-SYMBOL_BYTES_MAX.false (inr (
      refl,
      λ v a b.
          none (goal.at.returns-in-None-clause-refused c).After-new-in-loop-last v a
          (elim (cases_lt v (c.if-number-lt1.last + 1)) [ inl i ↦ i | inr i ↦ absurd (c.in-None.ensures (omega arith, omega arith)) ]),
    ))

pub loop-last-preserved : goal.loop-last-preserved
loop-last-preserved c = record {
  from = let start = c.loop-last.invariant.from in omega (arith, is-number c.in-Some.is c.new-in-loop-last.ensures, (ranged (goal.at.loop-last-preserved c).After-segments).0);
  none = λ v a b. none (goal.at.loop-last-preserved c).After-new-in-loop-last v a (omega (arith, is-number c.in-Some.is c.new-in-loop-last.ensures));
}

pub loop-last-preserved-in-Some : goal.loop-last-preserved-in-Some
loop-last-preserved-in-Some c = record {
  from = let start = c.loop-last.invariant.from in omega (arith, is-number c.in-Some.is c.new-in-loop-last.ensures, (ranged (goal.at.loop-last-preserved-in-Some c).After-segments).0);
  none = λ v a b. none (goal.at.loop-last-preserved-in-Some c).After-new-in-loop-last v a (omega (arith, is-number c.in-Some.is c.new-in-loop-last.ensures));
}
