use Rattle.qr_logos.proofs.lemmas.encoding.{all-below, AreAllBelow, AreBelowThrough, below-next, faults-empty, faults-logo, faults-long, faults-memory, faults-none, faults-unfit}
use Rattle.qr_logos.proofs.lemmas.encoding.{IsReached, needed-next, reached-next, size-found, through-fit, through-unfit}
use Rattle.qr_logos.specs.{Encoding.IsLogoSize}
use Rattle.{qr_symbol.specs.VersionChoice.{FitsVersion, level_rank}, std.proofs.lemmas.{Bool.{eqb-false, eqb-true}, List.nil_from_length, Result.err_from_is_err_and}}
use Rattle.std.proofs.Common.{◌≡◌, ◌-◌, ◌≤◌, [], length, refl, sym, ap, ◌∙◌, arith}
use Rattle.qr_logos.proofs.encoding.size_with_logo.Goals as goal
use Rattle.qr_logos.proofs.encoding.size_with_logo.Goals.{then-above-eq0, else-above-eq0, then-bits-capacity+else-above-logo, else-bits-capacity, After-size_after, Else-is_empty, In-None, In-Some, Then-above-logo, Then-is_empty}

-- an input without bytes is empty
none : (c : Then-is_empty) → c.args.input.now ≡ []
none c = nil_from_length (c.args.input.now) (eqb-true (length c.args.input.now) 0 (sym c.is_empty.ensures ∙ c.if-is_empty.true))

pub returns-then-is_empty-clause-faults : goal.returns-then-is_empty-clause-faults
returns-then-is_empty-clause-faults c =
    faults-empty c.args.least.version c.args.least.level c.args.writing.rule c.args.writing.interpretation c.args.input.now c.args.logo.share c.args.logo.side (omega arith) (none (goal.at.returns-then-is_empty-clause-faults c).Then-is_empty)

pub returns-then-input-gt-SYMBOL_BYTES_MAX-clause-faults : goal.returns-then-input-gt-SYMBOL_BYTES_MAX-clause-faults
returns-then-input-gt-SYMBOL_BYTES_MAX-clause-faults c =
    faults-long c.args.least.version c.args.least.level c.args.writing.rule c.args.writing.interpretation c.args.input.now c.args.logo.share c.args.logo.side (omega arith) c.if-input-gt-SYMBOL_BYTES_MAX.true

-- the input has bytes
some : (c : Else-is_empty) → c.args.input.now ≡ [] → ⊥
some c none = eqb-false (length c.args.input.now) 0 (sym c.is_empty.ensures ∙ c.if-is_empty.false) (ap length none)

-- ---- a size that is found

found : (c : Then-above-logo) → IsLogoSize c.args.least.version c.args.least.level c.args.writing.rule c.args.writing.interpretation c.args.input.now c.args.logo.share c.args.logo.side c.loop-bits.size.version c.loop-bits.size.level
found c =
    let w = c.loop-bits.invariant in
    let new = c.first_refused-above.ensures in
    let fits : FitsVersion c.loop-bits.size.version c.loop-bits.size.level c.args.writing.rule c.args.writing.interpretation c.args.input.now =
    (w.needed c.loop-bits.size.version c.loop-bits.size.level (omega (arith, c.loop-bits.invariant.least)) c.loop-bits.invariant.most (λ m. refl)).1 (omega (arith, c.if-bits-capacity.true, c.capacity.ensures.value)) in
    let last : c.first_refused-above.result - 1 ≡ c.args.logo.side = omega (arith, new.most, c.if-above-logo.true) in
    size-found c.args.least.version c.args.least.level c.args.writing.rule c.args.writing.interpretation c.args.input.now c.args.logo.share c.loop-bits.above c.args.logo.side c.loop-bits.size.version c.loop-bits.size.level
    w.below w.few w.least w.most w.level fits (rw last at (new.allowed (omega (arith, w.few, c.if-above-logo.true))))

pub returns-then-above-logo-clause-size : goal.returns-then-above-logo-clause-size
returns-then-above-logo-clause-size c = found (goal.at.returns-then-above-logo-clause-size c).Then-above-logo

pub returns-then-above-logo-clause-faults : goal.returns-then-above-logo-clause-faults
returns-then-above-logo-clause-faults c =
    let at = goal.at.returns-then-above-logo-clause-faults c in
    faults-none c.args.least.version c.args.least.level c.args.writing.rule c.args.writing.interpretation c.args.input.now c.args.logo.share c.args.logo.side c.loop-bits.size.version c.loop-bits.size.level c.loop-bits.size
    (omega arith) (some at.Else-is_empty) c.if-input-gt-SYMBOL_BYTES_MAX.false (found at.Then-above-logo)

-- ---- what is known once a size was tried

tried : (c : After-size_after) → AreBelowThrough c.args.least.version c.args.least.level c.args.writing.rule c.args.writing.interpretation c.args.input.now c.args.logo.share c.if-bits-capacity.above c.loop-bits.size.version c.loop-bits.size.level
    × (c.if-bits-capacity.above ≤ c.args.logo.side)
    × IsReached c.args.least.version c.args.least.level c.args.writing.rule c.args.writing.interpretation c.args.input.now c.args.logo.share c.if-bits-capacity.above
tried c =
    let w = c.loop-bits.invariant in
    let size = c.loop-bits.size in
    let needed = w.needed size.version size.level (omega (arith, c.loop-bits.invariant.least)) c.loop-bits.invariant.most (λ m. refl) in
    elim c.if-bits-capacity.branch [
      | then-bits-capacity+else-above-logo h ↦
          let fits = needed.1 (omega (arith, h.if-bits-capacity.true, c.capacity.ensures.value)) in
          let new = h.first_refused-above.ensures in
          let few : h.first_refused-above.result ≤ c.args.logo.side = omega (arith, h.if-above-logo.false) in
          rw h.above-is (
            through-fit c.args.least.version c.args.least.level c.args.writing.rule c.args.writing.interpretation c.args.input.now c.args.logo.share c.loop-bits.above size.version size.level h.first_refused-above.result w.below new.least (new.refused few),
            few,
            reached-next c.args.least.version c.args.least.level c.args.writing.rule c.args.writing.interpretation c.args.input.now c.args.logo.share c.loop-bits.above size.version size.level h.first_refused-above.result
                w.reached w.least w.most w.level fits new.least new.allowed,
          )
      | else-bits-capacity h ↦ rw h.above-is (
        through-unfit c.args.least.version c.args.least.level c.args.writing.rule c.args.writing.interpretation c.args.input.now c.args.logo.share c.loop-bits.above size.version size.level w.below (λ fits. omega (arith, needed.0 fits, h.if-bits-capacity.false, c.capacity.ensures.value)),
        w.few,
        w.reached,
      )
    ]

pub returns-in_err-bits-in-Some-clause-faults : goal.returns-in_err-bits-in-Some-clause-faults
returns-in_err-bits-in-Some-clause-faults c =
    let p = err_from_is_err_and c.from_residual-in_err-bits-in-Some.result c.from_residual-in_err-bits-in-Some.ensures.1 in
    rw (p.1, p.2, c.in_err-bits-in-Some.ensures.fault)
    (faults-memory c.args.least.version c.args.least.level c.args.writing.rule c.args.writing.interpretation c.args.input.now c.args.logo.share c.args.logo.side (some (goal.at.returns-in_err-bits-in-Some-clause-faults c).Else-is_empty) c.if-input-gt-SYMBOL_BYTES_MAX.false)

-- the next size is one that is asked for
next-asked : (c : In-Some) → (c.args.least.version ≤ c.in-Some.next.version) × (c.in-Some.next.version ≤ 40) × (level_rank c.args.least.level ≤ level_rank c.in-Some.next.level)
next-asked c = let w = c.loop-bits.invariant in grind (arith, w.least, w.most, w.level, c.in-Some.ensures)

pub loop-bits-preserved-in_ok-bits-in-Some : goal.loop-bits-preserved-in_ok-bits-in-Some
loop-bits-preserved-in_ok-bits-in-Some c =
    let w = c.loop-bits.invariant in
    let known = tried (goal.at.loop-bits-preserved-in_ok-bits-in-Some c).After-size_after in
    let order = next-asked (goal.at.loop-bits-preserved-in_ok-bits-in-Some c).In-Some in
    record {
      least = order.0;
      most = order.1;
      level = order.2;
      needed = c.in_ok-bits-in-Some.ensures.bits;
      below = below-next c.args.least.version c.args.least.level c.args.writing.rule c.args.writing.interpretation c.args.input.now c.args.logo.share c.if-bits-capacity.above c.loop-bits.size.version c.in-Some.next.version c.loop-bits.size.level c.in-Some.next.level w.level known.0 c.in-Some.ensures;
      few = known.1;
      reached = known.2;
    }

pub loop-bits-preserved : goal.loop-bits-preserved
loop-bits-preserved c =
    let w = c.loop-bits.invariant in
    let known = tried (goal.at.loop-bits-preserved c).After-size_after in
    let order = next-asked (goal.at.loop-bits-preserved c).In-Some in
    record {
      least = order.0;
      most = order.1;
      level = order.2;
      needed = needed-next c.loop-bits.size.version c.in-Some.next.version c.loop-bits.bits c.args.writing.rule c.args.writing.interpretation c.args.input.now
          (c.has_other_widths.ensures c.if-has_other_widths.false) w.needed;
      below = below-next c.args.least.version c.args.least.level c.args.writing.rule c.args.writing.interpretation c.args.input.now c.args.logo.share c.if-bits-capacity.above c.loop-bits.size.version c.in-Some.next.version c.loop-bits.size.level c.in-Some.next.level w.level known.0 c.in-Some.ensures;
      few = known.1;
      reached = known.2;
    }

-- all sizes were tried
tried-all : (c : In-None) → AreAllBelow c.args.least.version c.args.least.level c.args.writing.rule c.args.writing.interpretation c.args.input.now c.args.logo.share c.if-bits-capacity.above
tried-all c =
    let last = c.in-None.ensures in
    all-below c.args.least.version c.args.least.level c.args.writing.rule c.args.writing.interpretation c.args.input.now c.args.logo.share c.if-bits-capacity.above (rw (last.0, last.1) at (tried (goal.at.In-None c).After-size_after).0)

pub returns-in-None-clause-faults : goal.returns-in-None-clause-faults
returns-in-None-clause-faults c =
    let at = goal.at.returns-in-None-clause-faults c in
    let known = tried at.After-size_after in
    let all = tried-all at.In-None in
    elim c.if-above-eq0.branch [
      | then-above-eq0 w ↦ let none : c.if-bits-capacity.above ≡ 0 = omega (arith, w.if-above-eq0.true) in rw w.result-is (faults-unfit c.args.least.version c.args.least.level c.args.writing.rule c.args.writing.interpretation c.args.input.now c.args.logo.share c.args.logo.side (omega arith) (some at.Else-is_empty)
          (rw none at all))
      | else-above-eq0 w ↦ rw w.result-is (faults-logo c.args.least.version c.args.least.level c.args.writing.rule c.args.writing.interpretation c.args.input.now c.args.logo.share c.args.logo.side c.if-bits-capacity.above (omega arith) (some at.Else-is_empty)
          c.if-input-gt-SYMBOL_BYTES_MAX.false (omega (arith, w.if-above-eq0.false)) known.1 known.2 all)
    ]
