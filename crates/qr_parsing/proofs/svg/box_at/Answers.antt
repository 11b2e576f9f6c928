use Rattle.std.proofs.Common.{rules, ◌≡◌, ◌<◌, ◌+◌, ◌∙◌, ℕ, List, decimal, drop, length, get_or, refl, sym, ap, subst, arith, length-drop}
use Rattle.std.proofs.lemmas.List.{get_or-drop}
use Rattle.qr_parsing.{specs.Steps.Svg.IsPath, proofs.lemmas.svg.NumberLemmas.{digits-one, digits-two, digits-three}}
use Rattle.qr_parsing.proofs.lemmas.svg.PathLemmas.{FirstBox, after-box, after-m, after_column, after_modules, after_row, column-long, first-box, modules-long, no-box, row-long}
use Rattle.qr_parsing.proofs.svg.box_at.Goals as goal

-- at an `M` a path begins with a box
found : (text numbers : List ℕ) (at : ℕ) → IsPath numbers (drop at text) → at < length text → get_or text at 0 ≡ 77 → FirstBox numbers (drop at text)
found text numbers at path lt m =
    let e : at + 0 ≡ at = omega arith in
    first-box numbers (drop at text) path (omega (arith, length-drop at text)) (simp (get_or-drop, e) m)

pub returns-then-at-text-clause-reads : goal.returns-then-at-text-clause-reads
returns-then-at-text-clause-reads c numbers path = search (rules, no-box, length-drop, get_or-drop)

pub returns-in_err-x-clause-reads : goal.returns-in_err-x-clause-reads
returns-in_err-x-clause-reads c numbers path =
    let text = c.args.text.now in
    let b = found text numbers c.args.at path (omega arith) c.if-text-at-ne77.false in search (rules, after_column, column-long, after-m)

pub returns-in_err-y-clause-reads : goal.returns-in_err-y-clause-reads
unfolding after_column after_row after_modules
returns-in_err-y-clause-reads c numbers path =
    let text = c.args.text.now in
    let b = found text numbers c.args.at path (omega arith) c.if-text-at-ne77.false in
    search (rules, after_column, column-long, after-m, after_row, row-long)

pub returns-in_err-modules-clause-reads : goal.returns-in_err-modules-clause-reads
unfolding after_column after_row after_modules
returns-in_err-modules-clause-reads c numbers path =
    let text = c.args.text.now in
    let b = found text numbers c.args.at path (omega arith) c.if-text-at-ne77.false in
    let x : (c.in_ok-x.x ≡ b.x) × (drop c.in_ok-x.after_x text ≡ after_column b.y b.modules b.rest) =
    c.in_ok-x.ensures.reads b.x 32 (after_column b.y b.modules b.rest) (omega arith) refl (omega (arith, column-long b.y b.modules b.rest b.modules_in)) (after-m text _ c.args.at b.bytes_are) in
    search (rules, after_row, row-long, after_modules, modules-long)

pub returns-then-after_modules-back-clause-reads : goal.returns-then-after_modules-back-clause-reads
unfolding after_column after_row after_modules
returns-then-after_modules-back-clause-reads c numbers path =
    let text = c.args.text.now in
    let b = found text numbers c.args.at path (omega arith) c.if-text-at-ne77.false in
    let x : (c.in_ok-x.x ≡ b.x) × (drop c.in_ok-x.after_x text ≡ after_column b.y b.modules b.rest) =
    c.in_ok-x.ensures.reads b.x 32 (after_column b.y b.modules b.rest) (omega arith) refl (omega (arith, column-long b.y b.modules b.rest b.modules_in)) (after-m text _ c.args.at b.bytes_are) in
    let y : (c.in_ok-y.y ≡ b.y) × (drop c.in_ok-y.after_y text ≡ after_row b.modules b.rest) =
    c.in_ok-y.ensures.reads b.y 104 (after_row b.modules b.rest) b.y_in refl (omega (arith, row-long b.modules b.rest b.modules_in)) x.1 in
    let n : (c.in_ok-modules.modules ≡ b.modules) × (drop c.in_ok-modules.after_modules text ≡ after_modules b.modules b.rest) =
    c.in_ok-modules.ensures.reads b.modules 118 (after_modules b.modules b.rest) (omega (arith, b.modules_in)) refl (omega (arith, modules-long b.modules b.rest)) y.1 in
    let e = n.0 in
    let many : c.if-modules-lt10.back ≡ 4 + length (decimal b.modules) = search (rules, digits-one, digits-two, digits-three) in
    absurd (omega (arith, ap length n.1, length-drop c.in_ok-modules.after_modules text, modules-long b.modules b.rest))

pub returns-clause-reads : goal.returns-clause-reads
unfolding after_column after_row after_modules
returns-clause-reads c numbers path =
    let text = c.args.text.now in
    let b = found text numbers c.args.at path (omega arith) c.if-text-at-ne77.false in
    let x : (c.in_ok-x.x ≡ b.x) × (drop c.in_ok-x.after_x text ≡ after_column b.y b.modules b.rest) =
    c.in_ok-x.ensures.reads b.x 32 (after_column b.y b.modules b.rest) (omega arith) refl (omega (arith, column-long b.y b.modules b.rest b.modules_in)) (after-m text _ c.args.at b.bytes_are) in
    let y : (c.in_ok-y.y ≡ b.y) × (drop c.in_ok-y.after_y text ≡ after_row b.modules b.rest) =
    c.in_ok-y.ensures.reads b.y 104 (after_row b.modules b.rest) b.y_in refl (omega (arith, row-long b.modules b.rest b.modules_in)) x.1 in
    let n : (c.in_ok-modules.modules ≡ b.modules) × (drop c.in_ok-modules.after_modules text ≡ after_modules b.modules b.rest) =
    c.in_ok-modules.ensures.reads b.modules 118 (after_modules b.modules b.rest) (omega (arith, b.modules_in)) refl (omega (arith, modules-long b.modules b.rest)) y.1 in
    let e = n.0 in
    let many : c.if-modules-lt10.back ≡ 4 + length (decimal b.modules) = search (rules, digits-one, digits-two, digits-three) in
    let after = after-box text b.rest c.in_ok-modules.after_modules b.modules c.if-modules-lt10.back n.1 many in (
      b.high,
      b.back,
      b.more,
      b.numbers_are ∙ (search rules),
      subst (IsPath b.more) (sym after) b.path,
    )
