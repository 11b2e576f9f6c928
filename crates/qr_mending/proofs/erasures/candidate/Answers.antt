use Rattle.{qr_field.specs.Polynomial.IsByte, qr_mending.proofs.lemmas.{block.all-leading, erasures.candidate-mended, roots.rooted-leading}}
use Rattle.{qr_mending.specs.Steps.Polynomial.all_of, std.proofs.{Common.{rules, arith}, lemmas.List.Elements.All-from_get_or}}
use Rattle.qr_mending.proofs.erasures.candidate.Goals as goal

pub without_errors-requires-clause-leading : goal.without_errors-requires-clause-leading
without_errors-requires-clause-leading c =
    let p = c.locator-error_locator.result in
    let leading = all-leading p c.locator-error_locator.ensures.monic c.coefficients.ensures.terms in
    rw (c.as_slice-4.ensures.value, c.with_roots-both.ensures.product, c.coefficients.ensures.value)
    (rooted-leading c.args.erased.now (all_of p) leading)

pub returns-clause-mended : goal.returns-clause-mended
returns-clause-mended c =
    let damaged = c.args.damaged.now in
    let first = c.syndromes-first.result.items in
    let value = c.coefficients.ensures.value in
    λ n mended count.
    candidate-mended n c.args.spare _ damaged first c.without_errors.result.items c.args.erased.now c.requires.fits c.requires.marks
    (All-from_get_or IsByte damaged 0 (λ i l. omega (arith, c.type_inv.damaged i)))
    (omega arith)
    (omega arith)
    (record {
      values = search rules;
      modified = c.modified_syndromes-modified.result.items;
      left = rw (c.as_slice.ensures.value, c.with_roots-erasure_locator.ensures.product, c.as_slice-2.ensures.value) at
          c.modified_syndromes-modified.ensures.values;
      locator = all_of c.locator-error_locator.result;
      bytes = rw value at c.with_roots-both.ensures.bytes;
      located = rw c.as_slice-3.ensures.value at c.locator-error_locator.ensures.located;
      sum = rw (c.as_slice-4.ensures.value, c.with_roots-both.ensures.product, value, c.as_slice-5.ensures.value) at
          c.without_errors.ensures.sum;
    })
    mended
