use Rattle.std.proofs.Common.{rules, ◌∙◌, length, sym, ap, arith}
use Rattle.qr_mending.{specs.Erasures.{read_of, IsMendedWithErasures}, proofs.lemmas.block.erasures-one}
use Rattle.qr_mending.proofs.lemmas.erasures.{read-none, length-read, erasures-marked, errors-self, unerased-mended, unerased-only, unerased-refused}
use Rattle.qr_mending.proofs.erasures.mend_with_erasures.Goals as goal

pub returns-then-erasures-eq0-clause-mended : goal.returns-then-erasures-eq0-clause-mended
returns-then-erasures-eq0-clause-mended c = search (rules, read-none, unerased-mended)

pub returns-then-erasures-eq0-clause-only : goal.returns-then-erasures-eq0-clause-only
returns-then-erasures-eq0-clause-only c = search (rules, read-none, unerased-only)

pub returns-then-erasures-eq0-clause-refused : goal.returns-then-erasures-eq0-clause-refused
returns-then-erasures-eq0-clause-refused c = search (rules, read-none, unerased-refused)

pub returns-in_default-clause-only : goal.returns-in_default-clause-only
returns-in_default-clause-only c = λ mended h.
    let codewords = c.args.codewords.now in
    let read = read_of codewords c.args.erased.now in
    let self : IsMendedWithErasures c.args.divisor.now c.args.spare read codewords = search
    (arith, erasures-marked, errors-self, length-read) in
    search (rules, erasures-one, length-read)

pub returns-clause-only : goal.returns-clause-only
returns-clause-only c = λ mended h.
    let found = c.candidate-mended.ensures.mended c.args.divisor.now mended
    (omega (arith, ap length c.as_slice.ensures.value, c.in-Some.ensures.count)) h in
    search rules

pub returns-then-erasures-misread-clause-refused : goal.returns-then-erasures-misread-clause-refused
returns-then-erasures-misread-clause-refused c = λ mended h.
    let read = read_of c.args.codewords.now c.args.erased.now in
    let marked = erasures-marked c.args.codewords.now c.args.erased.now c.requires.marks in
    let found = c.candidate-mended.ensures.mended c.args.divisor.now mended (omega (arith, ap length c.as_slice.ensures.value, c.in-Some.ensures.count)) h in
    search rules

pub returns-clause-mended : goal.returns-clause-mended
returns-clause-mended c =
    let codewords = c.args.codewords.now in
    let after = c.copy_from_slice.ensures.after ∙ c.as_slice-3.ensures.value in
    let misread = rw (c.as_slice-2.ensures.value, ← after) at c.count_wrong-misread.ensures.misread in
    let wrong = rw (c.as_slice-2.ensures.value, ← after) at c.count_wrong-misread.ensures.erased in
    let marked = c.count_erased-erasures.ensures ∙ sym (erasures-marked codewords c.args.erased.now c.requires.marks) in (
      record {
        block = search rules;
        long = search (rules, length-read);
        few = search (rules, erasures-marked);
      },
      cc (misread, wrong, marked),
    )
