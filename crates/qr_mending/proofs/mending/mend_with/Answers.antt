use Rattle.{qr_layout.specs.Version.total_codewords_of, qr_mending.proofs.lemmas.{mending.holds-none, message.MarkLemmas.{by-marks, of-marks}}}
use Rattle.{qr_mending.specs.Steps.Message.list_of, qr_symbol.specs.declared.fault.ReadFault.ReadFault, std.proofs.Common.{Err, ap, arith}}
use Rattle.qr_mending.proofs.mending.mend_with.Goals as goal

pub returns-in-Ok-clause-mended : goal.returns-in-Ok-clause-mended
returns-in-Ok-clause-mended c =
    let m = c.in-Ok.mended in
    let many = rw (← c.deref.ensures.value) at c.in_ok-codewords.ensures.many in (
      c.in-Some.is,
      record {
        held = record {
          codewords = c.deref.result.now;
          held = rw c.deref.ensures.value c.in_ok-codewords.ensures.read;
          mended = of-marks c.args.scan.now.version c.in-Some.level c.args.scan.now.unknown.now c.deref.result.now (list_of (total_codewords_of c.args.scan.now.version) c.args.marks.now)
              m.message.items m.changed.items
              (omega arith) (omega arith) many c.requires.erased c.in-Ok.ensures.mended;
        };
        corrections = c.in-Ok.ensures.corrections;
      },
    )

pub returns-in-Err-Check-clause-mended : goal.returns-in-Err-Check-clause-mended
returns-in-Err-Check-clause-mended c =
    let u = c.args.scan.now.unknown.now in
    let v = c.args.scan.now.version in
    let value = c.deref.ensures.value in
    let none = holds-none u c.args.scan.now.matrix.now v c.in-Some.level c.in-Some.mask c.deref.result.now
    (rw value c.in_ok-codewords.ensures.read) (λ message misread h.
    c.in-Err-Check.ensures.refused (ap (λ (f : ReadFault). Err f) c.in-Err-Check.field-0-is) message misread
    (by-marks v c.in-Some.level u c.deref.result.now (list_of (total_codewords_of c.args.scan.now.version) c.args.marks.now) message misread (omega arith) (omega arith)
    (rw (← value) at c.in_ok-codewords.ensures.many) c.requires.erased h)) in
    rw c.in-Some.is none
