use Rattle.std.proofs.Common.{arith, ap, ◌≡◌, length, false, true, List}
use Rattle.qr_scanning.specs.Scanning.{IsScanned}
use Rattle.qr_scanning.specs.declared.scanning.Scanned.{Scanned}
use Rattle.qr_scanning.proofs.lemmas.scanning.{all-read-first, one-more}
use Rattle.qr_scanning.proofs.scanning.search.Goals.{then-was_read+in_ok-push, else-was_read+then-with_unread+then-square+then-len-most-2+then-not-is_among+in_ok-push-2, else-was_read+else-with_unread}
use Rattle.qr_scanning.proofs.scanning.search.Goals as goal

pub offers-preserved : goal.offers-preserved
offers-preserved c =
    let here = c.offers.invariant in
    let P = IsScanned c.args.picture.now in
    let s = c.in-Some.square in
    let is : P s = rw c.in-Some.is at c.in_ok-square.ensures in
    elim c.if-was_read.branch [
      | then-was_read+in_ok-push w ↦
          let more = w.in_ok-push.ensures.items in
          rw (w.read-is, w.unread-is) (record {
            there = one-more P s c.offers.read.items w.push.new.self.items more here.there is;
            are_read = one-more (λ (z : Scanned). z.is_read ≡ true) s c.offers.read.items w.push.new.self.items more here.are_read w.if-was_read.true;
            few = omega (arith, ap (λ (xs : List Scanned). length xs) more, c.len.ensures, c.if-len-most.false);
            others = here.others;
            are_unread = here.are_unread;
          })
      | else-was_read+then-with_unread+then-square+then-len-most-2+then-not-is_among+in_ok-push-2 w ↦
          let more = w.in_ok-push-2.ensures.items in
          rw (w.read-is, w.unread-is) (record {
            there = here.there;
            are_read = here.are_read;
            few = here.few;
            others = one-more P s c.offers.unread.items w.push-then-not-is_among.new.self.items more here.others is;
            are_unread = one-more (λ (z : Scanned). z.is_read ≡ false) s c.offers.unread.items w.push-then-not-is_among.new.self.items more here.are_unread w.if-was_read.false;
          })
      | else-was_read+else-with_unread w ↦ rw (w.read-is, w.unread-is) (record {
        there = here.there;
        are_read = here.are_read;
        few = here.few;
        others = here.others;
        are_unread = here.are_unread;
      })
    ]

pub returns-then-not-with_unread-clause-order : goal.returns-then-not-with_unread-clause-order
returns-then-not-with_unread-clause-order c = all-read-first c.offers.read.items c.offers.invariant.are_read
