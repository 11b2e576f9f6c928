use Rattle.std.proofs.Common.{◌≡◌, false, rules}
use Rattle.qr_scanning.proofs.lemmas.scanning.{all-read-first, first-is, one-more, others-are, unread-after}
use Rattle.qr_scanning.specs.Scanning.{IsScanned}
use Rattle.qr_scanning.specs.declared.scanning.Scanned.{Scanned}
use Rattle.qr_scanning.proofs.scanning.joined.Goals as goal

pub loop-square-preserved-then-not-is_among : goal.loop-square-preserved-then-not-is_among
loop-square-preserved-then-not-is_among c =
    let here = c.loop-square.invariant in
    let P = IsScanned c.args.picture.now in
    let next = c.in-Some.ensures.steps in
    let Q = λ (s : Scanned). s.is_read ≡ false in
    record {
      there = one-more P c.in-Some.square c.loop-square.all.items c.push.new.self.items (search rules) here.there
          (first-is P c.in-Some.square c.next.new.self.rest.items c.loop-square.square-iterator.rest.items (search rules) here.follow);
      follow = others-are P c.in-Some.square c.next.new.self.rest.items c.loop-square.square-iterator.rest.items (search rules) here.follow;
      few = search rules;
      order = unread-after c.in-Some.square c.loop-square.all.items c.push.new.self.items (search rules) here.order
          (first-is Q c.in-Some.square c.next.new.self.rest.items c.loop-square.square-iterator.rest.items (search rules) here.unread);
      unread = others-are Q c.in-Some.square c.next.new.self.rest.items c.loop-square.square-iterator.rest.items (search rules) here.unread;
    }

pub loop-square-preserved : goal.loop-square-preserved
loop-square-preserved c =
    let here = c.loop-square.invariant in
    record {
      there = here.there;
      follow = others-are (IsScanned c.args.picture.now) c.in-Some.square c.next.new.self.rest.items c.loop-square.square-iterator.rest.items (search rules) here.follow;
      few = here.few;
      order = here.order;
      unread = others-are (λ (s : Scanned). s.is_read ≡ false) c.in-Some.square c.next.new.self.rest.items c.loop-square.square-iterator.rest.items (search rules) here.unread;
    }
