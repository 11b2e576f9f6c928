use Rattle.std.proofs.Common.{ap, nat_eq, rules, ℕ}
use Rattle.qrproved.proofs.finding.qrproved_find.Goals as goal

pub returns-clause-done : goal.returns-clause-done
returns-clause-done c _ =
    let found = c.in-Ok-scan.ensures in
    record {
      picture = c.in-Ok.picture;
      same_pixels = c.in-Ok.ensures.pixels;
      same_width = c.in-Ok.ensures.width;
      same_height = c.in-Ok.ensures.height;
      same_stride = c.in-Ok.ensures.stride;
      squares = c.in-Ok-scan.squares.items;
      scanned = found.squares;
      read = λ none. found.read (ap (λ (n : ℕ). nat_eq n 1) none);
      order = found.order;
      few = search rules;
      symbol = λ s mirrored g shows some. found.symbol s mirrored g shows (search rules);
      counted = search rules;
      tells = rw c.deref-2.ensures.value at c.write_structs.ensures;
      holds = rw c.deref.ensures.value at c.write_scanned.ensures;
    }
