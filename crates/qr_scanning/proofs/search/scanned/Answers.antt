use Rattle.std.proofs.Common.{rules, arith, ap, sym, ◌≡◌, ◌∙◌, ◌*◌, ◌≤◌, ℕ, inl, refl}
use Rattle.std.proofs.Math.Nat.{min-eq_left}
use Rattle.std.specs.Prelude.{min, take}
use Rattle.qr_finding.specs.Offers.{corners_of}
use Rattle.qr_sampling.specs.{Brightness.shown, Sampling.sampled}
use Rattle.qr_matrix.specs.Bytes.{square_of_bytes, square_of_unknown}
use Rattle.qr_scanning.proofs.lemmas.{reading.readable-by-less, search.{cut-whole, table-cut}}
use Rattle.qr_scanning.specs.Reading.{share_of}
use Rattle.qr_scanning.proofs.search.scanned.Goals as goal

pub returns : goal.returns
returns c =
    let how = c.args.found.now.how in
    let few : how.side ≤ 177 = omega arith in
    let least : min how.side 177 ≡ c.args.side = min-eq_left few ∙ sym c.requires.side in
    let cut : c.in_ok-own.own.items ≡ take (c.args.side * c.args.side) c.args.modules.now = search rules in
    record {
      shown = inl (record {
        how = how;
        side = c.requires.side;
        modules = table-cut c.args.side how.side (sampled (shown c.args.picture.now) how) c.args.modules.now c.in_ok-own.own.items c.requires.side cut c.requires.offer.modules_are;
        corners = c.requires.offer.corners_are ∙ ap (λ (k : ℕ). corners_of how.map (8 * k)) least;
        inverse = refl;
        mirrored = refl;
        sure = λ is. search rules;
      });
      read = λ is. readable-by-less (share_of c.args.side c.in_ok-own.own.items) (square_of_unknown c.args.side c.in_ok-own.own.items)
          (square_of_bytes c.args.side c.in_ok-own.own.items) (search rules) (search rules);
      least = c.requires.least;
      most = c.requires.most;
      whole = cut-whole c.args.side how.side (sampled (shown c.args.picture.now) how) c.args.modules.now c.in_ok-own.own.items c.requires.side cut c.requires.offer.modules_are;
    }
