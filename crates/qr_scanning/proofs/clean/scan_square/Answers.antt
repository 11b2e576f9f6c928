use Rattle.std.proofs.Common.{rules, arith, ap, ◌≡◌, Bool, length, inr, refl, subst, sym}
use Rattle.qr_pictures.specs.{Clean.{IsCleanPicture}, Pixels.{Pixels}}
use Rattle.qr_scanning.proofs.lemmas.clean.{drawn-modules, one-of-two, placed-modules, written-over}
use Rattle.qr_scanning.proofs.clean.scan_square.Goals as goal

pub corners_of-corners-requires-clause-across : goal.corners_of-corners-requires-clause-across
corners_of-corners-requires-clause-across c =
    omega (arith, c.requires.clean.1.drawing.frame.across, ap (λ (p : Pixels). p.width) c.requires.same)

pub corners_of-corners-requires-clause-down : goal.corners_of-corners-requires-clause-down
corners_of-corners-requires-clause-down c =
    omega (arith, c.requires.clean.1.drawing.frame.down, ap (λ (p : Pixels). p.height) c.requires.same)

pub returns-in_default-clause-symbol : goal.returns-in_default-clause-symbol
returns-in_default-clause-symbol c = λ mirrored g shows.
    let n = c.args.square.now.frame.side in
    let bytes = c.write_modules.new.modules in
    let long : length bytes ≡ c.in_ok-drawn.drawn.len = search rules in
    let over = written-over c.in_ok-drawn.drawn.len bytes c.in_ok-drawn.drawn.items long in
    let straight = rw over at (rw c.in_default.is at c.in_ok-is_mirrored.ensures.straight) in
    let exchanged = rw over at (rw c.in_default.is at c.in_ok-is_mirrored.ensures.exchanged) in
    let same = c.write_modules.ensures.square g (subst (λ (p : Pixels). IsCleanPicture p c.args.square.now g) (sym c.requires.same) shows.clean) in
    let drawn = drawn-modules n g bytes same c.write_modules.ensures.bits in
    one-of-two (λ _. ⊥) mirrored n g bytes shows.clean.square drawn straight exchanged shows.read shows.last

pub returns : goal.returns
returns c =
    let clean = c.requires.clean.1 in
    let n = c.args.square.now.frame.side in
    let bytes = c.write_modules.new.modules in
    let long : length bytes ≡ c.in_ok-drawn.drawn.len = search rules in
    let over = written-over c.in_ok-drawn.drawn.len bytes c.in_ok-drawn.drawn.items long in
    let placed = rw over at (rw c.in-Some.is at c.in_ok-is_mirrored.ensures.placed) in
    let straight = rw over at (rw c.in-Some.is at c.in_ok-is_mirrored.ensures.straight) in
    let exchanged = rw over at (rw c.in-Some.is at c.in_ok-is_mirrored.ensures.exchanged) in
    record {
      square = (
        record {
          shown = inr (record {
            square = c.args.square.now;
            grid = c.requires.clean.0;
            clean = rw c.requires.same at clean;
            side = refl;
            drawn = bytes;
            same = c.write_modules.ensures.square c.requires.clean.0 clean;
            placed = placed;
            corners = c.corners_of-corners.ensures;
            inverse = refl;
          });
          read = λ _. search rules;
          least = clean.drawing.frame.least;
          most = clean.drawing.frame.most;
          whole = search rules;
        },
        refl,
      );
      symbol = λ mirrored g shows.
          let same = c.write_modules.ensures.square g (subst (λ (p : Pixels). IsCleanPicture p c.args.square.now g) (sym c.requires.same) shows.clean) in
          let drawn = drawn-modules n g bytes same c.write_modules.ensures.bits in
          let is = one-of-two (λ (b : Bool). c.in-Some.is_mirrored ≡ b) mirrored n g bytes shows.clean.square drawn straight exchanged shows.read shows.last in
          record {
            side = refl;
            modules = placed-modules mirrored c.in-Some.is_mirrored n g bytes c.in-Some.modules.items is shows.clean.square drawn placed;
            corners = c.corners_of-corners.ensures;
            inverse = refl;
            is_mirrored = is;
            read = refl;
          };
    }
