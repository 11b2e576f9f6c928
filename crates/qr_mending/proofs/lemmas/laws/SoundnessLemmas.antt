-- The number of wrong modules of a square, which is 0 exactly if the square is the symbol.
use Rattle.{qr_layout.specs.{Blocks.blocks_of, Version.side_of, declared.level.Level.Level}, qr_matrix.proofs.Facts.{colour-square, no-difference, square-same}}
use Rattle.{qr_matrix.specs.{Difference.difference_count, Grid.{Grid, IsSquare, light}, Sums.places_passing}, qr_mending.proofs.lemmas.format.sum-same}
use Rattle.qr_mending.specs.declared.erasures.Changes.{Changes}
use Rattle.qr_mending.{proofs.lemmas.{mending.form-one, message.LightLemmas.colour-light}, specs.Mending.{wrong_modules, DiffersFromSymbol, HasWrongModules}}
use Rattle.{qr_symbol.{proofs.Facts.final-one, specs.Symbol.grid_of}, std.{proofs.Common.{◌≡◌, ℕ, List, arith}, specs.Prelude.◌↔◌}}

-- a square differs from the symbol of its message in one number of modules
pub differs-one : (unknown : Grid) (g : Grid) (v w : ℕ) (l k : Level) (m n : ℕ) (p q : List ℕ) (a b : ℕ) → v ≡ w → l ≡ k → m ≡ n → p ≡ q →
    DiffersFromSymbol unknown g v l m p a → DiffersFromSymbol unknown g w k n q b → a ≡ b
differs-one unknown g v w l k m n p q a b ev el em ep h j =
    cc (final-one (blocks_of v l) p h.codewords j.codewords h.interleaved (rw (ev, el, ep) j.interleaved))

-- a square has at most one number of wrong modules
pub wrong-one : (unknown : Grid) (g : Grid) (v w : ℕ) (l k : Level) (m n : ℕ) (x y : List Changes) (a b : ℕ) →
    HasWrongModules unknown g v l m x a → HasWrongModules unknown g w k n y b → a ≡ b
wrong-one unknown g v w l k m n x y a b h j =
    let o = form-one unknown g v w l k m n h.message j.message x y h.form j.form in
    search (arith, differs-one)

-- a square with the side of a symbol is this symbol exactly if no module differs
same-square : (g : Grid) (v : ℕ) (l : Level) (mask : ℕ) (cw : List ℕ) → IsSquare g.side g →
    g.side ≡ side_of v → (difference_count g (grid_of v l mask cw) ≡ 0) ↔ (g ≡ grid_of v l mask cw)
same-square g v l mask cw whole side = search (arith, no-difference, square-same, colour-square)

-- with all modules read, the wrong modules are those that differ
wrong-light : (g h : Grid) → wrong_modules (light g.side) g h ≡ difference_count g h
unfolding wrong_modules difference_count places_passing
wrong-light g h = search (arith, sum-same, colour-light)

-- no module is wrong exactly if the square is the symbol
pub sound-is : (g : Grid) (v : ℕ) (l : Level) (mask : ℕ) (changed : List Changes) (wrong : ℕ) →
    IsSquare g.side g → (w : HasWrongModules (light g.side) g v l mask changed wrong) →
    (wrong ≡ 0) ↔ (g ≡ grid_of v l mask w.differs.codewords)
sound-is g v l mask changed wrong whole w = search (arith, same-square, wrong-light)
