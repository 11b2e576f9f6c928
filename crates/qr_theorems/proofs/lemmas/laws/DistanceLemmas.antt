-- Two symbols of a version that contain different messages lie far apart.
use Rattle.{qr_layout.{proofs.Facts.format-second, specs.{Format.format_word_of, declared.level.Level.Level}}, qr_matrix.proofs.Facts.colour-square}
use Rattle.{qr_matrix.specs.BitRow.has_bit, qr_mending.proofs.Facts.{bits-alike, word-one}}
use Rattle.qr_theorems.{proofs.lemmas.laws.MessageLemmas.messages-apart, specs.Distance.{HeldMessage, SomeBlockLiesApart, SymbolsLieApart}}
use Rattle.qr_mending.specs.{Format.copy_bit, declared.format.FormatCopy.{FormatCopy, TheVariants.{First, Second}}}
use Rattle.qr_symbol.{proofs.Facts.format-read, specs.Symbol.{colour_of, grid_of}}
use Rattle.std.proofs.{Common.{◌≡◌, ℕ, ◌<◌, ◌≤◌, List, subst, inl, inr, arith}, lemmas.Bool.Decides.nat_tests}

-- the bits of each copy in a symbol are those of the word of its level and mask
pub shown : (copy : FormatCopy) (v : ℕ) (l : Level) (mask : ℕ) (cw : List ℕ) (i : ℕ) → 1 ≤ v →
    v ≤ 40 → mask < 8 → i < 15 → copy_bit copy (grid_of v l mask cw) i ≡ has_bit (format_word_of l mask) i
unfolding colour_of
shown First v l mask cw i p q h r = (format-read v l mask cw p q h).bits i r
shown Second v l mask cw i p q h r = search (arith, colour-square, format-second, nat_tests)

-- different messages of one level differ in some block in more than twice as many codewords as can be mended
blocks-apart : (v : ℕ) (l k : Level) (m : HeldMessage v l) (n : HeldMessage v k) → 1 ≤ v → v ≤ 40 →
    l ≡ k → (m.message ≡ n.message → ⊥) → SomeBlockLiesApart v l k m n
blocks-apart v l k m n p q s o =
    subst (λ (z : Level). (n : HeldMessage v z) → (m.message ≡ n.message → ⊥) → SomeBlockLiesApart v l z m n) s
    (λ n o. let w = messages-apart v l p q m n o in (w.0, w.1, omega arith)) n o

-- the law of the distance of whole symbols
pub symbols-apart : (v : ℕ) → 1 ≤ v → v ≤ 40 → SymbolsLieApart v
symbols-apart v p q l k m n cw ds h j x y o = elim (word-one l k m.mask n.mask h j) [
  | inl e ↦ search (arith, blocks-apart)
  | inr far ↦ grind (arith, bits-alike, shown)
]
