-- The version information, drawn bit by bit at its two places.
use Rattle.qr_layout.{proofs.Facts.version-first, specs.{Format.version_word_of, Region.is_version_information, Version.side_of}}
use Rattle.{qr_matrix.specs.BitRow.has_bit, qr_symbol.specs.Steps.Patterns.{fixed_colour, paint_of}}
use Rattle.std.proofs.{Common.{◌≡◌, ℕ, ◌+◌, ◌-◌, ◌*◌, ◌/◌, ◌%◌, ◌<◌, ◌≤◌, Bool, ltb, leb, ◌&&◌, ◌||◌, arith}, lemmas.Bool.Decides.nat_tests}

-- the places of the first n bits beside the top right finder pattern
abbrev part : ℕ → ℕ → ℕ → ℕ → Bool
part s n r c = leb (s - 11) c && ltb c (s - 8) && ltb (3 * r + (c + 11 - s)) n

-- the places of the first n bits, at both of their places
abbrev pub version_drawn : ℕ → ℕ → ℕ → ℕ → Bool
version_drawn s n r c = part s n r c || part s n c r

-- all eighteen bits fill both copies of the version information
pub version-all : (v r c : ℕ) → 7 ≤ v → version_drawn (side_of v) 18 r c ≡ is_version_information v r c
version-all v r c h = search (arith, nat_tests)

-- the colour of bit i at its two places
pub version-here : (v format i : ℕ) → 7 ≤ v → v ≤ 40 → i < 18 → has_bit (version_word_of v) i ≡ paint_of v format (i / 3) (side_of v - 11 + i % 3)
unfolding fixed_colour
version-here v format i h k l = search (arith, version-first)
