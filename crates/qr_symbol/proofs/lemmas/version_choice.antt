-- The least version that an input fits, found with the segments of the first version of each range of equal widths.
use Rattle.qr_bits.proofs.Facts.{capacity-least, fitting-short, least_fits}
use Rattle.qr_bits.specs.{Interpretation.interpretation_bits, Modes.count_width, Padding.capacity_of, Segmentation.{bits, IsLeastSegmentation}}
use Rattle.qr_bits.specs.declared.{interpretation.Interpretation.Interpretation, modes.{Mode.Mode, Rule.Rule}, segmentation.Segment.Segment}
use Rattle.qr_layout.{proofs.Facts.{below-at}, specs.{Blocks.{block_count_of, correction_len_of, data_codewords_of}, Version.total_codewords_of}}
use Rattle.qr_layout.specs.declared.level.Level.{Level, TheVariants.{L, M, Q, H}}
use Rattle.qr_symbol.specs.VersionChoice.{level_rank, FitsVersion, IsVersion}
use borrow.Author.Tests.{leb-true}
use Rattle.std.proofs.{Common.{◌≡◌, ℕ, ◌+◌, ◌-◌, ◌<◌, ◌≤◌, inl, inr, Bool, true, ◌&&◌, leb, List, [], ◌∷◌, length, refl, arith}, lemmas.Bool.{and_parts, cases_lt}}

-- Segments have the same number of bits in versions of the same widths.
bits-same : (u v : ℕ) → ((m : Mode) → count_width u m ≡ count_width v m) → (segs : List Segment) → bits u segs ≡ bits v segs
bits-same u v same [] = refl
bits-same u v same (s ∷ ss) = omega (arith, same s.mode, bits-same u v same ss)

-- So versions of the same widths have the same least segmentation.
pub segmentation-same : (u v : ℕ) (rule : Rule) (how : Interpretation) (xs ys : List ℕ) (segs : List Segment) → ((m : Mode) → count_width
    u m ≡ count_width v m) → IsLeastSegmentation how u rule xs ys segs → IsLeastSegmentation how v rule xs ys segs
segmentation-same u v rule how xs ys segs same h = search (arith, bits-same)

-- What says the interpretation has at most 28 bits.
pub interpretation-most : (how : Interpretation) → interpretation_bits how ≤ 28
interpretation-most how = grind arith

-- The bytes fit a version exactly if it has room for the bits of their segments in a version of the same widths, and
-- for what says the interpretation.
pub fits-bits : (u v : ℕ) (l : Level) (rule : Rule) (how : Interpretation) (xs ys : List ℕ) (segs : List Segment) → 1 ≤ v → v ≤ 40
    → ((m : Mode) → count_width v m ≡ count_width u m) → IsLeastSegmentation how u rule xs ys segs
    → (FitsVersion v l rule how xs → interpretation_bits how + bits u segs ≤ capacity_of v l)
    × (interpretation_bits how + bits u segs ≤ capacity_of v l → FitsVersion v l rule how xs)
fits-bits u v l rule how xs ys segs p q same h =
    search (arith, bits-same, least_fits, segmentation-same, capacity-least, interpretation-most)

-- Bytes that fit a version are at most 7,089.
pub version-short : (v : ℕ) (l : Level) (rule : Rule) (how : Interpretation) (xs : List ℕ) → 1 ≤ v → v ≤ 40 → FitsVersion v l rule how xs → length xs ≤ 7089
version-short v l rule how xs p q fit = fitting-short how v l rule xs p q (fit.0, fit.1, (omega arith))

-- The bytes fit no version from `least` to before `end`.
abbrev pub FitNone : ℕ → ℕ → Level → Rule → Interpretation → List ℕ → Type 0
FitNone least end l rule how xs = (v : ℕ) → least ≤ v → v < end → FitsVersion v l rule how xs → ⊥

-- In the versions from u to before `end`, the counts have the widths that they have in version u.
abbrev pub HaveSameWidths : ℕ → ℕ → Type 0
HaveSameWidths u end = (v : ℕ) → u ≤ v → v < end → (m : Mode) → count_width v m ≡ count_width u m

-- The versions from u to before `end` have too little room for so many bits.
abbrev pub LackRoom : ℕ → ℕ → Level → ℕ → Type 0
LackRoom u end l count = (v : ℕ) → u ≤ v → v < end → capacity_of v l < count

-- If the bytes fit no version below u, and their segments fit no version from u to the one before `last`, the bytes fit
-- none of these versions.
pub none-fits : (xs ys : List ℕ) (l : Level) (least : ℕ) (rule : Rule) (how : Interpretation) (u last : ℕ) (segs : List Segment)
    → 1 ≤ least → last ≤ 41 → FitNone least u l rule how xs → HaveSameWidths u last → IsLeastSegmentation how u rule xs ys segs
    → LackRoom u last l (interpretation_bits how + bits u segs) → FitNone least last l rule how xs
none-fits xs ys l least rule how u last segs p q below same h full v a b fits = elim (cases_lt v u) [
  | inl i ↦ below v a i fits
  | inr i ↦ omega (arith, full v i b, (fits-bits u v l rule how xs ys segs (omega arith) (omega arith) (same v i b) h).0 fits)
]

-- If version v also has room for the bits, it is the least version that the bytes fit.
pub version-found : (xs ys : List ℕ) (l : Level) (least : ℕ) (rule : Rule) (how : Interpretation) (u v : ℕ) (segs : List Segment)
    → 1 ≤ least → least ≤ u → u ≤ v → v ≤ 40
    → FitNone least u l rule how xs → HaveSameWidths u (v + 1) → IsLeastSegmentation how u rule xs ys segs
    → LackRoom u v l (interpretation_bits how + bits u segs)
    → interpretation_bits how + bits u segs ≤ capacity_of v l → IsVersion least l rule how xs v
version-found xs ys l least rule how u v segs p a b c below same h full room = record {
  least = omega arith;
  most = c;
  fits = search (arith, fits-bits);
  first = none-fits xs ys l _ _ how u v _ p (omega arith) below (λ w i j. same w i (omega arith)) h full;
}

-- Levels of higher ranks have fewer data codewords.

-- in version `v` each level has fewer data codewords than the level below it
falls : ℕ → Bool
falls v =
    leb (data_codewords_of v M + 1) (data_codewords_of v L) && (leb (data_codewords_of v Q + 1) (data_codewords_of v M)
    && leb (data_codewords_of v H + 1) (data_codewords_of v Q))

falls-at : (v : ℕ) → 1 ≤ v → v ≤ 40 → (data_codewords_of v M < data_codewords_of v L) × (data_codewords_of v Q < data_codewords_of v M) × (data_codewords_of v H < data_codewords_of v Q)
unfolding falls data_codewords_of total_codewords_of block_count_of correction_len_of
falls-at v a b =
    let e : v - 1 + 1 ≡ v = omega arith in
    let all : falls v ≡ true = rw e at (below-at 40 (λ i. falls (i + 1)) (search arith) (v - 1) (omega arith)) in
    let first = and_parts (leb (data_codewords_of v M + 1) (data_codewords_of v L)) _ all in
    let rest = and_parts (leb (data_codewords_of v Q + 1) (data_codewords_of v M)) _ first.1 in
    (omega (arith, leb-true _ _ first.0), omega (arith, leb-true _ _ rest.0), omega (arith, leb-true _ _ rest.1))

-- In every version a level of a higher rank has fewer data codewords.
pub fewer-data : (v : ℕ) (l k : Level) → 1 ≤ v → v ≤ 40 → level_rank l < level_rank k → data_codewords_of v k < data_codewords_of v l
fewer-data v l k a b h = grind (arith, falls-at v a b)
