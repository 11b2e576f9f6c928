-- What the struct of a mended square contains.
use Rattle.{qr_layout.specs.Blocks.correctable_of, qr_mending.specs.Mending.{wrong_format_least, wrong_format_modules, HasWrongModules, IsMendedReading}}
use Rattle.{qr_mending.specs.declared.{erasures.Changes.Changes, mending.Mended.Mended}, qrproved.specs.Interpretation.TellsInterpretation}
use Rattle.qrproved.specs.{Mending.{block_at, spent_in, square_of_unknown, wrong_in, AreModules, HasMoreMendedBytes, HasOtherByte, IsGivenMended, IsGreatest, IsWorstBlock, TellsWorstBlock}, Modules.square_of_bytes}
use Rattle.qrproved.specs.{Reading.TellsHeader, Settings.level_of, declared.{interpretation.QrprovedEci.QrprovedEci, mending.QrprovedMended.QrprovedMended}}
use Rattle.std.{proofs.{Common.{◌≡◌, ℕ, ◌+◌, ◌*◌, ◌<◌, ◌≤◌, max, List, ◌++◌, drop, length, take, inl, inr, ◌∙◌, arith}, lemmas.Bool.cases_lt}, specs.List.All}

-- if there is a byte for each module of the square, and each byte is 0, 1 or 2, these are modules
pub all-modules : (modules : List ℕ) (side area : ℕ) → area ≡ side * side → area ≤ length modules → All (λ b. b ≤ 2) (take area modules) → AreModules modules side
all-modules modules side area e long each = search arith

-- if the bytes are modules, none of them is another byte
pub no-other : (modules : List ℕ) (side : ℕ) → AreModules modules side → HasOtherByte modules side → ⊥
no-other modules side a o = omega arith

-- the bounds of the counts of each block, in numbers
pub few-changes : (x : List Changes) (t s : ℕ) → t ≤ 15 → s ≤ 30 → All (λ c. c.misread ≤ t) x →
    All (λ c. (c.erased + 2 * c.misread ≤ s) × (c.erased_wrong ≤ c.erased)) x →
    All (λ c. (c.misread ≤ 15) × (c.erased + 2 * c.misread ≤ 30) × (c.erased_wrong ≤ c.erased)) x
few-changes x t s most spent few all =
    λ k z l. let m = few k z l in let n = all k z l in (omega (arith, most), omega (arith, spent, n.0), n.1)

-- the greatest value of one block more
pub greatest-more : (f : Changes → ℕ) (changed : List Changes) (count n m : ℕ) → IsGreatest f changed count n →
    m ≡ max n (f (block_at changed count)) → IsGreatest f changed (count + 1) m
greatest-more f changed count n m h e = elim (cases_lt (f (block_at changed count)) (n + 1)) [
  | inl l ↦
      let same : m ≡ n = omega arith in
      record {
        block = h.block;
        within = omega (arith, h.within);
        one = same ∙ h.one;
        most = λ i r. elim (cases_lt i count) [
          | inl s ↦ omega (arith, h.most i s)
          | inr s ↦ let last : i ≡ count = omega arith in rw last (omega arith)
        ];
      }
  | inr l ↦
      let same : m ≡ f (block_at changed count) = omega arith in
      record {
        block = count;
        within = omega arith;
        one = same;
        most = λ i r. elim (cases_lt i count) [
          | inl s ↦ omega (arith, h.most i s)
          | inr s ↦ let last : i ≡ count = omega arith in rw last (omega arith)
        ];
      }
]

-- one block more, which is worse than those before it, or is not
pub worse-more : (changed : List Changes) (count i : ℕ) → IsWorstBlock changed count i →
    wrong_in (block_at changed i) < wrong_in (block_at changed count) → IsWorstBlock changed (count + 1) count
worse-more changed count i h worse = record {
  within = omega arith;
  most = λ k r. elim (cases_lt k count) [
    | inl s ↦ omega (arith, h.most k s)
    | inr s ↦ let last : k ≡ count = omega arith in rw last (omega arith)
  ];
  first = λ k s. omega (arith, h.most k s);
}

pub better-more : (changed : List Changes) (count i : ℕ) → IsWorstBlock changed count i →
    wrong_in (block_at changed count) ≤ wrong_in (block_at changed i) → IsWorstBlock changed (count + 1) i
better-more changed count i h better = record {
  within = omega (arith, h.within);
  most = λ k r. elim (cases_lt k count) [
    | inl s ↦ h.most k s
    | inr s ↦ let last : k ≡ count = omega arith in rw last better
  ];
  first = h.first;
}

-- the square is mended and read as m says
pub record IsMendedAs (modules : List ℕ) (side : ℕ) (m : Mended) : Type 0 where
  pub all : AreModules modules side
  pub read : IsMendedReading (square_of_unknown side modules) (square_of_bytes side modules) m.version m.level m.mask m.parsed m.changed.items
  pub format : m.wrong_format_modules ≡ wrong_format_modules (square_of_unknown side modules) (square_of_bytes side modules) m.level m.mask
  pub least : m.wrong_format_least ≡ wrong_format_least (square_of_unknown side modules) (square_of_bytes side modules) m.level m.mask
  pub whole : HasWrongModules (square_of_unknown side modules) (square_of_bytes side modules) m.version m.level m.mask m.changed.items m.wrong_modules

-- the struct t has the numbers of m
pub record TellsMended (m : Mended) (t : QrprovedMended) : Type 0 where
  pub wrong_modules : t.wrong_modules ≡ m.wrong_modules
  pub version : t.version ≡ m.version
  pub header : TellsHeader m.parsed.header t.has_header t.position t.last t.parity
  pub number : t.level < 4
  pub level : level_of t.level ≡ m.level
  pub mask : t.mask ≡ m.mask
  pub wrong_format_modules : t.wrong_format_modules ≡ m.wrong_format_modules
  pub wrong_format_least : t.wrong_format_least ≡ m.wrong_format_least
  pub most : IsGreatest (λ c. c.misread) m.changed.items (length m.changed.items) t.changed_most
  pub spent : IsGreatest spent_in m.changed.items (length m.changed.items) t.spent_most
  pub worst : TellsWorstBlock t m.changed.items
  pub allowed : t.changed_allowed ≡ correctable_of m.version m.level

-- if the square is mended and read, and the struct has the numbers of this, the call's promise holds
pub given-mended : (modules : List ℕ) (side : ℕ) (before put : List ℕ) (ecis_before ecis_after : List QrprovedEci) (m : Mended) (t : QrprovedMended) (len : ℕ)
    → IsMendedAs modules side m → len ≡ length m.parsed.bytes → len ≤ length before → put ≡ m.parsed.bytes → t.len ≡ len → TellsMended m t
    → TellsInterpretation m.parsed ecis_before ecis_after t.eci_count t.fnc1 t.application t.has_kanji
    → IsGivenMended modules side before (put ++ drop len before) ecis_before ecis_after t
given-mended modules side before put ecis_before ecis_after m t len is long room same elen tells told = search arith

-- if mending and reading the square yields more bytes than the buffer has, the call's condition for ROOM holds
pub more-bytes : (modules : List ℕ) (side : ℕ) (buffer : List ℕ) (m : Mended) (len : ℕ) → AreModules modules side
    → IsMendedReading (square_of_unknown side modules) (square_of_bytes side modules) m.version m.level m.mask m.parsed m.changed.items
    → len ≡ length m.parsed.bytes → length buffer < len → HasMoreMendedBytes modules side buffer
more-bytes modules side buffer m len all r long short = search arith
