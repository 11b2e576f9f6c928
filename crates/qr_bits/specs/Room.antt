-- How many characters of one mode fit a symbol, in one segment.
use Rattle.std.specs.Prelude.{ℕ, ◌+◌, ◌≤◌, Bool, if◌then◌else◌}
use Rattle.qr_layout.specs.declared.level.Level.{Level}
use Rattle.qr_layout.specs.Blocks.{capacity_of}
use Rattle.qr_bits.specs.declared.interpretation.Interpretation.{Interpretation}
use Rattle.qr_bits.specs.declared.modes.Mode.{Mode}
use Rattle.qr_bits.specs.Interpretation.{interpretation_bits}
use Rattle.qr_bits.specs.Modes.{byte_count}
use Rattle.qr_bits.specs.Segmentation.{segment_bits}

-- The number of bits that one segment of `n` characters takes in version `v`, together with what comes before it: the
-- structured append header, if `headed` is true, and the ECI header or FNC1 of the interpretation (ISO/IEC 18004:2015,
-- 7.4.1, 7.4.2, 7.4.8.2, 8.1)
abbrev pub one_segment_bits : ℕ → Mode → Interpretation → Bool → ℕ → ℕ
one_segment_bits v m i headed n = (if headed then 20 else 0) + interpretation_bits i + segment_bits v (record { mode = m; len = byte_count m n })

-- `n` is the greatest number of characters that one segment of the mode `m` can have in version `v` at level `l`. Before
-- the segment come the ECI header or FNC1 of the interpretation and, if `headed` is true, a structured append header
-- (ISO/IEC 18004:2015, 7.4.10, Table 7)
pub record IsMostCharacters (v : ℕ) (l : Level) (m : Mode) (i : Interpretation) (headed : Bool) (n : ℕ) : Type 0 where
  pub fits : one_segment_bits v m i headed n ≤ capacity_of v l
  pub most : (k : ℕ) → one_segment_bits v m i headed k ≤ capacity_of v l → k ≤ n
