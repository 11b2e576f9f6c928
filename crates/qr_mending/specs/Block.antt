-- Blocks, and how a damaged one is mended. `n` is the number of error correction codewords.
use Rattle.std.specs.Prelude.{◌≡◌, ℕ, ◌≤◌, List, ◌++◌, length}
use Rattle.qr_field.specs.Polynomial.{IsCorrection}
use Rattle.qr_field.specs.Distance.{differences}

-- `codewords` is a block: data codewords, followed by the `n` error correction codewords that belong to them (ISO/IEC
-- 18004:2015, 7.5.1)
pub record IsBlock (n : ℕ) (codewords : List ℕ) : Type 0 where
  pub message : List ℕ
  pub correction : List ℕ
  pub whole : codewords ≡ message ++ correction
  pub corrects : IsCorrection message n correction

-- `mended` is a block with `n` error correction codewords to which `damaged`, a block as it was read, can be corrected.
-- Both are equally long, and differ in at most `t` codewords. No codeword of `damaged` is erased (ISO/IEC 18004:2015,
-- 7.5.1)
pub record IsMended (n t : ℕ) (damaged mended : List ℕ) : Type 0 where
  pub block : IsBlock n mended
  pub long : length mended ≡ length damaged
  pub few : differences damaged mended ≤ t
