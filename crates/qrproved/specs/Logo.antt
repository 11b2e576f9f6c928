-- What `qrproved_encode_logo` writes for the input `x`, and when it writes nothing. The logo has `logo` by `logo` modules, and
-- `share` is the most that it may use up of the codewords that can be corrected in a block, in percent.
use Rattle.std.specs.Prelude.{◌≡◌, ℕ, ◌*◌, ◌<◌, ◌≤◌, List, [], ◌∷◌, length}
use Rattle.qr_layout.specs.declared.level.Level.{Level}
use Rattle.qr_layout.specs.Version.{side_of}
use Rattle.qr_matrix.specs.Grid.{Grid}
use Rattle.qr_symbol.specs.Reading.{IsReadBack}
use Rattle.qr_logos.specs.Encoding.{IsLargestCarried, IsLogoSize, IsLogoSymbol}
use Rattle.qrproved.specs.declared.encoding.QrprovedSymbol.{QrprovedSymbol}
use Rattle.qrproved.specs.Settings.{AreSettings, interpretation_of, level_of, rule_of}
use Rattle.qrproved.specs.Modules.{HoldsSquares}

-- The numbers are allowed. No symbol has more than 177 modules on a side [own]
abbrev pub AreLogoSettings : (version level rule interpretation logo share : ℕ) → Type 0
AreLogoSettings version level rule interpretation logo share = AreSettings version level rule interpretation × (logo ≤ 177) × (share ≤ 75)

-- The numbers are allowed, and the modules of the symbol were written to the buffer: that of the least version, and of its
-- highest level, with which the logo is allowed. `s` has the version, side, level and mask of this symbol. Reading the symbol
-- yields the input and its interpretation [own]
pub record IsWrittenForLogo (x : List ℕ) (version level rule interpretation logo share : ℕ) (before after : List ℕ) (s : QrprovedSymbol) : Type 0 where
  pub settings : AreLogoSettings version level rule interpretation logo share
  pub square : Grid
  pub level_in : s.level < 4
  pub made : IsLogoSymbol version (level_of level) (rule_of rule) (interpretation_of interpretation) x share logo s.version (level_of s.level) s.mask square
  pub read : IsReadBack s.version (rule_of rule) (interpretation_of interpretation) x square
  pub side : s.side ≡ square.side
  pub holds : HoldsSquares s.side (square ∷ []) before after

-- The input fits, but no symbol of it may have the logo. The largest logo that one may have has `largest` modules on a side
-- [own]
abbrev pub IsLargestForLogo : (x : List ℕ) (version level rule interpretation logo share largest : ℕ) → Type 0
IsLargestForLogo x version level rule interpretation logo share largest =
    IsLargestCarried version (level_of level) (rule_of rule) (interpretation_of interpretation) x share largest × (largest < logo)

-- `buffer` has fewer bytes than the symbol has modules [own]
pub record LacksLogoRoom (x : List ℕ) (version level rule interpretation logo share : ℕ) (buffer : List ℕ) : Type 0 where
  pub least : ℕ
  pub highest : Level
  pub fits : IsLogoSize version (level_of level) (rule_of rule) (interpretation_of interpretation) x share logo least highest
  pub room : length buffer < side_of least * side_of least
