-- What `qrproved_room` writes, and which numbers it allows.
use Rattle.std.specs.Prelude.{ℕ, ◌<◌, ◌==◌, if◌then◌else◌}
use Rattle.qr_bits.specs.declared.modes.Mode.{Mode}
use Rattle.qr_bits.specs.declared.modes.Mode.TheVariants.{Numeric, Alphanumeric, Byte, Kanji}
use Rattle.qr_bits.specs.Room.{IsMostCharacters}
use Rattle.qrproved.specs.Settings.{AreSettings, interpretation_of, level_of}

-- The mode that the number `n` of a caller means: 0 is numeric mode, 1 is alphanumeric mode, 2 is byte mode and 3 is
-- kanji mode. Numbers above 3 are out of range [own]
abbrev pub mode_of : ℕ → Mode
mode_of n = if n == 0 then Numeric else (if n == 1 then Alphanumeric else (if n == 2 then Byte else Kanji))

-- The number of a rule that allows the mode with the number `mode`: 2 for kanji mode, and otherwise 0 [own]
abbrev pub rule_for : ℕ → ℕ
rule_for mode = if mode == 3 then 2 else 0

-- The numbers are allowed: those of version, level and interpretation together with a rule that allows the mode, the
-- mode below 4, and `header`, which is 0 or 1 [own]
abbrev pub AreRoomSettings : (version level mode interpretation header : ℕ) → Type 0
AreRoomSettings version level mode interpretation header = AreSettings version level (rule_for mode) interpretation × (mode < 4) × (header < 2)

-- The numbers are allowed, and `count` is the greatest number of characters that one segment of the mode can have. If
-- `header` is 1, the symbol has a structured append header (ISO/IEC 18004:2015, 7.4.10, Table 7)
abbrev pub IsRoom : (version level mode interpretation header count : ℕ) → Type 0
IsRoom version level mode interpretation header count =
    AreRoomSettings version level mode interpretation header × IsMostCharacters version (level_of level) (mode_of mode) (interpretation_of interpretation) (header == 1) count
