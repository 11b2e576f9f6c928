use Rattle.std.proofs.{Common.{◌≡◌, ℕ, Bool, true, false, ◌&&◌, ◌==◌, arith, rules}, lemmas.Bool.eqb-true}
use Rattle.qr_bits.specs.declared.{interpretation.Interpretation.Interpretation, modes.Mode.TheVariants.Alphanumeric, modes.Rule.Rule}
use Rattle.qr_bits.specs.{Interpretation.{character_for, separator}, Modes.{characters, is_alphanumeric, may_use}, Steps.RunState.{is_gs1, may_begin}}
use Rattle.qr_bits.proofs.best_modes.may_be_character.Goals as goal

-- the character for a byte is the byte itself, or `%` for the separator
character : (i : Interpretation) (r : Rule) (x : ℕ) (pair : Bool) → may_begin r x pair Alphanumeric ≡ false
    → (is_gs1 i && x == separator && may_use r Alphanumeric) ≡ may_begin r (character_for i x Alphanumeric) pair Alphanumeric
unfolding may_begin is_alphanumeric characters
character i r x pair h = search (rules, eqb-true)

own : (i : Interpretation) (r : Rule) (x : ℕ) (pair : Bool) → may_begin r x pair Alphanumeric ≡ true → may_begin r (character_for i x Alphanumeric) pair Alphanumeric ≡ true
unfolding may_begin is_alphanumeric characters
own i r x pair h = search (arith, eqb-true)

pub returns-then-may_begin : goal.returns-then-may_begin
returns-then-may_begin c = search (rules, own)

pub returns-then-byte-eq-SEPARATOR : goal.returns-then-byte-eq-SEPARATOR
returns-then-byte-eq-SEPARATOR c = search (rules, character)
