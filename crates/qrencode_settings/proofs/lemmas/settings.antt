-- The number that `try_get_one` returns is the number of the definition.
use Rattle.{clap.{proofs.WalkLemmas.byte_read, specs.{Matches.TriesOne, Walk.Text}}, qrencode_settings.specs.Settings.number_or}
use Rattle.std.{proofs.Common.{◌≡◌, ℕ, Option, None, Some, Result, Ok, Err, refl}, specs.Str.Parse.ParsesUnsigned}

-- in this module, `gives` says which results there can be if a text is parsed as a number of one byte
module _ {E : Type 0} (gives : Text → Result ℕ E → Type 0)
    (reads : (t : Text) (r : Result ℕ E) → gives t r → ParsesUnsigned 8 10 t r)
    (otherwise : ℕ)
  where
    -- if a number is returned, it is the number of the definition
    pub number-some : (o : Option Text) (r : Result (Option ℕ) E) → (o ≡ None → r ≡ Ok None) → ((t : Text) → o ≡ Some t → TriesOne gives t r)
        → (n : ℕ) → r ≡ Ok (Some n) → n ≡ number_or otherwise o
    number-some None r none some n e = let bad : r ≡ Ok None = none refl in cc
    number-some (Some t) r none some n e = byte_read {E = E} t (Ok n) (reads t (Ok n) (rw e at (some t refl)))

    -- if the option is not given, `otherwise` is the number of the definition
    pub number-none : (o : Option Text) (r : Result (Option ℕ) E) → (o ≡ None → r ≡ Ok None) →
        ((t : Text) → o ≡ Some t → TriesOne gives t r) → r ≡ Ok None → otherwise ≡ number_or otherwise o
    number-none None r none some e = refl
    number-none (Some t) r none some e = absurd (rw e at (some t refl))

    -- if the option's text is no number of one byte, 0 is the number of the definition
    pub number-err : (o : Option Text) (r : Result (Option ℕ) E) → (o ≡ None → r ≡ Ok None) →
        ((t : Text) → o ≡ Some t → TriesOne gives t r) → (x : E) → r ≡ Err x → 0 ≡ number_or otherwise o
    number-err None r none some x e = let bad : r ≡ Ok None = none refl in cc
    number-err (Some t) r none some x e = byte_read {E = E} t (Err x) (reads t (Err x) (rw e at (some t refl)))
