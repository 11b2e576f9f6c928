-- The data of a segment is read group by group.
use Rattle.qr_bits.{proofs.lemmas.{bits.BitLemmas.value-below, stream.WritingLemmas.three-more}, specs.{Bits.value, Modes.payload_bits}}
use Rattle.qr_bits.specs.{Parsing.{◌>>=◌, digit, digits_of, character, characters_of}, Steps.Parsing.{IsFaultOf, prepend_read}}
use Rattle.qr_bits.specs.declared.{fault.ParseFault.{ParseFault, TheVariants.BadValue}, modes.Mode.TheVariants.{Numeric, Alphanumeric}}
use Rattle.std.proofs.Common.{◌≡◌, ℕ, suc, ◌+◌, ◌/◌, ◌%◌, ◌^◌, ◌<◌, ◌≤◌, Bool, List, ◌∷◌, ◌++◌, length, take, drop, Result, Ok, Err, inr, sym, ap, ◌∙◌, append_assoc, arith}
use Rattle.std.proofs.{Math.Nat.pow-le-pow_right, lemmas.{Bool.{lt-ltb, le-ltb}, List.{length-take, length-drop, drop-drop}}}

-- bits make a number below the power of their width
pub value-take-below : (w : ℕ) (bs : List Bool) → value (take w bs) < 2 ^ w
value-take-below w bs = search (arith, length-take, value-below, pow-le-pow_right)

-- three digits, and the digits after them; or a number that is too large
pub digits-step : (n m : ℕ) (bs : List Bool) → n ≡ suc (suc (suc m)) → let g = value (take 10 bs) in (10 + payload_bits Numeric m ≡ payload_bits Numeric n)
    × (g < 1000 → digits_of n bs ≡ (digits_of m (drop 10 bs) >>= λ xs. Ok (digit (g / 100) ∷ digit (g / 10) ∷ digit g ∷ xs))) × (1000 ≤ g → digits_of n bs ≡ Err BadValue)
unfolding digits_of
digits-step n m bs h = search (arith, three-more, lt-ltb, le-ltb)

-- two characters, and the characters after them; or a number that is too large
pub characters-step : (n m : ℕ) (bs : List Bool) → n ≡ suc (suc m) → let g = value (take 11 bs) in (11 + payload_bits Alphanumeric m ≡ payload_bits Alphanumeric n)
    × (g < 2025 → characters_of n bs ≡ (characters_of m (drop 11 bs) >>= λ xs. Ok (character (g / 45) ∷ character (g % 45) ∷ xs))) × (2025 ≤ g → characters_of n bs ≡ Err BadValue)
unfolding characters_of
characters-step n m bs h = search (arith, lt-ltb, le-ltb)

-- what was read before, and what `read` reads from the first w bits, make the whole
pub record IsReading (read : Result (List ℕ) ParseFault) (w : ℕ) (out : List ℕ) (bits : List Bool) (whole : Result (List ℕ) ParseFault) (end : List Bool) : Type 0 where
  pub reads : prepend_read out read ≡ whole
  pub there : w ≤ length bits
  pub rest : drop w bits ≡ end

-- a group of k bits is read
pub group-read : {w m : ℕ} {out new : List ℕ} {bits rest end : List Bool} {read later whole : Result (List ℕ) ParseFault} (k : ℕ) (group : List ℕ) → IsReading read m out bits whole end
    → k + w ≡ m → rest ≡ drop k bits → new ≡ out ++ group → read ≡ (later >>= λ xs. Ok (group ++ xs)) → IsReading later w new rest whole end
group-read {w = w} {bits = bits} k group h e r o f = search (arith, length-drop, drop-drop, append_assoc)

-- if the rest fails, the whole fails
pub fails : {w : ℕ} {out : List ℕ} {bits end : List Bool} {read whole : Result (List ℕ) ParseFault} {f : ParseFault} → IsReading read w out bits whole end → read ≡ Err f → IsFaultOf f whole
fails {out = out} h e = inr (sym h.reads ∙ ap (prepend_read out) e)
