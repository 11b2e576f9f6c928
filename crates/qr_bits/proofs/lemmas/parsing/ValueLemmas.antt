-- The data of a segment: what is written is read back, and what is read is written as the same bits.
use Rattle.std.proofs.Common.{◌≡◌, ℕ, zero, suc, ◌+◌, ◌*◌, ◌/◌, ◌%◌, ◌<◌, ◌≤◌, Bool, true, All, List, [], ◌∷◌, ◌++◌, length, take, drop, Ok, refl, ap, arith, append_assoc}
use Rattle.std.{proofs.lemmas.{Bool.{lt-ltb, ltb-true, and_parts}, List.{length-drop, Elements.{All-nil, All-cons, All-head, All-tail}}}, specs.List.list_all}
use Rattle.qr_bits.specs.{declared.modes.Mode.{Mode, TheVariants.{Numeric, Alphanumeric, Byte, Kanji}}, Stream.{character_bits, payload}}
use Rattle.qr_bits.specs.{Bits.value, Bits.bits_of, Parsing.characters_of, Parsing.bytes_of, Parsing.values_of}
use Rattle.qr_bits.specs.Modes.{character_count, is_alphanumeric, byte_count, payload_bits, suits, character_value}
use Rattle.qr_bits.proofs.lemmas.modes.{pairs-again, pairs-takes, character-found, character-again, character-taken}
use Rattle.qr_bits.proofs.lemmas.parsing.{PayloadLemmas.value-take-below, ParsingLemmas.bind-ok, ParsingLemmas.same-ok}
use Rattle.qr_bits.proofs.lemmas.stream.StreamLemmas.{more-written, drop-field, read-field, field-read, digits-again, digits-takes, are-digits, chosen-ok, IsWritten}

-- the bits of characters of alphanumeric mode are read as these characters
characters-again : (xs : List ℕ) (rest : List Bool) → list_all is_alphanumeric xs ≡ true → characters_of (length xs) (character_bits xs ++ rest) ≡ Ok xs
unfolding characters_of character_bits
characters-again [] rest h = refl
characters-again (a ∷ []) rest h =
    let small = character-found a ((and_parts (is_alphanumeric a) true h).0) in
    search (arith, lt-ltb, character-again, read-field 6 (character_value a) rest (omega arith))
characters-again (a ∷ b ∷ xs) rest h =
    let p = and_parts (is_alphanumeric a) _ h in
    let q = and_parts (is_alphanumeric b) _ p.1 in
    let sa = character-found a p.0 in
    let sb = character-found b q.0 in
    let g = 45 * character_value a + character_value b in
    let first : g / 45 ≡ character_value a = omega arith in
    let second : g % 45 ≡ character_value b = omega arith in
    search (arith, append_assoc, lt-ltb, character-again, characters-again xs rest q.1, drop-field 11 g (character_bits xs ++ rest), read-field 11 g (character_bits xs ++ rest) (omega arith))

-- if characters of alphanumeric mode are read, they are written as the same bits
characters-takes : (n : ℕ) (xs : List ℕ) (bs : List Bool) → payload_bits Alphanumeric n ≤ length bs → characters_of n bs ≡ Ok xs → IsWritten Alphanumeric n bs xs
unfolding characters_of character_bits payload
characters-takes zero xs bs h e = search (arith, same-ok, All-nil)
characters-takes (suc zero) xs bs h e = search (arith, character-taken (value (take 6 bs)) (ltb-true _ _ (chosen-ok _ _ _ xs e).0), field-read 6 bs h)
characters-takes (suc (suc n)) xs bs h e =
    let g = value (take 11 bs) in
    let c = chosen-ok _ _ _ xs e in
    let b = bind-ok (characters_of n (drop 11 bs)) _ xs c.1 in
    let low : g < 2025 = ltb-true _ _ c.0 in
    let w = characters-takes n b.0 (drop 11 bs) (omega (arith, length-drop 11 bs)) b.1 in
    let i = character-taken (g / 45) (omega arith) in
    let j = character-taken (g % 45) (omega arith) in
    let whole = more-written 11 (payload_bits Alphanumeric n) bs (character_bits b.0) (omega arith) w.whole in
    search arith

-- bytes that are written are read back
pub bytes-again : (xs : List ℕ) (t : List Bool) → All (λ b. b < 256) xs → bytes_of (length xs) (bits_of xs ++ t) ≡ xs
unfolding bytes_of bits_of
bytes-again [] t h = refl
bytes-again (x ∷ xs) t h = search (arith, append_assoc, read-field, drop-field, All-head, All-tail, bytes-again xs t)

-- bytes that are read are written as the same bits
pub bytes-takes : (n : ℕ) (bits : List Bool) → 8 * n ≤ length bits
    → (length (bytes_of n bits) ≡ n) × All (λ b. b < 256) (bytes_of n bits) × (bits ≡ bits_of (bytes_of n bits) ++ drop (8 * n) bits)
unfolding bytes_of bits_of
bytes-takes zero bits h = (refl, All-nil (λ b. b < 256), refl)
bytes-takes (suc n) bits h =
    let rest = bytes-takes n (drop 8 bits) (omega (arith, length-drop 8 bits)) in
    let more : 8 * suc n ≡ 8 + 8 * n = omega arith in
    (ap suc rest.0, All-cons (λ b. b < 256) _ _ (value-take-below 8 bits) rest.1, rw more (more-written 8 (8 * n) bits _ (omega arith) rest.2))

-- Data that is written is read back, whatever follows.
pub values-again : (m : Mode) (xs : List ℕ) (rest : List Bool) → All (λ b. b < 256) xs → suits m xs ≡ true → values_of m (character_count m (length xs)) (payload m xs ++ rest) ≡ Ok xs
unfolding values_of payload
values-again m xs rest bytes h = grind (arith, digits-again, are-digits, characters-again, bytes-again, pairs-again)

-- Data that is read is written as the same bits.
pub values-takes : (m : Mode) (n : ℕ) (xs : List ℕ) (bits : List Bool) → payload_bits m (byte_count m n) ≤ length bits → values_of m n bits ≡ Ok xs → IsWritten m n bits xs
unfolding values_of payload
values-takes Numeric n xs bits h e = digits-takes n xs bits h e
values-takes Alphanumeric n xs bits h e = characters-takes n xs bits h e
values-takes Byte n xs bits h e = search (arith, same-ok, bytes-takes n bits h)
values-takes Kanji n xs bits h e = pairs-takes n xs bits (omega arith) e
