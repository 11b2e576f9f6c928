-- A device that only counts, or writes into a buffer.
use Rattle.std.proofs.Common.{◌≡◌, ℕ, drop, drop-drop, ◌+◌, ◌^◌, ◌<◌, ◌≤◌, ◌++◌, refl, sym, ap, ◌∙◌, arith, true, false, if◌then◌else◌, ◌==◌, eqb, is_err, List, length, length-append, take, OnErr, OnOk, Result, Ok, Err, None, Some}
use Rattle.std.proofs.lemmas.List.{length-take-le}
use Rattle.std.specs.Io.KnownBytes.{Appends}
use Rattle.qr_devices.specs.{Device.{AppendsBeginning, counted, is_write_fault}, declared.{device.WriteCounts.WriteCounts, pen.DrawFault.DrawFault}}

pub filled-some : (n : ℕ) (xs : List ℕ) → (n ≡ 0 → ⊥) → (if n == 0 then None else Some xs) ≡ Some xs
filled-some n xs some = let no : eqb n 0 ≡ false = search arith in rw no refl

pub written-on : (n m : ℕ) (xs ys bytes : List ℕ) → (n ≡ 0 → ⊥) → (m ≡ 0 → ⊥) → ys ≡ xs ++ bytes
    → Appends (if n == 0 then None else Some xs) (if m == 0 then None else Some ys) bytes
written-on n m xs ys bytes some still e = rw (filled-some n xs some, filled-some m ys still) e

pub drop-on : (n m k : ℕ) (xs : List ℕ) → n + m ≡ k → drop k xs ≡ drop m (drop n xs)
drop-on n m k xs e = ap (λ z. drop z xs) (sym e) ∙ sym (drop-drop m n xs)

-- without a fault all bytes were counted
pub counted-all : {T : Type 0} (r : Result T DrawFault) (c : WriteCounts) (n : ℕ) → is_write_fault c ≡ false → is_write_fault c ≡ is_err r → OnOk r (c.taken ≡ counted n) → n < 2 ^ 64
    → c.taken ≡ n
counted-all (Ok t) c n well e h l = omega (arith, h)
counted-all (Err f) c n well e h l = absurd (cc (well, e))

-- as many bytes were written as the text has
pub filled-len : {T : Type 0} (r : Result T DrawFault) (file before now : List ℕ) (start len : ℕ) (c : WriteCounts) → start ≡ 0 → length file ≤ length now → len ≤ length now
    → (is_write_fault c ≡ true → len ≡ length now) → OnOk r (Appends (Some (take start before)) (Some (take len now)) file)
    → OnErr r (AppendsBeginning (Some (take start before)) (Some (take len now)) file) → is_write_fault c ≡ is_err r → len ≡ length file
filled-len (Ok t) file before now start len c z fits within full ok err fault =
    let all : take len now ≡ file = rw z at ok in
    sym (length-take-le len now within) ∙ ap length all
filled-len (Err f) file before now start len c z fits within full ok err fault =
    let p = err.0 in
    let all : take len now ≡ p = rw z at err.2 in
    let parts : p ++ err.1.0 ≡ file = err.1.1 in
    let lengths : length p + length err.1.0 ≡ length file = sym (length-append p err.1.0) ∙ ap length parts in
    let many : len ≡ length p = sym (length-take-le len now within) ∙ ap length all in
    let whole : len ≡ length now = full fault in
    omega arith
