-- What is in a buffer into which a text was written.
use Rattle.std.proofs.Common.{◌≡◌, ℕ, ◌+◌, ◌≤◌, refl, sym, ap, ◌∙◌, arith, true, is_err, List, [], ◌++◌, append-nil, length, length-append, take, drop, Some, OnErr, OnOk, Result, Ok, Err}
use Rattle.std.proofs.lemmas.List.{drop_all, nil_from_length, take_all, take-append-drop}
use Rattle.std.specs.Io.KnownBytes.{Appends}
use Rattle.qr_devices.specs.{Device.{AppendsBeginning, is_write_fault}, declared.{device.WriteCounts.WriteCounts, pen.DrawFault.DrawFault}}

-- a text that has room is there, and the bytes after it are unchanged
pub filled : {T : Type 0} (r : Result T DrawFault) (file old before now : List ℕ) (start len : ℕ) (counts : WriteCounts) → start ≡ 0 → before ≡ old
    → length file ≤ length old → length now ≡ length old → len ≤ length now → (is_write_fault counts ≡ true → len ≡ length now)
    → OnOk r (Appends (Some (take start before)) (Some (take len now)) file)
    → OnErr r (AppendsBeginning (Some (take start before)) (Some (take len now)) file) → is_write_fault counts ≡ is_err r
    → OnOk r (drop len now ≡ drop (length file) (drop start before)) → now ≡ file ++ drop (length file) old
filled (Ok t) file old before now start len counts z same fits long within full ok err fault rest =
    let first : take len now ≡ file = rw z at ok in
    let last : drop len now ≡ drop (length file) before = rw z at rest in
    sym (take-append-drop len now) ∙ rw (first, last, same) refl
filled (Err f) file old before now start len counts z same fits long within full ok err fault rest =
    let p = err.0 in
    let whole : take len now ≡ now = take_all len now (omega (arith, full fault)) in
    let all : now ≡ p = sym whole ∙ (rw z at err.2) in
    let parts : p ++ err.1.0 ≡ file = err.1.1 in
    let lengths : length p + length err.1.0 ≡ length file = sym (length-append p err.1.0) ∙ ap length parts in
    let sizes : length now ≡ length p = ap length all in
    let none : err.1.0 ≡ [] = nil_from_length err.1.0 (omega arith) in
    let over : drop (length file) old ≡ [] = drop_all (length file) old (omega arith) in
    all ∙ sym (append-nil p) ∙ ap (λ l. p ++ l) (sym none) ∙ parts ∙ sym (rw over (append-nil file))
