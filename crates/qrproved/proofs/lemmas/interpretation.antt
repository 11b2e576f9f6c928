-- ECI headers are written one by one.
use Rattle.std.proofs.{Common.{◌≡◌, ℕ, ◌+◌, ◌<◌, List, [], ◌∷◌, ◌++◌, length, map, take, drop, get_or, append_assoc, arith}, Math.ListN.set}
use Rattle.std.proofs.{Math.Seq.{drop-cons, set-append_seam}, lemmas.List.{take_more, get_or-map, length-map, length-take-le}}
use Rattle.qr_bits.specs.declared.interpretation.EciChange.{EciChange}
use Rattle.qrproved.specs.{declared.interpretation.QrprovedEci.QrprovedEci, Interpretation.told_eci}

-- after the header with the index i is written, the buffer begins with the first i + 1 headers
pub write-next : (changes : List EciChange) (out : List QrprovedEci) (i : ℕ) (d : EciChange) → i < length changes → i < length out
    → set (take i (map told_eci changes) ++ drop i out) i (told_eci (get_or changes i d)) ≡ take (i + 1) (map told_eci changes) ++ drop (i + 1) out
write-next changes out i d h k =
    let told = map told_eci changes in
    let front = take i told in
    let x = told_eci (get_or changes i d) in
    let e = get_or out i x in
    let many : length told ≡ length changes = length-map changes told_eci in
    let len : length front ≡ i = length-take-le i told (omega (arith, many)) in
    let rest : drop i out ≡ e ∷ drop (i + 1) out = search (arith, drop-cons) in
    let put : set (front ++ e ∷ drop (i + 1) out) (length front) x ≡ front ++ x ∷ drop (i + 1) out = set-append_seam front e (drop (i + 1) out) x in
    cc (take_more told i x (omega (arith, many)), get_or-map told_eci changes i d x h, append_assoc front (x ∷ []) (drop (i + 1) out))
