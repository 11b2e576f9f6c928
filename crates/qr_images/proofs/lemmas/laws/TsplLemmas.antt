-- A command of TSPL is read back.
use Rattle.std.proofs.Common.{◌≡◌, ℕ, ◌-◌, ◌*◌, ◌^◌, ◌<◌, ◌≤◌, refl, sym, arith, List, [], ◌∷◌, ◌++◌, true, false, leb, length, map, take, drop, append_assoc, Some, codes}
use Rattle.std.{proofs.lemmas.Bool.le-leb, specs.Prelude.decimal}
use Rattle.qr_images.specs.BitmapLines.{toned_lines}
use Rattle.qr_images.specs.Image.{image_width, line_length}
use Rattle.qr_images.specs.Labels.{after, number_before}
use Rattle.qr_images.specs.Png.{same}
use Rattle.qr_images.specs.PrinterLaws.{TsplLabelsAreReadBack}
use Rattle.qr_images.specs.Printing.{tspl_file, tspl_head}
use Rattle.qr_images.specs.Tspl.{bitmap_command}
use Rattle.qr_images.proofs.lemmas.laws.{DotLemmas.{printable-is, shows-in-bytes, toned-lines-length, turned-lines}, FileLemmas.{drop-own, take-own}, LabelLemmas.{after-back, number-back, number-comma}, LawLemmas.width-in}

command-back : (left top stride count : ℕ) (lines : List ℕ) → left < 2 ^ 64 → top < 2 ^ 64 → stride < 2 ^ 64 → count < 2 ^ 64 → 1 ≤ stride → 1 ≤ count → length lines ≡ count * stride
    → bitmap_command (tspl_head left top stride count ++ (lines ++ codes "\r\n"))
    ≡ Some (record { left = left; top = top; bitmap = record { width = 8 * stride; height = count; lines = map (λ b. 255 - b) lines } })
unfolding bitmap_command tspl_head same
command-back left top stride count lines a b c d wide high long =
    let end : List ℕ = 13 ∷ 10 ∷ [] in
    let fourth : List ℕ = 44 ∷ (48 ∷ (44 ∷ (lines ++ end))) in
    let third : List ℕ = 44 ∷ (decimal count ++ fourth) in
    let second : List ℕ = 44 ∷ (decimal stride ++ third) in
    let first : List ℕ = 44 ∷ (decimal top ++ second) in
    let e : ((codes "BITMAP " ++ decimal left) ++ ((44 ∷ decimal top) ++ ((44 ∷ decimal stride) ++ ((44 ∷ decimal count) ++ (44 ∷ 48 ∷ 44 ∷ []))))) ++ (lines ++ end) ≡ codes "BITMAP " ++ (decimal left ++ first) = simp append_assoc in
    let text : after (codes "BITMAP ") (codes "BITMAP " ++ (decimal left ++ first)) ≡ Some (decimal left ++ first) = after-back (codes "BITMAP ") (decimal left ++ first) in
    let x : number_before (44 ∷ []) (decimal left ++ first) ≡ Some (left, decimal top ++ second) = number-back left (44 ∷ []) (decimal top ++ second) a (number-comma left (decimal top ++ second)) in
    let y : number_before (44 ∷ []) (decimal top ++ second) ≡ Some (top, decimal stride ++ third) = number-back top (44 ∷ []) (decimal stride ++ third) b (number-comma top (decimal stride ++ third)) in
    let w : number_before (44 ∷ []) (decimal stride ++ third) ≡ Some (stride, decimal count ++ fourth) = number-back stride (44 ∷ []) (decimal count ++ fourth) c (number-comma stride (decimal count ++ fourth)) in
    let h : number_before (44 ∷ 48 ∷ 44 ∷ []) (decimal count ++ fourth) ≡ Some (count, lines ++ end) = number-back count (44 ∷ 48 ∷ 44 ∷ []) (lines ++ end) d (number-comma count (48 ∷ 44 ∷ (lines ++ end))) in
    let some : leb 1 stride ≡ true = le-leb _ _ wide in
    let more : leb 1 count ≡ true = le-leb _ _ high in
    let left-over : drop (count * stride) (lines ++ end) ≡ end = drop-own lines end (count * stride) (sym long) in
    let body : take (count * stride) (lines ++ end) ≡ lines = take-own lines end (count * stride) (sym long) in
    rw (e, text, x, y, w, h, some, more, left-over, body) refl

pub tspl-labels-read : TsplLabelsAreReadBack
unfolding tspl_file
tspl-labels-read s g p =
    let w = width-in s g (printable-is s g p) in
    let whole = command-back s.left s.top (line_length s g) (image_width s g) (toned_lines false s g 0 (image_width s g)) (omega (arith, p.left)) (omega (arith, p.top)) (omega (arith, w.1))
    (omega (arith, w.1)) (omega (arith, w.0)) w.0 (toned-lines-length false s g 0 (image_width s g)) in
    (_, rw (turned-lines s g) at whole, (refl, refl, shows-in-bytes s g p.some))
