-- What is written of a bitmap, part by part.
use Rattle.std.proofs.Common.{◌≡◌, ℕ, List, ◌++◌, codes, append_assoc}
use Rattle.std.specs.Prelude.{decimal}
use Rattle.qr_images.specs.Writing.{bitmap_head}

-- the parts of the head
pub head-is : (width : ℕ) (h p1 p2 p3 p4 p5 : List ℕ) → p1 ≡ h ++ codes "P4\n" → p2 ≡ p1 ++ decimal width → p3 ≡ p2 ++ codes " " → p4 ≡ p3 ++ decimal width → p5 ≡ p4 ++ codes "\n"
    → p5 ≡ h ++ bitmap_head width
unfolding bitmap_head
head-is width h p1 p2 p3 p4 p5 e1 e2 e3 e4 e5 = rw (e5, e4, e3, e2, e1) (simp append_assoc)
