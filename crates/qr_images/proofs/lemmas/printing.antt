-- What is written for printers, part by part.
use Rattle.std.proofs.Common.{◌≡◌, ℕ, ◌/◌, ◌%◌, List, [], ◌∷◌, ◌++◌, codes, append_assoc}
use Rattle.std.specs.Prelude.{decimal}
use Rattle.qr_images.specs.Printing.{band_head, tspl_head, zpl_head}

-- the parts of the head of a band
pub band-head-is : (stride count : ℕ) (h p1 p2 p3 p4 p5 : List ℕ) → p1 ≡ h ++ 0x1D ∷ 0x76 ∷ 0x30 ∷ 0 ∷ [] → p2 ≡ p1 ++ stride % 256 ∷ [] → p3 ≡ p2 ++ stride / 256 ∷ []
    → p4 ≡ p3 ++ count % 256 ∷ [] → p5 ≡ p4 ++ count / 256 ∷ [] → p5 ≡ h ++ band_head stride count
unfolding band_head
band-head-is stride count h p1 p2 p3 p4 p5 e1 e2 e3 e4 e5 = rw (e5, e4, e3, e2, e1) (simp append_assoc)

-- the parts of the head of a command of TSPL
pub tspl-head-is : (left top stride count : ℕ) (h p1 p2 p3 p4 p5 : List ℕ) → p1 ≡ h ++ (codes "BITMAP " ++ decimal left) → p2 ≡ p1 ++ (codes "," ++ decimal top)
    → p3 ≡ p2 ++ (codes "," ++ decimal stride) → p4 ≡ p3 ++ (codes "," ++ decimal count) → p5 ≡ p4 ++ codes ",0," → p5 ≡ h ++ tspl_head left top stride count
unfolding tspl_head
tspl-head-is left top stride count h p1 p2 p3 p4 p5 e1 e2 e3 e4 e5 = rw (e5, e4, e3, e2, e1) (simp append_assoc)

-- the parts of the head of a label of ZPL
pub zpl-head-is : (left top total stride : ℕ) (h p1 p2 p3 p4 p5 p6 : List ℕ) → p1 ≡ h ++ (codes "^XA\n^FO" ++ decimal left) → p2 ≡ p1 ++ (codes "," ++ decimal top)
    → p3 ≡ p2 ++ (codes "^GFA," ++ decimal total) → p4 ≡ p3 ++ (codes "," ++ decimal total) → p5 ≡ p4 ++ (codes "," ++ decimal stride) → p6 ≡ p5 ++ codes ","
    → p6 ≡ h ++ zpl_head left top total stride
unfolding zpl_head
zpl-head-is left top total stride h p1 p2 p3 p4 p5 p6 e1 e2 e3 e4 e5 e6 = rw (e6, e5, e4, e3, e2, e1) (simp append_assoc)
