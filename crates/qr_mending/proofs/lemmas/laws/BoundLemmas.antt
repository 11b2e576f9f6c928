-- Bounds on the number of codewords of a block that may be changed, and that were changed.
use Rattle.{qr_bits.specs.Parsing.Content, qr_layout.{proofs.Facts.{every, every-at}, specs.Blocks.{correction_len_of, correctable_of, spare_of}}}
use Rattle.qr_field.specs.Distance.{erasures}
use Rattle.qr_layout.specs.Blocks.{blocks_of}
use Rattle.qr_mending.proofs.lemmas.{erasures.erased-few, message.MessageLemmas.item}
use Rattle.qr_mending.specs.{Erasures.{changes_of, erased_errors}, Message.{no_changes, read_at, received}, declared.erasures.Changes.Changes}
use Rattle.qr_symbol.specs.Interleaving.{data_sizes, part_of}
use Rattle.{qr_layout.specs.declared.level.Level.Level, qr_matrix.{proofs.Facts.{&&-left, &&-right}, specs.Grid.Grid}, qr_mending.specs.Mending.IsMendedReading}
use Rattle.std.{proofs.{Common.{◌≡◌, ℕ, ◌≤◌, ◌&&◌, true, leb, Option, List, ◌++◌, get_or, map, refl, ap, arith, ◌+◌, ◌*◌}, lemmas.List.Elements.All-from_get_or}, specs.List.All}
use borrow.Author.Tests.{leb-true}

-- in each version and level, from 2 to 15 codewords may be changed, computed
correctable-all : every (λ l v. leb 2 (correctable_of v l) && leb (correctable_of v l) 15) ≡ true
unfolding correction_len_of
correctable-all = refl

-- the same bounds at one version and level
pub correctable-bounds : (v : ℕ) (l : Level) → 1 ≤ v → v ≤ 40 → (2 ≤ correctable_of v l) × (correctable_of v l ≤ 15)
correctable-bounds v l a b =
    search (arith, leb-true, &&-left, &&-right, every-at (λ l v. leb 2 (correctable_of v l) && leb (correctable_of v l) 15) correctable-all l v a b)

-- in each block at most as many codewords were changed as may be changed
pub changes-few : (unknown : Grid) (g : Grid) (v : ℕ) (l : Level) (m : ℕ) (p : Content) (x : List Changes) → IsMendedReading unknown g v l m p x → All (λ c. c.misread ≤ correctable_of v l) x
changes-few unknown g v l m p x h = All-from_get_or (λ (c : Changes). c.misread ≤ correctable_of v l) x no_changes (search arith)

-- the erased codewords and twice the misread ones of a block, and those that are erased and have another value
few-erased : (c : Changes) (read : List (Option ℕ)) (values block : List ℕ) → c ≡ changes_of read values block → (spare : ℕ) →
    erasures read + 2 * c.misread ≤ spare → (c.erased + 2 * c.misread ≤ spare) × (c.erased_wrong ≤ c.erased)
few-erased c read values block e spare few =
    let erased : c.erased ≡ erasures read = ap (λ (z : Changes). z.erased) e in
    let wrong : c.erased_wrong ≡ erased_errors read values block = ap (λ (z : Changes). z.erased_wrong) e in
    (omega (arith, few, erased), omega (arith, wrong, erased, erased-few read values block))

-- in each block the erased codewords and twice the misread ones are at most as many as may be spent
pub changes-spent : (unknown : Grid) (g : Grid) (v : ℕ) (l : Level) (m : ℕ) (p : Content) (x : List Changes) → IsMendedReading unknown g v l m p x →
    All (λ c. (c.erased + 2 * c.misread ≤ spare_of v l) × (c.erased_wrong ≤ c.erased)) x
changes-spent unknown g v l m p x h =
    All-from_get_or (λ (c : Changes). (c.erased + 2 * c.misread ≤ spare_of v l) × (c.erased_wrong ≤ c.erased)) x no_changes (λ i r.
    let mended = h.form.damaged.mended in
    let block = mended.each i (omega (arith, mended.many)) in
    let b = blocks_of v l in
    let items = received b mended.indices mended.checks i in
    let cw = h.form.damaged.codewords in
    few-erased (get_or x i no_changes) (map (read_at unknown mended.places cw) items) (map (item cw) items)
    (part_of (data_sizes b) h.message i ++ block.correction) block.count (spare_of v l) block.few)

-- in each version and level at most 30 codewords may be spent, computed
spare-all : every (λ l v. leb (spare_of v l) 30) ≡ true
unfolding correction_len_of
spare-all = refl

-- the same at one version and level
pub spare-bound : (v : ℕ) (l : Level) → 1 ≤ v → v ≤ 40 → spare_of v l ≤ 30
spare-bound v l a b = search (arith, leb-true, every-at (λ l v. leb (spare_of v l) 30) spare-all l v a b)
