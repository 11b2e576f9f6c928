-- Messages whose blocks differ in few codewords are the same message.
use Rattle.std.proofs.Common.{◌≡◌, ℕ, zero, suc, ◌+◌, ◌<◌, ◌≤◌, List, [], length, length-drop, get_or, sym, ◌∙◌, inl, inr, ◌⊎◌, arith}
use Rattle.std.proofs.lemmas.{Bool.cases_lt, List.length-take}
use Rattle.qr_field.{proofs.Facts.{near-same, unambiguous-known}, specs.Distance.differences}
use Rattle.qr_layout.{proofs.Facts.laws-of, specs.{Blocks.blocks_of, declared.level.Level.Level}}
use Rattle.qr_symbol.specs.Interleaving.{blocks_in, data_sizes, block_of}
use Rattle.qr_symbol.proofs.Facts.{data-sizes-whole, len-most, part, parts-same}
use Rattle.qr_theorems.specs.Distance.{held_block, DamagedMessagesAreOne, HeldMessage, MessagesLieApart}

-- a block has at most 255 codewords
part-short : (v : ℕ) (l : Level) (d : List ℕ) (i : ℕ) → 1 ≤ v → v ≤ 40 →
    length (part (data_sizes (blocks_of v l)) d i) + (blocks_of v l).ec_len ≤ 255
part-short v l d i h k =
    let c = data_sizes (blocks_of v l) in let w = laws-of l v h k in
    search (arith, length-take, len-most)

-- some number below n has the property P, or all of them have the property Q
search-below : (P Q : ℕ → Type 0) (n : ℕ) → ((i : ℕ) → i < n → P i ⊎ Q i) →
    ((i : ℕ) × (i < n) × P i) ⊎ ((i : ℕ) → i < n → Q i)
search-below P Q zero f = inr (λ i l. absurd (omega arith))
search-below P Q (suc n) f = elim (search-below P Q n (λ i l. f i (omega arith))) [
  | inl w ↦ let l = w.1 in inl (w.0, omega arith, w.2)
  | inr all ↦ elim (f n (omega arith)) [
    | inl p ↦ inl (n, omega arith, p)
    | inr q ↦ search arith
  ]
]

-- messages of a version and a level whose blocks are equal are equal
blocks-same : (v : ℕ) (l : Level) (m n : HeldMessage v l) → 1 ≤ v → v ≤ 40 → ((i : ℕ) → i < blocks_in v
    l → block_of (blocks_of v l) m.message i ≡ block_of (blocks_of v l) n.message i) → m.message ≡ n.message
blocks-same v l m n h k f =
    let whole = data-sizes-whole v l h k in parts-same _ _ _ (m.is.many ∙ sym whole) (n.is.many ∙ sym whole) f

-- two blocks of one index have equally many data codewords
blocks-long : (v : ℕ) (l : Level) (m n : HeldMessage v l) (i : ℕ)
    → length (block_of (blocks_of v l) m.message i) ≡ length (block_of (blocks_of v l) n.message i)
blocks-long v l m n i = search (arith, length-take, length-drop)

-- the law of distance
pub messages-apart : (v : ℕ) (l : Level) → 1 ≤ v → v ≤ 40 → MessagesLieApart v l
messages-apart v l h k m n o =
    let b = blocks_of v l in
    let apart : ℕ → Type 0 = λ i. b.ec_len + 1 ≤ differences (held_block v l m i) (held_block v l n i) in
    let far : (i : ℕ) → i < blocks_in v l → apart i ⊎ (block_of b m.message i ≡ block_of b n.message i) =
    λ i s. elim (cases_lt b.ec_len (differences (held_block v l m i) (held_block v l n i))) [
      | inl z ↦ inl (omega arith)
      | inr z ↦ inr (near-same b.ec_len (block_of b _ i) (get_or _ i []) (block_of b _ i) (get_or _ i []) (m.is.interleaved.each i s) (n.is.interleaved.each i s) (blocks-long v l m n i) (part-short v l _ i h k) z)
    ] in elim (search-below _ (λ i. block_of b m.message i ≡ block_of b _ i) _ far) [
      | inl w ↦ w
      | inr same ↦ absurd (o (blocks-same v l m n h k same))
    ]

-- the law of damage
pub damaged-one : (v : ℕ) (l : Level) → 1 ≤ v → v ≤ 40 → DamagedMessagesAreOne v l
damaged-one v l h k m n read t few near near' = let b = blocks_of v l in blocks-same v l m n h k (λ i s.
    unambiguous-known b.ec_len (t i) (block_of b _ i) (get_or _ i []) (block_of b _ i) (get_or _ i []) (read i) (m.is.interleaved.each i s) (n.is.interleaved.each i s) (blocks-long v l m n i) (part-short v l _ i h k) (few i s) (near i s) (near' i s))
