-- The positions of all codewords, in their order, where blocks begin, and the codewords of one block.
use Rattle.qr_layout.proofs.Facts.{Mem, Rises, All-of-Mem}
use Rattle.qr_symbol.specs.Interleaving.{Position, ComesBefore, block_count, block_len, start_of, IsPosition, IsPositionOrder, codeword_at, codeword_count, part_of}
use Rattle.qr_symbol.specs.declared.interleaving.BlockSizes.{BlockSizes}
use Rattle.std.proofs.Common.{◌≡◌, ℕ, zero, suc, ◌+◌, ◌<◌, ◌≤◌, List, [], ◌∷◌, ◌++◌, length, length-drop, get_or, refl, inl, inr, ◌⊎◌, arith}
use Rattle.std.proofs.{Math.Nat.{mul-suc, mul-le-mul_left}, lemmas.Bool.Decides.nat_tests}
use Rattle.std.proofs.lemmas.List.{drop-append-le, drop_at, get_or-drop, get_or-take, length-take, take-append-le, take_all}
use Rattle.std.{proofs.lemmas.List.Kept.AllPairs-cons, specs.List.{All, AllPairs, AllByRecursion, Contains}}

-- the position with index p in block b
abbrev pub position : ℕ → ℕ → Position
position p b = record { index = p; block = b }

-- the list contains exactly the positions before the position (p, b), in their order
pub record PositionsBefore (c : BlockSizes) (p b : ℕ) (ts : List Position) : Type 0 where
  pub sound : (t : Position) → Mem t ts → IsPosition c t × ComesBefore t (position p b)
  pub full : (t : Position) → IsPosition c t → ComesBefore t (position p b) → Mem t ts
  pub rises : Rises ComesBefore ts

-- a member of a list with one more item is a member of the list, or it is the item
Mem-push : {X : Type 0} (x y : X) (xs : List X) → Mem x (xs ++ y ∷ []) → Mem x xs ⊎ (y ≡ x)
Mem-push x y [] (inl e) = inr e
Mem-push x y [] (inr m) = absurd m
Mem-push x y (z ∷ zs) (inl e) = inl (inl e)
Mem-push x y (z ∷ zs) (inr m) = search (arith, Mem-push x y zs m)

-- the members of a list stay members when an item is added
Mem-old : {X : Type 0} (x y : X) (xs : List X) → Mem x xs → Mem x (xs ++ y ∷ [])
Mem-old x y [] m = absurd m
Mem-old x y (z ∷ zs) (inl e) = inl e
Mem-old x y (z ∷ zs) (inr m) = inr (Mem-old x y zs m)

-- the added item is a member
Mem-new : {X : Type 0} (x y : X) (xs : List X) → y ≡ x → Mem x (xs ++ y ∷ [])
Mem-new x y [] e = inl e
Mem-new x y (z ∷ zs) e = inr (Mem-new x y zs e)

-- what holds of all items and of one more item holds of all items of the longer list
All-push-rec : {X : Type 0} (P : X → Type 0) (xs : List X) (y : X) → AllByRecursion P xs → P y → AllByRecursion P (xs ++ y ∷ [])
All-push-rec P [] y h k = (k, tt)
All-push-rec P (x ∷ xs) y h k = (h.0, All-push-rec P xs y h.1 k)

-- a rising list stays rising when a larger item is added
Rises-push : {X : Type 0} (R : X → X → Type 0) (xs : List X) (y : X) → Rises R xs → ((x : X) → Mem x xs → R x y) → Rises R (xs ++ y ∷ [])
Rises-push R [] y h f = (tt, tt)
Rises-push R (x ∷ xs) y h f = (All-push-rec _ xs y h.0 (f x (inl refl)), Rises-push R xs y h.1 (λ z m. f z (inr m)))

-- ---- the steps

-- a position that comes before a position also comes before the next position
before-more : (t : Position) (p b : ℕ) → ComesBefore t (position p b) → ComesBefore t (position p (b + 1))
before-more t p b (inl l) = inl l
before-more t p b (inr w) = inr (w.0, let l = w.1 in omega arith)

-- a position that comes before the next position comes before this position, or it is this position
before-cases : (t : Position) (p b : ℕ) → ComesBefore t (position p (b + 1)) → ComesBefore t (position p b) ⊎ (position p b ≡ t)
before-cases t p b (inl l) = inl (inl l)
before-cases t p b (inr w) = search arith

-- one position more
pub positions-push : (c : BlockSizes) (p b : ℕ) (ts : List Position) → IsPosition c (position p b) → PositionsBefore c p b ts → PositionsBefore c p (b + 1) (ts ++ position p b ∷ [])
positions-push c p b ts i h = search (arith, Mem-push, before-more, before-cases, Mem-old, Mem-new, Rises-push)

-- block b has no codeword with index p, so no position is added
pub positions-pass : (c : BlockSizes) (p b : ℕ) (ts : List Position) → (IsPosition c (position p b) → ⊥) → PositionsBefore c p b ts → PositionsBefore c p (b + 1) ts
positions-pass c p b ts n h = search (arith, before-more, before-cases)

-- after the last block, the step goes on to the next index
pub positions-row : (c : BlockSizes) (p : ℕ) (ts : List Position) → PositionsBefore c p (block_count c) ts → PositionsBefore c (p + 1) 0 ts
positions-row c p ts h = search arith

-- a member of a list is contained in it
Contains-of-Mem : {X : Type 0} (xs : List X) (x : X) → Mem x xs → Contains xs x
Contains-of-Mem [] x m = absurd m
Contains-of-Mem (y ∷ ys) x (inl e) = (0, omega arith, e)
Contains-of-Mem (y ∷ ys) x (inr m) = let w = Contains-of-Mem ys x m in (suc w.0, (let l = w.1 in omega arith), w.2)

-- what holds of all items by recursion holds of each item
All-of-rec : {X : Type 0} (P : X → Type 0) (xs : List X) → AllByRecursion P xs → All P xs
All-of-rec P [] h k d l = absurd (omega arith)
All-of-rec P (x ∷ xs) h zero d l = h.0
All-of-rec P (x ∷ xs) h (suc k) d l = All-of-rec P xs h.1 k d (omega arith)

-- in a rising list, each pair of items is in order
pairs-of-Rises : {X : Type 0} (R : X → X → Type 0) (xs : List X) → Rises R xs → AllPairs R xs
pairs-of-Rises R [] h = λ i j d l m. absurd (omega arith)
pairs-of-Rises R (x ∷ xs) h = AllPairs-cons R x xs (All-of-rec (R x) xs h.0) (pairs-of-Rises R xs h.1)

-- no block has more codewords than a long block
pub len-most : (c : BlockSizes) (i : ℕ) → block_len c i ≤ c.short_len + 1
len-most c i = grind (arith, nat_tests)

-- after the last index, all positions are in the list
pub positions-end : (c : BlockSizes) (ts : List Position) → PositionsBefore c (c.short_len + 1) 0 ts → IsPositionOrder c ts
positions-end c ts h = record {
  in_blocks = All-of-rec _ ts (All-of-Mem _ ts (λ t m. (h.sound t m).0));
  complete = search (arith, Contains-of-Mem, len-most);
  rising = pairs-of-Rises _ ts h.rises;
}

-- ---- where blocks begin

-- the first block begins at the first codeword
pub start-none : (c : BlockSizes) → start_of c 0 ≡ 0
start-none c = omega arith

-- each block begins where the one before ends
pub start-next : (c : BlockSizes) (i : ℕ) → start_of c (i + 1) ≡ start_of c i + block_len c i
start-next c i = search (arith, mul-suc, nat_tests)

-- a later block does not begin before an earlier one
pub start-most : (c : BlockSizes) (i j : ℕ) → i ≤ j → start_of c i ≤ start_of c j
start-most c i j l = let m = mul-le-mul_left c.short_len l in omega arith

-- the codeword of a position is inside the message
pub position-in : (c : BlockSizes) (p b : ℕ) → IsPosition c (position p b) → start_of c b + p < codeword_count c
position-in c p b i = let e = start-next c b in let m = start-most c (b + 1) (block_count c) (let l = i.0 in omega arith) in let l = i.1 in omega arith

-- ---- the codewords of one block

-- the number of codewords in block i
pub part-len : (c : BlockSizes) (d : List ℕ) (i : ℕ) → length d ≡ codeword_count c → i < block_count c → length (part_of c d i) ≡ block_len c i
part-len c d i h l =
    let m = start-most c (i + 1) (block_count c) (omega arith) in
    search (arith, length-take, length-drop, start-next)

-- a block stays the same when other blocks are added after it
pub part-grown : (c : BlockSizes) (xs es : List ℕ) (i k : ℕ) → length xs ≡ start_of c k → i < k →
    part_of c (xs ++ es) i ≡ part_of c xs i
part-grown c xs es i k h l = search (arith, start-next, start-most, drop-append-le, take-append-le, length-drop)

-- the block that was added last
pub part-last : (c : BlockSizes) (xs es : List ℕ) (k : ℕ) → length xs ≡ start_of c k →
    length es ≡ block_len c k → part_of c (xs ++ es) k ≡ es
part-last c xs es k h l = search (arith, drop_at, take_all)

-- the codeword at a position, in its block
pub part-at : (c : BlockSizes) (d : List ℕ) (t : Position) → IsPosition c t → codeword_at c d t ≡ get_or (part_of c d t.block) t.index 0
part-at c d t i = search (arith, get_or-take, get_or-drop)
