-- Lists of squares.
use Rattle.std.proofs.Common.{◌≡◌, ◌∙◌, List, [], ◌∷◌, ◌++◌, append_assoc, ap, arith, false, refl, sym, true}
use Rattle.std.proofs.lemmas.List.{append-nil}
use Rattle.std.proofs.lemmas.List.Elements.{All-head, All-nil, All-push, All-tail}
use Rattle.std.specs.{List.{All}, Prelude.{IfOk, Result, Ok, Err}}
use Rattle.qr_scanning.specs.Scanning.{AreReadFirst}
use Rattle.qr_scanning.specs.declared.scanning.Scanned.{Scanned}

-- what is true of all items is true of the first
pub first-is : {X : Type 0} (P : X → Type 0) (x : X) (xs all : List X) → all ≡ x ∷ xs → All P all → P x
first-is P x xs all e are = All-head P x xs (rw e at are)

-- what is true of all items is true of those after the first
pub others-are : {X : Type 0} (P : X → Type 0) (x : X) (xs all : List X) → all ≡ x ∷ xs → All P all → All P xs
others-are P x xs all e are = All-tail P x xs (rw e at are)

-- what is true of all items and of one more is true of all with this one
pub one-more : {X : Type 0} (P : X → Type 0) (x : X) (xs all : List X) → all ≡ xs ++ x ∷ [] → All P xs → P x → All P all
one-more P x xs all e are is = rw e (All-push P xs x are is)

-- what is true of every value is true of a result
pub ok-always : {V E : Type 0} (r : Result V E) (P : V → Type 0) → ((v : V) → P v) → IfOk r P
ok-always (Ok v) P all = all v
ok-always (Err e) P all = tt

-- if all squares are read, those that are read come first
pub all-read-first : (all : List Scanned) → All (λ (s : Scanned). s.is_read ≡ true) all → AreReadFirst all
all-read-first all are = record { read = all; others = []; parts = sym (append-nil all); are_read = are; are_not = search (arith, All-nil) }

-- a square that is not read may come after them
pub unread-after : (s : Scanned) (xs all : List Scanned) → all ≡ xs ++ s ∷ [] → AreReadFirst xs → s.is_read ≡ false → AreReadFirst all
unread-after s xs all e first not = record {
  read = first.read;
  others = first.others ++ s ∷ [];
  parts = e ∙ ap (λ (ys : List Scanned). ys ++ s ∷ []) first.parts ∙ append_assoc first.read first.others (s ∷ []);
  are_read = first.are_read;
  are_not = All-push (λ (z : Scanned). z.is_read ≡ false) first.others s first.are_not not;
}

-- a square that is read, alone
pub one-read-first : (s : Scanned) (all : List Scanned) → all ≡ s ∷ [] → s.is_read ≡ true → AreReadFirst all
one-read-first s all e is = record {
  read = s ∷ [];
  others = [];
  parts = e;
  are_read = All-push (λ (z : Scanned). z.is_read ≡ true) [] s (search (arith, All-nil)) is;
  are_not = search (arith, All-nil);
}
