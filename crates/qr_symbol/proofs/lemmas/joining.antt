-- Squares are read one by one, and are joined to one list of bytes or refused for one reason.
use Rattle.{qr_bits.specs.Parsing.Content, qr_matrix.specs.Grid.Grid, qr_symbol.proofs.lemmas.reading.RefusalLemmas.{FaultsAreOne, IsOneFault}}
use Rattle.qr_symbol.specs.Joining.{AreReadBy, HaveHeaders, IsFirstRefused, IsJoinedBy, IsNoSeries, IsUnjoined, IsUnjoinedBy, bytes_of_all}
use Rattle.qr_symbol.specs.{Reading.{IsReading, IsUnread}, Series.squares_of, declared.{fault.ReadFault.ReadFault, symbol.Symbol.Symbol}}
use Rattle.std.proofs.Common.{◌≡◌, ℕ, ◌+◌, ◌<◌, List, [], ◌∷◌, ◌++◌, take, drop, length, get_or, refl, sym, ◌∙◌, inl, inr, ◌⊎◌, arith}
use Rattle.std.{proofs.lemmas.List.{flat_map_more, take_more, take-append-drop, take-map, drop_more, get_or-map, length-map}, specs.Prelude.Some}
use Rattle.qr_symbol.specs.declared.fault.ReadFault.TheVariants as fault

-- ---- squares and contents, in turn

-- no squares are read as no contents
pub readings-none : (reads : Grid → Content → Type 0) → AreReadBy reads [] []
unfolding AreReadBy
readings-none reads = tt

-- one more square is read
readings-push : (reads : Grid → Content → Type 0) (gs : List Grid) (cs : List Content) (g : Grid) (c : Content) → AreReadBy reads gs cs → reads g c → AreReadBy reads (gs ++ g ∷ []) (cs ++ c ∷ [])
unfolding AreReadBy
readings-push reads [] [] g c a h = (h, tt)
readings-push reads (f ∷ gs) (d ∷ cs) g c a h = (a.0, readings-push reads gs cs g c a.1 h)
readings-push reads gs cs g c a h = search arith

-- if all squares before one are read and this one is refused, it is the first that is refused
first-unread : (reads : Grid → Content → Type 0) (refuses : Grid → ReadFault → Type 0) (gs rest : List Grid) (cs : List Content) (g : Grid) (e : ReadFault) → AreReadBy reads gs cs → refuses g e → IsFirstRefused reads refuses (gs ++ g ∷ rest) e
unfolding AreReadBy IsFirstRefused
first-unread reads refuses [] rest [] g e a u = inl u
first-unread reads refuses (f ∷ gs) rest (c ∷ cs) g e a u = inr (c, a.0, first-unread _ _ gs _ cs g e a.1 u)
first-unread reads refuses gs rest cs g e a u = search arith

-- one more square of a list is read, stated by its index
pub readings-next : (reads : Grid → Content → Type 0) (gs : List Grid) (i : ℕ) (g : Grid) (cs : List Content) (c : Content) → i < length gs → g ≡ get_or gs i g → AreReadBy reads (take i gs) cs → reads g c → AreReadBy reads (take (i + 1) gs) (cs ++ c ∷ [])
readings-next reads gs i g cs c l e a h = search (arith, take_more, readings-push)

-- the square of the symbol with index i
square-at : (ss : List Symbol) (i : ℕ) (s : Symbol) → i < length ss → s ≡ get_or ss i s → (i < length (squares_of ss)) × (s.matrix ≡ get_or (squares_of ss) i s.matrix)
square-at ss i s l e = search (arith, length-map, get_or-map)

-- the squares of the first symbols
squares-taken : (ss : List Symbol) (i : ℕ) → squares_of (take i ss) ≡ take i (squares_of ss)
squares-taken ss i = sym (take-map (λ (x : Symbol). x.matrix) i ss)

-- one more symbol is read
pub readings-more : (ss : List Symbol) (i : ℕ) (s : Symbol) (cs : List Content) (c : Content) → i < length ss → s ≡ get_or ss i s → AreReadBy IsReading (squares_of (take i ss)) cs → IsReading s.matrix c → AreReadBy IsReading (squares_of (take (i + 1) ss)) (cs ++ c ∷ [])
readings-more ss i s cs c l e a h = let at = square-at ss i s l e in search (arith, squares-taken, readings-next)

-- the bytes of one more content follow
pub bytes-more : (cs : List Content) (i : ℕ) (c : Content) (xs : List ℕ) → i < length cs → c ≡ get_or cs i c → xs ≡ bytes_of_all (take i cs) → xs ++ c.bytes ≡ bytes_of_all (take (i + 1) cs)
bytes-more cs i c xs l e h = rw (take_more cs i c l, ← e, h) (flat_map_more (λ (d : Content). d.bytes) [] (take i cs) c)

-- ---- the first fault

-- squares that are read as contents, or refused for faults, of which `Series` is none
module _ (reads : Grid → Content → Type 0) (refuses : Grid → ReadFault → Type 0) (other : (g : Grid) → refuses g fault.Series → ⊥) where
  -- no square is refused because of `Series`
  never-series : (gs : List Grid) → IsFirstRefused reads refuses gs fault.Series → ⊥
  unfolding IsFirstRefused
  never-series [] u = u
  never-series (g ∷ gs) (inl u) = other g u
  never-series (g ∷ gs) (inr w) = never-series gs w.2

  -- for the fault of the first square that is not read, the squares are not joined
  unread-unjoined : (gs : List Grid) (e : ReadFault) → IsFirstRefused reads refuses gs e → IsUnjoinedBy reads refuses gs e
  unread-unjoined gs fault.Memory u = tt
  unread-unjoined gs fault.Series u = absurd (never-series gs u)
  unread-unjoined gs e u = u

  -- if all squares before one are read and this one is refused for a fault, the squares are not joined because of this
  -- fault
  pub unjoined-next : (gs : List Grid) (i : ℕ) (g : Grid) (cs : List Content) (e : ReadFault) → i < length gs → g ≡ get_or gs i g → AreReadBy reads (take i gs) cs → refuses g e → IsUnjoinedBy reads refuses gs e
  unjoined-next gs i g cs e l p a u =
      let around : gs ≡ take i gs ++ g ∷ drop (i + 1) gs = cc (take-append-drop i gs, drop_more gs i g l) in
      search (arith, unread-unjoined, first-unread)

-- if all symbols before one are read and this one is refused for a fault, they are not joined because of this fault
pub unjoined-at : (ss : List Symbol) (i : ℕ) (s : Symbol) (cs : List Content) (e : ReadFault) → i < length ss → s ≡ get_or ss i s → AreReadBy IsReading (squares_of (take i ss)) cs → IsUnread s.matrix e → IsUnjoined (squares_of ss) e
unjoined-at ss i s cs e l p a u = let at = square-at ss i s l p in search (arith, unjoined-next, squares-taken)

-- ---- the headers of a series

-- if the contents from position k on have their headers, so have those from k + 1 on, and content k has its header
pub headers-next : (last parity k : ℕ) (cs : List Content) (c : Content) → k < length cs → c ≡ get_or cs k c → HaveHeaders last parity k (drop k cs) → (c.header ≡ Some (record { position = k; last = last; parity = parity })) × HaveHeaders last parity (k + 1) (drop (k + 1) cs)
unfolding HaveHeaders
headers-next last parity k cs c l e h = search (arith, drop_more)

-- ---- squares are joined to one list of bytes

readings-one : (reads : Grid → Content → Type 0) → ((g : Grid) (c d : Content) → reads g c → reads g d → c ≡ d) → (gs : List Grid) (cs ds : List Content) → AreReadBy reads gs cs → AreReadBy reads gs ds → cs ≡ ds
unfolding AreReadBy
readings-one reads same (g ∷ gs) (c ∷ cs) (d ∷ ds) a b = search (arith, readings-one reads same gs cs ds a.1 b.1)
readings-one reads same gs cs ds a b = search arith

pub joining-one : (reads : Grid → Content → Type 0) → ((g : Grid) (c d : Content) → reads g c → reads g d → c ≡ d) → (gs : List Grid) (x y : List ℕ) → IsJoinedBy reads gs x → IsJoinedBy reads gs y → x ≡ y
joining-one reads same gs x y h k = search (arith, readings-one)

-- ---- and are refused for one reason

-- squares that are read are refused only for lack of memory
module _ (reads : Grid → Content → Type 0) (refuses : Grid → ReadFault → Type 0) (never : (g : Grid) (c : Content) (e : ReadFault) → reads g c → refuses g e → e ≡ fault.Memory) where
  -- if all squares are read, none of them is refused, except for lack of memory
  read-unread : (gs : List Grid) (cs : List Content) (e : ReadFault) → AreReadBy reads gs cs → IsFirstRefused reads refuses gs e → e ≡ fault.Memory
  unfolding AreReadBy IsFirstRefused
  read-unread (g ∷ gs) (c ∷ cs) e a (inl u) = never g c e a.0 u
  read-unread (g ∷ gs) (c ∷ cs) e a (inr w) = read-unread gs cs e a.1 w.2
  read-unread gs cs e a u = search arith

  -- two first faults of the same squares are equal, or one of them is lack of memory
  first-one : ((g : Grid) → FaultsAreOne (refuses g)) → (gs : List Grid) → FaultsAreOne (IsFirstRefused reads refuses gs)
  unfolding IsFirstRefused
  first-one same [] e f u v = absurd u
  first-one same (g ∷ gs) e f (inl u) (inl v) = same g e f u v
  first-one same (g ∷ gs) e f (inl u) (inr z) = inl (never g z.0 e z.1 u)
  first-one same (g ∷ gs) e f (inr w) (inl v) = inr (inl (never g w.0 f w.1 v))
  first-one same (g ∷ gs) e f (inr w) (inr z) = first-one same gs e f w.2 z.2

  -- a fault for which squares are not joined is lack of memory, the first fault of a square, or `Series`
  abbrev Why : List Grid → ReadFault → Type 0
  Why gs e = (e ≡ fault.Memory) ⊎ (IsFirstRefused reads refuses gs e ⊎ ((e ≡ fault.Series) × IsNoSeries reads gs))

  told : (gs : List Grid) (e : ReadFault) → IsUnjoinedBy reads refuses gs e → Why gs e
  told gs fault.Memory u = inl refl
  told gs fault.Series u = inr (inr (refl, u))
  told gs e u = inr (inl u)

  -- squares that are joined to bytes are refused only for lack of memory
  pub joined-refused : ((g : Grid) (c d : Content) → reads g c → reads g d → c ≡ d) → (gs : List Grid) (x : List ℕ) (e : ReadFault) → IsJoinedBy reads gs x → IsUnjoinedBy reads refuses gs e → e ≡ fault.Memory
  joined-refused same gs x e h u = search (arith, told, read-unread, readings-one)

  -- two faults of the same squares are equal, or one of them is lack of memory
  pub unjoined-one : ((g : Grid) → FaultsAreOne (refuses g)) → (gs : List Grid) → FaultsAreOne (IsUnjoinedBy reads refuses gs)
  unjoined-one same gs e f u v = by_told (told gs e u) (told gs f v)
    where
      by_told : Why gs e → Why gs f → IsOneFault e f
      by_told (inl a) q = inl a
      by_told _ (inl b) = inr (inl b)
      by_told (inr (inl a)) (inr (inl b)) = first-one same gs e f a b
      by_told (inr (inl a)) (inr (inr b)) = inl (read-unread gs _ e b.1.read a)
      by_told (inr (inr a)) (inr (inl b)) = inr (inl (read-unread gs _ f a.1.read b))
      by_told (inr (inr a)) (inr (inr b)) = inr (inr (a.0 ∙ sym b.0))
