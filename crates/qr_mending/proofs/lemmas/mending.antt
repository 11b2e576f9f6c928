-- A square with damage is read as at most one content, and then it is not refused.
use Rattle.qr_bits.{proofs.Facts.fault-read, specs.{Bits.bits_of, Parsing.{Content, parse, IsResultOf}, declared.fault.ParseFault.ParseFault}}
use Rattle.{qr_layout.{proofs.Facts.laws-of, specs.declared.level.Level.Level}, qr_matrix.specs.Grid.Grid}
use Rattle.qr_mending.specs.declared.erasures.Changes.{Changes}
use Rattle.qr_mending.proofs.lemmas.{format.{near-one, each-copy, sure-one}, message.BlocksLemmas.beside-one}
use Rattle.qr_mending.specs.Format.{copy_cost, format_cost, IsNearFormat}
use Rattle.qr_mending.specs.Mending.{compared_cost, HasFormat, HoldsDamaged, IsBeyondMending, IsDamagedForm, IsMendedAs, IsMendedReading, IsOfNoUse, IsUnmended}
use Rattle.qr_mending.specs.{Message.IsMendedIn, Steps.Mending.{HoldsNone, IsMendedBy, IsMendedByEither, IsMendedWith}, declared.format.FormatCopy.FormatCopy}
use Rattle.qr_mending.specs.declared.{format.FormatCopy.TheVariants.{First, Second}, mending.MendedSquare.MendedSquare}
use Rattle.qr_symbol.{proofs.Facts.read-one, specs.{Fault.unread_for, Reading.IsRead, declared.fault.ReadFault.ReadFault}}
use Rattle.std.proofs.{Common.{◌≡◌, ◌⊎◌, ℕ, ◌<◌, ◌≤◌, List, refl, inl, inr, arith}, lemmas.Bool.cases_lt}
use Rattle.std.specs.Prelude.{Option, None, Some, Result, Ok, Err, IfSome, MatchOption}
use Rattle.qr_bits.specs.declared.fault.ParseFault.TheVariants as unparsed
use Rattle.qr_symbol.specs.declared.fault.ReadFault.TheVariants as fault

-- codewords are a damaged form of at most one message
pub mended-one : (unknown : Grid) (v : ℕ) (l : Level) → 1 ≤ v → v ≤ 40 → (cw m n : List ℕ) (x y : List Changes) →
    IsMendedIn unknown v l cw m x → IsMendedIn unknown v l cw n y → (m ≡ n) × (x ≡ y)
mended-one unknown v l h k cw m n x y p q =
    let w = laws-of l v h k in
    beside-one unknown v l cw m n x y (omega arith) p q

-- equal compared costs are those of one copy
compared-alike : (a b : FormatCopy) (m n : ℕ) → compared_cost a m ≡ compared_cost b n → a ≡ b
compared-alike a b m n e = grind arith

-- the copy beside a copy
abbrev pub beside : FormatCopy → FormatCopy
beside First = Second
beside Second = First

module _ (unknown g : Grid) where
  -- under one level and mask, a square contains a damaged form of at most one message
  damaged-one : (v : ℕ) (l : Level) (mask : ℕ) (m n : List ℕ) (x y : List Changes) → 1 ≤ v → v ≤ 40 →
      HoldsDamaged unknown v l mask g m x → HoldsDamaged unknown v l mask g n y → (m ≡ n) × (x ≡ y)
  damaged-one v l mask m n x y least most p q =
      let same = read-one v mask g p.codewords q.codewords p.held q.held in
      mended-one unknown v l least most q.codewords m n x y (rw same at p.mended) q.mended

  -- a square that contains damaged messages under two levels and masks has the same level and mask in both cases
  format-one : (v : ℕ) (l k : Level) (m n : ℕ) (p q : List ℕ) (x y : List Changes) → HasFormat unknown v g l m →
      HasFormat unknown v g k n →
      HoldsDamaged unknown v l m g p x → HoldsDamaged unknown v k n g q y → (l ≡ k) × (m ≡ n)
  format-one v l k m n p q x y a b h j =
      let same = compared-alike a.copy b.copy (format_cost unknown g l m) (format_cost unknown g k n)
      (omega (arith, a.least b.copy k n b.near q y j, b.least a.copy l m a.near p x h)) in
      near-one unknown a.copy g l k m n a.near (rw same b.near)

  -- a square is a damaged form of at most one symbol
  pub form-one : (v w : ℕ) (l k : Level) (m n : ℕ) (p q : List ℕ) (x y : List Changes) → IsDamagedForm unknown g v l m p x →
      IsDamagedForm unknown g w k n q y → (v ≡ w) × (l ≡ k) × (m ≡ n) × (p ≡ q) × (x ≡ y)
  form-one v w l k m n p q x y h j =
      let vs : v ≡ w = omega arith in
      let moved : IsDamagedForm unknown g v k n q y = rw vs j in
      let f = format-one v l k m n p q x y h.format moved.format h.damaged moved.damaged in
      let one = damaged-one v l m p q x y h.sized.least h.sized.most h.damaged (rw (f.0, f.1) moved.damaged) in
      (vs, f.0, f.1, one.0, one.1)

  -- the parse of the mended message of a square has at most one outcome
  outcome-one : (v w : ℕ) (l k : Level) (m n : ℕ) (p q : Result Content ParseFault) (x y : List Changes) →
      IsMendedAs unknown g v l m p x → IsMendedAs unknown g w k n q y → (v ≡ w) × (l ≡ k) × (m ≡ n) × (p ≡ q) × (x ≡ y)
  outcome-one v w l k m n p q x y h j =
      let o = form-one v w l k m n h.message j.message x y h.form j.form in
      (o.0, o.1, o.2, cc, o.4)

  -- a square with its damage mended is read as at most one content
  pub mended-reading-one : (v w : ℕ) (l k : Level) (m n : ℕ) (p q : Content) (x y : List Changes) →
      IsMendedReading unknown g v l m p x → IsMendedReading unknown g w k n q y → (v ≡ w) × (l ≡ k) × (m ≡ n) × (p ≡ q) × (x ≡ y)
  mended-reading-one v w l k m n p q x y h j =
      let o = outcome-one v w l k m n (Ok p) (Ok q) x y h j in
      (o.0, o.1, o.2, cc o.3, o.4)

  -- a damaged form is not beyond mending
  form-of-use : (v : ℕ) (l : Level) (m : ℕ) (p : List ℕ) (x : List Changes) → IsDamagedForm unknown g v l m p x →
      IsBeyondMending unknown g → ⊥
  form-of-use v l m p x h u =
      let vs : u.version ≡ v = omega arith in
      (rw vs at u.useless) h.format.copy l m h.format.near p x h.damaged

  -- a square that can be read with its damage mended is refused only for lack of memory
  pub mended-not-refused : (v : ℕ) (l : Level) (m : ℕ) (p : Content) (x : List Changes) (e : ReadFault) →
      IsMendedReading unknown g v l m p x → IsUnmended unknown g e → e ≡ fault.Memory
  mended-not-refused v l m p x fault.Memory h u = refl
  mended-not-refused v l m p x fault.Side h u = absurd (u v h.form.sized)
  mended-not-refused v l m p x fault.Format h u = let f = h.form.format in absurd (u.2 f.copy l m f.near)
  mended-not-refused v l m p x fault.Check h u = absurd (form-of-use v l m h.message x h.form u)
  mended-not-refused v l m p x (fault.Segments e) h u = let o = outcome-one v u.1 l u.2 m u.3 (Ok p) (Err e) x u.4 h
      u.5 in cc o.3
  mended-not-refused v l m p x fault.Series h u = absurd u

  -- two faults of the same square are equal, or one of them is lack of memory
  pub unmended-one : (e f : ReadFault) → IsUnmended unknown g e → IsUnmended unknown g f →
      (e ≡ fault.Memory) ⊎ ((f ≡ fault.Memory) ⊎ (e ≡ f))
  unmended-one fault.Memory f a b = inl refl
  unmended-one fault.Side fault.Memory a b = inr (inl refl)
  unmended-one fault.Side fault.Side a b = inr (inr refl)
  unmended-one fault.Side fault.Format a b = absurd (a b.0 b.1)
  unmended-one fault.Side fault.Check a b = absurd (a b.version b.sized)
  unmended-one fault.Side (fault.Segments y) a b = let w = b.5 in absurd (a b.1 w.form.sized)
  unmended-one fault.Side fault.Series a b = absurd b
  unmended-one fault.Format fault.Memory a b = inr (inl refl)
  unmended-one fault.Format fault.Side a b = absurd (b a.0 a.1)
  unmended-one fault.Format fault.Format a b = inr (inr refl)
  unmended-one fault.Format fault.Check a b = absurd (a.2 b.copy b.level b.mask b.format)
  unmended-one fault.Format (fault.Segments y) a b = let w = b.5 in absurd (a.2 w.form.format.copy b.2 b.3 w.form.format.near)
  unmended-one fault.Format fault.Series a b = absurd b
  unmended-one fault.Check fault.Memory a b = inr (inl refl)
  unmended-one fault.Check fault.Side a b = absurd (b a.version a.sized)
  unmended-one fault.Check fault.Format a b = absurd (b.2 a.copy a.level a.mask a.format)
  unmended-one fault.Check fault.Check a b = inr (inr refl)
  unmended-one fault.Check (fault.Segments y) a b = let w = b.5 in absurd (form-of-use b.1 b.2 b.3 w.message b.4 w.form a)
  unmended-one fault.Check fault.Series a b = absurd b
  unmended-one (fault.Segments x) fault.Memory a b = inr (inl refl)
  unmended-one (fault.Segments x) fault.Side a b = let w = a.5 in absurd (b a.1 w.form.sized)
  unmended-one (fault.Segments x) fault.Format a b = let w = a.5 in absurd (b.2 w.form.format.copy a.2 a.3 w.form.format.near)
  unmended-one (fault.Segments x) fault.Check a b = let w = a.5 in absurd (form-of-use a.1 a.2 a.3 w.message a.4 w.form b)
  unmended-one (fault.Segments x) (fault.Segments y) a b =
      let o = outcome-one a.1 b.1 a.2 b.2 a.3 b.3 (Err x) (Err y) a.4 b.4 a.5 b.5 in inr (inr (cc o.3))
  unmended-one (fault.Segments x) fault.Series a b = absurd b
  unmended-one fault.Series f a b = absurd a

  -- if the mended message cannot be parsed, the square is not mended
  pub mended-unparsed : (v : ℕ) (l : Level) (mask : ℕ) (message : List ℕ) (changed : List Changes) (e : ParseFault) →
      IsDamagedForm unknown g v l mask message changed → IsResultOf (Err e) (parse v (bits_of message)) → IsUnmended unknown g (unread_for e)
  mended-unparsed v l mask message changed unparsed.Memory h k = tt
  mended-unparsed v l mask message changed unparsed.BadMode h k = search (arith, fault-read)
  mended-unparsed v l mask message changed unparsed.Cut h k = search (arith, fault-read)
  mended-unparsed v l mask message changed unparsed.BadValue h k = search (arith, fault-read)

  -- not all blocks can be mended with a level and a mask if the codewords, read with these, are a damaged form of no
  -- message
  pub holds-none : (v : ℕ) (l : Level) (m : ℕ) (cw : List ℕ) → IsRead v m g cw →
      ((message : List ℕ) (changed : List Changes) → IsMendedIn unknown v l cw message changed → ⊥) → HoldsNone unknown v l m g
  holds-none v l m cw r none = λ message changed d.
      none message changed (rw (read-one v m g d.codewords cw d.held r) at d.mended)

  -- what `near_format_of` says of the level and mask of a copy
  abbrev pub NearOf : FormatCopy → Option (Level × ℕ) → Type 0
  NearOf copy near = MatchOption near ((l : Level) (mask : ℕ) → IsNearFormat unknown copy g l mask → ⊥)
      (λ f. IsNearFormat unknown copy g f.0 f.1)

  -- a copy is of no use if not all blocks can be mended with the level and mask that are near to it
  pub no-use : (copy : FormatCopy) (v : ℕ) (near : Option (Level × ℕ)) → NearOf copy near →
      IfSome near (λ f. HoldsNone unknown v f.0 f.1 g) → IsOfNoUse unknown copy v g
  no-use copy v None far none = λ k n h message changed d. far k n h
  no-use copy v (Some f) near none = λ k n h message changed d.
      let e = near-one unknown copy g k f.0 n f.1 h near in none message changed (rw (e.0, e.1) at d)

  -- what is mended with the level and mask that are near to a copy is mended by this copy
  pub mended-by : (copy : FormatCopy) (v : ℕ) (near : Option (Level × ℕ)) (o : Option MendedSquare) → NearOf copy near →
      IsMendedWith unknown v g near o → IsMendedBy unknown v g copy o
  mended-by copy v near None n h = no-use copy v near n h
  mended-by copy v near (Some m) n h = (rw h.0 at n, h.1)

  -- ---- the level and the mask of the least compared cost

  -- equal levels and masks near to one copy have one compared cost
  compared-same : (copy : FormatCopy) (l k : Level) (m n : ℕ) → IsNearFormat unknown copy g l m →
      IsNearFormat unknown copy g k n → compared_cost copy (format_cost unknown g l m) ≡ compared_cost copy (format_cost unknown g k n)
  compared-same copy l k m n h j = let e = near-one unknown copy g l k m n h j in rw (e.0, e.1)

  -- no level and mask that are near to a copy and mend the square have a lower compared cost
  abbrev NoneBelow : ℕ → ℕ → FormatCopy → Type 0
  NoneBelow cost v copy = (k : Level) (n : ℕ) → IsNearFormat unknown copy g k n → (message : List ℕ) (changed : List Changes) →
      HoldsDamaged unknown v k n g message changed → cost ≤ compared_cost copy (format_cost unknown g k n)

  -- if the other copy gives none of a lower compared cost, the level and the mask have the least compared cost
  pub best : (copy : FormatCopy) (v : ℕ) (l : Level) (m : ℕ) → IsNearFormat unknown copy g l m →
      NoneBelow (compared_cost copy (format_cost unknown g l m)) v (beside copy) → HasFormat unknown v g l m
  best First v l m f least = record {
    copy = First;
    near = f;
    least = each-copy (NoneBelow (compared_cost First (format_cost unknown g l m)) v)
        (λ k n h p x d. omega (arith, compared-same First l k m n f h)) least;
  }
  best Second v l m f least = record {
    copy = Second;
    near = f;
    least = each-copy (NoneBelow (compared_cost Second (format_cost unknown g l m)) v) least
        (λ k n h p x d. omega (arith, compared-same Second l k m n f h));
  }

  -- where both copies give a level and a mask that mend the square, the one of the lower compared cost
  pub best-of-two : (copy : FormatCopy) (v : ℕ) (l k : Level) (m n : ℕ) → IsNearFormat unknown copy g l m →
      IsNearFormat unknown (beside copy) g k n →
      compared_cost copy (format_cost unknown g l m) ≤ compared_cost (beside copy) (format_cost unknown g k n) →
      HasFormat unknown v g l m
  best-of-two copy v l k m n f s less = best copy v l m f (λ j i h p x d.
      omega (arith, compared-same (beside copy) k j n i s h))

  -- the first copy is of no use
  pub second-alone : (v : ℕ) (o : Option MendedSquare) → IsOfNoUse unknown First v g → IsMendedBy unknown v g Second o →
      IsMendedByEither unknown v g o
  second-alone v None useless h = each-copy (λ any. IsOfNoUse unknown any v g) useless h
  second-alone v (Some m) useless h =
      (best Second v m.level m.mask h.0 (λ k n f x y d. absurd (useless k n f x y d)), h.1)

  -- the second copy is of no use
  pub first-alone : (v : ℕ) (m : MendedSquare) → IsMendedBy unknown v g First (Some m) → IsOfNoUse unknown Second v g →
      IsMendedByEither unknown v g (Some m)
  first-alone v m h useless = (best First v m.level m.mask h.0 (λ k n f x y d. absurd (useless k n f x y d)), h.1)

  -- both copies yield the same
  pub both-alike : (v : ℕ) (o : Option MendedSquare) → IsMendedBy unknown v g First o → IsMendedBy unknown v g Second o →
      IsMendedByEither unknown v g o
  both-alike v None h j = each-copy (λ any. IsOfNoUse unknown any v g) h j
  both-alike v (Some m) h j = (best-of-two First v m.level m.level m.mask m.mask h.0 j.0 (omega arith), h.1)

  -- the second copy yields a level and a mask of less cost
  pub second-nearer : (v : ℕ) (m n : MendedSquare) → IsMendedBy unknown v g First (Some m) → IsMendedBy unknown v g Second (Some n) →
      format_cost unknown g n.level n.mask < format_cost unknown g m.level m.mask → IsMendedByEither unknown v g (Some n)
  second-nearer v m n h j less =
      (best-of-two Second v n.level m.level n.mask m.mask j.0 h.0 (omega arith), j.1)

  -- it does not
  pub first-nearer : (v : ℕ) (m n : MendedSquare) → IsMendedBy unknown v g First (Some m) → IsMendedBy unknown v g Second (Some n) →
      format_cost unknown g m.level m.mask ≤ format_cost unknown g n.level n.mask → IsMendedByEither unknown v g (Some m)
  first-nearer v m n h j less =
      (best-of-two First v m.level n.level m.mask n.mask h.0 j.0 (omega arith), h.1)

  -- ---- the promises

  -- every other level and mask cost more than 13, if these cost at most 13
  sure-least : (l k : Level) (m n : ℕ) → m < 8 → n < 8 → format_cost unknown g l m ≤ 13 →
      format_cost unknown g l m ≤ format_cost unknown g k n
  sure-least l k m n p q h = elim (cases_lt (format_cost unknown g k n) 14) [
    | inl a ↦ let e = sure-one unknown g l k m n p q h (omega arith) in rw (e.0, e.1) (omega arith)
    | inr b ↦ omega arith
  ]

  -- a pair of the first copy, where both copies cost at most 13
  pub sure-first : (v : ℕ) (l : Level) (m : ℕ) → IsNearFormat unknown First g l m →
      format_cost unknown g l m ≤ 13 → HasFormat unknown v g l m
  sure-first v l m f h = best First v l m f (λ k n q x y d. omega (arith, sure-least l k m n f.in_range q.in_range h))

  -- as `sure-first`, of a mended square
  pub certain-first : (v : ℕ) (o : Option MendedSquare) → IsMendedBy unknown v g First o →
      MatchOption o ⊥ (λ m. format_cost unknown g m.level m.mask ≤ 13) → IsMendedByEither unknown v g o
  certain-first v None h c = absurd c
  certain-first v (Some m) h c = (sure-first v m.level m.mask h.0 c, h.1)

  -- both copies cost at most 13
  pub sure-format : (v : ℕ) (l : Level) (m : ℕ) → m < 8 → format_cost unknown g l m ≤ 13 → HasFormat unknown v g l m
  sure-format v l m p h = elim (cases_lt (copy_cost unknown First g l m) 7) [
    | inl a ↦ sure-first v l m (record { in_range = p; near = omega arith }) h
    | inr b ↦ best Second v l m (record { in_range = p; near = omega arith }) (λ k n q x y d.
        elim (cases_lt (format_cost unknown g k n) 14) [
          | inl c ↦
              let e = sure-one unknown g l k m n p q.in_range h (omega (arith, c)) in
              absurd (omega (arith, rw (e.0, e.1) at b))
          | inr c ↦ omega (arith, c)
        ])
  ]

  -- a level and a mask near to the first copy have to be used if no other pair that is near to a copy mends the square
  alone-first : (v : ℕ) (l : Level) (m : ℕ) → IsNearFormat unknown First g l m →
      ((other : FormatCopy) (k : Level) (n : ℕ) → IsNearFormat unknown other g k n → (message : List ℕ) (changed : List Changes) →
      HoldsDamaged unknown v k n g message changed → (k ≡ l) × (n ≡ m)) → HasFormat unknown v g l m
  alone-first v l m f alone = best First v l m f (λ k n h q x d.
      let e = alone Second k n h q x d in rw (e.0, e.1) (omega arith))

  -- as `alone-first`, for a level and a mask that are near to either copy
  pub alone-format : (v : ℕ) (l : Level) (m : ℕ) (copy : FormatCopy) → IsNearFormat unknown copy g l m →
      ((other : FormatCopy) (k : Level) (n : ℕ) → IsNearFormat unknown other g k n → (message : List ℕ) (changed : List Changes) →
      HoldsDamaged unknown v k n g message changed → (k ≡ l) × (n ≡ m)) → HasFormat unknown v g l m
  alone-format v l m First f alone = alone-first v l m f alone
  alone-format v l m Second f alone = elim (cases_lt (copy_cost unknown First g l m) 7) [
    | inl a ↦ alone-first v l m (record { in_range = f.in_range; near = omega arith }) alone
    | inr b ↦ best Second v l m f (λ k n h q x d.
        let e = alone First k n h q x d in absurd (omega (arith, rw (e.0, e.1) at h.near)))
  ]
