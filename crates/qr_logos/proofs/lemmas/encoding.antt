-- The version and the level of a symbol that may have a logo: what is known of the sizes that were tried.
use Rattle.qr_bits.proofs.Facts.{capacity-least, empty-fits, least_fits}
use Rattle.qr_bits.specs.{Interpretation.interpretation_bits, Modes.count_width, Padding.capacity_of, Segmentation.{bits, IsLeastSegmentation}}
use Rattle.qr_bits.specs.declared.{interpretation.Interpretation.Interpretation, modes.{Mode.Mode, Rule.Rule}, segmentation.Segment.Segment}
use Rattle.qr_layout.{proofs.Facts.below-at, specs.{Blocks.{block_count_of, correction_len_of, data_codewords_of}, Version.total_codewords_of}}
use Rattle.qr_layout.specs.declared.level.Level.{Level, TheVariants.{L, M, Q, H}}
use Rattle.qr_logos.proofs.lemmas.logo.LargestLemmas.{allowed-none}
use Rattle.qr_logos.specs.{Encoding.{IsLogoSize, IsLogoSymbol, MayCarry}, Logo.{IsAllowed}, Steps.Encoding.{AreLogoFaults, AreNeeded, IsTriedAfter}}
use Rattle.qr_logos.specs.declared.fault.LogoFault.{LogoFault}
use Rattle.qr_matrix.specs.Grid.{Grid}
use Rattle.qr_logos.specs.Fault.{encode_fault_of}
use Rattle.qr_symbol.specs.declared.fault.EncodeFault.{EncodeFault}
use Rattle.qr_symbol.{proofs.Facts.{symbol-one, version-short}, specs.Encoding.IsSymbol, specs.VersionChoice.{FitsVersion, HasNoVersion, level_rank}}
use Rattle.std.proofs.Common.{◌≡◌, ◌≢◌, ℕ, ◌+◌, ◌-◌, ◌<◌, ◌≤◌, ◌⊎◌, ◌↔◌, inl, inr, Bool, true, ◌&&◌, leb, List, [], ◌∷◌, length, Result, Ok, Err, refl, sym, ap, subst, arith}
use Rattle.std.proofs.lemmas.Bool.{and_parts, cases_lt}
use borrow.Author.Tests.{leb-true}
use Rattle.qr_logos.specs.declared.fault.LogoFault.TheVariants as fault
use Rattle.qr_symbol.specs.declared.fault.EncodeFault.TheVariants as unencoded

-- ---- bits

-- segments have the same number of bits in versions in which counts have the same widths
bits-same : (u v : ℕ) → ((m : Mode) → count_width u m ≡ count_width v m) → (segs : List Segment) → bits u segs ≡ bits v segs
bits-same u v same [] = refl
bits-same u v same (s ∷ ss) = omega (arith, same s.mode, bits-same u v same ss)

segmentation-same : (u v : ℕ) (rule : Rule) (how : Interpretation) (xs ys : List ℕ) (segs : List Segment) → ((m : Mode) → count_width u m ≡ count_width v m)
    → IsLeastSegmentation how u rule xs ys segs → IsLeastSegmentation how v rule xs ys segs
segmentation-same u v rule how xs ys segs same h = search (arith, bits-same)

interpretation-most : (how : Interpretation) → interpretation_bits how ≤ 28
interpretation-most how = grind arith

-- the segments of the input tell which versions it fits
pub needed : (u : ℕ) (rule : Rule) (how : Interpretation) (xs ys : List ℕ) (segs : List Segment)
    → IsLeastSegmentation how u rule xs ys segs → AreNeeded rule how xs u (interpretation_bits how + bits u segs)
needed u rule how xs ys segs h v l p q same =
    search (arith, bits-same, least_fits, segmentation-same, capacity-least, interpretation-most)

-- so do they in a version in which counts have the same widths
pub needed-next : (u v n : ℕ) (rule : Rule) (how : Interpretation) (xs : List ℕ) → ((m : Mode) → count_width v m ≡ count_width u m)
    → AreNeeded rule how xs u n → AreNeeded rule how xs v n
needed-next u v n rule how xs same h w l p q e = h w l p q (λ m. cc (e m, same m))

-- ---- levels

-- in version `v` no level has fewer data codewords than the next higher one
falls : ℕ → Bool
falls v =
    leb (data_codewords_of v M) (data_codewords_of v L) && (leb (data_codewords_of v Q) (data_codewords_of v M)
    && leb (data_codewords_of v H) (data_codewords_of v Q))

falls-at : (v : ℕ) → 1 ≤ v → v ≤ 40 → (data_codewords_of v M ≤ data_codewords_of v L) × (data_codewords_of v Q ≤ data_codewords_of v M) × (data_codewords_of v H ≤ data_codewords_of v Q)
unfolding falls data_codewords_of total_codewords_of block_count_of correction_len_of
falls-at v a b =
    let e : v - 1 + 1 ≡ v = omega arith in
    let all : falls v ≡ true = rw e at (below-at 40 (λ i. falls (i + 1)) (search arith) (v - 1) (omega arith)) in
    let first = and_parts (leb (data_codewords_of v M) (data_codewords_of v L)) _ all in
    let rest = and_parts (leb (data_codewords_of v Q) (data_codewords_of v M)) _ first.1 in
    (leb-true _ _ first.0, leb-true _ _ rest.0, leb-true _ _ rest.1)

capacity-falls : (v : ℕ) (l k : Level) → 1 ≤ v → v ≤ 40 → level_rank l ≤ level_rank k → capacity_of v k ≤ capacity_of v l
capacity-falls v l k a b h = grind (arith, falls-at v a b)

-- what fits a level fits each lower one
fits-lower : (v : ℕ) (l k : Level) (rule : Rule) (how : Interpretation) (xs : List ℕ) → 1 ≤ v → v ≤ 40 → level_rank l ≤ level_rank k
    → FitsVersion v k rule how xs → FitsVersion v l rule how xs
fits-lower v l k rule how xs a b h fits = (fits.0, fits.1, omega (arith, fits.2, capacity-falls v l k a b h))

-- ---- the sizes that were tried

-- size (u, m) is tried before size (v, l)
abbrev pub IsBefore : (u : ℕ) (m : Level) (v : ℕ) (l : Level) → Type 0
IsBefore u m v l = (u < v) ⊎ ((u ≡ v) × (level_rank l < level_rank m))

-- what is asked for: the least version, the lowest level, the modes and the share
module _ (smallest : ℕ) (lowest : Level) (rule : Rule) (how : Interpretation) (x : List ℕ) (share : ℕ) where
  abbrev pub Carries : (k v : ℕ) (l : Level) → Type 0
  Carries k v l = MayCarry smallest lowest rule how x share k v l

  -- each logo that is allowed in a size that is tried before (v, l) has a side of less than `above`
  abbrev pub AreBelow : (above v : ℕ) (l : Level) → Type 0
  AreBelow above v l = (k u : ℕ) (m : Level) → Carries k u m → IsBefore u m v l → k < above

  -- if `above` is not 0, a logo with one module less on a side is allowed
  abbrev pub IsReached : (above : ℕ) → Type 0
  IsReached above = (above ≡ 0) ⊎ ((v : ℕ) × (l : Level) × Carries (above - 1) v l)

  -- at first, no size has been tried
  pub below-start : AreBelow 0 smallest H
  below-start k u m c (inl less) = absurd (omega (arith, c.least))
  below-start k u L c (inr same) = absurd (omega (arith, same.1))
  below-start k u M c (inr same) = absurd (omega (arith, same.1))
  below-start k u Q c (inr same) = absurd (omega (arith, same.1))
  below-start k u H c (inr same) = absurd (omega (arith, same.1))

  -- each logo that is allowed in size (v, l) or in a size that is tried before has a side of less than `above`
  abbrev pub AreBelowThrough : (above v : ℕ) (l : Level) → Type 0
  AreBelowThrough above v l = (k u : ℕ) (m : Level) → Carries k u m → ((u ≡ v) × (m ≡ l)) ⊎ IsBefore u m v l → k < above

  -- each logo that is allowed has a side of less than `above`
  abbrev pub AreAllBelow : (above : ℕ) → Type 0
  AreAllBelow above = (k u : ℕ) (m : Level) → Carries k u m → k < above

  -- the input does not fit the size
  pub through-unfit : (above v : ℕ) (l : Level) → AreBelow above v l → (FitsVersion v l rule how x → ⊥) → AreBelowThrough above v l
  through-unfit above v l all none k u m c (inl here) = absurd (none (rw (← here.0, ← here.1) c.fits))
  through-unfit above v l all none k u m c (inr before) = all k u m c before

  -- the input fits the size, and its logos are smaller
  pub through-fit : (above v : ℕ) (l : Level) (new : ℕ) → AreBelow above v l → above ≤ new
      → ((other : ℕ) → IsAllowed v l share other → other < new) → AreBelowThrough new v l
  through-fit above v l new all a most k u m c (inl here) = most k (rw (← here.0, ← here.1) c.allowed)
  through-fit above v l new all a most k u m c (inr before) = omega (arith, all k u m c before)

  -- before the next size are this one and those before it
  before-next : (v u w : ℕ) (l m n : Level) → level_rank lowest ≤ level_rank l → level_rank lowest ≤ level_rank m
      → IsTriedAfter lowest (record { version = v; level = l }) (record { version = w; level = n })
      → IsBefore u m w n → ((u ≡ v) × (m ≡ l)) ⊎ IsBefore u m v l
  before-next v u w l m n low lower after before = grind arith

  pub below-next : (above v w : ℕ) (l n : Level) → level_rank lowest ≤ level_rank l → AreBelowThrough above v l
      → IsTriedAfter lowest (record { version = v; level = l }) (record { version = w; level = n }) → AreBelow above w n
  below-next above v w l n low all after k u m c before = all k u m c (before-next v u w l m n low c.level after before)

  -- after the last size all were tried
  before-last : (u : ℕ) (m : Level) → u ≤ 40 → level_rank lowest ≤ level_rank m → ((u ≡ 40) × (m ≡ lowest)) ⊎ IsBefore u m 40 lowest
  before-last u m most low = grind arith

  pub all-below : (above : ℕ) → AreBelowThrough above 40 lowest → AreAllBelow above
  all-below above all k u m c = all k u m c (before-last u m c.most c.level)

  -- the logo before the first that a size refuses is reached
  pub reached-next : (above v : ℕ) (l : Level) (new : ℕ) → IsReached above → smallest ≤ v → v ≤ 40 → level_rank lowest ≤ level_rank l
      → FitsVersion v l rule how x → above ≤ new → (above < new → IsAllowed v l share (new - 1)) → IsReached new
  reached-next above v l new r a b low fits more allowed = elim (cases_lt above new) [
    | inl less ↦ inr (
      v,
      l,
      record {
        least = a;
        most = b;
        level = low;
        fits = fits;
        allowed = allowed less;
      },
    )
    | inr less ↦ let same : new ≡ above = omega arith in rw same r
  ]

  -- a size is found if it allows the logo, and those before it do not
  pub size-found : (above k v : ℕ) (l : Level) → AreBelow above v l → above ≤ k → smallest ≤ v → v ≤ 40 → level_rank lowest ≤ level_rank l
      → FitsVersion v l rule how x → IsAllowed v l share k → IsLogoSize smallest lowest rule how x share k v l
  size-found above k v l all few a b low fits allowed = record {
    carries = record {
      least = a;
      most = b;
      level = low;
      fits = fits;
      allowed = allowed;
    };
    first = λ u m c. elim (cases_lt u v) [
      | inl less ↦ absurd (omega (arith, all k u m c (inl less)))
      | inr less ↦ less
    ];
    highest = λ m c. elim (cases_lt (level_rank l) (level_rank m)) [
      | inl less ↦ absurd (omega (arith, all k v m c (inr (refl, less))))
      | inr less ↦ less
    ];
  }

  -- the symbol that is made with the size has this size
  pub logo-symbol : (k v w : ℕ) (l m : Level) (mask : ℕ) (g : Grid) → IsLogoSize smallest lowest rule how x share k v l → m ≡ l
      → IsSymbol v l rule how x w mask g → IsLogoSymbol smallest lowest rule how x share k w m mask g
  logo-symbol k v w l m mask g size level is =
      let same : w ≡ v = elim (cases_lt v w) [
        | inl less ↦ absurd (is.version.first v (omega arith) less size.carries.fits)
        | inr less ↦ omega (arith, is.version.least)
      ] in
      record {
        size = rw (same, level) size;
        symbol = rw (same, level) (rw same at is);
      }

  -- an input that has a size fits a version at the lowest level
  pub size-fits : (k v : ℕ) (l : Level) → 1 ≤ smallest → IsLogoSize smallest lowest rule how x share k v l
      → HasNoVersion smallest lowest rule how x → ⊥
  size-fits k v l one h none =
      none v h.carries.least h.carries.most (fits-lower v lowest l rule how x (omega (arith, one, h.carries.least)) h.carries.most h.carries.level h.carries.fits)

  -- ---- faults

  abbrev pub Faults : {X : Type 0} → (k : ℕ) → Result X LogoFault → Type 0
  Faults k r = AreLogoFaults smallest lowest rule how x share k r

  -- an input that has a size has no fault
  pub faults-none : {X : Type 0} (k v : ℕ) (l : Level) (s : X) → 1 ≤ smallest → (x ≡ [] → ⊥) → length x ≤ 7089
      → IsLogoSize smallest lowest rule how x share k v l → Faults k (Ok s)
  faults-none k v l s one some short h = record {
    empty = (λ e. absurd cc, λ none. absurd (some none));
    too_long = (λ e. absurd cc, λ w. absurd (size-fits k v l one h w.1));
    long = λ more. absurd (omega arith);
    logo = λ n. (λ e. absurd cc, λ w. absurd (omega (arith, w.2.largest k v l h.carries, w.3)));
    fault = tt;
  }

  -- a fault stays the same fault of another call
  pub faults-again : {X Y : Type 0} (k : ℕ) (e : LogoFault) → Faults {X = X} k (Err e) → Faults {X = Y} k (Err e)
  faults-again k e h = record {
    empty = (λ p. h.empty.0 (cc), λ none. let q = h.empty.1 none in cc);
    too_long = (λ p. let w = h.too_long.0 (cc) in (λ m. w.0 (cc), w.1), λ w. let q = h.too_long.1 (λ m. w.0 (cc), w.1) in cc);
    long = λ more. let q = h.long more in cc;
    logo = λ n. (
      λ p. let w = (h.logo n).0 (cc) in (λ m. w.0 (cc), w.1, w.2, w.3),
      λ w. let q = (h.logo n).1 (λ m. w.0 (cc), w.1, w.2, w.3) in cc,
    );
    fault = h.fault;
  }

  -- if the input has a size, its symbol has no fault
  pub faults-symbol : {X Y : Type 0} (k : ℕ) (s : X) (t : Y) → Faults k (Ok s) → Faults k (Ok t)
  faults-symbol k s t h = record {
    empty = (λ e. absurd cc, λ none. let e = h.empty.1 none in absurd cc);
    too_long = (λ e. absurd cc, λ w. let e = h.too_long.1 (λ m. cc, w.1) in absurd cc);
    long = λ more. let e = h.long more in absurd cc;
    logo = λ n. (λ e. absurd cc, λ w. let e = (h.logo n).1 (λ m. cc, w.1, w.2, w.3) in absurd cc);
    fault = tt;
  }

  -- lack of memory refuses no input that is empty or too long
  pub faults-memory : {X : Type 0} (k : ℕ) → (x ≡ [] → ⊥) → length x ≤ 7089 → Faults {X = X} k (Err fault.Memory)
  faults-memory k some short = record {
    empty = (λ e. absurd cc, λ none. absurd (some none));
    too_long = (λ e. absurd cc, λ w. absurd (w.0 refl));
    long = λ more. absurd (omega arith);
    logo = λ n. (λ e. absurd cc, λ w. absurd (w.0 refl));
    fault = inr (inr (inr refl));
  }

  -- at the size that was found, the input is refused for lack of memory alone
  pub memory-alone : {X Y : Type 0} (k v : ℕ) (l : Level) (s : X) (r : Result Y EncodeFault) (e : EncodeFault) → Faults k (Ok s)
      → IsLogoSize smallest lowest rule how x share k v l → r ≡ Err e
      → (e ≡ unencoded.Empty) ⊎ (e ≡ unencoded.TooLong) ⊎ (e ≡ unencoded.Memory) → ((r ≡ Err unencoded.Empty) ↔ (x ≡ []))
      → ((r ≡ Err unencoded.TooLong) ↔ ((r ≢ Err unencoded.Memory) × HasNoVersion v l rule how x)) → encode_fault_of e ≡ fault.Memory
  memory-alone k v l s r e h size is (inl none) empty long = let p = h.empty.1 (empty.0 (cc)) in absurd cc
  memory-alone k v l s r e h size is (inr (inl more)) empty long = absurd ((long.0 (cc)).1 v (omega arith) size.carries.most size.carries.fits)
  memory-alone k v l s r e h size is (inr (inr memory)) empty long = rw memory refl

  -- an input that has a size is refused for lack of memory alone
  pub faults-refused : {X Y : Type 0} (k : ℕ) (s : X) → Faults k (Ok s) → Faults {X = Y} k (Err fault.Memory)
  faults-refused k s h = record {
    empty = (λ e. absurd cc, λ none. let e = h.empty.1 none in absurd cc);
    too_long = (λ e. absurd cc, λ w. absurd (w.0 refl));
    long = λ more. let e = h.long more in absurd cc;
    logo = λ n. (λ e. absurd cc, λ w. absurd (w.0 refl));
    fault = inr (inr (inr refl));
  }

  pub faults-empty : {X : Type 0} (k : ℕ) → smallest ≤ 40 → x ≡ [] → Faults {X = X} k (Err fault.Empty)
  faults-empty k most none = record {
    empty = (λ e. none, λ none. refl);
    too_long = (λ e. absurd cc, λ w. absurd (w.1 smallest (omega arith) most (subst (FitsVersion smallest lowest rule how) (sym none) (empty-fits how smallest rule _))));
    long = λ more. absurd (omega (arith, ap length none));
    logo = λ n. (λ e. absurd cc, λ w. absurd (w.1 none));
    fault = inl refl;
  }

  -- an input of more than 7,089 bytes fits no size
  pub faults-long : {X : Type 0} (k : ℕ) → 1 ≤ smallest → 7089 < length x → Faults {X = X} k (Err fault.TooLong)
  faults-long k one long = record {
    empty = (λ e. absurd cc, λ none. absurd (omega (arith, ap length none)));
    too_long = (λ e. (λ m. cc, λ v a b fits. omega (arith, version-short v lowest rule how x (omega arith) b fits)), λ w. refl);
    long = λ more. refl;
    logo = λ n. (λ e. absurd cc, λ w. absurd (omega (arith, version-short w.2.version w.2.level rule how x (omega (arith, w.2.carries.least)) w.2.carries.most w.2.carries.fits)));
    fault = inr (inl refl);
  }

  -- if even a logo without modules is not allowed, the input fits no size
  pub faults-unfit : {X : Type 0} (k : ℕ) → 1 ≤ smallest → (x ≡ [] → ⊥) → AreAllBelow 0 → Faults {X = X} k (Err fault.TooLong)
  faults-unfit k one some all = record {
    empty = (λ e. absurd cc, λ none. absurd (some none));
    too_long = (
      λ e. (
        λ m. cc,
        λ v a b fits. omega (
          arith,
          all 0 v lowest (record {
            least = a;
            most = b;
            level = omega arith;
            fits = fits;
            allowed = allowed-none v lowest share (omega arith) b;
          }),
        ),
      ),
      λ w. refl,
    );
    long = λ more. refl;
    logo = λ n. (λ e. absurd cc, λ w. absurd (omega (arith, all n w.2.version w.2.level w.2.carries)));
    fault = inr (inl refl);
  }

  -- the largest logo is too small
  pub faults-logo : {X : Type 0} (k above : ℕ) → 1 ≤ smallest → (x ≡ [] → ⊥) → length x ≤ 7089 → above ≢ 0 → above ≤ k → IsReached above → AreAllBelow above
      → Faults {X = X} k (Err (fault.Logo (above - 1)))
  faults-logo k above one some short more few (inl none) all = absurd (more none)
  faults-logo k above one some short more few (inr w) all = record {
    empty = (λ e. absurd cc, λ none. absurd (some none));
    too_long = (λ e. absurd cc, λ h. absurd (h.1 w.0 w.2.least w.2.most (fits-lower w.0 lowest w.1 rule how x (omega (arith, w.2.least)) w.2.most w.2.level w.2.fits)));
    long = λ long. absurd (omega arith);
    logo = λ n. (
      λ e. let same : n ≡ above - 1 = grind arith in (
        λ m. cc,
        some,
        rw same (record {
          version = w.0;
          level = w.1;
          carries = w.2;
          largest = λ other u m c. omega (arith, all other u m c);
        }),
        omega arith,
      ),
      λ h. ap (λ (j : ℕ). Err (fault.Logo j)) (omega (arith, h.2.largest (above - 1) w.0 w.1 w.2, all n h.2.version h.2.level h.2.carries)),
    );
    fault = inr (inr (inl (above - 1, refl)));
  }

-- ---- one symbol

-- levels of one rank are equal
rank-one : (k j : Level) → level_rank k ≡ level_rank j → k ≡ j
rank-one k j e = grind arith

-- An input has at most one symbol with a logo.
pub logo-symbol-one : (smallest : ℕ) (lowest : Level) (rule : Rule) (how : Interpretation) (x : List ℕ) (share k v w : ℕ) (l j : Level) (m n : ℕ) (g h : Grid)
    → IsLogoSymbol smallest lowest rule how x share k v l m g → IsLogoSymbol smallest lowest rule how x share k w j n h
    → (v ≡ w) × (l ≡ j) × (m ≡ n) × (g ≡ h)
logo-symbol-one smallest lowest rule how x share k v w l j m n g h a b =
    let version : v ≡ w = omega (arith, a.size.first w j b.size.carries, b.size.first v l a.size.carries) in
    let level : l ≡ j = rank-one l j (omega (
      arith,
      a.size.highest j (rw version b.size.carries),
      b.size.highest l (rw (← version) a.size.carries),
    )) in
    let rest = symbol-one x j w rule how w w m n g h (rw (version, level) at a.symbol) b.symbol in
    (version, level, rest.1, rest.2)
