-- A message of which some codewords were erased is mended block by block, to at most one message.
use Rattle.qr_field.{proofs.{Facts.correction-one, lemmas.laws.DistanceLemmas.unambiguous-known}, specs.Distance.{erasures, errors}}
use Rattle.{qr_field.specs.Polynomial.{IsCorrection, zeros}, qr_layout.{proofs.Facts.only-order, specs.Blocks.{spare_of, blocks_of}}}
use Rattle.{qr_layout.specs.{Version.total_codewords_of, declared.{blocks.Blocks.Blocks, level.Level.Level}}, qr_matrix.specs.Grid.Grid}
use Rattle.qr_mending.proofs.lemmas.{block.block-corrects, erasures.length-read, message.MessageLemmas.{in-blocks-one, in-blocks-some, item, received-each}}
use Rattle.qr_mending.specs.{Erasures.{changes_of, IsMendedWithErasures}, Message.{no_changes, read_at, received, IsMendedIn, IsMendedBlock, AreInBlocks}}
use Rattle.qr_mending.specs.{Steps.Message.{list_of, marks_at, read_by, AreMarksInBlocks, AreMended, AreWhole, IsMendedMessage}, declared.message.Marks.Marks}
use Rattle.qr_mending.specs.declared.{erasures.Changes.{Changes}, message.MarksInBlocks.{MarksInBlocks}}
use Rattle.qr_symbol.proofs.Facts.{len-most, part-grown, part-last, part-len, parts-same, start-next}
use Rattle.qr_symbol.specs.Interleaving.{block_count, block_len, codeword_count, correction_sizes, data_sizes, part_of}
use Rattle.std.proofs.Common.{◌≡◌, ◌==◌, ◌⊎◌, not, Bool, ℕ, Some, take, drop, refl, ap, ◌+◌, ◌-◌, ◌*◌, ◌/◌, ◌<◌, ◌≤◌, Option, List, [], ◌∷◌, ◌++◌, map, length, length-append, get_or, sym, ◌∙◌, inl, inr, arith}
use Rattle.std.proofs.lemmas.Bool.{cases_lt}
use Rattle.std.proofs.lemmas.List.{length_push, length-map, length-replicate, length-take-le, get_or_append_left, get_or_push, ext_get_or, take-append-drop}
use Rattle.std.{proofs.lemmas.List.Elements.{All-head, All-tail, All-replicate}, specs.List.{range_with_len, All}}
use Rattle.qr_mending.specs.declared.message.Marks.TheVariants as interleaved
use Rattle.qr_mending.specs.declared.message.MarksInBlocks.TheVariants as by_block

-- ---- blocks

-- one block more
mended-push : (b : Blocks) (spare : ℕ) (d e : List ℕ) (marks : ℕ → List ℕ) (message es c : List ℕ) (changed : List Changes) (n : ℕ) (x : Changes) →
    n < block_count (data_sizes b) → AreMended b spare d e marks n message changed →
    length es ≡ block_len (data_sizes b) n → IsCorrection es b.ec_len c →
    x ≡ changes_of (read_by (received b d e n) (marks n)) (received b d e n) (es ++ c) →
    erasures (read_by (received b d e n) (marks n)) + 2 * x.misread ≤ spare →
    AreMended b spare d e marks (n + 1) (message ++ es) (changed ++ x ∷ [])
mended-push b spare d e marks message es c changed n x l h len right count near =
    let sizes = data_sizes b in
    record {
      long = cc (length-append message es, start-next sizes n);
      many = omega (arith, length_push changed x);
      each = λ i m. elim (cases_lt i n) [
        | inl k ↦
            let old = h.each i k in
            let same = part-grown sizes message es i n h.long k in
            search (arith, get_or_append_left)
        | inr k ↦
            let last = part-last sizes message es n h.long len in
            search (arith, get_or_push)
      ];
    }

-- ---- at most one message

-- blocks of which `read` was read, as the codewords `values`, can be mended to the data codewords `message`
record AreMendedTo (b : Blocks) (spare : ℕ) (read : ℕ → List (Option ℕ)) (values : ℕ → List ℕ) (message : List ℕ) (changed : List Changes) : Type 0 where
  long : length message ≡ codeword_count (data_sizes b)
  many : length changed ≡ block_count (data_sizes b)
  each : (i : ℕ) → i < block_count (data_sizes b) → IsMendedBlock b spare (read i) (values i) message (get_or changed i no_changes) i

-- they can be mended to at most one message
blocks-one : (b : Blocks) (spare : ℕ) (read : ℕ → List (Option ℕ)) (values : ℕ → List ℕ) (m n : List ℕ) (x y : List Changes) → spare ≤ b.ec_len →
    b.short_len + 1 + b.ec_len ≤ 255 → AreMendedTo b spare read values m x → AreMendedTo b spare read values n y → (m ≡ n) × (x ≡ y)
blocks-one b spare read values m n x y enough few g h =
    let c = data_sizes b in
    let part : (i : ℕ) → i < block_count c → part_of c m i ≡ part_of c n i =
    λ i l.
    let p = g.each i l in
    let q = h.each i l in
    let lp = part-len c m i g.long l in
    let lq = part-len c n i h.long l in
    let t = (spare - erasures (read i)) / 2 in
    let ep : (get_or x i no_changes).misread ≡ errors (read i) (part_of c m i ++ p.correction) = ap (λ (z : Changes). z.misread) p.count in
    let eq : (get_or y i no_changes).misread ≡ errors (read i) (part_of c n i ++ q.correction) = ap (λ (z : Changes). z.misread) q.count in
    unambiguous-known b.ec_len t (part_of c m i) p.correction (part_of c n i) q.correction (read i) p.corrects q.corrects
    (lp ∙ sym lq) (omega (arith, len-most c i)) (omega (arith, p.few)) (omega (arith, p.few, ep)) (omega (arith, q.few, eq)) in
    let count : (i : ℕ) → i < block_count c → get_or x i no_changes ≡ get_or y i no_changes =
    λ i l.
    let p = g.each i l in
    let q = h.each i l in
    let s = part i l in
    cc (correction-one (part_of c n i) b.ec_len p.correction q.correction (rw s at p.corrects) q.corrects) in
    (parts-same c m n g.long h.long part, ext_get_or no_changes x y (g.many ∙ sym h.many) (λ i l. count i (omega arith)))

-- codewords of which some are erased are a damaged form of at most one message
pub beside-one : (unknown : Grid) (v : ℕ) (l : Level) (cw m n : List ℕ) (x y : List Changes) →
    (blocks_of v l).short_len + 1 + (blocks_of v l).ec_len ≤ 255 → IsMendedIn unknown v l cw m x →
    IsMendedIn unknown v l cw n y → (m ≡ n) × (x ≡ y)
beside-one unknown v l cw m n x y few g h =
    let b = blocks_of v l in
    let indices = range_with_len 0 (total_codewords_of v) in
    let ms = only-order v h.places g.places h.order g.order in
    let same = in-blocks-one b indices h.indices h.checks g.indices g.checks h.inside g.inside in
    let read : ℕ → List (Option ℕ) = λ i. map (read_at unknown g.places cw) (received b g.indices g.checks i) in
    let values : ℕ → List ℕ = λ i. map (item cw) (received b g.indices g.checks i) in
    blocks-one b (spare_of v l) read values m n x y (omega arith) few (record { long = g.long; many = g.many; each = g.each }) (record {
      long = h.long;
      many = h.many;
      each = rw (ms, same.0, same.1) at h.each;
    })

-- ---- the steps of the code

-- the codewords that were read of block `k`, which is mended with a divisor of the degree `n`
pub record IsReadBlock (b : Blocks) (d e : List ℕ) (k n : ℕ) (codewords : List ℕ) : Type 0 where
  pub divisor : n ≡ b.ec_len
  pub within : k < block_count (data_sizes b)
  pub value : codewords ≡ received b d e k
  pub long : length codewords ≡ block_len (data_sizes b) k + b.ec_len

-- a mended block has the error correction codewords of its data codewords
pub mended-corrects : (b : Blocks) (spare : ℕ) (d e : List ℕ) (k n : ℕ) (codewords marks block : List ℕ) →
    IsReadBlock b d e k n codewords → IsMendedWithErasures n spare (read_by codewords marks) block →
    IsCorrection (take (block_len (data_sizes b) k) block) b.ec_len (drop (block_len (data_sizes b) k) block)
mended-corrects b spare d e k n codewords marks block r m =
    let corrects = block-corrects b.ec_len block (rw r.divisor at m.block) in
    search (arith, length-read)

-- one block more, which the code mends in place
pub mended-more : (b : Blocks) (spare : ℕ) (d e : List ℕ) (marks : ℕ → List ℕ) (k n : ℕ) (codewords block : List ℕ) (x : Changes) →
    IsReadBlock b d e k n codewords → IsMendedWithErasures n spare (read_by codewords (marks k)) block →
    x ≡ changes_of (read_by codewords (marks k)) codewords block → (message : List ℕ) (changed : List Changes) →
    AreMended b spare d e marks k message changed →
    AreMended b spare d e marks (k + 1) (message ++ take (block_len (data_sizes b) k) block) (changed ++ x ∷ [])
mended-more b spare d e marks k n codewords block x r m count message changed h =
    let enough = (rw (r.divisor, r.value) at m).few in
    let s = block_len (data_sizes b) k in
    let many = length-read codewords (map (λ mark. not (mark == 0)) (marks k)) in
    let right : x ≡ changes_of (read_by (received b d e k) (marks k)) (received b d e k) block = rw r.value at count in
    let len : length (take s block) ≡ s = omega (arith, length-take-le s block (omega (arith, many))) in
    let misread : x.misread ≡ errors (read_by (received b d e k) (marks k)) block = ap (λ (z : Changes). z.misread) right in
    mended-push b spare d e marks message (take s block) (drop s block) changed k x r.within h len
    (mended-corrects b spare d e k n codewords (marks k) block r m) (rw (take-append-drop s block) right)
    (omega (arith, enough, misread))

-- if a block cannot be mended, the codewords are a damaged form of no message
pub none-mended : (b : Blocks) (spare : ℕ) (d e : List ℕ) (marks : ℕ → List ℕ) (k n : ℕ) (codewords : List ℕ) →
    IsReadBlock b d e k n codewords →
    ((mended : List ℕ) → IsMendedWithErasures n spare (read_by codewords (marks k)) mended → ⊥) →
    (message : List ℕ) (changed : List Changes) → AreMended b spare d e marks (block_count (data_sizes b)) message changed → ⊥
none-mended b spare d e marks k n codewords r none message changed h =
    let lx = part-len (data_sizes b) message k h.long r.within in
    search (arith, length-append, length-read)

-- the same blocks by marks that say the same of each
pub marks-alike : (b : Blocks) (spare : ℕ) (d e : List ℕ) (f g : ℕ → List ℕ) (n : ℕ) (message : List ℕ) (changed : List Changes) →
    ((i : ℕ) → read_by (received b d e i) (f i) ≡ read_by (received b d e i) (g i)) →
    AreMended b spare d e f n message changed → AreMended b spare d e g n message changed
marks-alike b spare d e f g n message changed same h = search arith

-- the number of marks of a block
pub marks-long : (b : Blocks) (u w : List ℕ) (i : ℕ) → length u ≡ codeword_count (data_sizes b) →
    length w ≡ codeword_count (correction_sizes b) → i < block_count (data_sizes b) →
    length (received b u w i) ≡ block_len (data_sizes b) i + b.ec_len
marks-long b u w i lu lw l =
    let inside : i < block_count (correction_sizes b) = search arith in
    let len : block_len (correction_sizes b) i ≡ b.ec_len = search arith in
    cc (
      length-append (part_of (data_sizes b) u i) (part_of (correction_sizes b) w i),
      part-len (data_sizes b) u i lu l,
      part-len (correction_sizes b) w i lw inside,
    )

-- there is a mark for each codeword, if any
pub marks-whole : (b : Blocks) (marks : Marks) (parts : MarksInBlocks) → AreMarksInBlocks b marks parts → AreWhole b parts
marks-whole b interleaved.AllZero by_block.AllZero h = tt
marks-whole b interleaved.AllZero (by_block.Each lists) h = absurd h
marks-whole b (interleaved.Each marks) by_block.AllZero h = absurd h
marks-whole b (interleaved.Each marks) (by_block.Each lists) h = (h.gathered.long, h.rest.long)

-- a block has no marks, or one for each codeword
pub marks-or-none : (b : Blocks) (parts : MarksInBlocks) (i : ℕ) (codewords : List ℕ) (erased : List Bool) → AreWhole b parts →
    i < block_count (data_sizes b) → length codewords ≡ block_len (data_sizes b) i + b.ec_len →
    erased ≡ map (λ mark. not (mark == 0)) (marks_at b parts i) → (erased ≡ []) ⊎ (length erased ≡ length codewords)
marks-or-none b by_block.AllZero i codewords erased h l n e = inl e
marks-or-none b (by_block.Each lists) i codewords erased h l n e = search (arith, length-map, marks-long)

-- marks that are 0 say that every codeword was read
zeros-read : (xs zs : List ℕ) → All (λ z. z ≡ 0) zs → read_by xs zs ≡ read_by xs []
zeros-read [] zs a = refl
zeros-read (x ∷ xs) [] a = refl
zeros-read (x ∷ xs) (z ∷ zs) a = rw (All-head (λ z. z ≡ 0) z zs a)
    (ap (λ t. Some x ∷ t) (zeros-read xs zs (All-tail (λ z. z ≡ 0) z zs a)))

-- so it is if all marks of the symbol are
zeros-alike : (b : Blocks) (n : ℕ) (d e u w : List ℕ) → AreInBlocks b (zeros n) u w → (i : ℕ) →
    read_by (received b d e i) (received b u w i) ≡ read_by (received b d e i) []
zeros-alike b n d e u w h i = search (arith, zeros-read, received-each, All-replicate)

-- what is mended by the blocks is mended by the symbol
pub in-blocks-mended : (b : Blocks) (spare : ℕ) (cw d e message : List ℕ) (changed : List Changes) (marks : Marks) (parts : MarksInBlocks) →
    length cw ≡ codeword_count (data_sizes b) + codeword_count (correction_sizes b) → AreInBlocks b cw d e →
    AreMarksInBlocks b marks parts → AreMended b spare d e (marks_at b parts) (block_count (data_sizes b)) message changed →
    IsMendedMessage b spare cw (list_of (length cw) marks) message changed
in-blocks-mended b spare cw d e message changed interleaved.AllZero by_block.AllZero long h m a =
    let some = in-blocks-some b (zeros (length cw)) (omega (arith, long, length-replicate {A = ℕ} (length cw) 0)) in
    record {
      codewords = d;
      checks = e;
      unread = some.0;
      unread_checks = some.1;
      in_blocks = h;
      marked = some.2;
      mended = marks-alike b spare d e (λ i. []) (received b some.0 some.1) (block_count (data_sizes b)) message changed
          (λ i. sym {a = read_by (received b d e i) (received b some.0 some.1 i)} (zeros-alike b (length cw) d e some.0 some.1 some.2 i)) a;
    }
in-blocks-mended b spare cw d e message changed interleaved.AllZero (by_block.Each lists) long h m a = absurd m
in-blocks-mended b spare cw d e message changed (interleaved.Each marks) by_block.AllZero long h m a = absurd m
in-blocks-mended b spare cw d e message changed (interleaved.Each marks) (by_block.Each lists) long h m a = search arith

-- codewords that cannot be mended are a damaged form of no message
pub none-in-blocks : (b : Blocks) (spare : ℕ) (cw d e : List ℕ) (marks : Marks) (parts : MarksInBlocks) →
    AreInBlocks b cw d e → AreMarksInBlocks b marks parts →
    ((message : List ℕ) (changed : List Changes) → AreMended b spare d e (marks_at b parts) (block_count (data_sizes b)) message changed → ⊥) →
    (message : List ℕ) (changed : List Changes) → IsMendedMessage b spare cw (list_of (length cw) marks) message changed → ⊥
none-in-blocks b spare cw d e interleaved.AllZero by_block.AllZero g h none message changed m =
    let first = in-blocks-one b cw m.codewords m.checks d e m.in_blocks g in
    let mended = rw (first.0, first.1) at m.mended in
    none message changed (marks-alike b spare d e (received b m.unread m.unread_checks) (λ i. []) (block_count (data_sizes b)) message changed
    (zeros-alike b (length cw) d e m.unread m.unread_checks m.marked) mended)
none-in-blocks b spare cw d e interleaved.AllZero (by_block.Each lists) g h none message changed m = absurd h
none-in-blocks b spare cw d e (interleaved.Each marks) by_block.AllZero g h none message changed m = absurd h
none-in-blocks b spare cw d e (interleaved.Each marks) (by_block.Each lists) g h none message changed m =
    let first = in-blocks-one b cw m.codewords m.checks d e m.in_blocks g in
    let second = in-blocks-one b marks.items m.unread m.unread_checks lists.data.items lists.checks.items m.marked h in
    search arith
