-- A symbol that is drawn once more under another mask has the same codewords, and so the same content.
use Rattle.qr_bits.specs.Parsing.{Content}
use Rattle.qr_layout.specs.{Version.total_codewords_of, declared.level.Level.Level}
use Rattle.qr_matrix.specs.Grid.{Grid}
use Rattle.qr_symbol.proofs.lemmas.interleaving.MessageLemmas.{final-whole}
use Rattle.qr_symbol.proofs.lemmas.reading.{FormatLemmas.{format-one, format-read}, ReadLemmas.{grid-read, message-read, read-one}}
use Rattle.qr_symbol.specs.{Reading.{IsFormat, IsMessage, IsOfVersion, IsRead, IsReading}, Redrawing.IsRedrawn, Symbol.grid_of}
use Rattle.std.proofs.Common.{◌≡◌, ℕ, ◌<◌, ◌≤◌, List, length, sym, subst, ◌∙◌, arith}
use Rattle.std.specs.List.{All}

-- what is drawn once more has the version, the level and the codewords that are read with any version, level and mask that the
-- square states
redrawn-as : (from : Grid) (mask : ℕ) (g : Grid) (v : ℕ) (l : Level) (n : ℕ) (cw : List ℕ) → IsRedrawn from mask g → IsOfVersion from v → IsFormat from l n → IsRead v n from cw → g ≡ grid_of v l mask cw
redrawn-as from mask g v l n cw r sized format read =
    let w = format-one from r.level l r.former n r.format format in
    let vs : r.version ≡ v = omega (arith, r.sized.side, sized.side) in
    let moved = subst (λ (m : ℕ). IsRead v m from r.codewords) w.1 (subst (λ (u : ℕ). IsRead u r.former from r.codewords) vs r.read) in
    let same = read-one v n from r.codewords cw moved read in
    cc (r.drawn, vs, w.0, same)

-- a drawn symbol that is drawn once more is the symbol of the same codewords under the other mask
pub redrawn-drawn : (v : ℕ) (l : Level) (n mask : ℕ) (cw : List ℕ) (g : Grid) → 1 ≤ v → v ≤ 40 → n < 8 → length cw ≡ total_codewords_of v → All (λ x. x < 256) cw
    → IsRedrawn (grid_of v l n cw) mask g → g ≡ grid_of v l mask cw
redrawn-drawn v l n mask cw g p q h many bytes r =
    redrawn-as _ mask g v l n cw r (search arith) (format-read v l n cw p q h) (grid-read v l n cw p q many bytes)

-- a symbol that is drawn once more has the same content
pub redrawn-read : (from : Grid) (mask : ℕ) (g : Grid) (c : Content) → mask < 8 → IsReading from c → IsRedrawn from mask g → IsReading g c
redrawn-read from mask g c h k r =
    let v = k.version in
    let cw = k.holds.codewords in
    let drawn = redrawn-as from mask g v k.level k.mask cw r k.sized k.format k.holds.read in
    let whole = final-whole v k.level k.message cw k.sized.least k.sized.most k.holds.interleaved in
    subst (λ (z : Grid). IsReading z c) (sym drawn) (record {
      version = v;
      level = k.level;
      mask = mask;
      message = k.message;
      sized = record { least = k.sized.least; most = k.sized.most; side = search arith };
      format = format-read v k.level mask cw k.sized.least k.sized.most h;
      holds = message-read v k.level mask k.message cw k.sized.least k.sized.most whole k.holds.read.bytes k.holds.many k.holds.interleaved;
      parsed = k.parsed;
    })
