use Rattle.qr_documents.proofs.lemmas.sheets.{fits-at, free-after, free-before, label-at}
use Rattle.qr_documents.specs.Sheets.{places_of}
use Rattle.std.proofs.Common.{◌≡◌, ◌+◌, ◌-◌, ◌*◌, ◌<◌, ap, arith, get_or, length, map, refl}
use Rattle.qr_documents.proofs.sheets.SheetPages.symbol_at.Goals as goal

pub returns-then-number-first : goal.returns-then-number-first
returns-then-number-first g c =
    free-before c.args.self.now.settings (map g.S.HasSquare.grid c.args.self.now.symbols.now) c.args.page c.args.place
    (rw (c.from.ensures, c.from-2.ensures, c.places.ensures, c.from-3.ensures, c.from-first.ensures) at c.if-number-first.true)

pub returns-then-index-self : goal.returns-then-index-self
returns-then-index-self g c =
    let s = c.args.self.now.settings in
    let number : c.from.result * c.from-2.result + c.from-3.result ≡ c.args.page * places_of s.sheet + c.args.place =
    rw (c.from.ensures, c.from-2.ensures, c.places.ensures, c.from-3.ensures) refl in
    free-after g.S.HasSquare.grid s c.args.self.now.symbols.now c.args.page c.args.place
    (omega (arith, number, c.from-first.ensures, c.if-number-first.false, c.if-index-self.true))

pub returns : goal.returns
returns g c =
    let grid = g.S.HasSquare.grid in
    let s = c.args.self.now.settings in
    let xs = c.args.self.now.symbols.now in
    let i = c.from.result * c.from-2.result + c.from-3.result - c.from-first.result in
    let x = get_or xs i c.index-self-index.result in
    let is : x ≡ get_or xs i x = ap (λ d. get_or xs i d) c.index-self-index.is in
    let number : c.from.result * c.from-2.result + c.from-3.result ≡ c.args.page * places_of s.sheet + c.args.place =
    rw (c.from.ensures, c.from-2.ensures, c.places.ensures, c.from-3.ensures) refl in
    let e : s.sheet.first + i ≡ c.args.page * places_of s.sheet + c.args.place = omega (arith, number, c.from-first.ensures, c.if-number-first.false) in
    let lt : i < length xs = omega (arith, c.if-index-self.false) in
    rw c.square.ensures (
      label-at grid s xs x c.args.page c.args.place i e lt is,
      fits-at grid s xs x i c.args.self.now.fits lt is,
      refl,
    )
