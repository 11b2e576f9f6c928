use Rattle.qr_devices.proofs.Facts.{formed}
use Rattle.qr_documents.specs.Pdf.{catalog, page}
use Rattle.qr_documents.proofs.lemmas.pdf.{content-first, content-page, content-second, content-stream}
use Rattle.std.proofs.Common.{◌≡◌, ◌+◌, ◌-◌, ◌/◌, ◌++◌, arith, refl}
use Rattle.qr_documents.proofs.pdf.put_content.Goals as goal

pub size-requires : goal.size-requires
size-requires g c = omega (arith, c.requires.index, c.if-index-eq0.false, c.if-index-eq1.false)

pub put_stream-requires : goal.put_stream-requires
put_stream-requires g c = omega (arith, c.requires.index, c.if-index-eq0.false, c.if-index-eq1.false)

pub returns-in_ok-reserve : goal.returns-in_ok-reserve
unfolding catalog
returns-in_ok-reserve g c =
    rw (content-first (g.D.HasPages.pages c.args.document.now) c.args.index c.if-index-eq0.true)
    (formed _ _ _ _ _ _ _ _ c.in_ok-reserve.ensures.writes c.push_all.ensures.items)

pub returns-then-index-eq1 : goal.returns-then-index-eq1
returns-then-index-eq1 g c =
    rw (content-second (g.D.HasPages.pages c.args.document.now) c.args.index c.if-index-eq1.true) (rw c.count.ensures.value at c.put_page_tree.ensures)

pub returns-in_ok-reserve-2 : goal.returns-in_ok-reserve-2
returns-in_ok-reserve-2 g c =
    let p = g.D.HasPages.pages c.args.document.now in
    let k = (c.args.index - 2) / 2 in
    let text : c.push_page.new.text ≡ c.reserve-then-index-eq0-2.new.self.piece ++ page (p.width k) (p.height k) (c.args.index + 2) =
    rw (c.push_page.ensures.items, c.size.ensures.width, c.size.ensures.height) refl in
    rw (content-page p c.args.index (omega (arith, c.if-index-eq0.false, c.if-index-eq1.false)) c.if-index-eq0-2.true)
    (formed _ _ _ _ _ _ _ _ c.in_ok-reserve-2.ensures.writes text)

pub returns-else-index-eq0-2 : goal.returns-else-index-eq0-2
returns-else-index-eq0-2 g c =
    let p = g.D.HasPages.pages c.args.document.now in
    rw (content-stream p c.args.index (omega (arith, c.if-index-eq0.false, c.if-index-eq1.false)) (omega (arith, c.if-index-eq0-2.false))) c.put_stream.ensures
