use Rattle.qr_documents.specs.Pdf.{catalog, page}
use Rattle.qr_documents.proofs.lemmas.pdf.{content-first, content-page, content-second, content-stream, stream-length}
use Rattle.std.proofs.Common.{◌≡◌, ◌+◌, ◌-◌, ◌/◌, ◌∙◌, ap, arith, length, refl, sym}
use Rattle.qr_documents.proofs.pdf.content_length.Goals as goal

pub size-requires : goal.size-requires
size-requires g c = omega (arith, c.requires.index, c.if-index-eq0.false, c.if-index-eq1.false)

pub commands_length-commands-requires : goal.commands_length-commands-requires
commands_length-commands-requires g c = omega (arith, c.requires.index, c.if-index-eq0.false, c.if-index-eq1.false)

pub returns-then-index-eq0-clause-value : goal.returns-then-index-eq0-clause-value
unfolding catalog
returns-then-index-eq0-clause-value g c = sym (ap length (content-first (g.D.HasPages.pages c.args.document.now) c.args.index c.if-index-eq0.true))

pub returns-then-index-eq1-clause-value : goal.returns-then-index-eq1-clause-value
returns-then-index-eq1-clause-value g c =
    rw (content-second (g.D.HasPages.pages c.args.document.now) c.args.index c.if-index-eq1.true) (rw c.count.ensures.value at c.page_tree_length.ensures.value)

pub returns-then-index-eq0-2-clause-value : goal.returns-then-index-eq0-2-clause-value
returns-then-index-eq0-2-clause-value g c =
    let p = g.D.HasPages.pages c.args.document.now in
    let k = (c.args.index - 2) / 2 in
    let text : page c.size.result.0 c.size.result.1 (c.args.index + 2) ≡ page (p.width k) (p.height k) (c.args.index + 2) =
    rw (c.size.ensures.width, c.size.ensures.height) refl in
    c.page_length.ensures.value ∙ (ap length text ∙ sym (ap length (content-page p c.args.index (omega (arith, c.if-index-eq0.false, c.if-index-eq1.false)) c.if-index-eq0-2.true)))

pub returns-else-index-eq0-2-clause-value : goal.returns-else-index-eq0-2-clause-value
returns-else-index-eq0-2-clause-value g c =
    let p = g.D.HasPages.pages c.args.document.now in
    let k = (c.args.index - 2) / 2 in
    rw (content-stream p c.args.index (omega (arith, c.if-index-eq0.false, c.if-index-eq1.false)) (omega (arith, c.if-index-eq0-2.false)), stream-length (p.commands k), c.decimal_length.ensures.value, c.commands_length-commands.ensures.value) refl
