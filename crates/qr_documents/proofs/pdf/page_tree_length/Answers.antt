use Rattle.qr_documents.proofs.lemmas.pdf.{kid, kid-length, page-tree-length}
use Rattle.qr_drawing.proofs.Facts.{no-texts}
use Rattle.std.proofs.Common.{◌≡◌, ◌-◌, ap, arith, sym, length}
use Rattle.qr_documents.proofs.pdf.page_tree_length.Goals as goal

pub loop-page-init : goal.loop-page-init
loop-page-init c = record { kids = sym (ap length (no-texts kid)); low = omega arith }

pub loop-page-preserved : goal.loop-page-preserved
loop-page-preserved c =
    let more = kid-length c.loop-page.page in
    let len = c.decimal_length.ensures.value in
    record {
      kids = omega (arith, more, c.loop-page.invariant.kids, rw c.from.ensures at len);
      low = omega (arith, c.loop-page.invariant.low, c.decimal_length.ensures.most);
    }

pub returns : goal.returns
returns c =
    let all : c.loop-page.page ≡ c.args.pages - 1 = omega arith in
    record {
      value = omega (arith, rw all at c.loop-page.invariant.kids, rw c.from-2.ensures at c.decimal_length-2.ensures.value, page-tree-length c.args.pages);
      most = omega (arith, all, c.loop-page.invariant.low, c.decimal_length-2.ensures.most);
    }
