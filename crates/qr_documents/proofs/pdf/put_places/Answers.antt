use Rattle.qr_devices.proofs.Facts.{formed, stops-before}
use Rattle.qr_documents.proofs.lemmas.pdf.{first-place, next-place}
use Rattle.qr_drawing.proofs.Facts.{no-texts, put-next, put-none, put-stops}
use Rattle.qr_documents.specs.Pdf.{place_of}
use Rattle.std.proofs.{Common.{◌≡◌, arith, refl}, lemmas.Result.err_from_is_err_and}
use Rattle.qr_documents.proofs.pdf.put_places.Goals as goal

pub loop-index-init : goal.loop-index-init
loop-index-init g c = record {
  at = first-place (g.D.HasPages.pages c.args.document.now);
  low = omega arith;
  writes = put-none _ _ _ _ _ (no-texts _);
}

pub returns-in_err-reserve-clause-writes : goal.returns-in_err-reserve-clause-writes
returns-in_err-reserve-clause-writes g c =
    rw ((err_from_is_err_and c.from_residual.result c.from_residual.ensures.1).1)
    (put-stops _ _ _ _ _ _ _ _ _ _ (place_of (g.D.HasPages.pages c.args.document.now)) refl (omega arith) c.loop-index.invariant.writes (stops-before _ _ _ _ _ c.in_err-reserve.ensures.writes))

pub loop-index-preserved : goal.loop-index-preserved
unfolding place_of
loop-index-preserved g c =
    let p = g.D.HasPages.pages c.args.document.now in
    record {
      at = next-place p c.loop-index.index c.loop-index.at _ c.loop-index.invariant.at c.object_length-at.ensures.value;
      low = omega (arith, c.loop-index.invariant.low, c.object_length-at.ensures.most);
      writes = put-next _ _ _ _ _ _ _ _ _ _ _ _ (place_of p) refl refl c.loop-index.invariant.writes
          (formed _ _ _ _ c.loop-index.pen.piece _ _ _ c.in_ok-reserve.ensures.writes (rw c.loop-index.invariant.at at c.push_place.ensures.items));
    }

pub returns : goal.returns
returns g c =
    let end : c.loop-index.index ≡ c.args.objects = omega arith in
    record {
      writes = rw (← end) c.loop-index.invariant.writes;
      at = rw (← end) c.loop-index.invariant.at;
    }
