use Rattle.std.proofs.Common.{◌%◌, ap, ◌∙◌, arith}
use Rattle.qr_pictures.proofs.lemmas.frame.{scale-found, side-found}
use Rattle.qr_pictures.proofs.frame.side_and_scale.Goals as goal
use Rattle.qr_pictures.proofs.frame.side_and_scale.Goals.{then-scale-eq0-via-then-scale-eq0, then-scale-eq0-via-else-scale-eq0+then-width-ne0, then-scale-eq0-via-else-scale-eq0+else-width-ne0+then-size-scale-ne0}
use Rattle.qr_pictures.proofs.frame.side_and_scale.Goals.{then-side-lt21-via-then-side-lt21, then-side-lt21-via-else-side-lt21+then-side-gt177, then-side-lt21-via-else-side-lt21+else-side-gt177+then-side-ne1}

pub returns-then-scale-eq0-clause-finds : goal.returns-then-scale-eq0-clause-finds
returns-then-scale-eq0-clause-finds c side scale is some e f =
    let k = scale-found c.args.width scale f in
    let s = side-found c.args.size c.args.width side scale some e f in
    elim c.then-scale-eq0.branch [
      | then-scale-eq0-via-then-scale-eq0 w ↦ absurd (omega arith)
      | then-scale-eq0-via-else-scale-eq0+then-width-ne0 w ↦ absurd (w.if-width-ne0.true k.1)
      | then-scale-eq0-via-else-scale-eq0+else-width-ne0+then-size-scale-ne0 w ↦ absurd (w.if-size-scale-ne0.true s.0)
    ]

pub returns-then-side-lt21-clause-finds : goal.returns-then-side-lt21-clause-finds
returns-then-side-lt21-clause-finds c side scale is some e f =
    let s = (side-found c.args.size c.args.width side scale some e f).1 in
    let least = is.least in
    let most = is.most in
    let step = is.step in
    elim c.then-side-lt21.branch [
      | then-side-lt21-via-then-side-lt21 w ↦ absurd (omega arith)
      | then-side-lt21-via-else-side-lt21+then-side-gt177 w ↦ absurd (omega arith)
      | then-side-lt21-via-else-side-lt21+else-side-gt177+then-side-ne1 w ↦ absurd (w.if-side-ne1.true (ap (λ z. z % 4) s ∙ step))
    ]
