use Rattle.{qr_parsing.proofs.lemmas.svg.PaintLemmas.painted-all, std.proofs.{Common.rules, Math.Seq.take-append_seam, lemmas.List.length-replicate}}
use Rattle.qr_parsing.proofs.svg.painted_bytes.Goals as goal

pub returns : goal.returns
returns c = search (rules, length-replicate, take-append_seam, painted-all)
