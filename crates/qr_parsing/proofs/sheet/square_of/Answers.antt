use Rattle.{qr_matrix.proofs.Facts.square-same, std.proofs.{Common.arith, Math.Seq.take-append_seam, lemmas.List.length-replicate}}
use Rattle.qr_parsing.proofs.sheet.square_of.Goals as goal

pub returns : goal.returns
returns c = search (arith, length-replicate, take-append_seam, square-same)
