use Rattle.{qr_field.proofs.lemmas.register.unpacked-packed, std.proofs.{Common.arith, lemmas.List.take_all}}
use Rattle.qr_field.proofs.divisor.Divisor.finished.Goals as goal

pub returns : goal.returns
returns c = search (arith, take_all, unpacked-packed)
