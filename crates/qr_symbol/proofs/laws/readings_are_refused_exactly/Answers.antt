use Rattle.qr_symbol.proofs.lemmas.reading.RefusalLemmas.{exactly, read-refused, refused-one}
use Rattle.qr_symbol.proofs.laws.readings_are_refused_exactly.Goals as goal

pub returns : goal.returns
returns c = let g = c.args.matrix.now in exactly _ _ _ c.read_symbol.ensures.read (read-refused g) (refused-one g)
