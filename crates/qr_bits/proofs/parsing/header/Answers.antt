use Rattle.{qr_bits.proofs.lemmas.parsing.ParsingLemmas.header-whole, std.proofs.{Common.arith, lemmas.List.drop-drop}}
use Rattle.qr_bits.proofs.parsing.header.Goals as goal

pub returns : goal.returns
returns c =
    let bits = c.args.reader.now in
    let p = c.take.ensures in let l = c.take-2.ensures in let y = c.take-3.ensures in
    rw (y.value, y.rest, l.value, l.rest, p.value, p.rest, drop-drop 4 4 bits, drop-drop 8 8 bits) (header-whole bits (omega (arith, c.if-len-lt16.false, c.len.ensures)))
