use Rattle.qr_symbol.proofs.lemmas.{joining.{joined-refused, unjoined-one}, reading.RefusalLemmas.{exactly, read-refused, refused-one}}
use Rattle.qr_symbol.{proofs.lemmas.reading.RoundTripLemmas.reading-one, specs.{Joining.IsJoined, Reading.{IsReading, IsUnread}, Series.squares_of}}
use Rattle.qr_symbol.proofs.laws.joinings_are_refused_exactly.Goals as goal

pub returns : goal.returns
returns c =
    let gs = squares_of c.args.symbols.now in exactly (λ bytes. IsJoined gs bytes.items) _ _ c.read_series.ensures
    (λ bytes e. joined-refused IsReading IsUnread read-refused reading-one gs _ e)
    (unjoined-one _ _ read-refused refused-one gs)
