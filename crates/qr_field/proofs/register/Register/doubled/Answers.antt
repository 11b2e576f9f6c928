use Rattle.{qr_field.proofs.lemmas.register.{bytes-doubled, doubled-halves}, std.proofs.Common.arith}
use Rattle.qr_field.proofs.register.Register.doubled.Goals as goal

pub returns : goal.returns
returns c =
    let low = bytes-doubled c.args.self.low c.doubled.result (omega (arith, c.doubled.type_inv)) c.doubled.ensures in
    let high = bytes-doubled c.args.self.high c.doubled-2.result (omega (arith, c.doubled-2.type_inv)) c.doubled-2.ensures in
    cc (low, high, doubled-halves 16 c.args.self.high c.args.self.low (omega (arith, c.well_formed)))
