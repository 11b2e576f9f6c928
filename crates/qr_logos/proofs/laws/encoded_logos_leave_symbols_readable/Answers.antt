use Rattle.{qr_logos.proofs.lemmas.laws.{allowed-few, worn-read}, std.proofs.Common.{None, arith}}
use Rattle.qr_logos.proofs.laws.encoded_logos_leave_symbols_readable.Goals as goal

pub returns : goal.returns
returns c = λ smallest lowest rule i x share k v l mask symbol square more least may s w in-share rest.
    let carries = s.size.carries in
    worn-read v l rule i x None mask symbol square k carries.allowed.covered more (omega (arith, least, carries.least)) carries.most may s.symbol.made w
    carries.allowed.most (allowed-few v l share k more carries.allowed in-share rest)
