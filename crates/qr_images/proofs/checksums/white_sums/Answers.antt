use Rattle.std.proofs.Common.{suc, ◌≡◌, ◌-◌, arith}
use Rattle.qr_images.proofs.lemmas.checksums.AdlerLemmas.{white-summed}
use Rattle.qr_images.proofs.checksums.white_sums.Goals as goal

pub returns : goal.returns
returns c =
    let e : suc (c.args.len - 1) ≡ c.args.len = omega (arith, c.requires.some) in
    rw (c.from.ensures, c.from-2.ensures) (rw e at (white-summed (c.args.len - 1)))
