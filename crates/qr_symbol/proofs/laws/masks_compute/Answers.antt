use Rattle.{qr_symbol.{proofs.lemmas.mask.inverts-repeats, specs.Mask.inverts}, std.proofs.Common.refl}
use Rattle.qr_symbol.proofs.laws.masks_compute.Goals as goal

pub returns : goal.returns
unfolding inverts
returns c = record { repeated = inverts-repeats; rows = refl }
