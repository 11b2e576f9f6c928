use Rattle.qr_bits.proofs.lemmas.segmentation.SegmentLemmas.{segmentation-one}
use Rattle.qr_bits.proofs.laws.segmentations_are_one.Goals as goal

pub returns : goal.returns
returns c = segmentation-one
