use Rattle.{qr_bits.{specs.Interpretation.segments_among, proofs.lemmas.interpretation.among-next}, std.proofs.{Common.{rules, append-nil, append_assoc}, lemmas.List.drop_all}}
use Rattle.qr_bits.proofs.interpretation.segments_among.Goals as goal

pub loop-item-preserved : goal.loop-item-preserved
loop-item-preserved c = search (rules, append_assoc, among-next)

pub returns : goal.returns
unfolding segments_among
returns c = search (rules, append-nil, drop_all)
