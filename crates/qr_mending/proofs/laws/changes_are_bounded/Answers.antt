use Rattle.{qr_layout.proofs.Facts.blocks-sound, qr_mending.proofs.lemmas.laws.BoundLemmas.{changes-few, changes-spent, correctable-bounds, spare-bound}, std.proofs.Common.rules}
use Rattle.qr_mending.proofs.laws.changes_are_bounded.Goals as goal

pub returns : goal.returns
returns c = record { some = search (rules, blocks-sound); few = changes-few; correctable = correctable-bounds; spent = changes-spent; spare = spare-bound }
