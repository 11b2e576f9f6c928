use Rattle.{qr_layout.proofs.lemmas.alignment.centres-few, std.proofs.{Common.{rules, ◌≡◌, ℕ, ◌≤◌, ◌<◌, List, length, take}, lemmas.List.length-take}}
use Rattle.qr_layout.proofs.version.Version.centres.Goals as goal

-- of at most seven items the first k are fewer than seven, where there is one more
fewer : (k : ℕ) (items all : List ℕ) → items ≡ take k all → k < length all → length all ≤ 7 → length items < 7
fewer k items all e l h = search (rules, length-take)

pub push-requires : goal.push-requires
push-requires c = search (rules, centres-few)
