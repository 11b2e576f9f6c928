use Rattle.{qr_layout.proofs.lemmas.format.WordLemmas.version-word-at, std.proofs.Common.rules}
use Rattle.qr_layout.proofs.version.Version.version_word.Goals as goal

pub returns : goal.returns
returns c = search (rules, version-word-at)
