use Rattle.{qr_mending.proofs.lemmas.locator.progress-begins, std.proofs.Common.rules}
use Rattle.qr_mending.proofs.locator.Progress.new.Goals as goal

pub returns : goal.returns
returns c = search (rules, progress-begins)
