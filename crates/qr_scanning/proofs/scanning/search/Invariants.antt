use Rattle.std.proofs.Common.{◌≡◌, ◌≤◌, false, length, true}
use Rattle.std.specs.List.{All}
use Rattle.qr_scanning.specs.Scanning.{IsScanned}
use Rattle.qr_scanning.specs.declared.scanning.Scanned.{Scanned}
use Rattle.qr_scanning.proofs.scanning.search.Given as goal

-- all squares are of the picture, those that count as read are read, and the others are not
abbrev pub invariant-offers : goal.invariant-offers
invariant-offers l = record {
  there : All (IsScanned l.picture) l.read.items;
  are_read : All (λ (s : Scanned). s.is_read ≡ true) l.read.items;
  few : length l.read.items ≤ l.most;
  others : All (IsScanned l.picture) l.unread.items;
  are_unread : All (λ (s : Scanned). s.is_read ≡ false) l.unread.items;
}
