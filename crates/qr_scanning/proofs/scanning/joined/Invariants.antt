use Rattle.std.proofs.Common.{◌≡◌, ◌≤◌, false, length}
use Rattle.std.specs.List.{All}
use Rattle.qr_scanning.specs.Scanning.{AreReadFirst, IsScanned}
use Rattle.qr_scanning.specs.declared.scanning.Scanned.{Scanned}
use Rattle.qr_scanning.proofs.scanning.joined.Given as goal

-- all squares are of the picture, and so are those that follow, which are not read
abbrev pub invariant-loop-square : goal.invariant-loop-square
invariant-loop-square l = record {
  there : All (IsScanned l.picture) l.all.items;
  follow : All (IsScanned l.picture) l.square-iterator.rest.items;
  few : length l.all.items ≤ l.most;
  order : AreReadFirst l.all.items;
  unread : All (λ (s : Scanned). s.is_read ≡ false) l.square-iterator.rest.items;
}
