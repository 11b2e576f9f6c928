use Rattle.{qr_symbol.specs.Joining.bytes_of_all, std.proofs.Common.{◌≡◌, take}}
use Rattle.qr_symbol.proofs.joining.joined_bytes.Given as goal

abbrev pub invariant-loop-content : goal.invariant-loop-content
invariant-loop-content l = l.bytes.items ≡ bytes_of_all (take l.content-index l.contents)
