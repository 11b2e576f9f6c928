use Rattle.{qr_bits.specs.Steps.Segmentation.{is_itself, is_single}, std.{proofs.Common.{◌≡◌, ◌&&◌, drop}, specs.List.list_all}}
use Rattle.qr_bits.proofs.segmentation.escaping_of.Given as goal

-- what the bytes so far have decided, and what the others decide
abbrev pub invariant-loop-byte : goal.invariant-loop-byte
invariant-loop-byte l = record {
  itself : (l.itself && list_all is_itself (drop l.byte-index l.bytes)) ≡ list_all is_itself l.bytes;
  single : (l.single && list_all is_single (drop l.byte-index l.bytes)) ≡ list_all is_single l.bytes;
}
