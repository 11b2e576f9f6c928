use Rattle.{qr_devices.specs.Writing.Writes, std.proofs.Common.{◌+◌, ◌-◌, ◌<◌, ◌≤◌, [], length, take}}
use Rattle.qr_devices.proofs.pen.send.Given as goal

abbrev pub invariant-offers : goal.invariant-offers
invariant-offers g l = record {
  within : l.at ≤ length l.bytes;
  few : l.interruptions < 1000;
  writes : Writes (g.W.Sink.device l.fn.out) (g.W.Sink.device l.out) l.interrupted l.interruptions (take l.at l.bytes) [];
}

abbrev pub decreases-offers : goal.decreases-offers
decreases-offers g l = (length l.bytes - l.at) + (999 - l.interruptions)
