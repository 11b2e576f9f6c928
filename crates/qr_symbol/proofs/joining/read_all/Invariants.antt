use Rattle.{qr_symbol.specs.{Joining.AreReadBy, Reading.IsReading, Series.squares_of}, std.proofs.Common.take}
use Rattle.qr_symbol.proofs.joining.read_all.Given as goal

abbrev pub invariant-loop-symbol : goal.invariant-loop-symbol
invariant-loop-symbol l = AreReadBy IsReading (squares_of (take l.symbol-index l.symbols)) l.contents.items
