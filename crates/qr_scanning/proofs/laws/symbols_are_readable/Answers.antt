use Rattle.std.proofs.Common.{arith}
use Rattle.qr_scanning.proofs.lemmas.laws.{symbol-readable}
use Rattle.qr_scanning.proofs.laws.symbols_are_readable.Goals as goal

pub returns : goal.returns
returns c = λ x l rule i h mask g may s.
    symbol-readable c.readings_are_mended_readings.ensures c.sound_squares_are_symbols.ensures c.args.version l rule i x h mask g (omega arith) (omega arith) may s
