use Rattle.{qr_bits.specs.{Header.parity_of, Interpretation.MayWrite}, qr_symbol.specs.{Series.AreSymbolsFrom, Steps.Series.{AreLengths, parts_of}}}
use Rattle.{qr_symbol.specs.declared.symbol.Symbol.Symbol, std.{proofs.Common.{◌≡◌, ◌-◌, ◌≤◌, List, ◌++◌, length, drop}, specs.Prelude.vec_len}}
use Rattle.qr_symbol.proofs.series.symbols_on.Given as goal

-- the symbols made and those of the rest are the symbols of all parts
abbrev pub invariant-loop-len : goal.invariant-loop-len
invariant-loop-len l = record {
  version : l.canvas.version ≡ l.fn.canvas.version;
  level : l.canvas.level ≡ l.fn.canvas.level;
  short : length l.rest ≤ length l.fn.input;
  may : MayWrite l.writing.interpretation l.rest;
  count : vec_len l.symbols ≡ l.len-index;
  rest : AreLengths l.fn.canvas.version l.fn.canvas.level l.writing.rule l.writing.interpretation l.rest (drop l.len-index l.lengths);
  made : (ss : List Symbol) → AreSymbolsFrom l.fn.canvas.version l.fn.canvas.level l.writing.rule l.writing.interpretation (length l.lengths - 1) (parity_of l.fn.input) l.len-index (parts_of l.rest (drop l.len-index l.lengths)) ss
      → AreSymbolsFrom l.fn.canvas.version l.fn.canvas.level l.writing.rule l.writing.interpretation (length l.lengths - 1) (parity_of l.fn.input) 0 (parts_of l.fn.input l.lengths) (l.symbols.items ++ ss);
}
