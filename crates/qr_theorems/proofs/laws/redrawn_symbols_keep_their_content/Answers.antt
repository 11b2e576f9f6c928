use Rattle.{qr_symbol.proofs.Facts.{redrawn-drawn, redrawn-read}, std.proofs.Common.arith}
use Rattle.qr_theorems.proofs.laws.redrawn_symbols_keep_their_content.Goals as goal

pub returns : goal.returns
returns c =
    let v = c.args.version in
    record {
      drawn = λ former mask cw g small many bytes drawn. redrawn-drawn v c.args.level former mask cw g (omega arith) (omega arith) small many bytes drawn;
      read = λ from g mask content small reads drawn. redrawn-read from mask g content small reads drawn;
    }
