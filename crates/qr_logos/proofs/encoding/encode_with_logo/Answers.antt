use Rattle.qr_logos.proofs.lemmas.encoding.{faults-again, faults-refused, faults-symbol, logo-symbol, memory-alone}
use Rattle.{std.{proofs.{Common.{refl}, lemmas.Result.err_from_is_err_and}}}
use Rattle.qr_logos.proofs.encoding.encode_with_logo.Goals as goal

pub returns-in_err-size : goal.returns-in_err-size
returns-in_err-size c =
    let p = err_from_is_err_and c.from_residual.result c.from_residual.ensures.1 in
    let told = faults-again c.args.least.version c.args.least.level c.args.writing.rule c.args.writing.interpretation c.args.input.now c.args.logo.share c.args.logo.side _ c.in_err-size.ensures.faults in
    rw (p.1, p.2) (record {
      symbol = tt;
      read = tt;
      empty = told.empty;
      too_long = told.too_long;
      long = told.long;
      logo = told.logo;
      fault = told.fault;
    })

pub returns-in_err-encode_as : goal.returns-in_err-encode_as
returns-in_err-encode_as c =
    let p = err_from_is_err_and c.from_residual-in_err-encode_as.result c.from_residual-in_err-encode_as.ensures.1 in
    let size = c.in_ok-size.size in
    let refused = c.in_err-encode_as.ensures in
    let memory = memory-alone c.args.least.version c.args.least.level c.args.writing.rule c.args.writing.interpretation c.args.input.now c.args.logo.share c.args.logo.side size.version size.level size c.encode_as.result c.in_err-encode_as.field-0.0
    c.in_ok-size.ensures.faults c.in_ok-size.ensures.size c.in_err-encode_as.was refused.fault c.encode_as.ensures.empty c.encode_as.ensures.too_long in
    let told = faults-refused c.args.least.version c.args.least.level c.args.writing.rule c.args.writing.interpretation c.args.input.now c.args.logo.share c.args.logo.side size c.in_ok-size.ensures.faults in
    rw (p.1, p.2, memory) (record {
      symbol = tt;
      read = tt;
      empty = told.empty;
      too_long = told.too_long;
      long = told.long;
      logo = told.logo;
      fault = told.fault;
    })

pub returns : goal.returns
returns c =
    let symbol = c.in_ok-encode_as.field-0 in
    let made = c.in_ok-encode_as.ensures.symbol refl in
    let told = faults-symbol c.args.least.version c.args.least.level c.args.writing.rule c.args.writing.interpretation c.args.input.now c.args.logo.share c.args.logo.side c.in_ok-size.size symbol c.in_ok-size.ensures.faults in record {
      symbol = logo-symbol c.args.least.version c.args.least.level c.args.writing.rule c.args.writing.interpretation c.args.input.now c.args.logo.share c.args.logo.side c.in_ok-size.size.version symbol.version c.in_ok-size.size.level symbol.level
          symbol.mask symbol.matrix c.in_ok-size.ensures.size made.0 made.1;
      read = c.in_ok-encode_as.ensures.read;
      empty = told.empty;
      too_long = told.too_long;
      long = told.long;
      logo = told.logo;
      fault = told.fault;
    }
