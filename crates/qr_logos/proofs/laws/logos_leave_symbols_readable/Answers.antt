use Rattle.{qr_logos.proofs.lemmas.laws.{allowed-few, clear-worn, worn-read}, qr_matrix.specs.Grid.Grid, std.proofs.Common.{ap, arith}}
use Rattle.qr_logos.proofs.laws.logos_leave_symbols_readable.Goals as goal

pub returns : goal.returns
returns c = record {
  clear = λ v l rule i x h mask symbol square k covered least most may s clear w m few.
      let worn = clear-worn v l k covered square symbol least (ap (λ (z : Grid). z.side) s.drawn) clear w m in
      worn-read v l rule i x h mask symbol square k covered 0 least most may s worn m (omega arith);
  worn = λ v l rule i x h mask symbol square k covered more least most may s w m few.
      worn-read v l rule i x h mask symbol square k covered more least most may s w m few;
  allowed = λ v l rule i x h mask symbol square share k more least most may s a w in-share rest.
      worn-read v l rule i x h mask symbol square k a.covered more least most may s w a.most (allowed-few v l share k more a in-share rest);
}
