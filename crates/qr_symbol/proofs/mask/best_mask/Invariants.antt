use Rattle.{qr_layout.specs.Version.side_of, qr_matrix.specs.Grid.{one_of, IsSquare}}
use Rattle.{qr_symbol.specs.{Choice.IsFirstLeast, Steps.Placement.masked_penalty}, std.proofs.Common.{◌≡◌, ◌⊎◌, ◌*◌, Bool}}
use Rattle.qr_symbol.proofs.mask.best_mask.Given as goal

-- no mask is tried, or the best of those that are is known
abbrev pub invariant-loop-half : goal.invariant-loop-half
invariant-loop-half l =
    let f = masked_penalty l.canvas.version l.canvas.level l.canvas.region l.canvas.unmasked in
    record {
      squares : (s : Bool) → IsSquare (side_of l.canvas.version) (one_of l.pair s);
      best : ((2 * l.half ≡ 0) × (l.best ≡ 0) × (l.least ≡ 4294967295)) ⊎ (IsFirstLeast (2 * l.half) f l.best × (l.least ≡ f l.best));
    }
