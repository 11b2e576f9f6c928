use Rattle.qr_sampling.specs.{Brightness.shown, Levels.{light_of, mark}, Sampling.{sampled, value_at}}
use Rattle.qr_sampling.proofs.sampling.sample.Goals as goal

pub returns-clause-modules : goal.returns-clause-modules
unfolding sampled
returns-clause-modules c is_done =
    let side = c.args.how.now.side in
    let v = value_at (shown c.args.picture.now) c.args.how.now in
    let lights = c.write_lights.ensures v c.write_values.ensures (c.write_across.ensures v c.write_values.ensures) in
    let marks = c.write_marks.ensures (light_of side v) lights in
    c.write_modules.ensures v c.write_values.ensures (record {
      all_are = c.write_across.ensures v c.write_values.ensures;
      light_are = c.write_across-2.ensures (light_of side v) lights;
      count_are = c.write_across-3.ensures (λ column row. mark (light_of side v column row)) marks;
    })
