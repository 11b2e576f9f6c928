use Rattle.{qr_bits.specs.{Modes.may_use, declared.modes.Mode.TheVariants.Kanji}, qr_layout.specs.Version.side_of}
use Rattle.qr_symbol.specs.{Joining.AreInterpreted, Series.{squares_of, IsSeries, NeedsParts}, declared.symbol.Symbol.Symbol}
use Rattle.qrproved.{proofs.lemmas.encoding.refused-some, specs.{Modules.HoldsSquares, Settings.{interpretation_of, level_of, rule_of}}}
use Rattle.{qrproved.specs.declared.settings.Settings.Settings, std.proofs.Common.{rules, ◌≡◌, ℕ, ◌*◌, ◌<◌, List, length, false, sym, ap, subst, ◌∙◌, arith}}
use Rattle.qrproved.proofs.series.qrproved_encode_series.Goals as goal

pub returns-then-not-may_write-clause-empty : goal.returns-then-not-may_write-clause-empty
returns-then-not-may_write-clause-empty c =
    (λ h. absurd (omega arith), λ w. absurd (refused-some c.in-Some.settings.writing.interpretation c.args.input.now c.may_write.result c.may_write.ensures.1 c.if-not-may_write.true w.1))

pub returns-then-input-gt-INPUT_MAX-clause-room : goal.returns-then-input-gt-INPUT_MAX-clause-room
returns-then-input-gt-INPUT_MAX-clause-room c =
    let none = c.long_inputs_have_none.ensures.series c.args.input.now (level_of c.args.level) (rule_of c.args.rule) (interpretation_of c.args.interpretation) in (
      λ h. absurd (omega arith),
      λ w.
          absurd (none w.4.symbols (omega arith) (subst (λ (s : Settings). IsSeries s.size.version (level_of c.args.level) (rule_of c.args.rule) (interpretation_of c.args.interpretation) c.args.input.now w.4.symbols) (sym c.in-Some.ensures.1) w.4.made)),
    )

pub returns-else-modules-len-clause-done : goal.returns-else-modules-len-clause-done
returns-else-modules-len-clause-done c _ =
    let e = c.in-Some.ensures.1 in
    let symbols = c.in-Ok.symbols.items in
    record {
      settings = c.in-Some.ensures.0;
      symbols = symbols;
      made = subst (λ (s : Settings). IsSeries s.size.version s.size.level s.writing.rule s.writing.interpretation c.args.input.now symbols) e c.in-Ok.ensures.series;
      joined = c.in-Ok.ensures.joined;
      interpreted = subst (λ (s : Settings). AreInterpreted s.writing.interpretation (squares_of symbols)) e c.in-Ok.ensures.interpreted;
      shortest = subst (λ (s : Settings). may_use s.writing.rule Kanji ≡ false → NeedsParts s.size.version s.size.level s.writing.rule s.writing.interpretation c.args.input.now (length symbols)) e c.in-Ok.ensures.shortest;
      count = search rules;
      side = c.side-side.ensures.value ∙ ap (λ (s : Settings). side_of s.size.version) e;
      holds = subst (λ (ss : List Symbol). HoldsSquares c.side-side.result (squares_of ss) c.args.modules.now c.write_squares.new.modules) c.deref.ensures.value c.write_squares.ensures;
    }

pub returns-else-modules-len-clause-room : goal.returns-else-modules-len-clause-room
returns-else-modules-len-clause-room c =
    let e = c.in-Some.ensures.1 in
    let symbols = c.in-Ok.symbols.items in
    let made = subst (λ (s : Settings). IsSeries s.size.version s.size.level s.writing.rule s.writing.interpretation c.args.input.now symbols) e c.in-Ok.ensures.series in
    let side : c.side-side.result ≡ side_of c.args.version = c.side-side.ensures.value ∙ ap (λ (s : Settings). side_of s.size.version) e in
    let area : c.area.result ≡ side_of c.args.version * side_of c.args.version = c.area.ensures ∙ ap (λ (n : ℕ). n * n) side in
    let many : c.len.result ≡ length symbols = search rules in (
      λ h. absurd (omega arith),
      λ w.
          let same = c.series_are_one.ensures c.args.input.now (level_of c.args.level) (rule_of c.args.rule) (interpretation_of c.args.interpretation) c.args.version w.4.symbols symbols w.4.made made in
          let room : length c.args.modules.now < length symbols * (side_of c.args.version * side_of c.args.version) =
          subst (λ (ss : List Symbol). length c.args.modules.now < length ss * (side_of c.args.version * side_of c.args.version)) same w.4.room in
          let all : c.len.result * c.area.result ≡ length symbols * (side_of c.args.version * side_of c.args.version) =
          ap (λ (n : ℕ). n * c.area.result) many ∙ ap (λ (n : ℕ). length symbols * n) area in
          absurd (omega (arith, all, room)),
    )
