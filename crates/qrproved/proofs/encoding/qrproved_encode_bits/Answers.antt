use Rattle.qr_bits.specs.Interpretation.{MayWrite}
use Rattle.qr_symbol.specs.VersionChoice.{HasNoVersion}
use Rattle.qrproved.proofs.lemmas.encoding.{encoded-version, refused-long, refused-room, room-lacks, room-suffices}
use Rattle.qrproved.specs.{Encoding.HasNoRoomForBits, Settings.{AreSymbolSettings, interpretation_of, level_of, rule_of}}
use Rattle.std.proofs.Common.{◌≡◌, [], refl, arith}
use Rattle.qrproved.specs.Bits.{bytes_of_bits}
use Rattle.qrproved.proofs.encoding.qrproved_encode_bits.Goals as goal

pub returns-in-Err-clause-too_long : goal.returns-in-Err-clause-too_long
returns-in-Err-clause-too_long c =
    refused-long c.symbol_of.result c.in-Err.status
    (AreSymbolSettings c.args.version c.args.level c.args.rule c.args.interpretation c.args.boost)
    (MayWrite (interpretation_of c.args.interpretation) c.args.input.now)
    (HasNoVersion c.args.version (level_of c.args.level) (rule_of c.args.rule) (interpretation_of c.args.interpretation) c.args.input.now)
    c.in-Err.is c.symbol_of.ensures.too_long

pub returns-in-Err-clause-room : goal.returns-in-Err-clause-room
returns-in-Err-clause-room c =
    refused-room c.symbol_of.result c.in-Err.status c.args.input.now
    (AreSymbolSettings c.args.version c.args.level c.args.rule c.args.interpretation c.args.boost)
    (MayWrite (interpretation_of c.args.interpretation) c.args.input.now)
    (HasNoVersion c.args.version (level_of c.args.level) (rule_of c.args.rule) (interpretation_of c.args.interpretation) c.args.input.now)
    (HasNoRoomForBits c.args.input.now c.args.version c.args.level c.args.rule c.args.interpretation c.args.bits.now) c.in-Err.is
    (λ w none. let is = w.fits in none w.least is.least is.most is.fits)
    c.symbol_of.ensures.settings c.symbol_of.ensures.empty c.symbol_of.ensures.fields c.symbol_of.ensures.too_long c.in-Err.ensures.status

pub returns-then-bits-bits_len-clause-too_long : goal.returns-then-bits-bits_len-clause-too_long
returns-then-bits-bits_len-clause-too_long c =
    let is = encoded-version _ _ _ _ _ _ _ _ c.in-Ok.ensures.symbol.0 in
    (λ h. absurd (omega arith), λ w. absurd (w.3 c.in-Ok.numbers.version is.least is.most is.fits))

pub returns-then-bits-bits_len-clause-room : goal.returns-then-bits-bits_len-clause-room
returns-then-bits-bits_len-clause-room c =
    let made = c.in-Ok.ensures.symbol in
    let none : c.args.input.now ≡ [] → ⊥ = λ e. let bad = c.symbol_of.ensures.empty.1 (made.0.settings, e) in cc (bad, c.in-Ok.is) in
    (λ _. (λ m. absurd (omega arith), made.0.settings, none, made.1, room-lacks bytes_of_bits _ _ _ _ _ _ _ _ c.args.bits.now made.0 (omega (arith, c.bits_len.ensures.value, c.if-bits-bits_len.true))), λ _. refl)

pub returns-else-bits-bits_len-clause-done : goal.returns-else-bits-bits_len-clause-done
returns-else-bits-bits_len-clause-done c _ =
    record {
      square = c.in-Ok.matrix;
      encoded = c.in-Ok.ensures.symbol.0;
      holds = c.write_bits.ensures;
    }

pub returns-else-bits-bits_len-clause-too_long : goal.returns-else-bits-bits_len-clause-too_long
returns-else-bits-bits_len-clause-too_long c =
    let is = encoded-version _ _ _ _ _ _ _ _ c.in-Ok.ensures.symbol.0 in
    (λ h. absurd (omega arith), λ w. absurd (w.3 c.in-Ok.numbers.version is.least is.most is.fits))

pub returns-else-bits-bits_len-clause-room : goal.returns-else-bits-bits_len-clause-room
returns-else-bits-bits_len-clause-room c =
    (λ h. absurd (omega arith), λ w. absurd (room-suffices bytes_of_bits _ _ _ _ _ _ _ _ c.args.bits.now c.in-Ok.ensures.symbol.0 (omega (arith, c.bits_len.ensures.value, c.if-bits-bits_len.false)) w.4))
