use Rattle.std.proofs.Common.{arith, rules, ◌≡◌, ◌≤◌, ◌∙◌, ◌+◌, ◌-◌, ◌++◌, ap, sym, drop, length, take}
use Rattle.std.proofs.lemmas.{List.{length-drop, length-take, length-take-le}, Slice.{drop-put_mid, take-put_mid}}
use borrow.Rule.Slice.PartMut.{put_mid, same_len_mid}
use Rattle.qr_images.proofs.lemmas.target.{drop-on, written-on}
use Rattle.qr_images.proofs.target.TargetSink.write.Goals as goal

pub returns-clause-bytes : goal.returns-clause-bytes
returns-clause-bytes c =
    let at = c.args.self.now.len in
    let end = c.min-end.result in
    let before = c.args.self.now.buffer.now in
    let written = c.copy_from_slice.new.self in
    let on : at ≤ end = omega (arith, c.min-end.ensures, c.saturating_add.ensures, c.args.self.now.within) in
    let bytes = take (end - at) c.args.buf.now in
    let same : written ≡ bytes = search rules in
    let long : length written ≡ end - at = search (rules, length-take) in
    let some : length before ≡ 0 → ⊥ = search rules in
    let kept : length (put_mid at (end - at) before written) ≡ length before =
    same_len_mid at (end - at) before written (long ∙ sym (length-take-le (end - at) (drop at before) (omega (arith, length-drop at before, c.min-end.ensures)))) in
    let all : take end (put_mid at (end - at) before written) ≡ take at before ++ bytes =
    take-put_mid at (end - at) before written end (omega arith) c.args.self.now.within ∙ ap (λ l. take at before ++ l) same in
    written-on (length before) (length (put_mid at (end - at) before written)) (take at before) (take end (put_mid at (end - at) before written)) bytes some (λ e. some (sym kept ∙ e)) all

pub returns-clause-rest : goal.returns-clause-rest
returns-clause-rest c =
    let at = c.args.self.now.len in
    let end = c.min-end.result in
    let before = c.args.self.now.buffer.now in
    let written = c.copy_from_slice.new.self in
    let on : at ≤ end = omega (arith, c.min-end.ensures, c.saturating_add.ensures, c.args.self.now.within) in
    let long : length written ≡ end - at = search (rules, length-take) in
    let sum : at + (end - at) ≡ end = omega arith in
    drop-put_mid at (end - at) before written end (omega arith) c.args.self.now.within long ∙ drop-on at (end - at) end before sum
