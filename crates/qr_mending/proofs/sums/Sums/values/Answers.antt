use Rattle.{qr_field.proofs.lemmas.register.{byte-xor, word-byte}, std.proofs.Common.{rules, ◌∙◌, ap, get_or, bit_xor}}
use Rattle.qr_mending.proofs.sums.Sums.values.Goals as goal

pub returns : goal.returns
returns c = λ k l.
    let s = c.args.self in
    ap (λ t. get_or t k 0) c.to_le_bytes.ensures ∙ (word-byte k (bit_xor c.fourfold-3.result s.ones) l
    ∙ (search (rules, byte-xor)))
