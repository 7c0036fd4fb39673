use Rattle.std.proofs.Common.{◌≡◌, ◌++◌, ◌∙◌, ap, sym, subst, take, length, List, ℕ}
use Rattle.std.specs.Result.{OnOk}
use Rattle.std.proofs.lemmas.List.{take_at}
use Rattle.hex.specs.Hex.{encode_lower}
use Rattle.mv_base.specs.Writing.{put_at}
use Rattle.mv_base.proofs.Fields.{put_at_front}
use Rattle.bgp_values.specs.pmsi_attr.Spelling.{written}
use Rattle.value_text.specs.MessageText.{attribute_text}
use Rattle.value_text.proofs.bgp_lines.put_attribute.Goals as goal

-- what stands in front of the zeros is what was written
front : (old out w : List ℕ) (n : ℕ) → n ≡ length w → out ≡ put_at old 0 w → take n out ≡ w
front old out w n e o = ap (take n) (o ∙ put_at_front old w) ∙ take_at w _ n (sym e)

pub returns-in-Some : goal.returns-in-Some
returns-in-Some c =
    let w : List ℕ = written c.in-Some.pmsi in
    let is : take c.encode-len.result c.encode-len.new.out ≡ w = front _ _ w _ c.encode-len.ensures.len c.encode-len.ensures.octets in
    let P : List ℕ → Type 0 = λ xs. OnOk c.put_digits.result (c.put_digits.new.out ≡ c.args.out.now ++ xs) in
    subst P (ap encode_lower is ∙ ap attribute_text (sym c.in-Some.is)) c.put_digits.ensures
