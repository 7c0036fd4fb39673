use Rattle.std.proofs.Common.{◌≡◌, ◌++◌, ◌-◌, ◌∙◌, List, ℕ, take, drop, length, arith, ap, refl, sym, subst, slice_index}
use Rattle.std.specs.Result.{OnOk}
use Rattle.std.specs.Fmt.{decimal}
use Rattle.std.proofs.lemmas.List.{take_rest}
use Rattle.value_text.proofs.DottedLemmas.{dotted, few_digits}
use Rattle.value_text.proofs.addr_text.put_dotted.Goals as goal

pub write_digits-first-requires : goal.write_digits-first-requires
write_digits-first-requires c =
    let few = few_digits (slice_index c.args.octets.now 0) c.from.result (c.fits-octets 0) c.from.ensures in
    (omega (arith, few), omega arith)

pub returns : goal.returns
returns c =
    let octets = c.args.octets.now in
    let first = c.write_digits-first.result in
    let text = c.write_digits-first.new.buf in
    let long : length text ≡ 15 = omega arith in
    let number : drop first text ≡ decimal (slice_index octets 0) ++ drop c.write_after_dot-second.result c.write_after_dot-second.new.text =
    c.write_digits-first.ensures.written ∙ ap (λ (n : ℕ). decimal n ++ drop c.write_after_dot-second.result c.write_after_dot-second.new.text)
    c.from.ensures in
    let whole =
    dotted (decimal (slice_index octets 0)) (decimal (slice_index octets 1)) (decimal (slice_index octets 2)) (decimal (slice_index octets 3))
    (drop first text) _ _ _ _ number c.write_after_dot-second.ensures.text c.write_after_dot-third.ensures.text
    c.write_after_dot-last.ensures.text refl in
    let rest : take (15 - first) (drop first text) ≡ drop first text =
    ap (λ (n : ℕ). take (n - first) (drop first text)) (sym long) ∙ take_rest text first in
    subst (λ (xs : List ℕ). OnOk c.extend.result (c.extend.new.self ≡ c.args.out.now ++ xs)) (rest ∙ whole) c.extend.ensures.ok
