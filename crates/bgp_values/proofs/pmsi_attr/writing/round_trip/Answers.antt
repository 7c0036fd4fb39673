use Rattle.std.proofs.Common.{◌≡◌, List, ℕ, length, take, ap, sym, subst, ◌∙◌}
use Rattle.bgp_values.specs.pmsi_attr.Spelling.{Spells, written}
use Rattle.bgp_values.proofs.pmsi_attr.WritingLemmas.{front_put}
use Rattle.bgp_values.proofs.pmsi_attr.writing.round_trip.Goals as goal

pub returns : goal.returns
returns c =
    let text = written c.args.pmsi.now in
    let front : take c.encode-len.result c.encode-len.new.out ≡ text =
    ap (λ (n : ℕ). take n c.encode-len.new.out) c.encode-len.ensures.len ∙ ap (λ (xs : List ℕ). take (length text) xs) c.encode-len.ensures.octets
    ∙ front_put c.args.out.now text in
    c.decode.ensures.only_spelled c.args.pmsi.now (subst (Spells c.args.pmsi.now) (sym front) c.requires.spelled)
