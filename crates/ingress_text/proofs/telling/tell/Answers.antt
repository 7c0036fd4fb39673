use Rattle.std.proofs.Common.{◌≡◌, ◌-◌, ◌≤◌, Bool, List, [], ◌∷◌, ◌++◌, length, take, drop, map, sym, ap, subst, ◌∙◌, arith}
use Rattle.std.specs.List.{flat_map}
use Rattle.ingress_rep.specs.Ingress.{copies_of, request_of}
use Rattle.ingress_rep.specs.declared.copying.LeafCopy.{LeafCopy}
use Rattle.ingress_text.specs.declared.input.Line.{Line}
use Rattle.ingress_text.specs.Telling.{copy_line, table_of}
use Rattle.ingress_text.proofs.TellLemmas.{first_item, no_item, told_none, told_more, told_all, IsToldTo}
use Rattle.ingress_text.proofs.telling.tell.Goals as goal

pub lines-init : goal.lines-init
lines-init c =
    let root = c.args.input.now.root in
    let lines : List Line = c.args.input.now.lines in
    subst (λ (rest : List Line). IsToldTo root lines c.new-text.result _ c.new-peers.result rest) (sym c.as_slice-rest.ensures)
    (told_none root lines c.new-text.result c.new-peers.result c.new-text.ensures c.new-peers.ensures.empty)

pub lines-preserved : goal.lines-preserved
lines-preserved c =
    let root = c.args.input.now.root in
    let lines : List Line = c.args.input.now.lines in
    let more : List Line = take (length c.lines.rest.now - 1) (drop 1 c.lines.rest.now) in
    let parts : c.lines.rest.now ≡ c.line-item.result ∷ more =
    first_item c.lines.rest.now c.line-item.result (omega (arith, c.in-len1-up.len_at_least)) c.line-item.is in
    let before = subst (λ (rest : List Line). IsToldTo root lines c.lines.text c.lines.refused c.lines.peers rest) parts c.lines.invariant in
    subst (λ (b : Bool). IsToldTo root lines c.tell_line.new.text b c.tell_line.new.peers more) (sym c.either-told.ensures)
    (told_more root lines c.lines.text c.tell_line.new.text c.lines.refused c.in_ok-shown.shown c.lines.peers c.tell_line.new.peers c.line-item.result
    more before c.in_ok-shown.ensures.peers
    c.in_ok-shown.ensures.text c.in_ok-shown.ensures.refused)

pub returns : goal.returns
returns c =
    let none : c.lines.rest.now ≡ [] = no_item c.lines.rest.now (omega (arith, c.in_default.len_below)) in
    let is : c.as_slice.result.now ≡ copies_of (request_of c.args.input.now.root.advert) (map table_of c.lines.peers.entries) =
    c.as_slice.ensures ∙ (c.in_ok-copies.ensures ∙ (λ i. copies_of (request_of (c.advert.ensures.advert i)) (c.in_ok-tables.ensures.tables i))) in
    told_all c.args.input.now c.lines.text c.put_copies.new.out c.lines.refused c.lines.peers c.lines.rest.now c.lines.invariant none
    c.tables_of.ensures.ordered
    (c.in_ok-put_copies.ensures ∙ ap (λ (copies : List LeafCopy). c.lines.text ++ flat_map copy_line copies) is)
