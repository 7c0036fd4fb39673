use Rattle.std.proofs.Common.{◌∷◌, ◌++◌, [], ◌∙◌, ◌==◌, ℕ, Bor, List, Option, ap, sym, refl, rules, arith, length-append}
use Rattle.std.specs.List.{slice_split}
use Rattle.line_words.specs.Parts.{parts_after}
use Rattle.line_words.proofs.ListFacts.{list_from, from_start, taken, too_many, again, distinct_push, list_done, some_part}
use Rattle.line_words.proofs.lists.read_list.Goals as goal

pub parts-init : goal.parts-init
parts-init g c =
    let T = g.T.Listed in
    rw c.new-found.ensures (record { left = from_start T.alike T.read_of c.args.text.now; count = refl; distinct = refl })

pub returns-then-is_among : goal.returns-then-is_among
returns-then-is_among g c =
    let T = g.T.Listed in
    sym (sym c.parts.invariant.left ∙ (ap (list_from T.alike T.read_of c.parts.found) c.cut_comma.ensures
    ∙ again T.alike T.read_of c.parts.found _ _ c.in-Some.item (sym c.read.ensures ∙ c.in-Some.is) (search rules)))

pub returns-in-None-thereafter : goal.returns-in-None-thereafter
returns-in-None-thereafter g c =
    let T = g.T.Listed in
    let found = c.parts.found ++ c.in-Some.item ∷ [] in
    let left =
    taken T.alike T.read_of c.parts.found _ _ (parts_after c.cut_comma.result.1) c.in-Some.item _ (sym c.read.ensures ∙ c.in-Some.is)
    c.cut_comma.ensures c.parts.invariant.left in
    let distinct = distinct_push T.alike c.parts.found c.in-Some.item c.parts.invariant.distinct (search rules) in
    let done =
    list_done T.alike T.read_of found (omega (
      arith,
      length-append c.parts.found (c.in-Some.item ∷ []),
      c.parts.invariant.count,
      c.parts-test.true,
    )) distinct in
    rw c.in_ok-push.ensures.ok (sym (sym left ∙ (ap (λ (thereafter : Option (Bor (List ℕ))). list_from T.alike T.read_of found (parts_after thereafter))
    c.in-None-thereafter.is ∙ done)))

pub parts-preserved : goal.parts-preserved
parts-preserved g c =
    let T = g.T.Listed in
    let found = c.parts.found ++ c.in-Some.item ∷ [] in
    let left =
    taken T.alike T.read_of c.parts.found _ _ (parts_after c.cut_comma.result.1) c.in-Some.item _ (sym c.read.ensures ∙ c.in-Some.is)
    c.cut_comma.ensures c.parts.invariant.left in
    let distinct = distinct_push T.alike c.parts.found c.in-Some.item c.parts.invariant.distinct (search rules) in
    rw c.in_ok-push.ensures.ok (record {
      left = sym (ap (λ (thereafter : Option (Bor (List ℕ))). list_from T.alike T.read_of found (parts_after thereafter)) c.in-Some-thereafter.is) ∙ left;
      count = omega (arith, length-append c.parts.found (c.in-Some.item ∷ []), c.parts.invariant.count);
      distinct = distinct;
    })

pub returns : goal.returns
returns g c =
    let T = g.T.Listed in
    sym (sym c.parts.invariant.left ∙ too_many T.alike T.read_of c.parts.found (slice_split (λ b. b == 44) c.parts.rest.now)
    (some_part c.parts.rest.now) (omega (arith, c.parts.invariant.count, c.parts-test.false)))
