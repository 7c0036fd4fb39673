use Rattle.std.proofs.Common.{ℕ, List, [], ◌∷◌, ◌++◌, ◌+◌, get_or, length, ap, ◌∙◌}
use Rattle.std.specs.Int.{w16, to_be_bytes}
use Rattle.bgp_messages.specs.bgp_update.Spelling.{marker}
use Rattle.bgp_messages.proofs.bgp_update.Appending.{put_four}
use Rattle.bgp_messages.proofs.bgp_update.writing.put_message.Goals as goal

pub returns-clause-text : goal.returns-clause-text
returns-clause-text c =
    let len = length c.args.attributes.now in
    let second =
    c.in_ok-extend-2.ensures.ok ∙ ap (λ (xs : List ℕ). c.extend.new.self ++ (get_or xs 0 0 ∷ get_or xs 1 0 ∷ 2 ∷ 0 ∷ 0 ∷ []))
    c.to_be_bytes.ensures in
    let third = c.in_ok-extend-3.ensures.ok ∙ ap (λ (xs : List ℕ). c.extend-2.new.self ++ xs) c.to_be_bytes-2.ensures in
    put_four c.extend-4.result c.args.out.now c.extend.new.self c.extend-2.new.self c.extend-3.new.self c.extend-4.new.self marker
    (to_be_bytes w16 (23 + len) ++ (2 ∷ 0 ∷ 0 ∷ [])) (to_be_bytes w16 len) c.args.attributes.now c.in_ok-extend.ensures.ok second third
    c.extend-4.ensures.ok
