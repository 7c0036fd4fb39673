use Rattle.std.proofs.Common.{[], ◌∷◌, List, refl, sym, subst, ◌∙◌}
use Rattle.mv_base.specs.declared.route_targets.communities.ExtComm.{ExtComm}
use Rattle.bgp_messages.specs.bgp_attributes.Spelling.{AreComms}
use Rattle.bgp_messages.proofs.bgp_update.Appending.{alike}
use Rattle.route_rows.proofs.bgp.many.Goals as goal

pub returns : goal.returns
returns c =
    let P : List ExtComm → Type 0 = λ comms. AreComms comms in
    let comm : ExtComm = record { 0 = 1 ∷ 2 ∷ 192 ∷ 0 ∷ 2 ∷ 1 ∷ 0 ∷ 1 ∷ [] } in
    subst P (sym (c.from_vec.ensures ∙ c.in_ok-from_array.ensures.items)) (alike 510 comm refl)
