-- What is kept, with what its flows want by the routes of now.
use Rattle.std.proofs.Common.{◌≡◌, ◌∙◌, refl, sym, ap, subst}
use Rattle.std.proofs.lemmas.List.{length-map}
use Rattle.mv_base.specs.Lists.{Among}
use Rattle.mv_base.specs.declared.ids.VrfId.{VrfId}
use Rattle.mv_base.specs.core_walks.Core.{Core}
use Rattle.vrf_words.specs.tree_defs.Trees.{TreeData}
use Rattle.edge_defs.specs.Place.{OwnVrf, own_vrfs}
use Rattle.edge_routes.specs.edge_home.Home.{place_of}
use Rattle.control_laws.proofs.edge_words.calm_laws.Lists.{among_map}
use Rattle.control_laws.proofs.edge_words.calm_laws.Vrfs.{one_number}
use Rattle.vrf_words.specs.tree_laws.TreeOf.{IsTreeOf}
use Rattle.control_laws.specs.Control.{Kept, OwnTree, control_of, trees_of, with_trees}
use Rattle.control_laws.specs.Peers.{as_wanted}
use Rattle.control_laws.specs.Between.{AreTreesBetween}
use Rattle.control_laws.proofs.Between.{between_at, between_together}
use Rattle.control_laws.proofs.Owned.{with}
use Rattle.control_laws.proofs.Parts.{AreFull, AreParts, full_of, parts_of}
use Rattle.control_laws.proofs.Replaced.{same_control, still_full, all_its, all_entries_stay, all_notes_stay, all_selections_stay, all_flows_stay}
use Rattle.edge_control.specs.Places.{IsTreeAt}
use Rattle.edge_control.specs.Sound.{IsSound}

-- the edge keeps the same with it
pub wanted_control : (kept : Kept) → control_of (with_trees as_wanted kept) ≡ control_of kept
wanted_control kept =
    same_control _ _ (all_entries_stay kept as_wanted (λ tree. refl)) (all_notes_stay kept as_wanted (λ tree. refl))
    (all_selections_stay kept as_wanted (λ tree. refl))
    (all_flows_stay kept as_wanted (λ tree. refl)) refl

wanted_parts : (kept : Kept) → AreParts (with_trees as_wanted kept) → AreParts kept
wanted_parts kept parts it a =
    let as_it : OwnTree → OwnTree = λ other. with other (as_wanted other.tree) in
    let part = parts (as_it it) (subst (Among (as_it it)) (sym (all_its kept as_wanted)) (among_map as_it it (trees_of kept) a)) in
    record { entries = part.entries; notes = part.notes; selections = part.selections; derived = part.derived }

pub sound_full : (kept : Kept) → IsSound kept → AreFull kept
sound_full kept sound =
    still_full (with_trees as_wanted kept) kept.trees (full_of (with_trees as_wanted kept) sound.trees) (sym (length-map kept.trees as_wanted))

pub sound_parts : (kept : Kept) → IsSound kept → AreParts kept
sound_parts kept sound = wanted_parts kept (parts_of (with_trees as_wanted kept) sound.trees)

pub sound_between : (kept : Kept) → IsSound kept → AreTreesBetween kept
sound_between kept sound = between_together kept (sound_full kept sound) (sound_parts kept sound)

-- the tree of a VRF of the edge is what the edge keeps of it between two refreshes
pub tree_between : (kept : Kept) (core : Core) (vrf : VrfId) (tree : TreeData) (own : OwnVrf) → IsSound kept → IsTreeAt kept vrf tree
    → Among own (own_vrfs (place_of kept.home core)) → own.id ≡ vrf
    → IsTreeOf (place_of kept.home core) (control_of kept) own (as_wanted tree)
tree_between kept core vrf tree own sound at a e =
    let place = place_of kept.home core in
    let other : Among at.it.own (own_vrfs place) =
    subst (Among at.it.own) (sound_full kept sound).all (among_map (λ (it : OwnTree). it.own) at.it (trees_of kept) at.among) in
    let same : own ≡ at.it.own = one_number place own at.it.own a other (ap (λ (v : VrfId). v.0) (e ∙ sym at.id)) in
    subst (λ (t : TreeData). IsTreeOf place (control_of kept) own (as_wanted t)) at.is
    (subst (λ (o : OwnVrf). IsTreeOf place (control_of kept) o (as_wanted at.it.tree)) (sym same)
    (between_at kept (sound_between kept sound) core at.it at.among))
