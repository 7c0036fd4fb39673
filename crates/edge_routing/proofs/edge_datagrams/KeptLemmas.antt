-- What is kept of a VRF says where its datagrams go.
use Rattle.std.proofs.Common.{◌≡◌, ℕ, ◌&&◌, Bool, true, false, cond, is_some, [], Option, Some, None, refl, sym, ap, ◌∙◌}
use Rattle.mv_base.specs.Lists.{Among}
use Rattle.mv_base.specs.declared.ids.SiteId.{SiteId}
use Rattle.mv_base.specs.declared.ids.VrfId.{VrfId}
use Rattle.mldp.specs.declared.mldp_fec.fec.Fec.{Fec}
use Rattle.mv_base.specs.core_walks.Core.{Core}
use Rattle.label_defs.specs.LabelData.{LabelData, branches_of}
use Rattle.label_defs.proofs.KeyLemmas.{node_cmp_total}
use Rattle.vrf_words.specs.declared.tree_defs.flow.Flow.{Flow}
use Rattle.vrf_words.specs.declared.tree_defs.flow.Origin.TheVariants as origins
use Rattle.vrf_words.specs.tree_defs.Flows.{chosen_for, is_from, outgoing}
use Rattle.vrf_words.specs.tree_defs.Trees.{TreeData}
use Rattle.edge_defs.specs.Datagrams.{entering_fate}
use Rattle.edge_defs.specs.Edge.{Control, TakenRoute}
use Rattle.edge_defs.specs.Place.{EdgePlace, OwnVrf, own_vrfs}
use Rattle.edge_defs.specs.Upstream.{known_routes}
use Rattle.edge_defs.proofs.KeyLemmas.{key_total}
use Rattle.edge_routes.specs.edge_home.Home.{place_of}
use Rattle.edge_control.proofs.edge_tables.taken_tables.SpelledLemmas.{octets_key, writable_key}
use Rattle.edge_words.proofs.calm_laws.Maps.{entry_get}
use Rattle.edge_words.proofs.Members.{table_of}
use Rattle.vrf_words.specs.tree_laws.Joined.{has_join, tunnel_for}
use Rattle.vrf_words.specs.tree_laws.Whole.{AreWhole, HaveSpellings}
use Rattle.vrf_words.proofs.tree_laws.Entering.{entering_branches, entering_outs}
use Rattle.vrf_words.proofs.tree_laws.Whole.{prefixes_whole}
use Rattle.control_laws.specs.Control.{Kept, control_of}
use Rattle.control_laws.specs.Peers.{as_wanted}
use Rattle.edge_control.specs.Places.{IsTreeAt}
use Rattle.edge_control.specs.Sound.{IsSound}
use Rattle.edge_control.proofs.SoundLemmas.{tree_between}
use Rattle.edge_routing.specs.edge_datagrams.Datagrams.{AreOfOctets, branches_on, edge_with, tunnel_from}

-- ---- the tunnel

branches_where : (part : LabelData) (a b : Bool) (fec : Fec)
    → branches_on part (cond (a && b) (Some fec) None) ≡ cond a (cond b (branches_of part fec) []) []
branches_where part true true fec = refl
branches_where part true false fec = refl
branches_where part false b fec = refl

module _ (kept : Kept) (sound : IsSound kept) (octets : AreOfOctets kept) (walks : Core) where
  abbrev place : EdgePlace
  place = place_of kept.home walks

  abbrev control : Control
  control = control_of kept

  have_spellings : HaveSpellings control
  have_spellings peer key route h =
      let table = table_of control peer key route h in
      let is = octets.taken peer table.table (entry_get node_cmp_total kept.peers peer table.table table.of_peer) key
      (ap (λ (o : Option TakenRoute). is_some o) (entry_get key_total table.table key route table.among)) in
      (writable_key key is, octets_key key is)

  pub are_whole : (own : OwnVrf) → AreWhole (known_routes place control own)
  are_whole own = prefixes_whole place control own sound.home.rules octets.sites have_spellings

  module _ (vrf : VrfId) (tree : TreeData) (own : OwnVrf) (at : IsTreeAt kept vrf tree) (a : Among own (own_vrfs place)) (e : own.id ≡ vrf) (now : ℕ)
      (site : SiteId) (flow : Flow) (part : LabelData) where
    pub outs_told : outgoing tree.vrf (walks.cost kept.home.me) now flow (origins.Site site)
        ≡ (entering_fate place now (edge_with kept part) own site flow.source flow.group).outs
    outs_told =
        sym (entering_outs place control own (as_wanted tree) (tree_between kept walks vrf tree own sound at a e) flow now site sound.home.rules
        sound.peers (are_whole own) (edge_with kept part) refl)

    pub branches_told : branches_on part (tunnel_from place tree (origins.Site site) flow)
        ≡ (entering_fate place now (edge_with kept part) own site flow.source flow.group).branches
    branches_told =
        branches_where part (is_from (origins.Site site) (chosen_for tree.vrf.routes (walks.cost kept.home.me) flow)) (has_join tree flow)
        (tunnel_for place tree flow)
        ∙ sym (entering_branches place control own (as_wanted tree) (tree_between kept walks vrf tree own sound at a e) flow now site sound.home.rules
        sound.peers (are_whole own) (edge_with kept part) refl)
