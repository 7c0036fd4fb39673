-- A tunnel that a flow wants is one of a route that was learned.
use Rattle.std.proofs.Common.{◌≡◌, ◌&&◌, ◌||◌, ◌==◌, not, Bool, true, false, cond, List, [], ◌∷◌, map, Option, None, Some, refl, sym, ap, ◌∙◌}
use Rattle.std.specs.List.{filter, list_any}
use Rattle.std.proofs.lemmas.Bool.{and_parts, eqb-true, or_right}
use Rattle.std.proofs.lemmas.Option.{same_Some}
use Rattle.mv_base.specs.declared.ids.NodeId.{NodeId}
use Rattle.mldp.specs.declared.mldp_fec.fec.Fec.{Fec}
use Rattle.label_defs.specs.LabelData.{same_fec}
use Rattle.selective_defs.specs.Selective.{is_wanted}
use Rattle.selective_defs.specs.declared.learned_route.LearnedRoute.{LearnedRoute}
use Rattle.selective.specs.Leaves.{Leaf, peer_routes}
use Rattle.vrf_words.specs.declared.tree_defs.flow.Flow.{Flow}
use Rattle.vrf_words.specs.declared.tree_defs.flow.Upstream.{Upstream}
use Rattle.vrf_trees.specs.declared.wants.Wants.{Wants}
use Rattle.vrf_trees.specs.Wants.{Holds, is_fec, is_in, is_known, is_stale, tunnels_of, wants_by, wants_of}
use Rattle.vrf_trees.proofs.TableLemmas.{fec_ties, fec_turned}

module _ (fec : Fec) where
  abbrev has_tunnel : LearnedRoute → Bool
  has_tunnel route = same_fec route.fec fec

  abbrev fec_of : LearnedRoute → Fec
  fec_of route = route.fec

  fec_is : (own : Fec) → is_fec fec own ≡ same_fec own fec
  fec_is own = fec_turned fec own ∙ fec_ties own fec

  any_where : (a b : Bool) (c : Bool) → (b ≡ true → c ≡ true) → (a || b) ≡ true → (a || c) ≡ true
  any_where true b c from h = refl
  any_where false b c from h = from h

  -- the tunnel of one of the routes that pass is that of one of the routes
  of_passing : (passes : LearnedRoute → Bool) (routes : List LearnedRoute) → is_in fec (map fec_of (filter passes routes)) ≡ true
      → list_any has_tunnel routes ≡ true
  of_passing passes [] h = absurd cc
  of_passing passes (route ∷ more) h = by (passes route) refl (of_passing passes more)
    where
      by : (b : Bool) → passes route ≡ b → (is_in fec (map fec_of (filter passes more)) ≡ true → list_any has_tunnel more ≡ true)
          → list_any has_tunnel (route ∷ more) ≡ true
      by true e after =
          any_where (has_tunnel route) (is_in fec (map fec_of (filter passes more))) (list_any has_tunnel more) after
          (ap (λ (b : Bool). b || is_in fec (map fec_of (filter passes more))) (sym (fec_is route.fec))
          ∙ (ap (λ (b : Bool). is_in fec (map fec_of (cond b (route ∷ filter passes more) (filter passes more)))) (sym e) ∙ h))
      by false e after =
          or_right (has_tunnel route) (list_any has_tunnel more)
          (after
          (ap (λ (b : Bool). is_in fec (map fec_of (cond b (route ∷ filter passes more) (filter passes more)))) (sym e) ∙ h))

-- What a flow is known to want of an edge was learned from it.
module _ (leaf : Leaf) (ups : Flow → Option Upstream) (held : Flow → Option Wants) (holds : Holds leaf ups held) (flow : Flow)
    (edge : NodeId) (fec : Fec) where
  known_of : (own : Wants) → held flow ≡ Some own → is_known edge fec (Some own) ≡ true → list_any (has_tunnel fec) (peer_routes edge leaf.routes) ≡ true
  known_of own e known = by (ups flow) (sym e ∙ holds.fresh flow (ap is_stale e ∙ fresh (own.stale) parts.0))
    where
      parts : (not own.stale ≡ true) × (((own.edge.0 == edge.0) && is_in fec own.fecs) ≡ true)
      parts = and_parts (not own.stale) ((own.edge.0 == edge.0) && is_in fec own.fecs) known

      fresh : (b : Bool) → not b ≡ true → b ≡ false
      fresh true h = absurd cc
      fresh false h = refl

      of_edge : (own.edge.0 == edge.0 ≡ true) × (is_in fec own.fecs ≡ true)
      of_edge = and_parts (own.edge.0 == edge.0) (is_in fec own.fecs) parts.1

      by : (up : Option Upstream) → Some own ≡ wants_by leaf flow up → list_any (has_tunnel fec) (peer_routes edge leaf.routes) ≡ true
      by None bad = absurd cc
      by (Some up) e =
          let is : own ≡ wants_of leaf up.edge flow = same_Some own (wants_of leaf up.edge flow) e in
          let edges : up.edge ≡ edge = ap (λ (w : Wants). w.edge) (sym is) ∙ ap (λ n. record { 0 = n }) (eqb-true own.edge.0 edge.0 of_edge.0) in
          of_passing fec (is_wanted (peer_routes edge leaf.routes) flow.source flow.group) (peer_routes edge leaf.routes)
          (ap (λ (node : NodeId). is_in fec (tunnels_of leaf node flow)) (sym edges) ∙ (ap (λ (w : Wants). is_in fec w.fecs) (sym is) ∙ of_edge.1))

  pub known_learned : is_known edge fec (held flow) ≡ true → list_any (has_tunnel fec) (peer_routes edge leaf.routes) ≡ true
  known_learned known = by (held flow) refl
    where
      by : (own : Option Wants) → held flow ≡ own → list_any (has_tunnel fec) (peer_routes edge leaf.routes) ≡ true
      by None e = absurd (let bad : is_known edge fec None ≡ true = ap (is_known edge fec) (sym e) ∙ known in cc)
      by (Some own) e = known_of own e (ap (is_known edge fec) (sym e) ∙ known)
