-- What the refresh of one tree answers is what changed of it.
use Rattle.std.proofs.Common.{◌≡◌, ◌⊎◌, ◌&&◌, not, Bool, true, false, cond, inl, inr, List, [], ◌∷◌, ◌++◌, map, option_map, Option, None, Some, refl, sym, ap, subst, ◌∙◌}
use Rattle.std.specs.List.{IsDistinct, list_any}
use Rattle.std.specs.FinMap.{get}
use Rattle.std.specs.FinSet as sets
use Rattle.std.proofs.lemmas.Bool.{or_parts}
use Rattle.std.proofs.lemmas.List.Folds.{list_any-append}
use Rattle.std.proofs.lemmas.Map.Keys.{IsDistinct-head, IsDistinct-tail}
use Rattle.mv_base.specs.Lists.{Among}
use Rattle.mldp.specs.declared.mldp_fec.fec.Fec.{Fec}
use Rattle.label_defs.specs.LabelData.{same_fec}
use Rattle.umh_select.specs.declared.route.Choice.{Choice}
use Rattle.vrf_words.specs.declared.tree_defs.flow.Flow.{Flow}
use Rattle.vrf_words.specs.declared.tree_defs.flow.Upstream.{Upstream}
use Rattle.vrf_words.specs.tree_defs.Keys.{same_flow}
use Rattle.vrf_words.specs.tree_defs.Flows.{gained, lost, same_upstream, upstream_of}
use Rattle.vrf_words.specs.tree_defs.Trees.{TreeData}
use Rattle.vrf_words.proofs.tree_defs.KeyLemmas.{same_flow_equal, same_flow_itself, same_flow_symmetric, same_upstream_equal}
use Rattle.vrf_trees.specs.declared.changes.TreeJoin.{TreeJoin}
use Rattle.vrf_trees.specs.Changes.{AreJoins, AreNew, flow_in, join_of, joined_at, up_in}
use Rattle.vrf_trees.specs.Wants.{is_in}
use Rattle.vrf_trees.proofs.TableLemmas.{fec_ties}
use Rattle.control_laws.proofs.edge_words.calm_laws.Lists.{among_after, among_front, among_map}
use Rattle.control_laws.proofs.Owned.{of_each}
use Rattle.edge_control.specs.Refreshing.{AreMoved, tree_join}

-- ---- lists of joins

same_up : (own up : Upstream) → Some own ≡ Some up → own ≡ up
same_up own up e = cc

first_joined : (join : TreeJoin) (more : List TreeJoin) (q : Flow) (up : Upstream) → (joined_at more q ≡ Some up → Among (join_of (q, up)) more)
    → (b : Bool) → same_flow q (flow_in join) ≡ b
    → cond b (Some (up_in join)) (joined_at more q) ≡ Some up → Among (join_of (q, up)) (join ∷ more)
first_joined join more q up rest true e h =
    let flow : q ≡ flow_in join = same_flow_equal q (flow_in join) e in
    let same : up_in join ≡ up = same_up (up_in join) up h in
    inl (λ i. join_of (flow i, sym same i))
first_joined join more q up rest false e h = inr (rest h)

-- the join of a flow that has one is in the list
joined_among : (joins : List TreeJoin) (q : Flow) (up : Upstream) → joined_at joins q ≡ Some up → Among (join_of (q, up)) joins
joined_among [] q up h = absurd cc
joined_among (join ∷ more) q up h = first_joined join more q up (joined_among more q up) (same_flow q (flow_in join)) refl h

-- a join of the list is that of its flow
joined_own : (joins : List TreeJoin) → IsDistinct same_flow (map flow_in joins) → (join : TreeJoin) → Among join joins
    → joined_at joins (flow_in join) ≡ Some (up_in join)
joined_own [] once join a = absurd a
joined_own (first ∷ more) once join (inl e) =
    subst (λ (j : TreeJoin). joined_at (first ∷ more) (flow_in j) ≡ Some (up_in j)) (sym e)
    (ap (λ (b : Bool). cond b (Some (up_in first)) (joined_at more (flow_in first))) (same_flow_itself (flow_in first)))
joined_own (first ∷ more) once join (inr a) =
    let apart =
    of_each (λ (q : Flow). same_flow (flow_in first) q ≡ false) (map flow_in more)
    (IsDistinct-head same_flow (flow_in first) (map flow_in more) once) (flow_in join) (among_map flow_in join more a) in
    ap (λ (b : Bool). cond b (Some (up_in first)) (joined_at more (flow_in join))) (same_flow_symmetric (flow_in join) (flow_in first) ∙ apart)
    ∙ joined_own more (IsDistinct-tail same_flow (flow_in first) (map flow_in more) once) join a

-- ---- what is gained

gained_is : (before after : Option Upstream) (up : Upstream) → gained before after ≡ Some up → after ≡ Some up
gained_is before after up h = by (same_upstream before after) h
  where
    by : (b : Bool) → cond b None after ≡ Some up → after ≡ Some up
    by true e = absurd cc
    by false e = e

kept_or_gained : (before : Option Upstream) (up : Upstream) → (before ≡ Some up) ⊎ (gained before (Some up) ≡ Some up)
kept_or_gained None up = inr refl
kept_or_gained (Some own) up = by (same_upstream (Some own) (Some up)) refl
  where
    by : (b : Bool) → same_upstream (Some own) (Some up) ≡ b → (Some own ≡ Some up) ⊎ (gained (Some own) (Some up) ≡ Some up)
    by true e = inl (ap (λ (u : Upstream). Some u) (same_upstream_equal own up e))
    by false e = inr (ap (λ (b : Bool). cond b None (Some up)) e)

abbrev join_by : Flow → Option Upstream → Option TreeJoin
join_by flow up = option_map (λ u. join_of (flow, u)) up

-- A join that is there afterwards was there before, or it is listed.
moved : (flow : Flow) (before after : Option Upstream) (joins : List TreeJoin) → joined_at joins flow ≡ gained before after → (join : TreeJoin)
    → join_by flow after ≡ Some join
    → (join_by flow before ≡ Some join) ⊎ Among join joins
moved flow before None joins at join h = absurd cc
moved flow before (Some up) joins at join h = elim (kept_or_gained before up) [
  | inl e ↦ inl (ap (join_by flow) e ∙ h)
  | inr g ↦
      let same : join_of (flow, up) ≡ join = (let one : Some (join_of (flow, up)) ≡ Some join = h in cc) in
      inr (subst (λ (j : TreeJoin). Among j joins) same (joined_among joins flow up (at ∙ g)))
]

-- ---- one tree

module _ (old new : TreeData) (after : Flow → Option Choice) (flows : (q : Flow) → get new.vrf.flows q ≡ after q) (joins leaves : List TreeJoin)
    (made : AreJoins joins (λ q. gained (upstream_of (get old.vrf.flows q)) (upstream_of (after q))))
    (left : AreJoins leaves (λ q. lost (upstream_of (get old.vrf.flows q)) (upstream_of (after q)))) where
  abbrev up_then : Flow → Option Upstream
  up_then q = upstream_of (get new.vrf.flows q)

  abbrev up_before : Flow → Option Upstream
  up_before q = upstream_of (get old.vrf.flows q)

  told_made : (q : Flow) → joined_at joins q ≡ gained (up_before q) (up_then q)
  told_made q = made.each q ∙ ap (λ (c : Option Choice). gained (up_before q) (upstream_of c)) (sym (flows q))

  told_left : (q : Flow) → joined_at leaves q ≡ gained (up_then q) (up_before q)
  told_left q = left.each q ∙ ap (λ (c : Option Choice). lost (up_before q) (upstream_of c)) (sym (flows q))

  -- after those that are listed already
  pub moved_here : (all : List TreeJoin) → AreMoved ((all ++ joins) ++ leaves) old new
  moved_here all = record {
    made = λ flow join h. elim (moved flow (up_before flow) (up_then flow) joins (told_made flow) join h) [
      | inl e ↦ inl e
      | inr a ↦ inr (among_front join (all ++ joins) leaves (among_after join all joins a))
    ];
    left = λ flow join h. elim (moved flow (up_then flow) (up_before flow) leaves (told_left flow) join h) [
      | inl e ↦ inl e
      | inr a ↦ inr (among_after join (all ++ joins) leaves a)
    ];
  }

  pub made_here : (join : TreeJoin) → Among join joins → tree_join new (flow_in join) ≡ Some join
  made_here join a =
      let up = gained_is (up_before (flow_in join)) (up_then (flow_in join)) (up_in join)
      (sym (told_made (flow_in join)) ∙ joined_own joins made.once join a) in ap (join_by (flow_in join)) up

  pub left_here : (join : TreeJoin) → Among join leaves → tree_join old (flow_in join) ≡ Some join
  left_here join a =
      let up = gained_is (up_then (flow_in join)) (up_before (flow_in join)) (up_in join)
      (sym (told_left (flow_in join)) ∙ joined_own leaves left.once join a) in ap (join_by (flow_in join)) up

-- ---- tunnels

agree : (a b : Bool) → (b && not a) ≡ false → (a && not b) ≡ false → a ≡ b
agree true true h k = refl
agree true false h k = k
agree false true h k = sym h
agree false false h k = refl

-- The tunnels that are not listed are wanted after as before.
abbrev pub Tells : List Fec → TreeData → TreeData → Type 0
Tells fecs old new = (fec : Fec) → list_any (same_fec fec) fecs ≡ false → sets.contains old.wants fec ≡ sets.contains new.wants fec

any_is : (fec : Fec) (fecs : List Fec) → is_in fec fecs ≡ list_any (same_fec fec) fecs
any_is fec fecs = λ i. list_any (λ other. fec_ties fec other i) fecs

-- after those that are listed already
pub told_here : (old new : TreeData) (all wants unwants : List Fec) → AreNew wants old.wants new.wants → AreNew unwants new.wants old.wants
    → Tells ((all ++ wants) ++ unwants) old new
told_here old new all wants unwants came went fec h =
    let both = or_parts _ _ (sym (list_any-append (same_fec fec) (all ++ wants) unwants) ∙ h) in
    let first = or_parts _ _ (sym (list_any-append (same_fec fec) all wants) ∙ both.0) in
    agree (sets.contains old.wants fec) (sets.contains new.wants fec) (sym (came.each fec) ∙ any_is fec wants ∙ first.1)
    (sym (went.each fec) ∙ any_is fec unwants ∙ both.1)

-- and those of a longer list too
pub tells_more : (old new : TreeData) (all wants unwants : List Fec) → Tells all old new → Tells ((all ++ wants) ++ unwants) old new
tells_more old new all wants unwants told fec h =
    let both = or_parts _ _ (sym (list_any-append (same_fec fec) (all ++ wants) unwants) ∙ h) in
    told fec ((or_parts _ _ (sym (list_any-append (same_fec fec) all wants) ∙ both.0)).0)

pub moved_more : (old new : TreeData) (all joins leaves : List TreeJoin) → AreMoved all old new → AreMoved ((all ++ joins) ++ leaves) old new
moved_more old new all joins leaves h = record {
  made = λ flow join e. elim (h.made flow join e) [ inl k ↦ inl k | inr a ↦ inr (longer join a) ];
  left = λ flow join e. elim (h.left flow join e) [ inl k ↦ inl k | inr a ↦ inr (longer join a) ];
}
  where
    longer : (join : TreeJoin) → Among join all → Among join ((all ++ joins) ++ leaves)
    longer join a = among_front join (all ++ joins) leaves (among_front join all joins a)
