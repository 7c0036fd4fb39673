-- A release is taken.
use Rattle.std.proofs.Common.{◌≡◌, ◌≢◌, ℕ, ◌+◌, ◌==◌, ◌&&◌, Bool, true, false, cond, inl, inr, refl, sym, ap, subst, ◌∙◌, List, ◌∷◌, filter, Option, Some, None, option_map, is_some, arith}
use Rattle.std.proofs.lemmas.Bool.{cases_eq, ne_eqb, eq-eqb, cond-true, cond-false, and_from}
use Rattle.std.specs.FinSet as sets
use Rattle.std.specs.FinSet.{FinSet}
use Rattle.mv_base.specs.declared.ids.NodeId.{NodeId}
use Rattle.mldp.specs.declared.mldp_fec.fec.Fec.{Fec}
use Rattle.mldp.specs.declared.mldp_msgs.message.LabelMessage.{LabelMessage}
use Rattle.mldp.specs.declared.mldp_msgs.message.LabelMessage.TheVariants as messages
use Rattle.label_defs.specs.declared.label_use.LabelUse.{LabelUse}
use Rattle.label_defs.specs.declared.label_use.LabelUse.TheVariants as uses
use Rattle.label_defs.specs.Keys.{fec_cmp, branch_cmp}
use Rattle.label_defs.specs.LabelData.{LabelData, same_fec, use_of}
use Rattle.label_defs.specs.Settling.{with_use}
use Rattle.label_defs.specs.Steps as steps
use Rattle.label_defs.specs.Steps.{released, with_release}
use Rattle.label_defs.proofs.KeyLemmas.{node_cases, node_itself, same_fec_itself}
use Rattle.label_defs.proofs.TurnLemmas.{SameRest}
use Rattle.label_defs.proofs.OwnLemmas.{effect_use}
use Rattle.label_laws.specs.Network.{LabelNetwork, place_of}
use Rattle.label_laws.specs.Rule.{ViewAt, Phase, Rule, end_of, branch_trees, is_of_owner, is_release_of}
use Rattle.label_laws.proofs.Frames.{along_view, passed, stand_along, covered_if}
use Rattle.label_laws.proofs.Phases.{Released, release_comes}
use Rattle.label_laws.proofs.Views.{same_view, idle_view}
use Rattle.label_laws.proofs.NodeRule.{moved, OwnerView, node_rule}
use Rattle.label_laws.proofs.Uses.{holds_along, resting_other, map_same_or_other, map_held, release_ends, release_stands}
use Rattle.label_laws.proofs.Trees.{fewer_trees}
use Rattle.label_laws.proofs.Turns.{same_ends, same_branches}
use Rattle.label_laws.proofs.Pops.{popped, pop_here, pop_from, pop_to, pop_skips, live_front, pop_quiet}

release_rest : (part : LabelData) (from : NodeId) (fec : Fec) (l until : ℕ) → SameRest part (with_release part from fec l until)
release_rest part from fec l until = by (use_of part l)
  where
    by : (o : Option LabelUse) → SameRest part (elim o [ None ↦ part | Some usage ↦ with_use part l (released from fec until usage) ])
    by None = record { branches = refl; leaves = refl; ends = refl }
    by (Some usage) = record { branches = refl; leaves = refl; ends = refl }

module _ (w : LabelNetwork) (a b : NodeId) (f : Fec) (l : ℕ) (rest : List LabelMessage) (ne : a ≢ b)
    (front : (w.direction a b).transit ≡ messages.Release f l ∷ rest) (rule : Rule w) where
  back : b ≢ a
  back e = ne (sym e)

  live : (w.direction a b).joined ≡ true
  live = live_front w a b (messages.Release f l) rest ne front rule

  front_is : filter (is_release_of l) (w.direction a b).transit ≡ messages.Release f l ∷ filter (is_release_of l) rest
  front_is = ap (filter (is_release_of l)) front ∙ passed (is_release_of l) (messages.Release f l) rest (eq-eqb l l refl)

  abbrev until : ℕ
  until = w.clock + w.life + 1

  abbrev data_after : LabelData
  data_after = with_release (w.node b) a f l until

  abbrev transit : NodeId → NodeId → List LabelMessage
  transit = popped w a b rest

  abbrev change : ℕ → LabelUse → LabelUse
  change k usage = cond (k == l) (released a f until usage) usage

  use_is : (k : ℕ) → use_of data_after k ≡ option_map (change k) (use_of (w.node b) k)
  use_is k = effect_use (place_of w b) w.clock (w.node b) (steps.Taken a (messages.Release f l)) k

  same_rest : SameRest (w.node b) data_after
  same_rest = release_rest (w.node b) a f l until

  ends : (u : NodeId) → end_of data_after u ≡ end_of (w.node b) u
  ends = same_ends data_after (w.node b) same_rest.ends

  comes : Released a l f (use_of (w.node b) l) (filter (is_of_owner l) (w.direction b a).transit) (filter (is_release_of l) rest)
      (branch_trees (w.node a) b l)
  comes =
      let P : List LabelMessage → Type 0 =
      λ ms. Phase a l (use_of (w.node b) l) (filter (is_of_owner l) (w.direction b a).transit) ms (branch_trees (w.node a) b l) in
      release_comes a l f (use_of (w.node b) l) (filter (is_of_owner l) (w.direction b a).transit) (filter (is_release_of l) rest)
      (branch_trees (w.node a) b l) (subst P front_is ((rule.view a b l ne).phase live))

  skips : (p : LabelMessage → Bool) → p (messages.Release f l) ≡ false → (u n : NodeId) → filter p (transit u n) ≡ filter p (w.direction u n).transit
  skips p h u n = pop_skips w a b (messages.Release f l) rest front p h u n

  rests : use_of data_after l ≡ Some (uses.Resting until)
  rests =
      use_is l ∙ ap (option_map (change l)) comes.used ∙ ap (λ (x : LabelUse). Some x)
      (cond-true (l == l) (released a f until (uses.Leaving f a)) (uses.Leaving f a) (eq-eqb l l refl)
      ∙ cond-true (same_fec f f && a.0 == a.0) (uses.Resting until) (uses.Leaving f a)
      (and_from (same_fec f f) (a.0 == a.0) (same_fec_itself f) (node_itself a a refl)))

  here : OwnerView w b data_after transit a l
  here =
      along_view refl refl refl rests
      (ap (filter (is_of_owner l)) (pop_from w a b rest b a back) ∙ comes.put)
      (ap (filter (is_release_of l)) (pop_here w a b rest) ∙ comes.back)
      comes.branch (idle_view a l (w.direction a b).joined (end_of data_after a) (end_of (w.node a) b) (Some (uses.Resting until))
      (resting_other a until))

  not_here : (k : ℕ) → (k ≡ l → ⊥) → use_of data_after k ≡ use_of (w.node b) k
  not_here k e = use_is k ∙ by (use_of (w.node b) k)
    where
      by : (o : Option LabelUse) → option_map (change k) o ≡ o
      by None = refl
      by (Some usage) = ap (λ (x : LabelUse). Some x) (cond-false (k == l) (released a f until usage) usage (ne_eqb k l e))

  owner_l : (u : NodeId) → u ≢ b → ViewAt w u b l → OwnerView w b data_after transit u l
  owner_l u j v = elim (node_cases u a) [
    | inl e ↦ let Q : NodeId → Type 0 = λ z. OwnerView w b data_after transit z l in subst Q (sym e) here
    | inr e ↦ along_view refl (ends u) refl (use_is l) (skips (is_of_owner l) refl b u) (ap (filter (is_release_of l)) (pop_from w a b rest u b e))
        refl
        (same_view u l (w.direction u b).joined (end_of (w.node b) u) (end_of (w.node u) b) (use_of (w.node b) l)
        (option_map (change l) (use_of (w.node b) l)) _ _ (branch_trees (w.node u) b l)
        (map_same_or_other u a (change l) e (release_ends (l == l) a f until) (use_of (w.node b) l)) v)
  ]

  owner : (u : NodeId) (k : ℕ) → u ≢ b → ViewAt w u b k → OwnerView w b data_after transit u k
  owner u k j v = elim (cases_eq k l) [
    | inl e ↦ let Q : ℕ → Type 0 = λ z. ViewAt w u b z → OwnerView w b data_after transit u z in subst Q (sym e) (owner_l u j) v
    | inr e ↦ along_view refl (ends u) refl (not_here k e) (skips (is_of_owner k) refl b u)
        (skips (is_release_of k) (ne_eqb l k (λ x. e (sym x))) u b) refl v
  ]

  pub release_rule : Rule (moved w b data_after transit)
  release_rule =
      node_rule w b data_after transit (record {
        owner = owner;
        branch = λ n k j v. along_view refl refl (ends n) refl (skips (is_of_owner k) refl n b)
            (ap (filter (is_release_of k)) (pop_from w a b rest b n back)) (same_branches data_after (w.node b) same_rest.branches n k) v;
        others = λ u n p q. pop_to w a b rest u n q;
        quiet = λ u n j off e. pop_quiet w a b rest live u n off e;
        ends = λ n j up. ap is_some (ends n) ∙ (rule.session b n j).ends up;
        covered = λ u k vpn t j past young h.
            covered_if w.life w.vpn_of u vpn t (end_of (w.node b) u) (end_of data_after u) (use_of (w.node b) k) (use_of data_after k) (ends u)
            (λ st. stand_along w.life w.vpn_of u vpn t (option_map (change k) (use_of (w.node b) k)) (use_of data_after k) (use_is k)
            (release_stands w.life w.vpn_of u vpn t (k == l) a f until (use_of (w.node b) k) (omega (arith, past)) st)) h;
        trees = fewer_trees w.is_tree (w.node b) data_after (λ g h. ap (λ (z : FinSet fec_cmp). sets.contains z g) (sym same_rest.leaves) ∙ h)
            (λ x h. ap (λ (z : FinSet branch_cmp). sets.contains z x) (sym same_rest.branches) ∙ h)
            (λ k g u h. map_held u a g (change k) (release_ends (k == l) a f until) (use_of (w.node b) k)
            (holds_along g u (use_of data_after k) (option_map (change k) (use_of (w.node b) k)) (use_is k) h)) (rule.trees b);
      }) rule
