-- The loss of a session is noticed, a node begins anew, and an end comes up.
use Rattle.std.proofs.Common.{◌≡◌, ◌≢◌, ℕ, ◌-◌, ◌==◌, ◌&&◌, Bool, true, false, not, inl, inr, refl, sym, ap, subst, ◌∙◌, List, filter, replicate, slice_get, zero, suc, Some, None, is_some, option_map}
use Rattle.std.proofs.lemmas.Bool.{cases_Bool, and_parts, and_right}
use Rattle.std.proofs.lemmas.Option.{same_Some, none-some}
use Rattle.std.specs.FinMap as maps
use Rattle.std.specs.FinSet as sets
use Rattle.mv_base.specs.declared.ids.NodeId.{NodeId}
use Rattle.mldp.specs.declared.mldp_fec.fec.Fec.{Fec}
use Rattle.mldp.specs.declared.mldp_msgs.message.LabelMessage.{LabelMessage}
use Rattle.label_defs.specs.declared.end.End.{End}
use Rattle.label_defs.specs.declared.label_use.LabelUse.{LabelUse}
use Rattle.label_defs.specs.declared.label_use.LabelUse.TheVariants as uses
use Rattle.label_defs.specs.Keys.{fec_cmp, branch_cmp, node_cmp}
use Rattle.label_defs.specs.LabelData.{LabelData, fresh, use_of}
use Rattle.label_defs.specs.Steps.{branch_to, freed, without_session, raised_end}
use Rattle.label_defs.proofs.KeyLemmas.{branch_cmp_total, branch_cmp_exact, node_cmp_total, node_cmp_exact, node_cases, node_itself, node_apart}
use Rattle.label_defs.proofs.SetLemmas.{retained, put_here, put_other, cut_here, cut_other}
use Rattle.label_defs.proofs.UseLemmas.{used_some, used-map}
use Rattle.label_laws.specs.Network.{LabelNetwork, at_node}
use Rattle.label_laws.specs.Rule.{IsOther, ViewAt, OfTrees, Rule, none, end_of, branch_trees, is_of_owner, is_release_of}
use Rattle.label_laws.proofs.Frames.{along_view, stand_along, covered_along, covered_if}
use Rattle.label_laws.proofs.Views.{same_view, down_view, bare_view, risen_view, far_view}
use Rattle.label_laws.proofs.NodeRule.{OwnerView, BranchView, node_rule}
use Rattle.label_laws.proofs.Uses.{holds_along, map_same_or_other, map_held, freed_ends, freed_other, ends_stands}
use Rattle.label_laws.proofs.Trees.{fewer_trees}

-- one node becomes another, and nothing else changes
abbrev pub with_node : LabelNetwork → NodeId → LabelData → LabelNetwork
with_node w a d = record w { node = at_node a d w.node }

-- ---- a loss is noticed

module _ (w : LabelNetwork) (a b : NodeId) (lost : a ≢ b → (w.direction a b).joined ≡ false) (rule : Rule w) where
  abbrev data_after : LabelData
  data_after = without_session (w.node a) b

  abbrev transit : NodeId → NodeId → List LabelMessage
  transit u n = (w.direction u n).transit

  use_is : (l : ℕ) → use_of data_after l ≡ option_map (freed b) (use_of (w.node a) l)
  use_is l = used-map (freed b) (w.node a).labels l

  end_gone : (u : NodeId) → u ≡ b → end_of data_after u ≡ None
  end_gone u e = ap (end_of data_after) e ∙ cut_here node_cmp_total node_cmp_exact (w.node a).ends b

  end_same : (u : NodeId) → u ≢ b → end_of data_after u ≡ end_of (w.node a) u
  end_same u ne = cut_other node_cmp_total node_cmp_exact (w.node a).ends b u ne

  branch_is : (n : NodeId) (l : ℕ) (f : Fec) → branch_trees data_after n l f ≡ (branch_trees (w.node a) n l f && not (n.0 == b.0))
  branch_is n l f = retained branch_cmp_total branch_cmp_exact (w.node a).branches (λ branch. not (branch.node.0 == b.0)) (branch_to n f l)

  branch_gone : (n : NodeId) (l : ℕ) → n ≡ b → branch_trees data_after n l ≡ none
  branch_gone n l e = let each : (f : Fec) → branch_trees data_after n l f ≡ false =
      λ f. branch_is n l f ∙ and_right (branch_trees (w.node a) n l f) (not (n.0 == b.0)) (ap not (node_itself n b e)) in λ i f. each f i

  and_true : (p : Bool) → (p && true) ≡ p
  and_true true = refl
  and_true false = refl

  branch_same : (n : NodeId) (l : ℕ) → n ≢ b → branch_trees data_after n l ≡ branch_trees (w.node a) n l
  branch_same n l ne =
      let each : (f : Fec) → branch_trees data_after n l f ≡ branch_trees (w.node a) n l f =
      λ f. branch_is n l f ∙ ap (λ x. branch_trees (w.node a) n l f && not x) (node_apart n b ne) ∙ and_true (branch_trees (w.node a) n l f) in
      λ i f. each f i

  lost_to : (n : NodeId) → a ≢ n → n ≡ b → (w.direction a n).joined ≡ false
  lost_to n ne e = ap (λ x. (w.direction a x).joined) e ∙ lost (λ p. ne (p ∙ sym e))

  lost_from : (u : NodeId) → u ≢ a → u ≡ b → (w.direction u a).joined ≡ false
  lost_from u ne e = (rule.session u a ne).alike ∙ lost_to u (λ p. ne (sym p)) e

  owner : (u : NodeId) (l : ℕ) → u ≢ a → ViewAt w u a l → OwnerView w a data_after transit u l
  owner u l ne v =
      elim (node_cases u b) [
        | inl e ↦ along_view refl (end_gone u e) refl (use_is l) refl refl refl
            (down_view u l (w.direction u a).joined (end_of (w.node a) u) (end_of (w.node u) a) (use_of (w.node a) l)
            (option_map (freed b) (use_of (w.node a) l)) (filter (is_of_owner l) (transit a u)) (filter (is_release_of l) (transit u a))
            (branch_trees (w.node u) a l) (lost_from u ne e)
            (subst (λ x. IsOther x (option_map (freed b) (use_of (w.node a) l))) (sym e) (freed_other b (use_of (w.node a) l))) v)
        | inr e ↦ along_view refl (end_same u e) refl (use_is l) refl refl refl
            (same_view u l (w.direction u a).joined (end_of (w.node a) u) (end_of (w.node u) a) (use_of (w.node a) l)
            (option_map (freed b) (use_of (w.node a) l)) (filter (is_of_owner l) (transit a u)) (filter (is_release_of l) (transit u a))
            (branch_trees (w.node u) a l)
            (map_same_or_other u b (freed b) e (freed_ends b) (use_of (w.node a) l)) v)
      ]

  branch : (n : NodeId) (l : ℕ) → a ≢ n → ViewAt w a n l → BranchView w a data_after transit n l
  branch n l ne v =
      elim (node_cases n b) [
        | inl e ↦ along_view refl refl (end_gone n e) refl refl refl (branch_gone n l e)
            (bare_view a l (w.direction a n).joined (end_of (w.node n) a) (end_of (w.node a) n) (use_of (w.node n) l)
            (filter (is_of_owner l) (transit n a)) (filter (is_release_of l) (transit a n)) (branch_trees (w.node a) n l) (lost_to n ne e) v)
        | inr e ↦ along_view refl refl (end_same n e) refl refl refl (branch_same n l e) v
      ]

  pub noticed_rule : Rule (with_node w a data_after)
  noticed_rule =
      node_rule w a data_after transit (record {
        owner = owner;
        branch = branch;
        others = λ u n p q. refl;
        quiet = λ u n j off e. e;
        ends = λ n ne up. elim (node_cases n b) [
          | inl e ↦ (let x = lost_to n ne e in absurd cc)
          | inr e ↦ ap is_some (end_same n e) ∙ (rule.session a n ne).ends up
        ];
        covered = λ u l vpn t ne past young h. elim (node_cases u b) [
          | inl e ↦ inl (end_gone u e)
          | inr e ↦ covered_if w.life w.vpn_of u vpn t (end_of (w.node a) u) (end_of data_after u) (use_of (w.node a) l) (use_of data_after l)
              (end_same u e)
              (λ st. stand_along w.life w.vpn_of u vpn t (option_map (freed b) (use_of (w.node a) l)) (use_of data_after l) (use_is l)
              (ends_stands w.life w.vpn_of u b vpn t (freed b) e (freed_ends b) (use_of (w.node a) l) st)) h
        ];
        trees = fewer_trees w.is_tree (w.node a) data_after (λ f h. h)
            (λ x h. (and_parts (sets.contains (w.node a).branches x) (not (x.node.0 == b.0))
            (sym (retained branch_cmp_total branch_cmp_exact (w.node a).branches (λ branch. not (branch.node.0 == b.0)) x) ∙ h)).0)
            (λ l f u h. map_held u b f (freed b) (freed_ends b) (use_of (w.node a) l)
            (holds_along f u (use_of data_after l) (option_map (freed b) (use_of (w.node a) l)) (use_is l) h)) (rule.trees a);
      }) rule

-- ---- a node begins anew

all_free : (count k : ℕ) (usage : LabelUse) → slice_get (replicate count uses.Free) k ≡ Some usage → usage ≡ uses.Free
all_free zero k usage e = absurd (none-some usage e)
all_free (suc count) zero usage e = sym (same_Some uses.Free usage e)
all_free (suc count) (suc k) usage e = all_free count k usage e

pub fresh_other : (count : ℕ) (u : NodeId) (l : ℕ) → IsOther u (use_of (fresh count) l)
fresh_other count u l f h = elim h [
  | inl e ↦ (let x = all_free count (l - 16) (uses.Mapped f u) (used_some (replicate count uses.Free) l (uses.Mapped f u) e).1 in absurd cc)
  | inr e ↦ (let x = all_free count (l - 16) (uses.Leaving f u) (used_some (replicate count uses.Free) l (uses.Leaving f u) e).1 in absurd cc)
]

pub fresh_bare : (count : ℕ) (n : NodeId) (l : ℕ) → branch_trees (fresh count) n l ≡ none
fresh_bare count n l = λ i f. sets.contains-empty branch_cmp (branch_to n f l) i

pub fresh_down : (count : ℕ) (u : NodeId) → end_of (fresh count) u ≡ None
fresh_down count u = maps.get-empty node_cmp u

pub fresh_trees : (is_tree : Fec → Bool) (count : ℕ) → OfTrees is_tree (fresh count)
fresh_trees is_tree count =
    record {
      leaves = λ f h. (let x = sets.contains-empty fec_cmp f in absurd cc);
      branches = λ b h. (let x = sets.contains-empty branch_cmp b in absurd cc);
      labels = λ l f u h. absurd (fresh_other count u l f h);
    }

pub fresh_rule : (w : LabelNetwork) (a : NodeId) (count : ℕ) → ((u : NodeId) → u ≢ a → (w.direction u a).joined ≡ false) → Rule w
    → Rule (with_node w a (fresh count))
fresh_rule w a count lost rule =
    let transit : NodeId → NodeId → List LabelMessage = λ u n. (w.direction u n).transit in
    let out : (n : NodeId) → a ≢ n → (w.direction a n).joined ≡ false = λ n ne. (rule.session a n ne).alike ∙ lost n (λ e. ne (sym e)) in
    node_rule w a (fresh count) transit (record {
      owner = λ u l ne v. along_view refl (fresh_down count u) refl refl refl refl refl
          (down_view u l (w.direction u a).joined (end_of (w.node a) u) (end_of (w.node u) a) (use_of (w.node a) l) (use_of (fresh count) l)
          (filter (is_of_owner l) (transit a u)) (filter (is_release_of l) (transit u a)) (branch_trees (w.node u) a l) (lost u ne)
          (fresh_other count u l) v);
      branch = λ n l ne v. along_view refl refl (fresh_down count n) refl refl refl (fresh_bare count n l)
          (bare_view a l (w.direction a n).joined (end_of (w.node n) a) (end_of (w.node a) n) (use_of (w.node n) l)
          (filter (is_of_owner l) (transit n a)) (filter (is_release_of l) (transit a n)) (branch_trees (w.node a) n l) (out n ne) v);
      others = λ u n p q. refl;
      quiet = λ u n j off e. e;
      ends = λ n ne up. (let x = out n ne in absurd cc);
      covered = λ u l vpn t ne past young h. inl (fresh_down count u);
      trees = fresh_trees w.is_tree count;
    }) rule

-- ---- an end comes up

abbrev pub new_end : ℕ → End
new_end now = raised_end now

abbrev pub risen : LabelData → NodeId → ℕ → LabelData
risen d b now = record d { ends = maps.insert d.ends b (new_end now) }

pub risen_here : (d : LabelData) (b : NodeId) (now : ℕ) → end_of (risen d b now) b ≡ Some (new_end now)
risen_here d b now = put_here node_cmp_total node_cmp_exact d.ends b (new_end now)

pub risen_there : (d : LabelData) (b : NodeId) (now : ℕ) (u : NodeId) → u ≢ b → end_of (risen d b now) u ≡ end_of d u
risen_there d b now u ne = put_other node_cmp_total node_cmp_exact d.ends b (new_end now) u ne

pub risen_rule : (w : LabelNetwork) (a b : NodeId) → end_of (w.node a) b ≡ None → ((l : ℕ) → branch_trees (w.node b) a l ≡ none) → Rule w
    → Rule (with_node w a (risen (w.node a) b w.clock))
risen_rule w a b off bare rule =
    let d = risen (w.node a) b w.clock in
    let transit : NodeId → NodeId → List LabelMessage = λ u n. (w.direction u n).transit in
    let here : (u : NodeId) → u ≡ b → end_of d u ≡ Some (new_end w.clock) = λ u e. ap (end_of d) e ∙ risen_here (w.node a) b w.clock in
    node_rule w a d transit (record {
      owner = λ u l ne v. elim (node_cases u b) [
        | inl e ↦ along_view refl (here u e) refl refl refl refl refl
            (risen_view u l (w.direction u a).joined (end_of (w.node a) u) (end_of (w.node u) a) (Some (new_end w.clock)) (use_of (w.node a) l)
            (filter (is_of_owner l) (transit a u)) (filter (is_release_of l) (transit u a)) (branch_trees (w.node u) a l)
            (ap (end_of (w.node a)) e ∙ off) (ap (λ x. branch_trees (w.node x) a l) e ∙ bare l) v)
        | inr e ↦ along_view refl (risen_there (w.node a) b w.clock u e) refl refl refl refl refl v
      ];
      branch = λ n l ne v. elim (node_cases n b) [
        | inl e ↦ along_view refl refl (here n e) refl refl refl refl
            (far_view a l (w.direction a n).joined (end_of (w.node n) a) (end_of (w.node a) n) (Some (new_end w.clock)) (use_of (w.node n) l)
            (filter (is_of_owner l) (transit n a)) (filter (is_release_of l) (transit a n)) (branch_trees (w.node a) n l) refl v)
        | inr e ↦ along_view refl refl (risen_there (w.node a) b w.clock n e) refl refl refl refl v
      ];
      others = λ u n p q. refl;
      quiet = λ u n j e z. z;
      ends = λ n ne up. elim (node_cases n b) [
        | inl e ↦ ap is_some (here n e)
        | inr e ↦ ap is_some (risen_there (w.node a) b w.clock n e) ∙ (rule.session a n ne).ends up
      ];
      covered = λ u l vpn t ne past young h. elim (node_cases u b) [
        | inl e ↦ inr (inl (record { end = new_end w.clock; up = here u e; since = past; unheld = refl }))
        | inr e ↦ covered_along w.life w.vpn_of u vpn t (end_of (w.node a) u) (end_of d u) (use_of (w.node a) l) (use_of d l)
            (risen_there (w.node a) b w.clock u e) refl h
      ];
      trees = let t = rule.trees a in record { leaves = t.leaves; branches = t.branches; labels = t.labels };
    }) rule

-- no branch is held where the end is down
pub bare_where : (w : LabelNetwork) (u n : NodeId) (l : ℕ) → u ≢ n → end_of (w.node u) n ≡ None → Rule w → branch_trees (w.node u) n l ≡ none
bare_where w u n l ne off rule =
    let each : (f : Fec) → branch_trees (w.node u) n l f ≡ false = λ f. elim (cases_Bool (branch_trees (w.node u) n l f)) [
      | inr h ↦ h
      | inl h ↦ (let x : false ≡ true = sym (ap is_some off) ∙ (rule.view u n l ne).branch f h in absurd cc)
    ] in
    λ i f. each f i
