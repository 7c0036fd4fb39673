-- A tree of a node settles: no label changes, or one does and one message of it is put.
use Rattle.std.proofs.Common.{◌≡◌, ◌≢◌, ℕ, ◌==◌, Bool, true, false, inl, inr, refl, sym, ap, subst, ◌∙◌, List, [], ◌∷◌, ◌++◌, filter, Option, Some, None, option_map, is_some, ◌≤◌}
use Rattle.std.proofs.lemmas.Bool.{cases_eq, ne_eqb, eq-eqb}
use Rattle.std.proofs.lemmas.Option.{same_Some, none-some}
use Rattle.std.specs.FinMap as maps
use Rattle.std.specs.FinMap.{FinMap}
use Rattle.std.specs.FinSet as sets
use Rattle.std.specs.FinSet.{FinSet}
use Rattle.mv_base.specs.declared.ids.NodeId.{NodeId}
use Rattle.mldp.specs.declared.mldp_fec.fec.Fec.{Fec}
use Rattle.mldp.specs.declared.mldp_msgs.message.LabelMessage.{LabelMessage}
use Rattle.mldp.specs.declared.mldp_msgs.message.LabelMessage.TheVariants as messages
use Rattle.label_defs.specs.declared.end.End.{End}
use Rattle.label_defs.specs.declared.label_use.LabelUse.{LabelUse}
use Rattle.label_defs.specs.declared.label_use.LabelUse.TheVariants as uses
use Rattle.label_defs.specs.declared.put.Put.{Put}
use Rattle.label_defs.specs.Keys.{fec_cmp, branch_cmp, node_cmp}
use Rattle.label_defs.specs.LabelData.{LabelData, use_of}
use Rattle.label_defs.specs.Steps.{branch_to}
use Rattle.label_defs.proofs.KeyLemmas.{node_cases}
use Rattle.label_defs.proofs.UseLemmas.{used, set_here, set_there}
use Rattle.label_defs.proofs.TurnLemmas.{Turn, SameRest}
use Rattle.label_defs.proofs.IdLemmas.{passed, passed_held, passed_raised}
use Rattle.label_laws.specs.Network.{LabelNetwork, place_of, sent, thereafter}
use Rattle.label_laws.specs.Rule.{IsUsedTowards, View, ViewAt, LabelCovers, Covered, Unheld, Rule, is_held, end_of, branch_trees, is_of_owner, is_release_of}
use Rattle.label_laws.proofs.Frames.{along_view, none_to, fails_to, sent_other, sent_quiet, sent_skips, sent_passes, stand_along, covered_along, covered_if, after_silent}
use Rattle.label_laws.proofs.Phases.{free_other}
use Rattle.label_laws.proofs.Views.{SameOrOther, same_view, free_view, left_view}
use Rattle.label_laws.proofs.NodeRule.{OwnerView, node_rule}
use Rattle.label_laws.proofs.Uses.{holds_along, other_along, mapped_other, leaving_other, free_stands, left_stands}
use Rattle.label_laws.proofs.Trees.{tree_of, fewer_trees}

pub same_ends : (d e : LabelData) → d.ends ≡ e.ends → (u : NodeId) → end_of d u ≡ end_of e u
same_ends d e h u = ap (λ (ends : FinMap node_cmp End). maps.get ends u) h

pub same_branches : (d e : LabelData) → d.branches ≡ e.branches → (n : NodeId) (l : ℕ) → branch_trees d n l ≡ branch_trees e n l
same_branches d e h n l = λ i fec. sets.contains (h i) (branch_to n fec l)

-- the rule reads alike of both ends
pub record AlikeEnd (old new : Option End) : Type 0 where
  pub down : old ≡ None → new ≡ None
  pub held : is_held new ≡ is_held old
  pub up : is_some new ≡ is_some old
  pub unheld : (put_at : ℕ) → Unheld old put_at → Unheld new put_at

near_alike : (u : NodeId) (l : ℕ) (live : Bool) (near also far : Option End) (s : Option LabelUse) (ms bs : List LabelMessage) (o : Fec → Bool)
    → AlikeEnd near also → View u l live near far s ms bs o → View u l live also far s ms bs o
near_alike u l live near also far s ms bs o a v =
    record {
      phase = v.phase;
      alone = λ f off h. elim (v.alone f off h) [ inl none ↦ inl (a.down none) | inr holds ↦ inr holds ];
      owner = λ f h. a.held ∙ v.owner f h;
      branch = v.branch;
    }

far_alike : (u : NodeId) (l : ℕ) (live : Bool) (near far also : Option End) (s : Option LabelUse) (ms bs : List LabelMessage) (o : Fec → Bool)
    → AlikeEnd far also → View u l live near far s ms bs o → View u l live near also s ms bs o
far_alike u l live near far also s ms bs o a v = record { phase = v.phase; alone = v.alone; owner = v.owner; branch = λ f h. a.up ∙ v.branch f h }

covered_alike : (life : ℕ) (vpn_of : Fec → ℕ) (u : NodeId) (vpn t : ℕ) (c d : Option End) (s : Option LabelUse) → AlikeEnd c d
    → Covered life vpn_of u c s vpn t → Covered life vpn_of u d s vpn t
covered_alike life vpn_of u vpn t c d s a h = elim h [
  | inl none ↦ inl (a.down none)
  | inr x ↦ elim x [ inl young ↦ inr (inl (a.unheld t young)) | inr stands ↦ inr (inr stands) ]
]

-- what the rule reads of the data stays
pub alike_rule : (w : LabelNetwork) (b : NodeId) (d : LabelData) → d.labels ≡ (w.node b).labels → d.branches ≡ (w.node b).branches
    → d.leaves ≡ (w.node b).leaves
    → ((u : NodeId) → AlikeEnd (end_of (w.node b) u) (end_of d u)) → Rule w → Rule (thereafter w b (record { part = d; puts = [] }))
alike_rule w b d labels own_branches own_leaves ends rule =
    let branches = same_branches d (w.node b) own_branches in
    let same : (l : ℕ) → use_of d l ≡ use_of (w.node b) l = λ l. ap (λ (ls : List LabelUse). used ls l) labels in
    subst Rule (after_silent w b d) (node_rule w b d (λ u n. (w.direction u n).transit) (record {
      owner = λ u l j v. near_alike u l (w.direction u b).joined (end_of (w.node b) u) (end_of d u) (end_of (w.node u) b) (use_of d l)
          (filter (is_of_owner l) (w.direction b u).transit) (filter (is_release_of l) (w.direction u b).transit) (branch_trees (w.node u) b l)
          (ends u)
          (along_view refl refl refl (same l) refl refl refl v);
      branch = λ n l j v. far_alike b l (w.direction b n).joined (end_of (w.node n) b) (end_of (w.node b) n) (end_of d n) (use_of (w.node n) l)
          (filter (is_of_owner l) (w.direction n b).transit) (filter (is_release_of l) (w.direction b n).transit) (branch_trees d n l) (ends n)
          (along_view refl refl refl refl refl refl (branches n l) v);
      others = λ u n p q. refl;
      quiet = λ u n j off e. e;
      ends = λ n j up. (ends n).up ∙ (rule.session b n j).ends up;
      covered = λ u l vpn t j past young h. covered_alike w.life w.vpn_of u vpn t (end_of (w.node b) u) (end_of d u) (use_of d l) (ends u)
          (covered_along w.life w.vpn_of u vpn t (end_of (w.node b) u) (end_of (w.node b) u) (use_of (w.node b) l) (use_of d l) refl (same l) h);
      trees = fewer_trees w.is_tree (w.node b) d (λ f h. ap (λ (s : FinSet fec_cmp). sets.contains s f) (sym own_leaves) ∙ h)
          (λ x h. ap (λ (s : FinSet branch_cmp). sets.contains s x) (sym own_branches) ∙ h)
          (λ l f u h. holds_along f u (use_of d l) (use_of (w.node b) l) (same l) h) (rule.trees b);
    }) rule)

pub same_end : (old new : Option End) → new ≡ old → AlikeEnd old new
same_end old new e =
    record {
      down = λ none. e ∙ none;
      held = ap is_held e;
      up = ap is_some e;
      unheld =
          λ t x. record { end = x.end; up = e ∙ x.up; since = x.since; unheld = x.unheld };
    }

-- an end after messages
pub passed_end : (n : NodeId) (puts : List Put) (old : Option End) → AlikeEnd old (option_map (passed n puts) old)
passed_end n puts None = same_end None None refl
passed_end n puts (Some end) = record {
  down = λ none. absurd (none-some end (sym none));
  held = passed_held n puts end;
  up = refl;
  unheld = λ t x.
      let same = same_Some end x.end x.up in
      record {
        end = passed n puts end;
        up = refl;
        since = subst (λ (moment : ℕ). t ≤ moment) (sym (passed_raised n puts end ∙ ap (λ (y : End). y.raised) same)) x.since;
        unheld = passed_held n puts end ∙ ap (λ (y : End). y.held) same ∙ x.unheld;
      };
}

pub same_rule : (w : LabelNetwork) (b : NodeId) (d : LabelData) → d.labels ≡ (w.node b).labels → SameRest (w.node b) d → Rule w
    → Rule (thereafter w b (record { part = d; puts = [] }))
same_rule w b d labels rest rule =
    alike_rule w b d labels rest.branches rest.leaves (λ u. same_end (end_of (w.node b) u) (end_of d u) (same_ends d (w.node b) rest.ends u)) rule

-- one label of b goes from one use to another, and a message of that label is put to x
module _ (w : LabelNetwork) (b x : NodeId) (d : LabelData) (l : ℕ) (s : Option LabelUse) (m : LabelMessage) (rule : Rule w)
    (here_use : use_of d l ≡ s) (there_use : (k : ℕ) → (k ≡ l → ⊥) → use_of d k ≡ use_of (w.node b) k) (rest : SameRest (w.node b) d)
    (down : (k : ℕ) → is_of_owner k m ≡ (l == k)) (back : (k : ℕ) → is_release_of k m ≡ false)
    (stands : (u : NodeId) (vpn t : ℕ) → LabelCovers w.life w.vpn_of u (use_of (w.node b) l) vpn t → LabelCovers w.life w.vpn_of u s vpn t)
    (here : (live : Bool) (far : Option End) (ms ns bs : List LabelMessage) (o : Fec → Bool) → (live ≡ true → ns ≡ ms ++ m ∷ [])
    → View x l live (end_of (w.node b) x) far (use_of (w.node b) l) ms bs o → View x l live (end_of (w.node b) x) far s ns bs o)
    (other : (u : NodeId) → u ≢ x → SameOrOther u (use_of (w.node b) l) s)
    (trees : (f : Fec) (u : NodeId) → IsUsedTowards f u s → w.is_tree f ≡ true) where
  abbrev puts : List Put
  puts = record { to = x; message = m } ∷ []

  abbrev transit : NodeId → NodeId → List LabelMessage
  transit = sent b puts w.direction

  ends : (u : NodeId) → end_of d u ≡ end_of (w.node b) u
  ends = same_ends d (w.node b) rest.ends

  owner_x : x ≢ b → ViewAt w x b l → OwnerView w b d transit x l
  owner_x ne v =
      along_view refl (ends x) refl here_use refl (ap (filter (is_release_of l)) (sent_other b puts w.direction x b ne)) refl
      (here (w.direction x b).joined (end_of (w.node x) b) (filter (is_of_owner l) (w.direction b x).transit) (filter (is_of_owner l) (transit b x))
      (filter (is_release_of l) (w.direction x b).transit) (branch_trees (w.node x) b l)
      (λ j. sent_passes (is_of_owner l) b x m w.direction (sym (rule.session x b ne).alike ∙ j) (down l ∙ eq-eqb l l refl)) v)

  owner_l : (u : NodeId) → u ≢ b → ViewAt w u b l → OwnerView w b d transit u l
  owner_l u ne v = elim (node_cases u x) [
    | inl e ↦ let Q : NodeId → Type 0 = λ z. z ≢ b → ViewAt w z b l → OwnerView w b d transit z l in subst Q (sym e) owner_x ne v
    | inr e ↦ along_view refl (ends u) refl here_use
        (sent_skips (is_of_owner l) b puts w.direction b u (ap (filter (is_of_owner l)) (none_to x u m (λ z. e (sym z)))))
        (ap (filter (is_release_of l)) (sent_other b puts w.direction u b ne)) refl
        (same_view u l (w.direction u b).joined (end_of (w.node b) u) (end_of (w.node u) b) (use_of (w.node b) l) s _ _ (branch_trees (w.node u) b l)
        (other u e) v)
  ]

  owner : (u : NodeId) (k : ℕ) → u ≢ b → ViewAt w u b k → OwnerView w b d transit u k
  owner u k ne v = elim (cases_eq k l) [
    | inl e ↦ let Q : ℕ → Type 0 = λ z. ViewAt w u b z → OwnerView w b d transit u z in subst Q (sym e) (owner_l u ne) v
    | inr e ↦ along_view refl (ends u) refl (there_use k e)
        (sent_skips (is_of_owner k) b puts w.direction b u (fails_to (is_of_owner k) x u m (down k ∙ ne_eqb l k (λ z. e (sym z)))))
        (ap (filter (is_release_of k)) (sent_other b puts w.direction u b ne)) refl v
  ]

  covered : (u : NodeId) (k vpn t : ℕ) → Covered w.life w.vpn_of u (end_of (w.node b) u) (use_of (w.node b) k) vpn t
      → Covered w.life w.vpn_of u (end_of d u) (use_of d k) vpn t
  covered u k vpn t h =
      covered_if w.life w.vpn_of u vpn t (end_of (w.node b) u) (end_of d u) (use_of (w.node b) k) (use_of d k) (ends u) (λ st. elim (cases_eq k l) [
        | inl e ↦ stand_along w.life w.vpn_of u vpn t s (use_of d k) (ap (use_of d) e ∙ here_use)
            (stands u vpn t (stand_along w.life w.vpn_of u vpn t (use_of (w.node b) k) (use_of (w.node b) l) (ap (use_of (w.node b)) (sym e)) st))
        | inr e ↦ stand_along w.life w.vpn_of u vpn t (use_of (w.node b) k) (use_of d k) (there_use k e) st
      ]) h

  pub use_rule : Rule (thereafter w b (record { part = d; puts = puts }))
  use_rule =
      node_rule w b d transit (record {
        owner = owner;
        branch = λ n k ne v. along_view refl refl (ends n) refl
            (ap (filter (is_of_owner k)) (sent_other b puts w.direction n b (λ e. ne (sym e))))
            (sent_skips (is_release_of k) b puts w.direction b n (fails_to (is_release_of k) x n m (back k)))
            (same_branches d (w.node b) rest.branches n k) v;
        others = λ u n p q. sent_other b puts w.direction u n p;
        quiet = λ u n j off e. sent_quiet b puts w.direction u n off ∙ e;
        ends = λ n j up. ap is_some (ends n) ∙ (rule.session b n j).ends up;
        covered = λ u k vpn t j past young h. covered u k vpn t h;
        trees = record {
          leaves = λ f h. (rule.trees b).leaves f (ap (λ (z : FinSet fec_cmp). sets.contains z f) (sym rest.leaves) ∙ h);
          branches = λ y h. (rule.trees b).branches y (ap (λ (z : FinSet branch_cmp). sets.contains z y) (sym rest.branches) ∙ h);
          labels = λ k f u h. elim (cases_eq k l) [
            | inl e ↦ trees f u (holds_along f u (use_of d k) s (ap (use_of d) e ∙ here_use) h)
            | inr e ↦ (rule.trees b).labels k f u (holds_along f u (use_of d k) (use_of (w.node b) k) (there_use k e) h)
          ];
        };
      }) rule

one_fec : (f g : Fec) (u v : NodeId) → IsUsedTowards f u (Some (uses.Mapped g v)) → f ≡ g
one_fec f g u v h = elim h [ inl x ↦ cc | inr x ↦ absurd cc ]

left_fec : (f g : Fec) (u v : NodeId) → IsUsedTowards f u (Some (uses.Leaving g v)) → f ≡ g
left_fec f g u v h = elim h [ inl x ↦ absurd cc | inr x ↦ cc ]

-- a turn keeps the rule
pub turn_rule : (w : LabelNetwork) (b : NodeId) (fec : Fec) (next : LabelData) (more : List Put) → Turn (place_of w b) (w.node b) fec next more
    → Rule w → Rule (thereafter w b (record { part = next; puts = more }))
turn_rule w b fec next more t rule =
    let part = w.node b in
    let P : List Put → Type 0 = λ ps. Rule (thereafter w b (record { part = next; puts = ps })) in
    elim t.how [
      | inl q ↦ subst P (sym q.silent) (same_rule w b next q.labels t.rest rule)
      | inr (inl m) ↦ subst P (sym m.put) (use_rule w b m.to next m.label (Some (uses.Mapped fec m.to)) (messages.Mapping fec m.label) rule
          (ap (λ (ls : List LabelUse). used ls m.label) m.labels ∙ set_here part m.label uses.Free (uses.Mapped fec m.to) m.least.free)
          (λ k e. ap (λ (ls : List LabelUse). used ls k) m.labels ∙ set_there part m.label uses.Free (uses.Mapped fec m.to) k m.least.free e)
          t.rest (λ k. refl) (λ k. refl)
          (λ u vpn at h. absurd (free_stands w.life w.vpn_of u vpn at (use_of part m.label) m.least.free h))
          (λ live far ms ns bs o put v. free_view m.to m.label fec live (end_of part m.to) far (use_of part m.label) ms ns bs o m.least.free put
          m.ready v)
          (λ u ne. inr (free_other u (use_of part m.label) m.least.free, mapped_other u fec m.to ne))
          (λ f u h. ap w.is_tree (one_fec f fec u m.to h) ∙ tree_of w.is_tree part fec (rule.trees b) m.tree))
      | inr (inr g) ↦ subst P (sym g.put) (use_rule w b g.to next g.label (Some (uses.Leaving fec g.to)) (messages.Withdraw fec g.label) rule
          (ap (λ (ls : List LabelUse). used ls g.label) g.labels ∙ set_here part g.label (uses.Mapped fec g.to) (uses.Leaving fec g.to) g.was)
          (λ k e. ap (λ (ls : List LabelUse). used ls k) g.labels ∙ set_there part g.label (uses.Mapped fec g.to) (uses.Leaving fec g.to) k g.was e)
          t.rest (λ k. refl) (λ k. refl)
          (λ u vpn at h. left_stands w.life w.vpn_of u vpn at fec g.to (use_of part g.label) g.was h)
          (λ live far ms ns bs o put v. left_view g.to g.label fec live (end_of part g.to) far (use_of part g.label) ms ns bs o g.was put v)
          (λ u ne. inr (
            other_along u (Some (uses.Mapped fec g.to)) (use_of part g.label) (sym g.was) (mapped_other u fec g.to ne),
            leaving_other u fec g.to ne,
          ))
          (λ f u h. ap w.is_tree (left_fec f fec u g.to h) ∙ (rule.trees b).labels g.label fec g.to (inl g.was)))
    ]
