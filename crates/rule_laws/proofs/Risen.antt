-- The label rule of a network in which one more end is up holds without that end too, where its node has no branch that way.
use Rattle.std.proofs.Common.{◌≡◌, ℕ, ◌==◌, ◌&&◌, Bool, true, false, cond, inl, inr, List, [], ◌++◌, filter, is_some, Option, Some, None, refl, sym, ap, subst, ◌∙◌}
use Rattle.std.specs.FinMap as maps
use Rattle.std.specs.FinSet as sets
use Rattle.std.proofs.lemmas.Bool.{and_parts}
use Rattle.std.proofs.lemmas.List.{append-nil}
use Rattle.mv_base.specs.declared.ids.NodeId.{NodeId}
use Rattle.mldp.specs.declared.mldp_fec.fec.Fec.{Fec}
use Rattle.mldp.specs.declared.mldp_msgs.message.LabelMessage.{LabelMessage}
use Rattle.label_defs.specs.LabelData.{LabelData, use_of, is_up}
use Rattle.label_defs.specs.Settling as settling
use Rattle.label_defs.specs.Steps.{branch_to, raised_end}
use Rattle.label_defs.specs.declared.branch.Branch.{Branch}
use Rattle.label_defs.specs.declared.end.End.{End}
use Rattle.label_defs.specs.declared.label_use.LabelUse.{LabelUse}
use Rattle.label_defs.proofs.KeyLemmas.{node_equal, node_cmp_total, node_cmp_exact, node_itself}
use Rattle.label_defs.proofs.SetLemmas.{put_other}
use Rattle.label_laws.specs.Network.{PacketCopy, LabelNetwork, thereafter}
use Rattle.label_laws.specs.Rule.{CopyCase, is_mapped, is_leaving, is_resting, is_down, is_unheld, end_of, is_of_owner, IsUsedTowards, LabelRule}
use Rattle.network_laws.proofs.Lists.{each_weaker}

-- the part of a node one of whose ends has come up
abbrev pub risen : LabelData → NodeId → ℕ → LabelData
risen part peer now = record part { ends = maps.insert part.ends peer (raised_end now) }

abbrev pub quiet : LabelData → settling.Stepped
quiet part = record { part = part; puts = [] }

pub nothing_more : (b : Bool) (ms : List LabelMessage) → cond b (ms ++ []) ms ≡ ms
nothing_more true ms = append-nil ms
nothing_more false ms = refl

none_up : (o : Option End) → is_some o ≡ false → o ≡ None
none_up None e = refl
none_up (Some end) e = absurd cc

module _ (w : LabelNetwork) (b a : NodeId) (part : LabelData) (now : ℕ) (at : w.node b ≡ part) (off : is_up part a ≡ false)
    (no_branch : (fec : Fec) (label : ℕ) → sets.contains part.branches (branch_to a fec label) ≡ true → ⊥) where
  abbrev up : LabelNetwork
  up = thereafter w b (quiet (risen part a now))

  -- the end that is up there
  abbrev is_that : NodeId → NodeId → Bool
  is_that n u = (n.0 == b.0) && (u.0 == a.0)

  -- the node is as it was
  own : (n : NodeId) → (n.0 == b.0) ≡ true → w.node n ≡ part
  own n same = ap w.node (node_equal n b same) ∙ at

  -- what is read of a node
  alike_at : {X : Type 0} (read : LabelData → X) (n : NodeId) (t : Bool) → (n.0 == b.0) ≡ t → (t ≡ true → read (risen part a now) ≡ read part)
      → read (cond t (risen part a now) (w.node n)) ≡ read (w.node n)
  alike_at read n true e h = h refl ∙ ap read (sym (own n e))
  alike_at read n false e h = refl

  uses_alike : (n : NodeId) (label : ℕ) → use_of (up.node n) label ≡ use_of (w.node n) label
  uses_alike n label = alike_at (λ d. use_of d label) n (n.0 == b.0) refl (λ t. refl)

  branches_alike : (n : NodeId) (branch : Branch) → sets.contains (up.node n).branches branch ≡ sets.contains (w.node n).branches branch
  branches_alike n branch = alike_at (λ d. sets.contains d.branches branch) n (n.0 == b.0) refl (λ t. refl)

  ends_alike : (n u : NodeId) → is_that n u ≡ false → end_of (up.node n) u ≡ end_of (w.node n) u
  ends_alike n u other =
      alike_at (λ d. end_of d u) n (n.0 == b.0) refl (λ here. put_other node_cmp_total node_cmp_exact part.ends a (raised_end now) u (λ same.
      let both : is_that n u ≡ true = (λ i. here i && node_itself u a same i) in
      let x : true ≡ false = sym both ∙ other in absurd cc))

  that_down : (n u : NodeId) → is_that n u ≡ true → end_of (w.node n) u ≡ None
  that_down n u that =
      let parts = and_parts (n.0 == b.0) (u.0 == a.0) that in
      (λ i. end_of (own n parts.0 i) (node_equal u a parts.1 i)) ∙ none_up (end_of part a) off

  that_branch : (n u : NodeId) (fec : Fec) (label : ℕ) → is_that n u ≡ true → sets.contains (w.node n).branches (branch_to u fec label) ≡ true → ⊥
  that_branch n u fec label that has =
      let parts = and_parts (n.0 == b.0) (u.0 == a.0) that in
      let node_is = sym (own n parts.0) in
      let peer_is = sym (node_equal u a parts.1) in
      no_branch fec label ((λ i. sets.contains (node_is i).branches (branch_to (peer_is i) fec label)) ∙ has)

  transit_alike : (u n : NodeId) → (up.direction u n).transit ≡ (w.direction u n).transit
  transit_alike u n = nothing_more ((u.0 == b.0) && (w.direction u n).joined) (w.direction u n).transit

  case_before : (u n : NodeId) (copy : PacketCopy) → CopyCase up u n copy → CopyCase w u n copy
  case_before u n copy c = by (is_that n u) refl c
    where
      by : (t : Bool) → is_that n u ≡ t → CopyCase up u n copy → CopyCase w u n copy
      by true that c = is_down (that_down n u that)
      by false other (is_mapped fec here used vpn) =
          is_mapped fec (ap is_some (sym (ends_alike n u other)) ∙ here) (sym (uses_alike n copy.label) ∙ used) vpn
      by false other (is_leaving fec here used) =
          is_leaving fec (ap is_some (sym (ends_alike n u other)) ∙ here) (sym (uses_alike n copy.label) ∙ used)
      by false other (is_resting until used late) = is_resting until (sym (uses_alike n copy.label) ∙ used) late
      by false other (is_down none) = is_down (sym (ends_alike n u other) ∙ none)
      by false other (is_unheld end here since unheld) = is_unheld end (sym (ends_alike n u other) ∙ here) since unheld

  pub rule_before : LabelRule up → LabelRule w
  rule_before full = record {
    copies = λ u n ne. each_weaker (CopyCase up u n) (CopyCase w u n) (case_before u n) (w.direction u n).copies (full.copies u n ne);
    young = full.young;
    branch_up = λ u n label fec ne has. elim (is_that u n) as (λ t. is_that u n ≡ t → is_some (end_of (w.node u) n) ≡ true) [
      | true ↦ λ that. absurd (that_branch u n fec label that has)
      | false ↦ λ other. ap is_some (sym (ends_alike u n other)) ∙ full.branch_up u n label fec ne (branches_alike u (branch_to n fec label) ∙ has)
    ] refl;
    joined = λ u n label fec ne joined has. elim (full.joined u n label fec ne joined (branches_alike u (branch_to n fec label) ∙ has)) [
      | inl mapped ↦ inl (sym (uses_alike n label) ∙ mapped)
      | inr leaving ↦ inr (sym (uses_alike n label) ∙ leaving.0, ap (filter (is_of_owner label)) (sym (transit_alike n u)) ∙ leaving.1)
    ];
    unjoined = λ u n label fec ne off has. elim (full.unjoined u n label fec ne off (branches_alike u (branch_to n fec label) ∙ has)) [
      | inl none ↦ inl (elim (is_that n u) as (λ t. is_that n u ≡ t → end_of (w.node n) u ≡ None) [
        | true ↦ λ that. that_down n u that
        | false ↦ λ other. sym (ends_alike n u other) ∙ none
      ] refl)
      | inr used ↦ inr (subst (λ (usage : Option LabelUse). IsUsedTowards fec u usage) (uses_alike n label) used)
    ];
  }
