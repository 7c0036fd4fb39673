-- The rule gives the label rule in full, and a network in which nothing has happened meets it.
use Rattle.std.proofs.Common.{◌≡◌, ℕ, ◌+◌, ◌≤◌, Bool, true, false, inl, inr, refl, filter, Option, Some, None, is_some}
use Rattle.std.proofs.lemmas.Bool.{cases_Bool}
use Rattle.mv_base.specs.declared.ids.NodeId.{NodeId}
use Rattle.mldp.specs.declared.mldp_fec.fec.Fec.{Fec}
use Rattle.label_defs.specs.declared.end.End.{End}
use Rattle.label_defs.specs.LabelData.{fresh, use_of}
use Rattle.label_defs.proofs.StepLemmas.{fresh_settled}
use Rattle.label_laws.specs.Network.{PacketCopy, LabelNetwork, at_start}
use Rattle.label_laws.specs.Rule.{CopyCase, is_mapped, is_leaving, is_resting, is_down, is_unheld, LabelCovers, mapped, leaving, resting, CopyOk, LabelRule, Rule, Kept, end_of, branch_trees, is_of_owner, is_release_of}
use Rattle.label_laws.proofs.Frames.{along_view, each_kept}
use Rattle.label_laws.proofs.Phases.{branch_stands}
use Rattle.label_laws.proofs.Views.{idle_view}
use Rattle.label_laws.proofs.Ends.{fresh_other, fresh_bare, fresh_trees}

none_where : (o : Option End) → is_some o ≡ false → o ≡ None
none_where None e = refl
none_where (Some end) e = absurd cc

case_by : (w : LabelNetwork) (u n : NodeId) (c : PacketCopy) → is_some (end_of (w.node n) u) ≡ true
    → LabelCovers w.life w.vpn_of u (use_of (w.node n) c.label) (w.origin c.number) c.put_at → CopyCase w u n c
case_by w u n c up (mapped f e h) = is_mapped f up e h
case_by w u n c up (leaving f e) = is_leaving f up e
case_by w u n c up (resting until e h) = is_resting until e h

case_of : (w : LabelNetwork) (u n : NodeId) (c : PacketCopy) → CopyOk w.clock w.life w.vpn_of w.origin u (w.node n) c → CopyCase w u n c
case_of w u n c o =
    elim (cases_Bool (is_some (end_of (w.node n) u))) [
      | inr off ↦ is_down (none_where (end_of (w.node n) u) off)
      | inl up ↦ elim o.covered [
        | inl off ↦ is_down off
        | inr x ↦ elim x [
          | inl y ↦ is_unheld y.end y.up y.since y.unheld
          | inr st ↦ case_by w u n c up st
        ]
      ]
    ]

pub label_rule : (w : LabelNetwork) → Rule w → LabelRule w
label_rule w rule =
    record {
      copies = λ u n j. each_kept (CopyOk w.clock w.life w.vpn_of w.origin u (w.node n)) (CopyCase w u n) (case_of w u n) (w.direction u n).copies
          (rule.copies u n j);
      young = λ u n j. each_kept (CopyOk w.clock w.life w.vpn_of w.origin u (w.node n)) (λ (c : PacketCopy). w.clock ≤ c.put_at + w.life)
          (λ c o. o.young) (w.direction u n).copies (rule.copies u n j);
      branch_up = λ u n l f j e. (rule.view u n l j).branch f e;
      joined = λ u n l f j up e. branch_stands u l f (use_of (w.node n) l) (filter (is_of_owner l) (w.direction n u).transit)
          (filter (is_release_of l) (w.direction u n).transit) (branch_trees (w.node u) n l) e ((rule.view u n l j).phase up);
      unjoined = λ u n l f j off e. (rule.view u n l j).alone f off e;
    }

pub start_kept : (life : ℕ) (labels : NodeId → ℕ) (is_tree : Fec → Bool) (upstream : NodeId → Fec → Option NodeId) (vpn_of : Fec → ℕ) (origin : ℕ → ℕ)
    → Kept (at_start life labels is_tree upstream vpn_of origin)
start_kept life labels is_tree upstream vpn_of origin =
    record {
      rule = record {
        view = λ u n l j. along_view refl refl refl refl refl refl (fresh_bare (labels u) n l)
            (idle_view u l false (end_of (fresh (labels n)) u) (end_of (fresh (labels u)) n) (use_of (fresh (labels n)) l)
            (fresh_other (labels n) u l));
        session = λ u n j. record { alike = refl; quiet = λ e. refl; ends = λ e. absurd cc };
        copies = λ u n j. tt;
        trees = λ n. fresh_trees is_tree (labels n);
      };
      settled = λ n. fresh_settled (record { life = life; is_tree = is_tree; upstream = upstream n }) (labels n);
    }
