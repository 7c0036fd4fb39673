-- The timers leave all trees settled but those that wait.
use Rattle.std.proofs.Common.{◌≡◌, ℕ, nat_le, Bool, true, false, not, cond, ◌&&◌, Option, Some, None, option_map, is_some, refl, sym, ap, subst, ◌∙◌}
use Rattle.std.specs.FinMap as maps
use Rattle.std.specs.FinSet as sets
use Rattle.std.proofs.lemmas.Bool.{or_left}
use Rattle.std.proofs.lemmas.Option.{none-some, same_Some}
use Rattle.mldp.specs.mv_base.declared.ids.NodeId.{NodeId}
use Rattle.mldp.specs.declared.mldp_fec.fec.Fec.{Fec}
use Rattle.label_defs.specs.declared.end.End.{End}
use Rattle.label_defs.specs.declared.label_use.LabelUse.{LabelUse}
use Rattle.label_defs.specs.declared.label_use.LabelUse.TheVariants as uses
use Rattle.label_defs.specs.LabelData.{Place, LabelData, use_of, has_tree, is_ready, is_hold_due}
use Rattle.label_defs.specs.Settling.{is_ready_to}
use Rattle.label_defs.specs.Steps.{woken, hold_run, holds_run, timed}
use Rattle.label_defs.specs.Settled.{Maps, Settled, AllSettled}
use Rattle.label_defs.specs.Members.{in_order}
use Rattle.label_defs.proofs.KeyLemmas.{node_cmp_total, node_cmp_exact, fec_cmp_total}
use Rattle.label_defs.proofs.UseLemmas.{used-map, map_some}
use Rattle.label_defs.proofs.SetLemmas.{get-changed}
use Rattle.label_defs.proofs.TreeLemmas.{Tied, tied, waits}
use Rattle.label_defs.proofs.SettleLemmas.{Good}
use Rattle.label_defs.proofs.EffectLemmas.{held}
use Rattle.label_defs.proofs.MemberLemmas.{contains_in_order}

pub woken_maps : (now : ℕ) (usage : LabelUse) (fec : Fec) (u : NodeId) → woken now usage ≡ uses.Mapped fec u → usage ≡ uses.Mapped fec u
woken_maps now uses.Free fec u e = e
woken_maps now (uses.Mapped own v) fec u e = e
woken_maps now (uses.Leaving own v) fec u e = e
woken_maps now (uses.Resting until) fec u e = by (nat_le until now) e
  where
    by : (t : Bool) → cond t uses.Free (uses.Resting until) ≡ uses.Mapped fec u → uses.Resting until ≡ uses.Mapped fec u
    by true e = absurd cc
    by false e = absurd cc

module _ (place : Place) (now : ℕ) (part : LabelData) where
  timed_was : (fec : Fec) (label : ℕ) (u : NodeId) → Maps (timed place now part) fec label u → Maps part fec label u
  timed_was fec label u p =
      let x = map_some (woken now) (use_of part label) (uses.Mapped fec u) (sym (used-map (woken now) part.labels label) ∙ p) in
      x.1 ∙ ap (λ (z : LabelUse). Some z) (woken_maps now x.0 fec u x.2)

  timed_maps : (fec : Fec) (label : ℕ) (u : NodeId) → Maps part fec label u → Maps (timed place now part) fec label u
  timed_maps fec label u p = used-map (woken now) part.labels label ∙ ap (option_map (woken now)) p

  pub timed_end : (node : NodeId) → maps.get (holds_run place.life now part.ends) node
      ≡ option_map (hold_run place.life now) (maps.get part.ends node)
  timed_end node = get-changed node_cmp_total node_cmp_exact (hold_run place.life now) part.ends node

  stays_held : (o : Option End) → held o ≡ true → held (option_map (hold_run place.life now) o) ≡ true
  stays_held None e = absurd cc
  stays_held (Some end) e = or_left end.held (is_hold_due place.life now end) e

  stays_ready : (node : NodeId) → is_ready part node ≡ true → is_ready (timed place now part) node ≡ true
  stays_ready node e = ap held (timed_end node) ∙ stays_held (maps.get part.ends node) e

  timed_tied : (fec : Fec) → Tied place part fec → Tied place (timed place now part) fec
  timed_tied fec t =
      record {
        one = λ i j u v p q. t.one i j u v (timed_was fec i u p) (timed_was fec j v q);
        toward = λ i u p. (let x = t.toward i u (timed_was fec i u p) in (x.0, stays_ready u x.1));
        apart = λ i u p. t.apart i u (timed_was fec i u p);
      }

  -- a tree whose binding does not wait is towards an end that is ready, where it needs one
  ready_by : (t : Bool) (o : Option NodeId) (u : NodeId) → t ≡ true → o ≡ Some u → (t && (is_some o && not (is_ready_to part o))) ≡ false
      → is_ready part u ≡ true
  ready_by true (Some v) u h p e = subst (λ (x : NodeId). is_ready part x ≡ true) (same_Some v u p) (not_not (is_ready part v) e)
    where
      not_not : (b : Bool) → not b ≡ false → b ≡ true
      not_not true e = refl
      not_not false e = absurd cc
  ready_by true None u h p e = absurd (none-some u p)
  ready_by false o u h p e = absurd cc

  none_waits : (t : Bool) (o : Option NodeId) → (t && (is_some o && not (is_ready_to part o))) ≡ false
      → (t && (is_some o && not (is_ready_to (timed place now part) o))) ≡ false
  none_waits false o e = refl
  none_waits true None e = refl
  none_waits true (Some u) e = ap not (stays_ready u (ready_by true (Some u) u refl refl e))

  timed_settled : (fec : Fec) → sets.contains part.waiting fec ≡ false → Settled place part fec → Settled place (timed place now part) fec
  timed_settled fec h s =
      let quiet : waits place part fec ≡ false = sym s.waiting ∙ h in
      let t = timed_tied fec (tied place part fec s) in
      record {
        one = t.one;
        toward = t.toward;
        needed = λ i u p. s.needed i u (timed_was fec i u p);
        mapped = λ u e p r. (let x = s.mapped u e p (ready_by (has_tree part fec) (place.upstream fec) u e p quiet) in
            (x.0, timed_maps fec x.0 u x.1));
        waiting = h ∙ sym (none_waits (has_tree part fec) (place.upstream fec) quiet);
      }

  pub timed_good : AllSettled place part → Good place (in_order part.waiting) (timed place now part)
  timed_good all =
      record {
        tied = λ fec. timed_tied fec (tied place part fec (all fec));
        settled = λ fec h. timed_settled fec (contains_in_order fec_cmp_total part.waiting fec ∙ h) (all fec);
      }
