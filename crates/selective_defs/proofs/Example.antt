-- The worked example.
use Rattle.std.proofs.Common.{◌≡◌, ◌≤◌, true, false, inl, inr, Some, is_some, refl, sym, ap, ◌∙◌, arith}
use Rattle.mldp.specs.mv_base.Address.{same_addr, same_addr_equiv}
use Rattle.mldp.specs.mv_base.declared.addr.Addr.{Addr}
use Rattle.mldp.specs.mv_base.declared.pattern.Pattern.{Pattern}
use Rattle.mldp.specs.declared.mldp_fec.fec.Fec.{Fec}
use Rattle.selective_defs.specs.declared.learned_route.LearnedRoute.{LearnedRoute}
use Rattle.selective_defs.specs.declared.selection.Selection.{Selection}
use Rattle.selective_defs.specs.Selective.{Among, IsDue, transmitted, wanted, AreDistinct, InStep}
use Rattle.selective_defs.specs.Example.{of_source, of_flow, wide, narrow, selections, wide_route, narrow_route, routes, Overlap}

apart : (source group : Addr) → of_source source ≡ of_flow source group → ⊥
apart source group e = absurd (let bad : false ≡ true = ap (λ (p : Pattern). is_some p.group) e in cc)

distinct : (source group : Addr) → AreDistinct (selections source group)
distinct source group one other (inl a) (inl b) e = a ∙ sym b
distinct source group one other (inl a) (inr (inl b)) e =
    absurd (apart source group (sym (ap (λ (s : Selection). s.pattern) a) ∙ e ∙ ap (λ (s : Selection). s.pattern) b))
distinct source group one other (inr (inl a)) (inl b) e =
    absurd (apart source group (sym (ap (λ (s : Selection). s.pattern) b) ∙ sym e ∙ ap (λ (s : Selection). s.pattern) a))
distinct source group one other (inr (inl a)) (inr (inl b)) e = a ∙ sym b
distinct source group one other (inl a) (inr (inr none)) e = absurd none
distinct source group one other (inr (inl a)) (inr (inr none)) e = absurd none
distinct source group one other (inr (inr none)) b e = absurd none

in_step : (source group : Addr) (first second : Fec) → InStep 5 12 (selections source group) (routes source group first second)
in_step source group first second = record { learned = learned; selected = selected; later = later; over = over; run = run }
  where
    learned : (s : Selection) → Among s (selections source group)
        → (route : LearnedRoute) × (Among route (routes source group first second)) × (route.pattern ≡ s.pattern)
    learned s (inl a) = (wide_route source first, inl refl, sym (ap (λ (x : Selection). x.pattern) a))
    learned s (inr (inl a)) = (narrow_route source group second, inr (inl refl), sym (ap (λ (x : Selection). x.pattern) a))
    learned s (inr (inr none)) = absurd none

    selected : (r : LearnedRoute) → Among r (routes source group first second)
        → (s : Selection) × (Among s (selections source group)) × (s.pattern ≡ r.pattern)
    selected r (inl a) = (wide source, inl refl, sym (ap (λ (x : LearnedRoute). x.pattern) a))
    selected r (inr (inl a)) = (narrow source group, inr (inl refl), sym (ap (λ (x : LearnedRoute). x.pattern) a))
    selected r (inr (inr none)) = absurd none

    later : (s : Selection) (r : LearnedRoute) → Among s (selections source group) → Among r (routes source group first second)
        → s.pattern ≡ r.pattern → s.since ≤ r.since
    later s r (inl a) b e = let at : s.since ≡ 0 = ap (λ (x : Selection). x.since) a in omega (arith, at)
    later s r (inr (inl a)) (inl b) e =
        absurd (apart source group (sym (ap (λ (x : LearnedRoute). x.pattern) b) ∙ sym e ∙ ap (λ (x : Selection). x.pattern) a))
    later s r (inr (inl a)) (inr (inl b)) e =
        let at : s.since ≡ 10 = ap (λ (x : Selection). x.since) a in
        let then_at : r.since ≡ 11 = ap (λ (x : LearnedRoute). x.since) b in
        omega (arith, at, then_at)
    later s r (inr (inl a)) (inr (inr none)) e = absurd none
    later s r (inr (inr none)) b e = absurd none

    over : (r : LearnedRoute) → Among r (routes source group first second) → r.run ≡ true → IsDue 5 12 r.since
    over r (inl a) t = let at : r.since ≡ 1 = ap (λ (x : LearnedRoute). x.since) a in omega (arith, at)
    over r (inr (inl a)) t = absurd (let bad : false ≡ true = sym (ap (λ (x : LearnedRoute). x.run) a) ∙ t in cc)
    over r (inr (inr none)) t = absurd none

    run : (s : Selection) → Among s (selections source group) → IsDue 5 12 s.since → s.run ≡ true
    run s (inl a) d = ap (λ (x : Selection). x.run) a
    run s (inr (inl a)) d = let at : s.since ≡ 10 = ap (λ (x : Selection). x.since) a in absurd (omega (arith, at, d))
    run s (inr (inr none)) d = absurd none

transmits_by : (source group : Addr) → same_addr source source ≡ true → transmitted (selections source group) source group ≡ Some (wide source)
transmits_by source group s = rw s refl

wants_by : (source group : Addr) (first second : Fec) → same_addr source source ≡ true → same_addr group group ≡ true
    → wanted (routes source group first second) source group ≡ routes source group first second
wants_by source group first second s g = rw s (rw g refl)

pub overlap : (source group : Addr) (first second : Fec) → Overlap source group first second
overlap source group first second =
    record {
      distinct = distinct source group;
      in_step = in_step source group first second;
      transmits = transmits_by source group (same_addr_equiv.refl source);
      wants = wants_by source group first second (same_addr_equiv.refl source) (same_addr_equiv.refl group);
    }
