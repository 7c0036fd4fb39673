-- The fields of a route: they are read exactly where they are spelled, and their first fault.
use Rattle.std.proofs.Common.{◌≡◌, ◌≢◌, ℕ, ◌+◌, ◌<◌, ◌≤◌, Bool, true, false, eqb, ◌⊎◌, List, ◌++◌, length, Ok, Err, refl, sym, ap, subst, ◌∙◌, arith, inl, inr}
use Rattle.std.specs.Int.{w32, to_be_bytes}
use Rattle.std.proofs.lemmas.Bool.{eqb-true, ne_eqb, eqb-false}
use Rattle.mv_base.specs.Address.{addr_octets, IsAddr}
use Rattle.mv_base.specs.declared.addr.Addr.{Addr}
use Rattle.mv_base.specs.declared.rd.Rd.{Rd}
use Rattle.mv_base.specs.Octets.{IsOctets}
use Rattle.bgp_values.specs.declared.mvpn_nlri.fault.RouteFault.{RouteFault}
use Rattle.bgp_values.specs.declared.mvpn_nlri.fault.RouteReason.TheVariants.{Short}
use Rattle.bgp_values.specs.declared.mvpn_nlri.route.Afi.{Afi}
use Rattle.bgp_values.specs.declared.mvpn_nlri.route.LeafKey.{LeafKey}
use Rattle.bgp_values.specs.declared.mvpn_nlri.route.LeafKey.TheVariants as keys
use Rattle.bgp_values.specs.declared.mvpn_nlri.route.Route.{Route}
use Rattle.bgp_values.specs.declared.mvpn_nlri.route.Route.TheVariants.{Intra, Inter, Selective, Leaf, Active, SharedJoin, SourceJoin, Other}
use Rattle.bgp_values.specs.mvpn_nlri.Bounds.{Bounded, Passes}
use Rattle.bgp_values.specs.mvpn_nlri.Spelling.{IsRd, IsAs, IsSource, IsGroup, IsKey, IsOther, IsRoute, sized, key, key_fields, kind, fields}
use Rattle.bgp_values.specs.mvpn_nlri.FirstFault as faults
use Rattle.bgp_values.specs.mvpn_nlri.FirstFault.{Is, RdThen, AsThen, FlowFault, OriginatorFault, Then, KeyFault, FieldsFault}
use Rattle.bgp_values.specs.mvpn_nlri.Reading.{Read, octets_within, turned, both, rd_at, flow_at, originator_at, key_at, inter_at, selective_at, own_route, intra_of, leaf_of, active_of, shared_of, source_of, intra_at, leaf_at, active_at, join_at, other_at, fields_at}
use Rattle.bgp_values.proofs.mvpn_nlri.FormatLemmas.{Format, Ends, passes_is, octets_taken, octets_again, is_near, turned_ok, turned_err, turned_again, turned_failing, both_format}
use Rattle.bgp_values.proofs.mvpn_nlri.FieldLemmas.{rd_format, as_format, flow_format, originator_format, rest_fails, fail_rest}
use Rattle.bgp_values.proofs.mvpn_nlri.KeyLemmas.{IsInter, IsSelective, inter_format, selective_format, key_format, fields_near}

-- ---- the fields of each type, as pairs

intra_format : Format (both rd_at originator_at) (λ x. x.0.0 ++ addr_octets x.1) (λ x. IsRd x.0 × IsAddr x.1) Ends (RdThen OriginatorFault)
intra_format = both_format rd_format originator_format

leaf_format : (afi : Afi) → Format (both (key_at afi) originator_at) (λ x. key x.0 ++ addr_octets x.1) (λ x. IsKey afi x.0 × IsAddr x.1) Ends
    (Then key (IsKey afi) (KeyFault afi) OriginatorFault)
leaf_format afi = both_format (key_format afi) originator_format

active_format : (afi : Afi) → Format (both rd_at (flow_at afi)) (λ x. x.0.0 ++ (sized x.1.0 ++ sized x.1.1))
    (λ x. IsRd x.0 × (IsSource afi x.1.0 × IsGroup afi x.1.1)) Ends (RdThen (FlowFault afi))
active_format afi = both_format rd_format (flow_format afi)

join_format : (afi : Afi) → Format (join_at afi) (λ x. x.0.0 ++ (to_be_bytes w32 x.1.0 ++ (sized x.1.1.0 ++ sized x.1.1.1)))
    (λ x. IsRd x.0 × (IsAs x.1.0 × (IsSource afi x.1.1.0 × IsGroup afi x.1.1.1))) Ends (RdThen (λ d g. AsThen (FlowFault afi) d g))
unfolding join_at
join_format afi = both_format rd_format (both_format as_format (flow_format afi))

-- ---- the type

data Which (n : ℕ) : Type 0 where
  is1 : n ≡ 1 → Which n
  is2 : n ≡ 2 → Which n
  is3 : n ≡ 3 → Which n
  is4 : n ≡ 4 → Which n
  is5 : n ≡ 5 → Which n
  is6 : n ≡ 6 → Which n
  is7 : n ≡ 7 → Which n
  is_other : IsOther n → Which n

told : (a b : ℕ) (c : Bool) → eqb a b ≡ c → (a ≡ b) ⊎ (a ≢ b)
told a b true e = inl (eqb-true a b e)
told a b false e = inr (eqb-false a b e)

which : (n : ℕ) → Which n
which n =
    elim (told n 1 _ refl) [
      | inl e ↦ is1 e
      | inr a ↦
          elim (told n 2 _ refl) [
            | inl e ↦ is2 e
            | inr b ↦
                elim (told n 3 _ refl) [
                  | inl e ↦ is3 e
                  | inr c ↦
                      elim (told n 4 _ refl) [
                        | inl e ↦ is4 e
                        | inr d ↦
                            elim (told n 5 _ refl) [
                              | inl e ↦ is5 e
                              | inr f ↦
                                  elim (told n 6 _ refl) [
                                    | inl e ↦ is6 e
                                    | inr g ↦
                                        elim (told n 7 _ refl) [
                                          | inl e ↦ is7 e
                                          | inr h ↦
                                              elim (told n 0 _ refl) [
                                                | inl e ↦ is_other (inl e)
                                                | inr i ↦
                                                    is_other (inr (omega (arith, a, b, c, d, f, g, h, i)))
                                              ]
                                        ]
                                  ]
                            ]
                      ]
                ]
          ]
    ]

no_type : (n m : ℕ) → IsOther n → 0 < m → m ≤ 7 → n ≢ m
no_type n m (inl zero) some le e = omega (arith, zero, some, e)
no_type n m (inr past) some le e = omega (arith, past, le, e)

other_is : (afi : Afi) (n : ℕ) (b : Bounded) → IsOther n → fields_at afi n b ≡ other_at n b
unfolding fields_at
other_is afi n b h =
    rw (
      ne_eqb n 1 (no_type n 1 h (omega arith) (omega arith)),
      ne_eqb n 2 (no_type n 2 h (omega arith) (omega arith)),
      ne_eqb n 3 (no_type n 3 h (omega arith) (omega arith)),
      ne_eqb n 4 (no_type n 4 h (omega arith) (omega arith)),
      ne_eqb n 5 (no_type n 5 h (omega arith) (omega arith)),
      ne_eqb n 6 (no_type n 6 h (omega arith) (omega arith)),
      ne_eqb n 7 (no_type n 7 h (omega arith) (omega arith)),
    ) refl

-- ---- what is read stands there

-- the fields of that route stand there, to the end of the length
abbrev Stands : Afi → ℕ → Bounded → Route × Bounded → Type 0
Stands afi n b x = Passes b (fields x.0) x.1 × (IsRoute afi x.0 × ((n ≡ kind x.0) × Ends x.1))

turned_stands : {A : Type 0} {read : Bounded → Read A} {text : A → List ℕ} {Meets : A → Type 0} {Fails : Bounded → RouteFault → Type 0}
    → Format read text Meets Ends Fails → (afi : Afi) (n : ℕ) (mk : A → Route)
    → ((x : A) → Meets x → (text x ≡ fields (mk x)) × (IsRoute afi (mk x) × (n ≡ kind (mk x))))
    → (b : Bounded) (x : Route × Bounded) → IsOctets b.left → turned mk read b ≡ Ok x → Stands afi n b x
turned_stands {read} {text} format afi n mk made b x fits e =
    let t = turned_ok mk read b x e in
    let k = format.taken b t.0 fits t.1 in
    let m = made t.0.0 k.1.0 in
    subst (λ (y : Route × Bounded). Stands afi n b y) t.2 (passes_is b (text t.0.0) (fields (mk t.0.0)) t.0.1 k.0 m.0, (m.1.0, (m.1.1, k.1.1)))

inter_made : (afi : Afi) (k : LeafKey) → IsInter k → (key_fields k ≡ fields (own_route k)) × (IsRoute afi (own_route k) × (2 ≡ kind (own_route k)))
inter_made afi (keys.Inter rd source_as) h = (refl, (h, refl))
inter_made afi (keys.Selective rd source group originator) h = absurd h

selective_made : (afi : Afi) (k : LeafKey) → IsSelective afi k
    → (key_fields k ≡ fields (own_route k)) × (IsRoute afi (own_route k) × (3 ≡ kind (own_route k)))
selective_made afi (keys.Inter rd source_as) h = absurd h
selective_made afi (keys.Selective rd source group originator) h = (refl, (h, refl))

intra_stands : (afi : Afi) (b : Bounded) (x : Route × Bounded) → IsOctets b.left → intra_at b ≡ Ok x → Stands afi 1 b x
unfolding intra_at
intra_stands afi = turned_stands intra_format afi 1 intra_of (λ x h. (refl, (h, refl)))

leaf_stands : (afi : Afi) (b : Bounded) (x : Route × Bounded) → IsOctets b.left → leaf_at afi b ≡ Ok x → Stands afi 4 b x
unfolding leaf_at
leaf_stands afi = turned_stands (leaf_format afi) afi 4 leaf_of (λ x h. (refl, (h, refl)))

active_stands : (afi : Afi) (b : Bounded) (x : Route × Bounded) → IsOctets b.left → active_at afi b ≡ Ok x → Stands afi 5 b x
unfolding active_at
active_stands afi = turned_stands (active_format afi) afi 5 active_of (λ x h. (refl, (h, refl)))

other_stands : (afi : Afi) (n : ℕ) (b : Bounded) (x : Route × Bounded) → b.within < 256 → IsOther n → other_at n b ≡ Ok x → Stands afi n b x
unfolding other_at
other_stands afi n b x few other e =
    let t = turned_ok (λ octets. Other n octets) (octets_within b.within) b x e in
    let k = octets_taken b.within b t.0 t.1 in
    subst (λ (y : Route × Bounded). Stands afi n b y) t.2 (k.0, ((other, omega (arith, k.1, few)), (refl, omega (arith, k.0.within, k.1))))

-- a number in the place of an equal one
moved : (afi : Afi) (n m : ℕ) (b : Bounded) (x : Route × Bounded) → n ≡ m → Stands afi m b x → Stands afi n b x
moved afi n m b x e h = subst (λ k. Stands afi k b x) (sym e) h

stands_by : (afi : Afi) (n : ℕ) (b : Bounded) (x : Route × Bounded) → IsOctets b.left → b.within < 256 → Which n → fields_at afi n b ≡ Ok x
    → Stands afi n b x
unfolding fields_at
stands_by afi n b x fits few (is1 e) h = moved afi n 1 b x e (intra_stands afi b x fits (subst (λ k. fields_at afi k b ≡ Ok x) e h))
stands_by afi n b x fits few (is2 e) h =
    moved afi n 2 b x e (turned_stands inter_format afi 2 own_route (inter_made afi) b x fits (subst (λ k. fields_at afi k b ≡ Ok x) e h))
stands_by afi n b x fits few (is3 e) h =
    moved afi n 3 b x e (turned_stands (selective_format afi) afi 3 own_route (selective_made afi) b x fits
    (subst (λ k. fields_at afi k b ≡ Ok x) e h))
stands_by afi n b x fits few (is4 e) h = moved afi n 4 b x e (leaf_stands afi b x fits (subst (λ k. fields_at afi k b ≡ Ok x) e h))
stands_by afi n b x fits few (is5 e) h = moved afi n 5 b x e (active_stands afi b x fits (subst (λ k. fields_at afi k b ≡ Ok x) e h))
stands_by afi n b x fits few (is6 e) h =
    moved afi n 6 b x e (turned_stands (join_format afi) afi 6 shared_of (λ x h. (refl, (h, refl))) b x fits
    (subst (λ k. fields_at afi k b ≡ Ok x) e h))
stands_by afi n b x fits few (is7 e) h =
    moved afi n 7 b x e (turned_stands (join_format afi) afi 7 source_of (λ x h. (refl, (h, refl))) b x fits
    (subst (λ k. fields_at afi k b ≡ Ok x) e h))
stands_by afi n b x fits few (is_other e) h = other_stands afi n b x few e (sym (other_is afi n b e) ∙ h)

pub fields_stand : (afi : Afi) (n : ℕ) (b : Bounded) (x : Route × Bounded) → IsOctets b.left → b.within < 256 → fields_at afi n b ≡ Ok x
    → Passes b (fields x.0) x.1 × (IsRoute afi x.0 × ((n ≡ kind x.0) × (x.1.within ≡ 0)))
fields_stand afi n b x fits few h = stands_by afi n b x fits few (which n) h

-- ---- what stands there is read

other_again : (n : ℕ) (octets : List ℕ) (b d : Bounded) → Passes b octets d → Ends d → other_at n b ≡ Ok (Other n octets, d)
unfolding other_at
other_again n octets b d p end =
    turned_again (λ xs. Other n xs) (octets_within b.within) b octets d (octets_again b.within b octets d p (omega (arith, p.within, end)))

intra_again : (x : Rd × Addr) (b d : Bounded) → Passes b (x.0.0 ++ addr_octets x.1) d → IsRd x.0 × IsAddr x.1 → Ends d
    → intra_at b ≡ Ok (intra_of x, d)
unfolding intra_at
intra_again x b d p h end = turned_again intra_of (both rd_at originator_at) b x d (intra_format.again b x d p h end)

leaf_again : (afi : Afi) (x : LeafKey × Addr) (b d : Bounded) → Passes b (key x.0 ++ addr_octets x.1) d → IsKey afi x.0 × IsAddr x.1 → Ends d
    → leaf_at afi b ≡ Ok (leaf_of x, d)
unfolding leaf_at
leaf_again afi x b d p h end = turned_again leaf_of (both (key_at afi) originator_at) b x d ((leaf_format afi).again b x d p h end)

active_again : (afi : Afi) (x : Rd × (Addr × Addr)) (b d : Bounded) → Passes b (x.0.0 ++ (sized x.1.0 ++ sized x.1.1)) d
    → IsRd x.0 × (IsSource afi x.1.0 × IsGroup afi x.1.1) → Ends d → active_at afi b ≡ Ok (active_of x, d)
unfolding active_at
active_again afi x b d p h end = turned_again active_of (both rd_at (flow_at afi)) b x d ((active_format afi).again b x d p h end)

pub fields_are_read : (afi : Afi) (r : Route) (b d : Bounded) → Passes b (fields r) d → IsRoute afi r → Ends d → fields_at afi (kind r) b ≡ Ok (r, d)
unfolding fields_at
fields_are_read afi (Intra rd originator) b d p h end = intra_again (rd, originator) b d p h end
fields_are_read afi (Inter rd source_as) b d p h end =
    turned_again own_route inter_at b (keys.Inter rd source_as) d (inter_format.again b (keys.Inter rd source_as) d p h end)
fields_are_read afi (Selective rd source group originator) b d p h end =
    turned_again own_route (selective_at afi) b (keys.Selective rd source group originator) d
    ((selective_format afi).again b (keys.Selective rd source group originator) d p h end)
fields_are_read afi (Leaf k originator) b d p h end = leaf_again afi (k, originator) b d p h end
fields_are_read afi (Active rd source group) b d p h end = active_again afi (rd, (source, group)) b d p h end
fields_are_read afi (SharedJoin rd source_as source group) b d p h end =
    turned_again shared_of (join_at afi) b (rd, (source_as, (source, group))) d
    ((join_format afi).again b (rd, (source_as, (source, group))) d p h end)
fields_are_read afi (SourceJoin rd source_as source group) b d p h end =
    turned_again source_of (join_at afi) b (rd, (source_as, (source, group))) d
    ((join_format afi).again b (rd, (source_as, (source, group))) d p h end)
fields_are_read afi (Other n octets) b d p h end = other_is afi n b h.0 ∙ other_again n octets b d p end

-- ---- a fault that is answered is the first one

intra_fails : (b : Bounded) (f : RouteFault) → IsOctets b.left → intra_at b ≡ Err f → RdThen OriginatorFault b f
unfolding intra_at
intra_fails b f fits e = intra_format.fails b f fits (turned_err intra_of (both rd_at originator_at) b f e)

leaf_fails : (afi : Afi) (b : Bounded) (f : RouteFault) → IsOctets b.left → leaf_at afi b ≡ Err f
    → Then key (IsKey afi) (KeyFault afi) OriginatorFault b f
unfolding leaf_at
leaf_fails afi b f fits e = (leaf_format afi).fails b f fits (turned_err leaf_of (both (key_at afi) originator_at) b f e)

active_fails : (afi : Afi) (b : Bounded) (f : RouteFault) → IsOctets b.left → active_at afi b ≡ Err f → RdThen (FlowFault afi) b f
unfolding active_at
active_fails afi b f fits e = (active_format afi).fails b f fits (turned_err active_of (both rd_at (flow_at afi)) b f e)

other_fails : (n : ℕ) (b : Bounded) (f : RouteFault) → other_at n b ≡ Err f → (length b.left < b.within) × Is f b.place Short
unfolding other_at
other_fails n b f e = rest_fails b f (turned_err (λ xs. Other n xs) (octets_within b.within) b f e)

fails_by : (afi : Afi) (n : ℕ) (b : Bounded) (f : RouteFault) → IsOctets b.left → Which n → fields_at afi n b ≡ Err f → FieldsFault afi n b f
unfolding fields_at
fails_by afi n b f fits (is1 e) h = faults.intra e (intra_fails b f fits (subst (λ k. fields_at afi k b ≡ Err f) e h))
fails_by afi n b f fits (is2 e) h =
    faults.inter_or_selective (faults.inter e (inter_format.fails b f fits
    (turned_err own_route inter_at b f (subst (λ k. fields_at afi k b ≡ Err f) e h))))
fails_by afi n b f fits (is3 e) h =
    faults.inter_or_selective (faults.selective e
    ((selective_format afi).fails b f fits (turned_err own_route (selective_at afi) b f (subst (λ k. fields_at afi k b ≡ Err f) e h))))
fails_by afi n b f fits (is4 e) h = faults.leaf e (leaf_fails afi b f fits (subst (λ k. fields_at afi k b ≡ Err f) e h))
fails_by afi n b f fits (is5 e) h = faults.active e (active_fails afi b f fits (subst (λ k. fields_at afi k b ≡ Err f) e h))
fails_by afi n b f fits (is6 e) h =
    faults.join (inl e) ((join_format afi).fails b f fits (turned_err shared_of (join_at afi) b f (subst (λ k. fields_at afi k b ≡ Err f) e h)))
fails_by afi n b f fits (is7 e) h =
    faults.join (inr e) ((join_format afi).fails b f fits (turned_err source_of (join_at afi) b f (subst (λ k. fields_at afi k b ≡ Err f) e h)))
fails_by afi n b f fits (is_other e) h = let l = other_fails n b f (sym (other_is afi n b e) ∙ h) in faults.other e l.0 l.1

pub fields_fail : (afi : Afi) (n : ℕ) (b : Bounded) (f : RouteFault) → IsOctets b.left → fields_at afi n b ≡ Err f → FieldsFault afi n b f
fields_fail afi n b f fits h = fails_by afi n b f fits (which n) h

-- ---- the first fault is answered

intra_failing : (b : Bounded) (f : RouteFault) → RdThen OriginatorFault b f → intra_at b ≡ Err f
unfolding intra_at
intra_failing b f h = turned_failing intra_of (both rd_at originator_at) b f (intra_format.failing b f h)

leaf_failing : (afi : Afi) (b : Bounded) (f : RouteFault) → Then key (IsKey afi) (KeyFault afi) OriginatorFault b f → leaf_at afi b ≡ Err f
unfolding leaf_at
leaf_failing afi b f h = turned_failing leaf_of (both (key_at afi) originator_at) b f ((leaf_format afi).failing b f h)

active_failing : (afi : Afi) (b : Bounded) (f : RouteFault) → RdThen (FlowFault afi) b f → active_at afi b ≡ Err f
unfolding active_at
active_failing afi b f h = turned_failing active_of (both rd_at (flow_at afi)) b f ((active_format afi).failing b f h)

other_failing : (n : ℕ) (b : Bounded) (f : RouteFault) → length b.left < b.within → Is f b.place Short → other_at n b ≡ Err f
unfolding other_at
other_failing n b f lt is = turned_failing (λ xs. Other n xs) (octets_within b.within) b f (fail_rest b f lt is)

pub fields_failing : (afi : Afi) (n : ℕ) (b : Bounded) (f : RouteFault) → FieldsFault afi n b f → fields_at afi n b ≡ Err f
unfolding fields_at
fields_failing afi n b f (faults.intra e h) = subst (λ k. fields_at afi k b ≡ Err f) (sym e) (intra_failing b f h)
fields_failing afi n b f (faults.inter_or_selective (faults.inter e h)) =
    subst (λ k. fields_at afi k b ≡ Err f) (sym e) (turned_failing own_route inter_at b f (inter_format.failing b f h))
fields_failing afi n b f (faults.inter_or_selective (faults.selective e h)) =
    subst (λ k. fields_at afi k b ≡ Err f) (sym e) (turned_failing own_route (selective_at afi) b f ((selective_format afi).failing b f h))
fields_failing afi n b f (faults.leaf e h) = subst (λ k. fields_at afi k b ≡ Err f) (sym e) (leaf_failing afi b f h)
fields_failing afi n b f (faults.active e h) = subst (λ k. fields_at afi k b ≡ Err f) (sym e) (active_failing afi b f h)
fields_failing afi n b f (faults.join (inl e) h) =
    subst (λ k. fields_at afi k b ≡ Err f) (sym e) (turned_failing shared_of (join_at afi) b f ((join_format afi).failing b f h))
fields_failing afi n b f (faults.join (inr e) h) =
    subst (λ k. fields_at afi k b ≡ Err f) (sym e) (turned_failing source_of (join_at afi) b f ((join_format afi).failing b f h))
fields_failing afi n b f (faults.other e lt is) = other_is afi n b e ∙ other_failing n b f lt is

-- ---- where a fault stands

pub fault_near : (afi : Afi) (n : ℕ) (b : Bounded) (f : RouteFault) → FieldsFault afi n b f → f.place ≤ b.place + length b.left
fault_near afi n b f (faults.intra e h) = intra_format.near b f h
fault_near afi n b f (faults.inter_or_selective h) = fields_near afi n b f h
fault_near afi n b f (faults.leaf e h) = (leaf_format afi).near b f h
fault_near afi n b f (faults.active e h) = (active_format afi).near b f h
fault_near afi n b f (faults.join e h) = (join_format afi).near b f h
fault_near afi n b f (faults.other e lt is) = is_near f b.place _ (ap (λ (g : RouteFault). g.place) is) (omega arith)
