-- Sets of targets that are the same or share a member.
use Rattle.std.proofs.Common.{◌≡◌, ◌<◌, Bool, true, inl, inr, List, [], ◌∷◌, ◌++◌, length, refl, sym, ap, subst, ◌∙◌, arith}
use Rattle.std.specs.List.{list_all}
use Rattle.std.specs.Cmp.Lexicographic.{bytes_decides}
use Rattle.std.proofs.lemmas.Bool.{and_parts, and_from}
use Rattle.mv_base.specs.route_targets.Targets.{same_target, has, shares, same}
use Rattle.mv_base.specs.declared.route_targets.communities.ExtComm.{ExtComm}
use Rattle.mv_base.specs.declared.route_targets.communities.Target.{Target}
use Rattle.scenario_defs.specs.declared.scenario.Vrf.{Vrf}
use Rattle.selective_defs.specs.Selective.{Among}
use Rattle.edge_defs.specs.Imported.{is_admitted}
use Rattle.edge_defs.specs.Originated.{target_comms}
use Rattle.edge_words.proofs.calm_laws.Lists.{any_from, any_among, among_map, map_among, among_front}

one_target : (a b : Target) → a.0.0 ≡ b.0.0 → a ≡ b
one_target a b e = λ i. record { 0 = record { 0 = e i } }

pub has_among : (targets : List Target) (target : Target) → has targets target ≡ true → Among target targets
has_among targets target h =
    let by = any_among (same_target target) targets h in
    subst (λ (t : Target). Among t targets) (sym (one_target target by.0 ((bytes_decides target.0.0 by.0.0.0).0 by.2))) by.1

pub among_has : (targets : List Target) (target : Target) → Among target targets → has targets target ≡ true
among_has targets target a = any_from (same_target target) target targets a ((bytes_decides target.0.0 target.0.0).1 refl)

all_among : {X : Type 0} (p : X → Bool) (x : X) (xs : List X) → list_all p xs ≡ true → Among x xs → p x ≡ true
all_among p x [] h a = absurd a
all_among p x (y ∷ ys) h (inl e) = ap p e ∙ (and_parts (p y) (list_all p ys) h).0
all_among p x (y ∷ ys) h (inr a) = all_among p x ys (and_parts (p y) (list_all p ys) h).1 a

all_from : {X : Type 0} (p : X → Bool) (xs : List X) → ((x : X) → Among x xs → p x ≡ true) → list_all p xs ≡ true
all_from p [] h = refl
all_from p (y ∷ ys) h = and_from (p y) (list_all p ys) (h y (inl refl)) (all_from p ys (λ x a. h x (inr a)))

-- ---- the same members

abbrev Within : List Target → List Target → Type 0
Within a b = (target : Target) → Among target a → Among target b

within : (a b : List Target) → same a b ≡ true → Within a b × Within b a
within a b h =
    let both = and_parts (list_all (has b) a) (list_all (has a) b) h in
    (λ t i. has_among b t (all_among (has b) t a both.0 i), λ t i. has_among a t (all_among (has a) t b both.1 i))

same_by : (a b : List Target) → Within a b → Within b a → same a b ≡ true
same_by a b h k =
    and_from (list_all (has b) a) (list_all (has a) b) (all_from (has b) a (λ t i. among_has b t (h t i)))
    (all_from (has a) b (λ t i. among_has a t (k t i)))

pub same_itself : (a : List Target) → same a a ≡ true
same_itself a = same_by a a (λ t i. i) (λ t i. i)

pub same_back : (a b : List Target) → same a b ≡ true → same b a ≡ true
same_back a b h = let w = within a b h in same_by b a w.1 w.0

pub same_through : (a b c : List Target) → same a b ≡ true → same b c ≡ true → same a c ≡ true
same_through a b c h k = let v = within a b h in let w = within b c k in same_by a c (λ t i. w.0 t (v.0 t i)) (λ t i. v.1 t (w.1 t i))

pub shares_by : (a b : List Target) (target : Target) → Among target a → Among target b → shares a b ≡ true
shares_by a b target i j = any_from (has b) target a i (among_has b target j)

pub shares_back : (a b : List Target) → shares a b ≡ true → shares b a ≡ true
shares_back a b h = let by = any_among (has b) a h in shares_by b a by.0 (has_among b by.0 by.2) by.1

-- ---- what a VRF admits

abbrev of_comm : ExtComm → Target
of_comm comm = record { 0 = comm }

pub admits : (vrf : Vrf) (comms : List ExtComm) (target : Target) → Among target.0 comms → Among target vrf.targets → is_admitted vrf comms ≡ true
admits vrf comms target i j = any_from (λ comm. has vrf.targets (of_comm comm)) target.0 comms i (among_has vrf.targets target j)

pub admitted_target : (vrf : Vrf) (comms : List ExtComm) → is_admitted vrf comms ≡ true
    → (target : Target) × Among target.0 comms × Among target vrf.targets
admitted_target vrf comms h =
    let by = any_among (λ comm. has vrf.targets (of_comm comm)) comms h in
    (of_comm by.0, by.1, has_among vrf.targets (of_comm by.0) by.2)

pub among_comms : (vrf : Vrf) (target : Target) → Among target.0 (target_comms vrf) → Among target vrf.targets
among_comms vrf target a =
    let by = map_among (λ (t : Target). t.0) target.0 vrf.targets a in
    subst (λ (t : Target). Among t vrf.targets) (sym (one_target target by.0 (ap (λ (c : ExtComm). c.0) by.2))) by.1

pub comms_among : (vrf : Vrf) (target : Target) → Among target vrf.targets → Among target.0 (target_comms vrf)
comms_among vrf target a = among_map (λ (t : Target). t.0) target vrf.targets a

some_target : (targets : List Target) → 0 < length targets → (target : Target) × Among target targets
some_target [] h = absurd (omega (arith, h))
some_target (target ∷ more) h = (target, inl refl)

-- a VRF admits what another one of its VPN originates
pub vpn_admits : (vrf other : Vrf) (more : List ExtComm) → 0 < length vrf.targets → same vrf.targets other.targets ≡ true
    → is_admitted other (target_comms vrf ++ more) ≡ true
vpn_admits vrf other more some h =
    let t = some_target vrf.targets some in
    admits other (target_comms vrf ++ more) t.0 (among_front t.0.0 (target_comms vrf) more (comms_among vrf t.0 t.1))
    ((within vrf.targets other.targets h).0 t.0 t.1)
