-- Interfaces of a VPN: those that a test finds, and lists and tests of them.
use Rattle.std.proofs.Common.{◌≡◌, ℕ, ◌+◌, ◌||◌, Bool, true, false, cond, zero, suc, List, [], ◌∷◌, slice_get, Some, refl, sym, ap, ◌∙◌, arith}
use Rattle.std.specs.List.{list_any}
use Rattle.std.proofs.lemmas.Bool.{or_left, or_right}
use Rattle.mv_base.specs.declared.ids.IfaceId.{IfaceId}
use Rattle.scenario_defs.specs.Vpn.{ifaces_where}
use Rattle.scenario_defs.specs.declared.scenario.Iface.{Iface}

-- one that passes both tests is found
pub any_where : (p : IfaceId → Bool) (test : IfaceId → Iface → Bool) (number : ℕ) (all : List Iface) (offset : ℕ) (own : Iface) (id : IfaceId) →
    slice_get all offset ≡ Some own → id.0 ≡ number + offset → test id own ≡ true → p id ≡ true → list_any p (ifaces_where test number all) ≡ true
any_where p test number [] offset own id at sum t h = absurd (let bad : slice_get [] offset ≡ Some own = at in cc)
any_where p test number (iface ∷ more) zero own id at sum t h = found (test (record { 0 = number }) iface) passes
  where
    same_id : id ≡ record { 0 = number }
    same_id = λ i. record { 0 = (let plain : id.0 ≡ number = omega (arith, sum) in plain) i }

    same_own : iface ≡ own
    same_own = cc

    passes : test (record { 0 = number }) iface ≡ true
    passes = (λ i. test (sym same_id i) (same_own i)) ∙ t

    found : (b : Bool) → b ≡ true → list_any p (cond b (record { 0 = number } ∷ ifaces_where test (number + 1) more)
        (ifaces_where test (number + 1) more)) ≡ true
    found true e = or_left (p (record { 0 = number })) (list_any p (ifaces_where test (number + 1) more)) (ap p (sym same_id) ∙ h)
    found false e = absurd (let bad : false ≡ true = e in cc)
any_where p test number (iface ∷ more) (suc offset) own id at sum t h =
    thereafter (any_where p test (number + 1) more offset own id at (omega (arith, sum)) t h) (test (record { 0 = number }) iface)
  where
    thereafter : list_any p (ifaces_where test (number + 1) more) ≡ true → (b : Bool) →
        list_any p (cond b (record { 0 = number } ∷ ifaces_where test (number + 1) more) (ifaces_where test (number + 1) more)) ≡ true
    thereafter rest true = or_right (p (record { 0 = number })) (list_any p (ifaces_where test (number + 1) more)) rest
    thereafter rest false = rest

-- two tests that agree at each that is found pass one or both none
pub any_alike : (p q : IfaceId → Bool) (test : IfaceId → Iface → Bool) (number : ℕ) (all : List Iface) →
    ((offset : ℕ) (own : Iface) (id : IfaceId) → slice_get all offset ≡ Some own → id.0 ≡ number + offset → test id own ≡ true → p id ≡ q id) →
    list_any p (ifaces_where test number all) ≡ list_any q (ifaces_where test number all)
any_alike p q test number [] each = refl
any_alike p q test number (iface ∷ more) each =
    by (any_alike p q test (number + 1) more (λ offset own id at sum. each (suc offset) own id at (omega (arith, sum))))
    (test (record { 0 = number }) iface) refl
  where
    by : list_any p (ifaces_where test (number + 1) more) ≡ list_any q (ifaces_where test (number + 1) more) → (b : Bool)
        → test (record { 0 = number }) iface ≡ b →
        list_any p (cond b (record { 0 = number } ∷ ifaces_where test (number + 1) more) (ifaces_where test (number + 1) more))
        ≡ list_any q (cond b (record { 0 = number } ∷ ifaces_where test (number + 1) more) (ifaces_where test (number + 1) more))
    by rest true e = (λ i. each zero iface (record { 0 = number }) refl (omega arith) e i || rest i)
    by rest false e = rest

-- two tests that agree at each interface find the same
pub where_alike : (f g : IfaceId → Iface → Bool) (number : ℕ) (all : List Iface) →
    ((offset : ℕ) (own : Iface) (id : IfaceId) → slice_get all offset ≡ Some own → id.0 ≡ number + offset → f id own ≡ g id own) →
    ifaces_where f number all ≡ ifaces_where g number all
where_alike f g number [] each = refl
where_alike f g number (iface ∷ more) each =
    let rest : ifaces_where f (number + 1) more ≡ ifaces_where g (number + 1) more =
    where_alike f g (number + 1) more (λ offset own id at sum. each (suc offset) own id at (omega (arith, sum))) in
    let here : f (record { 0 = number }) iface ≡ g (record { 0 = number }) iface = each zero iface (record { 0 = number }) refl (omega arith) in
    (λ i. cond (here i) (record { 0 = number } ∷ rest i) (rest i))
