-- What the rules say of the thing at a place.
use Rattle.std.proofs.Common.{◌≡◌, ℕ, ◌<◌, List, subst}
use Rattle.std.specs.Prelude.{Some, slice_get, slice_index_or, All, AllPairs}
use Rattle.std.proofs.lemmas.Option.{slice_get_within, get_or_from_slice_get}
use Rattle.scenario_defs.specs.declared.scenario.Vrf.{Vrf}
use Rattle.scenario_defs.specs.declared.scenario.Iface.{Iface}
use Rattle.scenario_defs.specs.declared.scenario.Scenario.{Scenario}
use Rattle.scenario_defs.specs.Rules.{Rules, IsVrf, AreApart, IsIface, AreOfVpns}

-- What holds of each element holds of the one at a place.
pub all_at : {X : Type 0} (P : X → Type 0) (xs : List X) → All P xs → (i : ℕ) (x : X) → slice_get xs i ≡ Some x → P x
all_at P xs h i x e = subst P (get_or_from_slice_get xs i x x e) (h i x (slice_get_within xs i x e))

-- What holds of each two elements holds of those at two places.
pub pair_at : {X : Type 0} (R : X → X → Type 0) (xs : List X) → AllPairs R xs → (i j : ℕ) (x y : X) → i < j → slice_get xs i ≡ Some x
    → slice_get xs j ≡ Some y → R x y
pair_at R xs h i j x y lt e d =
    let both = h i j x lt (slice_get_within xs j y d) in
    subst (R x) (get_or_from_slice_get xs j y x d) (subst (λ z. R z (slice_index_or xs j x)) (get_or_from_slice_get xs i x x e) both)

pub vrf_rules_at : (scenario : Scenario) → Rules scenario → (v : ℕ) (vrf : Vrf) → slice_get scenario.vrfs v ≡ Some vrf → IsVrf scenario vrf
vrf_rules_at scenario rules v vrf e = all_at (IsVrf scenario) scenario.vrfs rules.vrfs.each v vrf e

pub apart_at : (scenario : Scenario) → Rules scenario → (v w : ℕ) (vrf other : Vrf) → v < w → slice_get scenario.vrfs v ≡ Some vrf
    → slice_get scenario.vrfs w ≡ Some other → AreApart vrf other
apart_at scenario rules v w vrf other lt e d = pair_at AreApart scenario.vrfs rules.vrfs.apart v w vrf other lt e d

pub iface_rules_at : (scenario : Scenario) → Rules scenario → (i : ℕ) (iface : Iface) → slice_get scenario.ifaces i ≡ Some iface
    → IsIface scenario iface
iface_rules_at scenario rules i iface e = all_at (IsIface scenario) scenario.ifaces rules.ifaces.each i iface e

pub vpns_at : (scenario : Scenario) → Rules scenario → (i j : ℕ) (iface other : Iface) → i < j → slice_get scenario.ifaces i ≡ Some iface
    → slice_get scenario.ifaces j ≡ Some other → AreOfVpns scenario iface other
vpns_at scenario rules i j iface other lt e d = pair_at (AreOfVpns scenario) scenario.ifaces rules.ifaces.vpns i j iface other lt e d
