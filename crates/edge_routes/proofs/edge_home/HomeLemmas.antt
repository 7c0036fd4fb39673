-- The VRFs of an edge are those of the definitions.
use Rattle.std.proofs.Common.{◌≡◌, ◌∙◌, refl, sym, subst, ℕ, ◌+◌, ◌==◌, true, false, List, [], ◌∷◌, map, ap, cond}
use Rattle.std.specs.List.{AllByRecursion}
use Rattle.mv_base.specs.declared.ids.NodeId.{NodeId}
use Rattle.mv_base.specs.declared.addr.Addr.TheVariants.{V4}
use Rattle.scenario_defs.specs.declared.scenario.Scenario.{Scenario}
use Rattle.scenario_defs.specs.declared.scenario.Vrf.{Vrf}
use Rattle.edge_defs.specs.Place as places
use Rattle.edge_defs.specs.Place.{addr_of, vrfs_from}
use Rattle.edge_routes.specs.declared.edge_home.own_vrf.OwnVrf.{OwnVrf}
use Rattle.edge_routes.specs.edge_home.Home.{as_own, own_from, home_of, IsOf, AreOwn}

pub own_are : (addr : List ℕ) (system : ℕ) (me : NodeId) (number : ℕ) (vrfs : List Vrf)
    → map as_own (own_from addr system me number vrfs) ≡ vrfs_from me number vrfs
own_are addr system me number [] = refl
own_are addr system me number (vrf ∷ more) =
    let own : OwnVrf = record { id = record { 0 = number }; local = record { vrf = vrf; addr = addr; system = system } } in
    let rest : List OwnVrf = own_from addr system me (number + 1) more in
    let thereafter : map as_own rest ≡ vrfs_from me (number + 1) more = own_are addr system me (number + 1) more in
    elim (vrf.edge.0 == me.0)
    as (λ b. map as_own (cond b (own ∷ rest) rest) ≡ cond b (as_own own ∷ vrfs_from me (number + 1) more) (vrfs_from me (number + 1) more))
    [ true ↦ ap (λ (o : List places.OwnVrf). as_own own ∷ o) thereafter | false ↦ thereafter ]

pub own_say : (addr : List ℕ) (system : ℕ) (me : NodeId) (number : ℕ) (vrfs : List Vrf)
    → AllByRecursion (IsOf addr system) (own_from addr system me number vrfs)
own_say addr system me number [] = tt
own_say addr system me number (vrf ∷ more) =
    let own : OwnVrf = record { id = record { 0 = number }; local = record { vrf = vrf; addr = addr; system = system } } in
    let rest : List OwnVrf = own_from addr system me (number + 1) more in
    let thereafter : AllByRecursion (IsOf addr system) rest = own_say addr system me (number + 1) more in
    elim (vrf.edge.0 == me.0) as (λ b. AllByRecursion (IsOf addr system) (cond b (own ∷ rest) rest)) [
      | true ↦ (record { addr = refl; system = refl }, thereafter)
      | false ↦ thereafter
    ]

pub are_own : (scenario : Scenario) (me : NodeId) (addr : List ℕ) (own : List OwnVrf)
    → addr_of scenario me ≡ V4 addr → own ≡ own_from addr scenario.system me 0 scenario.vrfs → AreOwn (home_of scenario me) own
are_own scenario me addr own is made = record {
  addr = addr;
  own_addr = is;
  vrfs = λ core. ap (map as_own) made ∙ own_are addr scenario.system me 0 scenario.vrfs;
  say = subst (AllByRecursion (IsOf addr scenario.system)) (sym made) (own_say addr scenario.system me 0 scenario.vrfs);
}
