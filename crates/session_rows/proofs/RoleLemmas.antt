-- Which VRFs and peers an edge has.
use Rattle.std.proofs.Common.{◌≡◌, ◌==◌, ◌||◌, Bool, true, false, List, [], ◌∷◌, map, inl, inr, refl, sym, ap, ◌∙◌}
use Rattle.std.specs.List.{list_any}
use Rattle.std.proofs.lemmas.Bool.{eqb-true}
use Rattle.mv_base.specs.Lists.{Among}
use Rattle.mv_base.specs.declared.ids.NodeId.{NodeId}
use Rattle.edge_defs.specs.Place as places
use Rattle.edge_routes.specs.edge_home.Home.{AreOwn, Home, as_own}
use Rattle.edge_routes.specs.declared.edge_home.own_vrf.OwnVrf.{OwnVrf}
use Rattle.edge_core.proofs.control_laws.Parts.{no_core}
use Rattle.edge_control.specs.Places.{vrfs_of}

any_mapped : (test : places.OwnVrf → Bool) (xs : List OwnVrf) → list_any test (map as_own xs) ≡ list_any (λ own. test (as_own own)) xs
any_mapped test [] = refl
any_mapped test (x ∷ xs) = ap (λ (b : Bool). test (as_own x) || b) (any_mapped test xs)

-- one of the VRFs of the edge passes the test
pub any_own : (home : Home) (vrfs : List OwnVrf) (test : places.OwnVrf → Bool) → AreOwn home vrfs
    → list_any (λ own. test (as_own own)) vrfs ≡ list_any test (vrfs_of home)
any_own home vrfs test own = sym (any_mapped test vrfs) ∙ ap (list_any test) (own.vrfs no_core)

-- the node is one of those
pub among_any : (peer : NodeId) (peers : List NodeId) → list_any (λ own. own.0 == peer.0) peers ≡ true → Among peer peers
among_any peer [] e = absurd (cc)
among_any peer (own ∷ more) e = by (own.0 == peer.0) refl (among_any peer more)
  where
    by : (is : Bool) → (own.0 == peer.0) ≡ is → (list_any (λ own. own.0 == peer.0) more ≡ true → Among peer more) → Among peer (own ∷ more)
    by true is rest = (let number = sym (eqb-true own.0 peer.0 is) in inl (λ i. record { 0 = number i }))
    by false is rest = inr (rest (sym (ap (λ (b : Bool). b || list_any (λ own. own.0 == peer.0) more) is) ∙ e))
