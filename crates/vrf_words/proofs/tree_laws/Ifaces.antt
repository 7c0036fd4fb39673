-- The interfaces of a VRF, with their sites.
use Rattle.std.proofs.Common.{◌≡◌, ℕ, zero, suc, ◌+◌, Bool, true, false, cond, inl, inr, List, [], ◌∷◌, map, filter, slice_get, Some, refl, ap, ◌∙◌, arith}
use Rattle.mv_base.specs.Lists.{Among}
use Rattle.mv_base.specs.declared.ids.IfaceId.{IfaceId}
use Rattle.mv_base.specs.declared.ids.VrfId.{VrfId}
use Rattle.scenario_defs.specs.Vpn.{is_of_vrf, ifaces_where}
use Rattle.scenario_defs.specs.declared.scenario.Iface.{Iface}
use Rattle.vrf_words.specs.declared.tree_defs.flow.SiteIface.{SiteIface}
use Rattle.vrf_words.specs.tree_laws.TreeOf.{site_ifaces, iface_id}

-- those that pass a test of what they are changed to
pub mapped_filter : {X Y : Type 0} (f : X → Y) (p : X → Bool) (q : Y → Bool) (xs : List X) → ((x : X) → Among x xs → p x ≡ q (f x))
    → map f (filter p xs) ≡ filter q (map f xs)
mapped_filter f p q [] h = refl
mapped_filter f p q (x ∷ xs) h = by (p x) (q (f x)) (h x (inl refl)) (mapped_filter f p q xs (λ y a. h y (inr a)))
  where
    by : (b c : Bool) → b ≡ c → map f (filter p xs) ≡ filter q (map f xs)
        → map f (cond b (x ∷ filter p xs) (filter p xs)) ≡ cond c (f x ∷ filter q (map f xs)) (filter q (map f xs))
    by true true e rest = ap (λ ys. f x ∷ ys) rest
    by false false e rest = rest
    by true false e rest = absurd cc
    by false true e rest = absurd cc

abbrev vrf_test : VrfId → IfaceId → Iface → Bool
vrf_test vrf number iface = is_of_vrf vrf iface

pub ids_of : (vrf : VrfId) (number : ℕ) (ifaces : List Iface)
    → map iface_id (site_ifaces vrf number ifaces) ≡ ifaces_where (vrf_test vrf) number ifaces
ids_of vrf number [] = refl
ids_of vrf number (iface ∷ more) = by (is_of_vrf vrf iface) (ids_of vrf (number + 1) more)
  where
    by : (b : Bool) → map iface_id (site_ifaces vrf (number + 1) more) ≡ ifaces_where (vrf_test vrf) (number + 1) more
        → map iface_id (cond b (record { iface = record { 0 = number }; site = iface.site } ∷ site_ifaces vrf (number + 1) more)
        (site_ifaces vrf (number + 1) more))
        ≡ cond b (record { 0 = number } ∷ ifaces_where (vrf_test vrf) (number + 1) more) (ifaces_where (vrf_test vrf) (number + 1) more)
    by true rest = ap (λ (ids : List IfaceId). record { 0 = number } ∷ ids) rest
    by false rest = rest

-- an interface of the list is one of the VRF, and of its site
pub record SiteAt (vrf : VrfId) (number : ℕ) (ifaces : List Iface) (own : SiteIface) : Type 0 where
  pub place : ℕ
  pub found : Iface
  pub at : slice_get ifaces place ≡ Some found
  pub is : own.iface.0 ≡ number + place
  pub of_vrf : is_of_vrf vrf found ≡ true
  pub of_site : own.site ≡ found.site

site_placed : (vrf : VrfId) (number : ℕ) (ifaces : List Iface) (own : SiteIface) → Among own (site_ifaces vrf number ifaces)
    → SiteAt vrf number ifaces own
site_placed vrf number [] own a = absurd a
site_placed vrf number (iface ∷ more) own a = by (is_of_vrf vrf iface) refl a (site_placed vrf (number + 1) more own)
  where
    further : SiteAt vrf (number + 1) more own → SiteAt vrf number (iface ∷ more) own
    further s = let same = s.is in
        record { place = suc s.place; found = s.found; at = s.at; is = omega (arith, same); of_vrf = s.of_vrf; of_site = s.of_site }

    by : (b : Bool) → is_of_vrf vrf iface ≡ b
        → Among own (cond b (record { iface = record { 0 = number }; site = iface.site } ∷ site_ifaces vrf (number + 1) more)
        (site_ifaces vrf (number + 1) more))
        → (Among own (site_ifaces vrf (number + 1) more) → SiteAt vrf (number + 1) more own) → SiteAt vrf number (iface ∷ more) own
    by true h (inl e) rest = record {
      place = zero;
      found = iface;
      at = refl;
      is = (let same : own.iface.0 ≡ number = ap (λ (x : SiteIface). x.iface.0) e in omega (arith, same));
      of_vrf = h;
      of_site = ap (λ (x : SiteIface). x.site) e;
    }
    by true h (inr b) rest = further (rest b)
    by false h b rest = further (rest b)

pub site_at : (vrf : VrfId) (ifaces : List Iface) (own : SiteIface) → Among own (site_ifaces vrf 0 ifaces)
    → (found : Iface) × (slice_get ifaces own.iface.0 ≡ Some found) × (is_of_vrf vrf found ≡ true) × (own.site ≡ found.site)
site_at vrf ifaces own a =
    let s = site_placed vrf 0 ifaces own a in
    let placed_at = s.is in
    let is : own.iface.0 ≡ s.place = omega (arith, placed_at) in
    (s.found, ap (slice_get ifaces) is ∙ s.at, s.of_vrf, s.of_site)
