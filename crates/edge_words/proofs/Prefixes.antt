-- The prefixes of routes of sites, and prefixes that are told by their first bits.
use Rattle.std.proofs.Common.{◌≡◌, inl, inr, ℕ, zero, suc, ◌+◌, ◌-◌, ◌*◌, ◌/◌, ◌%◌, ◌^◌, ◌++◌, Bool, true, false, cond, List, [], ◌∷◌, length, take, replicate, slice_get, Some, refl, sym, ap, subst, ◌∙◌, arith}
use Rattle.std.specs.Int.{w32, w128, from_be_bytes, to_be_bytes}
use Rattle.std.proofs.lemmas.Bool.{true≢false, eqb-true}
use Rattle.std.proofs.lemmas.List.{append-nil, take_all}
use Rattle.std.proofs.lemmas.Nat.{be_bytes_4, div-add-mod'}
use Rattle.std.proofs.lemmas.Option.{none-some, same_Some}
use Rattle.mv_base.specs.Address.{addr_octets, IsAddr}
use Rattle.mv_base.specs.Octets.{IsOctets}
use Rattle.mv_base.specs.Prefix.{IsPrefixOf, same_front}
use Rattle.mv_base.specs.declared.addr.Addr.{Addr}
use Rattle.mv_base.specs.declared.addr.Addr.TheVariants.{V4, V6}
use Rattle.mv_base.specs.declared.ids.SiteId.{SiteId}
use Rattle.mv_base.specs.declared.prefix.Prefix.{Prefix}
use Rattle.bgp_messages.specs.bgp_attributes.Spelling.{address, cleared, padded}
use Rattle.bgp_messages.proofs.bgp_attributes.PrefixLemmas.{address_again}
use Rattle.scenario_defs.specs.Home.{routes_of_site, routes_from}
use Rattle.scenario_defs.specs.declared.scenario.Route.{Route}
use Rattle.scenario_defs.specs.declared.scenario.Site.{Site}
use Rattle.selective_defs.specs.Selective.{Among}
use Rattle.edge_words.proofs.calm_laws.Lists.{among_either, map_among}

-- ---- places in lists

pub among_at : {X : Type 0} (xs : List X) (k : ℕ) (x : X) → slice_get xs k ≡ Some x → Among x xs
among_at [] k x e = absurd (none-some x e)
among_at (y ∷ ys) zero x e = inl (sym (same_Some y x e))
among_at (y ∷ ys) (suc k) x e = inr (among_at ys k x e)

pub at_among : {X : Type 0} (x : X) (xs : List X) → Among x xs → (k : ℕ) × (slice_get xs k ≡ Some x)
at_among x [] a = absurd a
at_among x (y ∷ ys) (inl e) = (0, ap (λ z. Some z) (sym e))
at_among x (y ∷ ys) (inr a) = (let r = at_among x ys a in (suc r.0, r.1))

-- ---- routes of sites

-- a route is of a site that passes, and has one of its prefixes
pub record RouteOf (passes : SiteId → Bool) (number : ℕ) (sites : List Site) (route : Route) : Type 0 where
  pub place : ℕ
  pub site : Site
  pub at : slice_get sites place ≡ Some site
  pub id : route.site.0 ≡ number + place
  pub passed : passes route.site ≡ true
  pub prefix : Among route.prefix site.prefixes

pub route_of : (passes : SiteId → Bool) (number : ℕ) (sites : List Site) (route : Route) → Among route (routes_from passes number sites)
    → RouteOf passes number sites route
route_of passes number [] route a = absurd a
route_of passes number (site ∷ more) route a =
    let here : SiteId = record { 0 = number } in
    elim (among_either route (cond (passes here) (routes_of_site here site.prefixes) []) (routes_from passes (number + 1) more) a) [
      | inl b ↦ own (passes here) refl b
      | inr b ↦ (let r = route_of passes (number + 1) more route b in
          record { place = suc r.place; site = r.site; at = r.at; id = (let e = r.id in omega (arith, e)); passed = r.passed; prefix = r.prefix })
    ]
  where
    own : (b : Bool) → passes (record { 0 = number }) ≡ b → Among route (cond b (routes_of_site (record { 0 = number }) site.prefixes) [])
        → RouteOf passes number (site ∷ more) route
    own false e c = absurd c
    own true e c =
        let m = map_among (λ (prefix : Prefix). record { prefix = prefix; site = record { 0 = number } }) route site.prefixes c in
        record {
          place = 0;
          site = site;
          at = refl;
          id = ap (λ (r : Route). r.site.0) m.2 ∙ omega arith;
          passed =
              ap (λ (r : Route). passes r.site) m.2 ∙ e;
          prefix =
              subst (λ (p : Prefix). Among p site.prefixes) (ap (λ (r : Route). r.prefix) (sym m.2)) m.1;
        }

-- ---- prefixes

-- numbers with one front and nothing after it are one
one_number : (unit a b : ℕ) → a / unit ≡ b / unit → a % unit ≡ 0 → b % unit ≡ 0 → a ≡ b
one_number unit a b e ra rb = sym (div-add-mod' a unit) ∙ (λ i. e i * unit + (ra ∙ sym rb) i) ∙ div-add-mod' b unit

one_text_4 : (a b : List ℕ) → length a ≡ 4 → length b ≡ 4 → IsOctets a → IsOctets b → from_be_bytes w32 a ≡ from_be_bytes w32 b → a ≡ b
one_text_4 a b sa sb oa ob e =
    sym (be_bytes_4 a (from_be_bytes w32 a) sa oa refl) ∙ ap (to_be_bytes w32) e ∙ be_bytes_4 b (from_be_bytes w32 b) sb ob refl

-- sixteen octets are those of their number
be_bytes_16 : (octets : List ℕ) → length octets ≡ 16 → IsOctets octets → to_be_bytes w128 (from_be_bytes w128 octets) ≡ octets
unfolding address
be_bytes_16 octets len fits =
    let number : ℕ = from_be_bytes w128 octets in
    let whole : cleared 128 128 number ≡ number = omega arith in
    let front : padded 16 (take 16 octets) ≡ octets =
    ap (padded 16) (take_all 16 octets (omega (arith, len))) ∙ ap (λ (n : ℕ). octets ++ replicate (16 - n) 0) len ∙ append-nil octets in
    ap (to_be_bytes w128) (sym whole)
    ∙ ap (λ (text : List ℕ). to_be_bytes w128 (cleared 128 128 (from_be_bytes w128 text))) (sym front)
    ∙ ap addr_octets (address_again (V6 octets) 128 len fits (omega arith, omega arith))

one_text_16 : (a b : List ℕ) → length a ≡ 16 → length b ≡ 16 → IsOctets a → IsOctets b → from_be_bytes w128 a ≡ from_be_bytes w128 b → a ≡ b
one_text_16 a b sa sb oa ob e = sym (be_bytes_16 a sa oa) ∙ ap (to_be_bytes w128) e ∙ be_bytes_16 b sb ob

-- two prefixes of one length that cover an address are one
pub covering_one : (a b s : Addr) (bits : ℕ) → IsAddr a → IsAddr b → IsOctets (addr_octets a) → IsOctets (addr_octets b) → IsPrefixOf a bits
    → IsPrefixOf b bits → same_front a s bits ≡ true → same_front b s bits ≡ true → a ≡ b
covering_one (V4 a) (V4 b) (V4 s) bits fa fb oa ob pa pb ca cb =
    let unit : ℕ = 2 ^ (32 - bits) in
    let da : from_be_bytes w32 a / unit ≡ from_be_bytes w32 s / unit = eqb-true (from_be_bytes w32 a / unit) (from_be_bytes w32 s / unit) ca in
    let db : from_be_bytes w32 b / unit ≡ from_be_bytes w32 s / unit = eqb-true (from_be_bytes w32 b / unit) (from_be_bytes w32 s / unit) cb in
    ap (λ (x : List ℕ). V4 x) (one_text_4 a b fa fb oa ob (one_number unit (from_be_bytes w32 a) (from_be_bytes w32 b) (da ∙ sym db) pa.1 pb.1))
covering_one (V6 a) (V6 b) (V6 s) bits fa fb oa ob pa pb ca cb =
    let unit : ℕ = 2 ^ (128 - bits) in
    let da : from_be_bytes w128 a / unit ≡ from_be_bytes w128 s / unit = eqb-true (from_be_bytes w128 a / unit) (from_be_bytes w128 s / unit) ca in
    let db : from_be_bytes w128 b / unit ≡ from_be_bytes w128 s / unit = eqb-true (from_be_bytes w128 b / unit) (from_be_bytes w128 s / unit) cb in
    ap (λ (x : List ℕ). V6 x) (one_text_16 a b fa fb oa ob (one_number unit (from_be_bytes w128 a) (from_be_bytes w128 b) (da ∙ sym db) pa.1 pb.1))
covering_one (V4 a) b (V6 s) bits fa fb oa ob pa pb ca cb = absurd (true≢false (sym ca))
covering_one (V6 a) b (V4 s) bits fa fb oa ob pa pb ca cb = absurd (true≢false (sym ca))
covering_one (V4 a) (V6 b) (V4 s) bits fa fb oa ob pa pb ca cb = absurd (true≢false (sym cb))
covering_one (V6 a) (V4 b) (V6 s) bits fa fb oa ob pa pb ca cb = absurd (true≢false (sym cb))
