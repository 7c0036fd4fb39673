-- What is declared after the first lines of each block of the text.
use Rattle.std.proofs.Common.{◌≡◌, ◌⊎◌, ℕ, zero, suc, ◌<◌, ◌≤◌, Bool, false, List, [], ◌∷◌, ◌++◌, Some, None, refl, subst, arith, inl, inr}
use Rattle.std.specs.Prelude.{codes, decimal, nat_eq}
use Rattle.std.specs.Map.{lookup}
use Rattle.std.specs.Cmp.Lexicographic.{pointwise}
use Rattle.std.proofs.lemmas.Bool.{cases_lt}
use Rattle.mv_base.specs.declared.core_link.Link.{Link}
use Rattle.scenario_defs.specs.declared.scenario.Node.{Node}
use Rattle.scenario_defs.specs.declared.scenario.Vrf.{Vrf}
use Rattle.scenario_defs.specs.declared.scenario.Site.{Site}
use Rattle.scenario_defs.specs.declared.scenario.Iface.{Iface}
use Rattle.scenario_defs.specs.declared.scenario.Thing.{Thing}
use Rattle.scenario_defs.specs.declared.scenario.Thing.TheVariants as things
use Rattle.scenario_lines.specs.scenario_draft.Drafted.{Drafted}
use Rattle.scenario_lines.specs.scenario_draft.Settings.{none_given}
use Rattle.made_laws.specs.MadeScript.{edge_id, core_id, edge_node, core_node, ring_link, spur_link, name_at, vrf_id, site_id, iface_id, vrf, site, iface}
use Rattle.made_laws.proofs.ListLemmas.{thereafter, rows, lookup_none, lookup_more, lookup_last, lookup_one, lookup_after, lookup_kept, lookup_found}
use Rattle.made_laws.proofs.NumeralLemmas.{same_name, other_number, other_pair}

-- ---- the names

abbrev pub edge_entry : ℕ → List ℕ × Thing
edge_entry edge = (codes "E" ++ decimal edge, things.Node (edge_id edge))

abbrev pub core_entry : ℕ → List ℕ × Thing
core_entry core = (codes "C" ++ decimal core, things.Node (core_id core))

abbrev pub vrf_entry : ℕ → ℕ → List ℕ × Thing
vrf_entry edge vpn = (name_at (codes "V") edge vpn, things.Vrf (vrf_id edge vpn))

abbrev pub site_entry : ℕ → ℕ → List ℕ × Thing
site_entry edge vpn = (name_at (codes "S") edge vpn, things.Site (site_id edge vpn))

abbrev pub iface_entry : ℕ → ℕ → List ℕ × Thing
iface_entry edge vpn = (name_at (codes "I") edge vpn, things.Iface (iface_id edge vpn))

abbrev pub node_names : ℕ → ℕ → List (List ℕ × Thing)
node_names edges cores = thereafter (thereafter [] edge_entry edges) core_entry cores

-- the names with those of so many VPNs at the edge
abbrev pub named_at : List (List ℕ × Thing) → ℕ → ℕ → List (List ℕ × Thing)
named_at old edge zero = old
named_at old edge (suc vpn) =
    named_at old edge vpn ++ vrf_entry edge (suc vpn) ∷ [] ++ site_entry edge (suc vpn) ∷ [] ++ iface_entry edge (suc vpn) ∷ []

-- the names with those of all VPNs at so many edges
abbrev pub named_edges : ℕ → List (List ℕ × Thing) → ℕ → List (List ℕ × Thing)
named_edges vpns old zero = old
named_edges vpns old (suc edge) = named_at (named_edges vpns old edge) (suc edge) vpns

-- ---- the drafts

abbrev pub with_lists : List Node → List Link → List Vrf → List Site → List Iface → List (List ℕ × Thing) → Drafted
with_lists nodes links vrfs sites ifaces names = record {
  scenario = record { life = 2; delay = 3; labels = 4096; system = 65000; nodes = nodes; links = links; vrfs = vrfs; sites = sites; ifaces = ifaces };
  given = none_given;
  begun = false;
  events = [];
  names = names;
}

abbrev pub made_nodes : ℕ → ℕ → List Node
made_nodes edges cores = thereafter (thereafter [] edge_node edges) core_node cores

abbrev pub made_links : ℕ → ℕ → List Link
made_links cores edges = thereafter (thereafter [] ring_link cores) spur_link edges

abbrev pub after_edges : ℕ → Drafted
after_edges edges = with_lists (thereafter [] edge_node edges) [] [] [] [] (thereafter [] edge_entry edges)

abbrev pub after_cores : ℕ → ℕ → Drafted
after_cores edges cores = with_lists (made_nodes edges cores) [] [] [] [] (node_names edges cores)

abbrev pub after_ring : ℕ → ℕ → ℕ → Drafted
after_ring edges cores ring = with_lists (made_nodes edges cores) (thereafter [] ring_link ring) [] [] [] (node_names edges cores)

abbrev pub after_spurs : ℕ → ℕ → ℕ → Drafted
after_spurs edges cores spurs = with_lists (made_nodes edges cores) (made_links cores spurs) [] [] [] (node_names edges cores)

-- after what all VPNs have at so many edges, and so many VPNs at the next one
abbrev pub after_vpns : ℕ → ℕ → ℕ → ℕ → ℕ → Drafted
after_vpns edges cores vpns edge vpn =
    with_lists (made_nodes edges cores) (made_links cores edges) (thereafter (rows vpns vrf edge) (vrf (suc edge)) vpn)
    (thereafter (rows vpns site edge) (site (suc edge)) vpn)
    (thereafter (rows vpns iface edge) (iface (suc edge)) vpn) (named_at (named_edges vpns (node_names edges cores) edge) (suc edge) vpn)

-- ---- look-ups of names

abbrev pub Stands : List (List ℕ × Thing) → List ℕ × Thing → Type 0
Stands names entry = lookup (pointwise nat_eq entry.0) names ≡ Some entry.1

abbrev pub IsNone : List (List ℕ × Thing) → List ℕ → Type 0
IsNone names name = lookup (pointwise nat_eq name) names ≡ None

pub edge_free : (k : ℕ) → k < 32 → IsNone (thereafter [] edge_entry k) (codes "E" ++ decimal (suc k))
edge_free k h =
    lookup_after (pointwise nat_eq (codes "E" ++ decimal (suc k))) [] edge_entry k refl
    (λ j w. other_number 69 (suc k) (suc j) (omega arith) (omega arith) (λ e. omega (arith, e)))

pub core_free : (edges k : ℕ) → k < 16 → IsNone (node_names edges k) (codes "C" ++ decimal (suc k))
core_free edges k h =
    lookup_after (pointwise nat_eq (codes "C" ++ decimal (suc k))) (thereafter [] edge_entry edges) core_entry k
    (lookup_after (pointwise nat_eq (codes "C" ++ decimal (suc k))) [] edge_entry edges refl (λ j w. refl))
    (λ j w. other_number 67 (suc k) (suc j) (omega arith) (omega arith) (λ e. omega (arith, e)))

pub edge_stands : (edges cores k : ℕ) → k < edges → edges ≡ 32 → Stands (node_names edges cores) (edge_entry (suc k))
edge_stands edges cores k h all =
    lookup_kept (pointwise nat_eq (codes "E" ++ decimal (suc k))) (thereafter [] edge_entry edges) core_entry cores (things.Node (edge_id (suc k)))
    (lookup_found (pointwise nat_eq (codes "E" ++ decimal (suc k))) [] edge_entry edges k h (edge_free k (omega arith))
    (same_name (codes "E" ++ decimal (suc k))))

pub core_stands : (edges cores k : ℕ) → k < cores → cores ≡ 16 → Stands (node_names edges cores) (core_entry (suc k))
core_stands edges cores k h all =
    lookup_found (pointwise nat_eq (codes "C" ++ decimal (suc k))) (thereafter [] edge_entry edges) core_entry cores k h (core_free edges k (omega arith))
    (same_name (codes "C" ++ decimal (suc k)))

-- ---- names of VPNs at edges

at_none : (test : List ℕ → Bool) (old : List (List ℕ × Thing)) (edge count : ℕ) → lookup test old ≡ None
    → ((letter k : ℕ) → k < count → test (name_at (letter ∷ []) edge (suc k)) ≡ false) → lookup test (named_at old edge count) ≡ None
at_none test old edge zero h none = h
at_none test old edge (suc count) h none =
    let before : lookup test (named_at old edge count) ≡ None = at_none test old edge count h (λ letter k w. none letter k (omega arith)) in
    let one : lookup test (named_at old edge count ++ vrf_entry edge (suc count) ∷ []) ≡ None =
    lookup_none test (named_at old edge count) (vrf_entry edge (suc count) ∷ []) before
    (lookup_one test (vrf_entry edge (suc count)).0 (vrf_entry edge (suc count)).1 (none 86 count (omega arith))) in
    let two : lookup test (named_at old edge count ++ vrf_entry edge (suc count) ∷ [] ++ site_entry edge (suc count) ∷ []) ≡ None =
    lookup_none test (named_at old edge count ++ vrf_entry edge (suc count) ∷ []) (site_entry edge (suc count) ∷ []) one
    (lookup_one test (site_entry edge (suc count)).0 (site_entry edge (suc count)).1 (none 83 count (omega arith))) in
    lookup_none test (named_at old edge count ++ vrf_entry edge (suc count) ∷ [] ++ site_entry edge (suc count) ∷ [])
    (iface_entry edge (suc count) ∷ []) two (lookup_one test (iface_entry edge (suc count)).0 (iface_entry edge (suc count)).1
    (none 73 count (omega arith)))

edges_none : (test : List ℕ → Bool) (vpns : ℕ) (old : List (List ℕ × Thing)) (edge : ℕ) → lookup test old ≡ None
    → ((letter r k : ℕ) → r < edge → k < vpns → test (name_at (letter ∷ []) (suc r) (suc k)) ≡ false) → lookup test (named_edges vpns old edge) ≡ None
edges_none test vpns old zero h none = h
edges_none test vpns old (suc edge) h none =
    at_none test (named_edges vpns old edge) (suc edge) vpns (edges_none test vpns old edge h (λ letter r k a b. none letter r k (omega arith) b))
    (λ letter k b. none letter edge k (omega arith) b)

-- A name of a VPN at an edge is new after those before it.
pair_free : (letter vpns : ℕ) (old : List (List ℕ × Thing)) (edge vpn : ℕ) → vpns ≡ 8 → edge < 32 → vpn < 8
    → IsNone old (name_at (letter ∷ []) (suc edge) (suc vpn))
    → IsNone (named_at (named_edges vpns old edge) (suc edge) vpn) (name_at (letter ∷ []) (suc edge) (suc vpn))
pair_free letter vpns old edge vpn all h k none =
    at_none (pointwise nat_eq (name_at (letter ∷ []) (suc edge) (suc vpn))) (named_edges vpns old edge) (suc edge) vpn
    (edges_none (pointwise nat_eq (name_at (letter ∷ []) (suc edge) (suc vpn))) vpns old edge none
    (λ other r j a b. other_pair letter other (suc edge) (suc vpn) (suc r) (suc j) (omega arith) (omega arith) (omega arith) (omega arith)
    (inl (λ e. omega (arith, e)))))
    (λ other j b. other_pair letter other (suc edge) (suc vpn) (suc edge) (suc j) (omega arith) (omega arith) (omega arith) (omega arith)
    (inr (λ e. omega (arith, e))))

module _ (edges cores vpns edge vpn : ℕ) (all : vpns ≡ 8) (h : edge < 32) (k : vpn < 8) where
  abbrev earlier : List (List ℕ × Thing)
  earlier = named_at (named_edges vpns (node_names edges cores) edge) (suc edge) vpn

  pub vrf_free : IsNone earlier (name_at (codes "V") (suc edge) (suc vpn))
  vrf_free = pair_free 86 vpns (node_names edges cores) edge vpn all h k
      (lookup_after (pointwise nat_eq (name_at (codes "V") (suc edge) (suc vpn))) (thereafter [] edge_entry edges) core_entry cores
      (lookup_after (pointwise nat_eq (name_at (codes "V") (suc edge) (suc vpn))) [] edge_entry edges refl (λ j w. refl)) (λ j w. refl))

  pub site_free : IsNone (earlier ++ vrf_entry (suc edge) (suc vpn) ∷ []) (name_at (codes "S") (suc edge) (suc vpn))
  site_free =
      lookup_none (pointwise nat_eq (name_at (codes "S") (suc edge) (suc vpn))) earlier (vrf_entry (suc edge) (suc vpn) ∷ [])
      (pair_free 83 vpns (node_names edges cores) edge vpn all h k
      (lookup_after (pointwise nat_eq (name_at (codes "S") (suc edge) (suc vpn))) (thereafter [] edge_entry edges) core_entry cores
      (lookup_after (pointwise nat_eq (name_at (codes "S") (suc edge) (suc vpn))) [] edge_entry edges refl (λ j w. refl)) (λ j w. refl)))
      refl

  pub iface_free : IsNone (earlier ++ vrf_entry (suc edge) (suc vpn) ∷ [] ++ site_entry (suc edge) (suc vpn) ∷ [])
      (name_at (codes "I") (suc edge) (suc vpn))
  iface_free =
      lookup_none (pointwise nat_eq (name_at (codes "I") (suc edge) (suc vpn))) (earlier ++ vrf_entry (suc edge) (suc vpn) ∷ [])
      (site_entry (suc edge) (suc vpn) ∷ [])
      (lookup_none (pointwise nat_eq (name_at (codes "I") (suc edge) (suc vpn))) earlier (vrf_entry (suc edge) (suc vpn) ∷ [])
      (pair_free 73 vpns (node_names edges cores) edge vpn all h k
      (lookup_after (pointwise nat_eq (name_at (codes "I") (suc edge) (suc vpn))) (thereafter [] edge_entry edges) core_entry cores
      (lookup_after (pointwise nat_eq (name_at (codes "I") (suc edge) (suc vpn))) [] edge_entry edges refl (λ j w. refl)) (λ j w. refl)))
      refl)
      refl

  -- They are there after their own lines.
  pub vrf_stands : Stands (earlier ++ vrf_entry (suc edge) (suc vpn) ∷ [] ++ site_entry (suc edge) (suc vpn) ∷ []) (vrf_entry (suc edge) (suc vpn))
  vrf_stands =
      lookup_more (pointwise nat_eq (name_at (codes "V") (suc edge) (suc vpn))) (earlier ++ vrf_entry (suc edge) (suc vpn) ∷ [])
      (site_entry (suc edge) (suc vpn) ∷ []) (things.Vrf (vrf_id (suc edge) (suc vpn)))
      (lookup_last (pointwise nat_eq (name_at (codes "V") (suc edge) (suc vpn))) earlier (name_at (codes "V") (suc edge) (suc vpn))
      (things.Vrf (vrf_id (suc edge) (suc vpn))) vrf_free (same_name (name_at (codes "V") (suc edge) (suc vpn))))

  pub site_stands : Stands (earlier ++ vrf_entry (suc edge) (suc vpn) ∷ [] ++ site_entry (suc edge) (suc vpn) ∷ []) (site_entry (suc edge) (suc vpn))
  site_stands =
      lookup_last (pointwise nat_eq (name_at (codes "S") (suc edge) (suc vpn))) (earlier ++ vrf_entry (suc edge) (suc vpn) ∷ [])
      (name_at (codes "S") (suc edge) (suc vpn)) (things.Site (site_id (suc edge) (suc vpn))) site_free
      (same_name (name_at (codes "S") (suc edge) (suc vpn)))

  pub three_stand : Stands (named_at (named_edges vpns (node_names edges cores) edge) (suc edge) (suc vpn)) (vrf_entry (suc edge) (suc vpn))
      × Stands (named_at (named_edges vpns (node_names edges cores) edge) (suc edge) (suc vpn)) (site_entry (suc edge) (suc vpn))
      × Stands (named_at (named_edges vpns (node_names edges cores) edge) (suc edge) (suc vpn)) (iface_entry (suc edge) (suc vpn))
  three_stand = (
    lookup_more (pointwise nat_eq (name_at (codes "V") (suc edge) (suc vpn)))
        (earlier ++ vrf_entry (suc edge) (suc vpn) ∷ [] ++ site_entry (suc edge) (suc vpn) ∷ []) (iface_entry (suc edge) (suc vpn) ∷ [])
        (things.Vrf (vrf_id (suc edge) (suc vpn))) vrf_stands,
    lookup_more (pointwise nat_eq (name_at (codes "S") (suc edge) (suc vpn)))
        (earlier ++ vrf_entry (suc edge) (suc vpn) ∷ [] ++ site_entry (suc edge) (suc vpn) ∷ []) (iface_entry (suc edge) (suc vpn) ∷ [])
        (things.Site (site_id (suc edge) (suc vpn))) site_stands,
    lookup_last (pointwise nat_eq (name_at (codes "I") (suc edge) (suc vpn)))
        (earlier ++ vrf_entry (suc edge) (suc vpn) ∷ [] ++ site_entry (suc edge) (suc vpn) ∷ []) (name_at (codes "I") (suc edge) (suc vpn))
        (things.Iface (iface_id (suc edge) (suc vpn))) iface_free (same_name (name_at (codes "I") (suc edge) (suc vpn))),
  )

-- ---- what is there stays there

pub at_kept : (test : List ℕ → Bool) (old : List (List ℕ × Thing)) (edge count : ℕ) (v : Thing) → lookup test old ≡ Some v
    → lookup test (named_at old edge count) ≡ Some v
at_kept test old edge zero v h = h
at_kept test old edge (suc count) v h =
    lookup_more test (named_at old edge count ++ vrf_entry edge (suc count) ∷ [] ++ site_entry edge (suc count) ∷ [])
    (iface_entry edge (suc count) ∷ []) v
    (lookup_more test (named_at old edge count ++ vrf_entry edge (suc count) ∷ []) (site_entry edge (suc count) ∷ []) v
    (lookup_more test (named_at old edge count) (vrf_entry edge (suc count) ∷ []) v (at_kept test old edge count v h)))

pub edges_kept : (test : List ℕ → Bool) (vpns : ℕ) (old : List (List ℕ × Thing)) (edge : ℕ) (v : Thing) → lookup test old ≡ Some v
    → lookup test (named_edges vpns old edge) ≡ Some v
edges_kept test vpns old zero v h = h
edges_kept test vpns old (suc edge) v h = at_kept test (named_edges vpns old edge) (suc edge) vpns v (edges_kept test vpns old edge v h)

-- What is there after one VPN is there after all of them at the edge, and after all edges.
at_later : (test : List ℕ → Bool) (old : List (List ℕ × Thing)) (edge count vpn : ℕ) (v : Thing) → vpn < count
    → lookup test (named_at old edge (suc vpn)) ≡ Some v → lookup test (named_at old edge count) ≡ Some v
at_later test old edge zero vpn v within h = absurd (omega arith)
at_later test old edge (suc count) vpn v within h = by_place (at_later test old edge count vpn v) (cases_lt vpn count)
  where
    by_place : (vpn < count → lookup test (named_at old edge (suc vpn)) ≡ Some v → lookup test (named_at old edge count) ≡ Some v)
        → (vpn < count) ⊎ (count ≤ vpn) → lookup test (named_at old edge (suc count)) ≡ Some v
    by_place earlier (inl l) =
        lookup_more test (named_at old edge count ++ vrf_entry edge (suc count) ∷ [] ++ site_entry edge (suc count) ∷ [])
        (iface_entry edge (suc count) ∷ []) v
        (lookup_more test (named_at old edge count ++ vrf_entry edge (suc count) ∷ []) (site_entry edge (suc count) ∷ []) v
        (lookup_more test (named_at old edge count) (vrf_entry edge (suc count) ∷ []) v (earlier l h)))
    by_place earlier (inr l) =
        let same : vpn ≡ count = omega arith in
        subst (λ (n : ℕ). lookup test (named_at old edge (suc n)) ≡ Some v) same h

pub edges_later : (test : List ℕ → Bool) (vpns : ℕ) (old : List (List ℕ × Thing)) (edges edge vpn : ℕ) (v : Thing) → edge < edges → vpn < vpns
    → lookup test (named_at (named_edges vpns old edge) (suc edge) (suc vpn)) ≡ Some v → lookup test (named_edges vpns old edges) ≡ Some v
edges_later test vpns old zero edge vpn v within small h = absurd (omega arith)
edges_later test vpns old (suc edges) edge vpn v within small h = by_place (edges_later test vpns old edges edge vpn v) (cases_lt edge edges)
  where
    by_place : (edge < edges → vpn < vpns → lookup test (named_at (named_edges vpns old edge) (suc edge) (suc vpn)) ≡ Some v
        → lookup test (named_edges vpns old edges) ≡ Some v) → (edge < edges) ⊎ (edges ≤ edge)
        → lookup test (named_edges vpns old (suc edges)) ≡ Some v
    by_place earlier (inl l) = at_kept test (named_edges vpns old edges) (suc edges) vpns v (earlier l small h)
    by_place earlier (inr l) =
        let same : edge ≡ edges = omega arith in
        subst (λ (n : ℕ). lookup test (named_edges vpns old (suc n)) ≡ Some v) same
        (at_later test (named_edges vpns old edge) (suc edge) vpns vpn v small h)
