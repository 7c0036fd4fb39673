-- The leaves among the trees that a forwarding table knows are its leaves.
use Rattle.std.proofs.Common.{◌≡◌, ◌∙◌, ap, sym, refl, ℕ, ◌+◌, ◌<◌, ◌&&◌, ◌||◌, Bool, true, false, List, [], ◌∷◌, ◌++◌, take, length, get_or, append-nil, Option, None, Some}
use Rattle.std.specs.Prelude.{option_map}
use Rattle.std.specs.List.{filter, flat_map, list_any}
use Rattle.std.specs.FinMap as maps
use Rattle.std.specs.FinMap.{FinMap}
use Rattle.std.specs.FinSet as sets
use Rattle.std.proofs.lemmas.List.{take_more}
use Rattle.std.proofs.lemmas.List.Concat.{flat_map-append}
use Rattle.std.proofs.lemmas.Map.Views.{any-filter_same}
use Rattle.mv_base.specs.declared.ids.NodeId.{NodeId}
use Rattle.mldp.specs.declared.mldp_fec.fec.Fec.{Fec}
use Rattle.bgp_messages.specs.declared.bgp_attributes.key.Key.{Key}
use Rattle.label_defs.specs.declared.branch.Branch.{Branch as TreeBranch}
use Rattle.label_defs.specs.Keys.{fec_cmp, node_cmp}
use Rattle.label_defs.specs.LabelData.{same_fec}
use Rattle.label_defs.specs.Members.{in_order}
use Rattle.label_defs.proofs.KeyLemmas.{fec_cmp_total, fec_cmp_exact, same_fec_equal}
use Rattle.label_forwarding.specs.declared.branch.Branch.{Branch}
use Rattle.label_forwarding.specs.FibData.{FibData, is_known}
use Rattle.mldp_node.proofs.label_trees.TreeLemmas.{any_flips}
use Rattle.edge_defs.specs.Edge.{Taken, TakenRoute}
use Rattle.edge_defs.specs.Keys.{key_cmp}
use Rattle.edge_defs.proofs.Example.{no_entries}

absorbed : (leaf branch noted : Bool) → (leaf && ((branch || leaf) || noted)) ≡ leaf
absorbed true true noted = refl
absorbed true false noted = refl
absorbed false branch noted = refl

pub leaves_listed : (fib : FibData) (fecs : List Fec) → ((fec : Fec) → list_any (λ own. same_fec own fec) fecs ≡ is_known fib fec)
    → sets.from_list {R = fec_cmp} (filter (sets.contains fib.leaves) fecs) ≡ fib.leaves
leaves_listed fib fecs known =
    let leaf : Fec → Bool = sets.contains fib.leaves in
    sets.same_set fec_cmp_total fec_cmp_exact (sets.from_list (filter leaf fecs)) fib.leaves (λ fec.
    sets.contains-from_list fec_cmp_total (filter leaf fecs) fec
    ∙ (any-filter_same (same_fec fec) leaf (leaf fec) (λ k e. ap leaf (sym (same_fec_equal fec k e))) fecs
    ∙ (ap (λ (b : Bool). leaf fec && b) (any_flips fec fecs ∙ known fec)
    ∙ absorbed (leaf fec) (list_any (λ (branch : TreeBranch). same_fec branch.fec fec) (in_order fib.branches))
    (list_any (λ (entry : Branch × Fec). same_fec entry.1 fec) (maps.entries fib.pairs)))))

-- ---- the routes of a peer's table

abbrev pub table_in : FinMap node_cmp Taken → NodeId → Taken
table_in tables peer = elim (maps.get tables peer) [ None ↦ maps.empty | Some taken ↦ taken ]

abbrev pub routes_in : Option (List (Key × TakenRoute)) → List (Key × TakenRoute)
routes_in found = elim found [ None ↦ [] | Some routes ↦ routes ]

pub routes_taken : (tables : FinMap node_cmp Taken) (peer : NodeId) (found : Option (List (Key × TakenRoute)))
    → found ≡ option_map (λ (taken : Taken). maps.entries taken) (maps.get tables peer) → routes_in found ≡ maps.entries (table_in tables peer)
routes_taken tables peer found e = by (maps.get tables peer) e
  where
    by : (own : Option Taken) → found ≡ option_map (λ (taken : Taken). maps.entries taken) own
        → routes_in found ≡ maps.entries (elim own as (λ _. Taken) [ None ↦ maps.empty | Some taken ↦ taken ])
    by None e = ap routes_in e ∙ sym (no_entries key_cmp TakenRoute)
    by (Some taken) e = ap routes_in e

pub one_more : {X Y : Type 0} (f : X → List Y) (xs : List X) (n : ℕ) (d : X) → n < length xs
    → flat_map f (take (n + 1) xs) ≡ flat_map f (take n xs) ++ f (get_or xs n d)
one_more f xs n d h =
    ap (flat_map f) (take_more xs n d h) ∙ (flat_map-append f (take n xs) (get_or xs n d ∷ [])
    ∙ ap (λ zs. flat_map f (take n xs) ++ zs) (append-nil (f (get_or xs n d))))

pub keys_more : (keys : NodeId → List Key) (peers : List NodeId) (n : ℕ) (d : NodeId) (old new : List Key) → n < length peers
    → old ≡ flat_map keys (take n peers) → new ≡ (old ++ keys (get_or peers n d)) → new ≡ flat_map keys (take (n + 1) peers)
keys_more keys peers n d old new h first more =
    more ∙ (ap (λ (l : List Key). l ++ keys (get_or peers n d)) first ∙ sym (one_more keys peers n d h))
