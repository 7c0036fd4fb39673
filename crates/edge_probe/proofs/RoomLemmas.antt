-- So many joins are so many entries at most.
use Rattle.std.proofs.Common.{◌≡◌, ℕ, ◌+◌, ◌≤◌, Bool, true, false, cond, List, [], ◌∷◌, ◌++◌, length, Option, Some, None, refl, arith}
use Rattle.std.proofs.lemmas.Bool.{le-ltb}
use Rattle.std.proofs.lemmas.List.{length-append, length-map}
use Rattle.std.specs.Prelude.{fold, nat_lt}
use Rattle.std.specs.FinMap as maps
use Rattle.std.specs.Cmp.{IsTotalOrder}
use Rattle.std.specs.declared.cmp.Ordering.{Ordering}
use Rattle.mv_base.specs.declared.addr.Addr.{Addr}
use Rattle.mv_base.specs.declared.ids.IfaceId.{IfaceId}
use Rattle.scenario_defs.specs.declared.event.IfaceEntry.{IfaceEntry}
use Rattle.scenario_defs.specs.declared.event.JoinEntry.{JoinEntry}
use Rattle.scenario_defs.specs.declared.scenario.Scenario.{Scenario}
use Rattle.pim_defs.specs.declared.expiry.Expiry.{Expiry}
use Rattle.pim_defs.specs.Entries.{Entries, applied, entry_cmp, expiry_then, named_in, with_expiries}
use Rattle.pim_defs.specs.Single.{join_of}
use Rattle.pim_defs.proofs.KeyLemmas.{entry_cmp_total}
use Rattle.network_defs.specs.mvpn_model.Messages.{own_addr}
use Rattle.probe_defs.specs.Probed.{joined}

inserted_few : (b : Bool) (n : ℕ) → cond b n (n + 1) ≤ n + 1
inserted_few true n = omega arith
inserted_few false n = omega arith

made_few : {K X : Type 0} {R : K → K → Ordering} → IsTotalOrder R → (es : List (K × X)) → maps.len (maps.from_entries {R = R} es) ≤ length es
made_few {K} {X} {R} total [] = omega (arith, maps.len-empty R X)
made_few {K} {X} {R} total (e ∷ es) =
    let rest = made_few {R = R} total es in
    let one = maps.len-insert total (maps.from_entries {R = R} es) e.0 e.1 in
    let le = inserted_few (maps.contains_key (maps.from_entries {R = R} es) e.0) (maps.len (maps.from_entries {R = R} es)) in
    omega (arith, rest, one, le)

with_one : (at : IfaceEntry) (more : List (IfaceEntry × Expiry)) (n : ℕ) (o : Option Expiry) → length more ≤ n
    → length (elim o as (λ _. List (IfaceEntry × Expiry)) [ None ↦ more | Some found ↦ (at, found) ∷ more ]) ≤ n + 1
with_one at more n None le = omega (arith, le)
with_one at more n (Some found) le = omega (arith, le)

expiries_few : (f : IfaceEntry → Option Expiry) (ats : List IfaceEntry) → length (with_expiries f ats) ≤ length ats
expiries_few f [] = omega arith
expiries_few f (at ∷ more) =
    let one = with_one at (with_expiries f more) (length more) (f at) (expiries_few f more) in
    omega (arith, one)

-- a join adds an entry at most
join_adds_one : (entries : Entries) (iface : IfaceId) (neighbour : Addr) (entry : JoinEntry)
    → maps.len (applied entries iface (join_of neighbour entry) 0) ≤ maps.len entries + 1
join_adds_one entries iface neighbour entry =
    let named : List IfaceEntry = named_in iface (join_of neighbour entry) in
    let ats : List IfaceEntry = maps.keys entries ++ named in
    let made = made_few entry_cmp_total (with_expiries (expiry_then entries iface (join_of neighbour entry) 0) ats) in
    let few = expiries_few (expiry_then entries iface (join_of neighbour entry) 0) ats in
    let one : length named ≡ 1 = refl in
    let all : length ats ≡ length (maps.keys entries) + length named = length-append (maps.keys entries) named in
    let keys : length (maps.keys entries) ≡ length (maps.entries entries) = length-map (maps.entries entries) (λ (e : IfaceEntry × Expiry). e.0) in
    let own : maps.len entries ≡ length (maps.entries entries) = maps.len-entries entries in
    omega (arith, made, few, one, all, keys, own)

joins_add : (scenario : Scenario) (joins : List IfaceEntry) (entries : Entries)
    → maps.len (fold (λ (es : Entries) (at : IfaceEntry). applied es at.iface (join_of (own_addr scenario at.iface) at.entry) 0) entries joins) ≤
    maps.len entries + length joins
joins_add scenario [] entries = omega arith
joins_add scenario (at ∷ more) entries =
    let one = join_adds_one entries at.iface (own_addr scenario at.iface) at.entry in
    let rest = joins_add scenario more (applied entries at.iface (join_of (own_addr scenario at.iface) at.entry) 0) in
    omega (arith, one, rest)

pub joined_few : (scenario : Scenario) (joins : List IfaceEntry) → maps.len (joined scenario joins) ≤ length joins
joined_few scenario joins = omega (arith, joins_add scenario joins maps.empty, maps.len-empty entry_cmp Expiry)

pub not_over : (n : ℕ) → n ≤ 1024 → nat_lt 1024 n ≡ false
not_over n le = le-ltb 1024 n le
