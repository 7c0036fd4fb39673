-- Which entries are listed by what they are looked for by.
use Rattle.std.specs.Prelude.{◌≡◌, ◌||◌, ◌&&◌, ℕ, Bool, not, List, [], Option, None, Some, is_some}
use Rattle.std.specs.List.{list_any}
use Rattle.std.specs.declared.hash.FoldHasher.{FoldHasher}
use Rattle.std.specs.declared.hash.BuildHasherDefault.{BuildHasherDefault}
use Rattle.indexmap.specs.IndexMap.{IndexMap, get}
use Rattle.scenario_defs.specs.declared.event.JoinEntry.{JoinEntry}
use Rattle.scenario_defs.specs.declared.event.JoinEntry.TheVariants.{Star, Source, Rpt}
use Rattle.scenario_defs.specs.declared.event.IfaceEntry.{IfaceEntry}
use Rattle.pim_defs.specs.declared.expiry.Expiry.{Expiry}
use Rattle.pim_defs.specs.Expiry.{remaining}
use Rattle.pim_state.specs.declared.index.IndexKey.{IndexKey}
use Rattle.pim_state.specs.declared.index.IndexKey.TheVariants.{Shared, Flow, Pruned}
use Rattle.pim_state.specs.contracts.index.IndexKeyPartialEq.TheImpl as keys_equal
use Rattle.pim_state.specs.declared.arrival.Arrival.{Arrival}
use Rattle.pim_state.specs.Plan.{is_at, ends, Expiries}

-- whether both are one key, as `==` has it
abbrev pub is_key : IndexKey → IndexKey → Bool
is_key = keys_equal.ghosts.eq

-- what an entry is looked for by
abbrev pub key_of : JoinEntry → IndexKey
key_of (Star group) = Shared group
key_of (Source source group) = Flow source group
key_of (Rpt source group) = Pruned group

-- entries by what they are looked for by
abbrev pub EntryIndex : Type 0
EntryIndex = IndexMap IndexKey (List IfaceEntry) (BuildHasherDefault FoldHasher)

abbrev pub among : Option (List IfaceEntry) → List IfaceEntry
among None = []
among (Some own) = own

-- the entries that are listed by the key
abbrev pub listed : EntryIndex → IndexKey → List IfaceEntry
listed index key = among (get is_key index key)

-- whether the entry is among those that are listed by its key
abbrev pub is_listed : EntryIndex → IfaceEntry → Bool
is_listed index at = list_any (is_at at) (listed index (key_of at.entry))

-- each entry that is there is listed, and no other one
abbrev pub IsExact : Expiries → EntryIndex → Type 0
IsExact entries index = (at : IfaceEntry) → is_listed index at ≡ is_some (get is_at entries at)

-- each entry that ends after the clock is listed, and no other one
abbrev pub IsExactAfter : ℕ → Expiries → EntryIndex → Type 0
IsExactAfter clock entries index = (at : IfaceEntry) → is_listed index at ≡ is_some (remaining clock (get is_at entries at))

-- whether the entry is one of those that are there then
abbrev pub is_kept : List (IfaceEntry × Option Expiry) → IfaceEntry → Bool
is_kept changes at = list_any (λ change. is_some change.1 && is_at change.0 at) changes

-- whether the entry is one of those that are changed
abbrev pub is_changed : List (IfaceEntry × Option Expiry) → IfaceEntry → Bool
is_changed changes at = list_any (λ change. is_at change.0 at) changes

-- whether an entry that was listed or not is listed still, and is listed then only where it was or is changed
abbrev pub lists_again : List (IfaceEntry × Option Expiry) → Bool → Bool → IfaceEntry → Bool
lists_again changes old new at = (not old || new) && (not new || (old || is_changed changes at))

-- whether the entry is there, or none of these
abbrev pub is_left : Expiries → List IfaceEntry → IfaceEntry → Bool
is_left entries changed at = not (list_any (λ own. is_at own at) changed) || is_some (get is_at entries at)

-- the entries that are listed as prunes (S,G,rpt) of the group, where the entry is its (*,G)
abbrev pub pruned_by : EntryIndex → JoinEntry → List IfaceEntry
pruned_by index (Star group) = listed index (Pruned group)
pruned_by index other = []

-- whether the message may end the entry, which is there, and it is listed by one of these
abbrev pub ends_of : Arrival → Expiries → EntryIndex → List JoinEntry → IfaceEntry → Bool
ends_of arrival entries index joined at = ends arrival entries at && list_any (λ entry. list_any (is_at at) (pruned_by index entry)) joined
