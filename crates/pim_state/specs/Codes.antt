-- The code of the entries of an edge, by which a model of them is told apart.
use Rattle.std.specs.Prelude.{◌≡◌, ℕ, List, ◌⊎◌, Option, None, Some, refl}
use Rattle.std.specs.FinMap as map
use Rattle.std.specs.Coded.{Coded, code_by, coded×, coded⊎, coded_list, coded_ℕ, coded_option}
use mathlib.Core.Logic.{inl, inr}
use Rattle.mv_base.specs.declared.addr.Addr.{Addr}
use Rattle.mv_base.specs.declared.addr.Addr.TheVariants.{V4, V6}
use Rattle.scenario_defs.specs.declared.event.JoinEntry.{JoinEntry}
use Rattle.scenario_defs.specs.declared.event.JoinEntry.TheVariants.{Star, Source, Rpt}
use Rattle.scenario_defs.specs.declared.event.IfaceEntry.{IfaceEntry}
use Rattle.pim_defs.specs.declared.expiry.Expiry.{Expiry}
use Rattle.pim_defs.specs.declared.expiry.Expiry.TheVariants.{At, Never}
use Rattle.pim_defs.specs.Entries.{Entries}

abbrev addr_to : Addr → List ℕ ⊎ List ℕ
addr_to (V4 octets) = inl octets
addr_to (V6 octets) = inr octets

abbrev addr_from : List ℕ ⊎ List ℕ → Addr
addr_from (inl octets) = V4 octets
addr_from (inr octets) = V6 octets

pub addr_back : (addr : Addr) → addr_from (addr_to addr) ≡ addr
addr_back (V4 octets) = refl
addr_back (V6 octets) = refl

abbrev addr_code : Coded Addr
addr_code = code_by (List ℕ ⊎ List ℕ) (coded⊎ (coded_list coded_ℕ) (coded_list coded_ℕ)) addr_to addr_from addr_back

abbrev entry_to : JoinEntry → Addr ⊎ ((Addr × Addr) ⊎ (Addr × Addr))
entry_to (Star group) = inl group
entry_to (Source source group) = inr (inl (source, group))
entry_to (Rpt source group) = inr (inr (source, group))

abbrev entry_from : Addr ⊎ ((Addr × Addr) ⊎ (Addr × Addr)) → JoinEntry
entry_from (inl group) = Star group
entry_from (inr (inl both)) = Source both.0 both.1
entry_from (inr (inr both)) = Rpt both.0 both.1

pub entry_back : (entry : JoinEntry) → entry_from (entry_to entry) ≡ entry
entry_back (Star group) = refl
entry_back (Source source group) = refl
entry_back (Rpt source group) = refl

abbrev entry_code : Coded JoinEntry
entry_code =
    code_by (Addr ⊎ ((Addr × Addr) ⊎ (Addr × Addr)))
    (coded⊎ addr_code (coded⊎ (coded× addr_code addr_code) (coded× addr_code addr_code))) entry_to entry_from entry_back

abbrev iface_entry_code : Coded IfaceEntry
iface_entry_code =
    code_by (ℕ × JoinEntry) (coded× coded_ℕ entry_code) (λ at. (at.iface.0, at.entry))
    (λ pair. record { iface = record { 0 = pair.0 }; entry = pair.1 }) (λ _. refl)

abbrev expiry_to : Expiry → Option ℕ
expiry_to (At moment) = Some moment
expiry_to Never = None

abbrev expiry_from : Option ℕ → Expiry
expiry_from (Some moment) = At moment
expiry_from None = Never

pub expiry_back : (expiry : Expiry) → expiry_from (expiry_to expiry) ≡ expiry
expiry_back (At moment) = refl
expiry_back Never = refl

abbrev expiry_code : Coded Expiry
expiry_code = code_by (Option ℕ) (coded_option coded_ℕ) expiry_to expiry_from expiry_back

abbrev pub entries_code : Coded Entries
entries_code = map.code iface_entry_code expiry_code
