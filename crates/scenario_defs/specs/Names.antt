-- The names of things.
use Rattle.std.specs.Prelude.{ℕ, ◌==◌, ◌||◌, ◌&&◌, Bool, nat_lt, nat_le, List, length, slice_index, slice_get, Option, option_map}
use Rattle.std.specs.List.{list_all}
use Rattle.scenario_defs.specs.declared.scenario.Scenario.{Scenario}
use Rattle.scenario_defs.specs.declared.scenario.Thing.{Thing}
use Rattle.scenario_defs.specs.declared.scenario.Thing.TheVariants as things

-- whether the octet is a letter
abbrev pub is_letter : ℕ → Bool
is_letter b = (nat_le 65 b && nat_le b 90) || (nat_le 97 b && nat_le b 122)

-- whether the octet is a letter, a digit, an underscore or a hyphen
abbrev pub is_name_octet : ℕ → Bool
is_name_octet b = is_letter b || (nat_le 48 b && nat_le b 57) || b == 95 || b == 45

-- whether the text is 1 to 16 letters, digits, underscores and hyphens, a letter first
abbrev pub is_name : List ℕ → Bool
is_name text = nat_lt 0 (length text) && nat_le (length text) 16 && is_letter (slice_index text 0) && list_all is_name_octet text

-- the name of a thing, where the scenario has it
abbrev pub name_of : Scenario → Thing → Option (List ℕ)
name_of scenario (things.Node id) = option_map (λ node. node.name) (slice_get scenario.nodes id.0)
name_of scenario (things.Vrf id) = option_map (λ vrf. vrf.name) (slice_get scenario.vrfs id.0)
name_of scenario (things.Site id) = option_map (λ site. site.name) (slice_get scenario.sites id.0)
name_of scenario (things.Iface id) = option_map (λ iface. iface.name) (slice_get scenario.ifaces id.0)
