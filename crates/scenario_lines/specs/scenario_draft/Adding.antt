-- What a line adds to what the lines before it declared.
use Rattle.std.specs.Prelude.{◌≡◌, ℕ, ◌≤◌, true, false, nat_eq, List, [], ◌∷◌, ◌++◌, None}
use Rattle.std.specs.Map.{lookup}
use Rattle.std.specs.Cmp.Lexicographic.{pointwise}
use Rattle.scenario_defs.specs.declared.scenario.Thing.TheVariants as things
use Rattle.scenario_lines.specs.declared.scenario_draft.line.Line.{Line}
use Rattle.scenario_lines.specs.declared.scenario_draft.line.Line.TheVariants as says
use Rattle.scenario_lines.specs.scenario_draft.Drafted.{Drafted}
use Rattle.scenario_lines.specs.scenario_draft.Settings.{highest, none_given, is_given, with_given, with_setting}

-- nothing is declared, and each setting has its default
abbrev pub empty_draft : Drafted
empty_draft = record {
  scenario = record { life = 2; delay = 3; labels = 4096; system = 65000; nodes = []; links = []; vrfs = []; sites = []; ifaces = [] };
  given = none_given;
  begun = false;
  events = [];
  names = [];
}

-- No thing has the name.
abbrev pub IsFree : Drafted → List ℕ → Type 0
IsFree draft name = lookup (pointwise nat_eq name) draft.names ≡ None

-- The name that a line declares is new, and so is a setting, whose value is within its bounds.
abbrev pub IsNew : Drafted → Line → Type 0
IsNew draft (says.Setting setting value) = (is_given draft.given setting ≡ false) × (value ≤ highest setting)
IsNew draft (says.Node id node) = IsFree draft node.name
IsNew draft (says.Vrf id vrf) = IsFree draft vrf.name
IsNew draft (says.Site id site) = IsFree draft site.name
IsNew draft (says.Iface id iface) = IsFree draft iface.name
IsNew draft other = Unit {0}

-- what is declared, with what the line of that number says
abbrev pub added : Drafted → ℕ → Line → Drafted
added draft number says.Blank = draft
added draft number (says.Setting setting value) =
    record draft { scenario = with_setting draft.scenario setting value; given = with_given draft.given setting }
added draft number (says.Node id node) = record draft {
  scenario = record draft.scenario { nodes = draft.scenario.nodes ++ node ∷ [] };
  names = draft.names ++ (node.name, (things.Node id)) ∷ [];
}
added draft number (says.Link link) = record draft { scenario = record draft.scenario { links = draft.scenario.links ++ link ∷ [] } }
added draft number (says.Vrf id vrf) = record draft {
  scenario = record draft.scenario { vrfs = draft.scenario.vrfs ++ vrf ∷ [] };
  names = draft.names ++ (vrf.name, (things.Vrf id)) ∷ [];
}
added draft number (says.Site id site) = record draft {
  scenario = record draft.scenario { sites = draft.scenario.sites ++ site ∷ [] };
  names = draft.names ++ (site.name, (things.Site id)) ∷ [];
}
added draft number (says.Iface id iface) = record draft {
  scenario = record draft.scenario { ifaces = draft.scenario.ifaces ++ iface ∷ [] };
  names = draft.names ++ (iface.name, (things.Iface id)) ∷ [];
}
added draft number says.Events = record draft { begun = true }
added draft number (says.Event event) = record draft { events = draft.events ++ (record { line = number; event = event }) ∷ [] }
