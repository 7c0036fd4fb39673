-- The lines of a scenario: what each says, or its first fault.
use Rattle.std.specs.Prelude.{true, false, nat_eq, List, [], ◌∷◌, length, None, Some, Result, Ok, if◌then◌else◌, codes}
use Rattle.std.specs.Cmp.Lexicographic.{pointwise}
use Rattle.mv_base.specs.core_walks.Reached.{is_connected}
use Rattle.line_words.specs.declared.fault.Reason.TheVariants as reasons
use Rattle.line_words.specs.declared.fault.TextFault.{TextFault}
use Rattle.line_words.specs.declared.words.Row.{Row}
use Rattle.line_words.specs.Words.{Placed}
use Rattle.line_words.specs.Forms.{fault, ◌>>=◌}
use Rattle.scenario_lines.specs.declared.scenario_draft.line.Line.{Line}
use Rattle.scenario_lines.specs.declared.scenario_draft.line.Line.TheVariants as says
use Rattle.scenario_lines.specs.scenario_draft.Drafted.{Drafted}
use Rattle.scenario_lines.specs.declared.scenario_lines.ScenarioWord.{ScenarioWord}
use Rattle.scenario_lines.specs.declared.scenario_lines.ScenarioWord.TheVariants as word_kinds
use Rattle.scenario_lines.specs.SettingGrammar.{setting_of, setting_line}
use Rattle.scenario_lines.specs.NodeGrammar.{node_line, link_line}
use Rattle.scenario_lines.specs.VrfGrammar.{vrf_line}
use Rattle.scenario_lines.specs.SiteGrammar.{site_line, iface_line}

-- what a first word begins
unfoldable pub scenario_word : Row → Placed → Result ScenarioWord TextFault
scenario_word row first =
    if pointwise nat_eq first.text (codes "edge") then Ok word_kinds.Edge else
    if pointwise nat_eq first.text (codes "core") then Ok word_kinds.Core else
    if pointwise nat_eq first.text (codes "link") then Ok word_kinds.Link else
    if pointwise nat_eq first.text (codes "vrf") then Ok word_kinds.Vrf else
    if pointwise nat_eq first.text (codes "site") then Ok word_kinds.Site else
    if pointwise nat_eq first.text (codes "iface") then Ok word_kinds.Iface else
    if pointwise nat_eq first.text (codes "events") then Ok word_kinds.Events else
    elim (setting_of first.text) [
      | Some setting ↦ Ok (word_kinds.Setting setting)
      | None ↦ fault row.number first.column reasons.Word
    ]

-- the line that ends the scenario, whose core is connected
unfoldable pub events_line : Drafted → Row → List Placed → Result Line TextFault
events_line draft row [] =
    if is_connected (length draft.scenario.nodes) draft.scenario.links then Ok says.Events else fault row.number 1 reasons.Apart
events_line draft row (a ∷ more) = fault row.number a.column reasons.Count

-- a line by what its first word begins
unfoldable pub scenario_words : Drafted → Row → ScenarioWord → Placed → List Placed → Result Line TextFault
scenario_words draft row word_kinds.Edge first rest = node_line draft row true first rest
scenario_words draft row word_kinds.Core first rest = node_line draft row false first rest
scenario_words draft row word_kinds.Link first rest = link_line draft row first rest
scenario_words draft row word_kinds.Vrf first rest = vrf_line draft row first rest
scenario_words draft row word_kinds.Site first rest = site_line draft row first rest
scenario_words draft row word_kinds.Iface first rest = iface_line draft row first rest
scenario_words draft row (word_kinds.Setting setting) first rest = setting_line draft row setting first rest
scenario_words draft row word_kinds.Events first rest = events_line draft row rest

-- a line of the scenario
unfoldable pub scenario_line : Drafted → Row → Placed → List Placed → Result Line TextFault
scenario_line draft row first rest = scenario_word row first >>= λ kind. scenario_words draft row kind first rest
