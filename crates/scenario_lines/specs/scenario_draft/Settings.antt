-- The settings of a scenario: their bounds, and which were given.
use Rattle.std.specs.Prelude.{ℕ, Bool, true, false}
use Rattle.scenario_defs.specs.declared.scenario.Scenario.{Scenario}
use Rattle.scenario_lines.specs.declared.scenario_draft.setting.Setting.{Setting}
use Rattle.scenario_lines.specs.declared.scenario_draft.setting.Setting.TheVariants as settings
use Rattle.scenario_lines.specs.declared.scenario_draft.setting.Given.{Given}

-- the highest value of a setting
abbrev pub highest : Setting → ℕ
highest settings.Life = 1000
highest settings.Delay = 1000
highest settings.Labels = 65536
highest settings.System = 65535

-- no setting was given
abbrev pub none_given : Given
none_given = record { life = false; delay = false; labels = false; system = false }

-- whether the setting was given
abbrev pub is_given : Given → Setting → Bool
is_given given settings.Life = given.life
is_given given settings.Delay = given.delay
is_given given settings.Labels = given.labels
is_given given settings.System = given.system

-- which settings were given, with one more
abbrev pub with_given : Given → Setting → Given
with_given given settings.Life = record given { life = true }
with_given given settings.Delay = record given { delay = true }
with_given given settings.Labels = record given { labels = true }
with_given given settings.System = record given { system = true }

-- the scenario with that value of the setting
abbrev pub with_setting : Scenario → Setting → ℕ → Scenario
with_setting scenario settings.Life value = record scenario { life = value }
with_setting scenario settings.Delay value = record scenario { delay = value }
with_setting scenario settings.Labels value = record scenario { labels = value }
with_setting scenario settings.System value = record scenario { system = value }
