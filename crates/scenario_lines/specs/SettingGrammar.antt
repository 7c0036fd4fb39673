-- The lines of settings: what each says, or its first fault.
use Rattle.std.specs.Prelude.{ℕ, ◌&&◌, nat_eq, nat_le, List, [], ◌∷◌, Option, None, Some, Result, Ok, if◌then◌else◌, codes}
use Rattle.std.specs.Cmp.Lexicographic.{pointwise}
use Rattle.mv_base.specs.Number.{number_of, only_if, ◌>>?◌}
use Rattle.line_words.specs.declared.fault.Reason.TheVariants as reasons
use Rattle.line_words.specs.declared.fault.TextFault.{TextFault}
use Rattle.line_words.specs.declared.words.Row.{Row}
use Rattle.line_words.specs.Words.{Placed}
use Rattle.line_words.specs.Forms.{fault, ◌>>=◌, or_fault}
use Rattle.scenario_lines.specs.declared.scenario_draft.line.Line.{Line}
use Rattle.scenario_lines.specs.declared.scenario_draft.line.Line.TheVariants as says
use Rattle.scenario_lines.specs.declared.scenario_draft.setting.Setting.{Setting}
use Rattle.scenario_lines.specs.declared.scenario_draft.setting.Setting.TheVariants as settings
use Rattle.scenario_lines.specs.scenario_draft.Drafted.{Drafted}
use Rattle.scenario_lines.specs.scenario_draft.Settings.{highest, is_given}

-- the setting whose line begins with the text
abbrev pub setting_of : List ℕ → Option Setting
setting_of text =
    if pointwise nat_eq text (codes "life") then Some settings.Life else
    if pointwise nat_eq text (codes "delay") then Some settings.Delay else
    if pointwise nat_eq text (codes "labels") then Some settings.Labels else
    if pointwise nat_eq text (codes "as") then Some settings.System else
    None

-- the value of the setting that a text writes
unfoldable pub value_of : Setting → List ℕ → Option ℕ
value_of setting text = number_of text >>? λ value. only_if (nat_le 1 value && nat_le value (highest setting)) value

-- `life N`, `delay N`, `labels N` or `as N`: a setting is given once
unfoldable pub setting_words : Drafted → Row → Setting → Placed → Placed → Result Line TextFault
setting_words draft row setting first a =
    if is_given draft.given setting then fault row.number first.column reasons.Again else
    or_fault (value_of setting a.text) row a reasons.Number >>= λ value. Ok (says.Setting setting value)

-- a line of a setting
unfoldable pub setting_line : Drafted → Row → Setting → Placed → List Placed → Result Line TextFault
setting_line draft row setting first [] = fault row.number row.after reasons.Count
setting_line draft row setting first (a ∷ []) = setting_words draft row setting first a
setting_line draft row setting first (a ∷ b ∷ more) = fault row.number b.column reasons.Count
