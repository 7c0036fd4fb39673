-- What the `out` lines of a report say: which datagrams left where.
use Rattle.std.specs.Prelude.{◌≡◌, ℕ, ◌<◌, ◌||◌, Bool, false, not, List, take, length, slice_get, Option, None, Some, is_some, option_map, if◌then◌else◌}
use Rattle.std.specs.List.{list_any}
use Rattle.std.specs.declared.hash.FoldHasher.{FoldHasher}
use Rattle.std.specs.declared.hash.BuildHasherDefault.{BuildHasherDefault}
use Rattle.indexmap.specs.IndexMap.{IndexMap, get, IsUnique}
use Rattle.audit_events.specs.mv_base.declared.ids.IfaceId.{IfaceId}
use Rattle.audit_events.specs.scenario_defs.declared.report.ReportLine.{ReportLine}
use Rattle.audit_events.specs.scenario_defs.declared.report.ReportLine.TheVariants as lines
use Rattle.audit_events.specs.mvpn_model.Report.{is_out_at}
use Rattle.audit_events.specs.audit_defs.declared.verdict.Numbered.{Numbered}
use Rattle.mvpn_audit.specs.contracts.exits.ExitPartialEq.TheImpl as exits_equal
use Rattle.mvpn_audit.specs.declared.exits.Exit.{Exit}
use Rattle.mvpn_audit.specs.declared.exits.OutLines.{OutLines}

-- whether both are one, as `==` tells it
abbrev pub is_exit : Exit → Exit → Bool
is_exit = exits_equal.ghosts.eq

abbrev pub exit : ℕ → IfaceId → Exit
exit number iface = record { number = number; iface = iface }

-- the datagrams that left, and where; of each, whether it was asked for there
abbrev pub ExitMap : Type 0
ExitMap = IndexMap Exit Bool (BuildHasherDefault FoldHasher)

-- ---- what lines say

-- whether the line says that the datagram left there
abbrev pub says : ReportLine → Exit → Bool
says line own = is_out_at own.number own.iface line

-- whether one of the lines does
abbrev pub has_out : List Numbered → Exit → Bool
has_out all own = list_any (λ line. says line.value own) all

-- whether the line is an `out` line, and one of these has its number and interface
abbrev pub is_repeat : List Numbered → ReportLine → Bool
is_repeat all (lines.Out number iface octets) = has_out all (exit number iface)
is_repeat all other = false

-- These are the exits that the lines say. Of none is it known yet that it was asked for.
pub record AreExits (all : List Numbered) (exits : ExitMap) : Type 0 where
  pub each : (own : Exit) → get is_exit exits own ≡ (if has_out all own then Some false else None)
  pub unique : IsUnique is_exit exits

-- These say of the first lines which of them repeat an earlier one.
pub record AreRepeats (all : List Numbered) (count : ℕ) (repeats : List Bool) : Type 0 where
  pub few : length repeats ≡ count
  pub each :
      (place : ℕ) (numbered : Numbered) → place < count → slice_get all place ≡ Some numbered →
      slice_get repeats place ≡ Some (is_repeat (take place all) numbered.value)

-- That is what the first lines say.
pub record AreOutLines (all : List Numbered) (count : ℕ) (outs : OutLines) : Type 0 where
  pub exits : AreExits (take count all) outs.exits
  pub repeats : AreRepeats all count outs.repeats

-- ---- how they are noted

-- what is noted of an exit, if a line says it
abbrev pub noted_if : Bool → Option Bool → Option Bool
noted_if said before = if said then Some false else before

-- whether the line is an `out` line, and its exit is noted
abbrev pub has_exit : ExitMap → ReportLine → Bool
has_exit exits (lines.Out number iface octets) = is_some (get is_exit exits (exit number iface))
has_exit exits other = false

-- what is noted of an exit, if the datagram is asked for there
abbrev pub asked_if : Bool → Option Bool → Option Bool
asked_if asked before = option_map (λ earlier. earlier || asked) before

-- whether it is an exit of the datagram of that number at one of the interfaces
abbrev pub asks : ℕ → List IfaceId → Exit → Bool
asks number asked own = list_any (λ iface. is_exit (exit number iface) own) asked

-- whether the datagram of that number has no exit at one of the interfaces
abbrev pub lacks_in : ExitMap → ℕ → List IfaceId → Bool
lacks_in exits number asked = list_any (λ iface. not (is_some (get is_exit exits (exit number iface)))) asked
