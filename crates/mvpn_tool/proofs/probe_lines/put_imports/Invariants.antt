use Rattle.std.proofs.Common.{◌≡◌, ◌++◌, take}
use Rattle.std.specs.List.{flat_map}
use Rattle.probe_text.specs.probe_defs.Imports.{imports_by}
use Rattle.mvpn_tool.specs.ProbeLines.{import_line}
use Rattle.mvpn_tool.proofs.probe_lines.put_imports.Given as goal

-- the lines of the VRFs so far were appended
abbrev pub invariant-loop-own : goal.invariant-loop-own
invariant-loop-own l = l.out ≡ l.initial.out ++ flat_map (import_line l.scenario) (flat_map imports_by (take l.own-index l.vrfs))
