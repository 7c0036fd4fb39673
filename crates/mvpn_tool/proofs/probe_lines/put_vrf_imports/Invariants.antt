use Rattle.std.proofs.Common.{◌≡◌, ◌++◌, take}
use Rattle.std.specs.List.{flat_map}
use Rattle.probe_text.specs.probe_defs.Imports.{by_keys}
use Rattle.mvpn_tool.specs.ProbeLines.{import_line}
use Rattle.mvpn_tool.proofs.probe_lines.put_vrf_imports.Given as goal

-- the lines of the routes so far were appended
abbrev pub invariant-loop-key : goal.invariant-loop-key
invariant-loop-key l = l.out ≡ l.initial.out ++ flat_map (import_line l.scenario) (by_keys l.own.vrf (take l.key-index l.keys))
