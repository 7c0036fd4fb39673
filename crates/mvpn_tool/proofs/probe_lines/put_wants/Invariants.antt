use Rattle.std.proofs.Common.{◌≡◌, ◌++◌, take}
use Rattle.std.specs.List.{flat_map}
use Rattle.mvpn_tool.specs.ProbeLines.{want_line}
use Rattle.mvpn_tool.proofs.probe_lines.put_wants.Given as goal

-- the lines of the tunnels so far were appended
abbrev pub invariant-loop-fec : goal.invariant-loop-fec
invariant-loop-fec l = l.out ≡ l.initial.out ++ flat_map want_line (take l.fec-index l.fecs)
