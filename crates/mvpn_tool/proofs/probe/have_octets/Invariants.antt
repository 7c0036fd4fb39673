use Rattle.std.proofs.Common.{take}
use Rattle.mv_base.specs.Octets.{IsOctets}
use Rattle.probe_text.specs.probe_defs.Lines.{octets_of}
use Rattle.mvpn_tool.proofs.probe.have_octets.Given as goal

-- those of the lines so far are octets
abbrev pub invariant-loop-line : goal.invariant-loop-line
invariant-loop-line l = IsOctets (octets_of (take l.line-index l.all))
