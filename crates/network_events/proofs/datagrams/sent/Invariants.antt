use Rattle.std.proofs.Common.{take}
use Rattle.network_events.proofs.DatagramLemmas.{OnEntering}
use Rattle.network_events.proofs.datagrams.sent.Given as goal

abbrev pub invariant-loop-vrf : goal.invariant-loop-vrf
invariant-loop-vrf l = OnEntering l.fn.site l.fn.datagram (take l.vrf-index l.own) l.initial.network l.initial.lines l.lines l.network
