use Rattle.std.proofs.Common.{◌≡◌, List, take}
use Rattle.mv_base.specs.Lists.{Among}
use Rattle.mv_base.specs.core_walks.Topology.{Topology}
use Rattle.mv_base.specs.declared.ids.NodeId.{NodeId}
use Rattle.edge_routes.specs.edge_home.Home.{peers_of}
use Rattle.edge_core.specs.State.{home_of}
use Rattle.probe_defs.specs.Given.{messages_in}
use Rattle.probe_defs.specs.Lines.{octets_of}
use Rattle.probe_defs.specs.Probed.{table_of}
use Rattle.probe_defs.specs.declared.probe.ProbeLine.{ProbeLine}
use Rattle.edge_probe.specs.Behind.{IsGiven}
use Rattle.edge_probe.proofs.ToldLemmas.{taken_first}
use Rattle.edge_probe.proofs.told.imports_of.Given as goal

abbrev pub invariant-loop-number : goal.invariant-loop-number
invariant-loop-number l =
    (core : Topology) (peer : NodeId) (done : List ProbeLine) → IsGiven core peer done l.own → Among peer (peers_of (home_of l.own)) →
    l.imports ≡ taken_first l.me (take l.number l.vrfs) (table_of (messages_in (octets_of done)))
