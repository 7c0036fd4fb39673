use Rattle.std.proofs.Common.{◌≡◌, take}
use Rattle.std.specs.List.{flat_map}
use Rattle.std.specs.FinMap as maps
use Rattle.edge_defs.specs.Imported.{taken_from}
use Rattle.edge_routing.specs.control_laws.Control.{control_of}
use Rattle.edge_core.specs.Listed.{admitted_keys}
use Rattle.edge_core.proofs.lists.keys_from.Given as goal

abbrev pub invariant-loop-peer : goal.invariant-loop-peer
invariant-loop-peer l =
    l.keys ≡ flat_map (λ peer. admitted_keys l.vrf (maps.entries (taken_from (control_of l.control) peer))) (take l.peer-index l.peer-items)
