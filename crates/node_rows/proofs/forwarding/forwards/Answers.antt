use Rattle.std.proofs.Common.{◌∙◌, ap}
use Rattle.std.specs.FinMap as maps
use Rattle.label_forwarding.specs.Hops.{hop_cmp}
use Rattle.label_forwarding.specs.FibData.{FibData, hop}
use Rattle.node_rows.proofs.forwarding.forwards.Goals as goal

pub map-requires : goal.map-requires
map-requires g c =
    ap (λ (f : FibData). maps.get f.pairs (hop (record { 0 = 1 }) 17)) c.of-fib.ensures ∙ maps.get-empty hop_cmp (hop (record { 0 = 1 }) 17)
