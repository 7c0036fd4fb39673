use Rattle.std.proofs.Common.{refl}
use Rattle.edge_defs.proofs.Example.{originates, chooses, leaf, wants}
use Rattle.edge_defs.proofs.laws.worked_edges.Goals as goal

pub returns : goal.returns
returns c =
    record {
      originates = originates;
      inclusive_octets = refl;
      unicast_octets = refl;
      joins = refl;
      joins_by = λ rd import source_as. refl;
      tunnel =
          refl;
      chooses = chooses;
      leaf = leaf;
      wants = wants;
    }
