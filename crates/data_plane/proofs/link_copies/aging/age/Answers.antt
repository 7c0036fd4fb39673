use Rattle.std.proofs.Common.{List, sym, ap, subst, ◌∙◌, arith}
use Rattle.std.specs.List.{IsDistinct}
use Rattle.mv_base.specs.declared.ids.NodeId.{NodeId}
use Rattle.std.specs.Map.{keys_of}
use Rattle.data_plane.specs.link_copies.Kept.{is_way, aged_at}
use Rattle.data_plane.proofs.link_copies.Pools.{fades_twice}
use Rattle.data_plane.proofs.link_copies.AgedWays.{aged-more, aged-keys}
use Rattle.data_plane.proofs.link_copies.aging.age.Goals as goal

pub loop-index-preserved : goal.loop-index-preserved
loop-index-preserved c = record {
  aged = c.age_at.ensures.aged ∙ ap (aged_at c.args.now c.args.life c.loop-index.index) c.loop-index.invariant.aged
      ∙ aged-more c.args.now c.args.life c.args.ways.now.entries c.loop-index.index;
  counted = c.age_at.ensures.counted;
  held = λ name. omega (arith, c.age_at.ensures.held name, c.loop-index.invariant.held name);
  fades = fades_twice c.args.pool.now c.loop-index.pool c.age_at.new.pool c.loop-index.invariant.fades c.age_at.ensures.fades;
}

pub returns-clause-unique : goal.returns-clause-unique
returns-clause-unique c =
    subst (λ (ways : List (NodeId × NodeId)). IsDistinct is_way ways)
    (sym (ap keys_of c.loop-index.invariant.aged ∙ aged-keys c.args.now c.args.life c.args.ways.now.entries c.loop-index.index))
    c.len-index-end.ensures.unique
