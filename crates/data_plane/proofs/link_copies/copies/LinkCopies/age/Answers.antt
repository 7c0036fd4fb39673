use Rattle.std.proofs.Common.{sym, ◌∙◌, arith}
use Rattle.indexmap.specs.IndexMap.{index_map_len}
use Rattle.data_plane.proofs.link_copies.AgeLemmas.{length_sum, held_most, age_shared, age_seen}
use Rattle.data_plane.proofs.link_copies.copies.LinkCopies.age.Goals as goal

pub age-requires-clause-counted : goal.age-requires-clause-counted
age-requires-clause-counted c = c.self.invariant.1 ∙ length_sum c.self.inside.ways c.self.inside.current c.self.inside.pool c.self.invariant.0

pub age-requires-clause-held : goal.age-requires-clause-held
age-requires-clause-held c = held_most c.self.inside.ways c.self.inside.current c.self.inside.pool c.self.invariant.0 c.self.invariant.2

pub invariant_of-self : goal.invariant_of-self
invariant_of-self c =
    let was = c.self.inside in (
      c.age.ensures.unique,
      c.age.ensures.counted ∙ sym (length_sum c.age.new.ways was.current c.age.new.pool c.age.ensures.unique),
      age_shared was.ways c.age.new.ways was.current was.pool c.age.new.pool c.args.now c.args.life (index_map_len was.ways) c.age.ensures.aged
          c.self.invariant.0 c.age.ensures.unique c.age.ensures.held c.age.ensures.fades c.self.invariant.2,
    )

pub returns-clause-ways : goal.returns-clause-ways
returns-clause-ways c =
    let was = c.self.inside in
    age_seen was.ways c.age.new.ways was.current was.pool c.age.new.pool c.args.now c.args.life (index_map_len was.ways) c.age.ensures.aged
    (omega arith) c.args.self.now c.self.view_is
