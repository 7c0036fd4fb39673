use Rattle.std.proofs.Common.{rules}
use Rattle.std.proofs.lemmas.Fn.{filter_same}
use Rattle.data_plane.specs.link_copies.CopiesData.{is_recent}
use Rattle.data_plane.proofs.link_copies.queue.drop_old.Goals as goal

pub returns : goal.returns
returns c = filter_same _ (is_recent c.args.now c.args.life) _ (λ x b f t. search rules) _ _ c.retain.ensures.filtered
