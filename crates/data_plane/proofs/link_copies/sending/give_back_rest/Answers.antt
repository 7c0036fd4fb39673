use Rattle.data_plane.proofs.link_copies.PutLemmas.{one_back, still_held}
use Rattle.data_plane.proofs.link_copies.sending.give_back_rest.Goals as goal

pub loop-holder-preserved : goal.loop-holder-preserved
loop-holder-preserved c =
    one_back c.args.pool.now c.loop-holder.pool c.args.buffer.now c.loop-holder._holder c.loop-holder.invariant
    (still_held c.args.pool.now c.loop-holder.pool c.args.buffer.now c.loop-holder._holder c.loop-holder.invariant c.args.rest c.requires
    c.loop-holder-test.true)
    c.give_back.new.self c.give_back.ensures
