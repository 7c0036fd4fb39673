use Rattle.data_plane.proofs.link_copies.PutLemmas.{OnRest}
use Rattle.data_plane.proofs.link_copies.sending.give_back_rest.Given as goal

abbrev pub invariant-loop-holder : goal.invariant-loop-holder
invariant-loop-holder l = OnRest l.fn.pool l.fn.buffer l._holder l.pool
