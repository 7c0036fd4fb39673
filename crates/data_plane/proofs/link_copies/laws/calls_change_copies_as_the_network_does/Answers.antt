use Rattle.data_plane.proofs.link_copies.Networks.{left_as, sent_as, aged_as}
use Rattle.data_plane.proofs.link_copies.laws.calls_change_copies_as_the_network_does.Goals as goal

pub returns-clause-left : goal.returns-clause-left
returns-clause-left c = left_as

pub returns-clause-sent : goal.returns-clause-sent
returns-clause-sent c = sent_as

pub returns-clause-aged : goal.returns-clause-aged
returns-clause-aged c = aged_as
