use Rattle.data_plane.proofs.link_copies.Holders.{kept_lives, current_lives, two_copies, copy_and_current}
use Rattle.data_plane.proofs.link_copies.laws.copies_of_one_datagram_share_its_buffer.Goals as goal

pub returns-clause-kept_lives : goal.returns-clause-kept_lives
returns-clause-kept_lives c = kept_lives

pub returns-clause-current_lives : goal.returns-clause-current_lives
returns-clause-current_lives c = current_lives

pub returns-clause-two_copies : goal.returns-clause-two_copies
returns-clause-two_copies c = two_copies

pub returns-clause-copy_and_current : goal.returns-clause-copy_and_current
returns-clause-copy_and_current c = copy_and_current
