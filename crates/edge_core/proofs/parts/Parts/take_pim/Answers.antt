use Rattle.edge_core.proofs.parts.Parts.take_pim.Goals as goal

pub call-requires-clause-fits : goal.call-requires-clause-fits
call-requires-clause-fits c = (c.requires.own, c.in_ok-message.ensures.groups)
