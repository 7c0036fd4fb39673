use Rattle.edge_tables.specs.Tables.{advert_of}
use Rattle.edge_tables.proofs.WrittenLemmas.{advert_short, advert_writable}
use Rattle.edge_tables.proofs.writing.advert.Goals as goal

pub returns-in_err-comms-clause-short : goal.returns-in_err-comms-clause-short
returns-in_err-comms-clause-short c =
    let writable = advert_writable c.args.key.now c.args.value.now c.key-named.ensures.writable c.next_hop-next_hop.ensures.writable in
    advert_short (advert_of c.args.key.now c.args.value.now) writable c.comms.ensures.few

pub returns-clause-short : goal.returns-clause-short
returns-clause-short c =
    let writable = advert_writable c.args.key.now c.args.value.now c.key-named.ensures.writable c.next_hop-next_hop.ensures.writable in
    advert_short (advert_of c.args.key.now c.args.value.now) writable c.comms.ensures.few
