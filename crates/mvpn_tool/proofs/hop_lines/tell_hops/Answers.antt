use Rattle.std.proofs.Common.{None, Some}
use Rattle.mvpn_tool.proofs.HopsLemmas.{faulty_of, tells_of, whole_of}
use Rattle.mvpn_tool.proofs.hop_lines.tell_hops.Goals as goal

pub returns-clause-told : goal.returns-clause-told
returns-clause-told c =
    tells_of c.with_fault.result c.in_ok-file.file.hops _ c.in_ok-file.file.fault c.args.octets.now _ c.in_ok-file.ensures.told c.in_ok-text.ensures
    c.as_slice.ensures c.with_fault.ensures

pub returns-clause-whole : goal.returns-clause-whole
returns-clause-whole c has =
    whole_of c.with_fault.result c.in_ok-file.file.fault _ (c.in_ok-file.ensures.only has.0 None has.1).1 c.with_fault.ensures

pub returns-clause-fault : goal.returns-clause-fault
returns-clause-fault c has =
    faulty_of c.with_fault.result c.in_ok-file.file.fault (has.1, has.2) _ (c.in_ok-file.ensures.only has.0 (Some (has.1, has.2)) has.3).1
    c.with_fault.ensures
