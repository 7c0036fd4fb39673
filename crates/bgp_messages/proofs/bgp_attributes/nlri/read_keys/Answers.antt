use Rattle.std.proofs.Common.{◌<◌, ◌+◌, List, length, sym, subst}
use Rattle.mv_base.proofs.framing.Loops.{OnWay, tail_of}
use Rattle.bgp_messages.specs.declared.bgp_attributes.key.Key.{Key}
use Rattle.bgp_messages.specs.bgp_attributes.Reading.{key_front}
use Rattle.bgp_messages.proofs.bgp_attributes.NlriLemmas.{tail_more, one_more, one_bad, no_more}
use Rattle.bgp_messages.proofs.bgp_attributes.nlri.read_keys.Goals as goal

pub keys-preserved : goal.keys-preserved
keys-preserved c =
    let P : List Key → Type 0 = λ ks. OnWay (key_front c.args.family) c.args.octets.now (c.keys.passed + c.in-Ok.len) ks in
    subst P (sym c.in_ok-push-in-Ok.ensures.ok) (one_more c.args.family c.args.octets.now c.keys.passed c.in-Ok.len c.keys.keys c.in-Ok.key
    c.keys.invariant c.in-Ok.ensures.len.0 c.in-Ok.ensures.len.1 (sym c.in-Ok.ensures.value))

pub returns-in-Err-clause-value : goal.returns-in-Err-clause-value
returns-in-Err-clause-value c =
    let some : 0 < length (tail_of c.args.octets.now c.keys.passed) = tail_more c.args.octets.now c.keys.passed c.keys-test.true in
    one_bad c.args.family c.args.place c.args.octets.now c.keys.passed c.keys.keys c.in-Err.bad c.keys.invariant some c.in-Err.ensures.offset
    (sym c.in-Err.ensures.value)

pub returns-clause-value : goal.returns-clause-value
returns-clause-value c = no_more c.args.family c.args.place c.args.octets.now c.keys.passed c.keys.keys c.keys.invariant c.keys-test.false
