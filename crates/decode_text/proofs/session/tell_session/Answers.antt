use Rattle.std.proofs.Common.{rules, ◌^◌, ◌<◌, [], ◌++◌, length, refl, arith}
use Rattle.std.proofs.lemmas.Result.{IfOk-weaker}
use Rattle.mv_base.specs.Octets.{IsOctets}
use Rattle.decode_text.specs.Sessions.{session_of}
use Rattle.decode_text.proofs.SessionLemmas.{cut_more, fault_told, front_fits, none_told, piece_told, waiting_meet}
use Rattle.decode_text.proofs.session.tell_session.Goals as goal

pub loop-rest-init : goal.loop-rest-init
loop-rest-init g c = record {
  front = [];
  parts = refl;
  told = none_told (session_of g.S.SessionStream.spells g.S.SessionStream.faulty g.S.Message.Lined.lines g.S.Fault.Worded.word)
      g.S.Message.Lined.IsTellable c.requires.session (g.S.SessionStream.state c.args.stream) c.new-text.result c.requires.fresh c.new-text.ensures;
}

pub put_waiting-requires : goal.put_waiting-requires
put_waiting-requires g c =
    waiting_meet g.S.Message.Lined.IsTellable g.S.SessionStream.spells g.S.SessionStream.faulty g.S.SessionStream.limit c.requires.session
    (g.S.SessionStream.state c.loop-rest.stream) c.split_at.result.0.now c.feed-fed.result (g.S.SessionStream.state c.feed-fed.new.self)
    c.loop-rest.invariant.told.none c.feed-fed.ensures

pub returns-in-Err : goal.returns-in-Err
returns-in-Err g c =
    let s = session_of g.S.SessionStream.spells g.S.SessionStream.faulty g.S.Message.Lined.lines g.S.Fault.Worded.word in
    let octets = c.args.octets.now in
    let front = c.loop-rest.invariant.front in
    let piece = c.split_at.result.0.now in
    let thereafter = c.split_at.result.1.now in
    let fits : length octets < 2 ^ 64 = search rules in
    let are : IsOctets octets = λ i. omega (arith, c.type_inv.octets i) in
    let parts =
    cut_more octets front c.loop-rest.rest.now piece thereafter c.min.result c.loop-rest.invariant.parts c.split_at.ensures.front
    c.split_at.ensures.back in
    IfOk-weaker c.tell_fault.result _ _ (λ told h. fault_told (Unit {0}) s g.S.Message.Lined.IsTellable c.requires.session g.S.SessionStream.limit
    octets front (g.S.SessionStream.state c.loop-rest.stream) c.loop-rest.text piece thereafter (g.S.SessionStream.state c.feed-fed.new.self)
    c.in-Err.fault c.put_waiting.new.text told.refused told.text fits are parts c.loop-rest.invariant.told c.in-Err.ensures
    c.in_ok-put_waiting.ensures.lines h) c.tell_fault.ensures

pub loop-rest-preserved : goal.loop-rest-preserved
loop-rest-preserved g c =
    let s = session_of g.S.SessionStream.spells g.S.SessionStream.faulty g.S.Message.Lined.lines g.S.Fault.Worded.word in
    let octets = c.args.octets.now in
    let front = c.loop-rest.invariant.front in
    let piece = c.split_at.result.0.now in
    let thereafter = c.split_at.result.1.now in
    let fits : length octets < 2 ^ 64 = search rules in
    let parts =
    cut_more octets front c.loop-rest.rest.now piece thereafter c.min.result c.loop-rest.invariant.parts c.split_at.ensures.front
    c.split_at.ensures.back in
    record {
      front = front ++ piece;
      parts = parts;
      told = piece_told s g.S.SessionStream.limit front (g.S.SessionStream.state c.loop-rest.stream) c.loop-rest.text piece
          (g.S.SessionStream.state c.feed-fed.new.self) (g.S.SessionStream.state c.put_waiting.new.stream) c.put_waiting.new.text
          (front_fits octets (front ++ piece) thereafter parts fits) c.loop-rest.invariant.told c.in_default.ensures c.in_ok-put_waiting.ensures.taken
          c.in_ok-put_waiting.ensures.lines;
    }
