use Rattle.std.proofs.Common.{◌∙◌, sym, false}
use Rattle.network_acts.specs.Instant.{Instant, IsWorld, OfPlane}
use Rattle.network_acts.specs.Words.{IsLost, IsWithin}
use Rattle.network_events.specs.Meeting.{IsResting}
use Rattle.network_events.proofs.FoundLemmas.{first_in, healed_joined, parted_in, second_in}
use Rattle.network_events.proofs.HealLemmas.{IsParted, first_lost, first_stops, heals, second_lost, second_stops, some_raisable, some_second}
use Rattle.network_events.proofs.NodeLemmas.{some_as}
use Rattle.network_events.proofs.sessions.heal_session.Goals as goal

pub returns-then-is_joined : goal.returns-then-is_joined
returns-then-is_joined c =
    healed_joined c.args.session c.args.network.now (λ at is. sym (c.is_joined.ensures at is) ∙ c.if-is_joined.true) c.args.lines.now

pub is_up-first-requires : goal.is_up-first-requires
is_up-first-requires c = record {
  network =
      some_as IsResting (OfPlane (IsWithin c.args.session.a)) c.args.network.now
      (λ at resting is. first_in c.args.session c.args.network.now c.requires.way at is) c.requires.network;
}

pub is_up-second-requires : goal.is_up-second-requires
is_up-second-requires c = record {
  network =
      some_as IsResting (OfPlane (IsWithin c.args.session.b)) c.args.network.now
      (λ at resting is. second_in c.args.session c.args.network.now c.requires.way at is) c.requires.network;
}

pub notice_if-requires : goal.notice_if-requires
notice_if-requires c =
    let s = c.args.session in
    let old = c.args.network.now in
    let first = c.is_up-first.result in
    let second = c.is_up-second.result in
    let parted : (at : Instant) → IsResting at → IsWorld at old → IsParted s first second at =
    parted_in s old first second c.requires.way (λ at is. sym (c.is_joined.ensures at is) ∙ c.if-is_joined.false)
    (λ at is. c.is_up-first.ensures at (first_in s old c.requires.way at is) is)
    (λ at is. c.is_up-second.ensures at (second_in s old c.requires.way at is) is) in
    record {
      network =
          some_as IsResting (OfPlane (IsLost s.kind s.a s.b)) old (λ at resting is. first_lost s first second at old (parted at resting is) is)
          c.requires.network;
    }

pub returns-in-Err : goal.returns-in-Err
returns-in-Err c =
    let s = c.args.session in
    let old = c.args.network.now in
    let first = c.is_up-first.result in
    let second = c.is_up-second.result in
    let parted : (at : Instant) → IsResting at → IsWorld at old → IsParted s first second at =
    parted_in s old first second c.requires.way (λ at is. sym (c.is_joined.ensures at is) ∙ c.if-is_joined.false)
    (λ at is. c.is_up-first.ensures at (first_in s old c.requires.way at is) is)
    (λ at is. c.is_up-second.ensures at (second_in s old c.requires.way at is) is) in
    first_stops s first second old c.args.lines.now parted c.notice_if.new.network c.notice_if.new.lines c.in-Err.halt c.in-Err.ensures

pub notice_if-requires-2 : goal.notice_if-requires-2
notice_if-requires-2 c =
    let s = c.args.session in
    let old = c.args.network.now in
    let first = c.is_up-first.result in
    let second = c.is_up-second.result in
    let parted : (at : Instant) → IsResting at → IsWorld at old → IsParted s first second at =
    parted_in s old first second c.requires.way (λ at is. sym (c.is_joined.ensures at is) ∙ c.if-is_joined.false)
    (λ at is. c.is_up-first.ensures at (first_in s old c.requires.way at is) is)
    (λ at is. c.is_up-second.ensures at (second_in s old c.requires.way at is) is) in
    record {
      network =
          some_as (IsParted s false second) (OfPlane (IsLost s.kind s.b s.a)) c.notice_if.new.network
          (λ at p is. second_lost s false second at c.notice_if.new.network p is)
          (some_second s first second old c.args.lines.now parted c.notice_if.new.network c.notice_if.new.lines c.in_default.ensures
          c.requires.network);
    }

pub returns-in-Err-notice_if : goal.returns-in-Err-notice_if
returns-in-Err-notice_if c =
    let s = c.args.session in
    let old = c.args.network.now in
    let first = c.is_up-first.result in
    let second = c.is_up-second.result in
    let parted : (at : Instant) → IsResting at → IsWorld at old → IsParted s first second at =
    parted_in s old first second c.requires.way (λ at is. sym (c.is_joined.ensures at is) ∙ c.if-is_joined.false)
    (λ at is. c.is_up-first.ensures at (first_in s old c.requires.way at is) is)
    (λ at is. c.is_up-second.ensures at (second_in s old c.requires.way at is) is) in
    second_stops s first second old c.args.lines.now parted c.notice_if.new.network c.notice_if.new.lines c.in_default.ensures
    c.notice_if-2.new.network c.notice_if-2.new.lines
    c.in-Err-notice_if.halt c.in-Err-notice_if.ensures

pub raise_ends-requires : goal.raise_ends-requires
raise_ends-requires c =
    let s = c.args.session in
    let old = c.args.network.now in
    let first = c.is_up-first.result in
    let second = c.is_up-second.result in
    let parted : (at : Instant) → IsResting at → IsWorld at old → IsParted s first second at =
    parted_in s old first second c.requires.way (λ at is. sym (c.is_joined.ensures at is) ∙ c.if-is_joined.false)
    (λ at is. c.is_up-first.ensures at (first_in s old c.requires.way at is) is)
    (λ at is. c.is_up-second.ensures at (second_in s old c.requires.way at is) is) in
    record {
      network =
          some_raisable s first second old c.args.lines.now parted c.notice_if.new.network c.notice_if.new.lines c.in_default.ensures
          c.notice_if-2.new.network c.notice_if-2.new.lines
          c.in_default-notice_if.ensures c.requires.network;
    }

pub returns : goal.returns
returns c =
    let s = c.args.session in
    let old = c.args.network.now in
    let first = c.is_up-first.result in
    let second = c.is_up-second.result in
    let parted : (at : Instant) → IsResting at → IsWorld at old → IsParted s first second at =
    parted_in s old first second c.requires.way (λ at is. sym (c.is_joined.ensures at is) ∙ c.if-is_joined.false)
    (λ at is. c.is_up-first.ensures at (first_in s old c.requires.way at is) is)
    (λ at is. c.is_up-second.ensures at (second_in s old c.requires.way at is) is) in
    heals s first second old c.args.lines.now parted c.notice_if.new.network c.notice_if.new.lines c.in_default.ensures c.notice_if-2.new.network
    c.notice_if-2.new.lines c.in_default-notice_if.ensures
    c.raise_ends.new.network c.raise_ends.new.lines c.raise_ends.result c.raise_ends.ensures
