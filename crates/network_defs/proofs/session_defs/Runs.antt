-- A run in octets is a run in messages.
use Rattle.std.specs.Prelude.{⊤}
use Rattle.std.proofs.Common.{◌≡◌, ℕ, Bool, true, false, cond, List, [], ◌∷◌, ◌++◌, Option, Some, None, refl, sym, ap, subst, ◌∙◌, append_assoc}
use Rattle.std.proofs.lemmas.List.{append-nil}
use Rattle.mv_base.specs.Number.{◌>>?◌}
use Rattle.network_defs.specs.declared.session_defs.direction.Direction.{Direction}
use Rattle.network_defs.specs.session_defs.Message.{SessionMessage}
use Rattle.network_defs.specs.session_defs.System as messages
use Rattle.network_defs.specs.session_defs.System.{Put, Stepped, System, MessageNetwork, MessageAct, Behind, message_act, message_run, with_earlier}
use Rattle.network_defs.specs.session_defs.System.MessageAct.{Call as CallNodes, Lose as LoseMessages, Join as JoinSessions}
use Rattle.network_defs.specs.session_defs.Octets.{OctetNetwork, OctetAct, with_step, moved, octet_act, octet_run}
use Rattle.network_defs.specs.session_defs.Octets.OctetAct.{Move, Call, Lose, Forget, Join}
use Rattle.network_defs.specs.session_defs.Refined.{IsLine, AreLines, seen, Keeps, IsHonest, IsHonestWhile, Refined, IsRowOf, Ends, deliveries}
use Rattle.network_defs.proofs.session_defs.Lines.{line_lost, line_forgotten, line_joined}
use Rattle.network_defs.proofs.session_defs.Deliveries.{IsSeen, honest_while, seen_earlier, with_news, news_are}
use Rattle.network_defs.proofs.session_defs.Moves.{moved_seen}

-- ---- rows of acts in messages

nothing_earlier : {N : Type 0} (new : Option (Behind N)) → with_earlier [] new ≡ new
nothing_earlier None = refl
nothing_earlier (Some new) = refl

none_after : {N : Type 0} (puts : List Put) (new : Option (Behind N)) → with_earlier puts new ≡ None → new ≡ None
none_after puts None e = refl
none_after puts (Some new) e = absurd cc

-- what was put before both
both_earlier : {N : Type 0} (first then_puts : List Put) (new : Option (Behind N))
    → with_earlier (first ++ then_puts) new ≡ with_earlier first (with_earlier then_puts new)
both_earlier first then_puts None = refl
both_earlier first then_puts (Some new) =
    ap (λ (puts : List Put). Some (record { network = new.network; puts = puts })) (append_assoc first then_puts new.puts)

-- the acts go on after a network
abbrev pub goes_on : {S X : Type 0} → System S X → List (MessageAct X) → Option (Behind (MessageNetwork S)) → Option (Behind (MessageNetwork S))
goes_on system acts found = found >>? λ next. with_earlier next.puts (message_run system next.network acts)

earlier_goes_on : {S X : Type 0} (system : System S X) (acts : List (MessageAct X)) (puts : List Put) (found : Option (Behind (MessageNetwork S)))
    → goes_on system acts (with_earlier puts found) ≡ with_earlier puts (goes_on system acts found)
earlier_goes_on system acts puts None = refl
earlier_goes_on system acts puts (Some next) = both_earlier puts next.puts (message_run system next.network acts)

-- one row after another
one_more : {S X : Type 0} (system : System S X) (first others : List (MessageAct X))
    → ((network : MessageNetwork S) → message_run system network (first ++ others) ≡ goes_on system others (message_run system network first))
    → (found : Option (Behind (MessageNetwork S))) → goes_on system (first ++ others) found ≡ goes_on system others (goes_on system first found)
one_more system first others rows None = refl
one_more system first others rows (Some next) =
    ap (with_earlier next.puts) (rows next.network) ∙ sym (earlier_goes_on system others next.puts (message_run system next.network first))

pub both_rows : {S X : Type 0} (system : System S X) (first others : List (MessageAct X)) (network : MessageNetwork S)
    → message_run system network (first ++ others) ≡ goes_on system others (message_run system network first)
both_rows system [] others network = sym (nothing_earlier (message_run system network others))
both_rows system (one ∷ first) others network = one_more system first others (λ n. both_rows system first others n) (message_act system network one)

-- a row of one act
alone : {S : Type 0} (found : Option (Behind (MessageNetwork S)))
    → (found >>? λ next. with_earlier next.puts (Some (record { network = next.network; puts = [] }))) ≡ found
alone None = refl
alone (Some next) = ap (λ (puts : List Put). Some (record { network = next.network; puts = puts })) (append-nil next.puts)

-- ---- one act

step_seen : {S : Type 0} (Good : S → Type 0) (old : OctetNetwork S) (pending : Direction → List SessionMessage) → AreLines old pending
    → (stepped : Option (Stepped S)) → Keeps Good stepped → IsSeen Good (with_step old stepped) (messages.with_step (seen old pending) stepped)
step_seen Good old pending lines None keeps = refl
step_seen Good old pending lines (Some new) keeps = (with_news old pending new.puts, news_are old pending new lines keeps.0, refl, keeps.1)

-- one act on octets, and the acts on messages that it is
record ActSeen {S X : Type 0} (system : System S X) (Good : S → Type 0) (old : OctetNetwork S) (pending : Direction → List SessionMessage)
    (one : OctetAct X) (new : Option (Behind (OctetNetwork S))) : Type 0 where
  pub acts : List (MessageAct X)
  pub outcome : IsSeen Good new (message_run system (seen old pending) acts)
  pub is_row : new ≡ None → IsRowOf pending one acts

called_seen : {S X : Type 0} (system : System S X) (Good : S → Type 0) → IsHonestWhile system Good
    → (old : OctetNetwork S) (pending : Direction → List SessionMessage) → AreLines old pending → Good old.state → (call : X)
    → ActSeen system Good old pending (Call call) (octet_act system old (Call call))
called_seen system Good honest old pending lines good call =
    let found : Option (Behind (MessageNetwork _)) = message_act system (seen old pending) (CallNodes call) in
    record {
      acts = CallNodes call ∷ [];
      outcome =
          subst (IsSeen Good (octet_act system old (Call call))) (sym (alone found))
          (step_seen Good old pending lines (system.called call old.state) (honest.called call old.state good));
      is_row = λ none. refl;
    }

-- a move by whether the session is joined
move_seen : {S X : Type 0} (system : System S X) (Good : S → Type 0) → IsHonestWhile system Good
    → (old : OctetNetwork S) (pending : Direction → List SessionMessage) → AreLines old pending → Good old.state
    → (direction : Direction) (count : ℕ) (joined : Bool) → old.joined direction ≡ joined
    → IsLine direction.kind joined (old.stream direction) (old.transit direction) (pending direction)
    → ActSeen system Good old pending (Move direction count)
    (cond joined (moved system old direction count) (Some (record { network = old; puts = [] })))
move_seen system Good honest old pending lines good direction count true joined line =
    let m = moved_seen system Good honest old pending direction count lines good joined line in
    record { acts = deliveries direction m.first; outcome = m.outcome; is_row = λ none. (m.first, m.rest, m.parts, refl) }
move_seen system Good honest old pending lines good direction count false joined line =
    record { acts = []; outcome = (pending, lines, refl, good); is_row = λ none. absurd cc }

act_seen : {S X : Type 0} (system : System S X) (Good : S → Type 0) → IsHonestWhile system Good
    → (old : OctetNetwork S) (pending : Direction → List SessionMessage) → AreLines old pending → Good old.state → (one : OctetAct X)
    → ActSeen system Good old pending one (octet_act system old one)
act_seen system Good honest old pending lines good (Move direction count) =
    move_seen system Good honest old pending lines good direction count (old.joined direction) refl (lines direction)
act_seen system Good honest old pending lines good (Call call) = called_seen system Good honest old pending lines good call
act_seen system Good honest old pending lines good (Lose hit) = record {
  acts = LoseMessages hit ∷ [];
  outcome = (
    (λ other. cond (hit other) [] (pending other)),
    (λ other. line_lost other.kind (hit other) (old.joined other) (old.stream other) (old.transit other) (pending other) (lines other)),
    refl,
    good,
  );
  is_row = λ none. absurd cc;
}
act_seen system Good honest old pending lines good (Forget hit) = record {
  acts = [];
  outcome = (
    pending,
    (λ other. line_forgotten other.kind (hit other) (old.joined other) (old.stream other) (old.transit other) (pending other)
        (lines other)),
    refl,
    good,
  );
  is_row = λ none. absurd cc;
}
act_seen system Good honest old pending lines good (Join hit) = record {
  acts = JoinSessions hit ∷ [];
  outcome = (
    (λ other. cond (hit other) [] (pending other)),
    (λ other. line_joined other.kind (hit other) (old.joined other) (old.stream other) (old.transit other) (pending other) (lines other)),
    refl,
    good,
  );
  is_row = λ none. absurd cc;
}

-- ---- a run

-- acts in messages with the same outcome
pub record Acted {S X : Type 0} (system : System S X) (Good : S → Type 0) (old : OctetNetwork S) (pending : Direction → List SessionMessage)
    (new : Option (Behind (OctetNetwork S))) : Type 0 where
  pub acts : List (MessageAct X)
  pub outcome : IsSeen Good new (message_run system (seen old pending) acts)

-- a first act, and the run after it
run_on : {S X : Type 0} (system : System S X) (Good : S → Type 0) (old : OctetNetwork S) (pending : Direction → List SessionMessage)
    (acts : List (OctetAct X)) (new : Option (Behind (OctetNetwork S)))
    → ((next : OctetNetwork S) (waiting : Direction → List SessionMessage) → AreLines next waiting → Good next.state
    → Acted system Good next waiting (octet_run system next acts)) → Acted system Good old pending new
    → Acted system Good old pending (new >>? λ next. with_earlier next.puts (octet_run system next.network acts))
run_on system Good old pending acts None others first = record { acts = first.acts; outcome = first.outcome }
run_on {S} {X} system Good old pending acts (Some next) others first =
    let left : Direction → List SessionMessage = first.outcome.0 in
    let rest = others next.network left first.outcome.1 first.outcome.3 in
    let found : Option (Behind (MessageNetwork S)) = message_run system (seen next.network left) rest.acts in
    let row : message_run system (seen old pending) (first.acts ++ rest.acts) ≡ with_earlier next.puts found =
    both_rows system first.acts rest.acts (seen old pending) ∙ ap (goes_on system rest.acts) first.outcome.2 in
    record {
      acts = first.acts ++ rest.acts;
      outcome =
          subst (IsSeen Good (with_earlier next.puts (octet_run system next.network acts))) (sym row)
          (seen_earlier Good next.puts (octet_run system next.network acts) found rest.outcome);
    }

run_seen : {S X : Type 0} (system : System S X) (Good : S → Type 0) → IsHonestWhile system Good
    → (acts : List (OctetAct X)) (old : OctetNetwork S) (pending : Direction → List SessionMessage) → AreLines old pending → Good old.state
    → Acted system Good old pending (octet_run system old acts)
run_seen system Good honest [] old pending lines good = record { acts = []; outcome = (pending, lines, refl, good) }
run_seen system Good honest (one ∷ acts) old pending lines good =
    let first = act_seen system Good honest old pending lines good one in
    run_on system Good old pending acts (octet_act system old one) (λ next waiting are fine. run_seen system Good honest acts next waiting are fine)
    (record { acts = first.acts; outcome = first.outcome })

pub run_refined_while : {S X : Type 0} (system : System S X) (Good : S → Type 0) (old : OctetNetwork S) (pending : Direction → List SessionMessage)
    (acts : List (OctetAct X)) (new : Behind (OctetNetwork S)) → IsHonestWhile system Good → AreLines old pending → Good old.state
    → octet_run system old acts ≡ Some new → Refined system old pending new × Good new.network.state
run_refined_while {S} {X} system Good old pending acts new honest lines good e =
    let run : Acted system Good old pending (Some new) =
    subst (Acted system Good old pending) e (run_seen system Good honest acts old pending lines good) in
    (record { acts = run.acts; left = run.outcome.0; lines = run.outcome.1; same = run.outcome.2 }, run.outcome.3)

-- ---- a run that ends

-- the acts before the one at which a run in octets ends
record Stops {S X : Type 0} (system : System S X) (old : OctetNetwork S) (acts : List (OctetAct X)) : Type 0 where
  pub before : List (OctetAct X)
  pub act : OctetAct X
  pub after : List (OctetAct X)
  pub parts : acts ≡ before ++ act ∷ after
  pub middle : Behind (OctetNetwork S)
  pub run : octet_run system old before ≡ Some middle
  pub none : octet_act system middle.network act ≡ None

-- a first act, and the run after it
stops_on : {S X : Type 0} (system : System S X) (old : OctetNetwork S) (one : OctetAct X) (acts : List (OctetAct X))
    → ((next : OctetNetwork S) → octet_run system next acts ≡ None → Stops system next acts)
    → (new : Option (Behind (OctetNetwork S))) → octet_act system old one ≡ new
    → (new >>? λ next. with_earlier next.puts (octet_run system next.network acts)) ≡ None → Stops system old (one ∷ acts)
stops_on system old one acts others None is e =
    record { before = []; act = one; after = acts; parts = refl; middle = record { network = old; puts = [] }; run = refl; none = is }
stops_on system old one acts others (Some next) is e =
    let s = others next.network (none_after next.puts (octet_run system next.network acts) e) in
    record {
      before = one ∷ s.before;
      act = s.act;
      after = s.after;
      parts = ap (λ (l : List (OctetAct _)). one ∷ l) s.parts;
      middle = record { network = s.middle.network; puts = next.puts ++ s.middle.puts };
      run = ap (λ (o : Option (Behind (OctetNetwork _))). o >>? λ n. with_earlier n.puts (octet_run system n.network s.before)) is
          ∙ ap (with_earlier next.puts) s.run;
      none = s.none;
    }

stops : {S X : Type 0} (system : System S X) (acts : List (OctetAct X)) (old : OctetNetwork S) → octet_run system old acts ≡ None
    → Stops system old acts
stops system [] old e = absurd cc
stops system (one ∷ acts) old e = stops_on system old one acts (λ next none. stops system acts next none) (octet_act system old one) refl e

-- The state in which the act finds the nodes is a good one.
pub run_ended_while : {S X : Type 0} (system : System S X) (Good : S → Type 0) (old : OctetNetwork S) (pending : Direction → List SessionMessage)
    (acts : List (OctetAct X)) → IsHonestWhile system Good → AreLines old pending → Good old.state
    → octet_run system old acts ≡ None → (ends : Ends system old pending acts) × Good ends.middle.network.state
run_ended_while {S} {X} system Good old pending acts honest lines good e =
    let s : Stops system old acts = stops system acts old e in
    let r = run_refined_while system Good old pending s.before s.middle honest lines good s.run in
    let refined : Refined system old pending s.middle = r.0 in
    let last : ActSeen system Good s.middle.network refined.left s.act None =
    subst (ActSeen system Good s.middle.network refined.left s.act) s.none
    (act_seen system Good honest s.middle.network refined.left refined.lines r.1 s.act) in (
      record {
        before = s.before;
        act = s.act;
        after = s.after;
        parts = s.parts;
        middle = s.middle;
        run = s.run;
        refined = refined;
        none = s.none;
        row = last.acts;
        is_row = last.is_row refl;
        ends = last.outcome;
      },
      r.1,
    )

pub run_refined : {S X : Type 0} (system : System S X) (old : OctetNetwork S) (pending : Direction → List SessionMessage) (acts : List (OctetAct X))
    (new : Behind (OctetNetwork S)) → IsHonest system → AreLines old pending
    → octet_run system old acts ≡ Some new → Refined system old pending new
run_refined system old pending acts new honest lines e =
    (run_refined_while system (λ state. ⊤) old pending acts new (honest_while system honest) lines tt e).0

pub run_ended : {S X : Type 0} (system : System S X) (old : OctetNetwork S) (pending : Direction → List SessionMessage) (acts : List (OctetAct X))
    → IsHonest system → AreLines old pending
    → octet_run system old acts ≡ None → Ends system old pending acts
run_ended system old pending acts honest lines e = (run_ended_while system (λ state. ⊤) old pending acts (honest_while system honest) lines tt e).0
