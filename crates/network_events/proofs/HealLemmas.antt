-- A session that is healed: its ends notice the loss, and come up again.
use Rattle.std.proofs.Common.{◌≡◌, ◌∙◌, refl, sym, subst, Bool, true, false, cond, List, [], ◌∷◌, ◌++◌, Result, Ok, Err}
use Rattle.mv_base.specs.declared.ids.NodeId.{NodeId}
use Rattle.scenario_defs.specs.declared.event.Kind.{Kind}
use Rattle.scenario_defs.specs.declared.report.ReportLine.{ReportLine}
use Rattle.scenario_defs.specs.declared.scenario.Scenario.{Scenario}
use Rattle.edge_defs.specs.Steps.{Noticed}
use Rattle.mvpn_model.specs.declared.session.Session.{Session}
use Rattle.network_defs.specs.Acts as acts
use Rattle.network_defs.specs.Acts.{Act, Acted, act}
use Rattle.network_defs.specs.Counts.{direction, is_joined, is_up}
use Rattle.network_defs.specs.Events.{Happened, Outcome, Done, and_then, healed, raise_acts, row}
use Rattle.network_defs.specs.World.{World, scenario_of}
use Rattle.network_defs.proofs.Kept.{Comes, Gives, both_give}
use Rattle.network_acts.specs.wire_laws.Edges.{IsWay}
use Rattle.network_acts.proofs.wire_laws.WayLemmas.{reversed}
use Rattle.network_acts.specs.Instant.{Instant, IsSome, IsWorld, OfPlane, standing_of}
use Rattle.network_acts.specs.NetworkView.{NetworkView}
use Rattle.network_acts.specs.Words.{IsLost, same_moment}
use Rattle.network_events.specs.Doing.{Does}
use Rattle.network_events.specs.Meeting.{IsResting}
use Rattle.network_events.specs.Parts.{IsRaisable}
use Rattle.network_events.specs.declared.halt.Halt.{Halt}
use Rattle.network_events.proofs.DoLemmas.{first_halts, some_mid, then_does}
use Rattle.network_events.proofs.EndLemmas.{EndsBehind, ends_within, notice_ends, noticed_down, one_row, other_stays, rests_at, rules_of}
use Rattle.network_events.proofs.KeptLemmas.{Follows, IsEven, act_follows, comes_done}
use Rattle.network_events.proofs.RowLemmas.{does_as, row_append}

-- ---- worlds

-- The session is not joined, and so are its ends up; the world is of that scenario.
record IsOff (session : Session) (first second : Bool) (scenario : Scenario) (world : World) : Type 0 where
  pub even : IsEven scenario world
  pub apart : is_joined world session ≡ false
  pub first_is : is_up world session.kind session.a session.b ≡ first
  pub second_is : is_up world session.kind session.b session.a ≡ second

-- what a notice leaves
still_even : (scenario : Scenario) (own : Kind) (n peer : NodeId) (old new : World) → Follows (acts.Notice own n peer) old new → IsEven scenario old
    → IsEven scenario new
still_even scenario own n peer old new h even =
    record { own = h.scenario ∙ even.own; alike = λ kind a b. h.joined kind a b ∙ (even.alike kind a b ∙ sym (h.joined kind b a)) }

abbrev Noticing : Kind → NodeId → NodeId → World → World → Type 0
Noticing kind n peer old new = Follows (acts.Notice kind n peer) old new × EndsBehind old n (Noticed kind peer) new

notice_leaves : (kind : Kind) (n peer : NodeId) (world : World) → Gives (Noticing kind n peer world) (act world (acts.Notice kind n peer))
notice_leaves kind n peer world =
    both_give (Follows (acts.Notice kind n peer) world) (EndsBehind world n (Noticed kind peer)) (act world (acts.Notice kind n peer))
    (act_follows world (acts.Notice kind n peer)) (notice_ends world kind n peer)

gives_as : (P Q : World → Type 0) (o : Result Acted NodeId) → ((world : World) → P world → Q world) → Gives P o → Gives Q o
gives_as P Q (Err node) h p = tt
gives_as P Q (Ok new) h p = h new.world p

module _ (session : Session) (apart : session.a ≡ session.b → ⊥) (scenario : Scenario) (world : World) where
  first_notices : (first second : Bool) → IsOff session first second scenario world
      → Comes (IsOff session false second scenario) (row (cond first (acts.Notice session.kind session.a session.b ∷ []) []) world)
  first_notices false second off = off
  first_notices true second off =
      one_row (IsOff session false second scenario) world (acts.Notice session.kind session.a session.b)
      (gives_as (Noticing session.kind session.a session.b world) (IsOff session false second scenario)
      (act world (acts.Notice session.kind session.a session.b)) (λ new h. record {
        even = still_even scenario session.kind session.a session.b world new h.0 off.even;
        apart = h.0.joined session.kind session.a session.b ∙ off.apart;
        first_is =
            h.1 session.kind session.a session.b ∙ noticed_down session.a session.b session.kind (is_up world session.kind session.a session.b);
        second_is =
            h.1 session.kind session.b session.a ∙ (other_stays session.a session.b apart (Noticed session.kind session.b) session.kind session.a
            (is_up world session.kind session.b session.a) ∙ off.second_is);
      }) (notice_leaves session.kind session.a session.b world))

  second_notices : (second : Bool) → IsOff session false second scenario world
      → Comes (IsOff session false false scenario) (row (cond second (acts.Notice session.kind session.b session.a ∷ []) []) world)
  second_notices false off = off
  second_notices true off =
      one_row (IsOff session false false scenario) world (acts.Notice session.kind session.b session.a)
      (gives_as (Noticing session.kind session.b session.a world) (IsOff session false false scenario)
      (act world (acts.Notice session.kind session.b session.a)) (λ new h. record {
        even = still_even scenario session.kind session.b session.a world new h.0 off.even;
        apart = h.0.joined session.kind session.a session.b ∙ off.apart;
        first_is = h.1 session.kind session.a session.b
            ∙ (other_stays session.b session.a (λ e. apart (sym e)) (Noticed session.kind session.a) session.kind session.b
            (is_up world session.kind session.a session.b) ∙ off.first_is);
        second_is =
            h.1 session.kind session.b session.a ∙ noticed_down session.b session.a session.kind (is_up world session.kind session.b session.a);
      }) (notice_leaves session.kind session.b session.a world))

-- ---- networks

-- Nothing is under way, and the session, which is one of the scenario, is not joined; so are its ends up.
pub record IsParted (session : Session) (first second : Bool) (at : Instant) : Type 0 where
  pub resting : IsResting at
  pub way : IsWay (scenario_of at.world) (direction session.kind session.a session.b)
  pub apart : is_joined at.world session ≡ false
  pub first_is : is_up at.world session.kind session.a session.b ≡ first
  pub second_is : is_up at.world session.kind session.b session.a ≡ second

module _ (session : Session) where
  pub first_lost : (first second : Bool) (at : Instant) (network : NetworkView) → IsParted session first second at → IsWorld at network
      → IsLost session.kind session.a session.b (standing_of at)
  first_lost first second at network p is = record {
    within = (ends_within (scenario_of at.world) (rules_of at network is) session.kind session.a session.b p.way).0;
    current = rests_at at p.resting session.a;
    apart = p.resting.alike session.kind session.b session.a ∙ p.apart;
    way = p.way;
  }

  pub second_lost : (first second : Bool) (at : Instant) (network : NetworkView) → IsParted session first second at → IsWorld at network
      → IsLost session.kind session.b session.a (standing_of at)
  second_lost first second at network p is = record {
    within = (ends_within (scenario_of at.world) (rules_of at network is) session.kind session.a session.b p.way).1;
    current = rests_at at p.resting session.b;
    apart = p.apart;
    way = reversed (scenario_of at.world) session.kind session.a session.b p.way;
  }

  pub parted_raisable : (at : Instant) → IsParted session false false at → IsRaisable session.kind session.a session.b at
  parted_raisable at p = record { resting = p.resting; way = p.way; first = p.first_is; second = p.second_is }

  off_of : (first second : Bool) (at : Instant) → IsParted session first second at → IsOff session first second (scenario_of at.world) at.world
  off_of first second at p =
      record { even = record { own = refl; alike = p.resting.alike }; apart = p.apart; first_is = p.first_is; second_is = p.second_is }

  parted_of : (first second old_first old_second : Bool) (at : Instant) (world : World) → IsParted session old_first old_second at
      → IsOff session first second (scenario_of at.world) world
      → IsParted session first second (record { cores = at.cores; moment = at.moment; world = world })
  parted_of first second old_first old_second at world p off = record {
    resting = record { rest = p.resting.rest; alike = off.even.alike };
    way = subst (λ (s : Scenario). IsWay s (direction session.kind session.a session.b)) (sym off.even.own) p.way;
    apart = off.apart;
    first_is = off.first_is;
    second_is = off.second_is;
  }

  abbrev pub first_turn : Bool → World → Outcome
  first_turn first world = row (cond first (acts.Notice session.kind session.a session.b ∷ []) []) world

  abbrev pub second_turn : Bool → World → Outcome
  second_turn second world = row (cond second (acts.Notice session.kind session.b session.a ∷ []) []) world

  first_leads : (first second : Bool) (at : Instant) (network : NetworkView) → IsParted session first second at → IsWorld at network
      → (happened : List Happened) (world : World)
      → first_turn first at.world ≡ Done happened world
      → IsParted session false second (record { cores = at.cores; moment = at.moment; world = world })
  first_leads first second at network p is happened world e =
      let apart = (ends_within (scenario_of at.world) (rules_of at network is) session.kind session.a session.b p.way).2 in
      parted_of false second first second at world p
      (comes_done (IsOff session false second (scenario_of at.world)) (first_turn first at.world) happened world e
      (first_notices session apart (scenario_of at.world) at.world first second (off_of first second at p)))

  second_leads : (second : Bool) (at : Instant) (network : NetworkView) → IsParted session false second at → IsWorld at network
      → (happened : List Happened) (world : World)
      → second_turn second at.world ≡ Done happened world
      → IsParted session false false (record { cores = at.cores; moment = at.moment; world = world })
  second_leads second at network p is happened world e =
      let apart = (ends_within (scenario_of at.world) (rules_of at network is) session.kind session.a session.b p.way).2 in
      parted_of false false false second at world p
      (comes_done (IsOff session false false (scenario_of at.world)) (second_turn second at.world) happened world e
      (second_notices session apart (scenario_of at.world) at.world second (off_of false second at p)))

  module _ (first second : Bool) (old : NetworkView) (lines : List ReportLine) where
    abbrev all_turns : World → Outcome
    all_turns world = and_then (first_turn first world) (λ next. and_then (second_turn second next) (row (raise_acts session)))

    -- the turns are those of a session that is healed
    turns_healed : (at : Instant) → IsParted session first second at → all_turns at.world ≡ healed session at.world
    turns_healed at p =
        let world = at.world in
        let near = cond first (acts.Notice session.kind session.a session.b ∷ []) [] in
        let far = cond second (acts.Notice session.kind session.b session.a ∷ []) [] in
        sym ((λ i. cond (p.apart i) (Done [] world)
        (row (cond (p.first_is i) (acts.Notice session.kind session.a session.b ∷ []) []
        ++ (cond (p.second_is i) (acts.Notice session.kind session.b session.a ∷ []) [] ++ raise_acts session)) world))
        ∙ (row_append near (far ++ raise_acts session) world
        ∙ (λ i. and_then (row near world) (λ next. row_append far (raise_acts session) next i))))

    module _ (parted : (at : Instant) → IsResting at → IsWorld at old → IsParted session first second at) where
      healed_by : (new : NetworkView) (new_lines : List ReportLine) (result : Result (Unit {0}) Halt)
          → Does (IsParted session first second) same_moment all_turns old new lines new_lines result
          → Does IsResting same_moment (healed session) old new lines new_lines result
      healed_by new new_lines result does =
          does_as (IsParted session first second) IsResting same_moment same_moment all_turns (healed session) old new lines new_lines result
          (λ at resting is. let p = parted at resting is in (p, turns_healed at p, refl)) does

      module _ (mid : NetworkView) (mid_lines : List ReportLine) where
        as_parted : (result : Result (Unit {0}) Halt)
            → Does (OfPlane (IsLost session.kind session.a session.b)) same_moment (first_turn first) old mid lines mid_lines result
            → Does (IsParted session first second) same_moment (first_turn first) old mid lines mid_lines result
        as_parted result one =
            does_as (OfPlane (IsLost session.kind session.a session.b)) (IsParted session first second) same_moment same_moment (first_turn first)
            (first_turn first) old mid lines mid_lines result
            (λ at p is. (first_lost first second at old p is, refl, refl)) one

        -- the first notice lacks a label
        pub first_stops : (halt : Halt) → Does (OfPlane (IsLost session.kind session.a session.b)) same_moment (first_turn first) old mid lines
            mid_lines (Err halt)
            → Does IsResting same_moment (healed session) old mid lines mid_lines (Err halt)
        first_stops halt one =
            healed_by mid mid_lines (Err halt)
            (first_halts (IsParted session first second) (IsParted session first second) same_moment same_moment (first_turn first)
            (λ next. and_then (second_turn second next) (row (raise_acts session)))
            old mid mid lines mid_lines mid_lines halt (as_parted (Err halt) one))

        module _ (one : Does (OfPlane (IsLost session.kind session.a session.b)) same_moment (first_turn first) old mid lines mid_lines (Ok tt)) where
          pub some_second : IsSome IsResting old → IsSome (IsParted session false second) mid
          some_second some =
              some_mid (IsParted session first second) (IsParted session false second) same_moment same_moment (first_turn first) (first_turn first)
              old mid old lines mid_lines lines (as_parted (Ok tt) one)
              (λ at p is happened world e stands. first_leads first second at old p is happened world e) (some.0, parted some.0 some.1 some.2, some.2)

          healed_after : (new : NetworkView) (new_lines : List ReportLine) (result : Result (Unit {0}) Halt)
              → Does (IsParted session false second) same_moment (λ next. and_then (second_turn second next) (row (raise_acts session))) mid new
              mid_lines new_lines result
              → Does IsResting same_moment (healed session) old new lines new_lines result
          healed_after new new_lines result two =
              healed_by new new_lines result
              (then_does (IsParted session first second) (IsParted session false second) same_moment same_moment (first_turn first)
              (λ next. and_then (second_turn second next) (row (raise_acts session)))
              old mid new lines mid_lines new_lines (as_parted (Ok tt) one)
              (λ at p is happened world e stands. first_leads first second at old p is happened world e) result two)

          module _ (last : NetworkView) (last_lines : List ReportLine) where
            as_second : (result : Result (Unit {0}) Halt)
                → Does (OfPlane (IsLost session.kind session.b session.a)) same_moment (second_turn second) mid last mid_lines last_lines result
                → Does (IsParted session false second) same_moment (second_turn second) mid last mid_lines last_lines result
            as_second result two =
                does_as (OfPlane (IsLost session.kind session.b session.a)) (IsParted session false second) same_moment same_moment
                (second_turn second) (second_turn second) mid last mid_lines last_lines result
                (λ at p is. (second_lost false second at mid p is, refl, refl)) two

            -- the second notice lacks a label
            pub second_stops : (halt : Halt) → Does (OfPlane (IsLost session.kind session.b session.a)) same_moment (second_turn second) mid last
                mid_lines last_lines (Err halt)
                → Does IsResting same_moment (healed session) old last lines last_lines (Err halt)
            second_stops halt two =
                healed_after last last_lines (Err halt)
                (first_halts (IsParted session false second) (IsParted session false second) same_moment same_moment (second_turn second)
                (row (raise_acts session)) mid last last mid_lines last_lines last_lines halt
                (as_second (Err halt) two))

            module _ (two : Does (OfPlane (IsLost session.kind session.b session.a)) same_moment (second_turn second) mid last mid_lines last_lines
                (Ok tt)) where
              pub some_raisable : IsSome IsResting old → IsSome (IsRaisable session.kind session.a session.b) last
              some_raisable some =
                  let found =
                  some_mid (IsParted session false second) (IsParted session false false) same_moment same_moment (second_turn second)
                  (second_turn second) mid last mid mid_lines last_lines mid_lines
                  (as_second (Ok tt) two) (λ at p is happened world e stands. second_leads second at mid p is happened world e) (some_second some) in
                  (found.0, parted_raisable found.0 found.1, found.2)

              -- the session is raised
              pub heals : (new : NetworkView) (new_lines : List ReportLine) (result : Result (Unit {0}) Halt)
                  → Does (IsRaisable session.kind session.a session.b) same_moment (row (raise_acts session)) last new last_lines new_lines result
                  → Does IsResting same_moment (healed session) old new lines new_lines result
              heals new new_lines result three =
                  healed_after new new_lines result
                  (then_does (IsParted session false second) (IsParted session false false) same_moment same_moment (second_turn second)
                  (row (raise_acts session)) mid last new mid_lines last_lines new_lines
                  (as_second (Ok tt) two) (λ at p is happened world e stands. second_leads second at mid p is happened world e) result
                  (does_as (IsRaisable session.kind session.a session.b) (IsParted session false false) same_moment same_moment
                  (row (raise_acts session)) (row (raise_acts session)) last new last_lines new_lines result
                  (λ at p is. (parted_raisable at p, refl, refl)) three))
