-- Copies that hop, are dropped, or all land; and the state that is told.
use Rattle.std.specs.Prelude.{IsTrue, not, replicate}
use Rattle.std.proofs.Common.{◌≡◌, ◌∙◌, ℕ, zero, suc, ◌+◌, ◌-◌, ◌<◌, ◌≤◌, refl, sym, ap, subst, arith, Bool, true, false, List, [], ◌∷◌, ◌++◌, length, map, take, get_or, Some, None, Result, Ok, Err, OnOk}
use Rattle.std.specs.List.{AllByRecursion, flat_map}
use Rattle.std.proofs.lemmas.List.{append-nil, map-append, take_all, take_more}
use Rattle.std.proofs.lemmas.List.Concat.{flat_map-append}
use Rattle.std.proofs.lemmas.List.Elements.{recursion_from_All}
use Rattle.std.proofs.lemmas.Bool.{le-ltb}
use Rattle.std.proofs.lemmas.Option.{slice_get-get_or}
use Rattle.mv_base.specs.declared.core_link.Link.{Link}
use Rattle.mv_base.specs.declared.ids.NodeId.{NodeId}
use Rattle.mv_base.specs.declared.memory.NoMemory.{NoMemory}
use Rattle.mv_base.proofs.core_walks.WalkLemmas.{good}
use Rattle.mv_base.specs.core_walks.Topology.{HasEnds}
use Rattle.mv_base.specs.core_walks.Walks.{IsLinked}
use Rattle.scenario_defs.specs.Rules.{Rules}
use Rattle.scenario_defs.specs.declared.event.Event.TheVariants as events
use Rattle.scenario_defs.specs.declared.report.Refusal.TheVariants as refusals
use Rattle.scenario_defs.specs.declared.report.ReportLine.{ReportLine}
use Rattle.scenario_defs.specs.declared.scenario.Scenario.{Scenario}
use Rattle.network_defs.specs.session_defs.Octets.{OctetNetwork}
use Rattle.network_defs.proofs.Kept.{Comes, Gives, land_keeps, row_keeps}
use Rattle.network_defs.specs.Acts.{Act, Drop, Land, Tell, act}
use Rattle.network_defs.specs.Counts.{link_ways}
use Rattle.network_defs.specs.Events.{Done, Happened, Outcome, done, drain_round, drained, landings, row, times}
use Rattle.network_defs.specs.Nodes.{Nodes}
use Rattle.network_defs.specs.Refusals.{lacks_copy, refused_if}
use Rattle.network_defs.specs.World.{World, scenario_of}
use Rattle.network_acts.proofs.network_laws.Lists.{each_at, each_flat, each_map, each_of, each_weaker}
use Rattle.network_acts.specs.Acting.{Made, Passes}
use Rattle.network_acts.specs.Handling.{AreOfFlows, MayLand}
use Rattle.network_acts.specs.Instant.{Instant, IsSome, IsWorld}
use Rattle.network_acts.specs.NetworkView.{NetworkView}
use Rattle.network_acts.specs.Words.{AreLinked, same_moment}
use Rattle.network_events.specs.Datagrams.{HasRound, Makes, MayDrain, lands, of_memory, standing_ways, ways_of, ways_of_links}
use Rattle.network_events.specs.Doing.{Did}
use Rattle.network_events.specs.Meeting.{IsGiven, IsReady, Meets, met}
use Rattle.network_events.proofs.DatagramLemmas.{made_makes, makes_meet, two_rows}
use Rattle.network_events.proofs.DoLemmas.{made_did, then_done, two_told}
use Rattle.network_events.proofs.FlowLemmas.{row_flows}
use Rattle.network_events.proofs.MeetLemmas.{meets_refused}
use Rattle.network_events.proofs.PlaceLemmas.{is_current, own_rules}
use Rattle.network_events.proofs.RowLemmas.{passes_does, times_append, times_idle, times_more}

-- ---- copies that hop or are dropped

-- both ends of a link are nodes of the scenario
ends_within : (scenario : Scenario) → Rules scenario → (from to : NodeId) (cost : ℕ) → IsLinked scenario.links from.0 to.0 cost
    → to.0 < length scenario.nodes
ends_within scenario rules from to cost linked = (good (length scenario.nodes) scenario.links from.0 to.0 cost rules.core.topology linked).b_within

module _ (old : NetworkView) (from to : NodeId) (place : ℕ) (lines : List ReportLine) where
  -- there are fewer copies on the way than that, or not, in every world that the network is
  abbrev pub Lacks : Bool → Type 0
  Lacks lacks = (at : Instant) → IsWorld at old → lacks_copy at.world from to place ≡ lacks

  pub not_lacks : (told : ℕ) → ((at : Instant) → IsWorld at old → told ≡ length (at.world.copies from to)) → place ≤ told → Lacks false
  not_lacks told is le at own = le-ltb (length (at.world.copies from to)) place (subst (λ n. place ≤ n) (is at own) le)

  pub hop_lacks : Lacks true → Meets (events.Hop from to place) old old lines lines (Ok (Some refusals.Place))
  hop_lacks h =
      meets_refused (events.Hop from to place) old lines refusals.Place (λ at ready is. ap (λ (b : Bool). refused_if b refusals.Place) (h at is))

  pub drop_lacks : Lacks true → Meets (events.DropCopy from to place) old old lines lines (Ok (Some refusals.Place))
  drop_lacks h =
      meets_refused (events.DropCopy from to place) old lines refusals.Place (λ at ready is. ap (λ (b : Bool). refused_if b refusals.Place) (h at is))

  may_land : IsGiven old.scenario (events.Hop from to place) → (at : Instant) → IsReady at → IsWorld at old → MayLand to at
  may_land given at ready is =
      let within = ends_within old.scenario (own_rules at old is.scenario is.plane) from to given.sound.cost given.sound.linked in
      record {
        node =
            is_current at old is.scenario is.plane to ready.resting.rest (subst (λ (s : Scenario). to.0 < length s.nodes) is.scenario within);
        flows =
            ready.flows;
      }

  pub some_landing : IsGiven old.scenario (events.Hop from to place) → IsSome IsReady old → IsSome (MayLand to) old
  some_landing given (at, ready, is) = (at, may_land given at ready is, is)

  pub hop_meets : IsGiven old.scenario (events.Hop from to place) → Lacks false
      → (new : NetworkView) (new_lines : List ReportLine) (answer : Result (Unit {0}) NoMemory)
      → OnOk answer ((at : Instant) → MayLand to at → IsWorld at old → Made at at.moment (Land from to place) lines new_lines new)
      → Meets (events.Hop from to place) old new lines new_lines (met (of_memory answer))
  hop_meets given h new new_lines answer made =
      makes_meet (MayLand to) (row (Land from to place ∷ [])) (events.Hop from to place) old new lines new_lines answer
      (λ at ready is. (ap (λ (b : Bool). refused_if b refusals.Place) (h at is), may_land given at ready is, refl))
      (made_makes (MayLand to) (Land from to place) old new lines new_lines answer made)

  pub drop_meets : Lacks false → (new : NetworkView) → ((at : Instant) → IsWorld at old → Passes at at.moment (Drop from to place) new)
      → Meets (events.DropCopy from to place) old new lines lines (Ok None)
  drop_meets h new passes =
      makes_meet IsReady (row (Drop from to place ∷ [])) (events.DropCopy from to place) old new lines lines (Ok tt)
      (λ at ready is. (ap (λ (b : Bool). refused_if b refusals.Place) (h at is), ready, refl))
      (passes_does IsReady same_moment (Drop from to place) old new lines (λ at ready is. passes at is)).done

pub state_meets : (old new : NetworkView) (lines new_lines : List ReportLine) (answer : Result (Unit {0}) NoMemory)
    → OnOk answer ((at : Instant) → IsWorld at old → AreLinked at.world → Made at at.moment Tell lines new_lines new)
    → Meets events.State old new lines new_lines (met (of_memory answer))
state_meets old new lines new_lines answer made =
    makes_meet IsReady (row (Tell ∷ [])) events.State old new lines new_lines answer (λ at ready is. (refl, ready, refl))
    (made_makes IsReady Tell old new lines new_lines answer (linked answer made))
  where
    linked : (r : Result (Unit {0}) NoMemory) → OnOk r
        ((at : Instant) → IsWorld at old → AreLinked at.world → Made at at.moment Tell lines new_lines new)
        → OnOk r ((at : Instant) → IsReady at → IsWorld at old → Made at at.moment Tell lines new_lines new)
    linked (Err wanting) h = tt
    linked (Ok done) h = λ at ready is. h at is ready.linked

-- ---- ways of copies

abbrev Way : Type 0
Way = NodeId × NodeId

abbrev land_on : Way → Act
land_on way = Land way.0 way.1 1

pub ways_append : (world : World) (first more : List Way) → ways_of world (first ++ more) ≡ ways_of world first ++ ways_of world more
ways_append world first more = flat_map-append (λ (way : Way). replicate (length (world.copies way.0 way.1)) way) first more

-- ways of one link more
pub links_more : (world : World) (links : List Link) (link : Link)
    → ways_of world (ways_of_links (links ++ link ∷ [])) ≡ ways_of world (ways_of_links links) ++ ways_of world (ways_of_links (link ∷ []))
links_more world links link =
    ap (ways_of world) (flat_map-append (λ (own : Link). (own.a, own.b) ∷ (own.b, own.a) ∷ []) links (link ∷ []))
    ∙ ways_append world (ways_of_links links) (ways_of_links (link ∷ []))

pub links_next : (world : World) (links : List Link) (k : ℕ) (d link : Link) (mid new : List Way) → k < length links → link ≡ get_or links k d
    → mid ≡ ways_of world (ways_of_links (take k links)) → new ≡ mid ++ ways_of world (ways_of_links (link ∷ []))
    → new ≡ ways_of world (ways_of_links (take (k + 1) links))
links_next world links k d link mid new lt same before one =
    one ∙ (ap (λ (l : List Way). l ++ ways_of world (ways_of_links (link ∷ []))) before
    ∙ (sym (links_more world (take k links) link)
    ∙ ap (λ (l : List Link). ways_of world (ways_of_links l)) (sym (take_more links k d lt ∙ ap (λ (v : Link). take k links ++ v ∷ []) (sym same)))))

replicated : {A : Type 0} (P : A → Type 0) (count : ℕ) (x : A) → P x → AllByRecursion P (replicate count x)
replicated P zero x p = tt
replicated P (suc count) x p = (p, replicated P count x p)

-- each leads to a node of the scenario
pub ways_within : (scenario : Scenario) → Rules scenario → (world : World)
    → AllByRecursion (λ (way : Way). way.1.0 < length scenario.nodes) (ways_of world (ways_of_links scenario.links))
ways_within scenario rules world =
    let P : Way → Type 0 = λ way. way.1.0 < length scenario.nodes in
    each_flat P (λ way. replicate (length (world.copies way.0 way.1)) way) (ways_of_links scenario.links)
    (each_flat (λ way. AllByRecursion P (replicate (length (world.copies way.0 way.1)) way)) (λ link. (link.a, link.b) ∷ (link.b, link.a) ∷ [])
    scenario.links
    (each_weaker (HasEnds (length scenario.nodes))
    (λ link. AllByRecursion (λ way. AllByRecursion P (replicate (length (world.copies way.0 way.1)) way))
    ((link.a, link.b) ∷ (link.b, link.a) ∷ []))
    (λ link ends. (
      replicated P (length (world.copies link.a link.b)) (link.a, link.b) ends.b,
      (replicated P (length (world.copies link.b link.a)) (link.b, link.a) ends.a, tt),
    ))
    scenario.links (recursion_from_All (HasEnds (length scenario.nodes)) scenario.links rules.core.topology.ends)))

-- ---- copies that land

-- landings leave the scenario
lands_scenario : (ways : List Way) (world new : World) (happened : List Happened) → lands ways world ≡ Done happened new
    → scenario_of new ≡ scenario_of world
lands_scenario ways world new happened e =
    let Own : OctetNetwork Nodes → Type 0 = λ network. network.state.scenario ≡ scenario_of world in
    let P : World → Type 0 = λ w. Own w.network in
    subst (Comes P) e (row_keeps P (map land_on ways)
    (each_map (λ (one : Act). (w : World) → P w → Gives P (act w one)) land_on ways
    (each_of (λ (way : Way). (w : World) → P w → Gives P (act w (land_on way))) (λ way w p. land_keeps Own w way.0 way.1 1 p) ways)) world refl)

-- So many of the ways have landed, and the network is one in which more may.
pub record OnLanding (old : NetworkView) (ways : List Way) (lines new_lines : List ReportLine) (new : NetworkView) : Type 0 where
  pub did : (at : Instant) → MayDrain at → IsWorld at old → Did at at.moment (lands ways at.world) lines new_lines new
  pub some : IsSome MayDrain new
  pub scenario : new.scenario ≡ old.scenario

pub landing_none : (old : NetworkView) (lines : List ReportLine) → IsSome MayDrain old → OnLanding old [] lines lines old
landing_none old lines some = record {
  did = λ at may is. record { acts = []; world = at.world; is = refl; stands = is; told = sym (append-nil lines) };
  some = some;
  scenario = refl;
}

may_again : (old new : NetworkView) (ways : List Way) (lines new_lines : List ReportLine) (at : Instant) → MayDrain at
    → (did : Did at at.moment (lands ways at.world) lines new_lines new) → MayDrain (record at { world = did.world })
may_again old new ways lines new_lines at may did =
    record { rest = may.rest; flows = row_flows (map land_on ways) at.world did.world did.acts did.is may.flows }

-- one way more
pub landing_more : (old mid new : NetworkView) (ways : List Way) (way : Way) (lines mid_lines new_lines : List ReportLine)
    → OnLanding old ways lines mid_lines mid
    → ((at : Instant) → MayDrain at → IsWorld at mid → Did at at.moment (lands (way ∷ []) at.world) mid_lines new_lines new)
    → OnLanding old (ways ++ way ∷ []) lines new_lines new
landing_more old mid new ways way lines mid_lines new_lines on one = record {
  did = λ at may is.
      let first = on.did at may is in
      let more = one (record at { world = first.world }) (may_again old mid ways lines mid_lines at may first) first.stands in
      record {
        acts = first.acts ++ more.acts;
        world = more.world;
        is = ap (λ (l : List Act). row l at.world) (map-append land_on ways (way ∷ []))
            ∙ two_rows (map land_on ways) (land_on way ∷ []) at.world first.world more.world first.acts more.acts first.is more.is;
        stands = more.stands;
        told = two_told lines mid_lines new_lines first.acts more.acts first.told more.told;
      };
  some = thereafter on.some;
  scenario = own on.some ∙ on.scenario;
}
  where
    thereafter : IsSome MayDrain mid → IsSome MayDrain new
    thereafter (at, may, is) = let did = one at may is in
        (record at { world = did.world }, may_again mid new (way ∷ []) mid_lines new_lines at may did, did.stands)

    own : IsSome MayDrain mid → new.scenario ≡ mid.scenario
    own (at, may, is) = let did = one at may is in
        did.stands.scenario ∙ (lands_scenario (way ∷ []) at.world did.world did.acts did.is ∙ sym is.scenario)

pub landing_next : (old mid new : NetworkView) (ways : List Way) (k : ℕ) (d way : Way) (lines mid_lines new_lines : List ReportLine) → k < length ways
    → way ≡ get_or ways k d → OnLanding old (take k ways) lines mid_lines mid
    → ((at : Instant) → MayDrain at → IsWorld at mid → Did at at.moment (lands (way ∷ []) at.world) mid_lines new_lines new)
    → OnLanding old (take (k + 1) ways) lines new_lines new
landing_next old mid new ways k d way lines mid_lines new_lines lt same on one =
    subst (λ (l : List Way). OnLanding old l lines new_lines new) (sym (take_more ways k d lt ∙ ap (λ (w : Way). take k ways ++ w ∷ []) (sym same)))
    (landing_more old mid new (take k ways) way lines mid_lines new_lines on one)

pub landing_all : (old new : NetworkView) (ways : List Way) (k : ℕ) (lines new_lines : List ReportLine) → length ways ≤ k
    → OnLanding old (take k ways) lines new_lines new
    → (at : Instant) → MayDrain at → IsWorld at old → Did at at.moment (lands ways at.world) lines new_lines new
landing_all old new ways k lines new_lines le on = (subst (λ (l : List Way). OnLanding old l lines new_lines new) (take_all k ways le) on).did

-- the way at a place leads to a node of the scenario
pub way_within : (old now : NetworkView) (ways : List Way) (k : ℕ) (d way : Way) → k < length ways → way ≡ get_or ways k d
    → now.scenario ≡ old.scenario → AllByRecursion (λ (w : Way). w.1.0 < length old.scenario.nodes) ways
    → way.1.0 < length now.scenario.nodes
way_within old now ways k d way lt same own all =
    subst (λ (s : Scenario). way.1.0 < length s.nodes) (sym own)
    (each_at (λ (w : Way). w.1.0 < length old.scenario.nodes) ways k way all (slice_get-get_or ways k d lt ∙ ap (λ (w : Way). Some w) (sym same)))

module _ (old : NetworkView) (way : Way) where
  lands_there : way.1.0 < length old.scenario.nodes → (at : Instant) → MayDrain at → IsWorld at old → MayLand way.1 at
  lands_there within at may is =
      record {
        node =
            is_current at old is.scenario is.plane way.1 may.rest (subst (λ (s : Scenario). way.1.0 < length s.nodes) is.scenario within);
        flows =
            may.flows;
      }

  pub some_lands : way.1.0 < length old.scenario.nodes → IsSome MayDrain old → IsSome (MayLand way.1) old
  some_lands within (at, may, is) = (at, lands_there within at may is, is)

  pub lands_one : way.1.0 < length old.scenario.nodes → (new : NetworkView) (lines new_lines : List ReportLine) (answer : Result (Unit {0}) NoMemory)
      → OnOk answer ((at : Instant) → MayLand way.1 at → IsWorld at old → Made at at.moment (Land way.0 way.1 1) lines new_lines new)
      → Makes MayDrain (lands (way ∷ [])) old new lines new_lines answer
  lands_one within new lines new_lines (Err wanting) made = tt
  lands_one within new lines new_lines (Ok done) made =
      λ at may is. made_did at at.moment (Land way.0 way.1 1) lines new_lines new (made at (lands_there within at may is) is)

-- ---- rounds

map_replicate : {A B : Type 0} (f : A → B) (count : ℕ) (x : A) → map f (replicate count x) ≡ replicate count (f x)
map_replicate f zero x = refl
map_replicate f (suc count) x = ap (λ l. f x ∷ l) (map_replicate f count x)

-- the copies that stand on these ways land in the order of the definition
lands_are : (world : World) (ways : List Way) → map land_on (ways_of world ways) ≡ flat_map (landings world) ways
lands_are world [] = refl
lands_are world (way ∷ more) =
    map-append land_on (replicate (length (world.copies way.0 way.1)) way) (ways_of world more)
    ∙ (λ i. map_replicate land_on (length (world.copies way.0 way.1)) way i ++ lands_are world more i)

round_is : (world : World) (ways : List Way) → ways ≡ standing_ways world → lands ways world ≡ drain_round world
round_is world ways e =
    ap (λ (l : List Way). row (map land_on l) world) e ∙ ap (λ (l : List Act). row l world) (lands_are world (link_ways (scenario_of world)))

module _ (old : NetworkView) (ways : List Way) (standing : (at : Instant) → IsWorld at old → ways ≡ standing_ways at.world) where
  -- all of them lead to nodes of the scenario
  pub standing_within : IsSome MayDrain old → AllByRecursion (λ (way : Way). way.1.0 < length old.scenario.nodes) ways
  standing_within (at, may, is) =
      let own : ways ≡ ways_of at.world (ways_of_links old.scenario.links) =
      standing at is ∙ ap (λ (s : Scenario). ways_of at.world (ways_of_links s.links)) (sym is.scenario) in
      subst (AllByRecursion (λ (way : Way). way.1.0 < length old.scenario.nodes)) (sym own)
      (ways_within old.scenario (own_rules at old is.scenario is.plane) at.world)

  pub has_round : (new : NetworkView) (lines new_lines : List ReportLine) (some : Bool) → (some ≡ false → ways ≡ [])
      → ((at : Instant) → MayDrain at → IsWorld at old → Did at at.moment (lands ways at.world) lines new_lines new)
      → HasRound some old new lines new_lines
  has_round new lines new_lines some none did = record {
    does = λ at may is. subst (λ (o : Outcome). Did at at.moment o lines new_lines new) (round_is at.world ways (standing at is)) (did at may is);
    none = λ e at is. sym (round_is at.world ways (standing at is)) ∙ ap (λ (l : List Way). lands l at.world) (none e);
  }

-- no copy stands anywhere
pub none_left : (empty : Bool) (ways : List Way) → (IsTrue empty → ways ≡ []) → not empty ≡ false → ways ≡ []
none_left true ways h e = h refl
none_left false ways h e = absurd cc

-- So many rounds are done, and the network is one in which more may be.
pub record OnRounds (old : NetworkView) (count : ℕ) (lines new_lines : List ReportLine) (new : NetworkView) : Type 0 where
  pub did : (at : Instant) → MayDrain at → IsWorld at old → Did at at.moment (times drain_round count at.world) lines new_lines new
  pub flows : (at : Instant) (may : MayDrain at) (is : IsWorld at old) → AreOfFlows (did at may is).world
  pub some : IsSome MayDrain new

pub rounds_none : (old : NetworkView) (lines : List ReportLine) → IsSome MayDrain old → OnRounds old 0 lines lines old
rounds_none old lines some = record {
  did = λ at may is. record { acts = []; world = at.world; is = refl; stands = is; told = sym (append-nil lines) };
  flows = λ at may is. may.flows;
  some = some;
}

abbrev round_row : World → List Act
round_row world = flat_map (landings world) (link_ways (scenario_of world))

module _ (old mid new : NetworkView) (count : ℕ) (lines mid_lines new_lines : List ReportLine) (on : OnRounds old count lines mid_lines mid)
    (some : Bool) (round : HasRound some mid new mid_lines new_lines) where
  abbrev before : (at : Instant) → MayDrain at → IsWorld at old → Did at at.moment (times drain_round count at.world) lines mid_lines mid
  before at may is = on.did at may is

  between : (at : Instant) (may : MayDrain at) (is : IsWorld at old) → MayDrain (record at { world = (before at may is).world })
  between at may is = record { rest = may.rest; flows = on.flows at may is }

  last : (at : Instant) (may : MayDrain at) (is : IsWorld at old)
      → Did (record at { world = (before at may is).world }) at.moment (drain_round (before at may is).world) mid_lines new_lines new
  last at may is = round.does (record at { world = (before at may is).world }) (between at may is) (before at may is).stands

  -- one round more
  pub rounds_more : OnRounds old (count + 1) lines new_lines new
  rounds_more = record {
    did = λ at may is.
        let first = before at may is in
        let more = last at may is in
        record {
          acts = first.acts ++ more.acts;
          world = more.world;
          is = times_more drain_round count at.world
              ∙ then_done first.acts first.world drain_round (times drain_round count at.world) first.is more.acts more.world more.is;
          stands = more.stands;
          told = two_told lines mid_lines new_lines first.acts more.acts first.told more.told;
        };
    flows = λ at may is.
        let first = before at may is in
        let more = last at may is in
        row_flows (round_row first.world) first.world more.world more.acts more.is (on.flows at may is);
    some = thereafter on.some;
  }
    where
      thereafter : IsSome MayDrain mid → IsSome MayDrain new
      thereafter (at, may, is) =
          let did = round.does at may is in (
            record at { world = did.world },
            record {
              rest = may.rest;
              flows =
                  row_flows (round_row at.world) at.world did.world did.acts did.is may.flows;
            },
            did.stands,
          )

  -- rounds without copies do nothing
  pub rounds_end : some ≡ false → (all : ℕ) → count ≤ all → (at : Instant) → MayDrain at → IsWorld at old
      → Did at at.moment (times drain_round all at.world) lines new_lines new
  rounds_end none all le at may is =
      let first = before at may is in
      let more = last at may is in
      let rest : ℕ = all - count in
      let split : all ≡ count + rest = omega (arith, le) in
      let idle = round.none none (record at { world = first.world }) first.stands in
      record {
        acts = first.acts ++ more.acts;
        world = more.world;
        is =
            ap (λ n. times drain_round n at.world) split
            ∙ (times_append drain_round count rest at.world
            ∙ then_done first.acts first.world (times drain_round rest) (times drain_round count at.world) first.is more.acts more.world
            (times_idle drain_round rest first.world idle ∙ (sym idle ∙ more.is)));
        stands = more.stands;
        told = two_told lines mid_lines new_lines first.acts more.acts first.told more.told;
      }

pub rounds_all : (old new : NetworkView) (count all : ℕ) (lines new_lines : List ReportLine) → count ≤ all → all ≤ count
    → OnRounds old count lines new_lines new
    → (at : Instant) → MayDrain at → IsWorld at old → Did at at.moment (times drain_round all at.world) lines new_lines new
rounds_all old new count all lines new_lines le ge on at may is =
    let same : count ≡ all = omega (arith, le, ge) in
    subst (λ n. Did at at.moment (times drain_round n at.world) lines new_lines new) same (on.did at may is)

-- ---- the event

pub may_drain : (old : NetworkView) → IsSome IsReady old → IsSome MayDrain old
may_drain old (at, ready, is) = (at, record { rest = ready.resting.rest; flows = ready.flows }, is)

pub drain_meets : (old new : NetworkView) (lines new_lines : List ReportLine) (answer : Result (Unit {0}) NoMemory)
    → Makes MayDrain drained old new lines new_lines answer → Meets events.Drain old new lines new_lines (met (of_memory answer))
drain_meets old new lines new_lines answer makes =
    makes_meet MayDrain drained events.Drain old new lines new_lines answer
    (λ at ready is. (refl, record { rest = ready.resting.rest; flows = ready.flows }, refl)) makes
