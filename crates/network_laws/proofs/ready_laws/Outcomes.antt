-- What holds after rows of acts, and that none of their lines refuses an event.
use Rattle.std.specs.Prelude.{⊤, replicate}
use Rattle.std.proofs.Common.{◌≡◌, ℕ, zero, suc, ◌++◌, map, List, [], ◌∷◌, Some, refl, ap, subst, ◌∙◌}
use Rattle.std.specs.Prelude.{Result, Ok, Err}
use Rattle.std.specs.List.{flat_map, AllByRecursion}
use Rattle.std.proofs.lemmas.List.Concat.{flat_map-append}
use Rattle.mv_base.specs.declared.ids.NodeId.{NodeId}
use Rattle.scenario_defs.specs.declared.report.ReportLine.{ReportLine}
use Rattle.scenario_defs.specs.declared.scenario.Scenario.{Scenario}
use Rattle.network_defs.specs.Acts.{Act, Acted, act}
use Rattle.network_defs.specs.Events.{Happened, Outcome, Done, Halted, and_then, one_act, row, each, times}
use Rattle.network_defs.specs.mvpn_model.Unready.{SessionsStand}
use Rattle.network_defs.specs.World.{World}
use Rattle.network_laws.proofs.ready_laws.ActsStand.{refused_in, none_refused, Gives, WorldStands, act_stand, act_gives}

-- the lines of what happened
abbrev pub lines_in : List Happened → List ReportLine
lines_in acts = flat_map (λ happened. happened.lines) acts

-- The world after, if no act lacks a label, has the property, and no line refuses an event.
abbrev pub Comes : (World → Type 0) → Outcome → Type 0
Comes P (Halted acts node) = ⊤
Comes P (Done acts new) = (refused_in (lines_in acts) ≡ []) × P new

lines_after : (first more : List Happened) → refused_in (lines_in first) ≡ [] → refused_in (lines_in more) ≡ []
    → refused_in (lines_in (first ++ more)) ≡ []
lines_after first more f m =
    ap refused_in (flat_map-append (λ (happened : Happened). happened.lines) first more) ∙ none_refused (lines_in first) (lines_in more) f m

pub then_comes : (P Q : World → Type 0) (first : Outcome) (next : World → Outcome) → Comes P first
    → ((world : World) → P world → Comes Q (next world)) → Comes Q (and_then first next)
then_comes P Q (Halted acts node) next p h = tt
then_comes P Q (Done acts world) next p h = by (next world) (h world p.1)
  where
    by : (o : Outcome) → Comes Q o → Comes Q (elim o
        [ Done thereafter new ↦ Done (acts ++ thereafter) new | Halted thereafter node ↦ Halted (acts ++ thereafter) node ])
    by (Halted thereafter node) q = tt
    by (Done thereafter new) q = (lines_after acts thereafter p.0 q.0, q.1)

pub comes_as : (P Q : World → Type 0) (o : Outcome) → ((world : World) → P world → Q world) → Comes P o → Comes Q o
comes_as P Q (Halted acts node) h p = tt
comes_as P Q (Done acts new) h p = (p.0, h new p.1)

one_comes : (P : World → Type 0) (world : World) (first : Act) → Gives P (act world first) → Comes P (one_act world first)
one_comes P world first g = by (act world first) g
  where
    by : (o : Result Acted NodeId) → Gives P o → Comes P
        (elim o [ Ok new ↦ Done (record { act = Some first; lines = new.lines } ∷ []) new.world | Err node ↦ Halted [] node ])
    by (Err node) h = tt
    by (Ok new) h = (none_refused new.lines [] h.0 refl, h.1)

-- ---- rows

-- where the sessions stand after a row of acts
abbrev pub acts_stand : Scenario → List Act → SessionsStand → SessionsStand
acts_stand scenario [] old = old
acts_stand scenario (first ∷ more) old = acts_stand scenario more (act_stand scenario first old)

pub row_comes : (scenario : Scenario) (standing : SessionsStand) (acts : List Act) (world : World) → WorldStands scenario standing world
    → Comes (WorldStands scenario (acts_stand scenario acts standing)) (row acts world)
row_comes scenario standing [] world s = (refl, s)
row_comes scenario standing (first ∷ more) world s =
    then_comes (WorldStands scenario (act_stand scenario first standing)) (WorldStands scenario (acts_stand scenario (first ∷ more) standing))
    (one_act world first) (row more)
    (one_comes (WorldStands scenario (act_stand scenario first standing)) world first (act_gives scenario standing world first s))
    (λ next p. row_comes scenario (act_stand scenario first standing) more next p)

-- acts that change nothing of where the sessions stand
abbrev pub AreStill : Scenario → SessionsStand → List Act → Type 0
AreStill scenario standing acts = AllByRecursion (λ one. act_stand scenario one standing ≡ standing) acts

still_after : (scenario : Scenario) (standing : SessionsStand) (acts : List Act) → AreStill scenario standing acts
    → acts_stand scenario acts standing ≡ standing
still_after scenario standing [] h = refl
still_after scenario standing (first ∷ more) h = ap (acts_stand scenario more) h.0 ∙ still_after scenario standing more h.1

pub still_row : (scenario : Scenario) (standing : SessionsStand) (acts : List Act) (world : World) → AreStill scenario standing acts
    → WorldStands scenario standing world → Comes (WorldStands scenario standing) (row acts world)
still_row scenario standing acts world h s =
    subst (λ (x : SessionsStand). Comes (WorldStands scenario x) (row acts world)) (still_after scenario standing acts h)
    (row_comes scenario standing acts world s)

pub still_map : {A : Type 0} (scenario : Scenario) (standing : SessionsStand) (one : A → Act)
    → ((x : A) → act_stand scenario (one x) standing ≡ standing) → (all : List A) → AreStill scenario standing (map one all)
still_map scenario standing one h [] = tt
still_map scenario standing one h (x ∷ more) = (h x, still_map scenario standing one h more)

still_both : (scenario : Scenario) (standing : SessionsStand) (first more : List Act) → AreStill scenario standing first
    → AreStill scenario standing more → AreStill scenario standing (first ++ more)
still_both scenario standing [] more f m = m
still_both scenario standing (one ∷ first) more f m = (f.0, still_both scenario standing first more f.1 m)

pub still_rows : {A : Type 0} (scenario : Scenario) (standing : SessionsStand) (acts : A → List Act) → ((x : A) → AreStill scenario standing (acts x))
    → (all : List A) → AreStill scenario standing (flat_map acts all)
still_rows scenario standing acts h [] = tt
still_rows scenario standing acts h (x ∷ more) =
    still_both scenario standing (acts x) (flat_map acts more) (h x) (still_rows scenario standing acts h more)

pub still_copies : (scenario : Scenario) (standing : SessionsStand) (one : Act) → act_stand scenario one standing ≡ standing → (count : ℕ)
    → AreStill scenario standing (replicate count one)
still_copies scenario standing one h zero = tt
still_copies scenario standing one h (suc count) = (h, still_copies scenario standing one h count)

-- ---- turns and rounds

-- What each turn keeps holds after all of them.
pub each_keeps : {A : Type 0} (P : World → Type 0) (turn : A → World → Outcome) → ((x : A) (world : World) → P world → Comes P (turn x world))
    → (all : List A) (world : World) → P world → Comes P (each turn all world)
each_keeps P turn h [] world p = (refl, p)
each_keeps P turn h (x ∷ more) world p = then_comes P P (turn x world) (each turn more) (h x world p) (λ next q. each_keeps P turn h more next q)

-- What each round keeps holds after all of them.
pub times_keeps : (P : World → Type 0) (round : World → Outcome) → ((world : World) → P world → Comes P (round world)) → (count : ℕ) (world : World)
    → P world → Comes P (times round count world)
times_keeps P round h zero world p = (refl, p)
times_keeps P round h (suc count) world p =
    then_comes P P (round world) (times round count) (h world p) (λ next q. times_keeps P round h count next q)
