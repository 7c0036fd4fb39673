-- Rows of acts, turns and rounds that are done to a network one after another.
use Rattle.std.proofs.Common.{◌≡◌, ◌∙◌, refl, sym, ap, subst, arith, ℕ, zero, suc, ◌+◌, List, [], ◌∷◌, ◌++◌, map, Result, Ok, Err, OnOk, append_assoc}
use Rattle.std.proofs.lemmas.List.{append-nil, map-append}
use Rattle.mv_base.specs.declared.ids.NodeId.{NodeId}
use Rattle.scenario_defs.specs.declared.report.ReportLine.{ReportLine}
use Rattle.network_defs.specs.Acts.{Act}
use Rattle.network_defs.specs.Counts.{node_ids}
use Rattle.network_defs.specs.Events.{Happened, Outcome, Done, Halted, and_then, each, one_act, row, times}
use Rattle.network_defs.specs.World.{World}
use Rattle.network_acts.specs.Acting.{Passes}
use Rattle.network_acts.specs.Instant.{Instant, IsWorld}
use Rattle.network_acts.specs.NetworkView.{NetworkView}
use Rattle.network_acts.specs.Words.{Moment, same_moment}
use Rattle.network_events.specs.Doing.{Did, Does, lines_in}
use Rattle.network_events.specs.declared.halt.Halt.{Halt}
use Rattle.network_events.specs.declared.halt.Halt.TheVariants as halts
use Rattle.network_events.proofs.DoLemmas.{Leads, first_halts, made_did, no_memory_lacks, then_does, then_done}

-- ---- outcomes

pub none_first : (world : World) (next : World → Outcome) → and_then (Done [] world) next ≡ next world
none_first world next = by (next world)
  where
    by : (o : Outcome) → elim o [ Done thereafter new ↦ Done ([] ++ thereafter) new | Halted thereafter n ↦ Halted ([] ++ thereafter) n ] ≡ o
    by (Done thereafter new) = refl
    by (Halted thereafter n) = refl

pub none_after : (o : Outcome) → and_then o (λ world. Done [] world) ≡ o
none_after (Halted acts n) = refl
none_after (Done acts world) = ap (λ (l : List Happened). Done l world) (append-nil acts)

pub then_then : (o : Outcome) (f g : World → Outcome) → and_then (and_then o f) g ≡ and_then o (λ world. and_then (f world) g)
then_then (Halted acts n) f g = refl
then_then (Done acts world) f g = by (f world)
  where
    last : (more : List Happened) (o : Outcome) → ◌≡◌ {A = Outcome}
        (elim o [ Done thereafter new ↦ Done ((acts ++ more) ++ thereafter) new | Halted thereafter n ↦ Halted ((acts ++ more) ++ thereafter) n ])
        (elim (elim o as (λ _. Outcome) [ Done thereafter new ↦ Done (more ++ thereafter) new | Halted thereafter n ↦ Halted (more ++ thereafter) n ])
        [ Done thereafter new ↦ Done (acts ++ thereafter) new | Halted thereafter n ↦ Halted (acts ++ thereafter) n ])
    last more (Done thereafter new) = ap (λ (l : List Happened). Done l new) (append_assoc acts more thereafter)
    last more (Halted thereafter n) = ap (λ (l : List Happened). Halted l n) (append_assoc acts more thereafter)

    by : (o : Outcome) → ◌≡◌ {A = Outcome} (and_then
        (elim o [ Done thereafter new ↦ Done (acts ++ thereafter) new | Halted thereafter n ↦ Halted (acts ++ thereafter) n ]) g)
        (elim (and_then o g) [ Done thereafter new ↦ Done (acts ++ thereafter) new | Halted thereafter n ↦ Halted (acts ++ thereafter) n ])
    by (Halted more n) = refl
    by (Done more new) = last more (g new)

-- ---- rows

pub row_append : (first more : List Act) (world : World) → row (first ++ more) world ≡ and_then (row first world) (row more)
row_append [] more world = sym (none_first world (row more))
row_append (one ∷ first) more world =
    (λ i. and_then (one_act world one) (λ next. row_append first more next i)) ∙ sym (then_then (one_act world one) (row first) (row more))

-- ---- turns

module _ {A : Type 0} (turn : A → World → Outcome) where
  pub each_append : (first more : List A) (world : World) → each turn (first ++ more) world ≡ and_then (each turn first world) (each turn more)
  each_append [] more world = sym (none_first world (each turn more))
  each_append (x ∷ first) more world =
      (λ i. and_then (turn x world) (λ next. each_append first more next i)) ∙ sym (then_then (turn x world) (each turn first) (each turn more))

  pub each_one : (x : A) (world : World) → each turn (x ∷ []) world ≡ turn x world
  each_one x world = none_after (turn x world)

  -- one turn more
  pub each_more : (first : List A) (x : A) (world : World) → each turn (first ++ x ∷ []) world ≡ and_then (each turn first world) (turn x)
  each_more first x world = each_append first (x ∷ []) world ∙ (λ i. and_then (each turn first world) (λ next. each_one x next i))

-- ---- rounds

module _ (round : World → Outcome) where
  pub times_append : (first more : ℕ) (world : World) → times round (first + more) world ≡ and_then (times round first world) (times round more)
  times_append zero more world =
      let same : zero + more ≡ more = omega arith in
      ap (λ n. times round n world) same ∙ sym (none_first world (times round more))
  times_append (suc first) more world =
      let same : suc first + more ≡ suc (first + more) = omega arith in
      ap (λ n. times round n world) same
      ∙ ((λ i. and_then (round world) (λ next. times_append first more next i))
      ∙ sym (then_then (round world) (times round first) (times round more)))

  -- one round more
  pub times_more : (count : ℕ) (world : World) → times round (count + 1) world ≡ and_then (times round count world) round
  times_more count world = times_append count 1 world ∙ (λ i. and_then (times round count world) (λ next. none_after (round next) i))

  -- rounds that do nothing
  pub times_idle : (count : ℕ) (world : World) → round world ≡ Done [] world → times round count world ≡ Done [] world
  times_idle zero world idle = refl
  times_idle (suc count) world idle =
      ap (λ (o : Outcome). and_then o (times round count)) idle ∙ (none_first world (times round count) ∙ times_idle count world idle)

-- ---- acts of all nodes

node_of : ℕ → NodeId
node_of number = record { 0 = number }

ids_append : (from first more : ℕ) → node_ids from (first + more) ≡ node_ids from first ++ node_ids (from + first) more
ids_append from zero more =
    let count : zero + more ≡ more = omega arith in
    let start : from ≡ from + zero = omega arith in
    ap (λ n. node_ids from n) count ∙ ap (λ n. node_ids n more) start
ids_append from (suc first) more =
    let count : suc first + more ≡ suc (first + more) = omega arith in
    let start : from + 1 + first ≡ from + suc first = omega arith in
    ap (λ n. node_ids from n) count
    ∙ (ap (λ (l : List NodeId). record { 0 = from } ∷ l) (ids_append (from + 1) first more)
    ∙ ap (λ n. record { 0 = from } ∷ (node_ids (from + 1) first ++ node_ids n more)) start)

module _ (one : NodeId → Act) where
  pub nodes_append : (first more : ℕ) (world : World)
      → row (map one (node_ids 0 (first + more))) world
      ≡ and_then (row (map one (node_ids 0 first)) world) (row (map one (node_ids (0 + first) more)))
  nodes_append first more world =
      ap (λ (l : List NodeId). row (map one l) world) (ids_append 0 first more)
      ∙ (ap (λ (l : List Act). row l world) (map-append one (node_ids 0 first) (node_ids (0 + first) more))
      ∙ row_append (map one (node_ids 0 first)) (map one (node_ids (0 + first) more)) world)

  -- one node more
  pub nodes_more : (count : ℕ) (world : World) → row (map one (node_ids 0 (count + 1))) world
      ≡ and_then (row (map one (node_ids 0 count)) world) (row (one (record { 0 = count }) ∷ []))
  nodes_more count world =
      let same : 0 + count ≡ count = omega arith in
      nodes_append count 1 world ∙ ap (λ n. and_then (row (map one (node_ids 0 count)) world) (row (one (record { 0 = n }) ∷ []))) same

-- ---- what is done to a network

-- a change that is the same in each world that the network is and with which this holds
pub does_as : (F G : Instant → Type 0) (f g : Moment → Moment) (change other : World → Outcome) (old new : NetworkView)
    (lines new_lines : List ReportLine) (result : Result (Unit {0}) Halt)
    → ((at : Instant) → G at → IsWorld at old → F at × (change at.world ≡ other at.world) × (f at.moment ≡ g at.moment))
    → Does F f change old new lines new_lines result → Does G g other old new lines new_lines result
does_as F G f g change other old new lines new_lines result h does = record {
  done = by result does.done;
  lacks = λ n e at fits is.
      let own = h at fits is in
      let lacked = does.lacks n e at own.0 is in
      record { acts = lacked.acts; is = sym own.1 ∙ lacked.is; told = lacked.told };
}
  where
    by : (r : Result (Unit {0}) Halt) → OnOk r ((at : Instant) → F at → IsWorld at old → Did at (f at.moment) (change at.world) lines new_lines new)
        → OnOk r ((at : Instant) → G at → IsWorld at old → Did at (g at.moment) (other at.world) lines new_lines new)
    by (Ok done) made = λ at fits is.
        let own = h at fits is in
        let did = made at own.0 is in
        record {
          acts = did.acts;
          world = did.world;
          is = sym own.1 ∙ did.is;
          stands = subst (λ (m : Moment). IsWorld (record { cores = at.cores; moment = m; world = did.world }) new) own.2 did.stands;
          told = did.told;
        }
    by (Err halt) made = tt

-- the same, with the same condition and moment
pub does_alike : (F : Instant → Type 0) (change other : World → Outcome) (old new : NetworkView) (lines new_lines : List ReportLine)
    (result : Result (Unit {0}) Halt)
    → ((at : Instant) → F at → IsWorld at old → change at.world ≡ other at.world) → Does F same_moment change old new lines new_lines result
    → Does F same_moment other old new lines new_lines result
does_alike F change other old new lines new_lines result h does =
    does_as F F same_moment same_moment change other old new lines new_lines result (λ at fits is. (fits, h at fits is, refl)) does

-- nothing is to be done
pub does_nothing : (F : Instant → Type 0) (change : World → Outcome) (old : NetworkView) (lines : List ReportLine)
    → ((at : Instant) → F at → IsWorld at old → change at.world ≡ Done [] at.world)
    → Does F same_moment change old old lines lines (Ok tt)
does_nothing F change old lines h = record {
  done = λ at fits is. record { acts = []; world = at.world; is = h at fits is; stands = is; told = sym (append-nil lines) };
  lacks = λ n e. absurd cc;
}

-- one act that has no lines
pub passes_does : (F : Instant → Type 0) (f : Moment → Moment) (one : Act) (old new : NetworkView) (lines : List ReportLine)
    → ((at : Instant) → F at → IsWorld at old → Passes at (f at.moment) one new)
    → Does F f (row (one ∷ [])) old new lines lines (Ok tt)
passes_does F f one old new lines passes = record {
  done = λ at fits is.
      let made = passes at fits is in
      made_did at (f at.moment) one lines lines new
      (record {
        thereafter = made.thereafter;
        is = made.is;
        stands = made.stands;
        told =
            sym (append-nil lines) ∙ ap (λ (l : List ReportLine). lines ++ l) made.told;
      });
  lacks = λ n e. absurd cc;
}

-- where a label is lacked, no moment is left
pub halts_as : (F : Instant → Type 0) (f g : Moment → Moment) (change other : World → Outcome) (old new : NetworkView)
    (lines new_lines : List ReportLine) (halt : Halt)
    → ((world : World) → change world ≡ other world) → Does F f change old new lines new_lines (Err halt)
    → Does F g other old new lines new_lines (Err halt)
halts_as F f g change other old new lines new_lines halt same does = record {
  done = tt;
  lacks = λ n e at fits is. let lacked = does.lacks n e at fits is in
      record { acts = lacked.acts; is = sym (same at.world) ∙ lacked.is; told = lacked.told };
}

-- memory is wanted
pub wants_memory : (F : Instant → Type 0) (f : Moment → Moment) (change : World → Outcome) (old new : NetworkView) (lines new_lines : List ReportLine)
    → Does F f change old new lines new_lines (Err halts.NoMemory)
wants_memory F f change old new lines new_lines = record { done = tt; lacks = λ n e. absurd (no_memory_lacks n e) }

-- ---- a part more

module _ (F G : Instant → Type 0) (first next whole : World → Outcome) (old mid : NetworkView) (lines mid_lines : List ReportLine)
    (split : (world : World) → whole world ≡ and_then (first world) next) where
  pub does_more : (new : NetworkView) (new_lines : List ReportLine) (result : Result (Unit {0}) Halt)
      → Does F same_moment first old mid lines mid_lines (Ok tt)
      → Leads F G same_moment same_moment first next old mid new lines mid_lines new_lines
      → Does G same_moment next mid new mid_lines new_lines result → Does F same_moment whole old new lines new_lines result
  does_more new new_lines result one leads two =
      does_as F F same_moment same_moment (λ world. and_then (first world) next) whole old new lines new_lines result
      (λ at fits is. (fits, sym (split at.world), refl))
      (then_does F G same_moment same_moment first next old mid new lines mid_lines new_lines one leads result two)

  pub halts_early : (halt : Halt) → Does F same_moment first old mid lines mid_lines (Err halt)
      → Does F same_moment whole old mid lines mid_lines (Err halt)
  halts_early halt one =
      does_as F F same_moment same_moment (λ world. and_then (first world) next) whole old mid lines mid_lines (Err halt)
      (λ at fits is. (fits, sym (split at.world), refl))
      (first_halts F F same_moment same_moment first next old mid mid lines mid_lines mid_lines halt one)

  -- what is after it does nothing
  pub rest_idle : Does F same_moment first old mid lines mid_lines (Ok tt)
      → ((at : Instant) → F at → IsWorld at old → (world : World) → (acts : List Happened) → first at.world ≡ Done acts world
      → IsWorld (record { cores = at.cores; moment = at.moment; world = world }) mid → next world ≡ Done [] world)
      → Does F same_moment whole old mid lines mid_lines (Ok tt)
  rest_idle one idle = record {
    done = λ at fits is.
        let did = one.done at fits is in record {
          acts = did.acts ++ [];
          world = did.world;
          is = split at.world ∙ then_done did.acts did.world next (first at.world) did.is [] did.world
              (idle at fits is did.world did.acts did.is did.stands);
          stands = did.stands;
          told = did.told ∙ ap (λ (l : List Happened). lines ++ lines_in l) (sym (append-nil did.acts));
        };
    lacks = λ n e. absurd cc;
  }
