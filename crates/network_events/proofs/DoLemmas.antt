-- What is done to a network, act by act: one act, and more acts after.
use Rattle.std.proofs.Common.{◌≡◌, ◌∙◌, refl, sym, ap, subst, ◌++◌, Bool, true, false, List, [], ◌∷◌, append_assoc, Some, Result, Ok, Err, OnOk}
use Rattle.std.proofs.lemmas.List.Concat.{flat_map-append}
use Rattle.std.proofs.lemmas.List.{append-nil}
use Rattle.mv_base.specs.declared.ids.NodeId.{NodeId}
use Rattle.scenario_defs.specs.declared.report.ReportLine.{ReportLine}
use Rattle.mldp_node.specs.declared.fault.NodeFault.{NodeFault}
use Rattle.mldp_node.specs.declared.fault.NodeFault.TheVariants as faults
use Rattle.network_defs.specs.Acts.{Act, Acted, act}
use Rattle.network_defs.specs.Events.{Happened, Outcome, Done, Halted, and_then, row}
use Rattle.network_defs.specs.World.{World}
use Rattle.network_acts.specs.Acting.{ActsAs, Made}
use Rattle.network_acts.specs.Instant.{Instant, IsSome, IsWorld}
use Rattle.network_acts.specs.NetworkView.{NetworkView}
use Rattle.network_acts.specs.Words.{Moment}
use Rattle.network_events.specs.Doing.{Did, Does, Lacked, answer_at, lines_in}
use Rattle.network_events.specs.declared.halt.Halt.{Halt}
use Rattle.network_events.specs.declared.halt.Halt.TheVariants as halts

-- ---- outcomes

pub lines_after : (first more : List Happened) → lines_in (first ++ more) ≡ lines_in first ++ lines_in more
lines_after first more = flat_map-append (λ (happened : Happened). happened.lines) first more

-- lines after lines
pub two_told : (lines mid_lines new_lines : List ReportLine) (before thereafter : List Happened) → mid_lines ≡ lines ++ lines_in before
    → new_lines ≡ mid_lines ++ lines_in thereafter → new_lines ≡ lines ++ lines_in (before ++ thereafter)
two_told lines mid_lines new_lines before thereafter one two =
    two ∙ (ap (λ (l : List ReportLine). l ++ lines_in thereafter) one ∙ (append_assoc lines (lines_in before) (lines_in thereafter)
    ∙ ap (λ (l : List ReportLine). lines ++ l) (sym (lines_after before thereafter))))

-- an outcome that is done, with another one after
pub then_done : (acts : List Happened) (world : World) (next : World → Outcome) (first : Outcome) → first ≡ Done acts world
    → (thereafter : List Happened) (new : World) → next world ≡ Done thereafter new
    → and_then first next ≡ Done (acts ++ thereafter) new
then_done acts world next first e thereafter new f =
    ap (λ (o : Outcome). and_then o next) e ∙ ap
    (λ (o : Outcome). elim o [ Done more w ↦ Done (acts ++ more) w | Halted more n ↦ Halted (acts ++ more) n ]) f

pub then_halted : (acts : List Happened) (world : World) (next : World → Outcome) (first : Outcome) → first ≡ Done acts world
    → (thereafter : List Happened) (n : NodeId) → next world ≡ Halted thereafter n
    → and_then first next ≡ Halted (acts ++ thereafter) n
then_halted acts world next first e thereafter n f =
    ap (λ (o : Outcome). and_then o next) e ∙ ap
    (λ (o : Outcome). elim o [ Done more w ↦ Done (acts ++ more) w | Halted more m ↦ Halted (acts ++ more) m ]) f

pub halted_first : (acts : List Happened) (n : NodeId) (next : World → Outcome) (first : Outcome) → first ≡ Halted acts n
    → and_then first next ≡ Halted acts n
halted_first acts n next first e = ap (λ (o : Outcome). and_then o next) e

-- ---- one act

pub one_done : (world : World) (one : Act) (thereafter : Acted) → act world one ≡ Ok thereafter
    → row (one ∷ []) world ≡ Done (record { act = Some one; lines = thereafter.lines } ∷ []) thereafter.world
one_done world one thereafter e =
    ap (λ (r : Result Acted NodeId). and_then (elim r
    [ Ok new ↦ Done (record { act = Some one; lines = new.lines } ∷ []) new.world | Err node ↦ Halted [] node ]) (row [])) e

one_lacks : (world : World) (one : Act) (n : NodeId) → act world one ≡ Err n → row (one ∷ []) world ≡ Halted [] n
one_lacks world one n e =
    ap (λ (r : Result Acted NodeId). and_then (elim r
    [ Ok new ↦ Done (record { act = Some one; lines = new.lines } ∷ []) new.world | Err node ↦ Halted [] node ]) (row [])) e

pub made_did : (at : Instant) (moment : Moment) (one : Act) (lines new_lines : List ReportLine) (new : NetworkView)
    → Made at moment one lines new_lines new
    → Did at moment (row (one ∷ []) at.world) lines new_lines new
made_did at moment one lines new_lines new made = record {
  acts = record { act = Some one; lines = made.thereafter.lines } ∷ [];
  world = made.thereafter.world;
  is = one_done at.world one made.thereafter made.is;
  stands = made.stands;
  told = made.told ∙ ap (λ (l : List ReportLine). lines ++ l) (sym (append-nil made.thereafter.lines));
}

abbrev stopped : Halt → Result (Unit {0}) Halt
stopped halt = Err halt

-- the halt names the node that lacked a label
node_of : (n m : NodeId) → stopped (halts.NoLabel n) ≡ stopped (halts.NoLabel m) → n ≡ m
node_of n m e = ap (λ (r : Result (Unit {0}) Halt). elim r [ Ok done ↦ n | Err halt ↦ elim halt [ halts.NoLabel k ↦ k | halts.NoMemory ↦ n ] ]) e

pub no_memory_lacks : (m : NodeId) → stopped halts.NoMemory ≡ stopped (halts.NoLabel m) → ⊥
no_memory_lacks m e =
    (let t = ap {B = Bool} (λ (r : Result (Unit {0}) Halt). elim r
    [ Ok done ↦ true | Err halt ↦ elim halt [ halts.NoLabel k ↦ true | halts.NoMemory ↦ false ] ]) e in cc)

pub act_does : (Fits : Instant → Type 0) (moment : Moment → Moment) (one : Act) (n : NodeId) (old new : NetworkView)
    (lines new_lines : List ReportLine) (answer : Result (Unit {0}) NodeFault)
    → ActsAs Fits moment one n old new lines new_lines answer → Does Fits moment (row (one ∷ [])) old new lines new_lines (answer_at n answer)
act_does Fits moment one n old new lines new_lines (Ok done) acts = record {
  done = λ at fits is. made_did at (moment at.moment) one lines new_lines new (acts.made at fits is);
  lacks = λ m e. absurd (let t = ap {B = Bool} (λ (r : Result (Unit {0}) Halt). elim r [ Ok d ↦ true | Err halt ↦ false ]) e in cc);
}
act_does Fits moment one n old new lines new_lines (Err faults.NoLabel) acts = record {
  done = tt;
  lacks = λ m e at fits is.
      let lacking = acts.lacks refl at fits is in
      record {
        acts = [];
        is =
            subst (λ (k : NodeId). row (one ∷ []) at.world ≡ Halted [] k) (node_of n m e) (one_lacks at.world one n lacking.0);
        told =
            lacking.1 ∙ sym (append-nil lines);
      };
}
act_does Fits moment one n old new lines new_lines (Err faults.NoMemory) acts = record { done = tt; lacks = λ m e. absurd (no_memory_lacks m e) }

-- ---- more after

module _ (F G : Instant → Type 0) (f g : Moment → Moment) (first next : World → Outcome) (old mid new : NetworkView)
    (lines mid_lines new_lines : List ReportLine) where
  -- Where the first part is done, the second begins in a world with which its condition holds.
  abbrev pub Leads : Type 0
  Leads = (at : Instant) → F at → IsWorld at old → (acts : List Happened) (world : World) → first at.world ≡ Done acts world
      → IsWorld (record { cores = at.cores; moment = f at.moment; world = world }) mid
      → G (record { cores = at.cores; moment = f at.moment; world = world })

  -- the network of the middle is some world of that kind
  pub some_mid : Does F f first old mid lines mid_lines (Ok tt) → Leads → IsSome F old → IsSome G mid
  some_mid one leads (at, fits, is) =
      let did = one.done at fits is in
      (record { cores = at.cores; moment = f at.moment; world = did.world }, leads at fits is did.acts did.world did.is did.stands, did.stands)

  abbrev DidFirst : Instant → Type 0
  DidFirst at = Did at (f at.moment) (first at.world) lines mid_lines mid

  abbrev between : (at : Instant) → DidFirst at → Instant
  between at did = record { cores = at.cores; moment = f at.moment; world = did.world }

  both_did : (at : Instant) (did : DidFirst at) → Did (between at did) (g (f at.moment)) (next did.world) mid_lines new_lines new
      → Did at (g (f at.moment)) (and_then (first at.world) next) lines new_lines new
  both_did at did more = record {
    acts = did.acts ++ more.acts;
    world = more.world;
    is = then_done did.acts did.world next (first at.world) did.is more.acts more.world more.is;
    stands = more.stands;
    told = two_told lines mid_lines new_lines did.acts more.acts did.told more.told;
  }

  second_lacked : (at : Instant) (n : NodeId) (did : DidFirst at) → Lacked (next did.world) n mid_lines new_lines
      → Lacked (and_then (first at.world) next) n lines new_lines
  second_lacked at n did more = record {
    acts = did.acts ++ more.acts;
    is = then_halted did.acts did.world next (first at.world) did.is more.acts n more.is;
    told = two_told lines mid_lines new_lines did.acts more.acts did.told more.told;
  }

  pub then_does : Does F f first old mid lines mid_lines (Ok tt) → Leads → (result : Result (Unit {0}) Halt)
      → Does G g next mid new mid_lines new_lines result
      → Does F (λ m. g (f m)) (λ world. and_then (first world) next) old new lines new_lines result
  then_does one leads result two = record {
    done = by result two.done;
    lacks = λ n e at fits is. let did = one.done at fits is in
        second_lacked at n did (two.lacks n e (between at did) (leads at fits is did.acts did.world did.is did.stands) did.stands);
  }
    where
      by : (r : Result (Unit {0}) Halt) → OnOk r ((at : Instant) → G at → IsWorld at mid
          → Did at (g at.moment) (next at.world) mid_lines new_lines new)
          → OnOk r ((at : Instant) → F at → IsWorld at old → Did at (g (f at.moment)) (and_then (first at.world) next) lines new_lines new)
      by (Ok done) made = λ at fits is. let did = one.done at fits is in
          both_did at did (made (between at did) (leads at fits is did.acts did.world did.is did.stands) did.stands)
      by (Err halt) made = tt

  -- Where the first part halts, so does the whole.
  pub first_halts : (halt : Halt) → Does F f first old mid lines mid_lines (Err halt)
      → Does F (λ m. g (f m)) (λ world. and_then (first world) next) old mid lines mid_lines (Err halt)
  first_halts halt one = record {
    done = tt;
    lacks = λ n e at fits is.
        let lacked = one.lacks n e at fits is in
        record { acts = lacked.acts; is = halted_first lacked.acts n next (first at.world) lacked.is; told = lacked.told };
  }
