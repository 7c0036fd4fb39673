-- The hops of a report after one event more, after the later events of a run, and at a halt.
use Rattle.std.proofs.Common.{◌≡◌, ℕ, zero, suc, ◌+◌, ◌<◌, ◌≤◌, ◌++◌, take, drop, length, slice_get, List, [], ◌∷◌, Some, refl, sym, ap, subst, ◌∙◌, append-nil, append_assoc, arith}
use Rattle.std.specs.List.{flat_map, AllByRecursion}
use Rattle.std.proofs.lemmas.List.{map-append, take-append-drop}
use Rattle.std.proofs.lemmas.List.Concat.{flat_map-append}
use Rattle.core_pcap.specs.declared.hop.CoreHop.{CoreHop}
use Rattle.mv_base.specs.declared.ids.NodeId.{NodeId}
use Rattle.scenario_defs.specs.Rules.{Rises, ScriptRules}
use Rattle.scenario_defs.specs.declared.event.Script.{Script}
use Rattle.scenario_defs.specs.declared.event.Timed.{Timed}
use Rattle.scenario_defs.specs.declared.report.ReportLine.{ReportLine}
use Rattle.scenario_defs.specs.declared.report.ReportLine.TheVariants as lines
use Rattle.mvpn_model.specs.Report.{Entry, refused_line, refused_lines}
use Rattle.network_defs.specs.Costs.{Cores}
use Rattle.network_defs.specs.Events.{Happened, Done, Halted}
use Rattle.network_defs.specs.Run.{Run, Traced, outcome, report_of, traced}
use Rattle.network_defs.specs.World.{World, start}
use Rattle.delivery_laws.specs.Flood.{lines_in}
use Rattle.delivery_laws.proofs.Accepted.{TellsAccepted, tells_accepted}
use Rattle.delivery_laws.proofs.OnceLemmas.{rises_first}
use Rattle.delivery_laws.proofs.Sendings.{tell_same, tells_first}
use Rattle.delivery_laws.proofs.Splits.{run_numbers, runs_join, take_to}
use Rattle.delivery_laws.proofs.network_laws.Lists.{each_append}
use Rattle.run_laws.proofs.rule_laws.Plain.{IsPlainLine, IsQuiet, halts_quiet}
use Rattle.hop_laws.specs.Hops.{hop_by, hops_in, hops_of}
use Rattle.hop_laws.proofs.Hops.{AreAlike, IsBefore, acts_hops, acts_refused, entry_at, hops_more, refused-append}

short_take : {X : Type 0} (count : ℕ) (xs : List X) → length (take count xs) ≤ count
short_take zero xs = omega arith
short_take (suc count) [] = omega arith
short_take (suc count) (x ∷ xs) = (let rest = short_take count xs in omega (arith, rest))

pub length_at : {X : Type 0} (xs : List X) (place : ℕ) (x : X) → slice_get xs place ≡ Some x → length (take place xs) ≡ place
length_at [] place x e = absurd cc
length_at (y ∷ xs) zero x e = refl
length_at (y ∷ xs) (suc place) x e = ap suc (length_at xs place x e)

each_less : (low high : ℕ) (trace : List Traced) → AllByRecursion (λ (step : Traced). (low ≤ step.event) × (step.event < high)) trace
    → AllByRecursion (IsBefore high) (report_of trace)
each_less low high [] all = tt
each_less low high (step ∷ more) all = (all.0.1, each_less low high more all.1)

report-append : (first more : List Traced) → report_of (first ++ more) ≡ report_of first ++ report_of more
report-append first more = map-append (λ (step : Traced). record { event = step.event; lines = step.happened.lines }) first more

-- ---- acts without hops

no_hop : (clock : ℕ) (sent : List (List ℕ)) (line : ReportLine) → IsPlainLine line → hop_by clock sent line ≡ []
no_hop clock sent (lines.Put kind from to bytes) p = refl
no_hop clock sent (lines.Take kind from to bytes) p = refl
no_hop clock sent (lines.State bytes copies buffers due unready) p = refl
no_hop clock sent other p = absurd p

plain_hops : (clock : ℕ) (sent : List (List ℕ)) (all : List ReportLine) → AllByRecursion IsPlainLine all → flat_map (hop_by clock sent) all ≡ []
plain_hops clock sent [] is = refl
plain_hops clock sent (line ∷ more) is = (λ i. no_hop clock sent line is.0 i ++ plain_hops clock sent more is.1 i)

refuses_none : (line : ReportLine) → IsPlainLine line → refused_line line ≡ []
refuses_none (lines.Put kind from to bytes) p = refl
refuses_none (lines.Take kind from to bytes) p = refl
refuses_none (lines.State bytes copies buffers due unready) p = refl
refuses_none other p = absurd p

plain_refused : (all : List ReportLine) → AllByRecursion IsPlainLine all → flat_map refused_line all ≡ []
plain_refused [] is = refl
plain_refused (line ∷ more) is = (λ i. refuses_none line is.0 i ++ plain_refused more is.1 i)

quiet_lines : (acts : List Happened) → AllByRecursion IsQuiet acts → AllByRecursion IsPlainLine (lines_in acts)
quiet_lines [] quiet = tt
quiet_lines (happened ∷ more) quiet = each_append IsPlainLine happened.lines (lines_in more) quiet.0.lines (quiet_lines more quiet.1)

-- An event that runs out of labels puts no copy.
module _ (state : World) (timed : Timed) (acts : List Happened) (node : NodeId) (is : outcome state timed ≡ Halted acts node) where
  plain_acts : AllByRecursion IsPlainLine (lines_in acts)
  plain_acts = quiet_lines acts (halts_quiet state timed acts node is)

  pub halting_hops : (events : List Timed) (refused : List ℕ) (number : ℕ)
      → hops_in events refused (entry_at number (lines_in acts ++ lines.Halt timed.line node ∷ [])) ≡ []
  halting_hops events refused number =
      let hops = hop_by _ _ in
      flat_map-append hops (lines_in acts) (lines.Halt timed.line node ∷ []) ∙ append-nil (flat_map hops (lines_in acts))
      ∙ plain_hops _ _ (lines_in acts) plain_acts

-- ---- after the first events

module _ (cores : Cores) (script : Script) (count : ℕ) (trace : List Traced) (state : World)
    (run : Run cores script (take count script.events) trace state) where
  abbrev first : List Timed
  first = take count script.events

  abbrev refused : List ℕ
  refused = refused_lines (report_of trace)

  entries_before : AllByRecursion (IsBefore count) (report_of trace)
  entries_before =
      each_less 0 count trace (run_numbers first (start script.scenario cores) 0 trace state run 0 count (omega arith)
      (let few = short_take count script.events in omega (arith, few)))

  module _ (more : List Timed) (late : List Traced) (new : World) (rises : Rises 0 (first ++ more))
      (whole : Run cores script (first ++ more) (trace ++ late) new) where
    abbrev all_refused : List ℕ
    all_refused = refused ++ refused_lines (report_of late)

    refused_both : all_refused ≡ refused_lines (report_of (trace ++ late))
    refused_both = sym (ap refused_lines (report-append trace late) ∙ refused-append (report_of trace) (report_of late))

    pub all_tell : TellsAccepted all_refused (start script.scenario cores) (first ++ more)
    all_tell =
        tells_accepted (first ++ more) (start script.scenario cores) 0 (trace ++ late) new 0 [] all_refused rises (λ line less. refl) refused_both
        whole

    pub first_alike : AreAlike all_refused refused first
    first_alike =
        tell_same all_refused refused first (start script.scenario cores) 0 trace state
        (tells_first all_refused first more (start script.scenario cores) all_tell)
        (tells_accepted first (start script.scenario cores) 0 trace state 0 [] refused (rises_first 0 first more rises) (λ line less. refl) refl run)
        run

    -- The hops of later events come after those of the first ones.
    pub hops_go_on : hops_of script.events (report_of (trace ++ late)) ≡ hops_of script.events (report_of trace)
        ++ flat_map (hops_in script.events all_refused) (report_of late)
    hops_go_on =
        ap (hops_of script.events) (report-append trace late)
        ∙ hops_more script.events count (report_of trace) (report_of late) entries_before first_alike

  -- ---- one event more

  module _ (rules : ScriptRules script) (timed : Timed) (at : slice_get script.events count ≡ Some timed) where
    pub rises_next : Rises 0 (first ++ timed ∷ [])
    rises_next =
        rises_first 0 (first ++ timed ∷ []) (drop (suc count) script.events)
        (subst (Rises 0) (sym (take-append-drop (suc count) script.events)
        ∙ ap (λ (l : List Timed). l ++ drop (suc count) script.events) (take_to script.events count timed at)) rules.lines)

    module _ (acts : List Happened) (next : World) (is : outcome state timed ≡ Done acts next) where
      pub run_next : Run cores script (first ++ timed ∷ []) (trace ++ traced count acts) next
      run_next =
          let place : count ≡ 0 + length first = omega (arith, length_at script.events count timed at) in
          runs_join first (timed ∷ []) (start script.scenario cores) state next 0 trace (traced count acts) run count place
          (acts, next, [], is, sym (append-nil (traced count acts)), (refl, refl))

      pub hops_next : hops_of script.events (report_of (trace ++ traced count acts))
          ≡ hops_of script.events (report_of trace) ++ hops_in script.events (refused ++ flat_map refused_line (lines_in acts))
          (entry_at count (lines_in acts))
      hops_next =
          hops_go_on (timed ∷ []) (traced count acts) next rises_next run_next
          ∙ ap (λ (hops : List CoreHop). hops_of script.events (report_of trace) ++ hops)
          (acts_hops script.events (refused ++ refused_lines (report_of (traced count acts))) count acts
          ∙ ap (λ (own : List ℕ). hops_in script.events (refused ++ own) (entry_at count (lines_in acts))) (acts_refused count acts))

  -- ---- a halt

  module _ (timed : Timed) (acts : List Happened) (node : NodeId) (is : outcome state timed ≡ Halted acts node) where
    abbrev halt : Entry
    halt = record { event = count; lines = lines.Halt timed.line node ∷ [] }

    none_refused : refused_lines (report_of (traced count acts) ++ halt ∷ []) ≡ []
    none_refused =
        refused-append (report_of (traced count acts)) (halt ∷ []) ∙ append-nil (refused_lines (report_of (traced count acts)))
        ∙ acts_refused count acts ∙ plain_refused (lines_in acts) (plain_acts state timed acts node is)

    same_refused : (report : List Entry) → report ≡ report_of trace ++ (report_of (traced count acts) ++ halt ∷ []) → refused_lines report ≡ refused
    same_refused report e =
        ap refused_lines e ∙ refused-append (report_of trace) (report_of (traced count acts) ++ halt ∷ [])
        ∙ ap (λ (own : List ℕ). refused ++ own) none_refused ∙ append-nil refused

    no_hops : flat_map (hops_in script.events refused) (report_of (traced count acts) ++ halt ∷ []) ≡ []
    no_hops =
        flat_map-append (hops_in script.events refused) (report_of (traced count acts)) (halt ∷ [])
        ∙ append-nil (flat_map (hops_in script.events refused) (report_of (traced count acts)))
        ∙ acts_hops script.events refused count acts ∙ plain_hops _ _ (lines_in acts) (plain_acts state timed acts node is)

    -- The acts of an event that runs out of labels, and the line of the halt, have no hops.
    pub hops_at_halt : hops_of script.events (report_of (trace ++ traced count acts) ++ halt ∷ []) ≡ hops_of script.events (report_of trace)
    hops_at_halt =
        let thereafter : List Entry = report_of (traced count acts) ++ halt ∷ [] in
        let parts : report_of (trace ++ traced count acts) ++ halt ∷ [] ≡ report_of trace ++ thereafter =
        ap (λ (l : List Entry). l ++ halt ∷ []) (report-append trace (traced count acts))
        ∙ append_assoc (report_of trace) (report_of (traced count acts)) (halt ∷ []) in
        ap (λ (l : List ℕ). flat_map (hops_in script.events l) (report_of (trace ++ traced count acts) ++ halt ∷ [])) (same_refused _ parts)
        ∙ ap (flat_map (hops_in script.events refused)) parts
        ∙ flat_map-append (hops_in script.events refused) (report_of trace) thereafter
        ∙ ap (λ (hops : List CoreHop). flat_map (hops_in script.events refused) (report_of trace) ++ hops) no_hops
        ∙ append-nil (flat_map (hops_in script.events refused) (report_of trace))
