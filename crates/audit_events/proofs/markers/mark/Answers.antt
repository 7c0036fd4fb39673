use Rattle.std.proofs.Common.{◌≡◌, ◌+◌, ◌<◌, ◌++◌, List, [], ◌∷◌, drop, length, sym, ap, subst, ◌∙◌, option_map, arith}
use Rattle.audit_defs.specs.scenario_defs.declared.event.Timed.{Timed}
use Rattle.audit_events.specs.declared.fate.Marked.{Marked}
use Rattle.audit_events.specs.Marking.{IsOnWay, IsMarking}
use Rattle.audit_events.specs.Placed.{Found, found, has_state, mark_at}
use Rattle.audit_events.proofs.MarkingLemmas.{halt_least, misfit_least, short_least, fit_marked}
use Rattle.audit_events.proofs.WayLemmas.{rest_whole, item_in, not_found, marker_way, other_way, clean, whole_way}
use Rattle.audit_events.proofs.markers.mark.Goals as goal
use Rattle.audit_events.proofs.markers.mark.Goals.{then-is_marker+in-Some+in_ok-push, else-is_marker}

pub returns-then-is_halt : goal.returns-then-is_halt
returns-then-is_halt c =
    subst (IsMarking c.args.script.now c.args.report.now) (sym c.offends.ensures)
    (halt_least c.args.script.now c.args.report.now c.requires.rises c.requires.after c.loop-numbered.numbered-index c.numbered-item.result
    (item_in c.as_slice-lines.ensures c.loop-numbered.numbered-index c.numbered-item.result c.loop-numbered-test.true c.numbered-item.is)
    (sym c.is_halt.ensures ∙ c.if-is_halt.true)
    (clean c.args.script.now c.args.report.now c.loop-numbered.numbered-index c.loop-numbered.marked c.loop-numbered.next c.loop-numbered.invariant))

pub returns-in_default : goal.returns-in_default
returns-in_default c =
    subst (IsMarking c.args.script.now c.args.report.now) (sym c.offends-in_default.ensures)
    (misfit_least c.args.script.now c.args.report.now c.requires.rises c.requires.after c.loop-numbered.numbered-index c.numbered-item.result
    (record { marked = c.loop-numbered.marked; next = c.loop-numbered.next; rest = drop c.loop-numbered.next c.args.script.now.events })
    (item_in c.as_slice-lines.ensures c.loop-numbered.numbered-index c.numbered-item.result c.loop-numbered-test.true c.numbered-item.is)
    (sym c.is_marker.ensures ∙ c.if-is_marker.true) c.loop-numbered.invariant.unhalted c.loop-numbered.invariant.placed_so
    (ap (λ (l : List Timed). found c.numbered-item.result.value c.loop-numbered.next (drop c.loop-numbered.next l)) (sym c.as_slice-events.ensures)
    ∙ not_found (found c.numbered-item.result.value c.loop-numbered.next (drop c.loop-numbered.next c.as_slice-events.result.now))
    (sym c.in_default.ensures.place)))

pub loop-numbered-preserved : goal.loop-numbered-preserved
loop-numbered-preserved c =
    let script = c.args.script.now in
    let report = c.args.report.now in
    let i = c.loop-numbered.numbered-index in
    let at = item_in c.as_slice-lines.ensures i c.numbered-item.result c.loop-numbered-test.true c.numbered-item.is in
    let isnt = sym c.is_halt.ensures ∙ c.if-is_halt.false in
    elim c.if-is_marker.branch [
      | then-is_marker+in-Some+in_ok-push w ↦
          let way =
          marker_way script report i c.loop-numbered.marked c.loop-numbered.next c.loop-numbered.invariant c.numbered-item.result w.in-Some.place
          at isnt
          (sym c.is_marker.ensures ∙ w.if-is_marker.true)
          (w.in-Some.ensures.place ∙ ap (λ (l : List Timed). option_map (λ (here : Found). here.place)
          (found c.numbered-item.result.value c.loop-numbered.next (drop c.loop-numbered.next l))) c.as_slice-events.ensures)
          (subst (λ (l : List Timed). w.in-Some.place < length l) c.as_slice-events.ensures w.in-Some.ensures.within) in
          subst (λ (m : List Marked). IsOnWay script report (i + 1) m c.if-is_marker.next)
          (sym (w.marked-is ∙ (w.in_ok-push.ensures.ok
          ∙ ap (λ f. c.loop-numbered.marked ++ record { place = w.in-Some.place; fate = f } ∷ []) w.fate_of.ensures)))
          (subst (λ n. IsOnWay script report (i + 1) (c.loop-numbered.marked ++ mark_at c.numbered-item.result.value w.in-Some.place ∷ []) n)
          (sym w.next-is) way)
      | else-is_marker w ↦
          let way =
          other_way script report i c.loop-numbered.marked c.loop-numbered.next c.loop-numbered.invariant c.numbered-item.result at isnt
          (sym c.is_marker.ensures ∙ w.if-is_marker.false) in
          subst (λ (m : List Marked). IsOnWay script report (i + 1) m c.if-is_marker.next) (sym w.marked-is)
          (subst (λ n. IsOnWay script report (i + 1) c.loop-numbered.marked n) (sym w.next-is) way)
    ]

pub returns-then-has_state : goal.returns-then-has_state
returns-then-has_state c =
    let lines = ap length c.as_slice-lines.ensures in
    let low = c.loop-numbered-test.false in
    let high = c.loop-numbered.auto.numbered-index-end in
    let all : c.loop-numbered.numbered-index ≡ length c.args.report.now.lines = omega (arith, lines, low, high) in
    let whole =
    whole_way c.args.script.now c.args.report.now c.loop-numbered.numbered-index c.loop-numbered.marked c.loop-numbered.next
    c.loop-numbered.invariant all in
    subst (IsMarking c.args.script.now c.args.report.now) (sym c.offends-then-has_state.ensures)
    (short_least c.args.script.now c.args.report.now c.requires.rises c.requires.after
    (record { marked = c.loop-numbered.marked; next = c.loop-numbered.next; rest = drop c.loop-numbered.next c.args.script.now.events }) whole.0
    whole.1
    (ap (λ (l : List Timed). has_state (drop c.loop-numbered.next l)) (sym c.as_slice-events.ensures)
    ∙ (ap has_state (sym (rest_whole c.as_slice-events.result.now c.loop-numbered.next)) ∙ (sym c.has_state.ensures ∙ c.if-has_state.true))))

pub returns : goal.returns
returns c =
    let lines = ap length c.as_slice-lines.ensures in
    let low = c.loop-numbered-test.false in
    let high = c.loop-numbered.auto.numbered-index-end in
    let all : c.loop-numbered.numbered-index ≡ length c.args.report.now.lines = omega (arith, lines, low, high) in
    let whole =
    whole_way c.args.script.now c.args.report.now c.loop-numbered.numbered-index c.loop-numbered.marked c.loop-numbered.next
    c.loop-numbered.invariant all in
    fit_marked c.args.script.now c.args.report.now
    (record { marked = c.loop-numbered.marked; next = c.loop-numbered.next; rest = drop c.loop-numbered.next c.args.script.now.events })
    c.requires.rises whole.0 whole.1
    (ap (λ (l : List Timed). has_state (drop c.loop-numbered.next l)) (sym c.as_slice-events.ensures)
    ∙ (ap has_state (sym (rest_whole c.as_slice-events.result.now c.loop-numbered.next)) ∙ (sym c.has_state.ensures ∙ c.if-has_state.false)))
