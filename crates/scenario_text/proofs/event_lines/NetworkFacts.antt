-- What a line of an event of the clock, a node, a session or a link keeps to where it is without fault.
use Rattle.std.proofs.Common.{◌≡◌, ℕ, ◌<◌, ◌≤◌, List, [], ◌∷◌, length}
use Rattle.std.specs.Prelude.{Ok}
use Rattle.mv_base.specs.declared.ids.NodeId.{NodeId}
use Rattle.scenario_defs.specs.declared.scenario.Scenario.{Scenario}
use Rattle.scenario_defs.specs.declared.event.Kind.{Kind}
use Rattle.scenario_defs.specs.declared.event.Kind.TheVariants as kinds
use Rattle.scenario_defs.specs.Rules.{IsEventOf, HaveSession, AreLinked}
use Rattle.line_words.specs.declared.fault.Reason.TheVariants as reasons
use Rattle.line_words.specs.declared.words.Row.{Row}
use Rattle.line_words.specs.Words.{Placed}
use Rattle.line_words.specs.Forms.{or_fault, number_to}
use Rattle.scenario_lines.specs.scenario_draft.Drafted.{Drafted}
use Rattle.scenario_lines.specs.scenario_draft.Naming.{node_at}
use Rattle.scenario_lines.proofs.scenario_draft.WordFacts.{Meets, ok_meets, err_meets, bind_meets, or_fault_meets, node_meets, edge_meets, to_limit}
use Rattle.scenario_text.specs.declared.event_lines.clock_lines.NodeWord.{NodeWord}
use Rattle.scenario_text.specs.declared.event_lines.clock_lines.NodeWord.TheVariants as node_kinds
use Rattle.scenario_text.specs.declared.event_lines.session_lines.SessionWord.{SessionWord}
use Rattle.scenario_text.specs.declared.event_lines.session_lines.SessionWord.TheVariants as session_kinds
use Rattle.scenario_text.specs.declared.event_lines.session_lines.Session.{Session}
use Rattle.scenario_text.specs.declared.event_lines.link_lines.LinkWord.{LinkWord}
use Rattle.scenario_text.specs.declared.event_lines.link_lines.LinkWord.TheVariants as link_kinds
use Rattle.scenario_text.specs.event_lines.ClockGrammar.{tick_words, tick_line, node_event, node_words, node_line}
use Rattle.scenario_text.specs.event_lines.SessionGrammar.{kind_at, end_at, session_at, session_event, session_words, session_line, move_words, move_line}
use Rattle.scenario_text.specs.event_lines.LinkGrammar.{highest, link_event, link_words, link_line}
use Rattle.scenario_text.specs.event_lines.Rules.{session_fault, link_fault}
use Rattle.scenario_text.proofs.event_lines.RuleFacts.{IsTold, unless_meets, AreEnds, in_session, linked}

number_meets : (row : Row) (limit : ℕ) (word : Placed)
    → Meets (λ number. (1 ≤ number) × (number ≤ limit)) (or_fault (number_to limit word.text) row word reasons.Number)
number_meets row limit word = or_fault_meets _ (number_to limit word.text) row word reasons.Number (to_limit limit word.text)

-- ---- the clock and nodes

tick_words_meets : (draft : Drafted) (row : Row) (a : Placed) → Meets (IsTold draft) (tick_words row a)
unfolding tick_words
tick_words_meets draft row a =
    bind_meets _ (or_fault (number_to 1000000 a.text) row a reasons.Number) _ (λ count c. ok_meets _ _ ((number_meets row 1000000 a).holds count c))

pub tick_line_meets : (draft : Drafted) (row : Row) (words : List Placed) → Meets (IsTold draft) (tick_line row words)
unfolding tick_line
tick_line_meets draft row [] = err_meets _ _
tick_line_meets draft row (a ∷ []) = tick_words_meets draft row a
tick_line_meets draft row (a ∷ b ∷ more) = err_meets _ _

node_event_is : (scenario : Scenario) (word : NodeWord) (node : NodeId) → node.0 < length scenario.nodes → IsEventOf scenario (node_event word node)
node_event_is scenario node_kinds.Timers node h = h
node_event_is scenario node_kinds.Restart node h = h

node_words_meets : (draft : Drafted) (row : Row) (word : NodeWord) (a : Placed) → Meets (IsTold draft) (node_words draft row word a)
unfolding node_words
node_words_meets draft row word a =
    bind_meets _ (node_at draft row a) _ (λ node n. ok_meets _ _ (node_event_is draft.scenario word node ((node_meets draft row a).holds node n)))

pub node_line_meets : (draft : Drafted) (row : Row) (word : NodeWord) (words : List Placed) → Meets (IsTold draft) (node_line draft row word words)
unfolding node_line
node_line_meets draft row word [] = err_meets _ _
node_line_meets draft row word (a ∷ []) = node_words_meets draft row word a
node_line_meets draft row word (a ∷ b ∷ more) = err_meets _ _

-- ---- sessions

abbrev AreNamed : Drafted → Session → Type 0
AreNamed draft named = AreEnds draft.scenario named.kind named.a named.b

ends_meet : (draft : Drafted) (row : Row) (kind : Kind) (a b : Placed) (from to : NodeId) → end_at draft row kind a ≡ Ok from
    → end_at draft row kind b ≡ Ok to → AreEnds draft.scenario kind from to
ends_meet draft row kinds.Bgp a b from to f t = ((edge_meets draft row a).holds from f, (edge_meets draft row b).holds to t)
ends_meet draft row kinds.Ldp a b from to f t = tt

session_at_meets : (draft : Drafted) (row : Row) (k a b : Placed) → Meets (AreNamed draft) (session_at draft row k a b)
unfolding session_at
session_at_meets draft row k a b =
    bind_meets _ (kind_at row k) _ (λ kind _. bind_meets _ (end_at draft row kind a) _ (λ from f. bind_meets _ (end_at draft row kind b) _ (λ to t.
    ok_meets (AreNamed draft) (record { kind = kind; a = from; b = to }) (ends_meet draft row kind a b from to f t))))

session_event_is : (scenario : Scenario) (word : SessionWord) (named : Session) → HaveSession scenario named.kind named.a named.b
    → IsEventOf scenario (session_event word named)
session_event_is scenario session_kinds.Lose named h = h
session_event_is scenario session_kinds.Notice named h = h
session_event_is scenario session_kinds.Raise named h = h

session_words_meets : (draft : Drafted) (row : Row) (word : SessionWord) (k a b : Placed) → Meets (IsTold draft) (session_words draft row word k a b)
unfolding session_words
session_words_meets draft row word k a b =
    bind_meets _ (session_at draft row k a b) _ (λ named n. unless_meets _ (session_fault draft.scenario.links named.kind named.a named.b) row b _
    (λ kept.
    session_event_is draft.scenario word named (in_session draft.scenario named.kind named.a named.b
    ((session_at_meets draft row k a b).holds named n) kept)))

pub session_line_meets : (draft : Drafted) (row : Row) (word : SessionWord) (words : List Placed)
    → Meets (IsTold draft) (session_line draft row word words)
unfolding session_line
session_line_meets draft row word [] = err_meets _ _
session_line_meets draft row word (k ∷ []) = err_meets _ _
session_line_meets draft row word (k ∷ a ∷ []) = err_meets _ _
session_line_meets draft row word (k ∷ a ∷ b ∷ []) = session_words_meets draft row word k a b
session_line_meets draft row word (k ∷ a ∷ b ∷ c ∷ more) = err_meets _ _

move_words_meets : (draft : Drafted) (row : Row) (k a b c : Placed) → Meets (IsTold draft) (move_words draft row k a b c)
unfolding move_words
move_words_meets draft row k a b c =
    bind_meets _ (session_at draft row k a b) _ (λ named n. bind_meets _ (or_fault (number_to 999999999 c.text) row c reasons.Number) _ (λ count m.
    unless_meets _ (session_fault draft.scenario.links named.kind named.a named.b) row b _ (λ kept.
    let session = in_session draft.scenario named.kind named.a named.b ((session_at_meets draft row k a b).holds named n) kept in
    let bounds = (number_meets row 999999999 c).holds count m in
    (session, bounds.0, bounds.1))))

pub move_line_meets : (draft : Drafted) (row : Row) (words : List Placed) → Meets (IsTold draft) (move_line draft row words)
unfolding move_line
move_line_meets draft row [] = err_meets _ _
move_line_meets draft row (k ∷ []) = err_meets _ _
move_line_meets draft row (k ∷ a ∷ []) = err_meets _ _
move_line_meets draft row (k ∷ a ∷ b ∷ []) = err_meets _ _
move_line_meets draft row (k ∷ a ∷ b ∷ c ∷ []) = move_words_meets draft row k a b c
move_line_meets draft row (k ∷ a ∷ b ∷ c ∷ d ∷ more) = err_meets _ _

-- ---- links

link_event_is : (scenario : Scenario) (word : LinkWord) (from to : NodeId) (number : ℕ) → AreLinked scenario from to → 1 ≤ number
    → number ≤ highest word → IsEventOf scenario (link_event word from to number)
link_event_is scenario link_kinds.Hop from to number h low high = (h, low, high)
link_event_is scenario link_kinds.Drop from to number h low high = (h, low, high)
link_event_is scenario link_kinds.Cost from to number h low high = (h, low, high)

link_words_meets : (draft : Drafted) (row : Row) (word : LinkWord) (a b c : Placed) → Meets (IsTold draft) (link_words draft row word a b c)
unfolding link_words
link_words_meets draft row word a b c =
    bind_meets _ (node_at draft row a) _ (λ from _. bind_meets _ (node_at draft row b) _
    (λ to _. bind_meets _ (or_fault (number_to (highest word) c.text) row c reasons.Number) _ (λ number n.
    unless_meets _ (link_fault draft.scenario.links from to) row b _ (λ kept.
    let bounds = (number_meets row (highest word) c).holds number n in
    link_event_is draft.scenario word from to number (linked draft.scenario from to kept) bounds.0 bounds.1))))

pub link_line_meets : (draft : Drafted) (row : Row) (word : LinkWord) (words : List Placed) → Meets (IsTold draft) (link_line draft row word words)
unfolding link_line
link_line_meets draft row word [] = err_meets _ _
link_line_meets draft row word (a ∷ []) = err_meets _ _
link_line_meets draft row word (a ∷ b ∷ []) = err_meets _ _
link_line_meets draft row word (a ∷ b ∷ c ∷ []) = link_words_meets draft row word a b c
link_line_meets draft row word (a ∷ b ∷ c ∷ d ∷ more) = err_meets _ _
