use Rattle.std.proofs.Common.{◌∙◌, ap, nat_eq, Option, option_map}
use Rattle.std.specs.Prelude.{codes}
use Rattle.std.specs.Option.{option_or}
use Rattle.std.specs.Cmp.Lexicographic.{pointwise}
use Rattle.scenario_text.specs.declared.event_lines.words.EventWord.{EventWord}
use Rattle.scenario_text.specs.declared.event_lines.words.EventWord.TheVariants as word_kinds
use Rattle.scenario_text.specs.declared.event_lines.words.BareWord.{BareWord}
use Rattle.scenario_text.specs.declared.event_lines.clock_lines.NodeWord.{NodeWord}
use Rattle.scenario_text.specs.declared.event_lines.session_lines.SessionWord.{SessionWord}
use Rattle.scenario_text.specs.declared.event_lines.link_lines.LinkWord.{LinkWord}
use Rattle.scenario_text.specs.declared.event_lines.join_lines.EntryWord.{EntryWord}
use Rattle.scenario_text.specs.declared.event_lines.flow_lines.FlowWord.{FlowWord}
use Rattle.scenario_text.specs.declared.event_lines.select_lines.SelectWord.{SelectWord}
use Rattle.scenario_text.specs.event_lines.ClockGrammar.{node_word}
use Rattle.scenario_text.specs.event_lines.SessionGrammar.{session_word}
use Rattle.scenario_text.specs.event_lines.LinkGrammar.{link_word}
use Rattle.scenario_text.specs.event_lines.JoinGrammar.{entry_word}
use Rattle.scenario_text.specs.event_lines.FlowGrammar.{flow_word}
use Rattle.scenario_text.specs.event_lines.SelectGrammar.{select_word}
use Rattle.scenario_text.specs.event_lines.EventGrammar.{bare_word, single_word, event_word}
use Rattle.scenario_text.proofs.event_lines.TableLemmas.{two, three, last_four, five, together}
use Rattle.scenario_text.proofs.event_lines.words.event_word.Goals as goal

-- the rows of lines that no other line is like, and after them the others
pub returns : goal.returns
unfolding event_word
returns c =
    let text = c.args.text.now in
    let bares : Option EventWord = option_map (λ (word : BareWord). word_kinds.Bare word) (bare_word text) in
    let selections : Option EventWord = option_map (λ (word : SelectWord). word_kinds.Select word) (select_word text) in
    let flows : Option EventWord = option_map (λ (word : FlowWord). word_kinds.Flow word) (flow_word text) in
    let entries : Option EventWord = option_map (λ (word : EntryWord). word_kinds.Entry word) (entry_word text) in
    let links : Option EventWord = option_map (λ (word : LinkWord). word_kinds.Link word) (link_word text) in
    let sessions : Option EventWord = option_map (λ (word : SessionWord). word_kinds.Session word) (session_word text) in
    let nodes : Option EventWord = option_map (λ (word : NodeWord). word_kinds.Node word) (node_word text) in
    let of_bares = last_four (λ (word : BareWord). word_kinds.Bare word) (pointwise nat_eq text (codes "heal")) (pointwise nat_eq text (codes "settle"))
    (pointwise nat_eq text (codes "drain")) (pointwise nat_eq text (codes "state")) _ _ _ _ in
    let of_selections = two (λ (word : SelectWord). word_kinds.Select word) (pointwise nat_eq text (codes "select")) (pointwise nat_eq text (codes "unselect"))
    _ _ _ ∙ ap (option_or selections) of_bares in
    let of_flows = two (λ (word : FlowWord). word_kinds.Flow word) (pointwise nat_eq text (codes "active")) (pointwise nat_eq text (codes "idle"))
    _ _ _ ∙ ap (option_or flows) of_selections in
    let of_entries = two (λ (word : EntryWord). word_kinds.Entry word) (pointwise nat_eq text (codes "join")) (pointwise nat_eq text (codes "prune"))
    _ _ _ ∙ ap (option_or entries) of_flows ∙ together entries flows selections bares in
    let of_links = three (λ (word : LinkWord). word_kinds.Link word) (pointwise nat_eq text (codes "hop")) (pointwise nat_eq text (codes "drop"))
    (pointwise nat_eq text (codes "cost")) _ _ _ _ ∙ ap (option_or links) of_entries in
    let of_sessions = three (λ (word : SessionWord). word_kinds.Session word) (pointwise nat_eq text (codes "lose")) (pointwise nat_eq text (codes "notice"))
    (pointwise nat_eq text (codes "raise")) _ _ _ _ ∙ ap (option_or sessions) of_links in
    let of_nodes = two (λ (word : NodeWord). word_kinds.Node word) (pointwise nat_eq text (codes "timers")) (pointwise nat_eq text (codes "restart"))
    _ _ _ ∙ ap (option_or nodes) of_sessions ∙ together nodes sessions links _ in
    c.meaning_of.ensures
    ∙ five (pointwise nat_eq text (codes "tick")) (pointwise nat_eq text (codes "move")) (pointwise nat_eq text (codes "pim"))
    (pointwise nat_eq text (codes "packet")) (pointwise nat_eq text (codes "send"))
    _ _ _ _ _ _
    ∙ ap (option_or (single_word text)) of_nodes
