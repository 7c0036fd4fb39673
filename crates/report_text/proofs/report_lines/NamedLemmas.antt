-- The line that a text names is of the scenario.
use Rattle.std.proofs.Common.{◌≡◌, ℕ, ◌<◌, List, length, subst, Some}
use Rattle.std.specs.Prelude.{position, nat_le}
use Rattle.std.proofs.lemmas.Option.{same_Some}
use Rattle.mv_base.specs.declared.ids.NodeId.{NodeId}
use Rattle.mv_base.specs.declared.ids.IfaceId.{IfaceId}
use Rattle.mv_base.specs.Number.{cut_of}
use Rattle.mv_base.proofs.CutLemmas.{next_some, if_some}
use Rattle.scenario_defs.specs.declared.report.ReportLine.{ReportLine}
use Rattle.scenario_defs.specs.declared.scenario.Scenario.{Scenario}
use Rattle.scenario_defs.specs.Text.{IsLineOf}
use Rattle.report_text.specs.declared.report_lines.words.LineWord.{LineWord}
use Rattle.report_text.specs.declared.report_lines.words.LineWord.TheVariants as begins
use Rattle.report_text.specs.declared.report_lines.lines.Direction.{Direction}
use Rattle.report_text.specs.report_lines.Words.{line_word}
use Rattle.report_text.specs.report_lines.Fields.{is_node_named, is_iface_named, number_of, octets_of, node_named, iface_named, number_field, short_field, ttl_field, node_field, iface_field, kind_field}
use Rattle.report_text.specs.report_lines.Lines.{refusal_of, out_line, refused_line, state_line, halt_line, direction_field, put_line, take_line, hop_line, land_line, line_after, named_line}
use Rattle.report_text.proofs.report_lines.NameLemmas.{position_within}

-- ---- nodes and interfaces

node_is : (scenario : Scenario) (text : List ℕ) (node : NodeId) → node_named scenario text ≡ Some node → node.0 < length scenario.nodes
unfolding node_named
node_is scenario text node e = next_some _ (position (is_node_named text) scenario.nodes) node e (λ place found f.
    let p = if_some (nat_le place 65535) _ node f in
    subst (λ (id : NodeId). id.0 < length scenario.nodes) p.1 (position_within _ scenario.nodes place found))

iface_is : (scenario : Scenario) (text : List ℕ) (iface : IfaceId) → iface_named scenario text ≡ Some iface → iface.0 < length scenario.ifaces
unfolding iface_named
iface_is scenario text iface e = next_some _ (position (is_iface_named text) scenario.ifaces) iface e (λ place found f.
    let p = if_some (nat_le place 65535) _ iface f in
    subst (λ (id : IfaceId). id.0 < length scenario.ifaces) p.1 (position_within _ scenario.ifaces place found))

node_read_is : (scenario : Scenario) (text : List ℕ) (field : NodeId × List ℕ) → node_field scenario text ≡ Some field
    → field.0.0 < length scenario.nodes
unfolding node_field
node_read_is scenario text field e = next_some _ (cut_of 32 text) field e (λ cut c f. next_some _ (node_named scenario cut.0) field f (λ node named g.
    subst (λ (x : NodeId × List ℕ). x.0.0 < length scenario.nodes) (same_Some _ _ g) (node_is scenario cut.0 node named)))

iface_read_is : (scenario : Scenario) (text : List ℕ) (field : IfaceId × List ℕ) → iface_field scenario text ≡ Some field
    → field.0.0 < length scenario.ifaces
unfolding iface_field
iface_read_is scenario text field e =
    next_some _ (cut_of 32 text) field e (λ cut c f. next_some _ (iface_named scenario cut.0) field f (λ iface named g.
    subst (λ (x : IfaceId × List ℕ). x.0.0 < length scenario.ifaces) (same_Some _ _ g) (iface_is scenario cut.0 iface named)))

abbrev AreOf : Scenario → Direction → Type 0
AreOf scenario direction = (direction.from.0 < length scenario.nodes) × (direction.to.0 < length scenario.nodes)

direction_is : (scenario : Scenario) (text : List ℕ) (field : Direction × List ℕ) → direction_field scenario text ≡ Some field
    → AreOf scenario field.0
unfolding direction_field
direction_is scenario text field e =
    next_some _ (kind_field text) field e (λ kind k f. next_some _ (node_field scenario kind.1) field f
    (λ from u g. next_some _ (node_field scenario from.1) field g (λ to v h.
    subst (λ (x : Direction × List ℕ). AreOf scenario x.0) (same_Some _ _ h)
    (node_read_is scenario kind.1 from u, node_read_is scenario from.1 to v))))

-- ---- lines

out_is : (scenario : Scenario) (text : List ℕ) (line : ReportLine) → out_line scenario text ≡ Some line → IsLineOf scenario line
unfolding out_line
out_is scenario text line e =
    next_some _ (number_field text) line e (λ number n f. next_some _ (iface_field scenario number.1) line f
    (λ iface i g. next_some _ (octets_of iface.1) line g (λ bytes b h.
    subst (IsLineOf scenario) (same_Some _ _ h) (iface_read_is scenario number.1 iface i))))

refused_is : (scenario : Scenario) (text : List ℕ) (line : ReportLine) → refused_line text ≡ Some line → IsLineOf scenario line
unfolding refused_line
refused_is scenario text line e =
    next_some _ (short_field text) line e (λ number n f. next_some _ (refusal_of number.1) line f
    (λ reason r g. subst (IsLineOf scenario) (same_Some _ _ g) tt))

state_is : (scenario : Scenario) (text : List ℕ) (line : ReportLine) → state_line text ≡ Some line → IsLineOf scenario line
unfolding state_line
state_is scenario text line e =
    next_some _ (number_field text) line e (λ bytes a f. next_some _ (number_field bytes.1) line f
    (λ copies b g. next_some _ (number_field copies.1) line g (λ buffers c h.
    next_some _ (number_field buffers.1) line h (λ due d i. next_some _ (number_of due.1) line i
    (λ unready u j. subst (IsLineOf scenario) (same_Some _ _ j) tt)))))

halt_is : (scenario : Scenario) (text : List ℕ) (line : ReportLine) → halt_line scenario text ≡ Some line → IsLineOf scenario line
unfolding halt_line
halt_is scenario text line e =
    next_some _ (short_field text) line e (λ number n f. next_some _ (cut_of 32 number.1) line f
    (λ cut c g. next_some _ (node_named scenario cut.1) line g (λ node u h.
    subst (IsLineOf scenario) (same_Some _ _ h) (node_is scenario cut.1 node u))))

put_is : (scenario : Scenario) (text : List ℕ) (line : ReportLine) → put_line scenario text ≡ Some line → IsLineOf scenario line
unfolding put_line
put_is scenario text line e =
    next_some _ (direction_field scenario text) line e (λ direction d f. next_some _ (octets_of direction.1) line f (λ bytes b g.
    subst (IsLineOf scenario) (same_Some _ _ g) (direction_is scenario text direction d)))

take_is : (scenario : Scenario) (text : List ℕ) (line : ReportLine) → take_line scenario text ≡ Some line → IsLineOf scenario line
unfolding take_line
take_is scenario text line e =
    next_some _ (direction_field scenario text) line e (λ direction d f. next_some _ (octets_of direction.1) line f (λ bytes b g.
    subst (IsLineOf scenario) (same_Some _ _ g) (direction_is scenario text direction d)))

hop_is : (scenario : Scenario) (text : List ℕ) (line : ReportLine) → hop_line scenario text ≡ Some line → IsLineOf scenario line
unfolding hop_line
hop_is scenario text line e =
    next_some _ (node_field scenario text) line e
    (λ from u f. next_some _ (node_field scenario from.1) line f (λ to v g. next_some _ (short_field to.1) line g (λ label l h.
    next_some _ (ttl_field label.1) line h (λ ttl t i. next_some _ (number_of ttl.1) line i (λ number n j.
    subst (IsLineOf scenario) (same_Some _ _ j) (node_read_is scenario text from u, node_read_is scenario from.1 to v))))))

land_is : (scenario : Scenario) (text : List ℕ) (line : ReportLine) → land_line scenario text ≡ Some line → IsLineOf scenario line
unfolding land_line
land_is scenario text line e =
    next_some _ (node_field scenario text) line e
    (λ from u f. next_some _ (node_field scenario from.1) line f (λ to v g. next_some _ (short_field to.1) line g (λ label l h.
    next_some _ (number_of label.1) line h (λ number n i.
    subst (IsLineOf scenario) (same_Some _ _ i) (node_read_is scenario text from u, node_read_is scenario from.1 to v)))))

after_is : (scenario : Scenario) (word : LineWord) (text : List ℕ) (line : ReportLine) → line_after scenario word text ≡ Some line
    → IsLineOf scenario line
after_is scenario begins.Out text line e = out_is scenario text line e
after_is scenario begins.Refused text line e = refused_is scenario text line e
after_is scenario begins.State text line e = state_is scenario text line e
after_is scenario begins.Halt text line e = halt_is scenario text line e
after_is scenario begins.Put text line e = put_is scenario text line e
after_is scenario begins.Take text line e = take_is scenario text line e
after_is scenario begins.Hop text line e = hop_is scenario text line e
after_is scenario begins.Land text line e = land_is scenario text line e

-- What a text names is a line of the scenario.
pub named_is : (scenario : Scenario) (text : List ℕ) (line : ReportLine) → named_line scenario text ≡ Some line → IsLineOf scenario line
unfolding named_line
named_is scenario text line e =
    next_some _ (cut_of 32 text) line e (λ cut c f. next_some _ (line_word cut.0) line f (λ word w g. after_is scenario word cut.1 line g))
