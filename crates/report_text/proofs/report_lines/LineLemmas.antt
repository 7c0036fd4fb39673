-- The text of each line names that line.
use Rattle.std.proofs.Common.{◌≡◌, ℕ, ◌<◌, true, List, [], ◌∷◌, ◌++◌, length, refl, sym, ap, ◌∙◌, Some, append_assoc}
use Rattle.std.specs.Prelude.{decimal, codes}
use Rattle.std.proofs.lemmas.List.{append_cancel_right}
use Rattle.mv_base.specs.declared.ids.NodeId.{NodeId}
use Rattle.mv_base.specs.Number.{cut_of, ◌>>?◌}
use Rattle.scenario_defs.specs.declared.event.Kind.{Kind}
use Rattle.scenario_defs.specs.declared.report.Refusal.{Refusal}
use Rattle.scenario_defs.specs.declared.report.Refusal.TheVariants as refusals
use Rattle.scenario_defs.specs.declared.report.ReportLine.{ReportLine}
use Rattle.scenario_defs.specs.declared.report.ReportLine.TheVariants as lines
use Rattle.scenario_defs.specs.declared.scenario.Scenario.{Scenario}
use Rattle.scenario_defs.specs.Rules.{Rules}
use Rattle.scenario_defs.specs.Text.{line_text, IsLineOf, refusal_text, node_name, iface_name, kind_word, fault_word, hex_text}
use Rattle.report_text.specs.declared.report_lines.words.LineWord.{LineWord}
use Rattle.report_text.specs.declared.report_lines.words.LineWord.TheVariants as begins
use Rattle.report_text.specs.report_lines.Bounds.{HasReasonBounds, HasTypeBounds}
use Rattle.report_text.specs.report_lines.Words.{line_word, bare_refusal}
use Rattle.report_text.specs.report_lines.Fields.{node_named}
use Rattle.report_text.specs.report_lines.Lines.{bytes_refusal, refusal_of, out_line, refused_line, state_line, halt_line, direction_field, put_line, take_line, hop_line, land_line, line_after, named_line}
use Rattle.report_text.proofs.report_lines.NumberLemmas.{goes, number_back}
use Rattle.report_text.proofs.report_lines.NameLemmas.{has_no_space, node_back}
use Rattle.report_text.proofs.report_lines.WordLemmas.{fault_word_back, octets_back}
use Rattle.report_text.proofs.report_lines.FieldLemmas.{cut_word, number_read, short_read, ttl_read, node_read, iface_read, kind_read}

-- ---- the text of a line without its LF: a first word, a space, and what is after it

abbrev first_word : ReportLine → List ℕ
first_word (lines.Out number iface bytes) = codes "out"
first_word (lines.Refused line reason) = codes "refused"
first_word (lines.State bytes copies buffers due unready) = codes "state"
first_word (lines.Halt line node) = codes "halt"
first_word (lines.Put kind from to bytes) = codes "put"
first_word (lines.Take kind from to bytes) = codes "take"
first_word (lines.Hop from to label ttl number) = codes "hop"
first_word (lines.Land from to label number) = codes "land"

abbrev transit_text : Scenario → Kind → NodeId → NodeId → List ℕ → List ℕ
transit_text scenario kind from to bytes = kind_word kind ++ 32 ∷ (node_name scenario from ++ 32 ∷ (node_name scenario to ++ 32 ∷ hex_text bytes))

abbrev text_after : Scenario → ReportLine → List ℕ
text_after scenario (lines.Out number iface bytes) = decimal number ++ 32 ∷ (iface_name scenario iface ++ 32 ∷ hex_text bytes)
text_after scenario (lines.Refused line reason) = decimal line ++ 32 ∷ refusal_text reason
text_after scenario (lines.State bytes copies buffers due unready) =
    decimal bytes ++ 32 ∷ (decimal copies ++ 32 ∷ (decimal buffers ++ 32 ∷ (decimal due ++ 32 ∷ decimal unready)))
text_after scenario (lines.Halt line node) = decimal line ++ 32 ∷ (codes "label" ++ 32 ∷ node_name scenario node)
text_after scenario (lines.Put kind from to bytes) = transit_text scenario kind from to bytes
text_after scenario (lines.Take kind from to bytes) = transit_text scenario kind from to bytes
text_after scenario (lines.Hop from to label ttl number) =
    node_name scenario from ++ 32 ∷ (node_name scenario to ++ 32 ∷ (decimal label ++ 32 ∷ (decimal ttl ++ 32 ∷ decimal number)))
text_after scenario (lines.Land from to label number) =
    node_name scenario from ++ 32 ∷ (node_name scenario to ++ 32 ∷ (decimal label ++ 32 ∷ decimal number))

transit_ended : (kind from to hex : List ℕ) → kind ++ codes " " ++ (from ++ codes " " ++ to) ++ codes " " ++ hex ++ codes "\n"
    ≡ (kind ++ 32 ∷ (from ++ 32 ∷ (to ++ 32 ∷ hex))) ++ 10 ∷ []
transit_ended kind from to hex = simp append_assoc

ended : (scenario : Scenario) (line : ReportLine) → line_text scenario line ≡ (first_word line ++ 32 ∷ text_after scenario line) ++ 10 ∷ []
ended scenario (lines.Out number iface bytes) = simp append_assoc
ended scenario (lines.Refused line reason) = simp append_assoc
ended scenario (lines.State bytes copies buffers due unready) = simp append_assoc
ended scenario (lines.Halt line node) = simp append_assoc
ended scenario (lines.Put kind from to bytes) =
    ap (λ (l : List ℕ). codes "put " ++ l) (transit_ended (kind_word kind) (node_name scenario from) (node_name scenario to) (hex_text bytes))
ended scenario (lines.Take kind from to bytes) =
    ap (λ (l : List ℕ). codes "take " ++ l) (transit_ended (kind_word kind) (node_name scenario from) (node_name scenario to) (hex_text bytes))
ended scenario (lines.Hop from to label ttl number) = simp append_assoc
ended scenario (lines.Land from to label number) = simp append_assoc

-- ---- each kind of line

refusal_cut : (text : List ℕ) (cut : List ℕ × List ℕ) → cut_of 32 text ≡ Some cut → refusal_of text ≡ bytes_refusal cut.1
unfolding refusal_of
refusal_cut text cut e = rw (refusal_of, e) refl

bytes_regrouped : (place word : List ℕ) → codes "bytes " ++ place ++ codes " " ++ word ≡ codes "bytes" ++ 32 ∷ (place ++ 32 ∷ word)
bytes_regrouped place word = simp append_assoc

refusal_back : (reason : Refusal) → HasReasonBounds reason → refusal_of (refusal_text reason) ≡ Some reason
unfolding refusal_of bytes_refusal bare_refusal
refusal_back refusals.Empty h = refl
refusal_back refusals.State h = refl
refusal_back refusals.Place h = refl
refusal_back refusals.Full h = refl
refusal_back refusals.Ours h = refl
refusal_back (refusals.Bytes place word) h =
    ap refusal_of (bytes_regrouped (decimal place) (fault_word word))
    ∙ refusal_cut (codes "bytes" ++ 32 ∷ (decimal place ++ 32 ∷ fault_word word)) _
    (cut_word (codes "bytes") (decimal place ++ 32 ∷ fault_word word) refl)
    ∙ (goes _ (short_read place (fault_word word) h) (goes _ (fault_word_back word) refl))

direction_read : (scenario : Scenario) → Rules scenario → (kind : Kind) (from to : NodeId) (rest : List ℕ) → from.0 < length scenario.nodes
    → to.0 < length scenario.nodes
    → direction_field scenario (kind_word kind ++ 32 ∷ (node_name scenario from ++ 32 ∷ (node_name scenario to ++ 32 ∷ rest)))
    ≡ Some (record { kind = kind; from = from; to = to }, rest)
unfolding direction_field
direction_read scenario rules kind from to rest in_from in_to =
    goes _ (kind_read kind _) (goes _ (node_read scenario rules from _ in_from) (goes _ (node_read scenario rules to rest in_to) refl))

abbrev word_of : ReportLine → LineWord
word_of (lines.Out number iface bytes) = begins.Out
word_of (lines.Refused line reason) = begins.Refused
word_of (lines.State bytes copies buffers due unready) = begins.State
word_of (lines.Halt line node) = begins.Halt
word_of (lines.Put kind from to bytes) = begins.Put
word_of (lines.Take kind from to bytes) = begins.Take
word_of (lines.Hop from to label ttl number) = begins.Hop
word_of (lines.Land from to label number) = begins.Land

after_back : (scenario : Scenario) → Rules scenario → (line : ReportLine) → IsLineOf scenario line → HasTypeBounds line
    → line_after scenario (word_of line) (text_after scenario line) ≡ Some line
unfolding out_line refused_line state_line halt_line put_line take_line hop_line land_line
after_back scenario rules (lines.Out number iface bytes) is bounds =
    goes _ (number_read number _ bounds.0) (goes _ (iface_read scenario rules iface _ is) (goes _ (octets_back bytes bounds.1) refl))
after_back scenario rules (lines.Refused line reason) is bounds =
    goes _ (short_read line _ bounds.0) (goes _ (refusal_back reason bounds.1) refl)
after_back scenario rules (lines.State bytes copies buffers due unready) is bounds =
    goes _ (number_read bytes _ bounds.0) (goes _ (number_read copies _ bounds.1) (goes _ (number_read buffers _ bounds.2)
    (goes _ (number_read due _ bounds.3) (goes _ (number_back unready bounds.4) refl))))
after_back scenario rules (lines.Halt line node) is bounds =
    goes _ (short_read line _ bounds) (goes (λ cut. node_named scenario cut.1 >>? λ found. Some (lines.Halt line found))
    (cut_word (codes "label") (node_name scenario node) refl)
    (goes (λ found. Some (lines.Halt line found)) (node_back scenario rules node is).names refl))
after_back scenario rules (lines.Put kind from to bytes) is bounds =
    goes _ (direction_read scenario rules kind from to _ is.0 is.1) (goes _ (octets_back bytes bounds) refl)
after_back scenario rules (lines.Take kind from to bytes) is bounds =
    goes _ (direction_read scenario rules kind from to _ is.0 is.1) (goes _ (octets_back bytes bounds) refl)
after_back scenario rules (lines.Hop from to label ttl number) is bounds =
    goes _ (node_read scenario rules from _ is.0) (goes _ (node_read scenario rules to _ is.1) (goes _ (short_read label _ bounds.0)
    (goes _ (ttl_read ttl _ bounds.1) (goes _ (number_back number bounds.2) refl))))
after_back scenario rules (lines.Land from to label number) is bounds =
    goes _ (node_read scenario rules from _ is.0) (goes _ (node_read scenario rules to _ is.1) (goes _ (short_read label _ bounds.0)
    (goes _ (number_back number bounds.1) refl)))

-- ---- the first word

record Begins (line : ReportLine) : Type 0 where
  no_space : has_no_space (first_word line) ≡ true
  word : line_word (first_word line) ≡ Some (word_of line)

begins_back : (line : ReportLine) → Begins line
unfolding line_word
begins_back (lines.Out number iface bytes) = record { no_space = refl; word = refl }
begins_back (lines.Refused line reason) = record { no_space = refl; word = refl }
begins_back (lines.State bytes copies buffers due unready) = record { no_space = refl; word = refl }
begins_back (lines.Halt line node) = record { no_space = refl; word = refl }
begins_back (lines.Put kind from to bytes) = record { no_space = refl; word = refl }
begins_back (lines.Take kind from to bytes) = record { no_space = refl; word = refl }
begins_back (lines.Hop from to label ttl number) = record { no_space = refl; word = refl }
begins_back (lines.Land from to label number) = record { no_space = refl; word = refl }

text_back : (scenario : Scenario) → Rules scenario → (line : ReportLine) → IsLineOf scenario line → HasTypeBounds line
    → named_line scenario (first_word line ++ 32 ∷ text_after scenario line) ≡ Some line
unfolding named_line
text_back scenario rules line is bounds =
    let first = begins_back line in
    goes _ (cut_word (first_word line) (text_after scenario line) first.no_space) (goes _ first.word (after_back scenario rules line is bounds))

-- A text that is written of a line names it.
pub line_back : (scenario : Scenario) → Rules scenario → (text : List ℕ) (line : ReportLine) → IsLineOf scenario line → HasTypeBounds line
    → line_text scenario line ≡ text ++ 10 ∷ [] → named_line scenario text ≡ Some line
line_back scenario rules text line is bounds written =
    let same : first_word line ++ 32 ∷ text_after scenario line ≡ text =
    append_cancel_right _ text (10 ∷ []) (sym (ended scenario line) ∙ written) in
    ap (named_line scenario) (sym same) ∙ text_back scenario rules line is bounds
