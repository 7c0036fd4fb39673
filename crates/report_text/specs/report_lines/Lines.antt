-- The only line that a text can be: the one that its words name. The text need not be what is written of that line.
use Rattle.std.specs.Prelude.{ℕ, List, Option, None, Some}
use Rattle.mv_base.specs.Number.{cut_of, ◌>>?◌}
use Rattle.scenario_defs.specs.declared.report.Refusal.{Refusal}
use Rattle.scenario_defs.specs.declared.report.Refusal.TheVariants as refusals
use Rattle.scenario_defs.specs.declared.report.ReportLine.{ReportLine}
use Rattle.scenario_defs.specs.declared.report.ReportLine.TheVariants as lines
use Rattle.scenario_defs.specs.declared.scenario.Scenario.{Scenario}
use Rattle.report_text.specs.declared.report_lines.words.LineWord.{LineWord}
use Rattle.report_text.specs.declared.report_lines.words.LineWord.TheVariants as begins
use Rattle.report_text.specs.declared.report_lines.lines.Direction.{Direction}
use Rattle.report_text.specs.report_lines.Words.{line_word, fault_word_of, bare_refusal}
use Rattle.report_text.specs.report_lines.Fields.{number_of, octets_of, node_named, number_field, short_field, ttl_field, node_field, iface_field, kind_field}

-- the reason that a place and a fault word give, whatever the word before them
unfoldable pub bytes_refusal : List ℕ → Option Refusal
bytes_refusal text = short_field text >>? λ place. fault_word_of place.1 >>? λ word. Some (refusals.Bytes place.0 word)

unfoldable pub refusal_of : List ℕ → Option Refusal
refusal_of text = elim (cut_of 32 text) [ None ↦ bare_refusal text | Some cut ↦ bytes_refusal cut.1 ]

-- each kind of line by the text after its first word
unfoldable pub out_line : Scenario → List ℕ → Option ReportLine
out_line scenario text =
    number_field text >>? λ number. iface_field scenario number.1 >>? λ iface. octets_of iface.1 >>? λ bytes.
    Some (lines.Out number.0 iface.0 bytes)

unfoldable pub refused_line : List ℕ → Option ReportLine
refused_line text = short_field text >>? λ line. refusal_of line.1 >>? λ reason. Some (lines.Refused line.0 reason)

unfoldable pub state_line : List ℕ → Option ReportLine
state_line text =
    number_field text >>? λ bytes. number_field bytes.1 >>? λ copies. number_field copies.1 >>? λ buffers.
    number_field buffers.1 >>? λ due. number_of due.1 >>? λ unready.
    Some (lines.State bytes.0 copies.0 buffers.0 due.0 unready)

-- whatever the word between the number and the node
unfoldable pub halt_line : Scenario → List ℕ → Option ReportLine
halt_line scenario text =
    short_field text >>? λ line. cut_of 32 line.1 >>? λ cut. node_named scenario cut.1 >>? λ node.
    Some (lines.Halt line.0 node)

unfoldable pub direction_field : Scenario → List ℕ → Option (Direction × List ℕ)
direction_field scenario text =
    kind_field text >>? λ kind. node_field scenario kind.1 >>? λ from. node_field scenario from.1 >>? λ to.
    Some (record { kind = kind.0; from = from.0; to = to.0 }, to.1)

unfoldable pub put_line : Scenario → List ℕ → Option ReportLine
put_line scenario text =
    direction_field scenario text >>? λ direction. octets_of direction.1 >>? λ bytes.
    Some (lines.Put direction.0.kind direction.0.from direction.0.to bytes)

unfoldable pub take_line : Scenario → List ℕ → Option ReportLine
take_line scenario text =
    direction_field scenario text >>? λ direction. octets_of direction.1 >>? λ bytes.
    Some (lines.Take direction.0.kind direction.0.from direction.0.to bytes)

unfoldable pub hop_line : Scenario → List ℕ → Option ReportLine
hop_line scenario text =
    node_field scenario text >>? λ from. node_field scenario from.1 >>? λ to. short_field to.1 >>? λ label.
    ttl_field label.1 >>? λ ttl. number_of ttl.1 >>? λ number.
    Some (lines.Hop from.0 to.0 label.0 ttl.0 number)

unfoldable pub land_line : Scenario → List ℕ → Option ReportLine
land_line scenario text =
    node_field scenario text >>? λ from. node_field scenario from.1 >>? λ to. short_field to.1 >>? λ label.
    number_of label.1 >>? λ number. Some (lines.Land from.0 to.0 label.0 number)

-- the line by what its first word begins and the text after that word
abbrev pub line_after : Scenario → LineWord → List ℕ → Option ReportLine
line_after scenario begins.Out text = out_line scenario text
line_after scenario begins.Refused text = refused_line text
line_after scenario begins.State text = state_line text
line_after scenario begins.Halt text = halt_line scenario text
line_after scenario begins.Put text = put_line scenario text
line_after scenario begins.Take text = take_line scenario text
line_after scenario begins.Hop text = hop_line scenario text
line_after scenario begins.Land text = land_line scenario text

unfoldable pub named_line : Scenario → List ℕ → Option ReportLine
named_line scenario text = cut_of 32 text >>? λ cut. line_word cut.0 >>? λ word. line_after scenario word cut.1
