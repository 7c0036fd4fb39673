-- Words of a line that stand for one of a few things.
use Rattle.std.specs.Prelude.{ℕ, nat_eq, List, Option, None, Some, if◌then◌else◌, codes}
use Rattle.std.specs.Cmp.Lexicographic.{pointwise}
use Rattle.scenario_defs.specs.declared.event.Kind.{Kind}
use Rattle.scenario_defs.specs.declared.event.Kind.TheVariants as kinds
use Rattle.scenario_defs.specs.declared.report.FaultWord.{FaultWord}
use Rattle.scenario_defs.specs.declared.report.FaultWord.TheVariants as faults
use Rattle.scenario_defs.specs.declared.report.Refusal.{Refusal}
use Rattle.scenario_defs.specs.declared.report.Refusal.TheVariants as refusals
use Rattle.report_text.specs.declared.report_lines.words.LineWord.{LineWord}
use Rattle.report_text.specs.declared.report_lines.words.LineWord.TheVariants as begins

-- what a first word begins
unfoldable pub line_word : List ℕ → Option LineWord
line_word text =
    if pointwise nat_eq text (codes "out") then Some begins.Out else
    if pointwise nat_eq text (codes "refused") then Some begins.Refused else
    if pointwise nat_eq text (codes "state") then Some begins.State else
    if pointwise nat_eq text (codes "halt") then Some begins.Halt else
    if pointwise nat_eq text (codes "put") then Some begins.Put else
    if pointwise nat_eq text (codes "take") then Some begins.Take else
    if pointwise nat_eq text (codes "hop") then Some begins.Hop else
    if pointwise nat_eq text (codes "land") then Some begins.Land else
    None

-- the protocol that a word names
unfoldable pub kind_of : List ℕ → Option Kind
kind_of text =
    if pointwise nat_eq text (codes "bgp") then Some kinds.Bgp else
    if pointwise nat_eq text (codes "ldp") then Some kinds.Ldp else
    None

-- the fault that a word names, of those that only a packet has
unfoldable pub packet_word_of : List ℕ → Option FaultWord
packet_word_of text =
    if pointwise nat_eq text (codes "header-length") then Some faults.HeaderLength else
    if pointwise nat_eq text (codes "total-length") then Some faults.TotalLength else
    if pointwise nat_eq text (codes "link-local") then Some faults.LinkLocal else
    None

-- the fault that a word names
unfoldable pub fault_word_of : List ℕ → Option FaultWord
fault_word_of text =
    if pointwise nat_eq text (codes "short") then Some faults.Short else
    if pointwise nat_eq text (codes "version") then Some faults.Version else
    if pointwise nat_eq text (codes "pim-type") then Some faults.PimType else
    if pointwise nat_eq text (codes "checksum") then Some faults.Checksum else
    if pointwise nat_eq text (codes "family") then Some faults.Family else
    if pointwise nat_eq text (codes "encoding") then Some faults.Encoding else
    if pointwise nat_eq text (codes "mask-length") then Some faults.MaskLength else
    if pointwise nat_eq text (codes "flags") then Some faults.Flags else
    if pointwise nat_eq text (codes "not-multicast") then Some faults.NotMulticast else
    if pointwise nat_eq text (codes "trailing") then Some faults.Trailing else
    packet_word_of text

-- the reason that is one word
unfoldable pub bare_refusal : List ℕ → Option Refusal
bare_refusal text =
    if pointwise nat_eq text (codes "empty") then Some refusals.Empty else
    if pointwise nat_eq text (codes "state") then Some refusals.State else
    if pointwise nat_eq text (codes "place") then Some refusals.Place else
    if pointwise nat_eq text (codes "full") then Some refusals.Full else
    if pointwise nat_eq text (codes "ours") then Some refusals.Ours else
    None
