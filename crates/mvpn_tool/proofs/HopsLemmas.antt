-- The lines of a file of hops, and the octets that are read of it.
use Rattle.std.proofs.Common.{◌≡◌, ℕ, ◌+◌, ◌<◌, List, [], ◌∷◌, ◌++◌, length, take, get_or, cond, sym, ap, ◌∙◌}
use Rattle.std.proofs.lemmas.List.{flat_map_more, take_more}
use Rattle.std.specs.List.{flat_map}
use Rattle.std.specs.Prelude.{Option, None, Some, Result, Ok, Err, IfOk, Bool, true, false, nat_lt}
use Rattle.line_words.specs.declared.fault.TextFault.{TextFault}
use Rattle.mv_base.specs.declared.memory.NoMemory.{NoMemory}
use Rattle.value_text.specs.ValueText.{refused_line}
use Rattle.core_pcap.specs.declared.fault.PcapFault.{PcapFault}
use Rattle.core_pcap.specs.declared.hop.CoreHop.{CoreHop}
use Rattle.core_pcap.specs.File.{Tells}
use Rattle.mvpn_tool.specs.declared.shown.Shown.{Shown}
use Rattle.mvpn_tool.specs.HopLines.{TellsFault, TellsHops, hop_line, hop_lines, pcap_word, within_limit}

abbrev pub reads : List ℕ → Result (List ℕ) TextFault
reads octets = Ok octets

abbrev failed : TextFault → Result (List ℕ) TextFault
failed fault = Err fault

-- ---- the lines of a file

-- The hops and the fault that a file has have these lines.
pub tells_of : (r : Result Shown NoMemory) (hops read : List CoreHop) (fault : Option (ℕ × PcapFault)) (octets text : List ℕ)
    → Tells hops fault octets → text ≡ hop_lines read → read ≡ hops
    → IfOk r (λ lines. TellsFault fault text lines.refused lines.text) → IfOk r (λ lines. TellsHops lines.refused octets lines.text)
tells_of (Err want) hops read fault octets text tells is same h = tt
tells_of (Ok lines) hops read None octets text tells is same h = rw (h.1) (hops, tells, h.0 ∙ is ∙ ap hop_lines same)
tells_of (Ok lines) hops read (Some f) octets text tells is same h =
    rw (h.1) (hops, f.0, f.1, tells, h.0 ∙ ap (λ (t : List ℕ). t ++ refused_line f.0 (pcap_word f.1)) (is ∙ ap hop_lines same))

-- Without a fault there is no line of one.
pub whole_of : (r : Result Shown NoMemory) (fault : Option (ℕ × PcapFault)) (text : List ℕ) → fault ≡ None
    → IfOk r (λ lines. TellsFault fault text lines.refused lines.text) → IfOk r (λ lines. lines.refused ≡ false)
whole_of (Err want) fault text e h = tt
whole_of (Ok lines) None text e h = h.1
whole_of (Ok lines) (Some f) text e h = absurd cc

pub faulty_of : (r : Result Shown NoMemory) (fault : Option (ℕ × PcapFault)) (f : ℕ × PcapFault) (text : List ℕ) → fault ≡ Some f
    → IfOk r (λ lines. TellsFault fault text lines.refused lines.text) → IfOk r (λ lines. lines.refused ≡ true)
faulty_of (Err want) fault f text e h = tt
faulty_of (Ok lines) None f text e h = absurd cc
faulty_of (Ok lines) (Some g) f text e h = h.1

-- What is within the limit is the input itself.
within_by : (long : Bool) (octets what : List ℕ) (fault : TextFault) → cond long (failed fault) (reads octets) ≡ reads what → octets ≡ what
within_by true octets what fault e = absurd cc
within_by false octets what fault e = cc

pub within_is : (octets what : List ℕ) → within_limit octets ≡ reads what → octets ≡ what
within_is octets what e = within_by (nat_lt 16777216 (length octets)) octets what _ e

-- One line more.
pub lines_more : (hops : List CoreHop) (i : ℕ) (hop : CoreHop) (text new : List ℕ) → i < length hops → hop ≡ get_or hops i hop
    → text ≡ hop_lines (take i hops) → new ≡ text ++ hop_line hop
    → new ≡ hop_lines (take (i + 1) hops)
lines_more hops i hop text new lt is so_far h =
    let one : take (i + 1) hops ≡ take i hops ++ hop ∷ [] = take_more hops i hop lt ∙ ap (λ (x : CoreHop). take i hops ++ x ∷ []) (sym is) in
    h ∙ ap (λ (t : List ℕ). t ++ hop_line hop) so_far ∙ flat_map_more hop_line [] (take i hops) hop
    ∙ ap (λ (hs : List CoreHop). flat_map hop_line hs) (sym one)
