-- The octets that an edge is given, which are sound or have a first fault.
use Rattle.std.proofs.Common.{◌≡◌, ℕ, ◌+◌, ◌<◌, List, [], ◌∷◌, ◌++◌, length, take, drop, get_or, refl, sym, ap, subst, ◌∙◌, append_assoc, arith, length-append}
use Rattle.std.proofs.lemmas.List.{take-append-drop, take_more}
use Rattle.std.specs.Prelude.{Option, None, Some, true, false, is_some}
use Rattle.probe_text.specs.declared.input.ProbeText.{ProbeText}
use Rattle.mv_base.specs.Octets.{IsOctets}
use Rattle.mv_base.specs.framing.Units.{Splits, octets_of as unit_octets}
use Rattle.mv_base.specs.framing.Cut.{Cut, Front, NoFault, cut, with_front}
use Rattle.mv_base.specs.framing.Cut.Front.{bad, more, whole}
use Rattle.mv_base.proofs.framing.Cuts.{IsOctets-after, begun, waits}
use Rattle.mv_base.proofs.framing.Feedings.{fails_cut}
use Rattle.bgp_messages.specs.declared.bgp_attributes.fault.StreamFault.{StreamFault}
use Rattle.bgp_messages.specs.declared.bgp_attributes.update.Message.{Message}
use Rattle.bgp_messages.specs.bgp_update.FirstFault.{UnitFault}
use Rattle.bgp_messages.specs.bgp_update.Reading.{message_front}
use Rattle.bgp_messages.specs.bgp_update.Spelling.{SpellsMessage}
use Rattle.bgp_messages.proofs.bgp_update.Messages.{message_format}
use Rattle.probe_text.specs.probe_defs.Lines.{octets_of}
use Rattle.edge_probe.proofs.GivenLemmas.{both_octets}
use Rattle.probe_text.specs.probe_defs.Probed.{Probed, Yield}
use Rattle.probe_text.specs.probe_defs.declared.probe.ProbeLine.{ProbeLine}
use Rattle.probe_text.specs.probe_defs.declared.probe.ProbeLine.TheVariants.{Join, Piece}
use Rattle.probe_text.specs.probe_defs.declared.probe.ProbeReport.{ProbeReport}
use Rattle.mvpn_tool.specs.ProbeLines.{HasPeerFault, IsSound}

-- ---- the octets of lines

octets_on : (done more_lines : List ProbeLine) → octets_of (done ++ more_lines) ≡ octets_of done ++ octets_of more_lines
octets_on [] ls = refl
octets_on (Join iface source group ∷ done) ls = octets_on done ls
octets_on (Piece piece ∷ done) ls = ap (λ (xs : List ℕ). piece ++ xs) (octets_on done ls) ∙ sym (append_assoc piece (octets_of done) (octets_of ls))

-- One line more.
pub octets_more : (lines : List ProbeLine) (i : ℕ) (line : ProbeLine) → i < length lines → line ≡ get_or lines i line
    → IsOctets (octets_of (take i lines)) → IsOctets (octets_of (line ∷ []))
    → IsOctets (octets_of (take (i + 1) lines))
octets_more lines i line lt is done here =
    let one : take (i + 1) lines ≡ take i lines ++ line ∷ [] = take_more lines i line lt ∙ ap (λ (x : ProbeLine). take i lines ++ x ∷ []) (sym is) in
    subst IsOctets (sym (ap octets_of one ∙ octets_on (take i lines) (line ∷ [])))
    (both_octets (octets_of (take i lines)) (octets_of (line ∷ [])) done here)

-- ---- octets are sound, or have a first fault

must_wait : (rest : List ℕ) (ms : List Message) (octets : List ℕ) → IsOctets rest → Splits SpellsMessage octets ms rest → NoFault UnitFault rest
    → (o : Front Message StreamFault) → message_front rest ≡ o → message_front rest ≡ more
must_wait rest ms octets fits splits none more e = e
must_wait rest ms octets fits splits none (whole n ns) e =
    let taken = message_format.stream.framing.taken rest n ns fits e in
    absurd (splits.no_unit ns (take n rest) (drop n rest) taken.1 (sym (take-append-drop n rest)))
must_wait rest ms octets fits splits none (bad last offset fault) e =
    absurd (none last offset fault (message_format.fails rest last offset fault fits e))

not_both : (octets : List ℕ) (ms ns : List Message) (fault : ℕ × StreamFault) → IsOctets octets → Yield octets ms (Some fault) → Yield octets ns None
    → ⊥
not_both octets ms ns fault fits failed sound =
    let rest = sound.0 in
    let splits = sound.1 in
    let there : ℕ = length (unit_octets splits.begins.units) in
    let at : there + length rest ≡ 0 + length octets =
    omega (arith, ap (λ (xs : List ℕ). length xs) splits.begins.parts, length-append (unit_octets splits.begins.units) rest) in
    let rest_fits : IsOctets rest = IsOctets-after (unit_octets splits.begins.units) rest (subst IsOctets splits.begins.parts fits) in
    let none : (cut message_front octets).fault ≡ None =
    ap (λ (c : Cut Message StreamFault). c.fault)
    (begun message_front SpellsMessage message_format.stream.framing 0 there octets ns rest splits.begins at
    ∙ ap (with_front ns) (waits message_front there rest (must_wait rest ns octets rest_fits splits sound.2 (message_front rest) refl))) in
    let some : (cut message_front octets).fault ≡ Some (failed.0, fault.1) =
    ap (λ (c : Cut Message StreamFault). c.fault)
    (fails_cut message_front SpellsMessage UnitFault 4096 message_format octets ms failed.0 fault.1 fits failed.1) in
    absurd cc

sound_is : (octets : List ℕ) (ms ns : List Message) (o : Option (ℕ × StreamFault)) → IsOctets octets → Yield octets ms o → Yield octets ns None
    → is_some o ≡ false
sound_is octets ms ns None fits y n = refl
sound_is octets ms ns (Some fault) fits y n = absurd (not_both octets ms ns fault fits y n)

faulty_is : (octets : List ℕ) (ms ns : List Message) (o : Option (ℕ × StreamFault)) (fault : ℕ × StreamFault) → IsOctets octets → Yield octets ms o
    → Yield octets ns (Some fault) → is_some o ≡ true
faulty_is octets ms ns None fault fits y n = absurd (not_both octets ns ms fault fits n y)
faulty_is octets ms ns (Some own) fault fits y n = refl

pub sound_is_none : (what : ProbeText) (report : ProbeReport) → IsOctets (octets_of what.lines)
    → Probed what.scenario what.ends.edge what.ends.peer what.lines report → IsSound what → is_some report.fault ≡ false
sound_is_none what report fits told is = sound_is (octets_of what.lines) told.messages is.0 report.fault fits told.yields is.1

pub faulty_is_some : (what : ProbeText) (report : ProbeReport) → IsOctets (octets_of what.lines)
    → Probed what.scenario what.ends.edge what.ends.peer what.lines report → HasPeerFault what → is_some report.fault ≡ true
faulty_is_some what report fits told has = faulty_is (octets_of what.lines) told.messages has.0 report.fault has.1 fits told.yields has.2
