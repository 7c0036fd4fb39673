-- What is found of one datagram more.
use Rattle.std.specs.Prelude.{◌||◌, ◌&&◌, ◌==◌, is_some}
use Rattle.std.proofs.Common.{◌≡◌, ℕ, zero, suc, ◌+◌, Bool, true, false, not, cond, ◌++◌, length, List, [], ◌∷◌, slice_get, Option, None, Some, refl, sym, ap, subst, ◌∙◌, arith}
use Rattle.std.specs.List.{list_any}
use Rattle.std.proofs.Math.Bool.{or-false}
use Rattle.std.proofs.lemmas.Bool.{eq-eqb, ne_eqb}
use Rattle.std.proofs.lemmas.List.{length-map}
use Rattle.std.proofs.lemmas.Option.{none-some, slice_get_within}
use Rattle.indexmap.specs.IndexMap.{get, IsUnique}
use Rattle.audit_events.specs.mv_base.declared.ids.IfaceId.{IfaceId}
use Rattle.audit_events.specs.audit_defs.declared.verdict.Numbered.{Numbered}
use Rattle.audit_events.proofs.audit_defs.Fitting.{take_whole}
use Rattle.audit_events.proofs.audit_defs.Lists.{some_same}
use Rattle.audit_events.specs.declared.case.Case.{Case}
use Rattle.audit_events.specs.declared.sents.Sent.{Sent}
use Rattle.audit_events.specs.Case.{events_of}
use Rattle.audit_events.specs.Sents.{sents_before, sents_of, listed}
use Rattle.audit_events.proofs.DatagramLemmas.{append_none}
use Rattle.audit_events.proofs.MarkingLemmas.{Before, Same, After, order}
use Rattle.audit_events.proofs.WalkLemmas.{map_append, all_sent}
use Rattle.mvpn_audit.specs.declared.exits.Exit.{Exit}
use Rattle.mvpn_audit.specs.declared.findings.Findings.{Findings}
use Rattle.mvpn_audit.specs.declared.findings.Noted.{Noted}
use Rattle.mvpn_audit.specs.Exits.{ExitMap, is_exit, exit, has_out, asked_if, asks, lacks_in, AreRepeats, AreOutLines}
use Rattle.mvpn_audit.specs.Findings.{noted_of, is_asked, is_asked_by, was_asked, asks_of, lacks_of, first_of, AreFound}
use Rattle.mvpn_audit.specs.Missing.{lacks, is_missing, IsMissed}
use Rattle.mvpn_audit.proofs.ExitLemmas.{got_before, got_last, got_none, length_more, there}

-- ---- who was asked

asks_other : (number : ℕ) (asked : List IfaceId) (own : Exit) → (number == own.number) ≡ false → asks number asked own ≡ false
asks_other number [] own e = refl
asks_other number (iface ∷ more) own e = ap (λ b. (b && (iface.0 == own.iface.0)) || asks number more own) e ∙ asks_other number more own e

asks_own : (number : ℕ) (asked : List IfaceId) (own : Exit) → (number == own.number) ≡ true → asks number asked own ≡ is_asked asked own.iface
asks_own number [] own e = refl
asks_own number (iface ∷ more) own e = (λ i. (e i && (iface.0 == own.iface.0)) || asks_own number more own e i)

of_other : (number : ℕ) (asked : Option (List IfaceId)) (own : Exit) → (number == own.number) ≡ false → asks_of number asked own ≡ false
of_other number None own e = refl
of_other number (Some asked) own e = asks_other number asked own e

of_own : (number : ℕ) (asked : Option (List IfaceId)) (own : Exit) → (number == own.number) ≡ true →
    asks_of number asked own ≡ (elim asked [ None ↦ false | Some some ↦ is_asked some own.iface ])
of_own number None own e = refl
of_own number (Some asked) own e = asks_own number asked own e

module _ (sents : List Sent) (sent : Sent) (own : Exit) where
  abbrev last : ℕ
  last = length sents + 1

  abbrev answer : Option Sent → Bool
  answer o = elim o [ None ↦ false | Some found ↦ is_asked_by found own.iface ]

  was_by : (n : ℕ) → own.number ≡ n → was_asked (sents ++ sent ∷ []) n own.iface ≡ (was_asked sents n own.iface || asks_of last sent.asked own)
  was_by zero e = sym (of_other last sent.asked own (ne_eqb last own.number (λ same. omega (arith, same, e))))
  was_by (suc place) e = elim (order place (length sents)) [
    | Before less ↦
        ap answer (got_before sents (sent ∷ []) place less)
        ∙ (sym (or-false (answer (slice_get sents place)))
        ∙ ap (λ b. answer (slice_get sents place) || b)
        (sym (of_other last sent.asked own (ne_eqb last own.number (λ same. omega (arith, same, e, less))))))
    | Same same ↦
        ap answer (ap (slice_get (sents ++ sent ∷ [])) same ∙ got_last sents sent)
        ∙ (sym (of_own last sent.asked own (eq-eqb last own.number (omega (arith, same, e))))
        ∙ ap (λ (o : Option Sent). answer o || asks_of last sent.asked own) (sym (got_none sents place (omega (arith, same)))))
    | After more ↦
        (let long = length_more sents sent in ap answer (got_none (sents ++ sent ∷ []) place (omega (arith, more, long))))
        ∙ (sym (of_other last sent.asked own (ne_eqb last own.number (λ same. omega (arith, same, e, more))))
        ∙ ap (λ (o : Option Sent). answer o || asks_of last sent.asked own) (sym (got_none sents place (omega (arith, more)))))
  ]

  -- The datagram of that number was asked for, of these or as the next one.
  was_next : was_asked (sents ++ sent ∷ []) own.number own.iface ≡ (was_asked sents own.number own.iface || asks_of last sent.asked own)
  was_next = was_by own.number refl

asked_there : (b h w : Bool) → asked_if b (cond h (Some w) None) ≡ cond h (Some (w || b)) None
asked_there b true w = refl
asked_there b false w = refl

-- ---- which is missing

module _ (all : List Numbered) (sents : List Sent) (exits : ExitMap)
    (asked : (own : Exit) → get is_exit exits own ≡ cond (has_out all own) (Some (was_asked sents own.number own.iface)) None) where
  lacks_same : (number : ℕ) (receivers : List IfaceId) → lacks_in exits number receivers ≡ lacks all number receivers
  lacks_same number receivers =
      (λ i. list_any (λ (iface : IfaceId). not ((ap (λ (o : Option Bool). is_some o) (asked (exit number iface))
      ∙ there (has_out all (exit number iface)) (was_asked sents number iface)) i)) receivers)

  lacks_is : (number : ℕ) (o : Option (List IfaceId))
      → lacks_of exits number o ≡ (elim o [ None ↦ false | Some receivers ↦ lacks all number receivers ])
  lacks_is number None = refl
  lacks_is number (Some receivers) = lacks_same number receivers

missed_next : (all : List Numbered) (sents : List Sent) (sent : Sent) (missing : Option ℕ) (lacking : Bool)
    → lacking ≡ is_missing all (length sents + 1) sent → IsMissed all sents missing →
    IsMissed all (sents ++ sent ∷ []) (first_of missing lacking sent.event)
missed_next all sents sent (Some event) lacking e f = record {
  place = f.place;
  sent = f.sent;
  at = got_before sents (sent ∷ []) f.place (slice_get_within sents f.place f.sent f.at) ∙ f.at;
  of_event = f.of_event;
  is = f.is;
  before = λ place other less at.
      f.before place other less
      (sym (got_before sents (sent ∷ []) place (let within = slice_get_within sents f.place f.sent f.at in omega (arith, less, within))) ∙ at);
}
missed_next all sents sent None true e none = record {
  place = length sents;
  sent = sent;
  at = got_last sents sent;
  of_event = refl;
  is = sym e;
  before = λ place other less at. none place other (sym (got_before sents (sent ∷ []) place less) ∙ at);
}
missed_next all sents sent None false e none = λ place other at. elim (order place (length sents)) [
  | Before less ↦ none place other (sym (got_before sents (sent ∷ []) place less) ∙ at)
  | Same same ↦
      let one : sent ≡ other = some_same sent other (sym (got_last sents sent) ∙ (ap (slice_get (sents ++ sent ∷ [])) (sym same) ∙ at)) in
      (λ i. is_missing all (same i + 1) (sym one i)) ∙ sym e
  | After more ↦ absurd (none-some other (sym (let long = length_more sents sent in got_none (sents ++ sent ∷ []) place (omega (arith, more, long)))
      ∙ at))
]

-- ---- one datagram more

pub found_next : (all : List Numbered) (sents : List Sent) (sent : Sent) (old new : Findings) → AreFound all sents old → (number : ℕ)
    → number ≡ length old.noted + 1 →
    new.noted ≡ old.noted ++ noted_of sent ∷ [] →
    ((own : Exit) → get is_exit new.outs.exits own ≡ asked_if (asks_of number sent.asked own) (get is_exit old.outs.exits own)) →
    IsUnique is_exit new.outs.exits → new.outs.repeats ≡ old.outs.repeats → (lacking : Bool) → lacking ≡ lacks_of old.outs.exits number sent.asked →
    new.missing ≡ first_of old.missing lacking sent.event → AreFound all (sents ++ sent ∷ []) new
found_next all sents sent old new found number so noted asked unique repeats lacking lacks_so missing = record {
  noted = noted ∙ (ap (λ (l : List Noted). l ++ noted_of sent ∷ []) found.noted ∙ sym (map_append noted_of sents (sent ∷ [])));
  unique = unique;
  asked = λ own.
      asked own
      ∙ ((λ i. asked_if (asks_of (last i) sent.asked own) (found.asked own i))
      ∙ (asked_there (asks_of (length sents + 1) sent.asked own) (has_out all own) (was_asked sents own.number own.iface)
      ∙ ap (λ b. cond (has_out all own) (Some b) None) (sym (was_next sents sent own))));
  repeats = subst (λ (l : List Bool). AreRepeats all (length all) l) (sym repeats) found.repeats;
  missing = subst (λ (o : Option ℕ). IsMissed all (sents ++ sent ∷ []) o) (sym missing)
      (missed_next all sents sent old.missing lacking
      (lacks_so ∙ (ap (λ n. lacks_of old.outs.exits n sent.asked) last
      ∙ lacks_is all sents old.outs.exits found.asked (length sents + 1) sent.asked)) found.missing);
}
  where
    last : number ≡ length sents + 1
    last = so ∙ ap (λ n. n + 1) (ap (λ (l : List Noted). length l) found.noted ∙ length-map sents noted_of)

-- ---- before the first datagram

none_asked : (n : ℕ) (iface : IfaceId) → was_asked [] n iface ≡ false
none_asked zero iface = refl
none_asked (suc place) iface = refl

pub none_found : (all : List Numbered) (findings : Findings) → AreOutLines all (length all) findings.outs → findings.noted ≡ []
    → findings.missing ≡ None → AreFound all [] findings
none_found all findings outs noted missing = record {
  noted = noted;
  unique = outs.exits.unique;
  asked = λ own.
      outs.exits.each own
      ∙ (λ i. cond (has_out (take_whole all i) own) (Some (sym (none_asked own.number own.iface) i)) None);
  repeats = outs.repeats;
  missing = subst (λ (o : Option ℕ). IsMissed all [] o) (sym missing) (λ place sent e. absurd (none-some sent e));
}

-- ---- one event more

module _ (case : Case) (number : ℕ) (findings : Findings) (next : Option Sent)
    (e : sents_before case (number + 1) ≡ sents_before case number ++ listed next) where
  pub found_on : (sent : Sent) → next ≡ Some sent → AreFound case.report.now.lines (sents_before case number ++ sent ∷ []) findings →
      AreFound case.report.now.lines (sents_before case (number + 1)) findings
  found_on sent is found =
      subst (λ (l : List Sent). AreFound case.report.now.lines l findings)
      (sym (e ∙ ap (λ (o : Option Sent). sents_before case number ++ listed o) is)) found

  pub found_still : next ≡ None → AreFound case.report.now.lines (sents_before case number) findings
      → AreFound case.report.now.lines (sents_before case (number + 1)) findings
  found_still is found =
      subst (λ (l : List Sent). AreFound case.report.now.lines l findings)
      (sym (e ∙ (ap (λ (o : Option Sent). sents_before case number ++ listed o) is ∙ append_none (sents_before case number)))) found

pub found_all : (case : Case) (count : ℕ) (findings : Findings) → count ≡ length (events_of case)
    → AreFound case.report.now.lines (sents_before case count) findings →
    AreFound case.report.now.lines (sents_of case) findings
found_all case count findings same found = subst (λ (l : List Sent). AreFound case.report.now.lines l findings) (all_sent case count same) found
