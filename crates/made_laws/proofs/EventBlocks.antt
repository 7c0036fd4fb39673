-- The blocks of events, line by line, after any scenario that has the things that they name.
use Rattle.std.proofs.Common.{◌≡◌, ℕ, zero, suc, ◌+◌, ◌%◌, ◌<◌, ◌≤◌, ◌==◌, ◌&&◌, Bool, true, false, cond, not, List, [], ◌∷◌, ◌++◌, length, Some, refl, sym, ap, subst, ◌∙◌, arith, append_assoc, append-nil, length-append}
use Rattle.std.specs.Prelude.{codes, decimal, Ok}
use Rattle.std.specs.List.{slice_get}
use Rattle.std.proofs.lemmas.Bool.{lt-leb}
use Rattle.scenario_defs.specs.declared.event.Event.{Event}
use Rattle.scenario_defs.specs.declared.event.CustomerEvent.TheVariants as customers
use Rattle.scenario_defs.specs.declared.event.Event.TheVariants as events
use Rattle.scenario_defs.specs.declared.event.JoinEntry.TheVariants.{Source}
use Rattle.scenario_defs.specs.declared.event.Timed.{Timed}
use Rattle.line_words.specs.declared.words.Row.{Row}
use Rattle.scenario_lines.specs.declared.scenario_draft.line.Line.TheVariants as says
use Rattle.scenario_lines.specs.scenario_draft.Drafted.{Drafted}
use Rattle.scenario_lines.specs.scenario_draft.Naming.{vrf_at, site_at, iface_at}
use Rattle.line_words.specs.Forms.{payload_at}
use Rattle.line_words.specs.Lines.{row_of}
use Rattle.scenario_text.specs.Grammar.{words_line}
use Rattle.generator.specs.Made as made
use Rattle.made_laws.specs.MadeScript.{each, name_at, place, vrf_id, site_id, iface_id, vrf, site, iface, source_edge, source, group, join, send, selection, from_line}
use Rattle.made_laws.proofs.RowLemmas.{glued_strung, IsWord, AreWords, joined, with_columns, begins, row_text, Reads, reads_none, reads_then, reads_row}
use Rattle.made_laws.proofs.NumeralLemmas.{numbered_word, paired_name, host, host_dotted, group_dotted, addr_read}
use Rattle.made_laws.proofs.LineLemmas.{at, vrf_word, site_word, iface_word}
use Rattle.made_laws.proofs.EventLines.{TakesEvents, heal_said, settle_said, drain_said, state_said, tick_said, AreOfFlow, join_said, send_said, select_said}
use Rattle.made_laws.proofs.Drafts.{vrf_entry, site_entry, iface_entry, Stands}
use Rattle.made_laws.proofs.NodeBlocks.{known_word}
use Rattle.made_laws.proofs.VpnBlocks.{pair_word, host_word, letter_word}

-- ---- events with the numbers of their lines

from_line_last : (line : ℕ) (done : List Event) (event : Event)
    → from_line line (done ++ event ∷ []) ≡ from_line line done ++ (record { line = line + length done; event = event }) ∷ []
from_line_last line [] event = let n : line ≡ line + 0 = omega arith in ap (λ (k : ℕ). (record { line = k; event = event }) ∷ []) n
from_line_last line (first ∷ done) event =
    let n : line + 1 + length done ≡ line + length (first ∷ done) = omega arith in
    ap (λ (l : List Timed). (record { line = line; event = first }) ∷ l)
    (from_line_last (line + 1) done event ∙ ap (λ (k : ℕ). from_line (line + 1) done ++ (record { line = k; event = event }) ∷ []) n)

length_from_line : (line : ℕ) (done : List Event) → length (from_line line done) ≡ length done
length_from_line line [] = refl
length_from_line line (first ∷ done) = omega (arith, length_from_line (line + 1) done)

-- ---- lines that say events

-- what is declared, with the events from line 866 on
abbrev pub telling : Drafted → List Event → Drafted
telling base done = record { scenario = base.scenario; given = base.given; begun = true; events = from_line 866 done; names = base.names }

-- The text says the events, one a line, whatever was said before.
abbrev pub Tells : Drafted → List ℕ → List Event → Type 0
Tells base text told =
    (done : List Event) → length done + length told ≤ 200000
    → Reads (telling base done) (866 + length done) text (telling base (done ++ told)) (866 + length (done ++ told))

takes : (base : Drafted) (done : List Event) → length done + 1 ≤ 200000 → TakesEvents (telling base done)
takes base done h = record { begun = refl; few = lt-leb 200000 (length (from_line 866 done)) (omega (arith, h, length_from_line 866 done)) }

tells_none : (base : Drafted) → Tells base [] []
tells_none base done h =
    subst (λ (l : List Event). Reads (telling base done) (866 + length done) [] (telling base l) (866 + length l)) (sym (append-nil done))
    (reads_none (telling base done) (866 + length done))

pub tells_then : (base : Drafted) (first second : List ℕ) (some more : List Event) → Tells base first some → Tells base second more
    → Tells base (first ++ second) (some ++ more)
tells_then base first second some more a b done h =
    let total : length (some ++ more) ≡ length some + length more = length-append some more in
    let before : length (done ++ some) ≡ length done + length some = length-append done some in
    subst (λ (l : List Event). Reads (telling base done) (866 + length done) (first ++ second) (telling base l) (866 + length l))
    (append_assoc done some more)
    (reads_then (telling base done) (telling base (done ++ some)) (telling base (done ++ some ++ more)) (866 + length done)
    (866 + length (done ++ some)) (866 + length (done ++ some ++ more)) first second
    (a done (omega (arith, h, total))) (b (done ++ some) (omega (arith, h, total, before))))

-- One line.
tells_row : (base : Drafted) (first : List ℕ) (rest : List (List ℕ)) (event : Event) → AreWords (first ∷ rest) → length rest ≤ 20
    → begins first ≡ true
    → ((draft : Drafted) (row : Row) → TakesEvents draft → draft.scenario ≡ base.scenario → draft.names ≡ base.names
    → words_line draft row (with_columns 1 (first ∷ rest)) ≡ Ok (says.Event event)) → Tells base (row_text (first ∷ rest)) (event ∷ [])
tells_row base first rest event words few b said done h =
    let one : length (done ++ event ∷ []) ≡ length done + 1 = length-append done (event ∷ []) in
    let after : 866 + length done + 1 ≡ 866 + length (done ++ event ∷ []) = omega (arith, one) in
    subst (λ (n : ℕ). Reads (telling base done) (866 + length done) (row_text (first ∷ rest)) (telling base (done ++ event ∷ [])) n) after
    (subst (λ (l : List Timed). Reads (telling base done) (866 + length done) (row_text (first ∷ rest))
    (record { scenario = base.scenario; given = base.given; begun = true; events = l; names = base.names }) (866 + length done + 1))
    (sym (from_line_last 866 done event))
    (reads_row (telling base done) (866 + length done) first rest (says.Event event) words few b
    (said (telling base done) (row_of (866 + length done) (joined (first ∷ rest))) (takes base done (omega (arith, h))) refl refl)))

pub tells_each : (base : Drafted) (text : ℕ → List ℕ) (told : ℕ → List Event) (count : ℕ)
    → ((k : ℕ) → k < count → Tells base (text (suc k)) (told (suc k))) → Tells base (made.each text count) (each told count)
tells_each base text told zero h = tells_none base
tells_each base text told (suc count) h =
    tells_then base (made.each text count) (text (suc count)) (each told count) (told (suc count))
    (tells_each base text told count (λ k w. h k (omega arith))) (h count (omega arith))

tells_if : (base : Drafted) (b : Bool) (text : List ℕ) (told : List Event) → Tells base text told → Tells base (cond b text []) (cond b told [])
tells_if base true text told h = h
tells_if base false text told h = tells_none base

as_told : (base : Drafted) (text other : List ℕ) (told : List Event) → other ≡ text → Tells base text told → Tells base other told
as_told base text other told e h = subst (λ (l : List ℕ). Tells base l told) (sym e) h

-- ---- words alone

pub heal_told : (base : Drafted) → Tells base (codes "heal\n") (events.Heal ∷ [])
heal_told base =
    tells_row base (codes "heal") [] events.Heal (known_word (codes "heal") (omega arith) (omega arith) refl, tt) (omega arith) refl
    (λ draft row t s n. heal_said draft row 1 t)

pub settle_told : (base : Drafted) → Tells base (codes "settle\n") (events.Settle ∷ [])
settle_told base =
    tells_row base (codes "settle") [] events.Settle (known_word (codes "settle") (omega arith) (omega arith) refl, tt) (omega arith) refl
    (λ draft row t s n. settle_said draft row 1 t)

pub drain_told : (base : Drafted) → Tells base (codes "drain\n") (events.Drain ∷ [])
drain_told base =
    tells_row base (codes "drain") [] events.Drain (known_word (codes "drain") (omega arith) (omega arith) refl, tt) (omega arith) refl
    (λ draft row t s n. drain_said draft row 1 t)

pub state_told : (base : Drafted) → Tells base (codes "state\n") (events.State ∷ [])
state_told base =
    tells_row base (codes "state") [] events.State (known_word (codes "state") (omega arith) (omega arith) refl, tt) (omega arith) refl
    (λ draft row t s n. state_said draft row 1 t)

pub tick_told : (base : Drafted) → Tells base (codes "tick 3\n") (events.Tick 3 ∷ [])
tick_told base =
    tells_row base (codes "tick") (codes "3" ∷ []) (events.Tick 3)
    (known_word (codes "tick") (omega arith) (omega arith) refl, (known_word (codes "3") (omega arith) (omega arith) refl, tt)) (omega arith) refl
    (λ draft row t s n. tick_said draft row 1 6 t)

-- ---- flows

flow_text : (number vpn : ℕ) (rest : List ℕ) → made.flow number vpn ++ rest ≡ host (source_edge number vpn) vpn (codes "9") ++ 32
    ∷ ((codes "232.1.1." ++ decimal vpn) ++ rest)
flow_text number vpn rest =
    glued_strung (codes "10.") (decimal (source_edge number vpn) ∷ codes "." ∷ decimal vpn ∷ codes ".9 232.1.1." ∷ decimal vpn ∷ rest ∷ [])
    ∙ sym (glued_strung (codes "10.") (decimal (source_edge number vpn) ∷ codes "." ∷ decimal vpn ∷ codes ".9"
    ∷ (32 ∷ ((codes "232.1.1." ++ decimal vpn) ++ rest)) ∷ []))

is_flow : (number vpn : ℕ) → vpn < 33 → AreOfFlow (host (source_edge number vpn) vpn (codes "9")) (codes "232.1.1." ++ decimal vpn)
    (source number vpn) (group vpn)
is_flow number vpn h = record {
  no_star = refl;
  no_star_group = refl;
  from = addr_read (host (source_edge number vpn) vpn (codes "9")) _ (host_dotted (source_edge number vpn) vpn 9 (omega arith) h (omega arith));
  to = addr_read (codes "232.1.1." ++ decimal vpn) _ (group_dotted vpn h);
  unicast = refl;
  multicast = refl;
  family = refl;
}

source_word : (number vpn : ℕ) → vpn < 33 → IsWord (host (source_edge number vpn) vpn (codes "9"))
source_word number vpn h =
    host_word (source_edge number vpn) vpn (codes "9") (omega arith) h (omega arith) (known_word (codes ".9") (omega arith) (omega arith) refl)

group_word : (vpn : ℕ) → vpn < 33 → IsWord (codes "232.1.1." ++ decimal vpn)
group_word vpn h = numbered_word (codes "232.1.1.") vpn h (omega arith) (omega arith) refl

-- ---- what the events name

-- Each VPN has a VRF, a site and an interface at each edge.
pub record HasThings (base : Drafted) : Type 0 where
  pub vrf_named : (edge vpn : ℕ) → 0 < edge → edge < 33 → 0 < vpn → vpn < 9 → Stands base.names (vrf_entry edge vpn)
  pub site_named : (edge vpn : ℕ) → 0 < edge → edge < 33 → 0 < vpn → vpn < 9 → Stands base.names (site_entry edge vpn)
  pub iface_named : (edge vpn : ℕ) → 0 < edge → edge < 33 → 0 < vpn → vpn < 9 → Stands base.names (iface_entry edge vpn)
  pub vrf_there : (edge vpn : ℕ) → 0 < edge → edge < 33 → 0 < vpn → vpn < 9 → slice_get base.scenario.vrfs (place edge vpn) ≡ Some (vrf edge vpn)
  pub site_there : (edge vpn : ℕ) → 0 < edge → edge < 33 → 0 < vpn → vpn < 9 → slice_get base.scenario.sites (place edge vpn) ≡ Some (site edge vpn)
  pub iface_there : (edge vpn : ℕ) → 0 < edge → edge < 33 → 0 < vpn → vpn < 9
      → slice_get base.scenario.ifaces (place edge vpn) ≡ Some (iface edge vpn)

module _ (base : Drafted) (has : HasThings base) (edge vpn : ℕ) (a : 0 < edge) (b : edge < 33) (c : 0 < vpn) (d : vpn < 9) where
  vrf_known : (draft : Drafted) (row : Row) → draft.scenario ≡ base.scenario → draft.names ≡ base.names → (column : ℕ)
      → vrf_at draft row (at column (name_at (codes "V") edge vpn)) ≡ Ok (vrf_id edge vpn)
  vrf_known draft row s n column =
      vrf_word draft row (at column (name_at (codes "V") edge vpn)) (vrf_id edge vpn) (vrf edge vpn) (paired_name 86 edge vpn refl b (omega arith))
      (subst (λ l. Stands l (vrf_entry edge vpn)) (sym n) (has.vrf_named edge vpn a b c d))
      (subst (λ x. slice_get x.vrfs (place edge vpn) ≡ Some (vrf edge vpn)) (sym s) (has.vrf_there edge vpn a b c d))

  site_known : (draft : Drafted) (row : Row) → draft.scenario ≡ base.scenario → draft.names ≡ base.names → (column : ℕ)
      → site_at draft row (at column (name_at (codes "S") edge vpn)) ≡ Ok (site_id edge vpn)
  site_known draft row s n column =
      site_word draft row (at column (name_at (codes "S") edge vpn)) (site_id edge vpn) (site edge vpn) (paired_name 83 edge vpn refl b (omega arith))
      (subst (λ l. Stands l (site_entry edge vpn)) (sym n) (has.site_named edge vpn a b c d))
      (subst (λ x. slice_get x.sites (place edge vpn) ≡ Some (site edge vpn)) (sym s) (has.site_there edge vpn a b c d))

  iface_known : (draft : Drafted) (row : Row) → draft.scenario ≡ base.scenario → draft.names ≡ base.names → (column : ℕ)
      → iface_at draft row (at column (name_at (codes "I") edge vpn)) ≡ Ok (iface_id edge vpn)
  iface_known draft row s n column =
      iface_word draft row (at column (name_at (codes "I") edge vpn)) (iface_id edge vpn) (iface edge vpn)
      (paired_name 73 edge vpn refl b (omega arith))
      (subst (λ l. Stands l (iface_entry edge vpn)) (sym n) (has.iface_named edge vpn a b c d))
      (subst (λ x. slice_get x.ifaces (place edge vpn) ≡ Some (iface edge vpn)) (sym s) (has.iface_there edge vpn a b c d))

  -- ---- joins

  join_told : (number : ℕ) → Tells base (codes "join I" ++ made.pair vpn edge ++ codes " " ++ made.flow number vpn ++ codes "\n")
      (events.Customer (customers.Join (iface_id edge vpn) (Source (source number vpn) (group vpn))) ∷ [])
  join_told number =
      as_told base _ (codes "join I" ++ made.pair vpn edge ++ codes " " ++ made.flow number vpn ++ codes "\n")
      (events.Customer (customers.Join (iface_id edge vpn) (Source (source number vpn) (group vpn))) ∷ [])
      (glued_strung (codes "join I") (made.pair vpn edge ∷ codes " " ∷ made.flow number vpn ∷ codes "\n" ∷ [])
      ∙ ap (λ (l : List ℕ). codes "join I" ++ (made.pair vpn edge ++ (codes " " ++ l))) (flow_text number vpn (codes "\n")))
      (tells_row base (codes "join") (name_at (codes "I") edge vpn ∷ host (source_edge number vpn) vpn (codes "9") ∷ (codes "232.1.1." ++ decimal vpn)
      ∷ []) (events.Customer (customers.Join (iface_id edge vpn) (Source (source number vpn) (group vpn)))) (
        known_word (codes "join") (omega arith) (omega arith) refl,
        (pair_word 73 edge vpn b (omega arith) (letter_word 73 refl), (source_word number vpn (omega arith), (group_word vpn (omega arith), tt))),
      )
      (omega arith) refl
      (λ draft row t s n. join_said draft row (iface_id edge vpn) (iface edge vpn) (source number vpn) (group vpn) (name_at (codes "I") edge vpn)
      (host (source_edge number vpn) vpn (codes "9")) (codes "232.1.1." ++ decimal vpn) _ _ _ _ t (is_flow number vpn (omega arith))
      (iface_known draft row s n) (subst (λ x. slice_get x.ifaces (place edge vpn) ≡ Some (iface edge vpn)) (sym s)
      (has.iface_there edge vpn a b c d)) refl))

  pub join_line_told : (number : ℕ) → Tells base (made.join_line number vpn edge) (join number vpn edge)
  join_line_told number =
      tells_if base (not (edge == source_edge number vpn) && (edge + vpn + number) % 4 == 0)
      (codes "join I" ++ made.pair vpn edge ++ codes " " ++ made.flow number vpn ++ codes "\n")
      (events.Customer (customers.Join (iface_id edge vpn) (Source (source number vpn) (group vpn))) ∷ []) (join_told number)

module _ (base : Drafted) (has : HasThings base) (number vpn : ℕ) (c : 0 < vpn) (d : vpn < 9) where
  -- ---- datagrams

  pub send_told : (payload : List ℕ) (octet : ℕ) → IsWord payload → ((row : Row) (column : ℕ) → payload_at row (at column payload) ≡ Ok (octet ∷ []))
      → Tells base (made.send_line number payload vpn) (send number octet vpn ∷ [])
  send_told payload octet word read =
      as_told base _ (made.send_line number payload vpn) (send number octet vpn ∷ [])
      (glued_strung (codes "send S") (made.pair vpn (source_edge number vpn) ∷ codes " " ∷ made.flow number vpn ∷ codes " " ∷ payload ∷ codes "\n"
      ∷ [])
      ∙ ap (λ (l : List ℕ). codes "send S" ++ (made.pair vpn (source_edge number vpn) ++ (codes " " ++ l)))
      (flow_text number vpn (32 ∷ (payload ++ codes "\n"))))
      (tells_row base (codes "send") (name_at (codes "S") (source_edge number vpn) vpn ∷ host (source_edge number vpn) vpn (codes "9")
      ∷ (codes "232.1.1." ++ decimal vpn) ∷ payload ∷ []) (send number octet vpn) (
        known_word (codes "send") (omega arith) (omega arith) refl,
        (
          pair_word 83 (source_edge number vpn) vpn (omega arith) (omega arith) (letter_word 83 refl),
          (source_word number vpn (omega arith), (group_word vpn (omega arith), (word, tt))),
        ),
      )
      (omega arith) refl
      (λ draft row t s n. send_said draft row (site_id (source_edge number vpn) vpn) (source number vpn) (group vpn)
      (name_at (codes "S") (source_edge number vpn) vpn) (host (source_edge number vpn) vpn (codes "9")) (codes "232.1.1." ++ decimal vpn) payload
      (octet ∷ []) _ _ _ _ _ t (is_flow number vpn (omega arith))
      (site_known base has (source_edge number vpn) vpn (omega arith) (omega arith) c d draft row s n) (read row _)))

  -- ---- selections

  select_told : Tells base (codes "select V" ++ made.pair vpn (source_edge number vpn) ++ codes " " ++ made.flow number vpn ++ codes "\n")
      (events.Customer (customers.Select (vrf_id (source_edge number vpn) vpn) (record { source = Some (source number vpn); group = Some (group vpn) })) ∷ [])
  select_told =
      as_told base _ (codes "select V" ++ made.pair vpn (source_edge number vpn) ++ codes " " ++ made.flow number vpn ++ codes "\n")
      (events.Customer (customers.Select (vrf_id (source_edge number vpn) vpn) (record { source = Some (source number vpn); group = Some (group vpn) })) ∷ [])
      (glued_strung (codes "select V") (made.pair vpn (source_edge number vpn) ∷ codes " " ∷ made.flow number vpn ∷ codes "\n" ∷ [])
      ∙ ap (λ (l : List ℕ). codes "select V" ++ (made.pair vpn (source_edge number vpn) ++ (codes " " ++ l))) (flow_text number vpn (codes "\n")))
      (tells_row base (codes "select") (name_at (codes "V") (source_edge number vpn) vpn ∷ host (source_edge number vpn) vpn (codes "9")
      ∷ (codes "232.1.1." ++ decimal vpn) ∷ []) (events.Customer (customers.Select (vrf_id (source_edge number vpn) vpn)
      (record { source = Some (source number vpn); group = Some (group vpn) }))) (
        known_word (codes "select") (omega arith) (omega arith) refl,
        (
          pair_word 86 (source_edge number vpn) vpn (omega arith) (omega arith) (letter_word 86 refl),
          (source_word number vpn (omega arith), (group_word vpn (omega arith), tt)),
        ),
      )
      (omega arith) refl
      (λ draft row t s n. select_said draft row (vrf_id (source_edge number vpn) vpn) (source number vpn) (group vpn)
      (name_at (codes "V") (source_edge number vpn) vpn) (host (source_edge number vpn) vpn (codes "9")) (codes "232.1.1." ++ decimal vpn) _ _ _ _
      t (is_flow number vpn (omega arith))
      (vrf_known base has (source_edge number vpn) vpn (omega arith) (omega arith) c d draft row s n)))

  pub select_line_told : Tells base (made.select_line number vpn) (selection number vpn)
  select_line_told =
      tells_if base (vpn % 2 == 1) (codes "select V" ++ made.pair vpn (source_edge number vpn) ++ codes " " ++ made.flow number vpn ++ codes "\n")
      (events.Customer (customers.Select (vrf_id (source_edge number vpn) vpn) (record { source = Some (source number vpn); group = Some (group vpn) })) ∷ []) select_told
