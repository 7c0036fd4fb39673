-- What a line of an event says where its words are known: one lemma for each kind of line.
use Rattle.std.proofs.Common.{◌≡◌, ℕ, true, false, nat_le, List, [], ◌∷◌, length, Option, Some, None, refl, ap, ◌∙◌}
use Rattle.std.specs.Prelude.{codes, nat_eq, Ok}
use Rattle.std.specs.List.{slice_get}
use Rattle.std.specs.Cmp.Lexicographic.{pointwise}
use Rattle.std.proofs.lemmas.Option.{same_Some, none-some}
use Rattle.hex.specs.Hex.{decode_pairs}
use Rattle.mv_base.specs.declared.addr.Addr.{Addr}
use Rattle.mv_base.specs.declared.ids.VrfId.{VrfId}
use Rattle.mv_base.specs.declared.ids.SiteId.{SiteId}
use Rattle.mv_base.specs.declared.ids.IfaceId.{IfaceId}
use Rattle.mv_base.specs.AddrText.{addr_of}
use Rattle.mv_base.specs.Number.{is_number}
use Rattle.scenario_defs.specs.declared.scenario.Iface.{Iface}
use Rattle.scenario_defs.specs.declared.event.CustomerEvent.TheVariants as customers
use Rattle.scenario_defs.specs.declared.event.Event.TheVariants as events
use Rattle.scenario_defs.specs.declared.event.JoinEntry.TheVariants.{Source}
use Rattle.line_words.specs.declared.words.Row.{Row}
use Rattle.line_words.specs.Words.{Placed}
use Rattle.line_words.specs.Forms.{is_unicast, is_group, source_at, group_at, number_to, payload_at, same_family}
use Rattle.scenario_lines.specs.declared.scenario_draft.line.Line.TheVariants as says
use Rattle.scenario_lines.specs.scenario_draft.Drafted.{Drafted}
use Rattle.scenario_lines.specs.scenario_draft.Naming.{vrf_at, site_at, iface_at, is_of_iface}
use Rattle.scenario_text.specs.event_lines.EventGrammar.{event_line, event_word, event_words, bare_line}
use Rattle.scenario_text.specs.event_lines.ClockGrammar.{tick_line, tick_words}
use Rattle.scenario_text.specs.event_lines.JoinGrammar.{entry_line, iface_entry, entry_at, source_entry}
use Rattle.scenario_text.specs.event_lines.SelectGrammar.{select_line, select_words, pattern_at, any_or}
use Rattle.scenario_text.specs.event_lines.PayloadGrammar.{send_line, send_head}
use Rattle.scenario_text.specs.Grammar.{words_line}
use Rattle.made_laws.proofs.LineLemmas.{at, in_events, addr_word}

-- The draft takes one event more.
pub record TakesEvents (draft : Drafted) : Type 0 where
  pub begun : draft.begun ≡ true
  pub few : nat_le 200000 (length draft.events) ≡ false

-- ---- lines without a name

pub heal_said : (draft : Drafted) (row : Row) (c : ℕ) → TakesEvents draft
    → words_line draft row (at c (codes "heal") ∷ []) ≡ Ok (says.Event events.Heal)
unfolding event_line event_word event_words bare_line
heal_said draft row c takes = in_events draft row (at c (codes "heal")) [] (says.Event events.Heal) takes.begun (rw takes.few refl)

pub settle_said : (draft : Drafted) (row : Row) (c : ℕ) → TakesEvents draft
    → words_line draft row (at c (codes "settle") ∷ []) ≡ Ok (says.Event events.Settle)
unfolding event_line event_word event_words bare_line
settle_said draft row c takes = in_events draft row (at c (codes "settle")) [] (says.Event events.Settle) takes.begun (rw takes.few refl)

pub drain_said : (draft : Drafted) (row : Row) (c : ℕ) → TakesEvents draft
    → words_line draft row (at c (codes "drain") ∷ []) ≡ Ok (says.Event events.Drain)
unfolding event_line event_word event_words bare_line
drain_said draft row c takes = in_events draft row (at c (codes "drain")) [] (says.Event events.Drain) takes.begun (rw takes.few refl)

pub state_said : (draft : Drafted) (row : Row) (c : ℕ) → TakesEvents draft
    → words_line draft row (at c (codes "state") ∷ []) ≡ Ok (says.Event events.State)
unfolding event_line event_word event_words bare_line
state_said draft row c takes = in_events draft row (at c (codes "state")) [] (says.Event events.State) takes.begun (rw takes.few refl)

pub tick_said : (draft : Drafted) (row : Row) (c d : ℕ) → TakesEvents draft
    → words_line draft row (at c (codes "tick") ∷ at d (codes "3") ∷ []) ≡ Ok (says.Event (events.Tick 3))
unfolding event_line event_word event_words tick_line tick_words number_to is_number
tick_said draft row c d takes =
    in_events draft row (at c (codes "tick")) (at d (codes "3") ∷ []) (says.Event (events.Tick 3)) takes.begun (rw takes.few refl)

-- ---- flows

-- The two texts write source and group of a flow, and the first is no wildcard.
pub record AreOfFlow (a b : List ℕ) (source group : Addr) : Type 0 where
  pub no_star : pointwise nat_eq a (codes "*") ≡ false
  pub no_star_group : pointwise nat_eq b (codes "*") ≡ false
  pub from : addr_of a ≡ Some source
  pub to : addr_of b ≡ Some group
  pub unicast : is_unicast source ≡ true
  pub multicast : is_group group ≡ true
  pub family : same_family source group ≡ true

source_word : (row : Row) (word : Placed) (addr : Addr) → addr_of word.text ≡ Some addr → is_unicast addr ≡ true → source_at row word ≡ Ok addr
unfolding source_at
source_word row word addr h k = rw (addr_word row word addr h, k) refl

group_word : (row : Row) (word : Placed) (addr : Addr) → addr_of word.text ≡ Some addr → is_group addr ≡ true → group_at row word ≡ Ok addr
unfolding group_at
group_word row word addr h k = rw (addr_word row word addr h, k) refl

-- ---- joins

entry_word : (row : Row) (a b : List ℕ) (source group : Addr) (c d : ℕ) → AreOfFlow a b source group
    → entry_at row (at c a) (at d b) ≡ Ok (Source source group)
unfolding entry_at source_entry
entry_word row a b source group c d flow =
    rw (flow.no_star, source_word row (at c a) source flow.from flow.unicast, group_word row (at d b) group flow.to flow.multicast) refl

of_iface : (draft : Drafted) (iface : IfaceId) (found : Iface) (group : Addr) → slice_get draft.scenario.ifaces iface.0 ≡ Some found
    → same_family found.addr group ≡ true → is_of_iface draft iface group ≡ true
of_iface draft iface found group h k = by_found (slice_get draft.scenario.ifaces iface.0) h
  where
    by_found : (o : Option Iface) → o ≡ Some found → elim o [ None ↦ false | Some own ↦ same_family own.addr group ] ≡ true
    by_found (Some own) e = ap (λ (x : Iface). same_family x.addr group) (same_Some own found e) ∙ k
    by_found None e = absurd (none-some found e)

pub join_said : (draft : Drafted) (row : Row) (iface : IfaceId) (found : Iface) (source group : Addr) (name a b : List ℕ) (c d e f : ℕ)
    → TakesEvents draft → AreOfFlow a b source group
    → ((column : ℕ) → iface_at draft row (at column name) ≡ Ok iface) → slice_get draft.scenario.ifaces iface.0 ≡ Some found
    → same_family found.addr group ≡ true
    → words_line draft row (at c (codes "join") ∷ at d name ∷ at e a ∷ at f b ∷ []) ≡ Ok
    (says.Event (events.Customer (customers.Join iface (Source source group))))
unfolding event_line event_word event_words entry_line iface_entry
join_said draft row iface found source group name a b c d e f takes flow named there family =
    in_events draft row (at c (codes "join")) (at d name ∷ at e a ∷ at f b ∷ [])
    (says.Event (events.Customer (customers.Join iface (Source source group)))) takes.begun
    (rw (takes.few, named d, entry_word row a b source group e f flow, flow.family, of_iface draft iface found group there family) refl)

-- ---- datagrams

head_said : (draft : Drafted) (row : Row) (site : SiteId) (source group : Addr) (name a b : List ℕ) (c d e : ℕ) → AreOfFlow a b source group
    → ((column : ℕ) → site_at draft row (at column name) ≡ Ok site)
    → send_head draft row (at c name) (at d a) (at e b) ≡ Ok (record { site = site; source = source; group = group })
unfolding send_head
head_said draft row site source group name a b c d e flow named =
    rw (named c, source_word row (at d a) source flow.from flow.unicast, group_word row (at e b) group flow.to flow.multicast) refl

pub send_said : (draft : Drafted) (row : Row) (site : SiteId) (source group : Addr) (name a b payload octets : List ℕ) (c d e f g : ℕ)
    → TakesEvents draft → AreOfFlow a b source group
    → ((column : ℕ) → site_at draft row (at column name) ≡ Ok site) → payload_at row (at g payload) ≡ Ok octets
    → words_line draft row (at c (codes "send") ∷ at d name ∷ at e a ∷ at f b ∷ at g payload ∷ [])
    ≡ Ok (says.Event (events.Send site source group octets))
unfolding event_line event_word event_words send_line
send_said draft row site source group name a b payload octets c d e f g takes flow named read =
    in_events draft row (at c (codes "send")) (at d name ∷ at e a ∷ at f b ∷ at g payload ∷ []) (says.Event (events.Send site source group octets))
    takes.begun
    (rw (takes.few, head_said draft row site source group name a b d e f flow named, read, flow.family) refl)

pub first_payload : (row : Row) (c : ℕ) → payload_at row (at c (codes "01")) ≡ Ok (1 ∷ [])
unfolding payload_at decode_pairs
first_payload row c = refl

pub second_payload : (row : Row) (c : ℕ) → payload_at row (at c (codes "02")) ≡ Ok (2 ∷ [])
unfolding payload_at decode_pairs
second_payload row c = refl

pub third_payload : (row : Row) (c : ℕ) → payload_at row (at c (codes "03")) ≡ Ok (3 ∷ [])
unfolding payload_at decode_pairs
third_payload row c = refl

-- ---- selections

pattern_word : (row : Row) (a b : List ℕ) (source group : Addr) (c d : ℕ) → AreOfFlow a b source group
    → pattern_at row (at c a) (at d b) ≡ Ok (record { source = Some source; group = Some group })
unfolding pattern_at any_or
pattern_word row a b source group c d flow =
    rw (
      flow.no_star,
      source_word row (at c a) source flow.from flow.unicast,
      flow.no_star_group,
      group_word row (at d b) group flow.to flow.multicast,
    ) refl

pub select_said : (draft : Drafted) (row : Row) (vrf : VrfId) (source group : Addr) (name a b : List ℕ) (c d e f : ℕ) → TakesEvents draft
    → AreOfFlow a b source group
    → ((column : ℕ) → vrf_at draft row (at column name) ≡ Ok vrf)
    → words_line draft row (at c (codes "select") ∷ at d name ∷ at e a ∷ at f b ∷ [])
    ≡ Ok (says.Event (events.Customer (customers.Select vrf (record { source = Some source; group = Some group }))))
unfolding event_line event_word event_words select_line select_words
select_said draft row vrf source group name a b c d e f takes flow named =
    in_events draft row (at c (codes "select")) (at d name ∷ at e a ∷ at f b ∷ [])
    (says.Event (events.Customer (customers.Select vrf (record { source = Some source; group = Some group })))) takes.begun
    (rw (takes.few, named d, pattern_word row a b source group e f flow, flow.family) refl)
