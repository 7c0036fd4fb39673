-- The whole text, block by block. How many edges, core nodes and VPNs there are is given by equations, so that no block is written out.
use Rattle.std.proofs.Common.{◌≡◌, ℕ, zero, suc, ◌+◌, ◌*◌, ◌<◌, ◌≤◌, Bool, true, false, cond, List, [], ◌∷◌, ◌++◌, length, refl, sym, ap, subst, ◌∙◌, arith, append-nil, length-append}
use Rattle.std.specs.Prelude.{codes, nat_eq, Ok}
use Rattle.std.specs.Str.Lines.{lines}
use Rattle.std.specs.Cmp.Lexicographic.{pointwise}
use Rattle.scenario_defs.specs.declared.event.Event.{Event}
use Rattle.scenario_defs.specs.declared.event.Event.TheVariants as events
use Rattle.scenario_defs.specs.declared.scenario.Scenario.{Scenario}
use Rattle.scenario_defs.specs.declared.scenario.Thing.TheVariants as things
use Rattle.scenario_lines.specs.declared.scenario_draft.line.Line.TheVariants as says
use Rattle.scenario_lines.specs.scenario_draft.Drafted.{Drafted}
use Rattle.scenario_lines.specs.scenario_draft.Adding.{empty_draft}
use Rattle.line_words.specs.Lines.{row_of}
use Rattle.scenario_text.specs.Grammar.{script_at, script_of}
use Rattle.scenario_text.specs.Faults.{Says}
use Rattle.scenario_text.proofs.FaultsLemmas.{accepts, short_text}
use Rattle.generator.specs.Made as made
use Rattle.made_laws.specs.MadeScript.{each, all, name_at, vrf_id, site_id, iface_id, edge_node, core_node, ring_link, spur_link, vrf, site, iface, join, send, selection, from_line, made_scenario, made_events, made_script}
use Rattle.made_laws.proofs.RowLemmas.{Reads, reads_then, reads_row}
use Rattle.made_laws.proofs.ListLemmas.{thereafter, after_all, rows_each, length_after, get_rows}
use Rattle.made_laws.proofs.LineLemmas.{events_said}
use Rattle.made_laws.proofs.EventLines.{first_payload, second_payload, third_payload}
use Rattle.made_laws.proofs.Drafts.{vrf_entry, site_entry, iface_entry, node_names, made_nodes, made_links, after_edges, after_cores, after_ring, after_spurs, after_vpns, Stands, three_stand, edges_later}
use Rattle.made_laws.proofs.NodeBlocks.{at_lines, known_word, edges_read, cores_read, ring_read, spurs_read}
use Rattle.made_laws.proofs.VpnBlocks.{vpns_read}
use Rattle.made_laws.proofs.Connected.{connected}
use Rattle.made_laws.proofs.EventBlocks.{telling, Tells, HasThings, tells_then, tells_each, heal_told, settle_told, drain_told, state_told, tick_told, join_line_told, send_told, select_line_told}

-- What holds of numbers from 1 on.
from_one : (P : ℕ → ℕ → Type 0) → ((e v : ℕ) → e < 32 → v < 8 → P (suc e) (suc v)) → (edge vpn : ℕ) → 0 < edge → edge < 33 → 0 < vpn → vpn < 9
    → P edge vpn
from_one P h zero vpn a b c d = absurd (omega arith)
from_one P h (suc e) zero a b c d = absurd (omega arith)
from_one P h (suc e) (suc v) a b c d = h e v (omega arith) (omega arith)

-- ---- how many events there are

few_one : {A : Type 0} (of : ℕ → List A) (count : ℕ) → ((k : ℕ) → length (of k) ≤ 1) → length (each of count) ≤ count
few_one of zero h = omega arith
few_one of (suc count) h = omega (arith, few_one of count h, h (suc count), length-append (each of count) (of (suc count)))

few_rows : {A : Type 0} (of : ℕ → List A) (count : ℕ) → ((k : ℕ) → length (of k) ≤ 32) → length (each of count) ≤ 32 * count
few_rows of zero h = omega arith
few_rows of (suc count) h = omega (arith, few_rows of count h, h (suc count), length-append (each of count) (of (suc count)))

at_most_one : (b : Bool) (event : Event) → length (cond b (event ∷ []) []) ≤ 1
at_most_one true event = omega arith
at_most_one false event = omega arith

one_of_all : (of : ℕ → Event) (count : ℕ) → length (all of count) ≤ count
one_of_all of count = few_one (λ number. of number ∷ []) count (λ k. omega arith)

-- ---- texts and events, by how many edges, core nodes and VPNs there are

abbrev scenario_lines : ℕ → ℕ → ℕ → List ℕ
scenario_lines edges cores vpns =
    made.each made.edge_line edges ++ made.each made.core_line cores ++ made.each made.ring_line cores ++ made.each made.spur_line edges
    ++ made.each (λ edge. made.each (made.attachment edge) vpns) edges

abbrev first_lines : ℕ → ℕ → ℕ → List ℕ
first_lines edges vpns number =
    codes "events\nheal\nsettle\ntick 3\nsettle\n" ++ made.each (λ vpn. made.each (made.join_line number vpn) edges) vpns
    ++ codes "settle\nstate\n" ++ made.each (made.send_line number (codes "01")) vpns ++ codes "drain\n"

abbrev last_lines : ℕ → ℕ → List ℕ
last_lines vpns number =
    made.each (made.select_line number) vpns ++ codes "settle\nstate\n" ++ made.each (made.send_line number (codes "02")) vpns
    ++ codes "drain\ntick 3\nsettle\nstate\n" ++ made.each (made.send_line number (codes "03")) vpns ++ codes "drain\nstate\n"

abbrev four : List Event
four = events.Heal ∷ events.Settle ∷ events.Tick 3 ∷ events.Settle ∷ []

abbrev first_told : ℕ → ℕ → ℕ → List Event
first_told edges vpns number =
    four ++ each (λ vpn. each (join number vpn) edges) vpns ++ (events.Settle ∷ events.State ∷ []) ++ all (send number 1) vpns ++ (events.Drain ∷ [])

abbrev last_told : ℕ → ℕ → List Event
last_told vpns number =
    each (selection number) vpns ++ (events.Settle ∷ events.State ∷ []) ++ all (send number 2) vpns
    ++ (events.Drain ∷ events.Tick 3 ∷ events.Settle ∷ events.State ∷ []) ++ all (send number 3) vpns ++ (events.Drain ∷ events.State ∷ [])

abbrev scenario_said : ℕ → ℕ → ℕ → Scenario
scenario_said edges cores vpns = record {
  life = 2;
  delay = 3;
  labels = 4096;
  system = 65000;
  nodes = all edge_node edges ++ all core_node cores;
  links = all ring_link cores ++ all spur_link edges;
  vrfs = each (λ edge. all (vrf edge) vpns) edges;
  sites = each (λ edge. all (site edge) vpns) edges;
  ifaces = each (λ edge. all (iface edge) vpns) edges;
}

-- ---- a text that is read to its end

reads_script : (text : List ℕ) (new : Drafted) (after : ℕ) → Reads empty_draft 1 text new after → new.begun ≡ true → after ≤ 4000
    → script_of text ≡ Ok (script_at new after)
reads_script text new after reads begun few =
    let cut : lines text ≡ reads.rows = ap lines (sym (append-nil text)) ∙ reads.split [] ∙ append-nil reads.rows in
    let end : after ≡ 1 + length (lines text) = omega (arith, reads.count, ap length cut) in
    short_text text (omega (arith, reads.short, reads.count, few))
    ∙ accepts empty_draft 1 (lines text) (script_at new after) (record {
      draft = new;
      says = subst (λ (l : List (List ℕ)). Says empty_draft 1 l new) (sym cut) reads.says;
      begun = begun;
      told = ap (λ (n : ℕ). script_at new n) end;
    })

module _ (edges cores vpns : ℕ) (all_edges : edges ≡ 32) (all_cores : cores ≡ 16) (all_vpns : vpns ≡ 8) where
  abbrev base : Drafted
  base = after_vpns edges cores vpns edges zero

  -- ---- the scenario

  scenario_read : Reads empty_draft 1 (scenario_lines edges cores vpns) base 865
  scenario_read =
      reads_then empty_draft (after_spurs edges cores edges) base 1 97 865
      (made.each made.edge_line edges ++ made.each made.core_line cores ++ made.each made.ring_line cores ++ made.each made.spur_line edges)
      (made.each (λ edge. made.each (made.attachment edge) vpns) edges)
      (reads_then empty_draft (after_ring edges cores cores) (after_spurs edges cores edges) 1 65 97
      (made.each made.edge_line edges ++ made.each made.core_line cores ++ made.each made.ring_line cores) (made.each made.spur_line edges)
      (reads_then empty_draft (after_cores edges cores) (after_ring edges cores cores) 1 49 65
      (made.each made.edge_line edges ++ made.each made.core_line cores) (made.each made.ring_line cores)
      (reads_then empty_draft (after_edges edges) (after_cores edges cores) 1 33 49 (made.each made.edge_line edges)
      (made.each made.core_line cores)
      (at_lines empty_draft (after_edges edges) (made.each made.edge_line edges) (1 + 0) (1 + edges) 1 33 refl (omega (arith, all_edges))
      (edges_read edges 1 all_edges))
      (at_lines (after_edges edges) (after_cores edges cores) (made.each made.core_line cores) (33 + 0) (33 + cores) 33 49 refl
      (omega (arith, all_cores)) (cores_read edges cores 33 all_edges all_cores)))
      (at_lines (after_cores edges cores) (after_ring edges cores cores) (made.each made.ring_line cores) (49 + 0) (49 + cores) 49 65 refl
      (omega (arith, all_cores)) (ring_read edges cores 49 all_edges all_cores)))
      (at_lines (after_ring edges cores cores) (after_spurs edges cores edges) (made.each made.spur_line edges) (65 + 0) (65 + edges) 65 97 refl
      (omega (arith, all_edges)) (spurs_read edges cores 65 all_edges all_cores)))
      (at_lines (after_spurs edges cores edges) base (made.each (λ edge. made.each (made.attachment edge) vpns) edges) (97 + 0) (97 + 24 * edges) 97
      865 refl (omega (arith, all_edges)) (vpns_read edges cores vpns 97 all_edges all_vpns))

  forty_eight : length (made_nodes edges cores) ≡ 48
  forty_eight = omega (arith, all_edges, all_cores, length_after [] edge_node edges, length_after (thereafter [] edge_node edges) core_node cores)

  begun_read : Reads base 865 (codes "events\n") (telling base []) 866
  begun_read =
      reads_row base 865 (codes "events") [] says.Events (known_word (codes "events") (omega arith) (omega arith) refl, tt) (omega arith) refl
      (events_said base (row_of 865 (codes "events")) 1 refl
      (connected edges cores all_edges all_cores (length (made_nodes edges cores)) forty_eight))

  has_things : HasThings base
  has_things = record {
    vrf_named =
        from_one (λ edge vpn. Stands base.names (vrf_entry edge vpn))
        (λ e v h k. edges_later (pointwise nat_eq (name_at (codes "V") (suc e) (suc v))) vpns (node_names edges cores) edges e v
        (things.Vrf (vrf_id (suc e) (suc v))) (omega arith) (omega arith) (three_stand edges cores vpns e v all_vpns h k).0);
    site_named =
        from_one (λ edge vpn. Stands base.names (site_entry edge vpn))
        (λ e v h k. edges_later (pointwise nat_eq (name_at (codes "S") (suc e) (suc v))) vpns (node_names edges cores) edges e v
        (things.Site (site_id (suc e) (suc v))) (omega arith) (omega arith) (three_stand edges cores vpns e v all_vpns h k).1);
    iface_named =
        from_one (λ edge vpn. Stands base.names (iface_entry edge vpn))
        (λ e v h k. edges_later (pointwise nat_eq (name_at (codes "I") (suc e) (suc v))) vpns (node_names edges cores) edges e v
        (things.Iface (iface_id (suc e) (suc v))) (omega arith) (omega arith) (three_stand edges cores vpns e v all_vpns h k).2);
    vrf_there = from_one _ (λ e v h k. get_rows vpns vrf edges e v _ all_vpns (omega arith) (omega arith) (omega arith));
    site_there = from_one _ (λ e v h k. get_rows vpns site edges e v _ all_vpns (omega arith) (omega arith) (omega arith));
    iface_there = from_one _ (λ e v h k. get_rows vpns iface edges e v _ all_vpns (omega arith) (omega arith) (omega arith));
  }

  -- ---- the events

  joins_told : (number : ℕ) → Tells base (made.each (λ vpn. made.each (made.join_line number vpn) edges) vpns)
      (each (λ vpn. each (join number vpn) edges) vpns)
  joins_told number =
      tells_each base (λ vpn. made.each (made.join_line number vpn) edges) (λ vpn. each (join number vpn) edges) vpns
      (λ k w. tells_each base (made.join_line number (suc k)) (join number (suc k)) edges
      (λ j u. join_line_told base has_things (suc j) (suc k) (omega arith) (omega arith) (omega arith) (omega arith) number))

  sends_told : (number : ℕ) (payload : List ℕ) (octet : ℕ)
      → ((k : ℕ) → k < vpns → Tells base (made.send_line number payload (suc k)) (send number octet (suc k) ∷ []))
      → Tells base (made.each (made.send_line number payload) vpns) (all (send number octet) vpns)
  sends_told number payload octet h = tells_each base (made.send_line number payload) (λ vpn. send number octet vpn ∷ []) vpns h

  first_sends : (number : ℕ) → Tells base (made.each (made.send_line number (codes "01")) vpns) (all (send number 1) vpns)
  first_sends number =
      sends_told number (codes "01") 1 (λ k w. send_told base has_things number (suc k) (omega arith) (omega arith) (codes "01") 1
      (known_word (codes "01") (omega arith) (omega arith) refl) first_payload)

  second_sends : (number : ℕ) → Tells base (made.each (made.send_line number (codes "02")) vpns) (all (send number 2) vpns)
  second_sends number =
      sends_told number (codes "02") 2 (λ k w. send_told base has_things number (suc k) (omega arith) (omega arith) (codes "02") 2
      (known_word (codes "02") (omega arith) (omega arith) refl) second_payload)

  third_sends : (number : ℕ) → Tells base (made.each (made.send_line number (codes "03")) vpns) (all (send number 3) vpns)
  third_sends number =
      sends_told number (codes "03") 3 (λ k w. send_told base has_things number (suc k) (omega arith) (omega arith) (codes "03") 3
      (known_word (codes "03") (omega arith) (omega arith) refl) third_payload)

  selects_told : (number : ℕ) → Tells base (made.each (made.select_line number) vpns) (each (selection number) vpns)
  selects_told number =
      tells_each base (made.select_line number) (selection number) vpns
      (λ k w. select_line_told base has_things number (suc k) (omega arith) (omega arith))

  two_told : Tells base (codes "settle\nstate\n") (events.Settle ∷ events.State ∷ [])
  two_told = tells_then base (codes "settle\n") (codes "state\n") (events.Settle ∷ []) (events.State ∷ []) (settle_told base) (state_told base)

  four_told : Tells base (codes "heal\nsettle\ntick 3\nsettle\n") four
  four_told =
      tells_then base (codes "heal\nsettle\n") (codes "tick 3\nsettle\n") (events.Heal ∷ events.Settle ∷ []) (events.Tick 3 ∷ events.Settle ∷ [])
      (tells_then base (codes "heal\n") (codes "settle\n") (events.Heal ∷ []) (events.Settle ∷ []) (heal_told base) (settle_told base))
      (tells_then base (codes "tick 3\n") (codes "settle\n") (events.Tick 3 ∷ []) (events.Settle ∷ []) (tick_told base) (settle_told base))

  wait_told : Tells base (codes "drain\ntick 3\nsettle\nstate\n") (events.Drain ∷ events.Tick 3 ∷ events.Settle ∷ events.State ∷ [])
  wait_told =
      tells_then base (codes "drain\ntick 3\n") (codes "settle\nstate\n") (events.Drain ∷ events.Tick 3 ∷ []) (events.Settle ∷ events.State ∷ [])
      (tells_then base (codes "drain\n") (codes "tick 3\n") (events.Drain ∷ []) (events.Tick 3 ∷ []) (drain_told base) (tick_told base)) two_told

  end_told : Tells base (codes "drain\nstate\n") (events.Drain ∷ events.State ∷ [])
  end_told = tells_then base (codes "drain\n") (codes "state\n") (events.Drain ∷ []) (events.State ∷ []) (drain_told base) (state_told base)

  last_tells : (number : ℕ) → Tells base (last_lines vpns number) (last_told vpns number)
  last_tells number =
      tells_then base _ (codes "drain\nstate\n") _ (events.Drain ∷ events.State ∷ [])
      (tells_then base _ (made.each (made.send_line number (codes "03")) vpns) _ (all (send number 3) vpns)
      (tells_then base _ (codes "drain\ntick 3\nsettle\nstate\n") _ (events.Drain ∷ events.Tick 3 ∷ events.Settle ∷ events.State ∷ [])
      (tells_then base _ (made.each (made.send_line number (codes "02")) vpns) _ (all (send number 2) vpns)
      (tells_then base (made.each (made.select_line number) vpns) (codes "settle\nstate\n") (each (selection number) vpns)
      (events.Settle ∷ events.State ∷ []) (selects_told number) two_told)
      (second_sends number)) wait_told) (third_sends number)) end_told

  -- ---- lengths

  few_joins : (number : ℕ) → length (each (λ vpn. each (join number vpn) edges) vpns) ≤ 256
  few_joins number =
      omega (
        arith,
        all_vpns,
        few_rows (λ vpn. each (join number vpn) edges) vpns
            (λ k. omega (arith, all_edges, few_one (join number k) edges (λ j. at_most_one _ _))),
      )

  few_selections : (number : ℕ) → length (each (selection number) vpns) ≤ 8
  few_selections number = omega (arith, all_vpns, few_one (selection number) vpns (λ k. at_most_one _ _))

  few_sends : (number octet : ℕ) → length (all (send number octet) vpns) ≤ 8
  few_sends number octet = omega (arith, all_vpns, one_of_all (send number octet) vpns)

  few_first : (number : ℕ) → length (first_told edges vpns number) ≤ 300
  few_first number =
      omega (
        arith,
        few_joins number,
        few_sends number 1,
        length-append four (each (λ vpn. each (join number vpn) edges) vpns),
        length-append (four ++ each (λ vpn. each (join number vpn) edges) vpns) (events.Settle ∷ events.State ∷ []),
        length-append (four ++ each (λ vpn. each (join number vpn) edges) vpns ++ (events.Settle ∷ events.State ∷ [])) (all (send number 1) vpns),
        length-append (four ++ each (λ vpn. each (join number vpn) edges) vpns ++ (events.Settle ∷ events.State ∷ []) ++ all (send number 1) vpns)
            (events.Drain ∷ []),
      )

  few_last : (number : ℕ) → length (last_told vpns number) ≤ 100
  few_last number =
      omega (
        arith,
        few_selections number,
        few_sends number 2,
        few_sends number 3,
        length-append (each (selection number) vpns) (events.Settle ∷ events.State ∷ []),
        length-append (each (selection number) vpns ++ (events.Settle ∷ events.State ∷ [])) (all (send number 2) vpns),
        length-append (each (selection number) vpns ++ (events.Settle ∷ events.State ∷ []) ++ all (send number 2) vpns)
            (events.Drain ∷ events.Tick 3 ∷ events.Settle ∷ events.State ∷ []),
        length-append (each (selection number) vpns ++ (events.Settle ∷ events.State ∷ []) ++ all (send number 2) vpns
            ++ (events.Drain ∷ events.Tick 3 ∷ events.Settle ∷ events.State ∷ [])) (all (send number 3) vpns),
        length-append (each (selection number) vpns ++ (events.Settle ∷ events.State ∷ []) ++ all (send number 2) vpns
            ++ (events.Drain ∷ events.Tick 3 ∷ events.Settle ∷ events.State ∷ []) ++ all (send number 3) vpns) (events.Drain ∷ events.State ∷ []),
      )

  -- ---- the whole

  first_tells : (number : ℕ) → Tells base (codes "heal\nsettle\ntick 3\nsettle\n"
      ++ made.each (λ vpn. made.each (made.join_line number vpn) edges) vpns ++ codes "settle\nstate\n"
      ++ made.each (made.send_line number (codes "01")) vpns ++ codes "drain\n") (first_told edges vpns number)
  first_tells number =
      tells_then base _ (codes "drain\n") _ (events.Drain ∷ [])
      (tells_then base _ (made.each (made.send_line number (codes "01")) vpns) _ (all (send number 1) vpns)
      (tells_then base _ (codes "settle\nstate\n") _ (events.Settle ∷ events.State ∷ [])
      (tells_then base (codes "heal\nsettle\ntick 3\nsettle\n") (made.each (λ vpn. made.each (made.join_line number vpn) edges) vpns) four
      (each (λ vpn. each (join number vpn) edges) vpns) four_told (joins_told number))
      two_told) (first_sends number)) (drain_told base)

  first_read : (number : ℕ) → Reads base 865 (first_lines edges vpns number) (telling base (first_told edges vpns number))
      (866 + length (first_told edges vpns number))
  first_read number =
      reads_then base (telling base []) (telling base (first_told edges vpns number)) 865 866 (866 + length (first_told edges vpns number))
      (codes "events\n")
      (codes "heal\nsettle\ntick 3\nsettle\n" ++ made.each (λ vpn. made.each (made.join_line number vpn) edges) vpns ++ codes "settle\nstate\n"
      ++ made.each (made.send_line number (codes "01")) vpns ++ codes "drain\n")
      begun_read (first_tells number [] (omega (arith, few_first number)))

  all_read : (number : ℕ) → Reads empty_draft 1 (scenario_lines edges cores vpns ++ first_lines edges vpns number ++ last_lines vpns number)
      (telling base (first_told edges vpns number ++ last_told vpns number)) (866 + length (first_told edges vpns number ++ last_told vpns number))
  all_read number =
      reads_then empty_draft (telling base (first_told edges vpns number)) (telling base (first_told edges vpns number ++ last_told vpns number)) 1
      (866 + length (first_told edges vpns number))
      (866 + length (first_told edges vpns number ++ last_told vpns number)) (scenario_lines edges cores vpns ++ first_lines edges vpns number)
      (last_lines vpns number)
      (reads_then empty_draft base (telling base (first_told edges vpns number)) 1 865 (866 + length (first_told edges vpns number))
      (scenario_lines edges cores vpns) (first_lines edges vpns number) scenario_read (first_read number))
      (last_tells number (first_told edges vpns number) (omega (arith, few_first number, few_last number)))

  nodes_said : made_nodes edges cores ≡ all edge_node edges ++ all core_node cores
  nodes_said = after_all (thereafter [] edge_node edges) core_node cores ∙ ap (λ l. l ++ all core_node cores) (after_all [] edge_node edges)

  links_said : made_links cores edges ≡ all ring_link cores ++ all spur_link edges
  links_said = after_all (thereafter [] ring_link cores) spur_link edges ∙ ap (λ l. l ++ all spur_link edges) (after_all [] ring_link cores)

  scenario_is : base.scenario ≡ scenario_said edges cores vpns
  scenario_is = λ i. record {
    life = 2;
    delay = 3;
    labels = 4096;
    system = 65000;
    nodes = nodes_said i;
    links = links_said i;
    vrfs = rows_each vpns vrf edges i;
    sites = rows_each vpns site edges i;
    ifaces = rows_each vpns iface edges i;
  }

  read_whole : (number : ℕ) → script_of (scenario_lines edges cores vpns ++ first_lines edges vpns number ++ last_lines vpns number)
      ≡ Ok (record {
        scenario = scenario_said edges cores vpns;
        events = from_line 866 (first_told edges vpns number ++ last_told vpns number);
        end =
            866 + length (first_told edges vpns number ++ last_told vpns number);
      })
  read_whole number =
      reads_script (scenario_lines edges cores vpns ++ first_lines edges vpns number ++ last_lines vpns number)
      (telling base (first_told edges vpns number ++ last_told vpns number))
      (866 + length (first_told edges vpns number ++ last_told vpns number))
      (all_read number) refl (omega (arith, few_first number, few_last number, length-append (first_told edges vpns number) (last_told vpns number)))
      ∙ ap (λ (s : Scenario). Ok (record {
        scenario = s;
        events = from_line 866 (first_told edges vpns number ++ last_told vpns number);
        end =
            866 + length (first_told edges vpns number ++ last_told vpns number);
      })) scenario_is

-- The text of each number, as it is defined.
pub made_read : (number : ℕ) → script_of (made.made number) ≡ Ok (made_script number)
unfolding made.made made_script made_scenario made_events
made_read number = read_whole 32 16 8 refl refl refl number
