-- The blocks of nodes and links, line by line.
use Rattle.std.proofs.Common.{◌≡◌, ◌≢◌, ℕ, zero, suc, ◌+◌, ◌-◌, ◌%◌, ◌<◌, ◌≤◌, ◌==◌, ◌&&◌, ◌||◌, true, false, List, [], ◌∷◌, ◌++◌, length, get_or, Option, Some, refl, sym, ap, subst, arith, append_assoc}
use Rattle.std.specs.Prelude.{codes, decimal, nat_eq, option_map, count_by, Ok}
use Rattle.std.specs.List.{list_all, slice_get}
use Rattle.std.specs.Cmp.Lexicographic.{pointwise}
use Rattle.std.proofs.lemmas.Bool.{or_from, and_parts, lt-leb, false_from_ne_true, eqb-true, ne_eqb}
use Rattle.std.proofs.lemmas.List.Sums.{count_by-le-length}
use Rattle.mv_base.specs.declared.addr.Addr.TheVariants.{V4}
use Rattle.scenario_defs.specs.declared.scenario.Node.{Node}
use Rattle.line_words.specs.declared.words.Row.{Row}
use Rattle.scenario_lines.specs.declared.scenario_draft.line.Line.TheVariants as says
use Rattle.scenario_lines.specs.scenario_draft.Drafted.{Drafted}
use Rattle.scenario_lines.specs.scenario_draft.Naming.{node_at, is_at, joins}
use Rattle.generator.specs.Made as made
use Rattle.made_laws.specs.MadeScript.{ipv4, edge_id, core_id, edge_node, core_node, ring_link, spur_link}
use Rattle.made_laws.proofs.RowLemmas.{is_word_octet, IsWord, row_text, Reads, reads_none, reads_then, reads_row}
use Rattle.made_laws.proofs.ListLemmas.{thereafter, length_after, any_none, get_after, get_kept}
use Rattle.made_laws.proofs.NumeralLemmas.{numbered_word, numbered_name, edge_dotted, core_dotted, other_name}
use Rattle.made_laws.proofs.LineLemmas.{at, node_word, IsNewNode, edge_said, core_said, IsNewLink, link_said}
use Rattle.made_laws.proofs.Drafts.{core_entry, node_names, made_nodes, made_links, after_edges, after_cores, after_ring, after_spurs, Stands, edge_free, core_free, edge_stands, core_stands}

-- ---- a block

pub reads_each : (draft : ℕ → Drafted) (line : ℕ → ℕ) (text : ℕ → List ℕ) (count : ℕ)
    → ((k : ℕ) → k < count → Reads (draft k) (line k) (text (suc k)) (draft (suc k)) (line (suc k)))
    → Reads (draft zero) (line zero) (made.each text count) (draft count) (line count)
reads_each draft line text zero h = reads_none (draft zero) (line zero)
reads_each draft line text (suc count) h =
    reads_then (draft zero) (draft count) (draft (suc count)) (line zero) (line count) (line (suc count)) (made.each text count) (text (suc count))
    (reads_each draft line text count (λ k w. h k (omega arith))) (h count (omega arith))

pub as_text : (old new : Drafted) (number after : ℕ) (text other : List ℕ) → other ≡ text → Reads old number text new after
    → Reads old number other new after
as_text old new number after text other e h = subst (λ (l : List ℕ). Reads old number l new after) (sym e) h

pub at_lines : (old new : Drafted) (text : List ℕ) (number after other later : ℕ) → number ≡ other → after ≡ later → Reads old number text new after
    → Reads old other text new later
at_lines old new text number after other later a b h =
    subst (λ (n : ℕ). Reads old other text new n) b (subst (λ (n : ℕ). Reads old n text new after) a h)

pub known_word : (word : List ℕ) → 0 < length word → length word ≤ 100 → list_all is_word_octet word ≡ true → IsWord word
known_word word a b c = record { some = a; few = b; plain = c }

-- ---- edges

edge_text : (edge : ℕ) → made.edge_line edge ≡ row_text (codes "edge" ∷ (codes "E" ++ decimal edge) ∷ (codes "192.0.2." ++ decimal edge) ∷ [])
edge_text edge = simp append_assoc

other_octets : (a b c d e : ℕ) → d ≢ e → pointwise nat_eq (a ∷ b ∷ c ∷ d ∷ []) (a ∷ b ∷ c ∷ e ∷ []) ≡ false
other_octets a b c d e differ = other_name (a ∷ b ∷ c ∷ d ∷ []) (a ∷ b ∷ c ∷ e ∷ []) (λ same. differ (ap (λ (l : List ℕ). get_or l 3 0) same))

new_edge : (k : ℕ) → k < 32 → IsNewNode (after_edges k) (edge_id (suc k)) (edge_node (suc k))
new_edge k h =
    let long : length (thereafter [] edge_node k) ≡ k = omega (arith, length_after [] edge_node k) in
    record {
      number = omega (arith, long);
      few = or_from _ _ (lt-leb 64 (length (thereafter [] edge_node k)) (omega (arith, long)))
          (lt-leb 32 (count_by (λ (n : Node). n.edge) (thereafter [] edge_node k))
          (omega (arith, long, count_by-le-length (λ (n : Node). n.edge) (thereafter [] edge_node k))));
      name = numbered_name 69 (suc k) refl (omega arith);
      free = edge_free k h;
      unicast = refl;
      alone = any_none (is_at (ipv4 192 0 2 (suc k))) [] edge_node k refl (λ j w. other_octets 192 0 2 (suc j) (suc k) (λ e. omega (arith, e)));
    }

dotted_addr : (text octets : List ℕ) (o : Option (List ℕ)) → o ≡ Some octets → option_map (λ (l : List ℕ). V4 l) o ≡ Some (V4 octets)
dotted_addr text octets o h = rw h refl

edge_row : (k number : ℕ) → k < 32 → Reads (after_edges k) number (made.edge_line (suc k)) (after_edges (suc k)) (number + 1)
edge_row k number h =
    as_text (after_edges k) (after_edges (suc k)) number (number + 1) _ (made.edge_line (suc k)) (edge_text (suc k))
    (reads_row (after_edges k) number (codes "edge") ((codes "E" ++ decimal (suc k)) ∷ (codes "192.0.2." ++ decimal (suc k)) ∷ [])
    (says.Node (edge_id (suc k)) (edge_node (suc k))) (
      known_word (codes "edge") (omega arith) (omega arith) refl,
      (
        numbered_word (codes "E") (suc k) (omega arith) (omega arith) (omega arith) refl,
        (numbered_word (codes "192.0.2.") (suc k) (omega arith) (omega arith) (omega arith) refl, tt),
      ),
    )
    (omega arith) refl
    (edge_said (after_edges k) _ (edge_id (suc k)) (edge_node (suc k)) _ _ _ (codes "192.0.2." ++ decimal (suc k)) refl refl (new_edge k h)
    (dotted_addr (codes "192.0.2." ++ decimal (suc k)) _ _ (edge_dotted (suc k) (omega arith)))))

pub edges_read : (edges number : ℕ) → edges ≡ 32
    → Reads (after_edges zero) (number + 0) (made.each made.edge_line edges) (after_edges edges) (number + edges)
edges_read edges number all =
    reads_each after_edges (λ k. number + k) made.edge_line edges
    (λ k w. at_lines (after_edges k) (after_edges (suc k)) (made.edge_line (suc k)) (number + k) (number + k + 1) (number + k) (number + suc k)
    refl (omega arith) (edge_row k (number + k) (omega arith)))

-- ---- core nodes

core_text : (core : ℕ) → made.core_line core ≡ row_text (codes "core" ∷ (codes "C" ++ decimal core) ∷ (codes "192.0.3." ++ decimal core) ∷ [])
core_text core = simp append_assoc

new_core : (edges k : ℕ) → edges ≡ 32 → k < 16 → IsNewNode (after_cores edges k) (core_id (suc k)) (core_node (suc k))
new_core edges k all h =
    let long : length (made_nodes edges k) ≡ 32 + k =
    omega (arith, all, length_after [] edge_node edges, length_after (thereafter [] edge_node edges) core_node k) in
    record {
      number = omega (arith, long);
      few = or_from _ _ (lt-leb 64 (length (made_nodes edges k)) (omega (arith, long))) refl;
      name = numbered_name 67 (suc k) refl (omega arith);
      free = core_free edges k h;
      unicast = refl;
      alone = any_none (is_at (ipv4 192 0 3 (suc k))) (thereafter [] edge_node edges) core_node k
          (any_none (is_at (ipv4 192 0 3 (suc k))) [] edge_node edges refl (λ j w. refl))
          (λ j w. other_octets 192 0 3 (suc j) (suc k) (λ e. omega (arith, e)));
    }

core_row : (edges k number : ℕ) → edges ≡ 32 → k < 16
    → Reads (after_cores edges k) number (made.core_line (suc k)) (after_cores edges (suc k)) (number + 1)
core_row edges k number all h =
    as_text (after_cores edges k) (after_cores edges (suc k)) number (number + 1) _ (made.core_line (suc k)) (core_text (suc k))
    (reads_row (after_cores edges k) number (codes "core") ((codes "C" ++ decimal (suc k)) ∷ (codes "192.0.3." ++ decimal (suc k)) ∷ [])
    (says.Node (core_id (suc k)) (core_node (suc k))) (
      known_word (codes "core") (omega arith) (omega arith) refl,
      (
        numbered_word (codes "C") (suc k) (omega arith) (omega arith) (omega arith) refl,
        (numbered_word (codes "192.0.3.") (suc k) (omega arith) (omega arith) (omega arith) refl, tt),
      ),
    )
    (omega arith) refl
    (core_said (after_cores edges k) _ (core_id (suc k)) (core_node (suc k)) _ _ _ (codes "192.0.3." ++ decimal (suc k)) refl refl
    (new_core edges k all h) (dotted_addr (codes "192.0.3." ++ decimal (suc k)) _ _ (core_dotted (suc k) (omega arith)))))

pub cores_read : (edges cores number : ℕ) → edges ≡ 32 → cores ≡ 16
    → Reads (after_cores edges zero) (number + 0) (made.each made.core_line cores) (after_cores edges cores) (number + cores)
cores_read edges cores number all few =
    reads_each (after_cores edges) (λ k. number + k) made.core_line cores
    (λ k w. at_lines (after_cores edges k) (after_cores edges (suc k)) (made.core_line (suc k)) (number + k) (number + k + 1) (number + k)
    (number + suc k) refl (omega arith) (core_row edges k (number + k) all (omega arith)))

-- ---- nodes that are named

core_there : (edges cores k : ℕ) → edges ≡ 32 → k < cores → slice_get (made_nodes edges cores) (suc k + 31) ≡ Some (core_node (suc k))
core_there edges cores k all h =
    get_after (thereafter [] edge_node edges) core_node cores k (suc k + 31) h (omega (arith, all, length_after [] edge_node edges))

pub edge_there : (edges cores k : ℕ) → k < edges → slice_get (made_nodes edges cores) (suc k - 1) ≡ Some (edge_node (suc k))
edge_there edges cores k h =
    get_kept (thereafter [] edge_node edges) core_node cores (suc k - 1) (edge_node (suc k)) (get_after [] edge_node edges k (suc k - 1) h (omega arith))

core_named : (draft : Drafted) (core : ℕ) → 0 < core → core < 17 → Stands draft.names (core_entry core)
    → slice_get draft.scenario.nodes (core + 31) ≡ Some (core_node core) → (row : Row) (column : ℕ)
    → node_at draft row (at column (codes "C" ++ decimal core)) ≡ Ok (core_id core)
core_named draft core some few stands there row column =
    node_word draft row (at column (codes "C" ++ decimal core)) (core_id core) (core_node core) (numbered_name 67 core refl (omega arith)) stands
    there

core_at : (edges cores core : ℕ) (draft : Drafted) → edges ≡ 32 → cores ≡ 16 → 0 < core → core < 17 → draft.names ≡ node_names edges cores
    → draft.scenario.nodes ≡ made_nodes edges cores → (row : Row) (column : ℕ)
    → node_at draft row (at column (codes "C" ++ decimal core)) ≡ Ok (core_id core)
core_at edges cores zero draft all few some small names nodes = absurd (omega arith)
core_at edges cores (suc k) draft all few some small names nodes =
    core_named draft (suc k) some small (subst (λ l. Stands l (core_entry (suc k))) (sym names) (core_stands edges cores k (omega arith) few))
    (subst (λ (l : List Node). slice_get l (suc k + 31) ≡ Some (core_node (suc k))) (sym nodes) (core_there edges cores k all (omega arith)))

-- ---- links

no_join : (a b c d : ℕ) → (a ≡ c → b ≡ d → ⊥) → (a ≡ d → b ≡ c → ⊥) → ((a == c && b == d) || (a == d && b == c)) ≡ false
no_join a b c d h k =
    or_from _ _ (false_from_ne_true (a == c && b == d) (λ e. let p = and_parts (a == c) (b == d) e in h (eqb-true a c p.0) (eqb-true b d p.1)))
    (false_from_ne_true (a == d && b == c) (λ e. let p = and_parts (a == d) (b == c) e in k (eqb-true a d p.0) (eqb-true b c p.1)))

ring_text : (core : ℕ) → made.ring_line core ≡ row_text
    (codes "link" ∷ (codes "C" ++ decimal core) ∷ (codes "C" ++ decimal (core % 16 + 1)) ∷ codes "1" ∷ [])
ring_text core = simp append_assoc

new_ring : (edges cores k : ℕ) → edges ≡ 32 → cores ≡ 16 → k < 16
    → IsNewLink (after_ring edges cores k) (ring_link (suc k)) (codes "C" ++ decimal (suc k)) (codes "C" ++ decimal (suc k % 16 + 1))
new_ring edges cores k all few h = record {
  few = lt-leb 256 (length (thereafter [] ring_link k)) (omega (arith, length_after [] ring_link k));
  from = core_at edges cores (suc k) (after_ring edges cores k) all few (omega arith) (omega arith) refl refl;
  to = core_at edges cores (suc k % 16 + 1) (after_ring edges cores k) all few (omega arith) (omega arith) refl refl;
  two = ne_eqb (suc k + 31) (suc k % 16 + 1 + 31) (λ e. omega (arith, e));
  alone = any_none (joins (core_id (suc k)) (core_id (suc k % 16 + 1))) [] ring_link k refl
      (λ j w. no_join (suc j + 31) (suc j % 16 + 1 + 31) (suc k + 31) (suc k % 16 + 1 + 31) (λ a b. omega (arith, a)) (λ a b. omega (arith, a, b)));
}

ring_row : (edges cores k number : ℕ) → edges ≡ 32 → cores ≡ 16 → k < 16
    → Reads (after_ring edges cores k) number (made.ring_line (suc k)) (after_ring edges cores (suc k)) (number + 1)
ring_row edges cores k number all few h =
    as_text (after_ring edges cores k) (after_ring edges cores (suc k)) number (number + 1) _ (made.ring_line (suc k)) (ring_text (suc k))
    (reads_row (after_ring edges cores k) number (codes "link")
    ((codes "C" ++ decimal (suc k)) ∷ (codes "C" ++ decimal (suc k % 16 + 1)) ∷ codes "1" ∷ []) (says.Link (ring_link (suc k))) (
      known_word (codes "link") (omega arith) (omega arith) refl,
      (
        numbered_word (codes "C") (suc k) (omega arith) (omega arith) (omega arith) refl,
        (
          numbered_word (codes "C") (suc k % 16 + 1) (omega arith) (omega arith) (omega arith) refl,
          (known_word (codes "1") (omega arith) (omega arith) refl, tt),
        ),
      ),
    )
    (omega arith) refl
    (link_said (after_ring edges cores k) _ (ring_link (suc k)) (codes "C" ++ decimal (suc k)) (codes "C" ++ decimal (suc k % 16 + 1)) _ _ _ _ refl
    refl (new_ring edges cores k all few h)))

pub ring_read : (edges cores number : ℕ) → edges ≡ 32 → cores ≡ 16
    → Reads (after_ring edges cores zero) (number + 0) (made.each made.ring_line cores) (after_ring edges cores cores) (number + cores)
ring_read edges cores number all few =
    reads_each (after_ring edges cores) (λ k. number + k) made.ring_line cores
    (λ k w. at_lines (after_ring edges cores k) (after_ring edges cores (suc k)) (made.ring_line (suc k)) (number + k) (number + k + 1)
    (number + k) (number + suc k) refl (omega arith) (ring_row edges cores k (number + k) all few (omega arith)))

spur_text : (edge : ℕ) → made.spur_line edge ≡ row_text
    (codes "link" ∷ (codes "E" ++ decimal edge) ∷ (codes "C" ++ decimal ((edge - 1) % 16 + 1)) ∷ codes "1" ∷ [])
spur_text edge = simp append_assoc

new_spur : (edges cores k : ℕ) → edges ≡ 32 → cores ≡ 16 → k < 32
    → IsNewLink (after_spurs edges cores k) (spur_link (suc k)) (codes "E" ++ decimal (suc k)) (codes "C" ++ decimal ((suc k - 1) % 16 + 1))
new_spur edges cores k all few h = record {
  few = lt-leb 256 (length (made_links cores k))
      (omega (arith, few, length_after [] ring_link cores, length_after (thereafter [] ring_link cores) spur_link k));
  from = λ row column. node_word (after_spurs edges cores k) row (at column (codes "E" ++ decimal (suc k))) (edge_id (suc k)) (edge_node (suc k))
      (numbered_name 69 (suc k) refl (omega arith)) (edge_stands edges cores k (omega arith) all) (edge_there edges cores k (omega arith));
  to = core_at edges cores ((suc k - 1) % 16 + 1) (after_spurs edges cores k) all few (omega arith) (omega arith) refl refl;
  two = ne_eqb (suc k - 1) ((suc k - 1) % 16 + 1 + 31) (λ e. omega (arith, e));
  alone = any_none (joins (edge_id (suc k)) (core_id ((suc k - 1) % 16 + 1))) (thereafter [] ring_link cores) spur_link k
      (any_none (joins (edge_id (suc k)) (core_id ((suc k - 1) % 16 + 1))) [] ring_link cores refl
      (λ j w. no_join (suc j + 31) (suc j % 16 + 1 + 31) (suc k - 1) ((suc k - 1) % 16 + 1 + 31) (λ a b. omega (arith, a)) (λ a b. omega (arith, b))))
      (λ j w. no_join (suc j - 1) ((suc j - 1) % 16 + 1 + 31) (suc k - 1) ((suc k - 1) % 16 + 1 + 31) (λ a b. omega (arith, a))
      (λ a b. omega (arith, a)));
}

spur_row : (edges cores k number : ℕ) → edges ≡ 32 → cores ≡ 16 → k < 32
    → Reads (after_spurs edges cores k) number (made.spur_line (suc k)) (after_spurs edges cores (suc k)) (number + 1)
spur_row edges cores k number all few h =
    as_text (after_spurs edges cores k) (after_spurs edges cores (suc k)) number (number + 1) _ (made.spur_line (suc k)) (spur_text (suc k))
    (reads_row (after_spurs edges cores k) number (codes "link")
    ((codes "E" ++ decimal (suc k)) ∷ (codes "C" ++ decimal ((suc k - 1) % 16 + 1)) ∷ codes "1" ∷ []) (says.Link (spur_link (suc k))) (
      known_word (codes "link") (omega arith) (omega arith) refl,
      (
        numbered_word (codes "E") (suc k) (omega arith) (omega arith) (omega arith) refl,
        (
          numbered_word (codes "C") ((suc k - 1) % 16 + 1) (omega arith) (omega arith) (omega arith) refl,
          (known_word (codes "1") (omega arith) (omega arith) refl, tt),
        ),
      ),
    )
    (omega arith) refl
    (link_said (after_spurs edges cores k) _ (spur_link (suc k)) (codes "E" ++ decimal (suc k)) (codes "C" ++ decimal ((suc k - 1) % 16 + 1)) _ _ _ _
    refl refl (new_spur edges cores k all few h)))

pub spurs_read : (edges cores number : ℕ) → edges ≡ 32 → cores ≡ 16
    → Reads (after_spurs edges cores zero) (number + 0) (made.each made.spur_line edges) (after_spurs edges cores edges) (number + edges)
spurs_read edges cores number all few =
    reads_each (after_spurs edges cores) (λ k. number + k) made.spur_line edges
    (λ k w. at_lines (after_spurs edges cores k) (after_spurs edges cores (suc k)) (made.spur_line (suc k)) (number + k) (number + k + 1)
    (number + k) (number + suc k) refl (omega arith) (spur_row edges cores k (number + k) all few (omega arith)))
