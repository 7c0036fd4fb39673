-- The orders of flows, of notes and of Source Active routes.
use Rattle.std.specs.Prelude.{ℕ, Bool, List, [], ◌∷◌, ◌&&◌}
use Rattle.std.specs.Ordering.{nat_cmp}
use Rattle.std.specs.declared.cmp.Ordering.{Ordering}
use Rattle.std.specs.Cmp.Lexicographic.{slice_cmp}
use Rattle.mv_base.specs.Address.{same_addr}
use Rattle.selective_defs.specs.Parts.{addr_key}
use Rattle.vrf_words.specs.declared.tree_defs.flow.Flow.{Flow}
use Rattle.vrf_words.specs.declared.tree_defs.flow.Note.{Note}
use Rattle.vrf_words.specs.declared.tree_defs.flow.ActiveRoute.{ActiveRoute}

-- whether both are one flow
abbrev pub same_flow : Flow → Flow → Bool
same_flow a b = same_addr a.source b.source && same_addr a.group b.group

-- by the parts of a key, each a list of numbers
abbrev pub parts_cmp : List (List ℕ) → List (List ℕ) → Ordering
parts_cmp a b = slice_cmp (slice_cmp nat_cmp) a b

abbrev pub flow_parts : Flow → List (List ℕ)
flow_parts flow = addr_key flow.source ∷ addr_key flow.group ∷ []

abbrev pub flow_cmp : Flow → Flow → Ordering
flow_cmp a b = parts_cmp (flow_parts a) (flow_parts b)

abbrev pub note_parts : Note → List (List ℕ)
note_parts note = (note.iface.0 ∷ []) ∷ flow_parts note.flow

abbrev pub note_cmp : Note → Note → Ordering
note_cmp a b = parts_cmp (note_parts a) (note_parts b)

abbrev pub active_parts : ActiveRoute → List (List ℕ)
active_parts route = (route.peer.0 ∷ []) ∷ route.rd ∷ flow_parts route.flow

abbrev pub active_cmp : ActiveRoute → ActiveRoute → Ordering
active_cmp a b = parts_cmp (active_parts a) (active_parts b)
