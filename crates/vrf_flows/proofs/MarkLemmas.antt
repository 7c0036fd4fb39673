-- The interface of each entry has a mark.
use Rattle.std.proofs.Common.{inl, inr, ◌≡◌, ◌<◌, ◌%◌, ℕ, ◌==◌, ◌||◌, Bool, true, false, List, [], ◌∷◌, length, replicate, set, get_or, refl, ap, subst, ◌∙◌, arith}
use Rattle.std.specs.List.{list_any}
use Rattle.std.proofs.lemmas.Bool.{both_ways, cases_eq, eqb-true}
use Rattle.std.proofs.lemmas.List.{get_or-set_same, get_or-set_other, length-set}
use Rattle.mv_base.specs.declared.ids.IfaceId.{IfaceId}
use Rattle.scenario_defs.specs.declared.event.IfaceEntry.{IfaceEntry}
use Rattle.vrf_flows.specs.Sight.{is_marked, mark_named, marks_of}

-- whether one of the entries is of the interface
abbrev pub is_named : List IfaceEntry → IfaceId → Bool
is_named listed iface = list_any (λ (own : IfaceEntry). own.iface.0 == iface.0) listed

-- the same, of two lists of entries
abbrev pub is_among : List IfaceEntry → List IfaceEntry → IfaceId → Bool
is_among joined shared iface = is_named joined iface || is_named shared iface

-- ---- a mark stays

one_kept : (marks : List Bool) (at n : ℕ) → at < length marks → get_or marks n false ≡ true → get_or (set marks at true) n false ≡ true
one_kept marks at n within h = elim (cases_eq n at) [
  | inl e ↦ ap (λ (k : ℕ). get_or (set marks at true) k false) e ∙ get_or-set_same marks at true false within
  | inr d ↦ get_or-set_other marks at n true false d ∙ h
]

marks_kept : (listed : List IfaceEntry) (marks : List Bool) (n : ℕ) → length marks ≡ 256 → get_or marks n false ≡ true
    → get_or (mark_named marks listed) n false ≡ true
marks_kept [] marks n size h = h
marks_kept (e ∷ es) marks n size h =
    marks_kept es (set marks (e.iface.0 % 256) true) n (length-set marks (e.iface.0 % 256) true ∙ size)
    (one_kept marks (e.iface.0 % 256) n (omega (arith, size)) h)

size_kept : (listed : List IfaceEntry) (marks : List Bool) → length (mark_named marks listed) ≡ length marks
size_kept [] marks = refl
size_kept (e ∷ es) marks = size_kept es (set marks (e.iface.0 % 256) true) ∙ length-set marks (e.iface.0 % 256) true

-- ---- an entry's interface gets one

named_marked : (listed : List IfaceEntry) (marks : List Bool) (iface : IfaceId) → length marks ≡ 256 → is_named listed iface ≡ true
    → get_or (mark_named marks listed) (iface.0 % 256) false ≡ true
named_marked [] marks iface size h = absurd cc
named_marked (e ∷ es) marks iface size h =
    by (e.iface.0 == iface.0) refl h
    (named_marked es (set marks (e.iface.0 % 256) true) iface (length-set marks (e.iface.0 % 256) true ∙ size))
  where
    next : List Bool
    next = set marks (e.iface.0 % 256) true

    sized : length next ≡ 256
    sized = length-set marks (e.iface.0 % 256) true ∙ size

    by : (b : Bool) → (e.iface.0 == iface.0) ≡ b → (b || is_named es iface) ≡ true
        → (is_named es iface ≡ true → get_or (mark_named next es) (iface.0 % 256) false ≡ true)
        → get_or (mark_named next es) (iface.0 % 256) false ≡ true
    by true s found rest =
        marks_kept es next (iface.0 % 256) sized
        (subst (λ (k : ℕ). get_or next (k % 256) false ≡ true) (eqb-true e.iface.0 iface.0 s)
        (get_or-set_same marks (e.iface.0 % 256) true false (omega (arith, size))))
    by false s found rest = rest found

among_marks : (joined shared : List IfaceEntry) (iface : IfaceId) → is_among joined shared iface ≡ true
    → get_or (marks_of joined shared) (iface.0 % 256) false ≡ true
among_marks joined shared iface h = by (is_named joined iface) refl h
  where
    first : List Bool
    first = mark_named (replicate 256 false) joined

    sized : length first ≡ 256
    sized = size_kept joined (replicate 256 false)

    by : (b : Bool) → is_named joined iface ≡ b → (b || is_named shared iface) ≡ true → get_or (mark_named first shared) (iface.0 % 256) false ≡ true
    by true s found = marks_kept shared first (iface.0 % 256) sized (named_marked joined (replicate 256 false) iface refl s)
    by false s found = named_marked shared first iface sized found

-- so an interface without a mark has none of the entries
pub unmarked : (joined shared : List IfaceEntry) (iface : IfaceId) → is_marked (marks_of joined shared) iface ≡ false
    → is_among joined shared iface ≡ false
unmarked joined shared iface out = by (is_among joined shared iface) refl
  where
    by : (b : Bool) → is_among joined shared iface ≡ b → is_among joined shared iface ≡ false
    by true s = absurd (both_ways _ out (among_marks joined shared iface s))
    by false s = s
