-- A field that is written, with the space after it, is read as what it says.
use Rattle.std.proofs.Common.{◌≡◌, ℕ, ◌+◌, ◌^◌, ◌<◌, ◌==◌, true, not, List, [], ◌∷◌, ◌++◌, length, take, drop, refl, ap₂, ◌∙◌, arith, Some, take_at, drop_at, append_assoc, length-append}
use Rattle.std.specs.Prelude.{position, decimal}
use Rattle.std.specs.List.{prefix_len, position_or_len}
use Rattle.std.proofs.lemmas.Bool.{lt-ltb}
use Rattle.std.proofs.lemmas.Fmt.{decimal_is_IsNumeral}
use Rattle.mv_base.specs.declared.ids.NodeId.{NodeId}
use Rattle.mv_base.specs.declared.ids.IfaceId.{IfaceId}
use Rattle.mv_base.specs.Number.{cut_of}
use Rattle.mv_base.proofs.CutLemmas.{cut_digits}
use Rattle.scenario_defs.specs.declared.event.Kind.{Kind}
use Rattle.scenario_defs.specs.declared.event.Kind.TheVariants as kinds
use Rattle.scenario_defs.specs.declared.scenario.Scenario.{Scenario}
use Rattle.scenario_defs.specs.Rules.{Rules}
use Rattle.scenario_defs.specs.Text.{node_name, iface_name, kind_word}
use Rattle.report_text.specs.report_lines.Fields.{number_field, short_field, ttl_field, node_field, iface_field, kind_field}
use Rattle.report_text.proofs.report_lines.NumberLemmas.{goes, both_parts, number_back, short_back, ttl_back}
use Rattle.report_text.proofs.report_lines.NameLemmas.{has_no_space, node_back, iface_back}
use Rattle.report_text.proofs.report_lines.WordLemmas.{kind_back}

-- ---- the cut at a space

before_space : (front rest : List ℕ) → has_no_space front ≡ true → prefix_len (λ octet. not (octet == 32)) (front ++ 32 ∷ rest) ≡ length front
before_space [] rest h = refl
before_space (c ∷ front) rest h =
    let p = both_parts (not (c == 32)) (has_no_space front) h in
    rw (p.0, before_space front rest p.1) (omega arith)

space_place : (front rest : List ℕ) → has_no_space front ≡ true → position (λ octet. octet == 32) (front ++ 32 ∷ rest) ≡ Some (length front)
space_place front rest h =
    let within : length front < length (front ++ 32 ∷ rest) = rw length-append (omega arith) in
    rw (position, position_or_len, before_space front rest h, lt-ltb _ _ within) refl

cut_there : (text : List ℕ) (place : ℕ) → position (λ octet. octet == 32) text ≡ Some place
    → cut_of 32 text ≡ Some (take place text, drop (place + 1) text)
cut_there text place found = rw (cut_of, found) refl

-- A word without a space is cut at the space after it.
pub cut_word : (front rest : List ℕ) → has_no_space front ≡ true → cut_of 32 (front ++ 32 ∷ rest) ≡ Some (front, rest)
cut_word front rest h =
    let thereafter : drop (length front + 1) (front ++ 32 ∷ rest) ≡ rest =
    rw (← append_assoc front (32 ∷ []) rest) (drop_at (front ++ 32 ∷ []) rest (length front + 1) (length-append front (32 ∷ []))) in
    let before : take (length front) (front ++ 32 ∷ rest) ≡ front = take_at front (32 ∷ rest) (length front) refl in
    cut_there (front ++ 32 ∷ rest) (length front) (space_place front rest h) ∙ ap₂ (λ (a b : List ℕ). Some (a, b)) before thereafter

-- ---- fields

cut_number : (n : ℕ) (rest : List ℕ) → n < 2 ^ 64 → cut_of 32 (decimal n ++ 32 ∷ rest) ≡ Some (decimal n, rest)
cut_number n rest small = cut_digits 10 32 (decimal n) rest (decimal_is_IsNumeral n small).0.1 (omega arith)

pub number_read : (n : ℕ) (rest : List ℕ) → n < 2 ^ 64 → number_field (decimal n ++ 32 ∷ rest) ≡ Some (n, rest)
unfolding number_field
number_read n rest small = goes _ (cut_number n rest small) (goes _ (number_back n small) refl)

pub short_read : (n : ℕ) (rest : List ℕ) → n < 2 ^ 32 → short_field (decimal n ++ 32 ∷ rest) ≡ Some (n, rest)
unfolding short_field
short_read n rest small = goes _ (cut_number n rest (omega arith)) (goes _ (short_back n small) refl)

pub ttl_read : (n : ℕ) (rest : List ℕ) → n < 2 ^ 8 → ttl_field (decimal n ++ 32 ∷ rest) ≡ Some (n, rest)
unfolding ttl_field
ttl_read n rest small = goes _ (cut_number n rest (omega arith)) (goes _ (ttl_back n small) refl)

pub node_read : (scenario : Scenario) → Rules scenario → (node : NodeId) (rest : List ℕ) → node.0 < length scenario.nodes
    → node_field scenario (node_name scenario node ++ 32 ∷ rest) ≡ Some (node, rest)
unfolding node_field
node_read scenario rules node rest within =
    let known = node_back scenario rules node within in
    goes _ (cut_word (node_name scenario node) rest known.no_space) (goes _ known.names refl)

pub iface_read : (scenario : Scenario) → Rules scenario → (iface : IfaceId) (rest : List ℕ) → iface.0 < length scenario.ifaces
    → iface_field scenario (iface_name scenario iface ++ 32 ∷ rest) ≡ Some (iface, rest)
unfolding iface_field
iface_read scenario rules iface rest within =
    let known = iface_back scenario rules iface within in
    goes _ (cut_word (iface_name scenario iface) rest known.no_space) (goes _ known.names refl)

kind_no_space : (kind : Kind) → has_no_space (kind_word kind) ≡ true
kind_no_space kinds.Bgp = refl
kind_no_space kinds.Ldp = refl

pub kind_read : (kind : Kind) (rest : List ℕ) → kind_field (kind_word kind ++ 32 ∷ rest) ≡ Some (kind, rest)
unfolding kind_field
kind_read kind rest = goes _ (cut_word (kind_word kind) rest (kind_no_space kind)) (goes _ (kind_back kind) refl)
