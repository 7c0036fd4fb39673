-- The blocks of VRFs, sites and interfaces, line by line.
use Rattle.std.proofs.Common.{◌≡◌, ℕ, zero, suc, ◌+◌, ◌*◌, ◌-◌, ◌<◌, ◌≤◌, ◌==◌, ◌&&◌, ◌||◌, Bool, true, false, not, List, [], ◌∷◌, ◌++◌, length, get_or, Option, Some, None, refl, sym, ap, subst, ◌∙◌, arith, append_assoc, append-nil}
use Rattle.std.specs.Prelude.{codes, decimal, nat_eq, Ok}
use Rattle.std.specs.List.{slice_get}
use Rattle.std.specs.Cmp.Lexicographic.{pointwise, same_text, nat_list_eq_equiv}
use Rattle.std.proofs.lemmas.Bool.{and_parts, and_left, and_right, lt-leb, false_from_ne_true, eqb-true, ne_eqb, false≢true}
use Rattle.mv_base.specs.declared.prefix.Prefix.{Prefix}
use Rattle.scenario_defs.specs.declared.scenario.Scenario.{Scenario}
use Rattle.scenario_defs.specs.declared.scenario.Site.{Site}
use Rattle.scenario_defs.specs.declared.scenario.Thing.{Thing}
use Rattle.scenario_defs.specs.declared.scenario.Thing.TheVariants as things
use Rattle.scenario_defs.specs.Prefixes.{prefixes_of, share_prefix}
use Rattle.line_words.specs.declared.words.Row.{Row}
use Rattle.scenario_lines.specs.declared.scenario_draft.line.Line.TheVariants as says
use Rattle.scenario_lines.specs.scenario_draft.Drafted.{Drafted}
use Rattle.scenario_lines.specs.scenario_draft.Naming.{edge_at, has_number, has_rd}
use Rattle.scenario_lines.specs.VrfGrammar.{overlaps, is_vpn_at}
use Rattle.scenario_lines.specs.SiteGrammar.{is_mixed, is_taken}
use Rattle.generator.specs.Made as made
use Rattle.made_laws.specs.MadeScript.{ipv4, edge_id, edge_node, name_at, place, vrf_id, site_id, iface_id, vrf, site, iface}
use Rattle.made_laws.proofs.RowLemmas.{glued_strung, is_word_octet, IsWord, row_text, Reads, reads_then, reads_row}
use Rattle.made_laws.proofs.ListLemmas.{thereafter, rows, length_after, length_rows, any_place, get_place}
use Rattle.made_laws.proofs.NumeralLemmas.{numbered_word, number_word, paired_word, numbered_name, paired_name, other_name, host, host_dotted, addr_read, vrf_number_read, rd_read, targets_read, prefixes_read}
use Rattle.made_laws.proofs.LineLemmas.{at, edge_word, vrf_word, site_word, IsNewVrf, vrf_said, IsNewSite, site_said, IsNewIface, iface_said}
use Rattle.made_laws.proofs.Drafts.{vrf_entry, site_entry, node_names, named_at, named_edges, with_lists, made_nodes, made_links, after_vpns, edge_stands, vrf_free, site_free, iface_free, vrf_stands, site_stands, at_kept, edges_kept}
use Rattle.made_laws.proofs.NodeBlocks.{reads_each, as_text, at_lines, known_word, edge_there}

-- ---- words

pub pair_word : (letter edge vpn : ℕ) → edge < 33 → vpn < 33 → IsWord (letter ∷ []) → IsWord (name_at (letter ∷ []) edge vpn)
pair_word letter edge vpn h k one =
    subst IsWord (append-nil (name_at (letter ∷ []) edge vpn))
    (paired_word (letter ∷ []) (codes "_") [] vpn edge k h (omega arith) (omega arith) (omega arith) (omega arith) one.plain refl refl)

pub host_word : (edge vpn : ℕ) (last : List ℕ) → edge < 33 → vpn < 33 → length last ≤ 5 → IsWord (46 ∷ last) → IsWord (host edge vpn last)
host_word edge vpn last h k few one =
    paired_word (codes "10.") (codes ".") (46 ∷ last) edge vpn h k (omega arith) (omega arith) (omega arith) (omega arith) refl refl one.plain

-- ---- octets that differ

both_no : (x y m n : ℕ) → (x ≡ y → m ≡ n → ⊥) → (x == y && m == n) ≡ false
both_no x y m n h = false_from_ne_true (x == y && m == n) (λ e. let p = and_parts (x == y) (m == n) e in h (eqb-true x y p.0) (eqb-true m n p.1))

abbrev rd_octets : ℕ → List ℕ
rd_octets vpn = 0 ∷ 0 ∷ 253 ∷ 232 ∷ 0 ∷ 0 ∷ 0 ∷ vpn ∷ []

abbrev target_octets : ℕ → List ℕ
target_octets vpn = 0 ∷ 2 ∷ 253 ∷ 232 ∷ 0 ∷ 0 ∷ 0 ∷ vpn ∷ []

same_rd : (a b : ℕ) → pointwise nat_eq (rd_octets a) (rd_octets b) ≡ true → a ≡ b
same_rd a b h = ap (λ (l : List ℕ). get_or l 7 0) (same_text (rd_octets a) (rd_octets b) (sym h))

same_vpn_target : (a b : ℕ) → pointwise nat_eq (target_octets a) (target_octets b) ≡ true → a ≡ b
same_vpn_target a b h = ap (λ (l : List ℕ). get_or l 7 0) (same_text (target_octets a) (target_octets b) (sym h))

overlap_none : (x y : Bool) → (x ≡ true → y ≡ true) → (((x || false) || false) && not (((x || false) && true) && ((y || false) && true))) ≡ false
overlap_none false y h = refl
overlap_none true true h = refl
overlap_none true false h = absurd (false≢true (h refl))

first_same : (x z : Bool) → (((x || false) && true) && z) ≡ true → x ≡ true
first_same true z h = refl
first_same false z h = absurd (false≢true h)

other_host : (d e v r j : ℕ) → (e ≡ r → v ≡ j → ⊥) → pointwise nat_eq (10 ∷ e ∷ v ∷ d ∷ []) (10 ∷ r ∷ j ∷ d ∷ []) ≡ false
other_host d e v r j h =
    other_name (10 ∷ e ∷ v ∷ d ∷ []) (10 ∷ r ∷ j ∷ d ∷ [])
    (λ same. h (ap (λ (l : List ℕ). get_or l 1 0) same) (ap (λ (l : List ℕ). get_or l 2 0) same))

-- ---- prefixes of two sites

prefixes_there : (scenario : Scenario) (edge vpn : ℕ) → slice_get scenario.sites (place edge vpn) ≡ Some (site edge vpn)
    → prefixes_of scenario (site_id edge vpn) ≡ (record { addr = ipv4 10 edge vpn 0; bits = 24 }) ∷ []
prefixes_there scenario edge vpn h = ap (λ (o : Option Site). elim o [ None ↦ [] | Some found ↦ found.prefixes ]) h

share_none : (e v r j : ℕ) → (e ≡ r → v ≡ j → ⊥)
    → share_prefix ((record { addr = ipv4 10 e v 0; bits = 24 }) ∷ []) ((record { addr = ipv4 10 r j 0; bits = 24 }) ∷ []) ≡ false
share_none e v r j h = rw (other_host 0 e v r j h) refl

share_apart : (scenario : Scenario) (e v r j : ℕ) → slice_get scenario.sites (place e v) ≡ Some (site e v)
    → slice_get scenario.sites (place r j) ≡ Some (site r j) → (e ≡ r → v ≡ j → ⊥)
    → share_prefix (prefixes_of scenario (site_id e v)) (prefixes_of scenario (site_id r j)) ≡ false
share_apart scenario e v r j a b h =
    ap (λ (l : List Prefix). share_prefix l (prefixes_of scenario (site_id r j))) (prefixes_there scenario e v a)
    ∙ ap (λ (l : List Prefix). share_prefix ((record { addr = ipv4 10 e v 0; bits = 24 }) ∷ []) l) (prefixes_there scenario r j b)
    ∙ share_none e v r j h

-- ---- texts

vrf_text : (edge vpn : ℕ) → made.vrf_line edge vpn
    ≡ row_text (codes "vrf" ∷ name_at (codes "V") edge vpn ∷ (codes "E" ++ decimal edge) ∷ decimal vpn ∷ (codes "65000:" ++ decimal vpn)
    ∷ (codes "65000:" ++ decimal vpn) ∷ codes "highest" ∷ [])
vrf_text edge vpn =
    glued_strung (codes "vrf V") (made.pair vpn edge ∷ codes " E" ∷ decimal edge ∷ codes " " ∷ decimal vpn ∷ codes " 65000:" ∷ decimal vpn
    ∷ codes " 65000:" ∷ decimal vpn ∷ codes " highest\n" ∷ [])

site_text : (edge vpn : ℕ) → made.site_line edge vpn
    ≡ row_text (codes "site" ∷ name_at (codes "S") edge vpn ∷ (host edge vpn (codes "0") ++ 47 ∷ codes "24") ∷ [])
site_text edge vpn =
    glued_strung (codes "site S") (made.pair vpn edge ∷ codes " 10." ∷ decimal edge ∷ codes "." ∷ decimal vpn ∷ codes ".0/24\n" ∷ [])
    ∙ ap (λ (l : List ℕ). codes "site S" ++ (made.pair vpn edge ++ 32 ∷ l))
    (sym (glued_strung (codes "10.") (decimal edge ∷ codes "." ∷ decimal vpn ∷ codes ".0" ∷ codes "/24" ∷ codes "\n" ∷ [])))

iface_text : (edge vpn : ℕ) → made.iface_line edge vpn
    ≡ row_text (codes "iface" ∷ name_at (codes "I") edge vpn ∷ name_at (codes "V") edge vpn ∷ name_at (codes "S") edge vpn ∷ host edge vpn (codes "1")
    ∷ [])
iface_text edge vpn =
    glued_strung (codes "iface I") (made.pair vpn edge ∷ codes " V" ∷ made.pair vpn edge ∷ codes " S" ∷ made.pair vpn edge ∷ codes " 10."
    ∷ decimal edge ∷ codes "." ∷ decimal vpn ∷ codes ".1\n" ∷ [])
    ∙ ap (λ (l : List ℕ). codes "iface I" ++ (made.pair vpn edge
    ++ (codes " V" ++ (made.pair vpn edge ++ (codes " S" ++ (made.pair vpn edge ++ 32 ∷ l))))))
    (sym (glued_strung (codes "10.") (decimal edge ∷ codes "." ∷ decimal vpn ∷ codes ".1" ∷ codes "\n" ∷ [])))

prefix_word : (edge vpn : ℕ) → edge < 33 → vpn < 33 → IsWord (host edge vpn (codes "0") ++ 47 ∷ codes "24")
prefix_word edge vpn h k =
    subst IsWord (sym (append_assoc (codes "10." ++ decimal edge ++ codes "." ++ decimal vpn) (codes ".0") (codes "/24")))
    (host_word edge vpn (codes "0/24") h k (omega arith) (known_word (codes ".0/24") (omega arith) (omega arith) refl))

pub letter_word : (letter : ℕ) → is_word_octet letter ≡ true → IsWord (letter ∷ [])
letter_word letter h = record { some = omega arith; few = omega arith; plain = rw h refl }

-- ---- what a VPN has at an edge

module _ (edges cores vpns e v : ℕ) (all_edges : edges ≡ 32) (all_vpns : vpns ≡ 8) (h : e < 32) (k : v < 8) where
  abbrev old_names : List (List ℕ × Thing)
  old_names = named_at (named_edges vpns (node_names edges cores) e) (suc e) v

  abbrev zeroth : Drafted
  zeroth = after_vpns edges cores vpns e v

  abbrev first : Drafted
  first =
      with_lists (made_nodes edges cores) (made_links cores edges) (thereafter (rows vpns vrf e) (vrf (suc e)) (suc v))
      (thereafter (rows vpns site e) (site (suc e)) v)
      (thereafter (rows vpns iface e) (iface (suc e)) v) (old_names ++ vrf_entry (suc e) (suc v) ∷ [])

  abbrev second : Drafted
  second =
      with_lists (made_nodes edges cores) (made_links cores edges) (thereafter (rows vpns vrf e) (vrf (suc e)) (suc v))
      (thereafter (rows vpns site e) (site (suc e)) (suc v))
      (thereafter (rows vpns iface e) (iface (suc e)) v) (old_names ++ vrf_entry (suc e) (suc v) ∷ [] ++ site_entry (suc e) (suc v) ∷ [])

  length_place : {A : Type 0} (of : ℕ → ℕ → A) → length (thereafter (rows vpns of e) (of (suc e)) v) ≡ 8 * e + v
  length_place of = omega (arith, length_after (rows vpns of e) (of (suc e)) v, length_rows vpns of e all_vpns)

  edge_known : (row : Row) (column : ℕ) → edge_at zeroth row (at column (codes "E" ++ decimal (suc e))) ≡ Ok (edge_id (suc e))
  edge_known row column =
      edge_word zeroth row (at column (codes "E" ++ decimal (suc e))) (edge_id (suc e)) (edge_node (suc e))
      (numbered_name 69 (suc e) refl (omega arith))
      (at_kept (pointwise nat_eq (codes "E" ++ decimal (suc e))) (named_edges vpns (node_names edges cores) e) (suc e) v
      (things.Node (edge_id (suc e)))
      (edges_kept (pointwise nat_eq (codes "E" ++ decimal (suc e))) vpns (node_names edges cores) e (things.Node (edge_id (suc e)))
      (edge_stands edges cores e (omega arith) all_edges)))
      (edge_there edges cores e (omega arith)) refl

  new_vrf : IsNewVrf zeroth (vrf_id (suc e) (suc v)) (vrf (suc e) (suc v)) (codes "E" ++ decimal (suc e))
  new_vrf = record {
    number = omega (arith, length_place vrf);
    few = lt-leb 256 (length (thereafter (rows vpns vrf e) (vrf (suc e)) v)) (omega (arith, length_place vrf));
    name = paired_name 86 (suc e) (suc v) refl (omega arith) (omega arith);
    free = vrf_free edges cores vpns e v all_vpns h k;
    at_edge = edge_known;
    numbers =
        any_place (has_number (edge_id (suc e)) (suc v)) vpns vrf e v (omega arith)
        (λ r j a b. both_no (suc r - 1) (suc e - 1) (suc j) (suc v) (λ x y. omega (arith, x, y))) all_vpns;
    rds = any_place (has_rd (edge_id (suc e)) (record { 0 = rd_octets (suc v) })) vpns vrf e v (omega arith)
        (λ r j a b. false_from_ne_true ((suc r - 1 == suc e - 1) && pointwise nat_eq (rd_octets (suc j)) (rd_octets (suc v)))
        (λ t. let p = and_parts (suc r - 1 == suc e - 1) (pointwise nat_eq (rd_octets (suc j)) (rd_octets (suc v))) t in
        omega (arith, eqb-true (suc r - 1) (suc e - 1) p.0, same_rd (suc j) (suc v) p.1))) all_vpns;
    apart = any_place (overlaps ((record { 0 = record { 0 = target_octets (suc v) } }) ∷ [])) vpns vrf e v (omega arith)
        (λ r j a b. overlap_none (pointwise nat_eq (target_octets (suc j)) (target_octets (suc v)))
        (pointwise nat_eq (target_octets (suc v)) (target_octets (suc j)))
        (λ t. sym (nat_list_eq_equiv.symm (target_octets (suc j)) (target_octets (suc v))) ∙ t)) all_vpns;
    alone = any_place (is_vpn_at (edge_id (suc e)) ((record { 0 = record { 0 = target_octets (suc v) } }) ∷ [])) vpns vrf e v (omega arith)
        (λ r j a b. false_from_ne_true _
        (λ t. let p = and_parts (suc r - 1 == suc e - 1) _ t in
        omega (
          arith,
          eqb-true (suc r - 1) (suc e - 1) p.0,
          same_vpn_target (suc j) (suc v) (first_same (pointwise nat_eq (target_octets (suc j)) (target_octets (suc v))) _ p.1),
        ))) all_vpns;
  }

  vrf_row : (number : ℕ) → Reads zeroth number (made.vrf_line (suc e) (suc v)) first (number + 1)
  vrf_row number =
      as_text zeroth first number (number + 1) _ (made.vrf_line (suc e) (suc v)) (vrf_text (suc e) (suc v))
      (reads_row zeroth number (codes "vrf") (name_at (codes "V") (suc e) (suc v) ∷ (codes "E" ++ decimal (suc e)) ∷ decimal (suc v)
      ∷ (codes "65000:" ++ decimal (suc v)) ∷ (codes "65000:" ++ decimal (suc v)) ∷ codes "highest" ∷ [])
      (says.Vrf (vrf_id (suc e) (suc v)) (vrf (suc e) (suc v))) (
        known_word (codes "vrf") (omega arith) (omega arith) refl,
        (
          pair_word 86 (suc e) (suc v) (omega arith) (omega arith) (letter_word 86 refl),
          (
            numbered_word (codes "E") (suc e) (omega arith) (omega arith) (omega arith) refl,
            (
              number_word (suc v) (omega arith),
              (
                numbered_word (codes "65000:") (suc v) (omega arith) (omega arith) (omega arith) refl,
                (
                  numbered_word (codes "65000:") (suc v) (omega arith) (omega arith) (omega arith) refl,
                  (known_word (codes "highest") (omega arith) (omega arith) refl, tt),
                ),
              ),
            ),
          ),
        ),
      )
      (omega arith) refl
      (vrf_said zeroth _ (vrf_id (suc e) (suc v)) (vrf (suc e) (suc v)) (codes "E" ++ decimal (suc e)) (decimal (suc v))
      (codes "65000:" ++ decimal (suc v)) (codes "65000:" ++ decimal (suc v)) _ _ _ _ _ _ _ refl refl new_vrf
      (record { counted = vrf_number_read v k; told_by = rd_read v k; admits = targets_read v k })))

  new_site : IsNewSite first (site_id (suc e) (suc v)) (site (suc e) (suc v))
  new_site = record {
    number = omega (arith, length_place site);
    few = lt-leb 512 (length (thereafter (rows vpns site e) (site (suc e)) v)) (omega (arith, length_place site));
    name = paired_name 83 (suc e) (suc v) refl (omega arith) (omega arith);
    free = site_free edges cores vpns e v all_vpns h k;
  }

  site_row : (number : ℕ) → Reads first number (made.site_line (suc e) (suc v)) second (number + 1)
  site_row number =
      as_text first second number (number + 1) _ (made.site_line (suc e) (suc v)) (site_text (suc e) (suc v))
      (reads_row first number (codes "site") (name_at (codes "S") (suc e) (suc v) ∷ (host (suc e) (suc v) (codes "0") ++ 47 ∷ codes "24") ∷ [])
      (says.Site (site_id (suc e) (suc v)) (site (suc e) (suc v))) (
        known_word (codes "site") (omega arith) (omega arith) refl,
        (
          pair_word 83 (suc e) (suc v) (omega arith) (omega arith) (letter_word 83 refl),
          (prefix_word (suc e) (suc v) (omega arith) (omega arith), tt),
        ),
      )
      (omega arith) refl
      (site_said first _ (site_id (suc e) (suc v)) (site (suc e) (suc v)) (host (suc e) (suc v) (codes "0") ++ 47 ∷ codes "24") _ _ _ refl new_site
      (prefixes_read (suc e) (suc v) (omega arith) (omega arith))))

  vrf_there : slice_get (thereafter (rows vpns vrf e) (vrf (suc e)) (suc v)) (place (suc e) (suc v)) ≡ Some (vrf (suc e) (suc v))
  vrf_there = get_place vpns vrf e (suc v) e v (place (suc e) (suc v)) all_vpns (omega arith) (omega arith) (omega arith) (omega arith)

  sites_there : (r j : ℕ) → 8 * r + j < 8 * e + suc v → j < vpns
      → slice_get (thereafter (rows vpns site e) (site (suc e)) (suc v)) (place (suc r) (suc j)) ≡ Some (site (suc r) (suc j))
  sites_there r j a b = get_place vpns site e (suc v) r j (place (suc r) (suc j)) all_vpns a (omega arith) b (omega arith)

  new_iface : IsNewIface second (iface_id (suc e) (suc v)) (iface (suc e) (suc v)) (name_at (codes "V") (suc e) (suc v))
      (name_at (codes "S") (suc e) (suc v))
  new_iface = record {
    number = omega (arith, length_place iface);
    few = lt-leb 1024 (length (thereafter (rows vpns iface e) (iface (suc e)) v)) (omega (arith, length_place iface));
    name = paired_name 73 (suc e) (suc v) refl (omega arith) (omega arith);
    free = iface_free edges cores vpns e v all_vpns h k;
    in_vrf = λ row column. vrf_word second row (at column (name_at (codes "V") (suc e) (suc v))) (vrf_id (suc e) (suc v)) (vrf (suc e) (suc v))
        (paired_name 86 (suc e) (suc v) refl (omega arith) (omega arith)) (vrf_stands edges cores vpns e v all_vpns h k) vrf_there;
    in_site =
        λ row column. site_word second row (at column (name_at (codes "S") (suc e) (suc v))) (site_id (suc e) (suc v)) (site (suc e) (suc v))
        (paired_name 83 (suc e) (suc v) refl (omega arith) (omega arith)) (site_stands edges cores vpns e v all_vpns h k)
        (sites_there e v (omega arith) (omega arith));
    mixed = any_place (is_mixed second.scenario (iface (suc e) (suc v))) vpns iface e v (omega arith)
        (λ r j a b. and_left (place (suc r) (suc j) == place (suc e) (suc v)) _
        (ne_eqb (place (suc r) (suc j)) (place (suc e) (suc v)) (λ t. omega (arith, t)))) all_vpns;
    taken = any_place (is_taken second.scenario (iface (suc e) (suc v))) vpns iface e v (omega arith)
        (λ r j a b. and_right _ (share_prefix (prefixes_of second.scenario (site_id (suc e) (suc v)))
        (prefixes_of second.scenario (site_id (suc r) (suc j))))
        (share_apart second.scenario (suc e) (suc v) (suc r) (suc j) (sites_there e v (omega arith) (omega arith)) (sites_there r j (omega arith) b)
        (λ x y. omega (arith, x, y)))) all_vpns;
  }

  iface_row : (number : ℕ) → Reads second number (made.iface_line (suc e) (suc v)) (after_vpns edges cores vpns e (suc v)) (number + 1)
  iface_row number =
      as_text second (after_vpns edges cores vpns e (suc v)) number (number + 1) _ (made.iface_line (suc e) (suc v)) (iface_text (suc e) (suc v))
      (reads_row second number (codes "iface") (name_at (codes "I") (suc e) (suc v) ∷ name_at (codes "V") (suc e) (suc v)
      ∷ name_at (codes "S") (suc e) (suc v) ∷ host (suc e) (suc v) (codes "1") ∷ [])
      (says.Iface (iface_id (suc e) (suc v)) (iface (suc e) (suc v))) (
        known_word (codes "iface") (omega arith) (omega arith) refl,
        (
          pair_word 73 (suc e) (suc v) (omega arith) (omega arith) (letter_word 73 refl),
          (
            pair_word 86 (suc e) (suc v) (omega arith) (omega arith) (letter_word 86 refl),
            (
              pair_word 83 (suc e) (suc v) (omega arith) (omega arith) (letter_word 83 refl),
              (
                host_word (suc e) (suc v) (codes "1") (omega arith) (omega arith) (omega arith)
                    (known_word (codes ".1") (omega arith) (omega arith) refl),
                tt,
              ),
            ),
          ),
        ),
      )
      (omega arith) refl
      (iface_said second _ (iface_id (suc e) (suc v)) (iface (suc e) (suc v)) (name_at (codes "V") (suc e) (suc v))
      (name_at (codes "S") (suc e) (suc v)) (host (suc e) (suc v) (codes "1")) _ _ _ _ _ refl new_iface
      (addr_read (host (suc e) (suc v) (codes "1")) _ (host_dotted (suc e) (suc v) 1 (omega arith) (omega arith) (omega arith)))))

  attachment_read : (number : ℕ) → Reads zeroth number (made.attachment (suc e) (suc v)) (after_vpns edges cores vpns e (suc v)) (number + 3)
  attachment_read number =
      at_lines zeroth (after_vpns edges cores vpns e (suc v)) (made.attachment (suc e) (suc v)) number (number + 1 + 1 + 1) number (number + 3) refl
      (omega arith)
      (reads_then zeroth second (after_vpns edges cores vpns e (suc v)) number (number + 1 + 1) (number + 1 + 1 + 1)
      (made.vrf_line (suc e) (suc v) ++ made.site_line (suc e) (suc v)) (made.iface_line (suc e) (suc v))
      (reads_then zeroth first second number (number + 1) (number + 1 + 1) (made.vrf_line (suc e) (suc v)) (made.site_line (suc e) (suc v))
      (vrf_row number) (site_row (number + 1)))
      (iface_row (number + 1 + 1)))

-- ---- all of them

edge_read : (edges cores vpns e number : ℕ) → edges ≡ 32 → vpns ≡ 8 → e < 32
    → Reads (after_vpns edges cores vpns e zero) (number + 0) (made.each (made.attachment (suc e)) vpns) (after_vpns edges cores vpns e vpns)
    (number + 3 * vpns)
edge_read edges cores vpns e number all_edges all_vpns h =
    reads_each (after_vpns edges cores vpns e) (λ k. number + 3 * k) (made.attachment (suc e)) vpns
    (λ k w. at_lines (after_vpns edges cores vpns e k) (after_vpns edges cores vpns e (suc k)) (made.attachment (suc e) (suc k)) (number + 3 * k)
    (number + 3 * k + 3) (number + 3 * k) (number + 3 * suc k) refl (omega arith)
    (attachment_read edges cores vpns e k all_edges all_vpns h (omega arith) (number + 3 * k)))

pub vpns_read : (edges cores vpns number : ℕ) → edges ≡ 32 → vpns ≡ 8
    → Reads (after_vpns edges cores vpns zero zero) (number + 0) (made.each (λ edge. made.each (made.attachment edge) vpns) edges)
    (after_vpns edges cores vpns edges zero) (number + 24 * edges)
vpns_read edges cores vpns number all_edges all_vpns =
    reads_each (λ e. after_vpns edges cores vpns e zero) (λ e. number + 24 * e) (λ edge. made.each (made.attachment edge) vpns) edges
    (λ e w. at_lines (after_vpns edges cores vpns e zero) (after_vpns edges cores vpns (suc e) zero) (made.each (made.attachment (suc e)) vpns)
    (number + 24 * e + 0) (number + 24 * e + 3 * vpns) (number + 24 * e) (number + 24 * suc e) (omega arith) (omega arith)
    (edge_read edges cores vpns e (number + 24 * e) all_edges all_vpns (omega arith)))
