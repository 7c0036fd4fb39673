-- The lines of a report, written one after another, are read line by line; after a script and the line `report` they are a text of an audit.
use Rattle.std.proofs.Common.{rules, ◌≡◌, ℕ, zero, suc, ◌+◌, ◌-◌, ◌<◌, ◌≤◌, ◌==◌, ◌&&◌, ◌^◌, ◌/◌, ◌%◌, Bool, true, false, not, cond, List, [], ◌∷◌, ◌++◌, length, map, get_or, refl, sym, ap, subst, ◌∙◌, arith, append_assoc, append-nil, length-append, None, Some, Option, slice_get}
use Rattle.std.specs.Prelude.{Ok, codes, decimal}
use Rattle.std.specs.Char.{is_ascii_digit}
use Rattle.std.specs.List.{All, list_all, slice_split, onto_first, flat_map, AllByRecursion}
use Rattle.std.specs.Str.Lines.{lines, lines_of_parts, strip_carriage_return}
use Rattle.std.proofs.lemmas.Bool.{and_parts, and_from}
use Rattle.std.proofs.lemmas.Bool.Decides.{nat_tests}
use Rattle.std.proofs.lemmas.Fmt.{decimal_is_IsNumeral}
use Rattle.std.proofs.lemmas.List.Elements.{All-nil, All-cons}
use Rattle.std.proofs.lemmas.List.Folds.{list_all-append}
use Rattle.std.proofs.lemmas.List.Splits.{length-slice_split}
use Rattle.hex.specs.Hex.{encode_with, lower_digits}
use Rattle.mv_base.specs.declared.ids.IfaceId.{IfaceId}
use Rattle.mv_base.specs.declared.ids.NodeId.{NodeId}
use Rattle.scenario_defs.specs.Names.{is_name, is_name_octet}
use Rattle.scenario_defs.specs.Rules.{Rules}
use Rattle.scenario_defs.specs.Text.{ends_text, fault_word, hex_text, iface_name, kind_word, line_text, node_name, refusal_text}
use Rattle.scenario_defs.specs.declared.event.Kind.{Kind}
use Rattle.scenario_defs.specs.declared.event.Kind.TheVariants as kinds
use Rattle.scenario_defs.specs.declared.event.Script.{Script}
use Rattle.scenario_defs.specs.declared.report.FaultWord.{FaultWord}
use Rattle.scenario_defs.specs.declared.report.FaultWord.TheVariants as faults
use Rattle.scenario_defs.specs.declared.report.Refusal.{Refusal}
use Rattle.scenario_defs.specs.declared.report.Refusal.TheVariants as refusals
use Rattle.scenario_defs.specs.declared.report.ReportLine.{ReportLine}
use Rattle.scenario_defs.specs.declared.report.ReportLine.TheVariants as told
use Rattle.scenario_defs.specs.declared.scenario.Iface.{Iface}
use Rattle.scenario_defs.specs.declared.scenario.Node.{Node}
use Rattle.scenario_defs.specs.declared.scenario.Scenario.{Scenario}
use Rattle.scenario_defs.specs.declared.scenario.Thing.TheVariants as things
use Rattle.report_text.specs.report_lines.Bounds.{HasReasonBounds, HasTypeBounds}
use Rattle.std.proofs.lemmas.Str.Parse.{IsNumeralModel, numerals_by_value}
use Rattle.std.specs.Str.Parse.{digits_value}
use Rattle.scenario_lines.specs.scenario_draft.Adding.{empty_draft}
use Rattle.scenario_text.specs.Grammar.{script_from, script_of}
use Rattle.scenario_text.proofs.FaultsLemmas.{short_text}
use Rattle.audit_defs.specs.declared.verdict.Numbered.{Numbered}
use Rattle.audit_defs.specs.declared.verdict.ReportLines.{ReportLines}
use Rattle.audit_defs.specs.Markers.{values}
use Rattle.audit_text.specs.Texts.{AreWritten, IsKnown, Says, with_report}
use Rattle.audit_text.proofs.CutLemmas.{first_line}
use Rattle.audit_text.proofs.MarkLemmas.{said_unmarked}
use Rattle.audit_text.proofs.SaysLemmas.{front_rules}

-- ---- octets of a line

-- whether the octet neither ends a line nor stands before its end
abbrev is_inner : ℕ → Bool
is_inner octet = not (octet == 10) && not (octet == 13)

weaker : (p : ℕ → Bool) → ((octet : ℕ) → p octet ≡ true → is_inner octet ≡ true) → (octets : List ℕ) → list_all p octets ≡ true
    → list_all is_inner octets ≡ true
weaker p inner [] h = refl
weaker p inner (octet ∷ more) h =
    let parts = and_parts (p octet) (list_all p more) h in
    and_from (is_inner octet) (list_all is_inner more) (inner octet parts.0) (weaker p inner more parts.1)

-- Octets of which none ends a line.
data Inner (octets : List ℕ) : Type 0 where
  Plain : list_all is_inner octets ≡ true → Inner octets

-- Octets after others.
then_inner : {front rest : List ℕ} → Inner front → Inner rest → Inner (front ++ rest)
then_inner {front} {rest} (Plain a) (Plain b) = Plain (list_all-append is_inner front rest ∙ and_from _ _ a b)

then_space : {front : List ℕ} → Inner front → Inner (front ++ codes " ")
then_space {front} a = then_inner {front = front} {rest = codes " "} a (Plain refl)

-- Words of the format.
literal : (octets : List ℕ) → list_all is_inner octets ≡ true → Inner octets
literal octets h = Plain h

-- ---- what lines are made of

digit_inner : (octet : ℕ) → is_ascii_digit octet ≡ true → is_inner octet ≡ true
digit_inner octet h = grind (arith, nat_tests)

numerals : IsNumeralModel (λ ds. list_all is_ascii_digit ds ≡ true) (digits_value 10)
numerals = numerals_by_value _ (search rules)

number_inner : (n : ℕ) → n < 2 ^ 64 → Inner (decimal n)
number_inner n small = Plain (weaker is_ascii_digit digit_inner (decimal n) (numerals.from (decimal n) (decimal_is_IsNumeral n small).0.1))

name_octet_inner : (octet : ℕ) → is_name_octet octet ≡ true → is_inner octet ≡ true
name_octet_inner octet h = grind (arith, nat_tests)

name_inner : (name : List ℕ) → is_name name ≡ true → list_all is_inner name ≡ true
name_inner name h = weaker is_name_octet name_octet_inner name (and_parts _ (list_all is_name_octet name) h).1

node_inner : (scenario : Scenario) → Rules scenario → (node : NodeId) → Inner (node_name scenario node)
node_inner scenario kept node = Plain (by (slice_get scenario.nodes node.0) refl)
  where
    by : (found : Option Node) → slice_get scenario.nodes node.0 ≡ found → list_all is_inner (elim found [ None ↦ [] | Some own ↦ own.name ]) ≡ true
    by None at = refl
    by (Some own) at = name_inner own.name (kept.names.formed (things.Node node) own.name (rw at refl))

iface_inner : (scenario : Scenario) → Rules scenario → (iface : IfaceId) → Inner (iface_name scenario iface)
iface_inner scenario kept iface = Plain (by (slice_get scenario.ifaces iface.0) refl)
  where
    by : (found : Option Iface) → slice_get scenario.ifaces iface.0 ≡ found
        → list_all is_inner (elim found [ None ↦ [] | Some own ↦ own.name ]) ≡ true
    by None at = refl
    by (Some own) at = name_inner own.name (kept.names.formed (things.Iface iface) own.name (rw at refl))

ends_inner : (scenario : Scenario) → Rules scenario → (from to : NodeId) → Inner (ends_text scenario from to)
ends_inner scenario kept from to = then_inner (then_space (node_inner scenario kept from)) (node_inner scenario kept to)

-- one of a list of octets, or 0
one_inner : (octets : List ℕ) (place : ℕ) → list_all is_inner octets ≡ true → is_inner (get_or octets place 0) ≡ true
one_inner [] place h = refl
one_inner (octet ∷ more) zero h = (and_parts (is_inner octet) (list_all is_inner more) h).0
one_inner (octet ∷ more) (suc place) h = one_inner more place (and_parts (is_inner octet) (list_all is_inner more) h).1

digits_inner : (octets : List ℕ) → list_all is_inner (encode_with lower_digits octets) ≡ true
unfolding encode_with
digits_inner [] = refl
digits_inner (octet ∷ more) =
    and_from (is_inner (get_or lower_digits (octet / 16) 0)) _ (one_inner lower_digits (octet / 16) refl)
    (and_from (is_inner (get_or lower_digits (octet % 16) 0)) _ (one_inner lower_digits (octet % 16) refl) (digits_inner more))

hex_inner : (octets : List ℕ) → Inner (hex_text octets)
hex_inner [] = Plain refl
hex_inner (octet ∷ more) = Plain (digits_inner (octet ∷ more))

kind_inner : (kind : Kind) → Inner (kind_word kind)
kind_inner kinds.Bgp = Plain refl
kind_inner kinds.Ldp = Plain refl

fault_inner : (word : FaultWord) → Inner (fault_word word)
fault_inner faults.Short = Plain refl
fault_inner faults.Version = Plain refl
fault_inner faults.PimType = Plain refl
fault_inner faults.Checksum = Plain refl
fault_inner faults.Family = Plain refl
fault_inner faults.Encoding = Plain refl
fault_inner faults.MaskLength = Plain refl
fault_inner faults.Flags = Plain refl
fault_inner faults.NotMulticast = Plain refl
fault_inner faults.Trailing = Plain refl
fault_inner faults.HeaderLength = Plain refl
fault_inner faults.TotalLength = Plain refl
fault_inner faults.LinkLocal = Plain refl

refusal_inner : (reason : Refusal) → HasReasonBounds reason → Inner (refusal_text reason)
refusal_inner refusals.Empty h = Plain refl
refusal_inner refusals.State h = Plain refl
refusal_inner refusals.Place h = Plain refl
refusal_inner refusals.Full h = Plain refl
refusal_inner refusals.Ours h = Plain refl
refusal_inner (refusals.Bytes place word) h =
    then_inner (then_space (then_inner (literal (codes "bytes ") refl) (number_inner place (omega (arith, h))))) (fault_inner word)

-- ---- a line

-- Octets of a line, and a line feed after them.
record IsRow (text : List ℕ) : Type 0 where
  octets : List ℕ
  is : text ≡ octets ++ 10 ∷ []
  inner : list_all is_inner octets ≡ true

row : {octets : List ℕ} → Inner octets → IsRow (octets ++ codes "\n")
row {octets} (Plain h) = record { octets = octets; is = refl; inner = h }

-- Each line is a row.
line_row : (scenario : Scenario) → Rules scenario → (line : ReportLine) → HasTypeBounds line → IsRow (line_text scenario line)
line_row scenario kept (told.Out number iface bytes) h =
    row (then_inner (then_space (then_inner (then_space (then_inner (literal (codes "out ") refl) (number_inner number h.0)))
    (iface_inner scenario kept iface))) (hex_inner bytes))
line_row scenario kept (told.Refused line reason) h =
    row (then_inner (then_space (then_inner (literal (codes "refused ") refl) (number_inner line (omega (arith, h.0))))) (refusal_inner reason h.1))
line_row scenario kept (told.State bytes copies buffers due unready) h =
    row (then_inner (then_space (then_inner (then_space
    (then_inner (then_space (then_inner (then_space (then_inner (literal (codes "state ") refl) (number_inner bytes h.0)))
    (number_inner copies h.1))) (number_inner buffers h.2))) (number_inner due h.3))) (number_inner unready h.4))
line_row scenario kept (told.Halt line node) h =
    row (then_inner (then_inner (then_inner (literal (codes "halt ") refl) (number_inner line (omega (arith, h)))) (literal (codes " label ") refl))
    (node_inner scenario kept node))
line_row scenario kept (told.Put kind from to bytes) h =
    row (then_inner (then_space (then_inner (then_space (then_inner (literal (codes "put ") refl) (kind_inner kind)))
    (ends_inner scenario kept from to))) (hex_inner bytes))
line_row scenario kept (told.Take kind from to bytes) h =
    row (then_inner (then_space (then_inner (then_space (then_inner (literal (codes "take ") refl) (kind_inner kind)))
    (ends_inner scenario kept from to))) (hex_inner bytes))
line_row scenario kept (told.Hop from to label ttl number) h =
    row (then_inner (then_space (then_inner (then_space
    (then_inner (then_space (then_inner (literal (codes "hop ") refl) (ends_inner scenario kept from to)))
    (number_inner label (omega (arith, h.0))))) (number_inner ttl (omega (arith, h.1))))) (number_inner number h.2))
line_row scenario kept (told.Land from to label number) h =
    row (then_inner (then_space (then_inner (then_space (then_inner (literal (codes "land ") refl) (ends_inner scenario kept from to)))
    (number_inner label (omega (arith, h.0))))) (number_inner number h.1))

-- ---- lines after one another

none_of : (other : ℕ) → ((octet : ℕ) → is_inner octet ≡ true → (octet == other) ≡ false) → (octets : List ℕ) → list_all is_inner octets ≡ true
    → All (λ octet. (octet == other) ≡ false) octets
none_of other none [] h = All-nil (λ octet. (octet == other) ≡ false)
none_of other none (octet ∷ more) h =
    let parts = and_parts (is_inner octet) (list_all is_inner more) h in
    All-cons (λ octet. (octet == other) ≡ false) octet more (none octet parts.0) (none_of other none more parts.1)

no_feed : (octet : ℕ) → is_inner octet ≡ true → (octet == 10) ≡ false
no_feed octet h = grind (arith, nat_tests)

no_return : (octet : ℕ) → is_inner octet ≡ true → (octet == 13) ≡ false
no_return octet h = grind (arith, nat_tests)

not_stripped : (octets : List ℕ) → list_all is_inner octets ≡ true → strip_carriage_return octets ≡ octets
not_stripped octets h = rw (no_return (get_or octets (length octets - 1) 0) (one_inner octets (length octets - 1) h)) refl

row_first : (octets rest : List ℕ) → list_all is_inner octets ≡ true → lines (octets ++ 10 ∷ rest) ≡ octets ∷ lines rest
row_first octets rest h = first_line octets rest (none_of 10 no_feed octets h) ∙ ap (λ (l : List ℕ). l ∷ lines rest) (not_stripped octets h)

-- ---- a text that ends with a line feed

parts_append : (front : List ℕ) (parts more : List (List ℕ)) (octet : ℕ) → 0 < length parts
    → onto_first octet (parts ++ more) ≡ onto_first octet parts ++ more
parts_append front [] more octet h = absurd (omega arith)
parts_append front (part ∷ parts) more octet h = refl

abbrev is_feed : ℕ → Bool
is_feed octet = octet == 10

split_append : (front rest : List ℕ) → slice_split is_feed (front ++ 10 ∷ rest) ≡ slice_split is_feed front ++ slice_split is_feed rest
split_append [] rest = refl
split_append (octet ∷ front) rest = by (is_feed octet) (split_append front rest)
  where
    by : (b : Bool) → slice_split is_feed (front ++ 10 ∷ rest) ≡ slice_split is_feed front ++ slice_split is_feed rest
        → cond b ([] ∷ slice_split is_feed (front ++ 10 ∷ rest)) (onto_first octet (slice_split is_feed (front ++ 10 ∷ rest)))
        ≡ cond b ([] ∷ slice_split is_feed front) (onto_first octet (slice_split is_feed front)) ++ slice_split is_feed rest
    by true e = ap (λ (l : List (List ℕ)). [] ∷ l) e
    by false e =
        ap (onto_first octet) e ∙ parts_append front (slice_split is_feed front) (slice_split is_feed rest) octet
        (omega (arith, length-slice_split is_feed front))

ended_parts : (parts more : List (List ℕ)) → 0 < length more → lines_of_parts (parts ++ more) ≡ map strip_carriage_return parts ++ lines_of_parts more
ended_parts [] more h = refl
ended_parts (part ∷ parts) more h =
    step (parts ++ more) (omega (arith, length-append parts more, h))
    ∙ ap (λ (l : List (List ℕ)). strip_carriage_return part ∷ l) (ended_parts parts more h)
  where
    step : (rest : List (List ℕ)) → 0 < length rest → lines_of_parts (part ∷ rest) ≡ strip_carriage_return part ∷ lines_of_parts rest
    step [] s = absurd (omega arith)
    step (next ∷ rest) s = refl

-- Lines after a text that ends with a line feed are after its lines.
ended_lines : (front rest : List ℕ) → lines (front ++ 10 ∷ rest) ≡ lines (front ++ 10 ∷ []) ++ lines rest
ended_lines front rest =
    whole rest ∙ ap (λ (l : List (List ℕ)). l ++ lines rest) (sym (whole [] ∙ append-nil (map strip_carriage_return (slice_split is_feed front))))
  where
    whole : (more : List ℕ) → lines (front ++ 10 ∷ more) ≡ map strip_carriage_return (slice_split is_feed front) ++ lines more
    whole more =
        ap lines_of_parts (split_append front more)
        ∙ ended_parts (slice_split is_feed front) (slice_split is_feed more) (omega (arith, length-slice_split is_feed more))

-- ---- the report

abbrev numbered_from : ℕ → List ReportLine → List Numbered
numbered_from number [] = []
numbered_from number (line ∷ more) = record { line = number; value = line } ∷ numbered_from (number + 1) more

values_numbered : (number : ℕ) (all : List ReportLine) → map (λ (one : Numbered). one.value) (numbered_from number all) ≡ all
values_numbered number [] = refl
values_numbered number (line ∷ more) = ap (λ (l : List ReportLine). line ∷ l) (values_numbered (number + 1) more)

report_read : (scenario : Scenario) → Rules scenario → (number : ℕ) (all : List ReportLine) → AllByRecursion (IsKnown scenario) all
    → AreWritten scenario number (lines (flat_map (line_text scenario) all)) (numbered_from number all)
report_read scenario kept number [] known = tt
report_read scenario kept number (line ∷ more) known =
    let own = line_row scenario kept line known.0.1 in
    let rest : List ℕ = flat_map (line_text scenario) more in
    let is : lines (line_text scenario line ++ rest) ≡ own.octets ∷ lines rest =
    ap (λ (l : List ℕ). lines (l ++ rest)) own.is ∙ ap lines (append_assoc own.octets (10 ∷ []) rest) ∙ row_first own.octets rest own.inner in
    subst (λ (l : List (List ℕ)). AreWritten scenario number l (numbered_from number (line ∷ more))) (sym is)
    (refl, record { names = known.0.0; bounds = known.0.1; text = own.is }, report_read scenario kept (number + 1) more known.1)

-- A script that ends with a line feed, the line `report`, and lines of a report after it are the text of an audit.
pub report_said : (front : List ℕ) (script : Script) (all : List ReportLine) → script_of (front ++ 10 ∷ []) ≡ Ok script
    → AllByRecursion (IsKnown script.scenario) all →
    length (with_report script.scenario (front ++ 10 ∷ []) all) ≤ 16777216 →
    (report : ReportLines) × Says (with_report script.scenario (front ++ 10 ∷ []) all) script report × (values report.lines ≡ all)
report_said front script all said known short =
    let text : List ℕ = front ++ 10 ∷ [] in
    let body : List ℕ = flat_map (line_text script.scenario) all in
    let rows : List (List ℕ) = lines text in
    let own : script_from empty_draft 1 rows ≡ Ok script =
    sym (short_text text (omega (arith, short, length-append text (codes "report\n"), length-append (text ++ codes "report\n") body))) ∙ said in
    let is : lines (text ++ codes "report\n" ++ body) ≡ rows ++ codes "report" ∷ lines body =
    ap lines (append_assoc text (codes "report\n") body) ∙ ap lines (append_assoc front (10 ∷ []) (codes "report\n" ++ body))
    ∙ ended_lines front (codes "report\n" ++ body)
    ∙ ap (λ (l : List (List ℕ)). rows ++ l) (row_first (codes "report") body refl) in
    let number : ℕ = length rows + 2 in (
      record { lines = numbered_from number all; end = number + length (lines body) },
      record {
        short = short;
        front = rows;
        thereafter = lines body;
        cut = record { mark = codes "report"; is = refl; whole = is; first = said_unmarked empty_draft 1 rows script own };
        scripted = own;
        reported = report_read script.scenario (front_rules rows script own).0.scenario number all known;
        end = refl;
      },
      values_numbered number all,
    )
