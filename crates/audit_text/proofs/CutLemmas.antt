-- How a text is cut at the first line whose only word is `report`, line by line.
use Rattle.std.proofs.Common.{◌≡◌, ℕ, ◌+◌, ◌-◌, ◌<◌, ◌≤◌, ◌==◌, ◌||◌, Bool, true, false, List, [], ◌∷◌, ◌++◌, length, take, drop, get_or, refl, sym, ap, ◌∙◌, subst, arith, append_assoc, append-nil, length-append, Option, Some, None, position}
use Rattle.std.specs.List.{All, list_any, slice_split}
use Rattle.std.specs.Str.Lines.{lines, lines_of_parts, strip_carriage_return}
use Rattle.std.proofs.Math.Seq.{take-add}
use Rattle.std.proofs.lemmas.Grind.{common_steps}
use Rattle.std.proofs.lemmas.Bool.Decides.{nat_tests}
use Rattle.std.proofs.lemmas.List.{take-append-drop, take_more}
use Rattle.std.proofs.lemmas.List.Folds.{list_any-append}
use Rattle.std.proofs.lemmas.List.Quantifiers.{position-Some}
use Rattle.std.proofs.lemmas.List.Splits.{slice_split_at, length-slice_split}
use Rattle.line_words.proofs.WordsLemmas.{lines-first, lines-whole}
use Rattle.audit_text.specs.Texts.{is_mark}
use Rattle.audit_text.specs.Cutting.{AreParts, line_length}

-- ---- a line with its line feed

more_parts : (x : List ℕ) (parts : List (List ℕ)) → 0 < length parts → lines_of_parts (x ∷ parts) ≡ strip_carriage_return x ∷ lines_of_parts parts
more_parts x [] h = absurd (omega arith)
more_parts x (y ∷ more) h = refl

-- Octets without a line feed, and one after them, are the first line.
pub first_line : (line rest : List ℕ) → All (λ b. (b == 10) ≡ false) line → lines (line ++ 10 ∷ rest) ≡ strip_carriage_return line ∷ lines rest
first_line line rest none =
    ap lines_of_parts (slice_split_at (λ b. b == 10) line 10 rest none refl)
    ∙ more_parts line (slice_split (λ b. b == 10) rest) (omega (arith, length-slice_split (λ b. b == 10) rest))

-- ---- the text up to a place

-- The text up to a place is whole lines, of which none is `report`, unless it is the whole text; the next line has that number.
pub record IsFront (text : List ℕ) (place number : ℕ) : Type 0 where
  pub within : place ≤ length text
  pub cuts : place < length text → (more : List ℕ) → lines (take place text ++ more) ≡ lines (take place text) ++ lines more
  pub first : list_any is_mark (lines (take place text)) ≡ false
  pub at : number ≡ length (lines (take place text)) + 1
  pub count : number ≤ place + 1

pub front_start : (text : List ℕ) → IsFront text 0 1
front_start text = record { within = omega arith; cuts = λ _ more. refl; first = refl; at = refl; count = omega arith }

-- what a line more makes of the lines
record NextLine (text : List ℕ) (place next number : ℕ) (line : List ℕ) : Type 0 where
  is : lines (take next text) ≡ lines (take place text) ++ line ∷ []
  before : IsFront text place number
  other : is_mark line ≡ false

line_found : (text : List ℕ) (place next number : ℕ) (line : List ℕ) → NextLine text place next number line
    → (list_any is_mark (lines (take next text)) ≡ false) × (number + 1 ≡ length (lines (take next text)) + 1)
line_found text place next number line h = (
  ap (list_any is_mark) h.is ∙ list_any-append is_mark (lines (take place text)) (line ∷ [])
      ∙ none (list_any is_mark (lines (take place text))) (is_mark line) h.before.first h.other,
  omega (arith, h.before.at, ap length h.is, length-append (lines (take place text)) (line ∷ [])),
)
  where
    none : (a b : Bool) → a ≡ false → b ≡ false → (a || (b || false)) ≡ false
    none a b x y = cc

-- The line after the place ends with a line feed.
ended : (text : List ℕ) (place number i : ℕ) (line thereafter : List ℕ) → IsFront text place number → place < length text
    → lines (drop place text) ≡ line ∷ lines thereafter → is_mark line ≡ false → position (λ octet. octet == 10) (drop place text) ≡ Some i
    → IsFront text (place + (i + 1)) (number + 1)
ended text place number i line thereafter h some next other e =
    let p : ℕ → Bool = λ octet. octet == 10 in
    let rest : List ℕ = drop place text in
    let found : (i < length rest) × (p (get_or rest i 0) ≡ true) × ((k : ℕ) → k < i → p (get_or rest k 0) ≡ false) = position-Some p rest i 0 e in
    let none : All (λ b. (b == 10) ≡ false) (take i rest) = λ k d m. let f = found.2 k (grind (arith, common_steps)) in grind (arith, common_steps) in
    let feed : get_or rest i 0 ≡ 10 = let f = found.1 in grind (arith, nat_tests) in
    let whole : take (place + (i + 1)) text ≡ take place text ++ (take i rest ++ 10 ∷ []) =
    take-add place (i + 1) text ∙ ap (λ (l : List ℕ). take place text ++ l) (take_more rest i 0 found.0 ∙ ap (λ (b : ℕ). take i rest ++ b ∷ []) feed)
    in
    let is : line ≡ strip_carriage_return (take i rest) = let f = sym next ∙ lines-first rest i e in cc in
    let lengths : length rest ≡ length text - place = grind (arith, common_steps) in
    let front : (more : List ℕ) → lines (take (place + (i + 1)) text ++ more) ≡ lines (take place text) ++ line ∷ lines more = λ more.
    ap (λ (l : List ℕ). lines (l ++ more)) whole
    ∙ ap lines (append_assoc (take place text) (take i rest ++ 10 ∷ []) more)
    ∙ h.cuts some ((take i rest ++ 10 ∷ []) ++ more)
    ∙ ap (λ (l : List ℕ). lines (take place text) ++ lines l) (append_assoc (take i rest) (10 ∷ []) more)
    ∙ ap (λ (l : List (List ℕ)). lines (take place text) ++ l) (first_line (take i rest) more none)
    ∙ ap (λ (l : List ℕ). lines (take place text) ++ l ∷ lines more) (sym is) in
    let one : lines (take (place + (i + 1)) text) ≡ lines (take place text) ++ line ∷ [] =
    ap lines (sym (append-nil (take (place + (i + 1)) text))) ∙ front [] in
    let told = line_found text place (place + (i + 1)) number line (record { is = one; before = h; other = other }) in
    record {
      within = omega (arith, h.within, found.0, lengths);
      cuts = λ _ more. front more ∙ sym (append_assoc (lines (take place text)) (line ∷ []) (lines more))
          ∙ ap (λ (l : List (List ℕ)). l ++ lines more) (sym one);
      first = told.0;
      at = told.1;
      count = omega (arith, h.count);
    }

-- The line after the place is the last one, without a line feed.
last : (text : List ℕ) (place number : ℕ) (line thereafter : List ℕ) → IsFront text place number → place < length text
    → lines (drop place text) ≡ line ∷ lines thereafter → is_mark line ≡ false → position (λ octet. octet == 10) (drop place text) ≡ None
    → IsFront text (place + length (drop place text)) (number + 1)
last text place number line thereafter h some next other e =
    let rest : List ℕ = drop place text in
    let lengths : length rest ≡ length text - place = grind (arith, common_steps) in
    let whole : take (place + length rest) text ≡ take place text ++ rest =
    take-add place (length rest) text ∙ ap (λ (l : List ℕ). take place text ++ l)
    (let t : take (length rest) rest ≡ rest = grind (arith, common_steps) in t) in
    let is : rest ∷ [] ≡ line ∷ [] = let f : line ∷ lines thereafter ≡ rest ∷ [] = sym next ∙ lines-whole rest (omega (arith, some, lengths)) e in cc in
    let one : lines (take (place + length rest) text) ≡ lines (take place text) ++ line ∷ [] =
    ap lines whole ∙ h.cuts some rest ∙ ap (λ (l : List (List ℕ)). lines (take place text) ++ l)
    (lines-whole rest (omega (arith, some, lengths)) e ∙ is) in
    let told = line_found text place (place + length rest) number line (record { is = one; before = h; other = other }) in
    record {
      within = omega (arith, h.within, lengths);
      cuts = λ l more. absurd (omega (arith, l, lengths, some));
      first = told.0;
      at = told.1;
      count = omega (arith, h.count);
    }

-- A line more that is not `report`.
next_front : (text : List ℕ) (place number : ℕ) (line thereafter : List ℕ) → IsFront text place number → place < length text
    → lines (drop place text) ≡ line ∷ lines thereafter → is_mark line ≡ false → IsFront text (place + line_length (drop place text)) (number + 1)
next_front text place number line thereafter h some next other = by_place (position (λ octet. octet == 10) (drop place text)) refl
  where
    length_of : Option ℕ → ℕ
    length_of found = elim found [ None ↦ length (drop place text) | Some i ↦ i + 1 ]

    by_place : (found : Option ℕ) → position (λ octet. octet == 10) (drop place text) ≡ found
        → IsFront text (place + line_length (drop place text)) (number + 1)
    by_place None e =
        subst (λ (n : ℕ). IsFront text (place + n) (number + 1)) (sym (ap length_of e)) (last text place number line thereafter h some next other e)
    by_place (Some i) e =
        subst (λ (n : ℕ). IsFront text (place + n) (number + 1)) (sym (ap length_of e)) (ended text place number i line thereafter h some next other e)

-- The same, where the rest is that part of the text.
pub next_rest : (text rest : List ℕ) (place number : ℕ) (line thereafter : List ℕ) → rest ≡ drop place text → IsFront text place number
    → place < length text → lines rest ≡ line ∷ lines thereafter → is_mark line ≡ false → IsFront text (place + line_length rest) (number + 1)
next_rest text rest place number line thereafter is h some next other =
    subst (λ (l : List ℕ). IsFront text (place + line_length l) (number + 1)) (sym is)
    (next_front text place number line thereafter h some (ap lines (sym is) ∙ next) other)

-- ---- where the walk ends

pub none_found : (text : List ℕ) (place number : ℕ) → IsFront text place number → length text ≤ place
    → (list_any is_mark (lines text) ≡ false) × (number ≡ length (lines text) + 1)
none_found text place number h past =
    let whole : take place text ≡ text = grind (arith, common_steps) in
    (subst (λ (l : List ℕ). list_any is_mark (lines l) ≡ false) whole h.first, subst (λ (l : List ℕ). number ≡ length (lines l) + 1) whole h.at)

pub parts_found : (text : List ℕ) (place number : ℕ) (line thereafter : List ℕ) → IsFront text place number → place < length text
    → lines (drop place text) ≡ line ∷ lines thereafter → length thereafter < length (drop place text) → is_mark line ≡ true
    → AreParts text (take place text) thereafter number
parts_found text place number line thereafter h some next shorter mark =
    let lengths : length (drop place text) ≡ length text - place = grind (arith, common_steps) in
    record {
      cut = record {
        mark = line;
        is = mark;
        whole = ap lines (sym (take-append-drop place text)) ∙ h.cuts some (drop place text)
            ∙ ap (λ (l : List (List ℕ)). lines (take place text) ++ l) next;
        first = h.first;
      };
      at = h.at;
      short = let t : length (take place text) ≡ place = grind (arith, common_steps) in omega (arith, t, h.within);
      count = omega (arith, h.count, shorter, lengths, some);
    }
