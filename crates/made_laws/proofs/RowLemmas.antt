-- Lines of words: how a text of them is cut into lines, and what each line is to the reader.
use Rattle.std.proofs.Common.{◌≡◌, ◌⊎◌, ℕ, ◌+◌, ◌-◌, ◌*◌, ◌<◌, ◌≤◌, ◌==◌, ◌&&◌, Bool, true, false, nat_lt, nat_le, List, [], ◌∷◌, ◌++◌, length, get_or, None, refl, sym, ap, subst, ◌∙◌, arith, inl, inr, append_assoc, append-nil, length-append}
use Rattle.std.specs.Prelude.{Ok, position}
use Rattle.std.specs.List.{All, list_all, slice_split, position_or_len}
use Rattle.std.specs.Str.Lines.{lines, lines_of_parts, strip_carriage_return}
use Rattle.std.proofs.lemmas.Bool.{and_parts, and_from, ne_eqb, le-ltb}
use Rattle.std.proofs.lemmas.Bool.Decides.{nat_tests}
use Rattle.std.proofs.lemmas.Bool.{cases_lt}
use Rattle.std.proofs.lemmas.List.{get_or_past}
use Rattle.std.proofs.lemmas.List.Elements.{All-nil, All-cons}
use Rattle.std.proofs.lemmas.List.Folds.{list_all-append}
use Rattle.std.proofs.lemmas.List.Sums.{position_or_len_is}
use Rattle.std.proofs.lemmas.List.Splits.{slice_split_at, slice_split_none, length-slice_split}
use Rattle.line_words.specs.Words.{Placed, placed, words_of}
use Rattle.scenario_lines.specs.declared.scenario_draft.line.Line.{Line}
use Rattle.scenario_lines.specs.scenario_draft.Drafted.{Drafted}
use Rattle.scenario_lines.specs.scenario_draft.Adding.{added}
use Rattle.line_words.specs.Lines.{is_blank, is_outside, row_of, words_in}
use Rattle.scenario_text.specs.Grammar.{line_of, words_line}
use Rattle.scenario_text.specs.Faults.{Says}

-- ---- words

-- whether the octet is one of a word: from the octet after the space to the tilde
abbrev pub is_word_octet : ℕ → Bool
is_word_octet b = nat_lt 32 b && nat_le b 126

-- A word has an octet, at most 100, and none that is a space or outside.
pub record IsWord (word : List ℕ) : Type 0 where
  pub some : 0 < length word
  pub few : length word ≤ 100
  pub plain : list_all is_word_octet word ≡ true

abbrev pub AreWords : List (List ℕ) → Type 0
AreWords [] = Unit {0}
AreWords (word ∷ more) = IsWord word × AreWords more

-- words with a space between them
abbrev pub joined : List (List ℕ) → List ℕ
joined [] = []
joined (word ∷ []) = word
joined (word ∷ next ∷ more) = word ++ 32 ∷ joined (next ∷ more)

-- the same with a line feed after it
abbrev pub row_text : List (List ℕ) → List ℕ
row_text [] = 10 ∷ []
row_text (word ∷ []) = word ++ 10 ∷ []
row_text (word ∷ next ∷ more) = word ++ 32 ∷ row_text (next ∷ more)

-- words with the columns that they begin at, the first at that one
abbrev pub with_columns : ℕ → List (List ℕ) → List Placed
with_columns column [] = []
with_columns column (word ∷ more) = (record { column = column; text = word }) ∷ with_columns (column + (length word + 1)) more

-- texts one after another, put together from the front, and from the end
abbrev pub glued : List ℕ → List (List ℕ) → List ℕ
glued first [] = first
glued first (next ∷ more) = glued (first ++ next) more

abbrev pub strung : List ℕ → List (List ℕ) → List ℕ
strung first [] = first
strung first (next ∷ more) = first ++ strung next more

strung_first : (first next : List ℕ) (more : List (List ℕ)) → strung (first ++ next) more ≡ first ++ strung next more
strung_first first next [] = refl
strung_first first next (third ∷ more) = append_assoc first next (strung third more)

pub glued_strung : (first : List ℕ) (more : List (List ℕ)) → glued first more ≡ strung first more
glued_strung first [] = refl
glued_strung first (next ∷ more) = glued_strung (first ++ next) more ∙ strung_first first next more

-- the line feed comes after the words
row_text_is : (words : List (List ℕ)) (rest : List ℕ) → row_text words ++ rest ≡ joined words ++ 10 ∷ rest
row_text_is [] rest = refl
row_text_is (word ∷ []) rest = append_assoc word (10 ∷ []) rest
row_text_is (word ∷ next ∷ more) rest =
    append_assoc word (32 ∷ row_text (next ∷ more)) rest ∙ ap (λ (l : List ℕ). word ++ 32 ∷ l) (row_text_is (next ∷ more) rest)
    ∙ sym (append_assoc word (32 ∷ joined (next ∷ more)) (10 ∷ rest))

-- ---- octets of a line

abbrev is_line_octet : ℕ → Bool
is_line_octet b = nat_le 32 b && nat_le b 126

line_octet : (b : ℕ) → is_word_octet b ≡ true → is_line_octet b ≡ true
line_octet b h = grind (arith, nat_tests)

all_weaker : (p q : ℕ → Bool) → ((b : ℕ) → p b ≡ true → q b ≡ true) → (xs : List ℕ) → list_all p xs ≡ true → list_all q xs ≡ true
all_weaker p q weaker [] h = refl
all_weaker p q weaker (x ∷ xs) h =
    let parts = and_parts (p x) (list_all p xs) h in
    and_from (q x) (list_all q xs) (weaker x parts.0) (all_weaker p q weaker xs parts.1)

pub all_append : (p : ℕ → Bool) (xs ys : List ℕ) → list_all p xs ≡ true → list_all p ys ≡ true → list_all p (xs ++ ys) ≡ true
all_append p xs ys a b = list_all-append p xs ys ∙ and_from _ _ a b

joined_plain : (words : List (List ℕ)) → AreWords words → list_all is_line_octet (joined words) ≡ true
joined_plain [] h = refl
joined_plain (word ∷ []) h = all_weaker is_word_octet is_line_octet line_octet word h.0.plain
joined_plain (word ∷ next ∷ more) h =
    all_append is_line_octet word (32 ∷ joined (next ∷ more)) (all_weaker is_word_octet is_line_octet line_octet word h.0.plain)
    (joined_plain (next ∷ more) h.1)

joined_short : (words : List (List ℕ)) → AreWords words → length (joined words) ≤ 101 * length words
joined_short [] h = omega arith
joined_short (word ∷ []) h = omega (arith, h.0.few)
joined_short (word ∷ next ∷ more) h =
    omega (arith, h.0.few, joined_short (next ∷ more) h.1, length-append word (32 ∷ joined (next ∷ more)))

-- ---- the cut into lines

-- An octet of a line is none of these.
not_octet : (other b : ℕ) → (other < 32) ⊎ (126 < other) → is_line_octet b ≡ true → (b == other) ≡ false
not_octet other b (inl low) h = grind (arith, nat_tests)
not_octet other b (inr high) h = grind (arith, nat_tests)

pub none_of : (p q : ℕ → Bool) → ((b : ℕ) → p b ≡ true → q b ≡ false) → (xs : List ℕ) → list_all p xs ≡ true → All (λ x. q x ≡ false) xs
none_of p q none [] h = All-nil (λ x. q x ≡ false)
none_of p q none (x ∷ xs) h =
    let parts = and_parts (p x) (list_all p xs) h in
    All-cons (λ x. q x ≡ false) x xs (none x parts.0) (none_of p q none xs parts.1)

-- parts after the first one
more_parts : (x : List ℕ) (parts : List (List ℕ)) → 0 < length parts → lines_of_parts (x ∷ parts) ≡ strip_carriage_return x ∷ lines_of_parts parts
more_parts x [] h = absurd (omega arith)
more_parts x (y ∷ more) h = refl

some_parts : (xs : List ℕ) → 0 < length (slice_split (λ b. b == 10) xs)
some_parts xs = omega (arith, length-slice_split (λ b. b == 10) xs)

last_octet : (p : ℕ → Bool) (xs : List ℕ) (i : ℕ) → (p 0 ≡ false) → All (λ x. p x ≡ false) xs → p (get_or xs i 0) ≡ false
last_octet p xs i z h = by_place (cases_lt i (length xs))
  where
    by_place : (i < length xs) ⊎ (length xs ≤ i) → p (get_or xs i 0) ≡ false
    by_place (inl within) = h i 0 within
    by_place (inr past) = ap p (get_or_past xs i 0 past) ∙ z

no_return : (line : List ℕ) → list_all is_line_octet line ≡ true → strip_carriage_return line ≡ line
no_return line h =
    rw (last_octet (λ b. b == 13) line (length line - 1) refl (none_of is_line_octet (λ b. b == 13) (λ b. not_octet 13 b (inl (omega arith))) line h))
    refl

-- Octets of a line with a line feed after them are the first line.
first_line : (line rest : List ℕ) → list_all is_line_octet line ≡ true → lines (line ++ 10 ∷ rest) ≡ line ∷ lines rest
first_line line rest h =
    ap lines_of_parts (slice_split_at (λ b. b == 10) line 10 rest
    (none_of is_line_octet (λ b. b == 10) (λ b. not_octet 10 b (inl (omega arith))) line h) refl)
    ∙ more_parts line (slice_split (λ b. b == 10) rest) (some_parts rest)
    ∙ ap (λ (l : List ℕ). l ∷ lines rest) (no_return line h)

-- ---- the cut into words

not_space : (b : ℕ) → is_word_octet b ≡ true → (b == 32) ≡ false
not_space b h = grind (arith, nat_tests)

word_parts : (word : List ℕ) → IsWord word → All (λ b. (b == 32) ≡ false) word
word_parts word h = none_of is_word_octet (λ b. b == 32) not_space word h.plain

placed_first : (column : ℕ) (word : List ℕ) (parts : List (List ℕ)) → 0 < length word
    → placed column (word ∷ parts) ≡ (record { column = column; text = word }) ∷ placed (column + (length word + 1)) parts
placed_first column word parts h =
    let e : (length word == 0) ≡ false = ne_eqb (length word) 0 (λ z. omega (arith, z)) in
    rw e refl

placed_joined : (column : ℕ) (words : List (List ℕ)) → 0 < length words → AreWords words
    → placed column (slice_split (λ b. b == 32) (joined words)) ≡ with_columns column words
placed_joined column [] some h = absurd (omega arith)
placed_joined column (word ∷ []) some h =
    ap (placed column) (slice_split_none (λ b. b == 32) word (word_parts word h.0)) ∙ placed_first column word [] h.0.some
placed_joined column (word ∷ next ∷ more) some h =
    ap (placed column) (slice_split_at (λ b. b == 32) word 32 (joined (next ∷ more)) (word_parts word h.0) refl)
    ∙ placed_first column word (slice_split (λ b. b == 32) (joined (next ∷ more))) h.0.some
    ∙ ap (λ (l : List Placed). (record { column = column; text = word }) ∷ l)
    (placed_joined (column + (length word + 1)) (next ∷ more) (omega arith) h.1)

words_joined : (words : List (List ℕ)) → 0 < length words → AreWords words → words_of (joined words) ≡ with_columns 1 words
unfolding words_of
words_joined words some h = placed_joined 1 words some h

-- ---- what the line says

-- whether the text begins with another octet than a number sign and a space
abbrev pub begins : List ℕ → Bool
begins [] = false
begins (b ∷ more) = nat_lt 35 b

not_blank : (text : List ℕ) → begins text ≡ true → is_blank text ≡ false
unfolding is_blank
not_blank [] h = absurd cc
not_blank (b ∷ more) h =
    let sign : (b == 35) ≡ false = grind (arith, nat_tests) in
    let space : (b == 32) ≡ false = grind (arith, nat_tests) in
    rw (sign, space) refl

joined_begins : (word : List ℕ) (more : List (List ℕ)) → begins word ≡ true → begins (joined (word ∷ more)) ≡ true
joined_begins [] more h = absurd cc
joined_begins (b ∷ word) [] h = h
joined_begins (b ∷ word) (next ∷ more) h = h

is_inside : (b : ℕ) → is_line_octet b ≡ true → is_outside b ≡ false
is_inside b h = grind (arith, nat_tests)

position_end : (p : ℕ → Bool) (text : List ℕ) → All (λ x. p x ≡ false) text → position_or_len p text ≡ length text
position_end p text h = position_or_len_is p text (length text) 0 (omega arith) (λ k within. h k 0 within) (λ within. absurd (omega arith))

position_none : (p : ℕ → Bool) (text : List ℕ) → All (λ x. p x ≡ false) text → position p text ≡ None
position_none p text h = rw (position_end p text h, le-ltb (length text) (length text) (omega arith)) refl

none_outside : (text : List ℕ) → list_all is_line_octet text ≡ true → position is_outside text ≡ None
none_outside text h = position_none is_outside text (none_of is_line_octet is_outside is_inside text h)

-- A line of that many octets of a line, whose words are these, says what its words say.
line_said : (draft : Drafted) (number : ℕ) (text : List ℕ) (words : List Placed) (said : Line) → is_blank text ≡ false → length text ≤ 4096
    → position is_outside text ≡ None → words_of text ≡ words
    → words_line draft (row_of number text) words ≡ Ok said → line_of draft number text ≡ Ok said
unfolding line_of words_in
line_said draft number text words said blank short inside cut h =
    let e : nat_lt 4096 (length text) ≡ false = grind (arith, nat_tests) in
    rw (blank, e, inside, cut) h

-- ---- texts of lines

-- The text is some lines, each with a line feed. They are without fault, and take the old draft to the new one.
pub record Reads (old : Drafted) (number : ℕ) (text : List ℕ) (new : Drafted) (after : ℕ) : Type 0 where
  pub rows : List (List ℕ)
  pub split : (rest : List ℕ) → lines (text ++ rest) ≡ rows ++ lines rest
  pub says : Says old number rows new
  pub count : number + length rows ≡ after
  pub short : length text ≤ 4097 * length rows

pub reads_none : (old : Drafted) (number : ℕ) → Reads old number [] old number
reads_none old number = record { rows = []; split = λ rest. refl; says = refl; count = omega arith; short = omega arith }

says_then : (old middle new : Drafted) (number : ℕ) (front back : List (List ℕ)) → Says old number front middle
    → Says middle (number + length front) back new → Says old number (front ++ back) new
says_then old middle new number [] back a b =
    let n : number + 0 ≡ number = omega arith in
    subst (λ (d : Drafted). Says d number back new) a (subst (λ (k : ℕ). Says middle k back new) n b)
says_then old middle new number (row ∷ front) back a b =
    let n : number + length (row ∷ front) ≡ (number + 1) + length front = omega arith in
    (a.0, a.1, says_then (added old number a.0) middle new (number + 1) front back a.2 (subst (λ (k : ℕ). Says middle k back new) n b))

-- One text after another.
pub reads_then : (old middle new : Drafted) (number between after : ℕ) (first second : List ℕ) → Reads old number first middle between
    → Reads middle between second new after → Reads old number (first ++ second) new after
reads_then old middle new number between after first second a b = record {
  rows = a.rows ++ b.rows;
  split = λ rest. ap lines (append_assoc first second rest) ∙ a.split (second ++ rest) ∙ ap (λ (l : List (List ℕ)). a.rows ++ l) (b.split rest)
      ∙ sym (append_assoc a.rows b.rows (lines rest));
  says = says_then old middle new number a.rows b.rows a.says (subst (λ (k : ℕ). Says middle k b.rows new) (sym a.count) b.says);
  count = omega (arith, a.count, b.count, length-append a.rows b.rows);
  short = omega (arith, a.short, b.short, length-append a.rows b.rows, length-append first second);
}

-- Words that say something are a line of it.
pub reads_row : (draft : Drafted) (number : ℕ) (first : List ℕ) (rest : List (List ℕ)) (said : Line) → AreWords (first ∷ rest) → length rest ≤ 20
    → begins first ≡ true
    → words_line draft (row_of number (joined (first ∷ rest))) (with_columns 1 (first ∷ rest)) ≡ Ok said
    → Reads draft number (row_text (first ∷ rest)) (added draft number said) (number + 1)
reads_row draft number first rest said words few b h =
    let line : List ℕ = joined (first ∷ rest) in
    let plain : list_all is_line_octet (joined (first ∷ rest)) ≡ true = joined_plain (first ∷ rest) words in
    let feed : row_text (first ∷ rest) ≡ joined (first ∷ rest) ++ 10 ∷ [] =
    sym (append-nil (row_text (first ∷ rest))) ∙ row_text_is (first ∷ rest) [] in
    record {
      rows = joined (first ∷ rest) ∷ [];
      split = λ more. ap lines (row_text_is (first ∷ rest) more) ∙ first_line (joined (first ∷ rest)) more plain;
      says = (
        said,
        line_said draft number (joined (first ∷ rest)) (with_columns 1 (first ∷ rest)) said
            (not_blank (joined (first ∷ rest)) (joined_begins first rest b)) (omega (arith, joined_short (first ∷ rest) words))
            (none_outside (joined (first ∷ rest)) plain) (words_joined (first ∷ rest) (omega arith) words) h,
        refl,
      );
      count = refl;
      short = omega (arith, joined_short (first ∷ rest) words, ap length feed, length-append (joined (first ∷ rest)) (10 ∷ []));
    }
