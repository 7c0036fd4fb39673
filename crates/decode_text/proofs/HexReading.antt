-- Hexadecimal text that is read octet by octet gives what the whole text writes.
use Rattle.std.proofs.Common.{◌≡◌, ℕ, ◌+◌, ◌*◌, ◌%◌, ◌<◌, ◌≤◌, true, false, ◌||◌, List, [], ◌∷◌, ◌++◌, length, take, drop, get_or, Option, Some, None, is_some, Result, Ok, Err, refl, sym, ap, subst, ◌∙◌, append_assoc, arith}
use Rattle.std.specs.List.{AllPass, filter, count_by}
use Rattle.std.proofs.lemmas.List.{append-nil, drop_more, length-append, take-append-drop, take_all, take_more}
use Rattle.std.proofs.lemmas.List.Elements.{All-append, All-cons, All-nil, filter-append}
use Rattle.std.proofs.lemmas.List.Sums.{length-filter}
use Rattle.hex.specs.Hex.{decode_of, decode_pairs, hex_digit_value, is_hex_digit, pair_value, ◌>>=◌}
use Rattle.hex.specs.declared.error.FromHexError.{FromHexError}
use Rattle.hex.proofs.HexLemmas.{decode_of-even, decode_of-ok}
use Rattle.hex.proofs.Pairs.{cons_byte, decode_pairs-err_pair, decode_pairs-ok_pair, prepend}
use Rattle.line_words.specs.declared.fault.Reason.TheVariants as reasons
use Rattle.decode_text.specs.HexText.{is_digit_or_white, is_white, fault_after, octets_of}
use Rattle.decode_text.specs.HexLaws.{FirstFault}
use Rattle.decode_text.specs.HexReading.{TakesDigit, Waits, ReadsFront}
use Rattle.decode_text.proofs.HexLaws.{digit_bounds, fault_told, none_other, pair_is, short_text, told, told_digits}

-- ---- one more pair

-- the octets of some digits in front of those of the digits after them
abbrev both : Result (List ℕ) FromHexError → Result (List ℕ) FromHexError → Result (List ℕ) FromHexError
both front rest = front >>= (λ octets. prepend octets rest)

both_cons : (v : ℕ) (front rest : Result (List ℕ) FromHexError) → both (cons_byte v front) rest ≡ cons_byte v (both front rest)
both_cons v (Ok xs) (Ok ys) = refl
both_cons v (Ok xs) (Err e) = refl
both_cons v (Err e) rest = refl

after_pair : (i x y : ℕ) (digits more : List ℕ) (rest : Result (List ℕ) FromHexError) (pair : Result ℕ FromHexError) → pair_value x y i ≡ pair
    → decode_pairs (i + 2) (digits ++ more) ≡ both (decode_pairs (i + 2) digits) rest
    → decode_pairs i (x ∷ y ∷ (digits ++ more)) ≡ both (decode_pairs i (x ∷ y ∷ digits)) rest
after_pair i x y digits more rest (Ok v) is thereafter =
    decode_pairs-ok_pair i x y v (digits ++ more) is ∙ ap (cons_byte v) thereafter ∙ sym (both_cons v (decode_pairs (i + 2) digits) rest)
    ∙ ap (λ (r : Result (List ℕ) FromHexError). both r rest) (sym (decode_pairs-ok_pair i x y v digits is))
after_pair i x y digits more rest (Err e) is thereafter =
    decode_pairs-err_pair i x y e (digits ++ more) is
    ∙ ap (λ (r : Result (List ℕ) FromHexError). both r rest) (sym (decode_pairs-err_pair i x y e digits is))

pair_after : (i : ℕ) (digits : List ℕ) (a b v w : ℕ) → hex_digit_value a ≡ Some v → hex_digit_value b ≡ Some w → length digits % 2 ≡ 0
    → decode_pairs i (digits ++ a ∷ b ∷ []) ≡ both (decode_pairs i digits) (Ok ((v * 16 + w) ∷ []))
unfolding decode_pairs
pair_after i [] a b v w h k even = decode_pairs-ok_pair i a b (v * 16 + w) [] (pair_is a b i v w h k)
pair_after i (x ∷ []) a b v w h k even = absurd (omega arith)
pair_after i (x ∷ y ∷ digits) a b v w h k even =
    after_pair i x y digits (a ∷ b ∷ []) (Ok ((v * 16 + w) ∷ [])) (pair_value x y i) refl (pair_after (i + 2) digits a b v w h k (omega arith))

-- A pair after digits that are those of octets is one octet more.
pair_more : (digits octets : List ℕ) (a b v w : ℕ) → hex_digit_value a ≡ Some v → hex_digit_value b ≡ Some w → decode_of digits ≡ Ok octets
    → decode_of (digits ++ a ∷ b ∷ []) ≡ Ok (octets ++ (v * 16 + w) ∷ [])
pair_more digits octets a b v w h k are =
    let even : length digits % 2 ≡ 0 = omega (arith, (decode_of-ok digits octets are).2) in
    let even_more : length (digits ++ a ∷ b ∷ []) % 2 ≡ 0 = omega (arith, length-append digits (a ∷ b ∷ [])) in
    decode_of-even (digits ++ a ∷ b ∷ []) even_more ∙ pair_after 0 digits a b v w h k even
    ∙ ap (λ (r : Result (List ℕ) FromHexError). both r (Ok ((v * 16 + w) ∷ []))) (sym (decode_of-even digits even) ∙ are)

-- ---- one more octet

-- what stands in front is clean, and so is the octet
clean_more : (front : List ℕ) (b : ℕ) → AllPass is_digit_or_white front → is_digit_or_white b ≡ true → AllPass is_digit_or_white (front ++ b ∷ [])
clean_more front b clean is =
    let kept : ℕ → Type 0 = λ c. is_digit_or_white c ≡ true in
    All-append kept front (b ∷ []) clean (All-cons kept b [] is (All-nil kept))

digit_alone : (b v : ℕ) → hex_digit_value b ≡ Some v → filter is_hex_digit (b ∷ []) ≡ b ∷ []
digit_alone b v h = rw h refl

none_alone : (b : ℕ) → hex_digit_value b ≡ None → filter is_hex_digit (b ∷ []) ≡ []
none_alone b h = rw h refl

digit_read : (front old : List ℕ) (high : Option ℕ) (b value : ℕ) (new : List ℕ) (waiting : Option ℕ) → hex_digit_value b ≡ Some value
    → ReadsFront front old high → TakesDigit old high value new waiting → ReadsFront (front ++ b ∷ []) new waiting
digit_read front old None b value new waiting h r (octets, next) = record {
  clean = clean_more front b r.clean (ap (λ (o : Option ℕ). is_some o || is_white b) h);
  pairs = r.pairs;
  last = b ∷ [];
  digits = filter-append is_hex_digit front (b ∷ []) ∙ ap (λ (xs : List ℕ). filter is_hex_digit front ++ xs) (digit_alone b value h)
      ∙ ap (λ (xs : List ℕ). xs ++ b ∷ []) (r.digits ∙ ap (λ (xs : List ℕ). r.pairs ++ xs) r.waits ∙ append-nil r.pairs);
  decoded = r.decoded ∙ ap (λ (xs : List ℕ). Ok xs) (sym octets);
  waits = subst (λ (o : Option ℕ). Waits o (b ∷ [])) (sym next) (b, h, refl);
}
digit_read front old (Some high) b value new waiting h r (octets, next) =
    let first = r.waits.0 in
    record {
      clean = clean_more front b r.clean (ap (λ (o : Option ℕ). is_some o || is_white b) h);
      pairs = r.pairs ++ first ∷ b ∷ [];
      last = [];
      digits = filter-append is_hex_digit front (b ∷ []) ∙ ap (λ (xs : List ℕ). filter is_hex_digit front ++ xs) (digit_alone b value h)
          ∙ ap (λ (xs : List ℕ). xs ++ b ∷ []) (r.digits ∙ ap (λ (xs : List ℕ). r.pairs ++ xs) r.waits.2) ∙ append_assoc r.pairs (first ∷ []) (b ∷ [])
          ∙ sym (append-nil (r.pairs ++ first ∷ b ∷ []));
      decoded = pair_more r.pairs old first b high value r.waits.1 h r.decoded ∙ ap (λ (xs : List ℕ). Ok xs) (sym octets);
      waits = subst (λ (o : Option ℕ). Waits o []) (sym next) refl;
    }

white_read : (front octets : List ℕ) (high : Option ℕ) (b : ℕ) → hex_digit_value b ≡ None → is_white b ≡ true → ReadsFront front octets high
    → ReadsFront (front ++ b ∷ []) octets high
white_read front octets high b h white r = record {
  clean = clean_more front b r.clean (ap (λ (o : Option ℕ). is_some o || is_white b) h ∙ white);
  pairs = r.pairs;
  last = r.last;
  digits = filter-append is_hex_digit front (b ∷ []) ∙ ap (λ (xs : List ℕ). filter is_hex_digit front ++ xs) (none_alone b h)
      ∙ append-nil (filter is_hex_digit front) ∙ r.digits;
  decoded = r.decoded;
  waits = r.waits;
}

-- What a table of the values of all octets has at one is that octet's value.
pub value_at : (values : List (Option ℕ)) (place b : ℕ) (o : Option ℕ) → ((k : ℕ) → k < 256 → get_or values k None ≡ hex_digit_value k) → place ≡ b
    → b < 256 → get_or values place None ≡ o → hex_digit_value b ≡ o
value_at values place b o each same fits is = sym (each b fits) ∙ ap (λ (k : ℕ). get_or values k None) (sym same) ∙ is

-- A digit's value is below 16.
pub value_fits : (b value : ℕ) → hex_digit_value b ≡ Some value → value < 16
value_fits b value h = (digit_bounds b value h).1

-- A digit that is taken is read.
pub digit_taken : (text old : List ℕ) (high : Option ℕ) (place value : ℕ) (new : List ℕ) (waiting : Option ℕ) → place < length text
    → ReadsFront (take place text) old high → hex_digit_value (get_or text place 0) ≡ Some value → TakesDigit old high value new waiting
    → ReadsFront (take (place + 1) text) new waiting
digit_taken text old high place value new waiting more r h t =
    subst (λ (front : List ℕ). ReadsFront front new waiting) (sym (take_more text place 0 more))
    (digit_read (take place text) old high (get_or text place 0) value new waiting h r t)

-- White space is read.
pub white_taken : (text octets : List ℕ) (high : Option ℕ) (place : ℕ) → place < length text → ReadsFront (take place text) octets high
    → hex_digit_value (get_or text place 0) ≡ None → is_white (get_or text place 0) ≡ true → ReadsFront (take (place + 1) text) octets high
white_taken text octets high place more r h white =
    subst (λ (front : List ℕ). ReadsFront front octets high) (sym (take_more text place 0 more))
    (white_read (take place text) octets high (get_or text place 0) h white r)

-- ---- what a text gives

-- Nothing is read.
pub nothing_read : (octets : List ℕ) → octets ≡ [] → ReadsFront [] octets None
unfolding decode_pairs
nothing_read octets none = record {
  clean = All-nil (λ c. is_digit_or_white c ≡ true);
  pairs = [];
  last = [];
  digits = refl;
  decoded = ap (λ (xs : List ℕ). Ok xs) (sym none);
  waits = refl;
}

-- What was read as far as the end is the text.
pub all_passed : (text octets : List ℕ) (high : Option ℕ) (place : ℕ) → length text ≤ place → ReadsFront (take place text) octets high
    → ReadsFront text octets high
all_passed text octets high place ends r = subst (λ (front : List ℕ). ReadsFront front octets high) (take_all place text ends) r

-- A text that is read gives its octets.
pub all_read : (text octets : List ℕ) (high : Option ℕ) → length text ≤ 16777216 → ReadsFront text octets high → high ≡ None
    → octets_of text ≡ Ok octets
all_read text octets high short r none =
    let last : r.last ≡ [] = subst (λ (o : Option ℕ). Waits o r.last) none r.waits in
    let digits : filter is_hex_digit text ≡ r.pairs = r.digits ∙ ap (λ (xs : List ℕ). r.pairs ++ xs) last ∙ append-nil r.pairs in
    short_text text short ∙ ap (told text) (none_other text r.clean) ∙ ap (told_digits text) (ap (λ (xs : List ℕ). decode_of xs) digits ∙ r.decoded)

-- A text at whose end a digit waits has its fault there.
pub half_read : (text octets : List ℕ) (high : Option ℕ) (value : ℕ) → length text ≤ 16777216 → ReadsFront text octets high → high ≡ Some value
    → octets_of text ≡ Err (fault_after text reasons.Hex)
half_read text octets high value short r some =
    let waits : Waits (Some value) r.last = subst (λ (o : Option ℕ). Waits o r.last) some r.waits in
    let even = (decode_of-ok r.pairs octets r.decoded).2 in
    let size : length (filter is_hex_digit text) ≡ length r.pairs + 1 =
    ap (λ (xs : List ℕ). length xs) (r.digits ∙ ap (λ (xs : List ℕ). r.pairs ++ xs) waits.2) ∙ length-append r.pairs (waits.0 ∷ []) in
    let odd : count_by is_hex_digit text % 2 ≡ 1 = omega (arith, length-filter is_hex_digit text, size, even) in
    fault_told text (fault_after text reasons.Hex) (FirstFault.odd short r.clean odd refl)

-- A text has its fault at the first octet that is neither a digit nor white space.
pub other_met : (text octets : List ℕ) (high : Option ℕ) (place : ℕ) → length text ≤ 16777216 → place < length text
    → ReadsFront (take place text) octets high → hex_digit_value (get_or text place 0) ≡ None → is_white (get_or text place 0) ≡ false
    → octets_of text ≡ Err (fault_after (take place text) reasons.Hex)
other_met text octets high place short more r h not_white =
    let b = get_or text place 0 in
    let front = take place text in
    let parts : text ≡ front ++ (b ∷ drop (place + 1) text) =
    sym (take-append-drop place text) ∙ ap (λ (xs : List ℕ). front ++ xs) (drop_more text place 0 more) in
    let other : is_digit_or_white b ≡ false = ap (λ (o : Option ℕ). is_some o || is_white b) h ∙ not_white in
    fault_told text (fault_after front reasons.Hex) (FirstFault.other front b (drop (place + 1) text) short parts r.clean other refl)
