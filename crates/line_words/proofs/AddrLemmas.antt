-- Texts of addresses.
use Rattle.std.proofs.Common.{◌≡◌, ℕ, ◌<◌, ◌≤◌, Bool, true, false, List, [], ◌∷◌, ◌++◌, refl, sym, subst, ◌∙◌, arith, inl, inr, Option, Some, None, nat_lt}
use Rattle.std.specs.Prelude.{IfSome, decimal}
use Rattle.std.specs.Char.{digit_value}
use Rattle.std.specs.Str.{IsAscii, IsUtf8}
use Rattle.std.specs.Str.Parse.{AllDigits}
use Rattle.std.specs.Net.Grammar.{IsDotted, IsGroupsAfter}
use Rattle.std.proofs.lemmas.Bool.{ltb-true, ltb-false, le-ltb}
use Rattle.std.proofs.lemmas.Fmt.{IsAscii-decimal}
use Rattle.std.proofs.lemmas.Option.{none-some}
use Rattle.std.proofs.lemmas.Str.{IsAscii-append, IsUtf8-from_ascii}
use Rattle.std.proofs.lemmas.Str.Ascii.{IsAscii-nil, IsAscii-cons}
use Rattle.mv_base.specs.AddrText.{IsAddrText, addr_of}
use Rattle.mv_base.specs.declared.addr.Addr.{Addr}
use Rattle.mv_base.specs.declared.addr.Addr.TheVariants.{V4, V6}
use Rattle.mv_base.proofs.AddrTextLemmas.{addr_read, addr_only}

-- ---- texts of addresses are ASCII

no_digit : (c : ℕ) → 123 ≤ c → digit_value c ≡ 36
no_digit c h =
    rw (
      le-ltb c 48 (omega arith),
      le-ltb c 58 (omega arith),
      le-ltb c 65 (omega arith),
      le-ltb c 91 (omega arith),
      le-ltb c 97 (omega arith),
      le-ltb c 123 h,
    ) refl

digit_is_ascii : (c : ℕ) (low : Bool) → nat_lt c 123 ≡ low → digit_value c < 16 → c < 128
digit_is_ascii c true e h = omega (arith, ltb-true c 123 e)
digit_is_ascii c false e h = absurd (omega (arith, no_digit c (ltb-false c 123 e), h))

digits_are_ascii : (text : List ℕ) → AllDigits 16 text → IsAscii text
digits_are_ascii [] h = IsAscii-nil
digits_are_ascii (c ∷ cs) h = IsAscii-cons c cs (digit_is_ascii c _ refl h.0) (digits_are_ascii cs h.1)

groups_are_ascii : (lead text segments : List ℕ) → IsAscii lead → IsGroupsAfter false lead text segments → IsAscii text
groups_are_ascii lead text [] l h = subst IsAscii (sym h) IsAscii-nil
groups_are_ascii lead text (s ∷ segments) l (inl h) =
    let colon = IsAscii-cons 58 [] (omega arith) IsAscii-nil in
    subst IsAscii (sym h.2) (IsAscii-append (lead ++ h.0) h.1 (IsAscii-append lead h.0 l (digits_are_ascii h.0 h.3.0.0.1))
    (groups_are_ascii (58 ∷ []) h.1 segments colon h.4))
groups_are_ascii lead text (s ∷ segments) l (inr h) = absurd cc

number_is_ascii : (n : ℕ) → n < 256 → IsAscii (decimal n)
number_is_ascii n h = IsAscii-decimal n (omega arith)

one_more_number : (front : List ℕ) (n : ℕ) → IsAscii front → n < 256 → IsAscii (front ++ 46 ∷ [] ++ decimal n)
one_more_number front n l h =
    IsAscii-append (front ++ 46 ∷ []) (decimal n) (IsAscii-append front (46 ∷ []) l (IsAscii-cons 46 [] (omega arith) IsAscii-nil))
    (number_is_ascii n h)

dotted_is_ascii : (text octets : List ℕ) → IsDotted text octets → IsAscii text
dotted_is_ascii text octets h =
    subst IsAscii (sym h.spelled) (one_more_number _ h.d
    (one_more_number _ h.c (one_more_number (decimal h.a) h.b (number_is_ascii h.a h.fit.0) h.fit.1) h.fit.2) h.fit.3)

text_is_ascii : (text : List ℕ) (addr : Addr) → IsAddrText text addr → IsAscii text
text_is_ascii text (V4 octets) h = dotted_is_ascii text octets h
text_is_ascii text (V6 octets) h = groups_are_ascii [] text h.0 IsAscii-nil h.2

-- ---- what is read of a text is the address that it writes

written : (text : List ℕ) (found : Option Addr) (addr : Addr) → found ≡ Some addr → IfSome found (IsAddrText text) → IsAddrText text addr
written text None addr e h = absurd (none-some addr e)
written text (Some own) addr e h = let same : own ≡ addr = cc in subst (IsAddrText text) same h

pub read_as : (text : List ℕ) (read found : Option Addr) → addr_of text ≡ found → IfSome read (IsAddrText text)
    → ((addr : Addr) → IsAddrText text addr → read ≡ Some addr) → read ≡ found
read_as text read (Some addr) e h only = only addr (written text (addr_of text) addr e (addr_read text))
read_as text None None e h only = refl
read_as text (Some addr) None e h only = absurd (none-some addr (sym e ∙ addr_only text addr h))

pub none_written : (text : List ℕ) (found : Option Addr) → addr_of text ≡ found → ¬ (IsUtf8 text) → found ≡ None
none_written text None e h = refl
none_written text (Some addr) e h =
    absurd (h (IsUtf8-from_ascii text (text_is_ascii text addr (written text (addr_of text) addr e (addr_read text)))))
