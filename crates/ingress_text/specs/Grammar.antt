-- The grammar of a text: what each line says, given what the lines before it said, or its first fault.
use Rattle.std.specs.Prelude.{ℕ, ◌+◌, ◌&&◌, Bool, true, false, nat_eq, nat_le, nat_lt, List, [], ◌∷◌, length, codes}
use Rattle.std.specs.Prelude.{Option, None, Some, Result, Ok, Err, if◌then◌else◌}
use Rattle.std.specs.Int.{w32, from_be_bytes}
use Rattle.std.specs.Str.Lines.{lines}
use Rattle.std.specs.Cmp.Lexicographic.{pointwise}
use Rattle.mv_base.specs.Number.{◌>>?◌, only_if, number_of}
use Rattle.mv_base.specs.Dotted.{dotted_of}
use Rattle.line_words.specs.declared.fault.Reason.TheVariants as reasons
use Rattle.line_words.specs.declared.fault.TextFault.{TextFault}
use Rattle.line_words.specs.declared.words.Row.{Row}
use Rattle.line_words.specs.Words.{Placed}
use Rattle.line_words.specs.Lines.{row_of, words_in}
use Rattle.line_words.specs.Forms.{fault, ◌>>=◌, or_fault, payload_at}
use Rattle.ingress_text.specs.declared.input.Input.{Input}
use Rattle.ingress_text.specs.declared.input.Role.{Role}
use Rattle.ingress_text.specs.declared.input.Role.TheVariants as roles
use Rattle.ingress_text.specs.Rooted.{Rooted}
use Rattle.ingress_text.specs.declared.input.Said.{Said}
use Rattle.ingress_text.specs.declared.input.Said.TheVariants as says
use Rattle.ingress_text.specs.declared.input.Step.{Step}
use Rattle.ingress_text.specs.declared.input.Step.TheVariants as steps
use Rattle.ingress_text.specs.Drafted.{Drafted, nothing, role_at, stepped, input_at}
use Rattle.ingress_text.specs.Root.{root_of}

-- ---- words

-- a word that writes an address of IPv4, dotted
unfoldable pub address_at : Row → Placed → Result (List ℕ) TextFault
address_at row word = or_fault (dotted_of word.text) row word reasons.Address

-- the label that a text writes: 16 to 1,048,575, since those below are reserved (RFC 3032 section 2.1)
unfoldable pub label_of : List ℕ → Option ℕ
label_of text = number_of text >>? λ number. only_if (nat_le 16 number && nat_le number 1048575) number

-- the fault of a line with too few words after the first one, or with more than two
abbrev pub count_fault : Row → List Placed → TextFault
count_fault row (a ∷ b ∷ extra ∷ more) = record { line = row.number; column = extra.column; reason = reasons.Count }
count_fault row few = record { line = row.number; column = row.after; reason = reasons.Count }

-- ---- `root ADDR HEX`

unfoldable pub root_words : Row → Placed → Placed → Result Step TextFault
root_words row a b =
    address_at row a >>= λ addr. payload_at row b >>= λ octets.
    or_fault (root_of addr octets) row b reasons.Root >>= λ root. Ok (steps.Root root)

unfoldable pub root_line : Row → List Placed → Result Step TextFault
root_line row [] = fault row.number row.after reasons.Count
root_line row (a ∷ []) = fault row.number row.after reasons.Count
root_line row (a ∷ b ∷ []) = root_words row a b
root_line row (a ∷ b ∷ c ∷ more) = fault row.number c.column reasons.Count

-- the fault of a further such line
unfoldable pub root_again : Row → Placed → List Placed → TextFault
root_again row first [] = record { line = row.number; column = row.after; reason = reasons.Count }
root_again row first (a ∷ []) = record { line = row.number; column = row.after; reason = reasons.Count }
root_again row first (a ∷ b ∷ []) = record { line = row.number; column = first.column; reason = reasons.Again }
root_again row first (a ∷ b ∷ c ∷ more) = record { line = row.number; column = c.column; reason = reasons.Count }

-- ---- `leaf ADDR LABEL` and `from ADDR HEX`

-- whether a peer does something else than this
abbrev pub is_other : Role → Option Role → Bool
is_other role None = false
is_other roles.Leaf (Some roles.Leaf) = false
is_other roles.From (Some roles.From) = false
is_other roles.Leaf (Some roles.From) = true
is_other roles.From (Some roles.Leaf) = true

-- the address of a peer of which no earlier line says that it does something else
unfoldable pub claimed : Drafted → Role → Row → Placed → Result (List ℕ) TextFault
claimed draft role row word = address_at row word >>= λ addr.
    if is_other role (role_at draft.lines (from_be_bytes w32 addr)) then fault row.number word.column reasons.Again else Ok addr

-- what is said of a peer, which is not the root itself
abbrev pub distinct : Rooted → List ℕ → Row → Placed → Said → Result Step TextFault
distinct root addr row word said =
    if pointwise nat_eq root.request.root addr then fault row.number word.column reasons.Same else Ok (steps.Said said)

unfoldable pub leaf_words : Drafted → Rooted → Row → Placed → Placed → Result Step TextFault
leaf_words draft root row a b =
    claimed draft roles.Leaf row a >>= λ leaf. or_fault (label_of b.text) row b reasons.Number >>= λ label.
    distinct root leaf row a (says.Leaf leaf label)

unfoldable pub leaf_line : Drafted → Rooted → Row → List Placed → Result Step TextFault
leaf_line draft root row [] = fault row.number row.after reasons.Count
leaf_line draft root row (a ∷ []) = fault row.number row.after reasons.Count
leaf_line draft root row (a ∷ b ∷ []) = leaf_words draft root row a b
leaf_line draft root row (a ∷ b ∷ c ∷ more) = fault row.number c.column reasons.Count

unfoldable pub from_words : Drafted → Rooted → Row → Placed → Placed → Result Step TextFault
from_words draft root row a b =
    claimed draft roles.From row a >>= λ peer. payload_at row b >>= λ octets.
    distinct root peer row a (says.From peer octets)

unfoldable pub from_line : Drafted → Rooted → Row → List Placed → Result Step TextFault
from_line draft root row [] = fault row.number row.after reasons.Count
from_line draft root row (a ∷ []) = fault row.number row.after reasons.Count
from_line draft root row (a ∷ b ∷ []) = from_words draft root row a b
from_line draft root row (a ∷ b ∷ c ∷ more) = fault row.number c.column reasons.Count

-- ---- lines

-- the first line is that of the root
unfoldable pub first_line : Row → Placed → List Placed → Result Step TextFault
first_line row first rest =
    if pointwise nat_eq first.text (codes "root") then root_line row rest else fault row.number 1 reasons.Root

-- a line after it
unfoldable pub next_line : Drafted → Rooted → Row → Placed → List Placed → Result Step TextFault
next_line draft root row first rest =
    if pointwise nat_eq first.text (codes "leaf") then leaf_line draft root row rest else
    if pointwise nat_eq first.text (codes "from") then from_line draft root row rest else
    if pointwise nat_eq first.text (codes "root") then Err (root_again row first rest) else
    fault row.number first.column reasons.Word

-- a line by its words
unfoldable pub words_line : Drafted → Row → List Placed → Result Step TextFault
words_line draft row [] = Ok steps.Blank
words_line draft row (first ∷ rest) =
    elim draft.root [ None ↦ first_line row first rest | Some root ↦ next_line draft root row first rest ]

-- what a line says, by its words
unfoldable pub line_of : Drafted → ℕ → List ℕ → Result Step TextFault
line_of draft number octets = words_in number octets >>= λ words. words_line draft (row_of number octets) words

-- what the lines from that number on say, after what was said
abbrev pub input_from : Drafted → ℕ → List (List ℕ) → Result Input TextFault
input_from draft number [] = elim (input_at draft) [ Some input ↦ Ok input | None ↦ fault number 1 reasons.Root ]
input_from draft number (octets ∷ more) = line_of draft number octets >>= λ step. input_from (stepped draft number step) (number + 1) more

-- what a text says, or its first fault: it has at most 16,777,216 octets
abbrev pub input_of : List ℕ → Result Input TextFault
input_of text = if nat_lt 16777216 (length text) then fault 1 1 reasons.Long else input_from nothing 1 (lines text)
