-- Addresses and words are told apart by their parts: each is what is read back from them.
use Rattle.std.proofs.Common.{◌≡◌, ℕ, ◌==◌, cond, List, [], ◌∷◌, Option, Some, None, refl, sym, ap, ◌∙◌}
use Rattle.mldp.specs.mv_base.declared.addr.Addr.{Addr}
use Rattle.mldp.specs.mv_base.declared.addr.Addr.TheVariants.{V4, V6}
use Rattle.selective_defs.specs.Parts.{addr_key, word_part}

abbrev pub first : List ℕ → ℕ
first [] = 0
first (number ∷ rest) = number

abbrev pub thereafter : List ℕ → List ℕ
thereafter [] = []
thereafter (number ∷ rest) = rest

abbrev pub addr_back : List ℕ → Addr
addr_back part = cond (first part == 4) (V4 (thereafter part)) (V6 (thereafter part))

pub addr_again : (addr : Addr) → addr_back (addr_key addr) ≡ addr
addr_again (V4 octets) = refl
addr_again (V6 octets) = refl

pub one_addr : (a b : Addr) → addr_key a ≡ addr_key b → a ≡ b
one_addr a b e = sym (addr_again a) ∙ ap addr_back e ∙ addr_again b

abbrev pub word_back : List ℕ → Option Addr
word_back [] = None
word_back (number ∷ rest) = Some (addr_back (number ∷ rest))

pub word_again : (word : Option Addr) → word_back (word_part word) ≡ word
word_again None = refl
word_again (Some (V4 octets)) = refl
word_again (Some (V6 octets)) = refl

pub one_word : (a b : Option Addr) → word_part a ≡ word_part b → a ≡ b
one_word a b e = sym (word_again a) ∙ ap word_back e ∙ word_again b
