-- Dotted text of IPv4 addresses.
use Rattle.std.specs.Prelude.{ℕ, nat_lt, List, [], ◌∷◌, Option, Some}
use Rattle.std.specs.Borrow.{Bor}
use Rattle.mv_base.specs.Number.{number_of, cut_of, only_if, ◌>>?◌}

-- one octet in decimal
unfoldable pub octet_of : List ℕ → Option ℕ
octet_of text = number_of text >>? λ number. only_if (nat_lt number 256) number

-- one octet in decimal that a point follows, and the text after the point
unfoldable pub octet_front_of : List ℕ → Option (ℕ × List ℕ)
octet_front_of text = cut_of 46 text >>? λ cut. octet_of cut.0 >>? λ octet. Some (octet, cut.1)

-- the four octets of a dotted address
unfoldable pub dotted_of : List ℕ → Option (List ℕ)
dotted_of text =
    octet_front_of text >>? λ a.
    octet_front_of a.1 >>? λ b.
    octet_front_of b.1 >>? λ c.
    octet_of c.1 >>? λ d.
    Some (a.0 ∷ b.0 ∷ c.0 ∷ d ∷ [])

-- an octet, and a text that is lent
abbrev pub front_texts : ℕ × Bor (List ℕ) → ℕ × List ℕ
front_texts front = (front.0, front.1.now)
