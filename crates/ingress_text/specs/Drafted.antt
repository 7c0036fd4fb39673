-- What the lines so far said.
use Rattle.std.specs.Prelude.{ℕ, Bool, List, [], ◌∷◌, ◌++◌, fold, Option, None, Some, if◌then◌else◌}
use Rattle.std.specs.Int.{w32, from_be_bytes}
use Rattle.std.specs.Ordering.{is_eq, nat_cmp}
use Rattle.mv_base.specs.Number.{◌>>?◌}
use Rattle.ingress_text.specs.declared.input.Input.{Input}
use Rattle.ingress_text.specs.declared.input.Line.{Line}
use Rattle.ingress_text.specs.declared.input.Role.{Role}
use Rattle.ingress_text.specs.declared.input.Role.TheVariants as roles
use Rattle.ingress_text.specs.Rooted.{Rooted}
use Rattle.ingress_text.specs.declared.input.Said.{Said}
use Rattle.ingress_text.specs.declared.input.Said.TheVariants.{Leaf, From}
use Rattle.ingress_text.specs.declared.input.Step.{Step}
use Rattle.ingress_text.specs.declared.input.Step.TheVariants as steps

-- the route of the root, where its line was read, and the lines after it
pub record Drafted : Type 0 where
  pub root : Option Rooted
  pub lines : List Line

abbrev pub nothing : Drafted
nothing = record { root = None; lines = [] }

-- the peer of a line, and what it does
abbrev pub peer_of : Said → List ℕ
peer_of (Leaf leaf label) = leaf
peer_of (From peer octets) = peer

abbrev pub role_of : Said → Role
role_of (Leaf leaf label) = roles.Leaf
role_of (From peer octets) = roles.From

-- the number of a peer's address
abbrev pub number_by : Line → ℕ
number_by line = from_be_bytes w32 (peer_of line.said)

-- what the peer of that number does by the last of the lines that name it
abbrev pub role_after : ℕ → Option Role → Line → Option Role
role_after n found line = if is_eq (nat_cmp (number_by line) n) then Some (role_of line.said) else found

abbrev pub role_at : List Line → ℕ → Option Role
role_at lines n = fold (role_after n) None lines

-- after one more line
abbrev pub said_by : Drafted → ℕ → Said → Drafted
said_by draft number said = record draft { lines = draft.lines ++ record { number = number; said = said } ∷ [] }

abbrev pub stepped : Drafted → ℕ → Step → Drafted
stepped draft number steps.Blank = draft
stepped draft number (steps.Root root) = record draft { root = Some root }
stepped draft number (steps.Said said) = said_by draft number said

-- what the lines said, where that of the root is one of them
abbrev pub input_at : Drafted → Option Input
input_at draft = draft.root >>? λ root. Some (record { root = root; lines = draft.lines })
