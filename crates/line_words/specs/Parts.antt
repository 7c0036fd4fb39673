-- The parts of a text between commas.
use Rattle.std.specs.Prelude.{ℕ, ◌==◌, List, [], Option, None, Some}
use Rattle.std.specs.Borrow.{Bor}
use Rattle.std.specs.List.{slice_split}

-- the parts of the text after a comma, none where there is no comma
abbrev pub parts_after : Option (Bor (List ℕ)) → List (List ℕ)
parts_after None = []
parts_after (Some rest) = slice_split (λ b. b == 44) rest.now
