-- Writing octets over others.
use Rattle.std.specs.Prelude.{ℕ, ◌+◌, List, ◌++◌, length, take, drop}

-- the old octets, with others written over them from a place on
unfoldable pub put_at : List ℕ → ℕ → List ℕ → List ℕ
put_at old place octets = take place old ++ (octets ++ drop (place + length octets) old)
