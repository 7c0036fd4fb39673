-- Reading fields from left to right: what each takes, and what is left after it.
use Rattle.std.specs.Prelude.{◌≡◌, ℕ, ◌+◌, List, ◌∷◌, length, take, drop, Result, Ok, Err}
use Rattle.std.specs.Prelude.{Option, Some, None, Bool, nat_lt, slice_index, if◌then◌else◌}
use Rattle.std.specs.Int.{Width, w32, byte_len, from_be_bytes, to_be_bytes}
use Rattle.mv_base.specs.declared.reader.Short.{Short}
use Rattle.mv_base.specs.Octets.{Cursor}

-- at the first octet
abbrev pub start : List ℕ → Cursor
start bytes = record { left = bytes; place = 0 }

-- so many octets
abbrev pub octets_at : ℕ → Cursor → Result (List ℕ × Cursor) Short
octets_at n c =
    if nat_lt (length c.left) n
    then Err (record { place = c.place; needed = n; left = length c.left })
    else Ok (take n c.left, record { left = drop n c.left; place = c.place + n })

-- one octet
abbrev pub octet_at : Cursor → Result (ℕ × Cursor) Short
octet_at c =
    if nat_lt (length c.left) 1
    then Err (record { place = c.place; needed = 1; left = length c.left })
    else Ok (slice_index c.left 0, record { left = drop 1 c.left; place = c.place + 1 })

-- a number of that width, the most significant octet first
abbrev pub number_at : Width → Cursor → Result (ℕ × Cursor) Short
number_at w c =
    if nat_lt (length c.left) (byte_len w)
    then Err (record { place = c.place; needed = byte_len w; left = length c.left })
    else Ok (from_be_bytes w (take (byte_len w) c.left), record { left = drop (byte_len w) c.left; place = c.place + byte_len w })

-- the three octets of a number below 2 ^ 24, the most significant first
abbrev pub three : ℕ → List ℕ
three n = drop 1 (to_be_bytes w32 n)

-- a number of three octets, the most significant first
abbrev pub number24_at : Cursor → Result (ℕ × Cursor) Short
number24_at c =
    if nat_lt (length c.left) 3
    then Err (record { place = c.place; needed = 3; left = length c.left })
    else Ok (from_be_bytes w32 (0 ∷ take 3 c.left), record { left = drop 3 c.left; place = c.place + 3 })

-- What a call answered, and the cursor that it left after a value, is what reading gives.
abbrev pub Reads : {X Y E : Type 0} → (X → Y) → Result X E → Cursor → Result (Y × Cursor) E → Type 0
Reads view (Ok x) new read = read ≡ Ok (view x, new)
Reads view (Err e) new read = read ≡ Err e

-- What a call answered is what reading from place 0 gives, and the number of octets is the place after the value.
abbrev pub IsRead : {X E : Type 0} → Result (X × ℕ) E → Result (X × Cursor) E → Type 0
IsRead (Ok x) read = (c : Cursor) × (read ≡ Ok (x.0, c)) × (x.1 ≡ c.place)
IsRead (Err e) read = read ≡ Err e

infixl 10 ◌>>=◌
-- the value goes on, and a fault stays
abbrev pub ◌>>=◌ : {A B E : Type 0} → Result A E → (A → Result B E) → Result B E
(Ok x) >>= next = next x
(Err e) >>= next = Err e

-- a field whose only fault is that octets are missing, with that fault in the format's own words
abbrev pub field : {A E : Type 0} → (ℕ → E) → Result A Short → Result A E
field lacks (Ok x) = Ok x
field lacks (Err e) = Err (lacks e.place)

-- a number that stands for a value, or else the fault
abbrev pub known : {A E : Type 0} → Option A → E → Cursor → Result (A × Cursor) E
known (Some x) e c = Ok (x, c)
known None e c = Err e

-- what was read, where it passes the test, or else the fault
abbrev pub checked : {A E : Type 0} → Bool → E → A → Result A E
checked passes e x = if passes then Ok x else Err e
