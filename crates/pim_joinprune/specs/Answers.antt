-- What a reader answered: what reading gives, unless memory ran out.
use Rattle.std.specs.Prelude.{◌≡◌, ℕ, ◌+◌, ◌<◌, ◌≤◌, ◌^◌, ◌⊎◌, ⊤, List, Result, Ok, Err}
use Rattle.pim_joinprune.specs.declared.fault.PimFault.{PimFault}
use Rattle.pim_joinprune.specs.declared.fault.ReadFault.{ReadFault}
use Rattle.pim_joinprune.specs.declared.fault.ReadFault.TheVariants.{Bad, NoMemory}
use Rattle.pim_joinprune.specs.declared.fault.DecodeFault.{DecodeFault}
use Rattle.pim_joinprune.specs.declared.fault.DecodeFault.TheVariants as answers
use Rattle.pim_joinprune.specs.declared.message.JoinPrune.{JoinPrune}
use Rattle.pim_joinprune.specs.FirstFault.{FirstFault}

abbrev pub Fails : {Y : Type 0} → ReadFault → Result Y (ℕ × PimFault) → Type 0
Fails NoMemory read = ⊤
Fails (Bad left fault) read = read ≡ Err (left, fault)

abbrev pub Gives : {X Y : Type 0} → (X → Y) → Result X ReadFault → Result Y (ℕ × PimFault) → Type 0
Gives view (Ok x) read = read ≡ Ok (view x)
Gives view (Err e) read = Fails e read

-- a test that was passed, or its fault, unless memory ran out
abbrev pub Checks : {X : Type 0} → Result X ReadFault → Result ⊤ (ℕ × PimFault) → Type 0
Checks (Ok x) read = read ≡ Ok tt
Checks (Err e) read = Fails e read

-- a fault among so many octets, at a place of 32 bits
abbrev pub IsNear : {X : Type 0} → Result X ReadFault → ℕ → Type 0
IsNear (Ok x) len = ⊤
IsNear (Err NoMemory) len = ⊤
IsNear (Err (Bad left fault)) len = (left ≤ len) × (len < left + 2 ^ 32)

-- ---- the clauses of decoding

-- The failure is that of reading, with its place, or says that memory ran out.
abbrev pub FailsAt : {Y : Type 0} → DecodeFault → Result Y (ℕ × PimFault) → Type 0
FailsAt answers.NoMemory read = ⊤
FailsAt (answers.Bad place fault) read = read ≡ Err (place, fault)

-- The answer is what reading gives, unless memory ran out.
abbrev pub Decodes : {Y : Type 0} → Result Y DecodeFault → Result Y (ℕ × PimFault) → Type 0
Decodes (Ok y) read = read ≡ Ok y
Decodes (Err e) read = FailsAt e read

-- A fault stands no further than there.
abbrev pub IsWithin : {Y : Type 0} → Result Y DecodeFault → ℕ → Type 0
IsWithin (Ok y) end = ⊤
IsWithin (Err answers.NoMemory) end = ⊤
IsWithin (Err (answers.Bad place fault)) end = place ≤ end

-- That message is answered, unless memory ran out.
abbrev pub IsOnly : Result JoinPrune DecodeFault → JoinPrune → Type 0
IsOnly result message = (result ≡ Ok message) ⊎ (result ≡ Err answers.NoMemory)

-- A fault is the first one.
abbrev pub IsFirst : Result JoinPrune DecodeFault → List ℕ → Type 0
IsFirst (Ok message) octets = ⊤
IsFirst (Err answers.NoMemory) octets = ⊤
IsFirst (Err (answers.Bad place fault)) octets = FirstFault octets place fault

-- The first fault is answered, unless memory ran out.
abbrev pub IsOnlyFirst : Result JoinPrune DecodeFault → List ℕ → Type 0
IsOnlyFirst result octets =
    (place : ℕ) (fault : PimFault) → FirstFault octets place fault →
    (result ≡ Err (answers.Bad place fault)) ⊎ (result ≡ Err answers.NoMemory)
