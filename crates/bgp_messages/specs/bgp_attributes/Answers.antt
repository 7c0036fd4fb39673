-- What a function that reads answers: what reading gives, unless memory ran out.
use Rattle.std.specs.Prelude.{◌≡◌, ℕ, ◌+◌, ◌<◌, ◌≤◌, ◌⊎◌, ⊤, List, Result, Ok, Err}
use Rattle.bgp_messages.specs.declared.bgp_attributes.fault.StreamFault.{StreamFault}
use Rattle.bgp_messages.specs.declared.bgp_attributes.fault.AttributesFault.{AttributesFault}
use Rattle.bgp_messages.specs.declared.bgp_attributes.fault.AttributesFault.TheVariants.{Bad, NoMemory}
use Rattle.bgp_messages.specs.declared.bgp_attributes.update.Update.{Update}
use Rattle.bgp_messages.specs.bgp_attributes.FirstFault as faults
use Rattle.bgp_messages.specs.bgp_attributes.Reading.{Read}

-- The failure is that of reading, or says that memory ran out.
abbrev pub Fails : {Y : Type 0} → AttributesFault → Read Y → Type 0
Fails NoMemory read = ⊤
Fails (Bad place fault) read = read ≡ Err (place, fault)

-- The answer is what reading gives, unless memory ran out.
abbrev pub Gives : {Y : Type 0} → Result Y AttributesFault → Read Y → Type 0
Gives (Ok y) read = read ≡ Ok y
Gives (Err e) read = Fails e read

-- a fault stands no further than there
abbrev pub IsNear : AttributesFault → ℕ → Type 0
IsNear NoMemory place = ⊤
IsNear (Bad at fault) place = at ≤ place

abbrev pub IsWithin : {Y : Type 0} → Result Y AttributesFault → ℕ → Type 0
IsWithin (Ok y) place = ⊤
IsWithin (Err e) place = IsNear e place

-- a part of some octets is read, and no more than there are
abbrev pub IsPart : {Y : Type 0} → Result (Y × ℕ) AttributesFault → ℕ → Type 0
IsPart (Ok x) len = (0 < x.1) × (x.1 ≤ len)
IsPart (Err e) len = IsNear e len

-- so many octets further on
abbrev pub thereafter : ℕ → AttributesFault → AttributesFault
thereafter place NoMemory = NoMemory
thereafter place (Bad at fault) = Bad (place + at) fault

-- ---- the clauses of reading an update

-- That update is answered, unless memory ran out.
abbrev pub IsOnly : Result Update AttributesFault → Update → Type 0
IsOnly result update = (result ≡ Ok update) ⊎ (result ≡ Err NoMemory)

-- A fault is the first one.
abbrev pub IsFirst : Result Update AttributesFault → List ℕ → Type 0
IsFirst (Ok update) octets = ⊤
IsFirst (Err NoMemory) octets = ⊤
IsFirst (Err (Bad place fault)) octets = faults.AttributesFault octets place fault

-- The first fault is answered, unless memory ran out.
abbrev pub IsOnlyFirst : Result Update AttributesFault → List ℕ → Type 0
IsOnlyFirst result octets =
    (place : ℕ) (fault : StreamFault) → faults.AttributesFault octets place fault →
    (result ≡ Err (Bad place fault)) ⊎ (result ≡ Err NoMemory)
