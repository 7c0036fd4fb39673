-- What a reader or a writer answered: what reading or writing gives, unless memory ran out.
use Rattle.std.specs.Prelude.{◌≡◌, ◌≢◌, ℕ, ◌-◌, ⊤, List, [], ◌++◌, All, Option, None, Some, Result, Ok, Err, IfOk}
use Rattle.std.specs.List.{flat_map}
use Rattle.mv_base.specs.declared.memory.NoMemory.{NoMemory}
use Rattle.core_pcap.specs.declared.fault.PcapFault.{PcapFault}
use Rattle.core_pcap.specs.declared.fault.ReadFault.{ReadFault}
use Rattle.core_pcap.specs.declared.fault.ReadFault.TheVariants as stops
use Rattle.core_pcap.specs.declared.hop.CoreHop.{CoreHop}
use Rattle.core_pcap.specs.declared.hop.PcapRead.{PcapRead}
use Rattle.core_pcap.specs.declared.order.ByteOrder.{ByteOrder}
use Rattle.core_pcap.specs.FirstFault.{HopFails}
use Rattle.core_pcap.specs.Spelling.{IsHop, hop_text}

abbrev pub Fails : {Y : Type 0} → ReadFault → Result Y (ℕ × PcapFault) → Type 0
Fails stops.NoMemory read = ⊤
Fails (stops.Bad left fault) read = read ≡ Err (left, fault)

abbrev pub Gives : {X Y : Type 0} → (X → Y) → Result X ReadFault → Result Y (ℕ × PcapFault) → Type 0
Gives view (Ok x) read = read ≡ Ok (view x)
Gives view (Err e) read = Fails e read

-- these hops and that fault are answered, unless memory ran out
abbrev pub IsOnly : Result PcapRead NoMemory → List CoreHop → Option (ℕ × PcapFault) → Type 0
IsOnly result hops fault = IfOk result (λ file. (file.hops ≡ hops) × (file.fault ≡ fault))

-- a prefix of the text was appended
abbrev pub StandsPart : List ℕ → List ℕ → List ℕ → Type 0
StandsPart old new text = (front rest : List ℕ) × (text ≡ front ++ rest) × (new ≡ old ++ front)

-- Nothing is left, or what is left fails so many octets before the end of a file of that length.
abbrev pub Stops : ByteOrder → ℕ → List ℕ → Option (ℕ × PcapFault) → Type 0
Stops order len rest None = rest ≡ []
Stops order len rest (Some f) = (rest ≢ []) × (left : ℕ) × HopFails order rest left f.1 × (f.0 ≡ len - left)

-- The hops stand at the front of the records, and after them reading stops with that fault or at the end.
pub record Rows (order : ByteOrder) (len : ℕ) (records : List ℕ) (hops : List CoreHop) (fault : Option (ℕ × PcapFault)) : Type 0 where
  pub rest : List ℕ
  pub each : All IsHop hops
  pub parts : records ≡ flat_map (hop_text order) hops ++ rest
  pub stops : Stops order len rest fault

abbrev pub ReadsRows : ByteOrder → ℕ → List ℕ → PcapRead → Type 0
ReadsRows order len records file = Rows order len records file.hops file.fault
