-- What decoding answers.
use Rattle.std.proofs.Common.{◌≡◌, ℕ, ◌-◌, ◌⊎◌, List, length, Result, Ok, Err, refl, sym, ap, ◌∙◌, arith, inl, inr}
use Rattle.std.specs.Prelude.{IfOk}
use Rattle.mv_base.specs.Octets.{IsOctets}
use Rattle.mv_base.proofs.Fields.{ok_is, err_is}
use Rattle.pim_joinprune.specs.declared.fault.PimFault.{PimFault}
use Rattle.pim_joinprune.specs.declared.fault.ReadFault.{ReadFault}
use Rattle.pim_joinprune.specs.declared.fault.ReadFault.TheVariants as stops
use Rattle.pim_joinprune.specs.declared.fault.DecodeFault.{DecodeFault}
use Rattle.pim_joinprune.specs.declared.fault.DecodeFault.TheVariants as answers
use Rattle.pim_joinprune.specs.declared.message.JoinPrune.{JoinPrune}
use Rattle.pim_joinprune.specs.Reading.{message_of, decoded, placed}
use Rattle.pim_joinprune.specs.Answers.{Gives, IsNear, Decodes, IsWithin, IsOnly, IsFirst, IsOnlyFirst}
use Rattle.pim_joinprune.specs.Spelling.{Spells}
use Rattle.pim_joinprune.specs.FirstFault.{FirstFault}
use Rattle.pim_joinprune.proofs.Whole.{message_taken, message_again, message_fails, fails_message, fault_within}

-- A fault is among the octets, at a place of 32 bits.
pub is_near : (r : Result JoinPrune ReadFault) (octets : List ℕ) → IsOctets octets → Gives (λ x. x) r (message_of octets) → IsNear r (length octets)
is_near (Ok m) octets fits h = tt
is_near (Err stops.NoMemory) octets fits h = tt
is_near (Err (stops.Bad left fault)) octets fits h =
    let s = message_fails octets left fault fits h in
    let w = fault_within octets s.0 fault s.1 in
    (omega (arith, s.2), omega (arith, s.2, w.1))

-- ---- from the answer to the octets

placed_ok : (len : ℕ) (r : Result JoinPrune (ℕ × PimFault)) (m : JoinPrune) → placed len r ≡ Ok m → r ≡ Ok m
placed_ok len (Ok n) m e = e
placed_ok len (Err f) m e = absurd cc

placed_err : (len place : ℕ) (fault : PimFault) (r : Result JoinPrune (ℕ × PimFault)) → placed len r ≡ Err (place, fault)
    → (left : ℕ) × (r ≡ Err (left, fault)) × (len - left ≡ place)
placed_err len place fault (Ok n) e = absurd cc
placed_err len place fault (Err f) e =
    let whole : ℕ × PimFault = (len - f.0, f.1) in
    let there : ℕ × PimFault = (place, fault) in
    let is : whole ≡ there = err_is {A = JoinPrune} whole there e in
    (f.0, ap (λ (g : PimFault). Err (f.0, g)) (ap (λ (p : ℕ × PimFault). p.1) is), ap (λ (p : ℕ × PimFault). p.0) is)

first_fault : (octets : List ℕ) (place : ℕ) (fault : PimFault) → IsOctets octets → decoded octets ≡ Err (place, fault) → FirstFault octets place fault
first_fault octets place fault fits e =
    let p = placed_err (length octets) place fault (message_of octets) e in
    let s = message_fails octets p.0 fault fits p.1 in
    let same : s.0 ≡ place = omega (arith, s.2, p.2) in
    rw (← same) s.1

pub is_spelled : (r : Result JoinPrune DecodeFault) (octets : List ℕ) → IsOctets octets → Decodes r (decoded octets) → IfOk r (λ m. Spells m octets)
is_spelled (Ok m) octets fits h = message_taken octets m fits (placed_ok (length octets) (message_of octets) m h)
is_spelled (Err e) octets fits h = tt

pub is_first : (r : Result JoinPrune DecodeFault) (octets : List ℕ) → IsOctets octets → Decodes r (decoded octets) → IsFirst r octets
is_first (Ok m) octets fits h = tt
is_first (Err answers.NoMemory) octets fits h = tt
is_first (Err (answers.Bad place fault)) octets fits h = first_fault octets place fault fits h

pub is_within : (r : Result JoinPrune DecodeFault) (octets : List ℕ) → IsOctets octets → Decodes r (decoded octets) → IsWithin r (length octets)
is_within (Ok m) octets fits h = tt
is_within (Err answers.NoMemory) octets fits h = tt
is_within (Err (answers.Bad place fault)) octets fits h = (fault_within octets place fault (first_fault octets place fault fits h)).0

-- ---- from the octets to the answer

only_value : (r : Result JoinPrune DecodeFault) (read : Result JoinPrune (ℕ × PimFault)) (m : JoinPrune) → Decodes r read → read ≡ Ok m → IsOnly r m
only_value (Ok n) read m h e = let same : n ≡ m = ok_is {E = ℕ × PimFault} n m (sym h ∙ e) in inl (ap (λ (k : JoinPrune). Ok k) same)
only_value (Err answers.NoMemory) read m h e = inr refl
only_value (Err (answers.Bad place fault)) read m h e = absurd cc

only_fault : (r : Result JoinPrune DecodeFault) (read : Result JoinPrune (ℕ × PimFault)) (place : ℕ) (fault : PimFault) → Decodes r read
    → read ≡ Err (place, fault) → (r ≡ Err (answers.Bad place fault)) ⊎ (r ≡ Err answers.NoMemory)
only_fault (Ok n) read place fault h e = absurd cc
only_fault (Err answers.NoMemory) read place fault h e = inr refl
only_fault (Err (answers.Bad at f)) read place fault h e =
    let here : ℕ × PimFault = (at, f) in
    let there : ℕ × PimFault = (place, fault) in
    let same : here ≡ there = err_is {A = JoinPrune} here there (sym h ∙ e) in
    inl (ap (λ (p : ℕ × PimFault). Err (answers.Bad p.0 p.1)) same)

pub is_only : (r : Result JoinPrune DecodeFault) (octets : List ℕ) (m : JoinPrune) → Decodes r (decoded octets) → Spells m octets → IsOnly r m
is_only r octets m h s = only_value r (decoded octets) m h (ap (placed (length octets)) (message_again m octets s))

pub is_only_first : (r : Result JoinPrune DecodeFault) (octets : List ℕ) → IsOctets octets → Decodes r (decoded octets) → IsOnlyFirst r octets
is_only_first r octets fits h = λ place fault first.
    let a = fails_message octets place fault fits first in
    only_fault r (decoded octets) place fault h (ap (placed (length octets)) a.1 ∙ ap (λ (p : ℕ). Err (p, fault)) a.2)
