-- What reading gives is what the octets spell, or their first fault.
use Rattle.std.proofs.Common.{◌≡◌, ℕ, List, refl, inl, inr}
use Rattle.std.specs.Prelude.{◌⊎◌, Result, Ok, Err}
use Rattle.mv_base.specs.Octets.{IsOctets}
use Rattle.pim_joinprune.specs.declared.fault.PimFault.{PimFault}
use Rattle.pim_joinprune.specs.declared.fault.DecodeFault.TheVariants.{Bad}
use Rattle.pim_joinprune.specs.declared.message.JoinPrune.{JoinPrune}
use Rattle.pim_joinprune.specs.Reading.{decoded}
use Rattle.pim_joinprune.specs.Spelling.{Spells}
use Rattle.pim_joinprune.specs.FirstFault.{FirstFault}
use Rattle.pim_joinprune.proofs.Calls.{is_spelled, is_only, is_first, is_only_first}

pub read_spelled : (octets : List ℕ) (message : JoinPrune) → IsOctets octets → decoded octets ≡ Ok message → Spells message octets
read_spelled octets message fits h = is_spelled (Ok message) octets fits h

pub read_first : (octets : List ℕ) (place : ℕ) (fault : PimFault) → IsOctets octets → decoded octets ≡ Err (place, fault)
    → FirstFault octets place fault
read_first octets place fault fits h = is_first (Err (Bad place fault)) octets fits h

-- One of two that are not.
neither : {A B : Type 0} {P : Type 0} → A ⊎ B → (A → P) → (B → P) → P
neither (inl a) f g = f a
neither (inr b) f g = g b

pub spelled_read : (octets : List ℕ) (message : JoinPrune) → Spells message octets → decoded octets ≡ Ok message
spelled_read octets message s = by (decoded octets) refl
  where
    by : (read : Result JoinPrune (ℕ × PimFault)) → decoded octets ≡ read → read ≡ Ok message
    by (Ok other) h = neither (is_only (Ok other) octets message h s) (λ e. cc) (λ e. absurd cc)
    by (Err (place, fault)) h = neither (is_only (Err (Bad place fault)) octets message h s) (λ e. absurd cc) (λ e. absurd cc)

pub first_read : (octets : List ℕ) (place : ℕ) (fault : PimFault) → IsOctets octets → FirstFault octets place fault
    → decoded octets ≡ Err (place, fault)
first_read octets place fault fits first = by (decoded octets) refl
  where
    by : (read : Result JoinPrune (ℕ × PimFault)) → decoded octets ≡ read → read ≡ Err (place, fault)
    by (Ok message) h = neither (is_only_first (Ok message) octets fits h place fault first) (λ e. absurd cc) (λ e. absurd cc)
    by (Err (at, other)) h = neither (is_only_first (Err (Bad at other)) octets fits h place fault first) (λ e. cc) (λ e. absurd cc)
