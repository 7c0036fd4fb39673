-- The first fault of octets: whole fields that meet their conditions stand before its place, and the next one fails.
use Rattle.std.specs.Prelude.{◌≡◌, ◌≢◌, ℕ, ◌+◌, ◌<◌, ◌≤◌, List, [], ◌∷◌, ◌++◌, length}
use Rattle.mv_base.specs.Cursor.{start}
use Rattle.mldp.specs.declared.mldp_fec.fault.FecFault.{FecFault}
use Rattle.mldp.specs.declared.mldp_fec.fec.FecKind.TheVariants.{P2mp}
use Rattle.mldp.specs.declared.mldp_fec.fec.Fec.{Fec}
use Rattle.mldp.specs.mldp_fec.Spelling as fec
use Rattle.mldp.specs.mldp_fec.FirstFault as fec_faults
use Rattle.bgp_values.specs.declared.pmsi_attr.fault.PmsiFault.{PmsiFault}
use Rattle.bgp_values.specs.declared.pmsi_attr.fault.PmsiReason.{PmsiReason}
use Rattle.bgp_values.specs.declared.pmsi_attr.fault.PmsiReason.TheVariants as reasons
use Rattle.bgp_values.specs.pmsi_attr.Spelling.{IsKept}

-- the fault is this one
abbrev pub Is : PmsiFault → ℕ → PmsiReason → Type 0
Is f place reason = f ≡ record { place = place; reason = reason }

-- the tunnel identifier fails, all octets after the label; it begins at place 5
pub data IdentifierFault (kind : ℕ) (octets : List ℕ) (f : PmsiFault) : Type 0 where
  -- type 0 has none
  not_empty : kind ≡ 0 → octets ≢ [] → Is f 5 reasons.Identifier → IdentifierFault kind octets f
  -- type 2: the FEC element fails at its own place; or there is one, and it is not P2MP, or octets stand after it
  in_element : kind ≡ 2 → (g : FecFault) → fec_faults.FirstFault (start octets) g → Is f (5 + g.place) (reasons.Fec g.reason) →
      IdentifierFault kind octets f
  not_p2mp : kind ≡ 2 → (element : Fec) (text rest : List ℕ) → fec.Spells element text → octets ≡ text ++ rest →
      element.kind ≢ P2mp → Is f 5 reasons.Identifier → IdentifierFault kind octets f
  more_after : kind ≡ 2 → (element : Fec) (text rest : List ℕ) → fec.Spells element text → octets ≡ text ++ rest → rest ≢ [] →
      Is f 5 reasons.Identifier → IdentifierFault kind octets f
  -- type 6 has an address
  no_address : kind ≡ 6 → length octets ≢ 4 → length octets ≢ 16 → Is f 5 reasons.Identifier → IdentifierFault kind octets f
  -- the others have at most 96 octets
  too_long : IsKept kind → 96 < length octets → Is f 5 reasons.Identifier → IdentifierFault kind octets f

-- the first fault of all the octets
pub data FirstFault (bytes : List ℕ) (f : PmsiFault) : Type 0 where
  flags_short : bytes ≡ [] → Is f 0 reasons.Short → FirstFault bytes f
  type_short : (flags : ℕ) → bytes ≡ flags ∷ [] → Is f 1 reasons.Short → FirstFault bytes f
  type_wrong : (flags kind : ℕ) (rest : List ℕ) → bytes ≡ flags ∷ kind ∷ rest → 7 < kind → Is f 1 reasons.TunnelType → FirstFault bytes f
  label_short : (flags kind : ℕ) (rest : List ℕ) → bytes ≡ flags ∷ kind ∷ rest → kind ≤ 7 → length rest < 3 →
      Is f 2 reasons.Short → FirstFault bytes f
  in_identifier : (flags kind : ℕ) (label octets : List ℕ) → bytes ≡ flags ∷ kind ∷ (label ++ octets) → length label ≡ 3 →
      IdentifierFault kind octets f → FirstFault bytes f
