-- Updates: read exactly where they are spelled, with their first fault.
use Rattle.std.proofs.Common.{◌≡◌, ℕ, List, [], Result, Ok, Err, refl, sym, ap, ◌∙◌, ◌⊎◌, inl, inr}
use Rattle.std.specs.Prelude.{IfOk}
use Rattle.mv_base.specs.Octets.{IsOctets}
use Rattle.mv_base.specs.Cursor.{◌>>=◌}
use Rattle.mv_base.proofs.Fields.{bind_ok, bind_err, ok_is, err_is, ok_or_err}
use Rattle.mv_base.specs.framing.Parts.{parts_of}
use Rattle.mv_base.proofs.framing.PartsLemmas.{parts_found, parts_again, fault_found, fault_again}
use Rattle.bgp_messages.specs.declared.bgp_attributes.fault.StreamFault.{StreamFault}
use Rattle.bgp_messages.specs.declared.bgp_attributes.fault.AttributesFault.{AttributesFault}
use Rattle.bgp_messages.specs.declared.bgp_attributes.fault.AttributesFault.TheVariants.{Bad, NoMemory}
use Rattle.bgp_messages.specs.declared.bgp_attributes.attribute.Attribute.{Attribute}
use Rattle.bgp_messages.specs.declared.bgp_attributes.update.Update.{Update}
use Rattle.bgp_messages.specs.bgp_attributes.Spelling.{SpellsAttribute, IsNew, AreAttributes, Spells}
use Rattle.bgp_messages.specs.bgp_attributes.FirstFault.{AttributeFault}
use Rattle.bgp_messages.specs.bgp_attributes.FirstFault as faults
use Rattle.bgp_messages.specs.bgp_attributes.Answers.{Gives, IsFirst, IsOnly, IsOnlyFirst}
use Rattle.bgp_messages.specs.bgp_attributes.Reading.{attribute_at, found_of, found_at, update_in, update_at}
use Rattle.bgp_messages.proofs.bgp_attributes.FoundLemmas.{update_is}
use Rattle.bgp_messages.proofs.bgp_attributes.AttributeLemmas.{reader}

update_read : (octets : List ℕ) (attributes : List Attribute) → parts_of attribute_at octets ≡ Ok attributes
    → update_at octets ≡ Ok (update_in (found_of attributes))
update_read octets attributes e =
    ap (λ (x : Result (List Attribute) (ℕ × StreamFault)). (x >>= λ all. Ok (found_of all)) >>= λ found. Ok (update_in found)) e

-- What is spelled is read.
pub update_again : (u : Update) (octets : List ℕ) → Spells u octets → update_at octets ≡ Ok u
update_again u octets (attributes, are, says) =
    update_read octets attributes (parts_again attribute_at SpellsAttribute IsNew AttributeFault reader octets attributes are)
    ∙ ap (λ (v : Update). Ok v) (update_is octets attributes [] are ∙ sym says)

-- What is read is spelled.
pub update_taken : (octets : List ℕ) (u : Update) → IsOctets octets → update_at octets ≡ Ok u → Spells u octets
update_taken octets u fits e =
    let (found, read, said) = bind_ok (found_at octets) _ u e in
    let (attributes, parts, made) = bind_ok (parts_of attribute_at octets) _ found read in
    let are : AreAttributes octets attributes = parts_found attribute_at SpellsAttribute IsNew AttributeFault reader octets attributes fits parts in
    let same : u ≡ update_in (found_of attributes) =
    sym (ok_is (update_in found) u said) ∙ ap update_in (sym (ok_is (found_of attributes) found made)) in
    (attributes, are, same ∙ update_is octets attributes [] are)

-- The first fault is answered.
pub fails_update : (octets : List ℕ) (place : ℕ) (e : StreamFault) → IsOctets octets → faults.AttributesFault octets place e
    → update_at octets ≡ Err (place, e)
fails_update octets place e fits h =
    ap (λ (x : Result (List Attribute) (ℕ × StreamFault)). (x >>= λ all. Ok (found_of all)) >>= λ found. Ok (update_in found))
    (fault_again attribute_at SpellsAttribute IsNew AttributeFault reader octets place e fits h)

-- A fault that is answered is the first.
pub update_fails : (octets : List ℕ) (place : ℕ) (e : StreamFault) → IsOctets octets → update_at octets ≡ Err (place, e)
    → faults.AttributesFault octets place e
update_fails octets place e fits h =
    elim (bind_err (found_at octets) _ (place, e) h) [
      | inl missing ↦ elim (bind_err (parts_of attribute_at octets) _ (place, e) missing) [
        | inl fault ↦ fault_found attribute_at SpellsAttribute IsNew AttributeFault reader octets place e fits fault
        | inr x ↦ absurd cc
      ]
      | inr x ↦ absurd cc
    ]

-- Octets spell one update.
pub one_update : (u v : Update) (octets : List ℕ) → Spells u octets → Spells v octets → u ≡ v
one_update u v octets p q = ok_is u v (sym (update_again u octets p) ∙ update_again v octets q)

-- ---- what reading promises

pub is_spelled : (r : Result Update AttributesFault) (octets : List ℕ) → IsOctets octets → Gives r (update_at octets) → IfOk r (λ u. Spells u octets)
is_spelled (Ok u) octets fits e = update_taken octets u fits e
is_spelled (Err e) octets fits h = tt

pub only_spelled : (r : Result Update AttributesFault) (octets : List ℕ) → Gives r (update_at octets) → (u : Update) → Spells u octets → IsOnly r u
only_spelled (Ok v) octets e u s = inl (ap (λ (w : Update). Ok w) (ok_is v u (sym e ∙ update_again u octets s)))
only_spelled (Err NoMemory) octets e u s = inr refl
only_spelled (Err (Bad place fault)) octets e u s = ok_or_err u (place, fault) (sym (update_again u octets s) ∙ e)

pub is_first : (r : Result Update AttributesFault) (octets : List ℕ) → IsOctets octets → Gives r (update_at octets) → IsFirst r octets
is_first (Ok u) octets fits e = tt
is_first (Err NoMemory) octets fits e = tt
is_first (Err (Bad place fault)) octets fits e = update_fails octets place fault fits e

fault_only : (r : Result Update AttributesFault) (octets : List ℕ) → Gives r (update_at octets) → (place : ℕ) (fault : StreamFault)
    → update_at octets ≡ Err (place, fault) → (r ≡ Err (Bad place fault)) ⊎ (r ≡ Err NoMemory)
fault_only (Ok u) octets e place fault h = ok_or_err u (place, fault) (sym e ∙ h)
fault_only (Err NoMemory) octets e place fault h = inr refl
fault_only (Err (Bad at other)) octets e place fault h =
    let made : ℕ × StreamFault = (at, other) in
    let given : ℕ × StreamFault = (place, fault) in
    let same : made ≡ given = err_is made given (sym e ∙ h) in
    inl (λ i. Err (Bad (same i).0 (same i).1))

pub only_first : (r : Result Update AttributesFault) (octets : List ℕ) → IsOctets octets → Gives r (update_at octets) → IsOnlyFirst r octets
only_first r octets fits e place fault h = fault_only r octets e place fault (fails_update octets place fault fits h)
