-- The labels that a session leaves mapped (RFC 5036 sections 3.5.7 and 3.5.10).
use Rattle.std.specs.Prelude.{◌≡◌, ◌↔◌, ◌⊎◌, ℕ, Bool, IsTrue, List, ◌∷◌, ◌++◌, Contains}
use Rattle.mv_base.specs.framing.Cut.{Yields}
use Rattle.mldp.specs.declared.mldp_fec.fec.Fec.{Fec}
use Rattle.mldp.specs.declared.mldp_msgs.message.LabelMessage.{LabelMessage}
use Rattle.mldp.specs.declared.mldp_msgs.message.LabelMessage.TheVariants as messages
use Rattle.mldp.specs.mldp_msgs.FirstFault.{PduFault}
use Rattle.mldp.specs.mldp_msgs.Spelling.{SpellsPdu}

-- the last message that maps the label to the FEC, or withdraws it, maps it
pub record IsMapped (ms : List LabelMessage) (f : Fec) (l : ℕ) : Type 0 where
  pub before : List LabelMessage
  pub after : List LabelMessage
  pub parts : ms ≡ before ++ messages.Mapping f l ∷ after
  pub kept : ¬ Contains after (messages.Withdraw f l)

-- the octets of a session leave the label mapped to the FEC: by the messages of whole PDUs, and those before a first fault
abbrev pub HasLabel : List ℕ → Fec → ℕ → Type 0
HasLabel octets f l = (ms : List LabelMessage) × Yields SpellsPdu PduFault octets ms × IsMapped ms f l

-- whether the label is mapped after one more message, by whether it was before
abbrev pub MappedBy : LabelMessage → Fec → ℕ → Bool → Bool → Type 0
MappedBy (messages.Mapping g k) f l before after = IsTrue after ↔ (IsTrue before ⊎ ((g ≡ f) × (k ≡ l)))
MappedBy (messages.Withdraw g k) f l before after = IsTrue after ↔ (IsTrue before × (¬ ((g ≡ f) × (k ≡ l))))
MappedBy (messages.Release g k) f l before after = after ≡ before
MappedBy (messages.Ignored kind) f l before after = after ≡ before
