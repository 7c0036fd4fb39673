-- What is known of a message that a stream hands out: octets spell it, and so what it says can be written.
use Rattle.std.specs.Prelude.{ℕ, List, [], ◌∷◌, ⊤}
use Rattle.std.specs.List.{AllByRecursion}
use Rattle.bgp_messages.specs.declared.bgp_attributes.update.Message.{Message}
use Rattle.bgp_messages.specs.declared.bgp_attributes.update.Message.TheVariants as messages
use Rattle.bgp_messages.specs.bgp_update.Spelling as bgp
use Rattle.bgp_messages.specs.bgp_update.Written.{IsWritableAdvert, IsWritableKey}
use Rattle.mldp.specs.declared.mldp_msgs.message.LabelMessage.{LabelMessage}
use Rattle.mldp.specs.declared.mldp_msgs.message.LabelMessage.TheVariants as labels
use Rattle.mldp.specs.mldp_msgs.Spelling as ldp
use Rattle.mldp.specs.mldp_msgs.Spelling.{IsWritable}

-- octets spell the BGP message (RFC 4271 section 4)
abbrev pub IsSpelled : Message → Type 0
IsSpelled message = (text : List ℕ) × bgp.SpellsMessage (message ∷ []) text

-- octets spell the label message (RFC 5036 section 3.5)
abbrev pub IsSpelledLabel : LabelMessage → Type 0
IsSpelledLabel message = (text : List ℕ) × ldp.SpellsMessage (message ∷ []) text

-- each route that it announces and each key that it withdraws has a spelling of its own
abbrev pub SaysWritable : Message → Type 0
SaysWritable (messages.Update update) = AllByRecursion IsWritableAdvert update.reach × AllByRecursion IsWritableKey update.unreach
SaysWritable (messages.Other kind) = ⊤

-- its tree and its label have a spelling; one that is ignored says nothing
abbrev pub SaysWritableLabel : LabelMessage → Type 0
SaysWritableLabel (labels.Ignored kind) = ⊤
SaysWritableLabel other = IsWritable other
