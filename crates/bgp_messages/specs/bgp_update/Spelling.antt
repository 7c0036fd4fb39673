-- BGP messages as octets (RFC 4271 sections 4.1 to 4.5; RFC 2918 section 3 for type 5).
use Rattle.std.specs.Prelude.{◌≡◌, ◌⊎◌, ◌+◌, ◌≤◌, ℕ, List, [], ◌∷◌, ◌++◌, length, replicate}
use Rattle.std.specs.Int.{w16, to_be_bytes}
use Rattle.bgp_messages.specs.declared.bgp_attributes.update.Update.{Update}
use Rattle.bgp_messages.specs.declared.bgp_attributes.update.Message.{Message}
use Rattle.bgp_messages.specs.declared.bgp_attributes.update.Message.TheVariants as messages
use Rattle.bgp_messages.specs.bgp_attributes.Spelling as attributes

abbrev pub marker : List ℕ
marker = replicate 16 255

-- marker, length of the message, type
abbrev pub header : ℕ → ℕ → List ℕ
header len kind = marker ++ (to_be_bytes w16 len ++ (kind ∷ []))

-- what stands after the header of an UPDATE: withdrawn routes, attributes and routes, of which only attributes are read
pub record SpellsBody (update : Update) (body : List ℕ) : Type 0 where
  pub withdrawn : List ℕ
  pub list : List ℕ
  pub rest : List ℕ
  pub parts : body ≡ to_be_bytes w16 (length withdrawn) ++ (withdrawn ++ (to_be_bytes w16 (length list) ++ (list ++ rest)))
  pub spelled : attributes.Spells update list

-- OPEN, NOTIFICATION, KEEPALIVE and ROUTE-REFRESH are passed over unread, and a KEEPALIVE is a header alone
abbrev pub Means : Message → ℕ → List ℕ → Type 0
Means (messages.Update update) kind body = (kind ≡ 2) × SpellsBody update body
Means (messages.Other k) kind body = (kind ≡ k) × ((kind ≡ 1) ⊎ ((kind ≡ 3) ⊎ ((kind ≡ 4) ⊎ (kind ≡ 5)))) × (kind ≡ 4 → body ≡ [])

-- one message
pub record SpellsMessage (ms : List Message) (text : List ℕ) : Type 0 where
  pub message : Message
  pub kind : ℕ
  pub body : List ℕ
  pub one : ms ≡ message ∷ []
  pub parts : text ≡ header (19 + length body) kind ++ body
  pub within : 19 + length body ≤ 4096
  pub means : Means message kind body
