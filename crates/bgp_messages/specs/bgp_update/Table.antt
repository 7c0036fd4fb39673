-- The table that the octets of a session leave: the routes that were announced and not withdrawn since (RFC 4271
-- section 3.1; RFC 4760 sections 3 and 4).
use Rattle.std.specs.Prelude.{◌≡◌, ◌≢◌, ℕ, List, [], ◌∷◌, ◌++◌, map}
use Rattle.std.specs.List.{flat_map, AllByRecursion}
use Rattle.mv_base.specs.framing.Units.{Splits}
use Rattle.bgp_messages.specs.declared.bgp_attributes.key.Key.{Key}
use Rattle.bgp_messages.specs.declared.bgp_attributes.update.Advert.{Advert}
use Rattle.bgp_messages.specs.declared.bgp_attributes.update.Change.{Change}
use Rattle.bgp_messages.specs.declared.bgp_attributes.update.Change.TheVariants.{Reach, Unreach}
use Rattle.bgp_messages.specs.declared.bgp_attributes.update.Message.{Message}
use Rattle.bgp_messages.specs.declared.bgp_attributes.update.Message.TheVariants as messages
use Rattle.bgp_messages.specs.bgp_update.Spelling.{SpellsMessage}

-- the key that a change is about
abbrev pub key_of : Change → Key
key_of (Reach advert) = advert.key
key_of (Unreach key) = key

abbrev pub announced : List Advert → List Change
announced adverts = map (λ advert. Reach advert) adverts

abbrev pub unannounced : List Key → List Change
unannounced keys = map (λ key. Unreach key) keys

-- an UPDATE withdraws first, and then announces (RFC 4271 section 4.3)
abbrev pub changes_of : Message → List Change
changes_of (messages.Update update) = unannounced update.unreach ++ announced update.reach
changes_of (messages.Other kind) = []

-- the last change about the key announces it so
pub record AnnouncesLast (changes : List Change) (key : Key) (advert : Advert) : Type 0 where
  pub before : List Change
  pub after : List Change
  pub parts : changes ≡ before ++ (Reach advert ∷ after)
  pub same : advert.key ≡ key
  pub last : AllByRecursion (λ change. key_of change ≢ key) after

-- whole messages at the front of the octets leave the route
abbrev pub HasRoute : List ℕ → Key → Advert → Type 0
HasRoute octets key advert =
    (ms : List Message) × (rest : List ℕ) × Splits SpellsMessage octets ms rest
    × AnnouncesLast (flat_map changes_of ms) key advert
