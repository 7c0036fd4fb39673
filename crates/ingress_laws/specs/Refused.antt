-- Which line of a peer shows the first fault of its octets.
use Rattle.std.specs.Prelude.{◌≡◌, ℕ, List, ◌∷◌, ◌++◌, Some, ⊤}
use Rattle.std.specs.List.{AllByRecursion}
use Rattle.mv_base.specs.framing.Cut.{Fails}
use Rattle.mv_base.specs.framing.Feed.{further}
use Rattle.bgp_messages.specs.declared.bgp_attributes.fault.StreamFault.{StreamFault}
use Rattle.bgp_messages.specs.declared.bgp_attributes.update.Message.{Message}
use Rattle.bgp_messages.specs.bgp_update.FirstFault.{UnitFault}
use Rattle.bgp_messages.specs.bgp_update.Spelling.{SpellsMessage}
use Rattle.ingress_text.specs.Rooted.{Rooted}
use Rattle.ingress_text.specs.declared.input.Line.{Line}
use Rattle.ingress_text.specs.declared.input.Said.{Said}
use Rattle.ingress_text.specs.declared.input.Said.TheVariants.{Leaf, From}
use Rattle.ingress_text.specs.Drafted.{number_by}
use Rattle.ingress_text.specs.Telling.{nobody, octets_by, peers_from, shown}
use Rattle.ingress_laws.specs.Answered.{octets_of}

-- the first fault of octets stands at the place
pub record HasFault (octets : List ℕ) (place : ℕ) (fault : StreamFault) : Type 0 where
  pub messages : List Message
  pub fails : Fails SpellsMessage UnitFault octets messages place fault

-- A line after others brings the first fault of its peer: what the others brought of it has none. A place past the greatest number is
-- that number.
pub record BringsFault (root : Rooted) (before : List Line) (line : Line) (place : ℕ) (fault : StreamFault) : Type 0 where
  pub none : (there : ℕ) (other : StreamFault) → ¬ (HasFault (octets_of root (number_by line) before) there other)
  pub there : ℕ
  pub now : HasFault (octets_of root (number_by line) before ++ octets_by root line.said) there fault
  pub at : place ≡ further 0 there

-- A line of the peer of that number is told with the fault.
pub record IsRefused (root : Rooted) (lines : List Line) (n place : ℕ) (fault : StreamFault) : Type 0 where
  pub before : List Line
  pub line : Line
  pub more : List Line
  pub parts : lines ≡ before ++ (line ∷ more)
  pub number : number_by line ≡ n
  pub told : shown root (peers_from root nobody before) line line.said ≡ Some (place, fault)

abbrev pub BringsOctets : Said → Type 0
BringsOctets (From peer octets) = ⊤
BringsOctets (Leaf leaf label) = ⊥

-- whichever line names the peer of that number brings octets of it
abbrev pub IsHeard : ℕ → List Line → Type 0
IsHeard n lines = AllByRecursion (λ (line : Line). number_by line ≡ n → BringsOctets line.said) lines
