-- What holds of the network throughout an event: at first, and after each of its acts, the two acts of a raise among them.
use Rattle.std.specs.Prelude.{◌≡◌, ⊤, List, [], ◌∷◌, None, Some, Ok, Err}
use Rattle.scenario_defs.specs.declared.event.Timed.{Timed}
use Rattle.network_defs.specs.Acts.{Act, act}
use Rattle.network_defs.specs.Events.{Happened, Outcome, Done, Halted}
use Rattle.network_defs.specs.Run.{outcome}
use Rattle.network_defs.specs.World.{World}

-- This happens between one network and the next: it is an act, with its lines; or the line of a refused event, which changes nothing.
abbrev pub Happens : World → Happened → World → Type 0
Happens old happened next = elim happened.act [
  | None ↦ next ≡ old
  | Some one ↦ act old one ≡ Ok (record { world = next; lines = happened.lines })
]

-- These acts happen one after another between two networks, and P holds of the first network and after each act.
abbrev pub Throughout : (World → Type 0) → World → List Happened → World → Type 0
Throughout P old [] new = (new ≡ old) × P old
Throughout P old (happened ∷ more) new = (next : World) × P old × Happens old happened next × Throughout P next more new

-- P holds throughout the acts of an event. A datagram that the event sends is accepted before the first of them. Where an act lacks a
-- label, it is the one that comes after these.
abbrev pub ThroughoutEvent : (World → Type 0) → World → Outcome → Type 0
ThroughoutEvent P old (Done acts new) = Throughout P (record old { datagrams = new.datagrams }) acts new
ThroughoutEvent P old (Halted acts node) =
    (last : World) × (lacking : Act) × Throughout P (record old { datagrams = last.datagrams }) acts last × (act last lacking ≡ Err node)

-- P holds of the network, and throughout these events, up to one that lacks a label.
abbrev pub ThroughoutEvents : (World → Type 0) → World → List Timed → Type 0
ThroughoutEvents P old [] = P old
ThroughoutEvents P old (timed ∷ more) =
    P old × ThroughoutEvent P old (outcome old timed)
    × elim (outcome old timed) [ Done acts new ↦ ThroughoutEvents P new more | Halted acts node ↦ ⊤ ]
