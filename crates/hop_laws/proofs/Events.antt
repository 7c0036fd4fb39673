-- Each `hop` line of an event names a datagram that was accepted by then, and has a TTL of 1 to 255.
use Rattle.std.proofs.Common.{◌≡◌, ℕ, ◌+◌, ◌++◌, length, List, inl, inr, refl, sym, subst, length-append, arith}
use Rattle.scenario_defs.specs.declared.event.Event.{Event}
use Rattle.scenario_defs.specs.declared.event.Event.TheVariants as events
use Rattle.scenario_defs.specs.declared.event.Timed.{Timed}
use Rattle.network_defs.specs.Events.{Happened, Done, done}
use Rattle.network_defs.specs.Run.{outcome}
use Rattle.network_defs.specs.World.{World}
use Rattle.delivery_laws.specs.Flood.{lines_in}
use Rattle.delivery_laws.specs.Once.{brought_by}
use Rattle.delivery_laws.proofs.Copies.{EachCopy}
use Rattle.delivery_laws.proofs.Delivery.{came}
use Rattle.delivery_laws.proofs.Events.{Before, event_leads}
use Rattle.delivery_laws.proofs.Outcomes.{Leads}
use Rattle.delivery_laws.proofs.network_laws.Lists.{each_weaker}
use Rattle.hop_laws.proofs.Alive.{IsAlive, IsCopy, ArePut, Alive, Entering, puts_are, act_puts, entry_puts}

more_known : (count more ttl number : ℕ) → IsAlive count ttl number → IsAlive (count + more) ttl number
more_known count more ttl number a =
    record { counted = a.counted; known = (let known = a.known in omega (arith, known)); alive = a.alive; bounded = a.bounded }

-- Each copy is one of the datagrams of the network.
abbrev pub IsKept : World → Type 0
IsKept world = EachCopy (IsCopy (length world.datagrams)) world.copies

kept_alive : (world : World) → IsKept world → Alive (length world.datagrams) world
kept_alive world k = record { datagrams = refl; copies = k }

alive_kept : (count : ℕ) (world : World) → Alive count world → IsKept world
alive_kept count world a = subst (λ (n : ℕ). EachCopy (IsCopy n) world.copies) (sym a.datagrams) a.copies

module _ (old : World) (k : IsKept old) where
  -- the datagrams after an event
  abbrev thereafter : Event → ℕ
  thereafter event = length (old.datagrams ++ brought_by event)

  more_copies : (event : Event) → EachCopy (IsCopy (thereafter event)) old.copies
  more_copies event =
      let more = length (brought_by event) in
      subst (λ (count : ℕ). EachCopy (IsCopy count) old.copies) (sym (length-append old.datagrams (brought_by event)))
      (λ u n. each_weaker (IsCopy (length old.datagrams) u n) (IsCopy (length old.datagrams + more) u n)
      (λ copy a. more_known (length old.datagrams) more copy.ttl copy.number a) (old.copies u n) (k u n))

  entering : (event : Event) → length (brought_by event) ≡ 1 → Entering (thereafter event) (record old { datagrams = old.datagrams ++ brought_by event })
  entering event one = record {
    alive = record { datagrams = refl; copies = more_copies event };
    some = (let long = length-append old.datagrams (brought_by event) in omega (arith, long, one));
  }

  still : (event : Event) → length (brought_by event) ≡ 0 → Alive (thereafter event) old
  still event none = record {
    datagrams = (let long = length-append old.datagrams (brought_by event) in omega (arith, long, none));
    copies = more_copies event;
  }

  before : (event : Event) → Before (ArePut (thereafter event)) (puts_are (thereafter event)) (Alive (thereafter event)) (Entering (thereafter event))
      (act_puts (thereafter event)) (entry_puts (thereafter event)) (λ world e. e.alive) old event
  before (events.Send site source group payload) = entering (events.Send site source group payload) refl
  before (events.Packet site octets) = entering (events.Packet site octets) refl
  before other = still other refl

  done_puts : (event : Event) → Leads (ArePut (thereafter event)) (Alive (thereafter event)) (done old event)
  done_puts event =
      event_leads (ArePut (thereafter event)) (puts_are (thereafter event)) (Alive (thereafter event)) (Entering (thereafter event)) (act_puts (thereafter event))
      (entry_puts (thereafter event)) (λ world e. e.alive) old event (before event)

  -- What an event leaves, and its lines.
  pub event_puts : (timed : Timed) (acts : List Happened) (next : World) → outcome old timed ≡ Done acts next
      → ArePut (length next.datagrams) (lines_in acts) × IsKept next
  event_puts timed acts next is = elim (came old timed acts next is).is [
    | inl done_is ↦
        let l = subst (Leads (ArePut (thereafter timed.event)) (Alive (thereafter timed.event))) done_is (done_puts timed.event) in
        (subst (λ (count : ℕ). ArePut count (lines_in acts)) (sym l.1.datagrams) l.0, alive_kept (thereafter timed.event) next l.1)
    | inr refused ↦ (subst (λ (all : List Happened). ArePut (length next.datagrams) (lines_in all)) refused.1 (tt, tt), subst IsKept refused.2 k)
  ]
