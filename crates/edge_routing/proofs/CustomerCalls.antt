-- What the calls of customers make before flows are refreshed.
use Rattle.std.proofs.Common.{◌≡◌, ℕ, true, List, refl, sym, ap, subst}
use Rattle.mv_base.specs.Lists.{Among}
use Rattle.mv_base.specs.declared.addr.Addr.{Addr}
use Rattle.mv_base.specs.declared.ids.IfaceId.{IfaceId}
use Rattle.mv_base.specs.core_walks.Core.{Core}
use Rattle.mldp.specs.declared.mldp_fec.fec.Fec.{Fec}
use Rattle.pim_joinprune.specs.declared.message.JoinPrune.{JoinPrune}
use Rattle.edge_defs.specs.Edge.{Control}
use Rattle.edge_defs.specs.Originated.{is_iface_of}
use Rattle.edge_defs.specs.Place.{own_vrfs}
use Rattle.edge_defs.specs.Steps.{Customer, Active, Idle, Pim, effect}
use Rattle.edge_routes.specs.edge_home.Home.{Home, as_own, place_of}
use Rattle.edge_routes.specs.declared.edge_home.own_vrf.OwnVrf.{OwnVrf}
use Rattle.edge_routes.specs.Local.{IsAt}
use Rattle.edge_control.specs.edge_tables.Tables.{Tables}
use Rattle.edge_words.specs.held_laws.Held.{note_of, with_note, without_note}
use Rattle.held_tables.specs.Holding.{AreToldAlike, HoldAll, IsOwnAt}
use Rattle.control_laws.specs.Control.{Kept, control_of}
use Rattle.control_laws.proofs.Parts.{no_core}
use Rattle.edge_control.specs.Sound.{IsSound, wants_of}
use Rattle.control_laws.specs.group_laws.Groups.{HasGroups, IsFlow}
use Rattle.edge_routing.proofs.edge_joins.TurnLemmas.{all_alike}
use Rattle.edge_routing.proofs.edge_updates.TunnelLemmas.{alike_tunnels}
use Rattle.edge_routing.specs.declared.routing.EdgeRouting.{EdgeRouting}
use Rattle.edge_routing.specs.Routing.{IsInStep, IsOnWay}
use Rattle.edge_routing.proofs.Between.{holds}
use Rattle.edge_routing.proofs.Calls.{on_way}

-- each peer is to have what the edge holds for it
pub held_in : (old : EdgeRouting) → IsInStep old → (core : Core) → HoldAll (place_of old.control.home core) (control_of old.control) old.tables
held_in old step core = holds (place_of old.control.home core) (control_of old.control) (control_of old.control) old.tables (step.tables core)

-- ---- a Join/Prune message

-- Entries alone change, so each peer is to have what it was to have.
pub pim_way : (iface : IfaceId) (message : JoinPrune) (now : ℕ) (old : EdgeRouting) (control : Kept) (tunnels : List Fec) → IsInStep old
    → control.home ≡ old.control.home
    → ((core : Core) → control_of control ≡ effect (place_of old.control.home core) now (control_of old.control) (Customer (Pim iface message)))
    → wants_of control.trees ≡ wants_of old.control.trees → HasGroups message
    → IsOnWay (Customer (Pim iface message)) now old (record { control = control; tables = old.tables }) tunnels
pim_way iface message now old control tunnels step home made wants groups =
    on_way (Customer (Pim iface message)) now old control old.tables tunnels no_core step (record {
      home = home;
      made = made;
      wants = wants;
      allowed = groups;
      flows = λ core. refl;
      up = λ core peer. refl;
      hold = λ core. held_in old step core;
      alike = all_alike old.tables;
      keeps = λ peer octets. refl;
      told = λ core. alike_tunnels (place_of old.control.home core) (control_of old.control) (control_of control) tunnels
          (sym (ap (λ (c : Control). c.peers) (made core)));
    })

-- ---- a note

-- Each peer is to have what the edge holds with the note.
pub note_way : (iface : IfaceId) (source group : Addr) (now : ℕ) (old : EdgeRouting) (control : Kept) (tables : Tables) (tunnels : List Fec)
    → IsInStep old → control.home ≡ old.control.home
    → ((core : Core) → control_of control ≡ effect (place_of old.control.home core) now (control_of old.control) (Customer (Active iface source group)))
    → wants_of control.trees ≡ wants_of old.control.trees → IsFlow source group
    → ((core : Core) → HoldAll (place_of control.home core) (with_note (control_of old.control) (note_of iface source group)) tables)
    → AreToldAlike old.tables tables → IsOnWay (Customer (Active iface source group)) now old (record { control = control; tables = tables }) tunnels
note_way iface source group now old control tables tunnels step home made wants flow hold alike =
    on_way (Customer (Active iface source group)) now old control tables tunnels no_core step (record {
      home = home;
      made = made;
      wants = wants;
      allowed = flow;
      flows = λ core. refl;
      up = λ core peer. refl;
      hold = λ core. subst (λ (h : Home). HoldAll (place_of h core) (with_note (control_of old.control) (note_of iface source group)) tables) home
          (hold core);
      alike = alike;
      keeps = λ peer octets. refl;
      told = λ core. alike_tunnels (place_of old.control.home core) (control_of old.control) (control_of control) tunnels
          (sym (ap (λ (c : Control). c.peers) (made core)));
    })

-- ---- the end of a note

-- Each peer is to have what the edge holds without the note.
pub idle_way : (iface : IfaceId) (source group : Addr) (now : ℕ) (old : EdgeRouting) (control : Kept) (tables : Tables) (tunnels : List Fec)
    → IsInStep old → control.home ≡ old.control.home
    → ((core : Core) → control_of control ≡ effect (place_of old.control.home core) now (control_of old.control) (Customer (Idle iface source group)))
    → wants_of control.trees ≡ wants_of old.control.trees → ((core : Core) → HoldAll (place_of control.home core) (control_of control) tables)
    → AreToldAlike old.tables tables → IsOnWay (Customer (Idle iface source group)) now old (record { control = control; tables = tables }) tunnels
idle_way iface source group now old control tables tunnels step home made wants hold alike =
    on_way (Customer (Idle iface source group)) now old control tables tunnels no_core step (record {
      home = home;
      made = made;
      wants = wants;
      allowed = tt;
      flows = λ core. refl;
      up = λ core peer. refl;
      hold = λ core. subst (λ (h : Home). HoldAll (place_of h core) (without_note (control_of old.control) (note_of iface source group)) tables) home
          (subst (λ (c : Control). HoldAll (place_of control.home core) c tables) (made core) (hold core));
      alike = alike;
      keeps = λ peer octets. refl;
      told = λ core. alike_tunnels (place_of old.control.home core) (control_of old.control) (control_of control) tunnels
          (sym (ap (λ (c : Control). c.peers) (made core)));
    })

-- ---- the VRF of an interface, as what is kept shows it

module _ (kept : Kept) (shown : Home) (own : OwnVrf) (same : shown ≡ kept.home) where
  pub own_at : IsSound kept → ((core : Core) → Among (as_own own) (own_vrfs (place_of shown core)))
      → ((core : Core) → IsAt (place_of shown core) own.local) → (core : Core)
      → IsOwnAt (place_of kept.home core) own
  own_at sound among at core = record {
    rules = sound.home.rules;
    among = subst (λ (h : Home). Among (as_own own) (own_vrfs (place_of h core))) same (among core);
    at = subst (λ (h : Home). IsAt (place_of h core) own.local) same (at core);
  }

  pub of_kept : (iface : IfaceId) → is_iface_of shown.scenario own.id iface ≡ true → is_iface_of kept.home.scenario own.id iface ≡ true
  of_kept iface of = subst (λ (h : Home). is_iface_of h.scenario own.id iface ≡ true) same of

-- what peers were to have, at the place of what is kept now
pub held_at : (old : EdgeRouting) (kept : Kept) → IsInStep old → kept.home ≡ old.control.home → (core : Core)
    → HoldAll (place_of kept.home core) (control_of old.control) old.tables
held_at old kept step home core =
    subst (λ (h : Home). HoldAll (place_of h core) (control_of old.control) old.tables) (sym home) (held_in old step core)
