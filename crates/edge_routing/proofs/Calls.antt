-- What calls make before flows are refreshed.
use Rattle.std.proofs.Common.{◌≡◌, ℕ, List, is_some, sym, ap, subst, ◌∙◌}
use Rattle.std.specs.FinMap as maps
use Rattle.mv_base.specs.declared.ids.NodeId.{NodeId}
use Rattle.mv_base.specs.core_walks.Core.{Core}
use Rattle.mldp.specs.declared.mldp_fec.fec.Fec.{Fec}
use Rattle.edge_defs.specs.Edge.{Control}
use Rattle.edge_defs.specs.Steps.{Call, effect}
use Rattle.edge_routes.specs.edge_home.Home.{Home, place_of}
use Rattle.edge_control.specs.edge_tables.Tables.{Tables}
use Rattle.held_tables.specs.Holding.{AreToldAlike, HoldAll}
use Rattle.vrf_words.specs.tree_laws.Joins.{AreOfVrfs}
use Rattle.control_laws.specs.Control.{Kept, control_of}
use Rattle.edge_control.specs.Sound.{wants_of}
use Rattle.control_laws.specs.group_laws.Groups.{HaveGroups, IsAllowed}
use Rattle.control_laws.proofs.group_laws.Effects.{effect_groups}
use Rattle.edge_routing.specs.edge_updates.Inclusive.{AreTunnels}
use Rattle.edge_labels.specs.node_laws.Waits.{kept_for}
use Rattle.edge_routing.specs.declared.routing.EdgeRouting.{EdgeRouting}
use Rattle.edge_routing.specs.Routing.{AreBetween, IsInStep, IsOnWay}
use Rattle.edge_routing.proofs.Between.{same_keys, same_waiting, still_between}

-- What a call is known to have made of what is kept, and of what peers are to have.
pub record HasMade (call : Call) (now : ℕ) (old : EdgeRouting) (control : Kept) (tables : Tables) (tunnels : List Fec) : Type 0 where
  pub home : control.home ≡ old.control.home
  pub made : (core : Core) → control_of control ≡ effect (place_of old.control.home core) now (control_of old.control) call
  pub wants : wants_of control.trees ≡ wants_of old.control.trees
  pub allowed : IsAllowed call
  pub flows : (core : Core) → (effect (place_of old.control.home core) now (control_of old.control) call).flows ≡ (control_of old.control).flows
  pub up : (core : Core) (peer : NodeId) → is_some (maps.get (effect (place_of old.control.home core) now (control_of old.control) call).peers peer)
      ≡ is_some (maps.get old.control.peers peer)
  pub hold : (core : Core) → HoldAll (place_of old.control.home core) (effect (place_of old.control.home core) now (control_of old.control) call)
      tables
  pub alike : AreToldAlike old.tables tables
  pub keeps : (peer : NodeId) (octets : List ℕ) → kept_for call peer octets ≡ octets
  pub told : (core : Core) → AreTunnels (place_of old.control.home core) (control_of old.control) (control_of control) tunnels

module _ (call : Call) (now : ℕ) (old : EdgeRouting) (control : Kept) (tables : Tables) (tunnels : List Fec) (any : Core) (step : IsInStep old)
    (has : HasMade call now old control tables tunnels) where
  abbrev between : EdgeRouting
  between = record { control = control; tables = tables }

  groups_between : HaveGroups (control_of control)
  groups_between =
      subst HaveGroups (sym (has.made any)) (effect_groups (place_of old.control.home any) now (control_of old.control) call step.groups has.allowed)

  vrfs_between : (core : Core) → AreOfVrfs (place_of control.home core) (control_of control)
  vrfs_between core flow up h =
      subst (λ (x : Home). AreOfVrfs (place_of x core) (control_of control)) (sym has.home)
      (λ flow up h. step.vrfs core flow up (sym (ap (λ (c : Control). maps.get c.flows flow) (has.made core)
      ∙ ap (λ (f : _). maps.get f flow) (has.flows core)) ∙ h)) flow up h

  up_same : (peer : NodeId) → is_some (maps.get control.peers peer) ≡ is_some (maps.get old.control.peers peer)
  up_same peer = ap (λ (c : Control). is_some (maps.get c.peers peer)) (has.made any) ∙ has.up any peer

  tables_between : (core : Core) → AreBetween (place_of control.home core) (control_of old.control) (control_of control) tables
  tables_between core =
      subst (λ (x : Home). AreBetween (place_of x core) (control_of old.control) (control_of control) tables) (sym has.home)
      (still_between old.tables tables has.alike (place_of old.control.home core) (control_of old.control) (control_of old.control)
      (control_of control) (step.tables core)
      (subst (λ (c : Control). HoldAll (place_of old.control.home core) c tables) (sym (has.made core)) (has.hold core)) up_same)

  pub on_way : IsOnWay call now old between tunnels
  on_way = record {
    home = has.home;
    control =
        λ core. subst (λ (x : Home). control_of control ≡ effect (place_of x core) now (control_of old.control) call) (sym has.home) (has.made core);
    wants = has.wants;
    groups = groups_between;
    vrfs = vrfs_between;
    tables = tables_between;
    waiting = λ peer. same_waiting old.tables tables has.alike peer ∙ sym (has.keeps peer _);
    peers = λ peer. same_keys old.tables tables has.alike peer;
    up = λ peer h. same_keys old.tables tables has.alike peer ∙ step.up peer (sym (up_same peer) ∙ h);
    tunnels =
        λ core. subst (λ (x : Home). AreTunnels (place_of x core) (control_of old.control) (control_of control) tunnels) (sym has.home)
        (has.told core);
  }
