-- What a row of changes of a peer's routes makes of what an edge keeps, and of a list of tunnels.
use Rattle.std.specs.Prelude.{◌≡◌, ◌↔◌, ℕ, false, List, fold}
use Rattle.std.specs.List.{list_any}
use Rattle.mv_base.specs.core_walks.Core.{Core}
use Rattle.mv_base.specs.declared.ids.NodeId.{NodeId}
use Rattle.mldp.specs.declared.mldp_fec.fec.Fec.{Fec}
use Rattle.bgp_messages.specs.declared.bgp_attributes.update.Change.{Change}
use Rattle.label_defs.specs.LabelData.{same_fec}
use Rattle.edge_defs.specs.Edge.{Control}
use Rattle.edge_defs.specs.Place.{EdgePlace}
use Rattle.edge_defs.specs.Steps.{taken_change}
use Rattle.edge_words.specs.Leaf.{IsInclusive}
use Rattle.edge_routes.specs.edge_home.Home.{place_of}
use Rattle.edge_control.specs.edge_tables.taken_tables.Tables.{changed_at}
use Rattle.control_laws.specs.Control.{Kept, control_of}
use Rattle.edge_control.specs.Sound.{wants_of}

-- the changes of the peer are taken at the clock, one after another; where its session is down, nothing changes
abbrev pub changed_by : ℕ → NodeId → List Change → Control → Control
changed_by now peer changes old = record old { peers = changed_at peer (λ taken. fold (taken_change now) taken changes) old.peers }

-- What is not listed after a step was not listed before it, and is the tunnel of an inclusive route before and after, or of none.
abbrev pub AreListed : EdgePlace → Control → List Fec → Control → List Fec → Type 0
AreListed place old before new after =
    (fec : Fec) → list_any (same_fec fec) after ≡ false →
    (list_any (same_fec fec) before ≡ false) × (IsInclusive place old fec ↔ IsInclusive place new fec)

-- The changes of the peer are taken at the clock, the trees want what they wanted, and the tunnels that may come or go are listed too.
pub record AreTaken (now : ℕ) (peer : NodeId) (changes : List Change) (old new : Kept) (before after : List Fec) : Type 0 where
  pub home : new.home ≡ old.home
  pub wants : wants_of new.trees ≡ wants_of old.trees
  pub control : control_of new ≡ changed_by now peer changes (control_of old)
  pub tunnels : (core : Core) → AreListed (place_of old.home core) (control_of old) before (control_of new) after
