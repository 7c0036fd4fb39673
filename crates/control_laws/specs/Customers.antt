-- What the calls of customers make of the tree of a VRF (RFC 7761 section 4.5; RFC 6514 sections 12 and 14).
use Rattle.std.specs.Prelude.{◌≡◌, ℕ, List, [], ◌∷◌, ◌++◌, not, map, None}
use Rattle.std.specs.List.{filter, find}
use Rattle.std.specs.FinSet as sets
use Rattle.mv_base.specs.declared.addr.Addr.{Addr}
use Rattle.mv_base.specs.declared.ids.IfaceId.{IfaceId}
use Rattle.mv_base.specs.declared.pattern.Pattern.{Pattern}
use Rattle.selective_defs.specs.declared.selection.Selection.{Selection}
use Rattle.pim_joinprune.specs.declared.message.JoinPrune.{JoinPrune}
use Rattle.pim_defs.specs.Entries.{applied, kept_at}
use Rattle.selective.specs.Roots.{is_of, run_due, selected_now}
use Rattle.vrf_words.specs.declared.tree_defs.flow.Note.{Note}
use Rattle.vrf_words.specs.tree_defs.Trees.{TreeData}
use Rattle.edge_defs.specs.Edge.{Control}
use Rattle.control_laws.specs.Control.{Kept, AreTrees, control_of}

-- What is kept is this, and the trees are those of it.
pub record Makes (kept : Kept) (control : Control) : Type 0 where
  pub is : control_of kept ≡ control
  pub trees : AreTrees kept

-- a Join/Prune message was taken at the interface
abbrev pub pim_taken : IfaceId → JoinPrune → ℕ → TreeData → TreeData
pim_taken iface message now tree =
    record tree { vrf = record tree.vrf { entries = applied tree.vrf.entries iface message now } }

-- a source is noted to send, or is so no more
abbrev pub note_of : IfaceId → Addr → Addr → Note
note_of iface source group = record { iface = iface; flow = record { source = source; group = group } }

abbrev pub noted : IfaceId → Addr → Addr → TreeData → TreeData
noted iface source group tree =
    record tree { vrf = record tree.vrf { notes = sets.insert tree.vrf.notes (note_of iface source group) } }

abbrev pub unnoted : IfaceId → Addr → Addr → TreeData → TreeData
unnoted iface source group tree =
    record tree { vrf = record tree.vrf { notes = sets.remove tree.vrf.notes (note_of iface source group) } }

-- a pattern is selected, or is so no more
abbrev pub selected : Pattern → ℕ → TreeData → TreeData
selected pattern now tree =
    let selections = tree.root.selections ++ selected_now pattern now tree.root.selections ∷ [] in
    record tree { root = record tree.root { selections = selections } }

abbrev pub unselected : Pattern → TreeData → TreeData
unselected pattern tree =
    let selections = filter (λ selection. not (is_of pattern selection)) tree.root.selections in
    record tree { root = record tree.root { selections = selections } }

-- the timers of entries and of selections were run
abbrev pub timers_run : ℕ → TreeData → TreeData
timers_run now tree =
    record tree {
      vrf = record tree.vrf { entries = kept_at tree.vrf.entries now };
      root = record tree.root { selections = map (run_due tree.root.delay now) tree.root.selections };
    }

-- no pattern is there twice
abbrev pub AreSingle : List Selection → Type 0
AreSingle [] = Unit {0}
AreSingle (selection ∷ more) = (find (is_of selection.pattern) more ≡ None) × AreSingle more
