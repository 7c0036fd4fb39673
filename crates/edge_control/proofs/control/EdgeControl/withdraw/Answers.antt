use Rattle.std.proofs.Common.{sym, ap, subst, ◌∙◌, None}
use Rattle.std.specs.FinMap.{FinMap}
use Rattle.bgp_messages.specs.declared.bgp_attributes.update.Change.TheVariants.{Unreach}
use Rattle.label_defs.specs.Keys.{node_cmp}
use Rattle.edge_defs.specs.Edge.{Taken}
use Rattle.edge_defs.specs.Steps.{taken_change}
use Rattle.edge_tables.specs.taken_tables.Tables.{changed_at, route_at}
use Rattle.control_laws.specs.Control.{Kept, control_of}
use Rattle.edge_control.specs.Sound.{IsSound, kept_of, wants_of}
use Rattle.edge_control.proofs.PeerSound.{as_many}
use Rattle.edge_control.proofs.PeerTaken.{withdrawn}
use Rattle.control_laws.proofs.Parts.{no_core}
use Rattle.control_laws.proofs.PeersChange.{change_leaves}
use Rattle.edge_routes.specs.edge_home.Home.{place_of}
use Rattle.edge_control.specs.Places.{vrfs_of}
use Rattle.edge_control.specs.Taking.{dropping}
use Rattle.edge_control.proofs.WantLemmas.{turned_wants}
use Rattle.edge_control.proofs.control.EdgeControl.withdraw.Goals as goal

pub invariant_of-self : goal.invariant_of-self
invariant_of-self c =
    let kept : Kept = kept_of c.self.inside.home c.self.inside.trees.items c.self.inside.taken in
    subst (λ (tables : FinMap node_cmp Taken). IsSound (kept_of c.self.inside.home c.drop_in.new.trees.items tables)) (sym (c.forget.ensures 0))
    (withdrawn kept c.self.invariant c.args.peer c.args.key.now c.spelled.ensures 0 c.drop_in.new.trees.items (λ core. c.drop_in.ensures core 0)
    (as_many kept c.self.invariant)).0

pub returns-clause-withdrawn : goal.returns-clause-withdrawn
returns-clause-withdrawn c = λ now.
    let kept : Kept = kept_of c.self.inside.home c.self.inside.trees.items c.self.inside.taken in
    ap (λ (tables : FinMap node_cmp Taken). control_of (kept_of c.self.inside.home c.drop_in.new.trees.items tables)) (c.forget.ensures now)
    ∙ (withdrawn kept c.self.invariant c.args.peer c.args.key.now c.spelled.ensures now c.drop_in.new.trees.items (λ core. c.drop_in.ensures core now)
    (as_many kept c.self.invariant)).1
    ∙ ap (λ (k : Kept). record (control_of k) { peers = changed_at c.args.peer (λ taken. taken_change now taken (Unreach c.args.key.now)) k.peers })
    c.self.view_is

pub returns-clause-wants : goal.returns-clause-wants
returns-clause-wants c =
    let kept : Kept = kept_of c.self.inside.home c.self.inside.trees.items c.self.inside.taken in
    let route = route_at kept.peers c.args.peer c.args.key.now in
    ap wants_of (c.drop_in.ensures no_core 0)
    ∙ turned_wants (dropping kept.home no_core c.args.peer 0 c.args.key.now route)
    (λ own tree. (change_leaves (place_of kept.home no_core) own c.args.peer 0 c.args.key.now route None tree).1) (vrfs_of kept.home)
    kept.trees (as_many kept c.self.invariant)
    ∙ ap (λ (k : Kept). wants_of k.trees) c.self.view_is
