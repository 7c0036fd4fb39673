use Rattle.std.proofs.Common.{◌<◌, length, sym, ap, subst, ◌∙◌}
use Rattle.std.specs.FinMap as maps
use Rattle.std.specs.FinMap.{FinMap}
use Rattle.std.proofs.lemmas.Result.{on_err_weaker, on_ok_weaker}
use Rattle.label_defs.specs.Keys.{node_cmp}
use Rattle.edge_defs.specs.Edge.{Taken}
use Rattle.control_laws.specs.Control.{Kept, control_of}
use Rattle.edge_control.specs.Sound.{IsSound, kept_of, wants_of}
use Rattle.edge_control.proofs.PeerCalls.{either, lost_control, lost_sound, raised_control, raised_sound}
use Rattle.control_laws.proofs.Parts.{no_core}
use Rattle.control_laws.proofs.PeersLost.{lost_leaves}
use Rattle.edge_routes.specs.edge_home.Home.{place_of}
use Rattle.edge_control.specs.Places.{vrfs_of}
use Rattle.edge_control.specs.Taking.{losing, table_of}
use Rattle.edge_control.proofs.PeerSound.{as_many}
use Rattle.edge_control.proofs.WantLemmas.{turned_wants}
use Rattle.edge_control.proofs.control.EdgeControl.raise.Goals as goal

pub invariant_of-self : goal.invariant_of-self
invariant_of-self c =
    let kept : Kept = kept_of c.self.inside.home c.self.inside.trees.items c.self.inside.taken in
    let known = subst (λ (k : Kept). c.args.peer.0 < length k.home.scenario.nodes) (sym c.self.view_is) c.requires in
    either c.raise.result c.raise.ensures.raised c.raise.ensures.unchanged
    (λ new. subst (λ (tables : FinMap node_cmp Taken). IsSound (kept_of c.self.inside.home c.lose_in.new.trees.items tables))
    (sym (new ∙ ap (λ (tables : FinMap node_cmp Taken). maps.insert tables c.args.peer maps.empty) c.lose.ensures))
    (raised_sound kept c.self.invariant c.args.peer c.lose_in.new.trees.items c.lose_in.ensures known))
    (λ same. subst (λ (tables : FinMap node_cmp Taken). IsSound (kept_of c.self.inside.home c.lose_in.new.trees.items tables))
    (sym (same ∙ c.lose.ensures))
    (lost_sound kept c.self.invariant c.args.peer c.lose_in.new.trees.items c.lose_in.ensures))

pub returns-clause-raised : goal.returns-clause-raised
returns-clause-raised c = λ core now.
    let kept : Kept = kept_of c.self.inside.home c.self.inside.trees.items c.self.inside.taken in
    let known = subst (λ (k : Kept). c.args.peer.0 < length k.home.scenario.nodes) (sym c.self.view_is) c.requires in
    on_ok_weaker c.raise.result
    (λ new.
    ap (λ (tables : FinMap node_cmp Taken). control_of (kept_of c.self.inside.home c.lose_in.new.trees.items tables))
    (new ∙ ap (λ (tables : FinMap node_cmp Taken). maps.insert tables c.args.peer maps.empty) c.lose.ensures)
    ∙ raised_control kept c.self.invariant c.args.peer c.lose_in.new.trees.items c.lose_in.ensures known
    ∙ ap (λ (k : Kept). record (control_of k) { peers = maps.insert k.peers c.args.peer maps.empty }) c.self.view_is)
    c.raise.ensures.raised

pub returns-clause-lost : goal.returns-clause-lost
returns-clause-lost c = λ core now.
    let kept : Kept = kept_of c.self.inside.home c.self.inside.trees.items c.self.inside.taken in
    on_err_weaker c.raise.result
    (λ same.
    ap (λ (tables : FinMap node_cmp Taken). control_of (kept_of c.self.inside.home c.lose_in.new.trees.items tables)) (same ∙ c.lose.ensures)
    ∙ lost_control kept c.self.invariant c.args.peer c.lose_in.new.trees.items c.lose_in.ensures
    ∙ ap (λ (k : Kept). record (control_of k) { peers = maps.remove k.peers c.args.peer }) c.self.view_is)
    c.raise.ensures.unchanged

pub returns-clause-wants : goal.returns-clause-wants
returns-clause-wants c =
    let kept : Kept = kept_of c.self.inside.home c.self.inside.trees.items c.self.inside.taken in
    ap wants_of (c.lose_in.ensures no_core)
    ∙ turned_wants (losing kept.home no_core c.args.peer (table_of kept.peers c.args.peer))
    (λ own tree. (lost_leaves (place_of kept.home no_core) own (control_of kept) c.args.peer tree).1) (vrfs_of kept.home)
    kept.trees (as_many kept c.self.invariant)
    ∙ ap (λ (k : Kept). wants_of k.trees) c.self.view_is
