use Rattle.std.proofs.Common.{◌≡◌, Some, None, true, sym, ap, subst, ◌∙◌}
use Rattle.std.specs.FinMap as maps
use Rattle.std.specs.FinMap.{FinMap}
use Rattle.bgp_messages.specs.declared.bgp_attributes.update.Change.TheVariants.{Unreach}
use Rattle.label_defs.specs.Keys.{node_cmp}
use Rattle.edge_defs.specs.Edge.{Taken, TakenRoute}
use Rattle.edge_defs.specs.Steps.{taken_change}
use Rattle.edge_tables.specs.taken_tables.Routes.{handed}
use Rattle.edge_tables.specs.taken_tables.Tables.{changed_at, reach, route_at}
use Rattle.control_laws.specs.Control.{Kept, control_of}
use Rattle.edge_control.specs.Sound.{IsSound, kept_of, wants_of}
use Rattle.edge_control.specs.Places.{vrfs_of}
use Rattle.edge_control.specs.Taking.{coming, dropping, route_of}
use Rattle.edge_control.proofs.PeerSound.{as_many}
use Rattle.edge_control.proofs.PeerAnnounced.{as_coming, came, none_there, taken_back, went}
use Rattle.control_laws.proofs.Parts.{no_core}
use Rattle.control_laws.proofs.PeersChange.{change_leaves}
use Rattle.edge_routes.specs.edge_home.Home.{place_of}
use Rattle.edge_control.proofs.WantLemmas.{turned_wants}
use Rattle.edge_control.proofs.control.EdgeControl.enter.Goals as goal

pub invariant_of-self-in-Ok : goal.invariant_of-self-in-Ok
invariant_of-self-in-Ok c =
    let kept : Kept = kept_of c.self.inside.home c.self.inside.trees.items c.self.inside.taken in
    let none : route_at kept.peers c.args.peer c.args.key.now ≡ None =
    none_there (route_at kept.peers c.args.peer c.args.key.now) (sym c.in_ok-enter.ensures.fresh ∙ c.if-not-branch.false) in
    let up : maps.contains_key kept.peers c.args.peer ≡ true = sym c.is_up.ensures ∙ c.if-not-is_up.false in
    subst (λ (tables : FinMap node_cmp Taken). IsSound (kept_of c.self.inside.home c.learn_said.new.trees.items tables))
    (sym (c.in_ok-enter.ensures.entered c.if-not-branch.false))
    (came kept c.self.invariant c.args.peer c.args.key.now c.spelled.ensures (handed c.args.value.now) c.args.now c.learn_said.new.trees.items none
    up c.in-Ok.ensures.learned).0

pub invariant_of-self-in-Err : goal.invariant_of-self-in-Err
invariant_of-self-in-Err c =
    let kept : Kept = kept_of c.self.inside.home c.self.inside.trees.items c.self.inside.taken in
    let none : route_at kept.peers c.args.peer c.args.key.now ≡ None =
    none_there (route_at kept.peers c.args.peer c.args.key.now) (sym c.in_ok-enter.ensures.fresh ∙ c.if-not-branch.false) in
    let up : maps.contains_key kept.peers c.args.peer ≡ true = sym c.is_up.ensures ∙ c.if-not-is_up.false in
    let back : c.forget.new.self ≡ kept.peers =
    c.forget.ensures c.args.now
    ∙ ap (changed_at c.args.peer (λ taken. taken_change c.args.now taken (Unreach c.args.key.now)))
    (c.in_ok-enter.ensures.entered c.if-not-branch.false)
    ∙ taken_back kept.peers c.args.peer c.args.key.now (handed c.args.value.now) c.args.now none in
    subst (λ (tables : FinMap node_cmp Taken). IsSound (kept_of c.self.inside.home c.learn_said.new.trees.items tables)) (sym back)
    (went kept c.self.invariant c.args.peer c.args.key.now c.spelled.ensures (handed c.args.value.now) c.args.now c.learn_said.new.trees.items none
    up c.in-Err.ensures.forgot).0

pub returns-in-Ok-clause-entered : goal.returns-in-Ok-clause-entered
returns-in-Ok-clause-entered c = λ yes.
    let kept : Kept = kept_of c.self.inside.home c.self.inside.trees.items c.self.inside.taken in
    let none : route_at kept.peers c.args.peer c.args.key.now ≡ None =
    none_there (route_at kept.peers c.args.peer c.args.key.now) (sym c.in_ok-enter.ensures.fresh ∙ c.if-not-branch.false) in
    let up : maps.contains_key kept.peers c.args.peer ≡ true = sym c.is_up.ensures ∙ c.if-not-is_up.false in
    ap (λ (tables : FinMap node_cmp Taken). control_of (kept_of c.self.inside.home c.learn_said.new.trees.items tables))
    (c.in_ok-enter.ensures.entered c.if-not-branch.false)
    ∙ (came kept c.self.invariant c.args.peer c.args.key.now c.spelled.ensures (handed c.args.value.now) c.args.now c.learn_said.new.trees.items none
    up c.in-Ok.ensures.learned).1
    ∙ ap (λ (k : Kept). record (control_of k) {
      peers =
          changed_at c.args.peer (λ taken. taken_change c.args.now taken (reach c.args.key.now (handed c.args.value.now))) k.peers;
    }) c.self.view_is

pub returns-in-Ok-clause-wants : goal.returns-in-Ok-clause-wants
returns-in-Ok-clause-wants c =
    let kept : Kept = kept_of c.self.inside.home c.self.inside.trees.items c.self.inside.taken in
    let none : route_at kept.peers c.args.peer c.args.key.now ≡ None =
    none_there (route_at kept.peers c.args.peer c.args.key.now) (sym c.in_ok-enter.ensures.fresh ∙ c.if-not-branch.false) in
    let route : TakenRoute = route_of (handed c.args.value.now) c.args.now in
    ap wants_of (c.in-Ok.ensures.learned no_core
    ∙ as_coming kept c.self.invariant c.args.peer c.args.key.now c.spelled.ensures (handed c.args.value.now) c.args.now kept.trees none no_core)
    ∙ turned_wants (coming kept.home no_core c.args.peer c.args.now c.args.key.now (Some route))
    (λ own tree. (change_leaves (place_of kept.home no_core) own c.args.peer c.args.now c.args.key.now None (Some route) tree).1) (vrfs_of kept.home)
    kept.trees (as_many kept c.self.invariant)
    ∙ ap (λ (k : Kept). wants_of k.trees) c.self.view_is

pub returns-in-Err-clause-unchanged : goal.returns-in-Err-clause-unchanged
returns-in-Err-clause-unchanged c =
    let kept : Kept = kept_of c.self.inside.home c.self.inside.trees.items c.self.inside.taken in
    let none : route_at kept.peers c.args.peer c.args.key.now ≡ None =
    none_there (route_at kept.peers c.args.peer c.args.key.now) (sym c.in_ok-enter.ensures.fresh ∙ c.if-not-branch.false) in
    let up : maps.contains_key kept.peers c.args.peer ≡ true = sym c.is_up.ensures ∙ c.if-not-is_up.false in
    let back : c.forget.new.self ≡ kept.peers =
    c.forget.ensures c.args.now
    ∙ ap (changed_at c.args.peer (λ taken. taken_change c.args.now taken (Unreach c.args.key.now)))
    (c.in_ok-enter.ensures.entered c.if-not-branch.false)
    ∙ taken_back kept.peers c.args.peer c.args.key.now (handed c.args.value.now) c.args.now none in
    ap (λ (tables : FinMap node_cmp Taken). control_of (kept_of c.self.inside.home c.learn_said.new.trees.items tables)) back
    ∙ (went kept c.self.invariant c.args.peer c.args.key.now c.spelled.ensures (handed c.args.value.now) c.args.now c.learn_said.new.trees.items none
    up c.in-Err.ensures.forgot).1
    ∙ ap control_of c.self.view_is

pub returns-in-Err-clause-wants : goal.returns-in-Err-clause-wants
returns-in-Err-clause-wants c =
    let kept : Kept = kept_of c.self.inside.home c.self.inside.trees.items c.self.inside.taken in
    let route : TakenRoute = route_of (handed c.args.value.now) c.args.now in
    ap wants_of (c.in-Err.ensures.forgot no_core)
    ∙ turned_wants (dropping kept.home no_core c.args.peer c.args.now c.args.key.now (Some route))
    (λ own tree. (change_leaves (place_of kept.home no_core) own c.args.peer c.args.now c.args.key.now (Some route) None tree).1) (vrfs_of kept.home)
    kept.trees (as_many kept c.self.invariant)
    ∙ ap (λ (k : Kept). wants_of k.trees) c.self.view_is
