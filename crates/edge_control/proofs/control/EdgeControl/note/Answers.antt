use Rattle.std.proofs.Common.{List, ap, ◌∙◌, refl}
use Rattle.std.proofs.lemmas.Result.{on_ok_weaker}
use Rattle.vrf_words.specs.tree_defs.Trees.{TreeData}
use Rattle.edge_defs.specs.Originated.{is_iface_of}
use Rattle.edge_defs.specs.Steps.{Customer, Active, effect}
use Rattle.edge_routes.specs.edge_home.Home.{place_of}
use Rattle.control_laws.specs.Control.{Kept, control_of}
use Rattle.control_laws.specs.Customers.{noted}
use Rattle.control_laws.proofs.Parts.{no_core}
use Rattle.edge_control.specs.Sound.{kept_of, wants_of}
use Rattle.edge_control.specs.Places.{changed_at}
use Rattle.edge_control.proofs.CallLemmas.{is_there, noted_made, sound_either}
use Rattle.edge_control.proofs.WantLemmas.{changed_wants, wants_either}
use Rattle.edge_control.proofs.control.EdgeControl.note.Goals as goal

pub note_at-requires : goal.note_at-requires
note_at-requires c =
    let kept : Kept = kept_of c.self.inside.home c.self.inside.trees.items c.self.inside.taken in
    record {
      there = is_there kept c.self.invariant c.place_of_iface-place.result (λ own. is_iface_of kept.home.scenario own.id c.args.iface)
          c.place_of_iface-place.ensures;
    }

pub invariant_of-self : goal.invariant_of-self
invariant_of-self c =
    let kept : Kept = kept_of c.self.inside.home c.self.inside.trees.items c.self.inside.taken in
    sound_either c.note_at.result kept c.note_at.new.trees.items
    (changed_at c.place_of_iface-place.result (noted c.args.iface c.args.source c.args.group) kept.trees) c.self.invariant
    (noted_made kept c.self.invariant c.place_of_iface-place.result c.args.iface c.place_of_iface-place.ensures c.args.source c.args.group 0
    no_core).sound c.note_at.ensures.noted c.note_at.ensures.unchanged

pub returns-clause-noted : goal.returns-clause-noted
returns-clause-noted c =
    let kept : Kept = kept_of c.self.inside.home c.self.inside.trees.items c.self.inside.taken in
    λ core now. on_ok_weaker c.note_at.result (λ e.
    ap (λ (trees : List TreeData). control_of (record kept { trees = trees })) e
    ∙ (noted_made kept c.self.invariant c.place_of_iface-place.result c.args.iface c.place_of_iface-place.ensures c.args.source c.args.group now core).is
    ∙ ap (λ (k : Kept). effect (place_of k.home core) now (control_of k) (Customer (Active c.args.iface c.args.source c.args.group))) c.self.view_is)
    c.note_at.ensures.noted

pub returns-clause-wants : goal.returns-clause-wants
returns-clause-wants c =
    let kept : Kept = kept_of c.self.inside.home c.self.inside.trees.items c.self.inside.taken in
    wants_either c.note_at.result kept.trees c.note_at.new.trees.items
    (changed_at c.place_of_iface-place.result (noted c.args.iface c.args.source c.args.group) kept.trees) c.note_at.ensures.noted c.note_at.ensures.unchanged
    (changed_wants (noted c.args.iface c.args.source c.args.group) (λ tree. refl) c.place_of_iface-place.result kept.trees)
    ∙ ap (λ (k : Kept). wants_of k.trees) c.self.view_is
