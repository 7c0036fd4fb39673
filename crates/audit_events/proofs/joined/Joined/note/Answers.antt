use Rattle.std.proofs.Common.{cond, ap, ◌∙◌, refl, Some}
use Rattle.std.specs.Prelude.{Bool}
use Rattle.indexmap.specs.IndexMap.{get}
use Rattle.pim_state.specs.Plan.{is_at}
use Rattle.pim_state.proofs.MapLemmas.{at-symmetric}
use Rattle.audit_events.specs.Joined.{at_iface}
use Rattle.audit_events.proofs.joined.Joined.note.Goals as goal

pub returns : goal.returns
returns c = record {
  clock = refl;
  now = refl;
  entry = λ at. refl;
  shared = λ at. refl;
  note = λ at.
      c.in_ok-insert.ensures.updates.0 at
      ∙ ap (λ (b : Bool). cond b (Some (record { expiry = c.args.expiry; set = c.args.self.now.count })) (get is_at c.args.self.now.notes at))
      (at-symmetric (at_iface c.args.iface c.args.entry) at);
  restarts = refl;
}
