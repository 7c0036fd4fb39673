use Rattle.std.proofs.Common.{sym, ap, ◌∙◌, Option}
use Rattle.indexmap.specs.IndexMap.{get}
use Rattle.pim_state.specs.Plan.{is_at}
use Rattle.pim_defs.specs.Mention.{expiry_after}
use Rattle.audit_events.specs.declared.joined.Held.{Held}
use Rattle.audit_events.specs.Joined.{is_set_at, last_in}
use Rattle.audit_events.proofs.SetLemmas.{set_one_new, set_one_same}
use Rattle.audit_events.proofs.joined.set_one.Goals as goal

pub returns-then-is_set_at : goal.returns-then-is_set_at
returns-then-is_set_at c = λ other.
    let old = c.copied-old.ensures ∙ c.get.ensures.value in
    set_one_same c.args.taking.now.message.now c.args.taking.now.clock c.args.taking.now.event c.args.since c.args.at.now other
    (get is_at c.args.entries.now)
    (ap (is_set_at c.args.taking.now.event) (sym old) ∙ (sym c.is_set_at.ensures ∙ c.if-is_set_at.true))

pub returns : goal.returns
returns c = λ other.
    let old = c.copied-old.ensures ∙ c.get.ensures.value in
    set_one_new c.args.taking.now.message.now c.args.taking.now.clock c.args.taking.now.event c.args.since c.args.at.now other
    (get is_at c.args.entries.now c.args.at.now)
    (record { expiry = c.expiry_after-expiry.result; set = c.args.taking.now.event }) (get is_at c.args.entries.now) (get is_at c.insert.new.self)
    (ap (is_set_at c.args.taking.now.event) (sym old) ∙ (sym c.is_set_at.ensures ∙ c.if-is_set_at.false))
    (λ i. record {
      expiry = (c.expiry_after-expiry.ensures
          ∙ (λ j. expiry_after c.args.at.now.entry (c.mention_of.ensures j) c.args.taking.now.clock c.args.taking.now.message.now.holdtime
          ((c.last_in.ensures ∙ ap (λ (o : Option Held). last_in o c.args.since) old) j))) i;
      set = c.args.taking.now.event;
    })
    (c.in_ok-insert.ensures.updates.0 other)
