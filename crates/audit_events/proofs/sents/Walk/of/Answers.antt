use Rattle.std.proofs.Common.{ℕ, refl, false, subst}
use Rattle.audit_events.specs.Joined.{kept_of, IsEmpty}
use Rattle.audit_events.proofs.WalkLemmas.{first_walked}
use Rattle.audit_events.proofs.sents.Walk.of.Goals as goal

pub returns : goal.returns
returns c =
    first_walked c.args.case.now (record { joined = c.in_ok-of.field-0; is_open = false })
    (subst (λ (n : ℕ). IsEmpty n (kept_of c.in_ok-of.field-0)) c.len-nodes.ensures c.in_ok-of.ensures) refl
