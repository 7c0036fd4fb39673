use Rattle.std.proofs.Common.{ap, ◌∙◌, ℕ, List}
use Rattle.std.specs.Int.{w32, from_be_bytes}
use Rattle.ingress_text.proofs.RoleLemmas.{role_more}
use Rattle.ingress_text.proofs.draft.Draft.say.Goals as goal

pub invariant_of-result : goal.invariant_of-result
invariant_of-result c =
    role_more c.self.inside.roles c.insert.new.self c.self.inside.lines c.push.new.self (record { number = c.args.number; said = c.args.said })
    c.number_of.result c.role_of.result c.self.invariant
    c.in_ok-insert.ensures.updates.0 (c.number_of.ensures ∙ ap (λ (octets : List ℕ). from_be_bytes w32 octets) c.peer_of.ensures) c.role_of.ensures
    c.in_ok-push.ensures.ok
