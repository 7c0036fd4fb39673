use Rattle.std.proofs.Common.{ℕ, List, ◌++◌, sym, ap, subst, ◌∙◌}
use Rattle.mv_base.specs.Octets.{IsOctets}
use Rattle.bgp_messages.specs.bgp_update.Written.{message_text}
use Rattle.bgp_messages.proofs.bgp_update.Appending.{many_long, message_octets}
use Rattle.bgp_messages.proofs.bgp_update.writing.encode.Goals as goal

pub returns-then-has_many-clause-written : goal.returns-then-has_many-clause-written
returns-then-has_many-clause-written c = many_long c.args.change.now c.requires (sym c.has_many.ensures ∙ c.if-has_many.true)

pub returns-clause-octets : goal.returns-clause-octets
returns-clause-octets c =
    let list = c.as_slice.result.now in
    let is = c.in_ok-put_message.ensures.text ∙ ap (λ (xs : List ℕ). xs ++ message_text list) c.in_ok-message.ensures in
    subst IsOctets (sym is) (message_octets list c.put_message.ensures.octets)
