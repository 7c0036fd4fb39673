use Rattle.std.proofs.Common.{ℕ, List, take, drop, sym, ap, subst, ◌∙◌}
use Rattle.std.proofs.lemmas.Result.{on_ok_weaker, on_err_weaker, IfOk-weaker}
use Rattle.net_sessions.specs.session_transit.TransitData.{TransitData, octets_at, Takes}
use Rattle.net_sessions.specs.session_transit.Kept.{kept_at, transit_of}
use Rattle.net_sessions.proofs.session_transit.Directions.{octets_seen, unchanged, changes_at, takes}
use Rattle.net_sessions.proofs.session_transit.transit.Transit.take.Goals as goal

pub returns-clause-taken : goal.returns-clause-taken
returns-clause-taken c = IfOk-weaker c.take.result _ _ (λ bytes is. is
    ∙ ap (λ k. take c.args.count (kept_at c.self.inside.sessions k)) c.key_of-at.ensures
    ∙ ap (take c.args.count) (sym (octets_seen c.self.inside.sessions c.args.over))
    ∙ ap (λ (t : TransitData). take c.args.count (octets_at t c.args.over)) c.self.view_is) c.take.ensures.taken

pub returns-clause-rest : goal.returns-clause-rest
returns-clause-rest c = on_ok_weaker c.take.result (λ each.
    subst (λ (t : TransitData). Takes c.args.over c.args.count t (transit_of c.take.new.sessions)) c.self.view_is
    (takes c.self.inside.sessions c.take.new.sessions c.args.over c.args.count
    (changes_at c.self.inside.sessions c.take.new.sessions c.args.over c.key_of-at.result c.key_of-at.ensures (λ (d : List ℕ). drop c.args.count d)
    each))) c.take.ensures.rest

pub returns-clause-same : goal.returns-clause-same
returns-clause-same c =
    on_err_weaker c.take.result (λ each. unchanged c.self.inside.sessions c.take.new.sessions each ∙ c.self.view_is) c.take.ensures.same
