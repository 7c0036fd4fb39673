use Rattle.std.proofs.Common.{◌∙◌, sym, ap, option_copied, Bor, Option}
use Rattle.mvpn_model.specs.Sessions.{sessions}
use Rattle.mvpn_model.specs.declared.session.Session.{Session}
use Rattle.network_events.proofs.FoundLemmas.{none_raised, one_raised, some_found}
use Rattle.network_events.proofs.sessions.raise_session.Goals as goal

pub returns-in-None : goal.returns-in-None
returns-in-None c =
    none_raised c.args.kind c.args.a c.args.b c.args.network.now c.as_slice.result.now
    (c.as_slice.ensures ∙ (c.in-Ok.ensures ∙ ap sessions c.scenario.ensures))
    (sym c.session_of.ensures ∙ ap (λ (o : Option (Bor Session)). option_copied o) c.in-None.is) c.args.lines.now

pub raise_ends-requires : goal.raise_ends-requires
raise_ends-requires c = record {
  network =
      some_found c.args.kind c.args.a c.args.b c.args.network.now c.as_slice.result.now
      (c.as_slice.ensures ∙ (c.in-Ok.ensures ∙ ap sessions c.scenario.ensures)) c.in-Some.session.now
      (sym c.session_of.ensures ∙ ap (λ (o : Option (Bor Session)). option_copied o) c.in-Some.is) c.requires.network;
}

pub returns : goal.returns
returns c =
    one_raised c.args.kind c.args.a c.args.b c.args.network.now c.as_slice.result.now
    (c.as_slice.ensures ∙ (c.in-Ok.ensures ∙ ap sessions c.scenario.ensures)) c.in-Some.session.now
    (sym c.session_of.ensures ∙ ap (λ (o : Option (Bor Session)). option_copied o) c.in-Some.is) c.raise_ends.new.network c.args.lines.now
    c.raise_ends.new.lines c.raise_ends.result c.raise_ends.ensures
