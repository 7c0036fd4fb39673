use Rattle.std.proofs.Common.{◌+◌, ◌++◌, List, [], ◌∷◌, length, refl, ap, ◌∙◌}
use Rattle.mvpn_audit.specs.declared.findings.Noted.{Noted}
use Rattle.mvpn_audit.proofs.FindingLemmas.{found_next}
use Rattle.mvpn_audit.proofs.findings.Findings.add.Goals as goal

pub returns : goal.returns
returns c = λ all sents found.
    found_next all sents c.args.sent.now c.args.self.now
    (record {
      noted = c.push.new.self;
      outs = record { exits = c.ask_of-lacks.new.exits; repeats = c.args.self.now.outs.repeats };
      missing =
          c.first_of-self.result;
    })
    found _ (ap (λ (l : List Noted). length l + 1) c.as_slice.ensures)
    (c.in_ok-push.ensures.ok ∙ ap (λ (n : Noted). c.args.self.now.noted ++ n ∷ []) c.noted_of.ensures)
    c.ask_of-lacks.ensures.each c.ask_of-lacks.ensures.unique refl c.ask_of-lacks.result c.ask_of-lacks.ensures.lacks c.first_of-self.ensures
