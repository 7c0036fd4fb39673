use Rattle.std.proofs.Common.{rules, ◌≡◌, ◌<◌, ◌-◌, ℕ, true, option_map, arith, sym, ap, ◌∙◌}
use Rattle.choice_defs.specs.declared.known_route.KnownRoute.{KnownRoute}
use Rattle.choice_defs.specs.Choice.{cost_by}
use Rattle.umh_select.specs.Routes.{IsNoneAt, chosen, is_found, known}
use Rattle.umh_select.proofs.ChosenLemmas.{all_lengths, found_not, no_length}
use Rattle.umh_select.proofs.umh.Umh.choose.Goals as goal

pub returns-then-is_found-clause-route : goal.returns-then-is_found-clause-route
returns-then-is_found-clause-route c =
    let bits = c.loop-length.length - 1 in
    let positive : 0 < c.loop-length.length = search rules in
    let found : is_found c.choose_at-choice.result ≡ true = search rules in
    λ cost costs.
    c.choose_at-choice.ensures.route cost costs
    ∙ ap (chosen c.args.self.now.learned) (all_lengths c.args.self.now c.args.source c.args.group bits cost
    (λ length h. c.loop-length.invariant.none length (omega (arith, h, positive)))
    (λ none. found_not c.choose_at-choice.result found (c.choose_at-choice.ensures.route cost costs ∙ ap (chosen c.args.self.now.learned) none)))

pub returns-then-is_found-clause-origin : goal.returns-then-is_found-clause-origin
returns-then-is_found-clause-origin c =
    let bits = c.loop-length.length - 1 in
    let positive : 0 < c.loop-length.length = search rules in
    let found : is_found c.choose_at-choice.result ≡ true = search rules in
    λ cost costs.
    c.choose_at-choice.ensures.origin cost costs
    ∙ ap (option_map (λ (route : KnownRoute). route.origin)) (all_lengths c.args.self.now c.args.source c.args.group bits cost
    (λ length h. c.loop-length.invariant.none length (omega (arith, h, positive)))
    (λ none. found_not c.choose_at-choice.result found (c.choose_at-choice.ensures.route cost costs ∙ ap (chosen c.args.self.now.learned) none)))

pub returns-clause-route : goal.returns-clause-route
returns-clause-route c =
    let none : (length : ℕ) → IsNoneAt c.args.self.now c.args.source length = λ length. c.loop-length.invariant.none length (search rules) in
    λ cost costs. sym (ap (chosen c.args.self.now.learned)
    (no_length c.args.self.now c.args.source (cost_by c.args.self.now.rule cost (known c.args.self.now) c.args.source c.args.group) none))

pub returns-clause-origin : goal.returns-clause-origin
returns-clause-origin c =
    let none : (length : ℕ) → IsNoneAt c.args.self.now c.args.source length = λ length. c.loop-length.invariant.none length (search rules) in
    λ cost costs. sym (ap (option_map (λ (route : KnownRoute). route.origin))
    (no_length c.args.self.now c.args.source (cost_by c.args.self.now.rule cost (known c.args.self.now) c.args.source c.args.group) none))
