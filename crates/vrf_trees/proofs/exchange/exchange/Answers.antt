use Rattle.std.proofs.Common.{not, filter, List, ap, ◌∙◌}
use Rattle.mldp.specs.declared.mldp_fec.fec.Fec.{Fec}
use Rattle.vrf_trees.specs.Wants.{is_in, tunnels_in}
use Rattle.vrf_trees.proofs.TableLemmas.{less-new, more-new}
use Rattle.vrf_trees.proofs.exchange.exchange.Goals as goal

pub returns-clause-wanted : goal.returns-clause-wanted
returns-clause-wanted c =
    more-new c.args.plan.entries c.args.wants.now.entries c.carry_out.new.wants.entries c.requires.unique c.requires.held c.carry_out.ensures.unique
    (λ q. c.in_ok-carry_out.ensures.each q)
    c.in_ok-come.come.keys c.in_ok-more.more (λ fec. c.in_ok-come.ensures.each fec) c.in_ok-come.ensures.once
    (c.in_ok-more.ensures ∙ ap (λ (l : List Fec). filter (λ fec. not (is_in fec (tunnels_in c.args.wants.now.entries))) l) c.as_slice.ensures.keys)

pub returns-clause-unwanted : goal.returns-clause-unwanted
returns-clause-unwanted c =
    less-new c.args.plan.entries c.args.wants.now.entries c.carry_out.new.wants.entries c.requires.unique c.requires.held c.carry_out.ensures.unique
    (λ q. c.in_ok-carry_out.ensures.each q)
    c.in_ok-gone.gone.keys c.in_ok-less.less (λ fec. c.in_ok-gone.ensures.each fec) c.in_ok-gone.ensures.once
    (c.in_ok-less.ensures ∙ ap (λ (l : List Fec). filter (λ fec. not (is_in fec (tunnels_in c.carry_out.new.wants.entries))) l)
    c.as_slice-2.ensures.keys)
