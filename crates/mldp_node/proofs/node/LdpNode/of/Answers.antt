use Rattle.std.proofs.Common.{None, ap, sym, subst, ◌∙◌}
use Rattle.std.specs.FinMap as maps
use Rattle.label_defs.specs.Node.{NodePlace}
use Rattle.label_trees.specs.Trees.{Trees, untouched}
use Rattle.mldp_node.specs.label_ends.Ends.{Ends}
use Rattle.mldp_node.specs.NodeData.{seen}
use Rattle.mldp_node.specs.Parts.{AreTied, WaitOnTrees}
use Rattle.mldp_node.proofs.NodeLemmas.{fresh_tied, fresh_part, none_waits}
use Rattle.mldp_node.proofs.node.LdpNode.of.Goals as goal

pub invariant_of-result : goal.invariant_of-result
invariant_of-result c = λ e. record {
  tied = subst (λ (t : Trees). AreTied t c.of-3.result) (sym c.in_ok-of.ensures)
      (subst (λ (x : Ends). AreTied (untouched c.args.life c.args.labels) x) (sym c.of-3.ensures)
      (fresh_tied c.args.life c.args.labels c.requires.few));
  on = subst (λ (t : Trees). WaitOnTrees t) (sym c.in_ok-of.ensures) (none_waits c.args.life c.args.labels);
  life = ap (λ (t : Trees). t.uses.life) c.in_ok-of.ensures ∙ sym (ap (λ (p : NodePlace). p.life) c.of.ensures);
}

pub returns : goal.returns
returns c =
    (λ i. seen (c.of.ensures i) (c.in_ok-of.ensures i) (c.of-3.ensures i) None)
    ∙ (λ i. record {
      place = record { me = c.args.me; addrs = c.in_ok-addrs.ensures i; life = c.args.life };
      node = record { part = fresh_part c.args.life c.args.labels i; raises = maps.empty; waiting = maps.empty; spent = None };
      awaited = maps.empty;
    })
