use Rattle.std.proofs.Common.{◌≡◌, ◌<◌, List, length, Option, sym, ap, subst, ◌∙◌}
use Rattle.mv_base.specs.Number.{◌>>?◌}
use Rattle.mv_base.specs.declared.addr.Addr.{Addr}
use Rattle.mv_base.specs.declared.ids.NodeId.{NodeId}
use Rattle.label_defs.specs.Node.{NodePlace, node_at}
use Rattle.mldp_node.proofs.CoreLemmas.{toward_is, within_some}
use Rattle.mldp_node.proofs.standing.Standing.upstream.Goals as goal

pub returns-in-Some : goal.returns-in-Some
returns-in-Some c = λ own is.
    let me : c.self.inside.me ≡ c.args.self.now.me = ap (λ (p : NodePlace). p.me) c.self.view_is in
    let addrs : c.as_slice.result.now ≡ c.args.self.now.addrs = c.as_slice.ensures ∙ ap (λ (p : NodePlace). p.addrs) c.self.view_is in
    let count : length c.self.inside.addrs ≡ c.args.core.now.nodes = ap (λ (p : NodePlace). length p.addrs) c.self.view_is ∙ sym c.requires in
    let near : c.self.inside.me.0 < c.args.core.now.nodes = subst (λ n. c.self.inside.me.0 < n) count c.self.invariant.within in
    let far : c.in-Some.root.0 < c.args.core.now.nodes =
    subst (λ n. c.in-Some.root.0 < n) (ap (λ (xs : List Addr). length xs) c.as_slice.ensures ∙ count)
    (within_some c.node_at.result c.in-Some.root (length c.as_slice.result.now) c.in-Some.is c.node_at.ensures.within) in
    toward_is c.args.core.now.nodes c.args.core.now.links own c.self.inside.me c.in-Some.root c.toward.result is near far c.toward.ensures.next
    c.toward.ensures.none
    ∙ ap (λ (n : NodeId). own.toward n c.in-Some.root) me
    ∙ ap (λ (o : Option NodeId). o >>? λ root. own.toward c.args.self.now.me root)
    (sym c.in-Some.is ∙ c.node_at.ensures.value ∙ ap (λ (xs : List Addr). node_at xs c.args.fec.now.root) addrs)
