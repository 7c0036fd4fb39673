use Rattle.std.proofs.Common.{ap, ◌∙◌, arith}
use Rattle.std.specs.List.{flat_map}
use Rattle.std.proofs.lemmas.List.{take_all}
use Rattle.edge_defs.specs.Datagrams.{outs_at}
use Rattle.edge_routes.specs.edge_home.Home.{place_of}
use Rattle.control_laws.specs.Control.{control_of}
use Rattle.edge_control.specs.Places.{vrfs_of}
use Rattle.edge_routing.proofs.edge_datagrams.ImportLemmas.{same_count}
use Rattle.edge_routing.proofs.edge_datagrams.LeavingLemmas.{outs_more}
use Rattle.edge_routing.proofs.edge_datagrams.egress.all_outs.Goals as goal

pub outs_at-requires-clause-place : goal.outs_at-requires-clause-place
outs_at-requires-clause-place c =
    let count = same_count c.args.control.now.home c.home.result.now c.vrfs-place-end.result.now c.vrfs-place-end.ensures.vrfs c.home.ensures.home in
    omega (arith, count)

pub loop-place-preserved : goal.loop-place-preserved
loop-place-preserved c = λ walks is.
    let count = same_count c.args.control.now.home c.home.result.now c.vrfs-place-end.result.now c.vrfs-place-end.ensures.vrfs c.home.ensures.home in
    outs_more (outs_at (place_of c.args.control.now.home walks) c.args.now (control_of c.args.control.now) c.args.fec.now c.args.flow.source
    c.args.flow.group) (vrfs_of c.args.control.now.home) c.loop-place.place
    c.loop-place.outs.items c.in_ok-more.more c.as_slice.result.now c.extend_from_slice.new.self.items (omega (arith, count))
    (c.loop-place.invariant walks is) (λ own at. c.in_ok-more.ensures walks own is at)
    c.as_slice.ensures c.in_ok-extend_from_slice.ensures.items

pub returns : goal.returns
returns c = λ walks is.
    let count = same_count c.args.control.now.home c.home.result.now c.vrfs-place-end.result.now c.vrfs-place-end.ensures.vrfs c.home.ensures.home in
    c.from_vec.ensures ∙ c.loop-place.invariant walks is
    ∙ ap (flat_map (outs_at (place_of c.args.control.now.home walks) c.args.now (control_of c.args.control.now) c.args.fec.now c.args.flow.source
    c.args.flow.group))
    (take_all c.loop-place.place (vrfs_of c.args.control.now.home) (omega (arith, count)))
