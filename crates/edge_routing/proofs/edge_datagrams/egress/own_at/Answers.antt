use Rattle.std.proofs.Common.{◌<◌, length, slice_get, option_map, refl, sym, ap, ◌∙◌, arith}
use Rattle.std.proofs.lemmas.Option.{slice_get-map, slice_get_read}
use Rattle.edge_routes.specs.edge_home.Home.{as_own}
use Rattle.control_laws.proofs.Parts.{no_core}
use Rattle.edge_routing.proofs.edge_datagrams.ImportLemmas.{own_count}
use Rattle.edge_routing.proofs.edge_datagrams.egress.own_at.Goals as goal

pub offset_bounds-vrfs-place : goal.offset_bounds-vrfs-place
offset_bounds-vrfs-place c =
    let same = own_count c.args.home.now c.vrfs.result.now c.vrfs.ensures.vrfs in
    let lt : c.args.place < length c.vrfs.result.now = omega (arith, same) in
    omega (arith, lt)

pub bounds-vrfs-place : goal.bounds-vrfs-place
bounds-vrfs-place c =
    let same = own_count c.args.home.now c.vrfs.result.now c.vrfs.ensures.vrfs in
    omega (arith, same)

pub returns : goal.returns
returns c =
    let same = own_count c.args.home.now c.vrfs.result.now c.vrfs.ensures.vrfs in
    let lt : c.args.place < length c.vrfs.result.now = omega (arith, same) in
    ap (λ xs. slice_get xs c.args.place) (sym (c.vrfs.ensures.vrfs.vrfs no_core))
    ∙ slice_get-map as_own c.vrfs.result.now c.args.place
    ∙ ap (option_map as_own) (slice_get_read c.vrfs.result.now (length c.vrfs.result.now) c.args.place c.index-vrfs-place.result refl lt
    c.index-vrfs-place.is)
