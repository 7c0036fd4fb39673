use Rattle.std.proofs.Common.{◌≡◌, ◌<◌, List, length, slice_get, option_map, refl, sym, ap, ◌∙◌, arith}
use Rattle.std.proofs.lemmas.List.{length-map}
use Rattle.std.proofs.lemmas.Option.{slice_get-map, slice_get_read}
use Rattle.mv_base.specs.declared.addr.Addr.TheVariants.{V4}
use Rattle.edge_defs.specs.Place.{vrfs_from}
use Rattle.edge_routes.specs.edge_home.Home.{AreOwn, Home, IsOf, as_own}
use Rattle.edge_routes.specs.declared.edge_home.own_vrf.OwnVrf.{OwnVrf}
use Rattle.control_laws.proofs.Parts.{no_core}
use Rattle.edge_control.proofs.PlaceLemmas.{all_at}
use Rattle.edge_control.proofs.each.own_at.Goals as goal

count : (home : Home) (owns : List OwnVrf) → AreOwn home owns → length owns ≡ length (vrfs_from home.me 0 home.scenario.vrfs)
count home owns are = sym (length-map owns as_own) ∙ ap length (are.vrfs no_core)

pub offset_bounds-vrfs-place : goal.offset_bounds-vrfs-place
offset_bounds-vrfs-place c =
    let same = count c.args.home.now c.vrfs.result.now c.vrfs.ensures.vrfs in
    let lt : c.args.place < length c.vrfs.result.now = omega (arith, same) in
    omega (arith, lt)

pub bounds-vrfs-place : goal.bounds-vrfs-place
bounds-vrfs-place c =
    let same = count c.args.home.now c.vrfs.result.now c.vrfs.ensures.vrfs in
    omega (arith, same)

pub returns-clause-own : goal.returns-clause-own
returns-clause-own c =
    let same = count c.args.home.now c.vrfs.result.now c.vrfs.ensures.vrfs in
    let lt : c.args.place < length c.vrfs.result.now = omega (arith, same) in
    ap (λ xs. slice_get xs c.args.place) (sym (c.vrfs.ensures.vrfs.vrfs no_core))
    ∙ slice_get-map as_own c.vrfs.result.now c.args.place
    ∙ ap (option_map as_own) (slice_get_read c.vrfs.result.now (length c.vrfs.result.now) c.args.place c.index-vrfs-place.result refl lt
    c.index-vrfs-place.is)

pub returns-clause-at : goal.returns-clause-at
returns-clause-at c = λ core.
    let same = count c.args.home.now c.vrfs.result.now c.vrfs.ensures.vrfs in
    let lt : c.args.place < length c.vrfs.result.now = omega (arith, same) in
    let there = slice_get_read c.vrfs.result.now (length c.vrfs.result.now) c.args.place c.index-vrfs-place.result refl lt c.index-vrfs-place.is in
    let own =
    all_at (IsOf c.vrfs.ensures.vrfs.addr c.args.home.now.scenario.system) c.vrfs.result.now c.args.place c.index-vrfs-place.result
    c.vrfs.ensures.vrfs.say there in
    record { addr = c.vrfs.ensures.vrfs.own_addr ∙ ap V4 (sym own.addr); system = sym own.system }
