use Rattle.std.proofs.Common.{◌≡◌, sym, ◌∙◌, ap, Some}
use Rattle.mv_base.specs.route_targets.Communities.{import_octets}
use Rattle.edge_defs.specs.Edge.{Import}
use Rattle.edge_routes.proofs.ValueLemmas.{import_read}
use Rattle.edge_routes.proofs.imported.import_in.Goals as goal

pub returns-in-Some-V4-default : goal.returns-in-Some-V4-default
returns-in-Some-V4-default c =
    let arm = c.in-Some-V4-default in
    let read = arm.ensures.read in
    let same : arm.addr ≡ read.0 = cc in
    let e : c.args.comm.0 ≡ import_octets arm.addr arm.number = cc in
    ap (λ (import : Import). Some import) c.named.ensures.import
    ∙ sym (import_read c.args.comm arm.addr arm.number e c.named.ensures.octets c.named.ensures.fits)
