use Rattle.std.proofs.Common.{◌++◌, ◌∙◌}
use Rattle.edge_routes.proofs.route_order.kept_key.octets_by.Goals as goal

pub returns : goal.returns
returns c =
    let first = c.copy_from_slice.ensures.after ∙ c.to_be_bytes.ensures in
    let second = c.copy_from_slice-2.ensures.after ∙ c.to_be_bytes-2.ensures in
    let third = c.copy_from_slice-3.ensures.after ∙ c.to_be_bytes-3.ensures in
    λ i. first i ++ (second i ++ third i)
