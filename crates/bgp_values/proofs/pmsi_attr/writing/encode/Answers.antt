use Rattle.std.proofs.Common.{◌≡◌, List, ℕ, ◌++◌, drop, ap, ◌∙◌}
use Rattle.mv_base.specs.Writing.{put_at}
use Rattle.bgp_values.specs.pmsi_attr.Spelling.{identifier, written_header}
use Rattle.bgp_values.proofs.pmsi_attr.WritingLemmas.{put_after}
use Rattle.bgp_values.proofs.pmsi_attr.writing.encode.Goals as goal

pub returns-clause-octets : goal.returns-clause-octets
returns-clause-octets c =
    let pmsi = c.args.pmsi.now in
    let front : c.copy_from_slice.new.self ≡ written_header pmsi = c.copy_from_slice.ensures.after ∙ c.header_of.ensures in
    let back : c.put_identifier.new.out ≡ put_at (drop 5 c.args.out.now) 0 (identifier pmsi.tunnel) =
    c.put_identifier.ensures.octets ∙ ap (λ (xs : List ℕ). put_at xs 0 (identifier pmsi.tunnel)) c.split_at_mut-header.ensures.back in
    ap (λ (xs : List ℕ). xs ++ c.put_identifier.new.out) front ∙ ap (λ (xs : List ℕ). written_header pmsi ++ xs) back
    ∙ put_after c.args.out.now (written_header pmsi) (identifier pmsi.tunnel)
