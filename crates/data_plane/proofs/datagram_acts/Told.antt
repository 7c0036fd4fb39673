-- The lines of a datagram that leaves a node.
use Rattle.std.proofs.Common.{◌≡◌, ℕ, List, ◌++◌, map, sym, ap, subst, ◌∙◌}
use Rattle.std.proofs.lemmas.List.{append_assoc}
use Rattle.mv_base.specs.declared.ids.IfaceId.{IfaceId}
use Rattle.mv_base.specs.declared.ids.NodeId.{NodeId}
use Rattle.label_defs.specs.declared.branch.Branch.{Branch}
use Rattle.scenario_defs.specs.declared.report.ReportLine.{ReportLine}
use Rattle.scenario_defs.specs.declared.report.ReportLine.TheVariants as told
use Rattle.network_defs.specs.Acts.{hop_line}
use Rattle.network_defs.specs.World.{Datagram, World}
use Rattle.data_plane.specs.datagram_acts.DatagramsView.{DatagramsView}
use Rattle.data_plane.specs.datagram_acts.Stored.{Handles, IsNumber}

pub same_number : (world : World) (number kept : ℕ) (datagram : Datagram) (view : DatagramsView) → Handles world number datagram view
    → IsNumber kept view.copies.current → kept ≡ number
same_number world number kept datagram view own is = sym (subst (IsNumber kept) own.is is) ∙ own.number_is

pub told_lines : (before between thereafter : List ReportLine) (node : NodeId) (ttl number kept : ℕ) (octets stored : List ℕ) (outs : List IfaceId)
    (branches : List Branch)
    → kept ≡ number → stored ≡ octets → between ≡ before ++ map (λ iface. told.Out kept iface stored) outs
    → thereafter ≡ between ++ map (hop_line node ttl kept) branches
    → thereafter ≡ before ++ (map (λ iface. told.Out number iface octets) outs ++ map (hop_line node ttl number) branches)
told_lines before between thereafter node ttl number kept octets stored outs branches same text first last =
    last ∙ ap (λ (lines : List ReportLine). lines ++ map (hop_line node ttl kept) branches) first
    ∙ append_assoc before (map (λ iface. told.Out kept iface stored) outs) (map (hop_line node ttl kept) branches)
    ∙ (λ i. before ++ (map (λ iface. told.Out (same i) iface (text i)) outs ++ map (hop_line node ttl (same i)) branches))
