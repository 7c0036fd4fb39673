-- The hop of a line among the hops of lines.
use Rattle.std.proofs.Common.{◌≡◌, ℕ, zero, suc, ◌<◌, List, [], ◌∷◌, length, get_or, sym, subst, arith}
use Rattle.std.specs.Prelude.{All}
use Rattle.std.specs.List.{flat_map, AllByRecursion}
use Rattle.std.proofs.lemmas.List.Elements.{All-from_recursion, recursion_from_All}
use Rattle.core_pcap.specs.declared.hop.CoreHop.{CoreHop}
use Rattle.core_pcap.specs.Spelling.{IsHop}
use Rattle.mv_base.specs.declared.ids.NodeId.{NodeId}
use Rattle.scenario_defs.specs.declared.report.ReportLine.{ReportLine}
use Rattle.scenario_defs.specs.declared.report.ReportLine.TheVariants as lines
use Rattle.hop_laws.specs.Hops.{datagram_octets, hop_by}
use Rattle.network_events.proofs.network_laws.Lists.{each_front}
use Rattle.hop_laws.proofs.run_laws.rule_laws.Halting.{each_after}

-- What holds of all parts holds of each.
module _ {X Y : Type 0} (P : Y → Type 0) (f : X → List Y) where
  part_each : (xs : List X) (place : ℕ) (x : X) → place < length xs → x ≡ get_or xs place x → AllByRecursion P (flat_map f xs)
      → AllByRecursion P (f x)
  part_each [] place x less is all = absurd (omega (arith, less))
  part_each (y ∷ ys) zero x less is all = subst (λ (z : X). AllByRecursion P (f z)) (sym is) (each_front P (f y) (flat_map f ys) all)
  part_each (y ∷ ys) (suc place) x less is all = part_each ys place x (omega (arith, less)) is (each_after P (f y) (flat_map f ys) all)

-- The hops of a line have spellings, where those of all lines do.
pub line_spelled : (clock : ℕ) (sent : List (List ℕ)) (all : List ReportLine) (place : ℕ) (line : ReportLine) → place < length all
    → line ≡ get_or all place line →
    All IsHop (flat_map (hop_by clock sent) all) → All IsHop (hop_by clock sent line)
line_spelled clock sent all place line less is spelled =
    All-from_recursion IsHop (hop_by clock sent line)
    (part_each IsHop (hop_by clock sent) all place line less is (recursion_from_All IsHop (flat_map (hop_by clock sent) all) spelled))

-- So the hop of a `hop` line has one.
pub hop_spelled : (clock : ℕ) (sent : List (List ℕ)) (line : ReportLine) (from to : NodeId) (label ttl number : ℕ) (bytes : List ℕ)
    → line ≡ lines.Hop from to label ttl number →
    bytes ≡ datagram_octets sent number → All IsHop (hop_by clock sent line)
    → IsHop (record { tick = clock; from = from; to = to; label = label; ttl = ttl; bytes = bytes })
hop_spelled clock sent line from to label ttl number bytes is same spelled =
    let own : List CoreHop = hop_by clock sent (lines.Hop from to label ttl number) in
    let each = recursion_from_All IsHop own (subst (λ (l : ReportLine). All IsHop (hop_by clock sent l)) is spelled) in
    subst (λ (b : List ℕ). IsHop (record { tick = clock; from = from; to = to; label = label; ttl = ttl; bytes = b })) (sym same) each.0
