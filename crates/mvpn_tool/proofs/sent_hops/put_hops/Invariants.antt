use Rattle.std.proofs.Common.{◌≡◌, ◌++◌, take}
use Rattle.std.specs.List.{flat_map}
use Rattle.core_pcap.specs.declared.order.ByteOrder.TheVariants.{BigEndian}
use Rattle.core_pcap.specs.Spelling.{hop_text}
use Rattle.hop_laws.specs.Hops.{hop_by}
use Rattle.mvpn_tool.proofs.sent_hops.put_hops.Given as goal

abbrev pub invariant-loop-line : goal.invariant-loop-line
invariant-loop-line l = l.text ≡ l.initial.text ++ flat_map (hop_text BigEndian) (flat_map (hop_by l.clock l.sent) (take l.line-index l.lines))
