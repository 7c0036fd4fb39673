-- The fields of a line: what a word says, and the text after the space that ends the word.
use Rattle.std.specs.Prelude.{ℕ, ◌^◌, ◌&&◌, Bool, nat_eq, nat_le, nat_lt, List, [], length, position, Option, None, Some, Ok, Err, if◌then◌else◌, codes}
use Rattle.std.specs.Borrow.{Bor}
use Rattle.std.specs.List.{list_all}
use Rattle.std.specs.Char.{is_ascii_digit}
use Rattle.std.specs.Str.Parse.{digits_value}
use Rattle.std.specs.Cmp.Lexicographic.{pointwise}
use Rattle.hex.specs.Hex.{decode_of}
use Rattle.mv_base.specs.declared.ids.NodeId.{NodeId}
use Rattle.mv_base.specs.declared.ids.IfaceId.{IfaceId}
use Rattle.mv_base.specs.Number.{cut_of, only_if, ◌>>?◌}
use Rattle.scenario_defs.specs.declared.event.Kind.{Kind}
use Rattle.scenario_defs.specs.declared.scenario.Node.{Node}
use Rattle.scenario_defs.specs.declared.scenario.Iface.{Iface}
use Rattle.scenario_defs.specs.declared.scenario.Scenario.{Scenario}
use Rattle.report_text.specs.report_lines.Words.{kind_of}

-- the number below 2^64 that digits write, where the first may be 0
unfoldable pub number_of : List ℕ → Option ℕ
number_of text =
    if list_all is_ascii_digit text then
    only_if (nat_lt 0 (length text) && nat_lt (digits_value 10 text) (2 ^ 64)) (digits_value 10 text)
    else
    None

-- the number below 2^32, and the one below 2^8
unfoldable pub short_number_of : List ℕ → Option ℕ
short_number_of text = number_of text >>? λ number. only_if (nat_le number 4294967295) number

unfoldable pub ttl_of : List ℕ → Option ℕ
ttl_of text = number_of text >>? λ number. only_if (nat_le number 255) number

-- whether the text is the name of the node, and of the interface
abbrev pub is_node_named : List ℕ → Node → Bool
is_node_named text node = pointwise nat_eq node.name text

abbrev pub is_iface_named : List ℕ → Iface → Bool
is_iface_named text iface = pointwise nat_eq iface.name text

-- the node, and the interface, that a text names
unfoldable pub node_named : Scenario → List ℕ → Option NodeId
node_named scenario text =
    position (is_node_named text) scenario.nodes >>? λ place. only_if (nat_le place 65535) (record { 0 = place })

unfoldable pub iface_named : Scenario → List ℕ → Option IfaceId
iface_named scenario text =
    position (is_iface_named text) scenario.ifaces >>? λ place. only_if (nat_le place 65535) (record { 0 = place })

-- the octets that a text writes in hexadecimal digits of either case, or none as `-`
abbrev pub octets_of : List ℕ → Option (List ℕ)
octets_of text =
    if pointwise nat_eq text (codes "-") then Some [] else
    elim (decode_of text) [ Ok octets ↦ Some octets | Err error ↦ None ]

-- what a field says, and the text after it, which is lent
abbrev pub with_rest : {A : Type 0} → A × Bor (List ℕ) → A × List ℕ
with_rest field = (field.0, field.1.now)

unfoldable pub number_field : List ℕ → Option (ℕ × List ℕ)
number_field text = cut_of 32 text >>? λ cut. number_of cut.0 >>? λ number. Some (number, cut.1)

unfoldable pub short_field : List ℕ → Option (ℕ × List ℕ)
short_field text = cut_of 32 text >>? λ cut. short_number_of cut.0 >>? λ number. Some (number, cut.1)

unfoldable pub ttl_field : List ℕ → Option (ℕ × List ℕ)
ttl_field text = cut_of 32 text >>? λ cut. ttl_of cut.0 >>? λ ttl. Some (ttl, cut.1)

unfoldable pub node_field : Scenario → List ℕ → Option (NodeId × List ℕ)
node_field scenario text = cut_of 32 text >>? λ cut. node_named scenario cut.0 >>? λ node. Some (node, cut.1)

unfoldable pub iface_field : Scenario → List ℕ → Option (IfaceId × List ℕ)
iface_field scenario text = cut_of 32 text >>? λ cut. iface_named scenario cut.0 >>? λ iface. Some (iface, cut.1)

unfoldable pub kind_field : List ℕ → Option (Kind × List ℕ)
kind_field text = cut_of 32 text >>? λ cut. kind_of cut.0 >>? λ kind. Some (kind, cut.1)
