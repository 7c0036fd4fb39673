-- An answer has a spelling, within the octets of a message.
use Rattle.std.proofs.Common.{◌≡◌, ℕ, ◌+◌, ◌<◌, ◌≤◌, ◌^◌, Bool, true, false, List, [], ◌∷◌, ◌++◌, length, nat_lt, bit_or, if◌then◌else◌, refl, arith, length-append}
use Rattle.std.specs.Int.{w16, to_be_bytes}
use Rattle.mv_base.specs.declared.addr.Addr.TheVariants.{V4}
use Rattle.bgp_values.specs.mvpn_nlri.Spelling.{IsKey, written as route_text}
use Rattle.bgp_values.specs.declared.mvpn_nlri.route.Route.TheVariants.{Leaf}
use Rattle.bgp_values.specs.pmsi_attr.Spelling as tunnels
use Rattle.bgp_values.proofs.mvpn_nlri.WritingLemmas.{fields_room}
use Rattle.bgp_messages.specs.declared.bgp_attributes.update.Change.TheVariants.{Reach}
use Rattle.bgp_messages.specs.bgp_update.Written.{attribute, attribute_head, message_text, reach_value, comms_octets, tunnel_text, written, IsWritable, advert_text}
use Rattle.ingress_rep.specs.declared.request.Request.{Request}
use Rattle.ingress_rep.specs.Ingress.{answer_of, leaf_tunnel, root_target}

tunnel_spelled : (leaf : List ℕ) (label : ℕ) → length leaf ≡ 4 → 16 ≤ label → label ≤ 1048575
    → tunnels.Spells (leaf_tunnel (V4 leaf) label) (tunnels.written (leaf_tunnel (V4 leaf) label))
tunnel_spelled leaf label four least most = record {
  flags = 0;
  low = 0;
  octet = omega arith;
  leaf = refl;
  four_bits = omega arith;
  label = (omega (arith, least), omega (arith, most));
  tunnel = four;
  octets = refl;
}

pub answer_writable : (request : Request) (leaf : List ℕ) (label : ℕ) → length request.root ≡ 4 → length leaf ≡ 4 → IsKey request.afi request.key
    → 16 ≤ label → label ≤ 1048575
    → IsWritable (Reach (answer_of request (V4 leaf) label))
answer_writable request leaf label root four key least most = record {
  key = record { route = (key, four); octets = refl };
  next_hop = (four, tt);
  comms = (omega (arith, root, length-append request.root (0 ∷ 0 ∷ [])), tt);
  tunnel = tunnel_spelled leaf label four least most;
}

head_few : (b : Bool) (flags kind len : ℕ) → length (if b then bit_or flags 16 ∷ kind ∷ to_be_bytes w16 len else flags ∷ kind ∷ len ∷ []) ≤ 4
head_few true flags kind len = omega arith
head_few false flags kind len = omega arith

attribute_few : (flags kind : ℕ) (value : List ℕ) → length (attribute flags kind value) ≤ 4 + length value
attribute_few flags kind value =
    let head = head_few (nat_lt 255 (length value)) flags kind (length value) in
    omega (arith, head, length-append (attribute_head flags kind (length value)) value)

message_few : (list : List ℕ) → length list ≤ 1000 → length (message_text list) ≤ 4096
message_few list few = omega (arith, few)

pub answer_short : (request : Request) (leaf : List ℕ) (label : ℕ) → length request.root ≡ 4 → length leaf ≡ 4 → IsKey request.afi request.key
    → length (written (Reach (answer_of request (V4 leaf) label))) ≤ 4096
answer_short request leaf label root four key =
    let advert = answer_of request (V4 leaf) label in
    let route : List ℕ = route_text (Leaf request.key (V4 leaf)) in
    let value : List ℕ = reach_value advert in
    let comms : List ℕ = comms_octets advert.comms in
    let value_few : length value ≤ 300 =
    omega (arith, four, fields_room request.afi (Leaf request.key (V4 leaf)) (key, four), length-append leaf (0 ∷ route)) in
    let comms_few : length comms ≤ 8 = omega (arith, root, length-append request.root (0 ∷ 0 ∷ []), length-append (root_target request).0 []) in
    let tunnel_few : length (tunnels.written (leaf_tunnel (V4 leaf) label)) ≤ 9 = omega (arith, four) in
    let reached : List ℕ = attribute 0x80 14 value in
    let told : List ℕ = attribute 0xC0 16 comms in
    message_few (advert_text advert)
    (omega (
      arith,
      value_few,
      comms_few,
      attribute_few 0x80 14 value,
      attribute_few 0xC0 16 comms,
      attribute_few 0xC0 22 (tunnels.written (leaf_tunnel (V4 leaf) label)),
      tunnel_few,
      length-append reached (told ++ tunnel_text advert.pmsi),
      length-append told (tunnel_text advert.pmsi),
    ))
