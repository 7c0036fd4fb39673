use Rattle.std.proofs.Common.{◌≡◌, ◌++◌, ℕ, List, length, ap, ◌∙◌, arith}
use Rattle.bgp_messages.specs.bgp_update.Written.{attribute, path_text, comms_octets, reach_value, tunnel_text}
use Rattle.bgp_messages.proofs.bgp_update.Appending.{put_four, comms_len}
use Rattle.bgp_messages.proofs.bgp_update.writing.put_advert.Goals as goal

pub put_attribute-requires-2 : goal.put_attribute-requires-2
put_attribute-requires-2 c =
    let advert = c.args.advert.now in
    let comms : c.as_slice-3.result.now ≡ comms_octets advert.comms =
    c.as_slice-3.ensures ∙ c.in_ok-put_comms.ensures ∙ ap (λ (xs : List ℕ). xs ++ comms_octets c.as_slice.result.now) c.in_ok-comms.ensures
    ∙ ap comms_octets c.as_slice.ensures in
    omega (arith, ap (λ (xs : List ℕ). length xs) comms, comms_len advert.comms c.requires.writable.comms, c.requires.few)

pub returns : goal.returns
returns c =
    let advert = c.args.advert.now in
    let reach : c.as_slice-2.result.now ≡ reach_value advert =
    c.as_slice-2.ensures ∙ c.in_ok-put_reach.ensures ∙ ap (λ (xs : List ℕ). xs ++ reach_value advert) c.in_ok-reach.ensures in
    let comms : c.as_slice-3.result.now ≡ comms_octets advert.comms =
    c.as_slice-3.ensures ∙ c.in_ok-put_comms.ensures ∙ ap (λ (xs : List ℕ). xs ++ comms_octets c.as_slice.result.now) c.in_ok-comms.ensures
    ∙ ap comms_octets c.as_slice.ensures in
    put_four c.put_tunnel.result c.args.out.now c.put_path.new.out c.put_attribute.new.out c.put_attribute-2.new.out c.put_tunnel.new.out path_text
    (attribute 128 14 (reach_value advert)) (attribute 192 16 (comms_octets advert.comms)) (tunnel_text advert.pmsi)
    c.in_ok-put_path.ensures
    (c.in_ok-put_attribute.ensures ∙ ap (λ (xs : List ℕ). c.put_path.new.out ++ attribute 128 14 xs) reach)
    (c.in_ok-put_attribute-2.ensures ∙ ap (λ (xs : List ℕ). c.put_attribute.new.out ++ attribute 192 16 xs) comms)
    c.put_tunnel.ensures
