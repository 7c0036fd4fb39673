-- What an edge writes into values has spellings, and what it reads there.
use Rattle.std.proofs.Common.{◌≡◌, ℕ, ◌<◌, ◌^◌, ◌+◌, false, List, [], ◌∷◌, ◌++◌, length, map, take, set, get_or, add-one, Option, Some, None, refl, sym, subst, ap, ◌∙◌, arith}
use Rattle.std.proofs.Math.Seq.{take-suc-set}
use Rattle.std.proofs.lemmas.List.{take_more, map-append}
use Rattle.std.specs.Int.{w32, to_be_bytes}
use Rattle.std.proofs.lemmas.Nat.{from_be_bytes-to_be_bytes_2}
use Rattle.mv_base.specs.declared.addr.Addr.TheVariants.{V4}
use Rattle.bgp_values.specs.mldp.mldp_fec.Spelling.{plain, IsTlv, IsOpaque}
use Rattle.bgp_values.specs.declared.pmsi_attr.pmsi.Pmsi.{Pmsi}
use Rattle.bgp_values.specs.declared.pmsi_attr.pmsi.Tunnel.TheVariants as tunnels
use Rattle.edge_defs.specs.bgp_messages.bgp_attributes.Spelling.{AreComms}
use Rattle.edge_defs.specs.bgp_messages.bgp_update.Written.{IsTunnel}
use Rattle.mv_base.specs.route_targets.Communities.{import_octets}
use Rattle.mv_base.specs.declared.route_targets.communities.ExtComm.{ExtComm}
use Rattle.mv_base.specs.declared.route_targets.communities.Target.{Target}
use Rattle.edge_defs.specs.Imported.{import_in}
use Rattle.edge_defs.specs.Place.{lsp, lsp_opaque}
use Rattle.edge_routes.specs.route_order.Values.{IsWritableValue, as_value}

pub own_writable : (addr : List ℕ) (comms : List ExtComm) (pmsi : Option Pmsi) → length addr ≡ 4 → AreComms comms → IsTunnel pmsi
    → IsWritableValue (as_value (V4 addr) comms pmsi)
own_writable addr comms pmsi four eight tunnel = record { next_hop = (four, tt); comms = eight; tunnel = tunnel }

opaque_whole : (number : ℕ) → IsOpaque (lsp_opaque number)
opaque_whole number =
    let one : IsTlv (plain 1 (to_be_bytes w32 number)) = ((λ e. omega (arith, e)), omega arith, λ e. refl) in
    (plain 1 (to_be_bytes w32 number) ∷ [], (one, tt), refl)

pub tunnel_writable : (addr : List ℕ) (number : ℕ) → length addr ≡ 4
    → IsTunnel (Some (record { leaf_info = false; tunnel = tunnels.Mldp (lsp (V4 addr) number); label = None }))
tunnel_writable addr number four = record {
  flags = 0;
  low = 0;
  octet = omega arith;
  leaf = refl;
  four_bits = omega arith;
  label = tt;
  tunnel = (refl, record { root = four; fits = omega arith; shape = opaque_whole number; octets = refl });
  octets = refl;
}

import_spelled : (addr : List ℕ) (number : ℕ) → length addr ≡ 4 → number < 2 ^ 16
    → import_in (record { 0 = import_octets addr number }) ≡ Some (record { addr = V4 addr; number = number })
import_spelled [] number four less = absurd (omega (arith, four))
import_spelled (a ∷ []) number four less = absurd (omega (arith, four))
import_spelled (a ∷ b ∷ []) number four less = absurd (omega (arith, four))
import_spelled (a ∷ b ∷ c ∷ []) number four less = absurd (omega (arith, four))
import_spelled (a ∷ b ∷ c ∷ d ∷ []) number four less =
    ap (λ (n : ℕ). Some (record { addr = V4 (a ∷ b ∷ c ∷ d ∷ []); number = n })) (from_be_bytes-to_be_bytes_2 number less)
import_spelled (a ∷ b ∷ c ∷ d ∷ e ∷ more) number four less = absurd (omega (arith, four))

-- What a VRF Route Import names.
pub import_read : (comm : ExtComm) (addr : List ℕ) (number : ℕ) → comm.0 ≡ import_octets addr number → length addr ≡ 4 → number < 2 ^ 16
    → import_in comm ≡ Some (record { addr = V4 addr; number = number })
import_read comm addr number e four less =
    let same : import_in comm ≡ import_in (record { 0 = import_octets addr number }) =
    ap (λ (octets : List ℕ). import_in (record { 0 = octets })) e in
    rw same (import_spelled addr number four less)

comms_append : (xs : List ExtComm) (x : ExtComm) → AreComms xs → length x.0 ≡ 8 → AreComms (xs ++ x ∷ [])
comms_append [] x h eight = (eight, tt)
comms_append (y ∷ xs) x h eight = (h.0, comms_append xs x h.1 eight)

-- One community more, after the first ones.
pub put_after : (places : List ExtComm) (i : ℕ) (x : ExtComm) → i < length places → take (i + 1) (set places i x) ≡ take i places ++ x ∷ []
put_after places i x less = rw add-one (take-suc-set places i x less)

pub put_octets : (places : List ExtComm) (i : ℕ) (x : ExtComm) → i < length places → length x.0 ≡ 8 → AreComms (take i places)
    → AreComms (take (i + 1) (set places i x))
put_octets places i x less eight h = subst AreComms (sym (put_after places i x less)) (comms_append (take i places) x h eight)

-- One target more, as a community.
pub targets_more : (front : List ExtComm) (list : List Target) (i : ℕ) (d : Target) → i < length list → front ≡ map (λ target. target.0) (take i list)
    → front ++ (get_or list i d).0 ∷ [] ≡ map (λ target. target.0) (take (i + 1) list)
targets_more front list i d less h =
    ap (λ (comms : List ExtComm). comms ++ (get_or list i d).0 ∷ []) h
    ∙ (sym (map-append (λ (target : Target). target.0) (take i list) (get_or list i d ∷ []))
    ∙ ap (map (λ (target : Target). target.0)) (sym (take_more list i d less)))
