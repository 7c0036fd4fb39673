-- The values of each kind of route that an edge originates fit.
use Rattle.std.proofs.Common.{◌≡◌, ℕ, ◌<◌, false, List, [], ◌∷◌, ◌++◌, length, Some, None, refl, arith}
use Rattle.std.specs.Int.{w16, w32, to_be_bytes}
use Rattle.std.proofs.lemmas.List.{length-append}
use Rattle.mv_base.specs.Address.{addr_octets}
use Rattle.mv_base.specs.Octets.{IsOctets}
use Rattle.mv_base.specs.declared.addr.Addr.{Addr}
use Rattle.mv_base.specs.declared.addr.Addr.TheVariants.{V4, V6}
use Rattle.mldp.specs.mldp_fec.Spelling as fecs
use Rattle.mldp.specs.mldp_fec.Spelling.{plain, IsTlv, IsOpaque}
use Rattle.bgp_values.specs.declared.pmsi_attr.pmsi.Pmsi.{Pmsi}
use Rattle.bgp_values.specs.declared.pmsi_attr.pmsi.Tunnel.TheVariants as tunnels
use Rattle.bgp_values.specs.pmsi_attr.Spelling as pmsis
use Rattle.network_defs.specs.edge_defs.Edge.{Import}
use Rattle.network_defs.specs.edge_defs.Originated.{import_comm, source_as_comm, import_target}
use Rattle.network_defs.specs.edge_defs.Place.{lsp, lsp_opaque}
use Rattle.network_laws.specs.Sound.{IsHost, AreEight}
use Rattle.network_laws.proofs.BgpOctets.{no_octets, octets_cons, octets_append, octets_of_16, octets_of_32, host_octets, host_length, attribute_fits, attribute_length}
use Rattle.network_laws.proofs.BgpTexts.{FitsTunnel, host_addr}

-- ---- communities

typed_octets : (kind sub : ℕ) (address number : List ℕ) → kind < 256 → sub < 256 → length address ≡ 4 → IsOctets address → length number ≡ 2
    → IsOctets number → AreEight (kind ∷ sub ∷ (address ++ number))
typed_octets kind sub address number k s four a two n = (
  omega (arith, length-append address number, four, two),
  octets_cons kind (sub ∷ (address ++ number)) k (octets_cons sub (address ++ number) s (octets_append address number a n)),
)

pub import_eight : (import : Import) → IsHost import.addr → AreEight (import_comm import).0
import_eight import h =
    typed_octets 0x01 0x0B (addr_octets import.addr) (to_be_bytes w16 import.number) (omega arith) (omega arith) (host_length import.addr h)
    (host_octets import.addr h) refl (octets_of_16 import.number)

pub target_eight : (import : Import) → IsHost import.addr → AreEight (import_target import).0
target_eight import h =
    typed_octets 0x01 0x02 (addr_octets import.addr) (to_be_bytes w16 import.number) (omega arith) (omega arith) (host_length import.addr h)
    (host_octets import.addr h) refl (octets_of_16 import.number)

pub source_as_eight : (number : ℕ) → AreEight (source_as_comm number).0
source_as_eight number = (
  refl,
  octets_cons 0x00 (0x09 ∷ (to_be_bytes w16 number ++ 0 ∷ 0 ∷ 0 ∷ 0 ∷ [])) (omega arith)
      (octets_cons 0x09 (to_be_bytes w16 number ++ 0 ∷ 0 ∷ 0 ∷ 0 ∷ []) (omega arith)
      (octets_append (to_be_bytes w16 number) (0 ∷ 0 ∷ 0 ∷ 0 ∷ []) (octets_of_16 number) (octets_of_32 0))),
)

-- ---- tunnels

pub no_tunnel : FitsTunnel None
no_tunnel = record { spelled = tt; octets = no_octets; few = omega arith }

opaque_whole : (number : ℕ) → IsOpaque (lsp_opaque number)
opaque_whole number =
    let one : IsTlv (plain 1 (to_be_bytes w32 number)) = ((λ e. omega (arith, e)), omega arith, λ e. refl) in
    (plain 1 (to_be_bytes w32 number) ∷ [], (one, tt), refl)

opaque_fits : (number : ℕ) → IsOctets (lsp_opaque number)
opaque_fits number =
    octets_cons 1 (0 ∷ 4 ∷ to_be_bytes w32 number) (omega arith)
    (octets_cons 0 (4 ∷ to_be_bytes w32 number) (omega arith) (octets_cons 4 (to_be_bytes w32 number) (omega arith) (octets_of_32 number)))

root_fits : (addr : Addr) → IsHost addr → IsOctets (fecs.root addr)
root_fits (V4 octets) h =
    octets_cons 0 (1 ∷ 4 ∷ octets) (omega arith) (octets_cons 1 (4 ∷ octets) (omega arith) (octets_cons 4 octets (omega arith) h.1))
root_fits (V6 octets) h = absurd h

root_length : (addr : Addr) → IsHost addr → length (fecs.root addr) ≡ 7
root_length (V4 octets) h = omega (arith, h.0)
root_length (V6 octets) h = absurd h

-- the tunnel of a route, and its identifier
abbrev pmsi_of : Addr → ℕ → Pmsi
pmsi_of root number = record { leaf_info = false; tunnel = tunnels.Mldp (lsp root number); label = None }

pub lsp_fits : (root : Addr) (number : ℕ) → IsHost root → IsOctets (fecs.written (lsp root number))
lsp_fits root number h =
    octets_cons 6 (fecs.root root ++ (to_be_bytes w16 7 ++ lsp_opaque number)) (omega arith)
    (octets_append (fecs.root root) (to_be_bytes w16 7 ++ lsp_opaque number) (root_fits root h)
    (octets_append (to_be_bytes w16 7) (lsp_opaque number) (octets_of_16 7) (opaque_fits number)))

lsp_length : (root : Addr) (number : ℕ) → IsHost root → length (fecs.written (lsp root number)) ≡ 17
lsp_length root number h = omega (arith, length-append (fecs.root root) (to_be_bytes w16 7 ++ lsp_opaque number), root_length root h)

pub lsp_spelled : (root : Addr) (number : ℕ) → IsHost root → fecs.Spells (lsp root number) (fecs.written (lsp root number))
lsp_spelled root number h = record { root = host_addr root h; fits = omega arith; shape = opaque_whole number; octets = refl }

pmsi_fits : (root : Addr) (number : ℕ) → IsHost root → IsOctets (pmsis.written (pmsi_of root number))
pmsi_fits root number h =
    let text : List ℕ = fecs.written (lsp root number) in
    octets_append (0 ∷ 2 ∷ 0 ∷ 0 ∷ 0 ∷ []) text (octets_cons 0 (2 ∷ 0 ∷ 0 ∷ 0 ∷ []) (omega arith)
    (octets_cons 2 (0 ∷ 0 ∷ 0 ∷ []) (omega arith) (octets_cons 0 (0 ∷ 0 ∷ []) (omega arith) (octets_of_16 0)))) (lsp_fits root number h)

pmsi_length : (root : Addr) (number : ℕ) → IsHost root → length (pmsis.written (pmsi_of root number)) ≡ 22
pmsi_length root number h = omega (arith, lsp_length root number h)

pub lsp_tunnel : (root : Addr) (number : ℕ) → IsHost root → FitsTunnel (Some (pmsi_of root number))
lsp_tunnel root number h = record {
  spelled =
      record {
        flags = 0;
        low = 0;
        octet = omega arith;
        leaf = refl;
        four_bits = omega arith;
        label = tt;
        tunnel =
            (refl, lsp_spelled root number h);
        octets = refl;
      };
  octets = attribute_fits 0xC0 22 (pmsis.written (pmsi_of root number)) (omega arith) (omega arith) (omega arith) (pmsi_fits root number h);
  few = omega (arith, attribute_length 0xC0 22 (pmsis.written (pmsi_of root number)), pmsi_length root number h);
}
