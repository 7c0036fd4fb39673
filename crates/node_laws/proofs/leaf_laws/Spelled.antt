-- A tunnel that is used has a spelling.
use Rattle.std.proofs.Common.{◌≡◌, ◌≢◌, ℕ, ◌<◌, ◌≤◌, ◌^◌, ◌==◌, ◌&&◌, true, nat_eq, List, [], ◌∷◌, ◌++◌, length, take, drop, Option, Some, None, refl, sym, ap, subst, ◌∙◌, arith, append-nil, take-append-drop, length-drop}
use Rattle.std.specs.Cmp.Lexicographic.{pointwise, same_text}
use Rattle.std.specs.Int.{w16, to_be_bytes}
use Rattle.std.proofs.lemmas.Bool.{and_parts, eqb-true}
use Rattle.std.proofs.lemmas.Option.{none-some}
use Rattle.mv_base.specs.Address.{same_addr, same_addr_equal, IsAddr}
use Rattle.mv_base.specs.Number.{only_if}
use Rattle.mv_base.specs.declared.addr.Addr.{Addr}
use Rattle.mv_base.proofs.CutLemmas.{if_some}
use Rattle.mldp.specs.mldp_fec.Spelling.{IsOpaque, Tlv, plain}
use Rattle.mldp.specs.declared.mldp_fec.fec.Fec.{Fec}
use Rattle.mldp.specs.mldp_msgs.Spelling.{IsElement}
use Rattle.edge_defs.specs.bgp_messages.bgp_values.declared.pmsi_attr.pmsi.Pmsi.{Pmsi}
use Rattle.edge_defs.specs.bgp_messages.bgp_values.declared.pmsi_attr.pmsi.Tunnel.{Tunnel}
use Rattle.edge_defs.specs.bgp_messages.bgp_values.declared.pmsi_attr.pmsi.Tunnel.TheVariants as tunnels
use Rattle.label_defs.specs.Node.{is_p2mp}
use Rattle.label_defs.proofs.SettleLemmas.{bind_some}
use Rattle.edge_defs.specs.Imported.{lsp_of, tunnel_by}
use Rattle.edge_defs.specs.Keys.{Value}
use Rattle.edge_defs.specs.Place.{is_lsp_opaque}

-- ---- a tunnel that is used

-- It is a P2MP LSP with one Generic LSP Identifier, and its root is the peer.
pub record IsUsed (peer : Addr) (fec : Fec) : Type 0 where
  pub kind : is_p2mp fec.kind ≡ true
  pub lsp : is_lsp_opaque fec.opaque ≡ true
  pub root : fec.root ≡ peer

lsp_is : (pmsi : Option Pmsi) (fec : Fec) → lsp_of pmsi ≡ Some fec → (is_p2mp fec.kind ≡ true) × (is_lsp_opaque fec.opaque ≡ true)
lsp_is None fec e = absurd (none-some fec e)
lsp_is (Some pmsi) fec e = by pmsi.tunnel e
  where
    by : (tunnel : Tunnel) → elim tunnel as (λ _. Option Fec) [
      | tunnels.Mldp own ↦ only_if (is_p2mp own.kind && is_lsp_opaque own.opaque) own
      | tunnels.None ↦ None
      | tunnels.Ingress addr ↦ None
      | tunnels.Other kind ident ↦ None
    ] ≡ Some fec → (is_p2mp fec.kind ≡ true) × (is_lsp_opaque fec.opaque ≡ true)
    by (tunnels.Mldp own) e =
        let x = if_some (is_p2mp own.kind && is_lsp_opaque own.opaque) own fec e in
        subst (λ (f : Fec). (is_p2mp f.kind ≡ true) × (is_lsp_opaque f.opaque ≡ true)) x.1
        (and_parts (is_p2mp own.kind) (is_lsp_opaque own.opaque) x.0)
    by tunnels.None e = absurd (none-some fec e)
    by (tunnels.Ingress addr) e = absurd (none-some fec e)
    by (tunnels.Other kind ident) e = absurd (none-some fec e)

pub used_by : (peer originator : Addr) (value : Value) (fec : Fec) → tunnel_by peer originator value ≡ Some fec → IsUsed peer fec
used_by peer originator value fec e =
    let x = bind_some (lsp_of value.pmsi) (λ found. only_if (same_addr found.root peer && same_addr originator peer) found) fec e in
    let y = if_some (same_addr x.0.root peer && same_addr originator peer) x.0 fec x.2 in
    let lsp = lsp_is value.pmsi fec (x.1 ∙ ap (λ (f : Fec). Some f) y.1) in
    record {
      kind = lsp.0;
      lsp = lsp.1;
      root = ap (λ (f : Fec). f.root) (sym y.1) ∙ same_addr_equal x.0.root peer
          (and_parts (same_addr x.0.root peer) (same_addr originator peer) y.0).0;
    }

-- ---- its opaque value

-- the type and the length of the identifier, with four octets after them, are one whole element
one_element : (octets value : List ℕ) → octets ≡ 1 ∷ 0 ∷ 4 ∷ value → length value ≡ 4 → IsOpaque octets
one_element octets value parts four =
    let element : Tlv = plain 1 value in
    let other : ◌≢◌ {A = ℕ} 1 255 = λ e. omega (arith, e) in
    let fits : length value < 2 ^ 16 = omega (arith, four) in
    let header : to_be_bytes w16 (length value) ≡ 0 ∷ 4 ∷ [] = ap (to_be_bytes w16) four in (
      element ∷ [],
      ((other, fits, λ _. four), tt),
      parts ∙ ap (λ (front : List ℕ). (1 ∷ front) ++ value) (sym header)
          ∙ sym (append-nil ((1 ∷ to_be_bytes w16 (length value)) ++ value)),
    )

pub whole : (octets : List ℕ) → is_lsp_opaque octets ≡ true → (length octets ≤ 64) × IsOpaque octets
whole octets h =
    let tests = and_parts (pointwise nat_eq (take 3 octets) (1 ∷ 0 ∷ 4 ∷ [])) (length octets == 7) h in
    let seven : length octets ≡ 7 = eqb-true (length octets) 7 tests.1 in
    let front : take 3 octets ≡ 1 ∷ 0 ∷ 4 ∷ [] = same_text (take 3 octets) (1 ∷ 0 ∷ 4 ∷ []) (sym tests.0) in
    let parts : octets ≡ 1 ∷ 0 ∷ 4 ∷ drop 3 octets = sym (take-append-drop 3 octets) ∙ ap (λ (x : List ℕ). x ++ drop 3 octets) front in
    let four : length (drop 3 octets) ≡ 4 = length-drop 3 octets ∙ omega (arith, seven) in
    (omega (arith, seven), one_element octets (drop 3 octets) parts four)

-- so a tree of such an opaque value and of an address has a spelling
pub spelled : (fec : Fec) → IsAddr fec.root → is_lsp_opaque fec.opaque ≡ true → IsElement fec
spelled fec root h = let w = whole fec.opaque h in record { root = root; fits = w.0; shape = w.1; octets = refl }
