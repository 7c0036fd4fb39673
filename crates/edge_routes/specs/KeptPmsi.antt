-- The PMSI Tunnel attribute of a route that was taken, by what is kept of it.
use Rattle.std.specs.Prelude.{ℕ, ◌-◌, List, ◌∷◌, length, slice_get, Option, None, Some}
use Rattle.mv_base.specs.Number.{◌>>?◌}
use Rattle.mv_base.specs.declared.addr.Addr.{Addr}
use Rattle.bgp_values.specs.declared.pmsi_attr.pmsi.Pmsi.{Pmsi}
use Rattle.bgp_values.specs.declared.pmsi_attr.pmsi.Tunnel.TheVariants.{Mldp}
use Rattle.bgp_values.specs.mldp.declared.mldp_fec.fec.Fec.{Fec}
use Rattle.bgp_values.specs.mldp.declared.mldp_fec.fec.FecKind.TheVariants.{P2mp}
use Rattle.edge_defs.specs.Imported.{lsp_of}
use Rattle.edge_routes.specs.declared.kept_pmsi.Kept.{Kept}
use Rattle.edge_routes.specs.declared.kept_pmsi.Kept.TheVariants as kinds

-- the P2MP LSP of that root whose opaque value is the Generic LSP Identifier of these four octets (RFC 6388 section 2.3.1)
abbrev pub lsp_by : Addr → List ℕ → Fec
lsp_by root identifier = record { kind = P2mp; root = root; opaque = 1 ∷ 0 ∷ 4 ∷ identifier }

abbrev pub attribute_of : Kept → Option Pmsi
attribute_of kinds.None = None
attribute_of (kinds.Lsp leaf_info label root identifier) =
    Some (record { leaf_info = leaf_info; tunnel = Mldp (lsp_by root identifier); label = label })
attribute_of (kinds.Beside pmsi) = pmsi

-- the last octet of the opaque value of a FEC element
abbrev pub mark_of : Fec → Option ℕ
mark_of fec = slice_get fec.opaque (length fec.opaque - 1)

-- that of a tunnel, where it is such a one as edges use
abbrev pub mark_in : Option Pmsi → Option ℕ
mark_in pmsi = lsp_of pmsi >>? mark_of
