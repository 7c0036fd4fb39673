use Rattle.std.proofs.Common.{◌≡◌, Bool, true, Some, ap, sym, ◌∙◌}
use Rattle.mv_base.specs.Number.{only_if}
use Rattle.bgp_values.specs.mldp.declared.mldp_fec.fec.Fec.{Fec}
use Rattle.edge_defs.specs.Imported.{lsp_of}
use Rattle.edge_defs.specs.Place.{is_lsp_opaque}
use Rattle.edge_routes.specs.KeptPmsi.{attribute_of, lsp_by}
use Rattle.edge_routes.proofs.kept_pmsi.KeptPmsi.lsp.Goals as goal

pub returns-in-Lsp : goal.returns-in-Lsp
returns-in-Lsp c =
    let own = lsp_by c.in-Lsp.root c.in-Lsp.identifier in
    let used : is_lsp_opaque own.opaque ≡ true = ap (λ (f : Fec). is_lsp_opaque f.opaque) (sym c.lsp_by.ensures.fec) ∙ c.lsp_by.ensures.used in
    ap (λ (f : Fec). Some f) c.lsp_by.ensures.fec
    ∙ (ap (λ (b : Bool). only_if b own) (sym used)
    ∙ (ap (λ k. lsp_of (attribute_of k)) (sym c.in-Lsp.is) ∙ ap lsp_of c.self.view_is))
