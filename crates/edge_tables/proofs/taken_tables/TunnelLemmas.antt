-- Tunnels of routes, and their marks.
use Rattle.std.proofs.Common.{◌≡◌, Bool, true, false, Option, None, Some, refl, sym, ap, ◌∙◌}
use Rattle.mv_base.specs.Number.{◌>>?◌}
use Rattle.mldp.specs.contracts.mldp_fec.fec.FecPartialEq.TheImpl as fecs_equal
use Rattle.mldp.specs.declared.mldp_fec.fec.Fec.{Fec}
use Rattle.mldp.proofs.mldp_fec.SameLemmas.{fec_equal, fec_itself}
use Rattle.bgp_values.specs.declared.pmsi_attr.pmsi.Pmsi.{Pmsi}
use Rattle.label_defs.specs.LabelData.{same_fec}
use Rattle.label_defs.proofs.KeyLemmas.{same_fec_equal, same_fec_from}
use Rattle.edge_defs.specs.Datagrams.{is_tunnel}
use Rattle.edge_defs.specs.Imported.{lsp_of}
use Rattle.edge_routes.specs.KeptPmsi.{mark_in, mark_of}

-- `==` of FEC elements says whether they are one
pub fec_equals : (fec own : Fec) (equal : Bool) → equal ≡ fecs_equal.ghosts.eq own fec → equal ≡ same_fec own fec
fec_equals fec own true e = sym (same_fec_from own fec (fec_equal own fec (sym e)))
fec_equals fec own false e = by (same_fec own fec) refl
  where
    by : (b : Bool) → same_fec own fec ≡ b → false ≡ same_fec own fec
    by false s = sym s
    by true s = e ∙ ap (fecs_equal.ghosts.eq own) (sym (same_fec_equal own fec s)) ∙ fec_itself own ∙ sym s

-- a route's own mark is that of its tunnel
marked : (pmsi : Option Pmsi) (fec : Fec) → is_tunnel fec (lsp_of pmsi) ≡ true → mark_in pmsi ≡ mark_of fec
marked pmsi fec h = by (lsp_of pmsi) h
  where
    by : (own : Option Fec) → is_tunnel fec own ≡ true → (own >>? mark_of) ≡ mark_of fec
    by None k = absurd cc
    by (Some own) k = ap mark_of (same_fec_equal own fec k)

-- A route whose mark is another one is of another tunnel.
pub other_mark : (pmsi : Option Pmsi) (fec : Fec) → (mark_in pmsi ≡ mark_of fec → ⊥) → false ≡ is_tunnel fec (lsp_of pmsi)
other_mark pmsi fec other = by (is_tunnel fec (lsp_of pmsi)) refl
  where
    by : (b : Bool) → is_tunnel fec (lsp_of pmsi) ≡ b → false ≡ is_tunnel fec (lsp_of pmsi)
    by false e = sym e
    by true e = absurd (other (marked pmsi fec e))
