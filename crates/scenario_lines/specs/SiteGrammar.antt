-- The lines of sites and interfaces: what each says, or its first fault.
use Rattle.std.specs.Prelude.{◌==◌, ◌&&◌, Bool, not, nat_le, List, [], ◌∷◌, length, Result, Ok, if◌then◌else◌}
use Rattle.std.specs.List.{list_any}
use Rattle.mv_base.specs.declared.ids.SiteId.{SiteId}
use Rattle.mv_base.specs.declared.ids.IfaceId.{IfaceId}
use Rattle.scenario_defs.specs.declared.scenario.Iface.{Iface}
use Rattle.scenario_defs.specs.declared.scenario.Scenario.{Scenario}
use Rattle.scenario_defs.specs.Prefixes.{prefixes_of, share_prefix}
use Rattle.scenario_defs.specs.Vpn.{same_vpn}
use Rattle.line_words.specs.declared.fault.Reason.TheVariants as reasons
use Rattle.line_words.specs.declared.fault.TextFault.{TextFault}
use Rattle.line_words.specs.declared.words.Row.{Row}
use Rattle.line_words.specs.Words.{Placed}
use Rattle.line_words.specs.Forms.{fault, ◌>>=◌, addr_at, prefixes_at}
use Rattle.scenario_lines.specs.declared.scenario_draft.line.Line.{Line}
use Rattle.scenario_lines.specs.declared.scenario_draft.line.Line.TheVariants as says
use Rattle.scenario_lines.specs.scenario_draft.Drafted.{Drafted}
use Rattle.scenario_lines.specs.scenario_draft.Naming.{new_name, vrf_at, site_at}

-- `NAME PREFIXES` of a site
unfoldable pub site_words : Drafted → Row → SiteId → Placed → Placed → Result Line TextFault
site_words draft row id a b =
    new_name draft row a >>= λ name. prefixes_at row b >>= λ prefixes. Ok (says.Site id (record { name = name; prefixes = prefixes }))

-- the words after `site`
unfoldable pub site_counted : Drafted → Row → SiteId → List Placed → Result Line TextFault
site_counted draft row id [] = fault row.number row.after reasons.Count
site_counted draft row id (a ∷ []) = fault row.number row.after reasons.Count
site_counted draft row id (a ∷ b ∷ []) = site_words draft row id a b
site_counted draft row id (a ∷ b ∷ c ∷ more) = fault row.number c.column reasons.Count

-- a line of a site, of which there are at most 512
unfoldable pub site_line : Drafted → Row → Placed → List Placed → Result Line TextFault
site_line draft row first rest =
    if nat_le 512 (length draft.scenario.sites) then fault row.number first.column reasons.Limit else
    site_counted draft row (record { 0 = length draft.scenario.sites }) rest

-- whether an interface puts the site into another VPN than the VRF's
abbrev pub is_mixed : Scenario → Iface → Iface → Bool
is_mixed scenario new iface = iface.site.0 == new.site.0 && not (same_vpn scenario iface.vrf new.vrf)

-- whether an interface attaches another site with a prefix of this site to the VRF's VPN
abbrev pub is_taken : Scenario → Iface → Iface → Bool
is_taken scenario new iface =
    not (iface.site.0 == new.site.0) && same_vpn scenario iface.vrf new.vrf &&
    share_prefix (prefixes_of scenario new.site) (prefixes_of scenario iface.site)

-- the rules of an interface: its site is in one VPN, in which no other site has a prefix of it
unfoldable pub iface_rules : Drafted → Row → IfaceId → Placed → Iface → Result Line TextFault
iface_rules draft row id c iface =
    if list_any (is_mixed draft.scenario iface) draft.scenario.ifaces then fault row.number c.column reasons.Mixed else
    if list_any (is_taken draft.scenario iface) draft.scenario.ifaces then fault row.number c.column reasons.Taken else
    Ok (says.Iface id iface)

-- `NAME VRF SITE ADDR` of an interface
unfoldable pub iface_parts : Drafted → Row → Placed → Placed → Placed → Placed → Result Iface TextFault
iface_parts draft row a b c d =
    new_name draft row a >>= λ name. vrf_at draft row b >>= λ vrf. site_at draft row c >>= λ site.
    addr_at row d >>= λ addr. Ok (record { name = name; vrf = vrf; site = site; addr = addr })

-- `iface NAME VRF SITE ADDR`
abbrev pub iface_words : Drafted → Row → IfaceId → Placed → Placed → Placed → Placed → Result Line TextFault
iface_words draft row id a b c d = iface_parts draft row a b c d >>= λ iface. iface_rules draft row id c iface

-- the words after `iface`
unfoldable pub iface_counted : Drafted → Row → IfaceId → List Placed → Result Line TextFault
iface_counted draft row id [] = fault row.number row.after reasons.Count
iface_counted draft row id (a ∷ []) = fault row.number row.after reasons.Count
iface_counted draft row id (a ∷ b ∷ []) = fault row.number row.after reasons.Count
iface_counted draft row id (a ∷ b ∷ c ∷ []) = fault row.number row.after reasons.Count
iface_counted draft row id (a ∷ b ∷ c ∷ d ∷ []) = iface_words draft row id a b c d
iface_counted draft row id (a ∷ b ∷ c ∷ d ∷ e ∷ more) = fault row.number e.column reasons.Count

-- a line of an interface, of which there are at most 1,024
unfoldable pub iface_line : Drafted → Row → Placed → List Placed → Result Line TextFault
iface_line draft row first rest =
    if nat_le 1024 (length draft.scenario.ifaces) then fault row.number first.column reasons.Limit else
    iface_counted draft row (record { 0 = length draft.scenario.ifaces }) rest
