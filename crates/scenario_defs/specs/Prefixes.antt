-- The prefixes of sites.
use Rattle.std.specs.Prelude.{◌==◌, ◌&&◌, Bool, List, [], slice_get, None, Some}
use Rattle.std.specs.List.{list_any}
use Rattle.mv_base.specs.declared.ids.SiteId.{SiteId}
use Rattle.mv_base.specs.declared.prefix.Prefix.{Prefix}
use Rattle.mv_base.specs.Address.{same_addr}
use Rattle.scenario_defs.specs.declared.scenario.Scenario.{Scenario}

-- the prefixes of a site, none where there is no such site
abbrev pub prefixes_of : Scenario → SiteId → List Prefix
prefixes_of scenario site = elim (slice_get scenario.sites site.0) [ None ↦ [] | Some found ↦ found.prefixes ]

-- whether both are one prefix
abbrev pub same_prefix : Prefix → Prefix → Bool
same_prefix a b = same_addr a.addr b.addr && a.bits == b.bits

-- whether a prefix of the one list is one of the other
abbrev pub share_prefix : List Prefix → List Prefix → Bool
share_prefix a b = list_any (λ prefix. list_any (same_prefix prefix) b) a
