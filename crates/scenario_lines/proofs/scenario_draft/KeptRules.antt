-- Lines that keep to what is asked of each keep the rules of a scenario.
use Rattle.std.proofs.Common.{◌≡◌, ℕ, ◌≤◌, true, [], ◌∷◌, ◌++◌, length, sym, ◌∙◌, arith, Some}
use Rattle.std.proofs.lemmas.List.Elements.{All-nil}
use Rattle.mv_base.specs.declared.core_link.Link.{Link}
use Rattle.mv_base.specs.declared.ids.NodeId.{NodeId}
use Rattle.mv_base.specs.declared.ids.VrfId.{VrfId}
use Rattle.mv_base.specs.declared.ids.SiteId.{SiteId}
use Rattle.mv_base.specs.declared.ids.IfaceId.{IfaceId}
use Rattle.mv_base.specs.core_walks.Topology.{IsConnected}
use Rattle.scenario_defs.specs.declared.scenario.Node.{Node}
use Rattle.scenario_defs.specs.declared.scenario.Vrf.{Vrf}
use Rattle.scenario_defs.specs.declared.scenario.Site.{Site}
use Rattle.scenario_defs.specs.declared.scenario.Iface.{Iface}
use Rattle.scenario_defs.specs.declared.scenario.Scenario.{Scenario}
use Rattle.scenario_defs.specs.declared.scenario.Thing.TheVariants as things
use Rattle.scenario_defs.specs.declared.event.Event.{Event}
use Rattle.scenario_defs.specs.Rules.{Rules, SettingRules, CoreRules, VrfRules, SiteRules, IfaceRules}
use Rattle.scenario_lines.specs.declared.scenario_draft.line.Line.{Line}
use Rattle.scenario_lines.specs.declared.scenario_draft.line.Line.TheVariants as says
use Rattle.scenario_lines.specs.declared.scenario_draft.setting.Setting.{Setting}
use Rattle.scenario_lines.specs.declared.scenario_draft.setting.Setting.TheVariants as settings
use Rattle.scenario_lines.specs.declared.scenario_draft.setting.Given.{Given}
use Rattle.scenario_lines.specs.scenario_draft.Drafted.{Drafted}
use Rattle.scenario_lines.specs.scenario_draft.Settings.{highest, with_given, with_setting}
use Rattle.scenario_lines.specs.scenario_draft.Adding.{IsNew, added, empty_draft}
use Rattle.scenario_lines.specs.scenario_draft.Declaring.{IsDeclared, IsNewName, MayBeNode, MayBeLink, MayBeVrf, MayBeSite, MayBeIface}
use Rattle.scenario_lines.proofs.scenario_draft.OneMore.{still_get}
use Rattle.scenario_lines.proofs.scenario_draft.OtherRules.{settings_else, core_else, vrfs_still, vrfs_else, sites_else, ifaces_known, ifaces_else}
use Rattle.scenario_lines.proofs.scenario_draft.MoreRules.{node_core, link_core, vrf_more, site_more, vrf_known, site_known, iface_more}
use Rattle.scenario_lines.proofs.scenario_draft.MoreNames.{AreNamed, no_names, names_else, one_more_name, names_with_node, names_with_vrf, names_with_site, names_with_iface}

-- What holds of a draft before the scenario ends.
pub record Kept (draft : Drafted) : Type 0 where
  pub settings : SettingRules draft.scenario
  pub core : CoreRules draft.scenario
  pub vrfs : VrfRules draft.scenario
  pub sites : SiteRules draft.scenario
  pub ifaces : IfaceRules draft.scenario
  pub names : AreNamed draft.scenario draft.names

-- Nothing of the scenario changes.
kept_else : (draft other : Drafted) → Kept draft → Kept (record other { scenario = draft.scenario; names = draft.names })
kept_else draft other k = record { settings = k.settings; core = k.core; vrfs = k.vrfs; sites = k.sites; ifaces = k.ifaces; names = k.names }

pub kept_empty : Kept empty_draft
kept_empty = record {
  settings =
      record {
        life = (omega arith, omega arith);
        delay = (omega arith, omega arith);
        labels = (omega arith, omega arith);
        system =
            (omega arith, omega arith);
      };
  core = record {
    topology =
        record {
          few_nodes = omega arith;
          few_links = omega arith;
          ends = All-nil _;
          costs = All-nil _;
          once =
              λ i j d lt within. absurd (omega arith);
        };
    few_edges = omega arith;
    ipv4 = All-nil _;
    unicast = All-nil _;
    addresses = λ i j d lt within. absurd (omega arith);
  };
  vrfs = record { few = omega arith; each = All-nil _; apart = λ i j d lt within. absurd (omega arith) };
  sites = record { few = omega arith; each = All-nil _ };
  ifaces = record { few = omega arith; each = All-nil _; vpns = λ i j d lt within. absurd (omega arith) };
  names = no_names;
}

kept_values : (draft : Drafted) (given : Given) (life delay labels system : ℕ)
    → SettingRules (record draft.scenario { life = life; delay = delay; labels = labels; system = system }) → Kept draft
    → Kept (record draft { scenario = record draft.scenario { life = life; delay = delay; labels = labels; system = system }; given = given })
kept_values draft given life delay labels system new k =
    let s : Scenario = draft.scenario in
    let t : Scenario = record s { life = life; delay = delay; labels = labels; system = system } in
    record {
      settings = new;
      core = core_else s t k.core;
      vrfs = vrfs_else s t k.vrfs;
      sites = sites_else s t k.sites;
      ifaces =
          ifaces_else s t k.ifaces;
      names = names_else s t draft.names k.names;
    }

kept_setting : (draft : Drafted) (setting : Setting) (value : ℕ) → (1 ≤ value) × (value ≤ highest setting) → Kept draft
    → Kept (record draft { scenario = with_setting draft.scenario setting value; given = with_given draft.given setting })
kept_setting draft settings.Life value within k =
    let s : Scenario = draft.scenario in
    kept_values draft _ value s.delay s.labels s.system
    (record { life = within; delay = k.settings.delay; labels = k.settings.labels; system = k.settings.system }) k
kept_setting draft settings.Delay value within k =
    let s : Scenario = draft.scenario in
    kept_values draft _ s.life value s.labels s.system
    (record { life = k.settings.life; delay = within; labels = k.settings.labels; system = k.settings.system }) k
kept_setting draft settings.Labels value within k =
    let s : Scenario = draft.scenario in
    kept_values draft _ s.life s.delay value s.system
    (record { life = k.settings.life; delay = k.settings.delay; labels = within; system = k.settings.system }) k
kept_setting draft settings.System value within k =
    let s : Scenario = draft.scenario in
    kept_values draft _ s.life s.delay s.labels value
    (record { life = k.settings.life; delay = k.settings.delay; labels = k.settings.labels; system = within }) k

kept_node : (draft : Drafted) (id : NodeId) (node : Node) → id.0 ≡ length draft.scenario.nodes → IsNewName draft node.name
    → MayBeNode draft.scenario node → Kept draft
    → Kept (record draft {
      scenario = record draft.scenario { nodes = draft.scenario.nodes ++ node ∷ [] };
      names =
          draft.names ++ (node.name, (things.Node id)) ∷ [];
    })
kept_node draft id node next new may k =
    let s : Scenario = draft.scenario in
    let t : Scenario = record s { nodes = s.nodes ++ node ∷ [] } in
    record {
      settings = settings_else s t k.settings;
      core = node_core s node may k.core;
      vrfs = vrfs_still s t (still_get s.nodes node) k.vrfs;
      sites = sites_else s t k.sites;
      ifaces = ifaces_else s t k.ifaces;
      names = one_more_name draft t node.name (things.Node id) new (names_with_node s id node next) k.names;
    }

kept_link : (draft : Drafted) (link : Link) → MayBeLink draft.scenario link → Kept draft
    → Kept (record draft { scenario = record draft.scenario { links = draft.scenario.links ++ link ∷ [] } })
kept_link draft link may k =
    let s : Scenario = draft.scenario in
    let t : Scenario = record s { links = s.links ++ link ∷ [] } in
    record {
      settings = settings_else s t k.settings;
      core = link_core s link may k.core;
      vrfs = vrfs_else s t k.vrfs;
      sites =
          sites_else s t k.sites;
      ifaces = ifaces_else s t k.ifaces;
      names = names_else s t draft.names k.names;
    }

kept_vrf : (draft : Drafted) (id : VrfId) (vrf : Vrf) → id.0 ≡ length draft.scenario.vrfs → IsNewName draft vrf.name → MayBeVrf draft.scenario vrf
    → Kept draft → Kept (record draft {
      scenario = record draft.scenario { vrfs = draft.scenario.vrfs ++ vrf ∷ [] };
      names =
          draft.names ++ (vrf.name, (things.Vrf id)) ∷ [];
    })
kept_vrf draft id vrf next new may k =
    let s : Scenario = draft.scenario in
    let t : Scenario = record s { vrfs = s.vrfs ++ vrf ∷ [] } in
    record {
      settings = settings_else s t k.settings;
      core = core_else s t k.core;
      vrfs = vrf_more s vrf may k.vrfs;
      sites = sites_else s t k.sites;
      ifaces = ifaces_known s t (vrf_known s vrf) k.ifaces;
      names = one_more_name draft t vrf.name (things.Vrf id) new (names_with_vrf s id vrf next) k.names;
    }

kept_site : (draft : Drafted) (id : SiteId) (site : Site) → id.0 ≡ length draft.scenario.sites → IsNewName draft site.name
    → MayBeSite draft.scenario site → Kept draft
    → Kept (record draft {
      scenario = record draft.scenario { sites = draft.scenario.sites ++ site ∷ [] };
      names =
          draft.names ++ (site.name, (things.Site id)) ∷ [];
    })
kept_site draft id site next new may k =
    let s : Scenario = draft.scenario in
    let t : Scenario = record s { sites = s.sites ++ site ∷ [] } in
    record {
      settings = settings_else s t k.settings;
      core = core_else s t k.core;
      vrfs = vrfs_else s t k.vrfs;
      sites = site_more s site may k.sites;
      ifaces = ifaces_known s t (site_known s site) k.ifaces;
      names = one_more_name draft t site.name (things.Site id) new (names_with_site s id site next) k.names;
    }

kept_iface : (draft : Drafted) (id : IfaceId) (iface : Iface) → id.0 ≡ length draft.scenario.ifaces → IsNewName draft iface.name
    → MayBeIface draft.scenario iface → Kept draft
    → Kept (record draft {
      scenario = record draft.scenario { ifaces = draft.scenario.ifaces ++ iface ∷ [] };
      names =
          draft.names ++ (iface.name, (things.Iface id)) ∷ [];
    })
kept_iface draft id iface next new may k =
    let s : Scenario = draft.scenario in
    let t : Scenario = record s { ifaces = s.ifaces ++ iface ∷ [] } in
    record {
      settings = settings_else s t k.settings;
      core = core_else s t k.core;
      vrfs = vrfs_else s t k.vrfs;
      sites = sites_else s t k.sites;
      ifaces = iface_more s iface may k.ifaces;
      names = one_more_name draft t iface.name (things.Iface id) new (names_with_iface s id iface next) k.names;
    }

-- A line of the scenario keeps the rules.
pub kept_added : (draft : Drafted) (number : ℕ) (said : Line) → Kept draft → IsDeclared draft said → Kept (added draft number said)
kept_added draft number (says.Setting setting value) k d = kept_setting draft setting value (d.1, d.2) k
kept_added draft number (says.Node id node) k d = kept_node draft id node d.0 d.1 d.2 k
kept_added draft number (says.Link link) k d = kept_link draft link d k
kept_added draft number (says.Vrf id vrf) k d = kept_vrf draft id vrf d.0 d.1 d.2 k
kept_added draft number (says.Site id site) k d = kept_site draft id site d.0 d.1 d.2 k
kept_added draft number (says.Iface id iface) k d = kept_iface draft id iface d.0 d.1 d.2 k
kept_added draft number says.Events k d = kept_else draft (record draft { begun = true }) k
kept_added draft number says.Blank k d = absurd d
kept_added draft number (says.Event event) k d = absurd d

-- A line of an event changes nothing of the scenario.
pub kept_told : (draft : Drafted) (number : ℕ) (event : Event) → Kept draft → Kept (added draft number (says.Event event))
kept_told draft number event k = kept_else draft (added draft number (says.Event event)) k

-- The scenario meets the rules once its core is connected.
pub rules_of_kept : (draft : Drafted) → Kept draft → IsConnected (length draft.scenario.nodes) draft.scenario.links → Rules draft.scenario
rules_of_kept draft k connected = record {
  settings = k.settings;
  core = k.core;
  connected = connected;
  vrfs = k.vrfs;
  sites = k.sites;
  ifaces = k.ifaces;
  names = record {
    formed = λ thing name h. (k.names thing name h).0;
    distinct = λ thing other name h e. let both : Some thing ≡ Some other = sym (k.names thing name h).1 ∙ (k.names other name e).1 in cc;
  };
}

-- A line that keeps to them declares a new name, if it declares one.
pub declared_new : (draft : Drafted) (said : Line) → IsDeclared draft said → IsNew draft said
declared_new draft (says.Setting setting value) h = (h.0, h.2)
declared_new draft (says.Node id node) h = h.1.1
declared_new draft (says.Link link) h = tt
declared_new draft (says.Vrf id vrf) h = h.1.1
declared_new draft (says.Site id site) h = h.1.1
declared_new draft (says.Iface id iface) h = h.1.1
declared_new draft says.Events h = tt
declared_new draft says.Blank h = tt
declared_new draft (says.Event event) h = tt
