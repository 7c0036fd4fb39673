-- The names of things, with one more.
use Rattle.std.proofs.Common.{◌≡◌, ℕ, ◌⊎◌, inl, inr, true, nat_eq, List, [], ◌∷◌, ◌++◌, length, sym, ap, subst, ◌∙◌, Some}
use Rattle.std.specs.Map.{lookup}
use Rattle.std.specs.Cmp.Lexicographic.{pointwise, nat_list_eq_equiv}
use Rattle.mv_base.specs.declared.ids.NodeId.{NodeId}
use Rattle.mv_base.specs.declared.ids.VrfId.{VrfId}
use Rattle.mv_base.specs.declared.ids.SiteId.{SiteId}
use Rattle.mv_base.specs.declared.ids.IfaceId.{IfaceId}
use Rattle.scenario_defs.specs.declared.scenario.Node.{Node}
use Rattle.scenario_defs.specs.declared.scenario.Vrf.{Vrf}
use Rattle.scenario_defs.specs.declared.scenario.Site.{Site}
use Rattle.scenario_defs.specs.declared.scenario.Iface.{Iface}
use Rattle.scenario_defs.specs.declared.scenario.Scenario.{Scenario}
use Rattle.scenario_defs.specs.declared.scenario.Thing.{Thing}
use Rattle.scenario_defs.specs.declared.scenario.Thing.TheVariants as things
use Rattle.scenario_defs.specs.Names.{is_name, name_of}
use Rattle.scenario_lines.specs.scenario_draft.Drafted.{Drafted}
use Rattle.scenario_lines.specs.scenario_draft.Adding.{empty_draft}
use Rattle.scenario_lines.specs.scenario_draft.Declaring.{IsNewName}
use Rattle.scenario_lines.proofs.scenario_draft.OneMore.{told_get, still_found, new_found}

-- Each name has the form of one, and stands for the thing that has it.
abbrev pub AreNamed : Scenario → List (List ℕ × Thing) → Type 0
AreNamed scenario names =
    (thing : Thing) (name : List ℕ) → name_of scenario thing ≡ Some name → (is_name name ≡ true) × (lookup (pointwise nat_eq name) names ≡ Some thing)

pub no_names : AreNamed empty_draft.scenario []
no_names (things.Node id) name h = absurd cc
no_names (things.Vrf id) name h = absurd cc
no_names (things.Site id) name h = absurd cc
no_names (things.Iface id) name h = absurd cc

pub names_else : (s t : Scenario) (names : List (List ℕ × Thing)) → AreNamed s names
    → AreNamed (record t { nodes = s.nodes; vrfs = s.vrfs; sites = s.sites; ifaces = s.ifaces }) names
names_else s t names h (things.Node id) name e = h (things.Node id) name e
names_else s t names h (things.Vrf id) name e = h (things.Vrf id) name e
names_else s t names h (things.Site id) name e = h (things.Site id) name e
names_else s t names h (things.Iface id) name e = h (things.Iface id) name e

-- One more thing with a new name: what was named has its name, and the thing has that one.
pub one_more_name : (draft : Drafted) (t : Scenario) (fresh : List ℕ) (own : Thing) → IsNewName draft fresh
    → ((thing : Thing) (name : List ℕ) → name_of t thing ≡ Some name → (name_of draft.scenario thing ≡ Some name) ⊎ ((thing ≡ own) × (fresh ≡ name)))
    → AreNamed draft.scenario draft.names → AreNamed t (draft.names ++ (fresh, own) ∷ [])
one_more_name draft t fresh own new told names thing name h = elim (told thing name h) [
  | inl old ↦
      let was = names thing name old in
      (was.0, still_found (pointwise nat_eq name) draft.names (fresh, own) thing was.1)
  | inr last ↦
      let found : lookup (pointwise nat_eq fresh) (draft.names ++ (fresh, own) ∷ []) ≡ Some own =
      new_found (pointwise nat_eq fresh) draft.names fresh own new.1 (nat_list_eq_equiv.refl fresh) in (
        subst (λ (x : List ℕ). is_name x ≡ true) last.1 new.0,
        subst (λ (x : List ℕ). lookup (pointwise nat_eq x) (draft.names ++ (fresh, own) ∷ []) ≡ Some thing) last.1
            (subst (λ (x : Thing). lookup (pointwise nat_eq fresh) (draft.names ++ (fresh, own) ∷ []) ≡ Some x) (sym last.0) found),
      )
]

pub names_with_node : (s : Scenario) (id : NodeId) (node : Node) → id.0 ≡ length s.nodes → (thing : Thing) (name : List ℕ)
    → name_of (record s { nodes = s.nodes ++ node ∷ [] }) thing ≡ Some name
    → (name_of s thing ≡ Some name) ⊎ ((thing ≡ things.Node id) × (node.name ≡ name))
names_with_node s id node e (things.Node other) name h = elim (told_get (λ (x : Node). x.name) s.nodes node other.0 name h) [
  | inl old ↦ inl old
  | inr new ↦ inr (ap (λ (k : ℕ). things.Node (record { 0 = k })) (new.0 ∙ sym e), new.1)
]
names_with_node s id node e (things.Vrf other) name h = inl h
names_with_node s id node e (things.Site other) name h = inl h
names_with_node s id node e (things.Iface other) name h = inl h

pub names_with_vrf : (s : Scenario) (id : VrfId) (vrf : Vrf) → id.0 ≡ length s.vrfs → (thing : Thing) (name : List ℕ)
    → name_of (record s { vrfs = s.vrfs ++ vrf ∷ [] }) thing ≡ Some name
    → (name_of s thing ≡ Some name) ⊎ ((thing ≡ things.Vrf id) × (vrf.name ≡ name))
names_with_vrf s id vrf e (things.Vrf other) name h = elim (told_get (λ (x : Vrf). x.name) s.vrfs vrf other.0 name h) [
  | inl old ↦ inl old
  | inr new ↦ inr (ap (λ (k : ℕ). things.Vrf (record { 0 = k })) (new.0 ∙ sym e), new.1)
]
names_with_vrf s id vrf e (things.Node other) name h = inl h
names_with_vrf s id vrf e (things.Site other) name h = inl h
names_with_vrf s id vrf e (things.Iface other) name h = inl h

pub names_with_site : (s : Scenario) (id : SiteId) (site : Site) → id.0 ≡ length s.sites → (thing : Thing) (name : List ℕ)
    → name_of (record s { sites = s.sites ++ site ∷ [] }) thing ≡ Some name
    → (name_of s thing ≡ Some name) ⊎ ((thing ≡ things.Site id) × (site.name ≡ name))
names_with_site s id site e (things.Site other) name h = elim (told_get (λ (x : Site). x.name) s.sites site other.0 name h) [
  | inl old ↦ inl old
  | inr new ↦ inr (ap (λ (k : ℕ). things.Site (record { 0 = k })) (new.0 ∙ sym e), new.1)
]
names_with_site s id site e (things.Node other) name h = inl h
names_with_site s id site e (things.Vrf other) name h = inl h
names_with_site s id site e (things.Iface other) name h = inl h

pub names_with_iface : (s : Scenario) (id : IfaceId) (iface : Iface) → id.0 ≡ length s.ifaces → (thing : Thing) (name : List ℕ)
    → name_of (record s { ifaces = s.ifaces ++ iface ∷ [] }) thing ≡ Some name
    → (name_of s thing ≡ Some name) ⊎ ((thing ≡ things.Iface id) × (iface.name ≡ name))
names_with_iface s id iface e (things.Iface other) name h = elim (told_get (λ (x : Iface). x.name) s.ifaces iface other.0 name h) [
  | inl old ↦ inl old
  | inr new ↦ inr (ap (λ (k : ℕ). things.Iface (record { 0 = k })) (new.0 ∙ sym e), new.1)
]
names_with_iface s id iface e (things.Node other) name h = inl h
names_with_iface s id iface e (things.Vrf other) name h = inl h
names_with_iface s id iface e (things.Site other) name h = inl h
