-- A copy that arrives on a tunnel leaves VRF by VRF.
use Rattle.std.proofs.Common.{◌≡◌, ℕ, zero, suc, ◌+◌, ◌<◌, Bool, true, false, cond, List, [], ◌∷◌, ◌++◌, length, take, get_or, nat_lt, position, slice_get, Option, Some, None, option_map, refl, sym, ap, ◌∙◌, append_assoc, append-nil, add-one, arith}
use Rattle.std.specs.List.{flat_map, list_any, position_or_len}
use Rattle.std.proofs.lemmas.Bool.{lt-ltb, or_left, or_right}
use Rattle.std.proofs.lemmas.List.Quantifiers.{position-Some}
use Rattle.std.proofs.lemmas.Option.{slice_get-get_or, slice_get_read}
use Rattle.mv_base.specs.Address.{same_addr, same_addr_equal, same_addr_equiv}
use Rattle.mv_base.specs.declared.addr.Addr.{Addr}
use Rattle.mv_base.specs.declared.ids.IfaceId.{IfaceId}
use Rattle.mv_base.specs.declared.ids.NodeId.{NodeId}
use Rattle.mldp.specs.declared.mldp_fec.fec.Fec.{Fec}
use Rattle.mv_base.specs.core_walks.Core.{Core}
use Rattle.choice_defs.proofs.HashLemmas.{some_place}
use Rattle.scenario_defs.specs.declared.scenario.Node.{Node}
use Rattle.scenario_defs.specs.declared.scenario.Scenario.{Scenario}
use Rattle.vrf_words.specs.declared.tree_defs.flow.Flow.{Flow}
use Rattle.vrf_words.specs.declared.tree_defs.flow.Origin.TheVariants as origins
use Rattle.vrf_words.specs.tree_defs.Flows.{outgoing}
use Rattle.vrf_words.specs.tree_defs.Trees.{TreeData}
use Rattle.edge_defs.specs.Datagrams.{outs_at}
use Rattle.edge_defs.specs.Place.{EdgePlace, OwnVrf, addr_of, node_with, own_vrfs}
use Rattle.edge_routes.specs.edge_home.Home.{place_of}
use Rattle.edge_words.proofs.calm_laws.Lists.{not_both}
use Rattle.edge_words.proofs.Known.{addr_at}
use Rattle.vrf_words.specs.tree_laws.Imports.{imports}
use Rattle.vrf_words.proofs.tree_laws.Leaving.{no_outs, outs_are}
use Rattle.control_laws.specs.Control.{Kept, control_of}
use Rattle.control_laws.specs.Peers.{IsTreeBetween, as_wanted}
use Rattle.control_laws.proofs.Between.{between_at}
use Rattle.edge_control.specs.Places.{vrfs_of}
use Rattle.edge_control.specs.Sound.{IsSound}
use Rattle.edge_control.proofs.PeerSound.{as_many}
use Rattle.edge_control.proofs.PlaceLemmas.{any_before}
use Rattle.edge_control.proofs.SoundLemmas.{sound_between}
use Rattle.edge_routing.specs.edge_datagrams.Datagrams.{AreOfOctets}
use Rattle.edge_routing.proofs.edge_datagrams.CoreLemmas.{it_there}
use Rattle.edge_routing.proofs.edge_datagrams.KeptLemmas.{are_whole}

-- ---- lists

-- one more of a list
one_after : {X Y : Type 0} (f : X → List Y) (xs : List X) (n : ℕ) (x : X) → slice_get xs n ≡ Some x
    → flat_map f (take (suc n) xs) ≡ flat_map f (take n xs) ++ f x
one_after f [] n x e = absurd cc
one_after f (y ∷ ys) zero x e = (let same : y ≡ x = cc in append-nil (f y) ∙ ap f same)
one_after f (y ∷ ys) (suc n) x e = ap (λ zs. f y ++ zs) (one_after f ys n x e) ∙ sym (append_assoc (f y) (flat_map f (take n ys)) (f x))

one_more : {X Y : Type 0} (f : X → List Y) (xs : List X) (n : ℕ) (x : X) → slice_get xs n ≡ Some x
    → flat_map f (take (n + 1) xs) ≡ flat_map f (take n xs) ++ f x
one_more f xs n x e = ap (λ (m : ℕ). flat_map f (take m xs)) (add-one n) ∙ one_after f xs n x e

none_told : {X Y : Type 0} (f : X → List Y) (xs : List X) → ((x : X) → f x ≡ []) → flat_map f xs ≡ []
none_told f [] h = refl
none_told f (x ∷ xs) h = ap (λ ys. ys ++ flat_map f xs) (h x) ∙ none_told f xs h

any_at : {X : Type 0} (p : X → Bool) (xs : List X) (n : ℕ) (x : X) → slice_get xs n ≡ Some x → p x ≡ true → list_any p xs ≡ true
any_at p [] n x e t = absurd cc
any_at p (y ∷ ys) zero x e t = (let same : y ≡ x = cc in or_left (p y) (list_any p ys) (ap p same ∙ t))
any_at p (y ∷ ys) (suc n) x e t = or_right (p y) (list_any p ys) (any_at p ys n x e t)

never : (b : Bool) (n : ℕ) → b ≡ true → ◌≡◌ {A = Option ℕ} (cond b (Some n) None) None → ⊥
never true n t e = absurd cc
never false n t e = absurd cc

-- where none is found, none passes
passed_over : {X : Type 0} (p : X → Bool) (xs : List X) → position p xs ≡ None → (n : ℕ) (x : X) → slice_get xs n ≡ Some x → p x ≡ false
passed_over p xs e n x at = by (p x) refl
  where
    by : (b : Bool) → p x ≡ b → b ≡ false
    by true t =
        absurd (never (nat_lt (position_or_len p xs) (length xs)) (position_or_len p xs) (lt-ltb _ _ (any_before p xs (any_at p xs n x at t))) e)
    by false t = refl

-- ---- the root of a tunnel

module _ (scenario : Scenario) (addr : Addr) where
  abbrev has_addr : Node → Bool
  has_addr node = same_addr node.addr addr

  abbrev node_of : ℕ → NodeId
  node_of number = record { 0 = number }

  placed : (o : Option ℕ) (root : NodeId) → option_map node_of o ≡ Some root → o ≡ Some root.0
  placed None root e = absurd cc
  placed (Some n) root e = (let same : node_of n ≡ root = cc in ap (λ (r : NodeId). Some r.0) same)

  pub root_is : (root : NodeId) → node_with scenario addr ≡ Some root → (root.0 < length scenario.nodes) × (addr_of scenario root ≡ addr)
  root_is root e = by scenario.nodes refl
    where
      at : position has_addr scenario.nodes ≡ Some root.0
      at = placed (position has_addr scenario.nodes) root e

      by : (nodes : List Node) → scenario.nodes ≡ nodes → (root.0 < length scenario.nodes) × (addr_of scenario root ≡ addr)
      by [] same = absurd (let bad : position has_addr [] ≡ Some root.0 = ap (position has_addr) (sym same) ∙ at in cc)
      by (d ∷ more) same =
          let found = position-Some has_addr scenario.nodes root.0 d at in
          (found.0, addr_at scenario root _ (slice_get-get_or scenario.nodes root.0 d found.0) ∙ same_addr_equal _ addr found.1)

  none_by : (o : Option ℕ) → option_map node_of o ≡ None → o ≡ None
  none_by None e = refl
  none_by (Some n) e = absurd cc

  pub no_root : node_with scenario addr ≡ None → (node : NodeId) → node.0 < length scenario.nodes → addr_of scenario node ≡ addr → ⊥
  no_root e node within same = by scenario.nodes refl
    where
      by : (nodes : List Node) → scenario.nodes ≡ nodes → ⊥
      by [] empty = absurd (let none : length scenario.nodes ≡ 0 = ap (λ (ns : List Node). length ns) empty in omega (arith, within, none))
      by (d ∷ more) are =
          let found = get_or scenario.nodes node.0 d in
          let at = slice_get-get_or scenario.nodes node.0 d within in
          not_both (has_addr found)
          (ap (λ (a : Addr). same_addr a addr) (sym (addr_at scenario node found at) ∙ same) ∙ same_addr_equiv.refl addr)
          (passed_over has_addr scenario.nodes (none_by (position has_addr scenario.nodes) e) node.0 found at)

-- ---- what leaves

where_none : {X : Type 0} (b : Bool) (xs : List X) → xs ≡ [] → xs ≡ cond b xs []
where_none true xs e = refl
where_none false xs e = e

module _ (kept : Kept) (sound : IsSound kept) (walks : Core) (now : ℕ) (fec : Fec) (flow : Flow) where
  abbrev place : EdgePlace
  place = place_of kept.home walks

  abbrev leaves_at : OwnVrf → List IfaceId
  leaves_at = outs_at place now (control_of kept) fec flow.source flow.group

  -- where no node is the root, nothing leaves
  pub none_leave : node_with kept.home.scenario fec.root ≡ None → flat_map leaves_at (own_vrfs place) ≡ []
  none_leave e =
      none_told leaves_at (own_vrfs place) (λ own. no_outs place now (control_of kept) own fec flow
      (λ peer up same. no_root kept.home.scenario fec.root e peer (sound.peers peer up) same))

  module _ (octets : AreOfOctets kept) (root : NodeId) (within : root.0 < length kept.home.scenario.nodes)
      (rooted : addr_of kept.home.scenario root ≡ fec.root)
      (number : ℕ) (own : OwnVrf) (tree : TreeData) (own_at : slice_get (vrfs_of kept.home) number ≡ Some own)
      (tree_at : slice_get kept.trees number ≡ Some tree) where
    abbrev imported : Bool
    imported = imports place (control_of kept) own root fec

    abbrev all : List IfaceId
    all = outgoing tree.vrf (walks.cost kept.home.me) now flow (origins.Edge root)

    -- the tree is that of the VRF
    pub tree_there : IsTreeBetween place (control_of kept) own tree
    tree_there =
        between_at kept (sound_between kept sound) walks (record { own = own; tree = tree }) (it_there kept sound number own tree own_at tree_at)

    leave_is : leaves_at own ≡ cond imported all []
    leave_is =
        outs_are place now (control_of kept) own fec flow (as_wanted tree) tree_there root
        sound.home.rules sound.peers within rooted (are_whole kept sound octets walks own)

    pub leave_empty : (outs : List IfaceId) → outs ≡ all → outs ≡ [] → outs ≡ leaves_at own
    leave_empty outs e empty = e ∙ where_none imported all (sym e ∙ empty) ∙ sym leave_is

    pub leave_all : (outs : List IfaceId) (so : Bool) → outs ≡ all → so ≡ imported → so ≡ true → outs ≡ leaves_at own
    leave_all outs so e k h = e ∙ ap (λ (b : Bool). cond b all []) (sym h ∙ k) ∙ sym leave_is

    pub leave_none : (outs : List IfaceId) (so : Bool) → outs ≡ [] → so ≡ imported → so ≡ false → outs ≡ leaves_at own
    leave_none outs so e k h = e ∙ ap (λ (b : Bool). cond b all []) (sym h ∙ k) ∙ sym leave_is

-- ---- VRF by VRF

pub tree_read : (trees kept : List TreeData) (number : ℕ) (tree : TreeData) → trees ≡ kept → number < length kept → tree ≡ get_or trees number tree
    → slice_get kept number ≡ Some tree
tree_read trees kept number tree e within is =
    slice_get_read kept (length kept) number tree refl within (is ∙ ap (λ (ts : List TreeData). get_or ts number tree) e)

pub within_trees : (kept : Kept) → IsSound kept → (trees : List TreeData) (number : ℕ) → trees ≡ kept.trees → number < length (vrfs_of kept.home)
    → number < length trees
within_trees kept sound trees number e within =
    let many = as_many kept sound in
    let same = ap (λ (ts : List TreeData). length ts) e in
    omega (arith, many, same, within)

-- the interfaces of one VRF more
pub outs_more : (f : OwnVrf → List IfaceId) (vrfs : List OwnVrf) (number : ℕ) (old more slice new : List IfaceId) → number < length vrfs
    → old ≡ flat_map f (take number vrfs)
    → ((own : OwnVrf) → slice_get vrfs number ≡ Some own → more ≡ f own) → slice ≡ more → new ≡ old ++ slice
    → new ≡ flat_map f (take (number + 1) vrfs)
outs_more f vrfs number old more slice new within before of_own same e =
    let own = some_place vrfs number within in
    e ∙ (λ i. before i ++ (same ∙ of_own own.0 own.1) i) ∙ sym (one_more f vrfs number own.0 own.1)
