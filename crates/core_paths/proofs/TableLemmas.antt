-- Tables of rows end to end.
use Rattle.std.proofs.Common.{◌≡◌, ◌≢◌, ◌+◌, ◌*◌, ◌<◌, ℕ, List, [], ◌++◌, length, get_or, inl, inr, subst, sym, ap, ◌∙◌, arith, length-append}
use Rattle.std.proofs.lemmas.Bool.{cases_eq}
use Rattle.std.proofs.lemmas.Nat.{mul-add-lt}
use Rattle.std.proofs.lemmas.List.{get_or_append_left, get_or-append-add, get_or_read}
use Rattle.mv_base.specs.declared.core_link.Link.{Link}
use Rattle.mv_base.specs.core_walks.Walks.{Reaches, IsLeast, IsToward}
use Rattle.mv_base.specs.core_walks.Topology.{Topology, IsConnected, IsFirstUnreached}
use Rattle.core_paths.specs.Rows.{far, IsCostRow, IsStepRow, IsFirstFar, IsNear}
use Rattle.core_paths.specs.Tables.{IsCostTable, IsStepTable}
use Rattle.mv_base.proofs.core_walks.WalkLemmas.{reaches_back, reaches_through}

-- An entry of the earlier rows, and one of the row after them.
entry_before : (table row : List ℕ) (nodes upto from to : ℕ) → length table ≡ upto * nodes → from < nodes → to < upto
    → get_or (table ++ row) (to * nodes + from) 0 ≡ get_or table (to * nodes + from) 0
entry_before table row nodes upto from to size within earlier =
    get_or_append_left table row 0 (to * nodes + from) (omega (arith, size, mul-add-lt to nodes from upto earlier within))

entry_in : (table row : List ℕ) (nodes upto from to : ℕ) → length table ≡ upto * nodes → to ≡ upto
    → get_or (table ++ row) (to * nodes + from) 0 ≡ get_or row from 0
entry_in table row nodes upto from to size e =
    let at : to * nodes + from ≡ length table + from = ap (λ (n : ℕ). n * nodes + from) e ∙ ap (λ (n : ℕ). n + from) (sym size) in
    ap (λ (n : ℕ). get_or (table ++ row) n 0) at ∙ get_or-append-add table row from 0

size_more : (table row : List ℕ) (nodes upto : ℕ) → length table ≡ upto * nodes → length row ≡ nodes → length (table ++ row) ≡ (upto + 1) * nodes
size_more table row nodes upto h k = omega (arith, length-append table row, h, k)

-- Each node reaches each other one.
pub all_near : (links : List Link) (nodes root : ℕ) (row : List ℕ) → IsConnected nodes links → root < nodes → IsCostRow links nodes root row → (k : ℕ)
    → k < nodes → get_or row k 0 < far
all_near links nodes root row c within h k l = h.near k l (reaches_through links k 0 root (reaches_back links 0 k (c k l)) (c root within))

pub no_costs : (links : List Link) (nodes : ℕ) → IsCostTable links nodes 0 []
no_costs links nodes = record { size = omega arith; least = λ from to l h. absurd (omega arith) }

pub no_steps : (links : List Link) (nodes : ℕ) → IsStepTable links nodes 0 []
no_steps links nodes = record { size = omega arith; toward = λ from to l h n. absurd (omega arith) }

pub more_costs : (links : List Link) (nodes upto : ℕ) (table row : List ℕ) → IsCostTable links nodes upto table → IsCostRow links nodes upto row
    → ((k : ℕ) → k < nodes → get_or row k 0 < far) → IsCostTable links nodes (upto + 1) (table ++ row)
more_costs links nodes upto table row h r near = record { size = size_more table row nodes upto h.size r.size; least = least }
  where
    least : (from to : ℕ) → from < nodes → to < upto + 1 → IsLeast links from to (get_or (table ++ row) (to * nodes + from) 0)
    least from to l b = elim (cases_eq to upto) [
      | inl e ↦ subst (λ (x : ℕ). IsLeast links from to x) (sym (entry_in table row nodes upto from to h.size e))
          (subst (λ (y : ℕ). IsLeast links from y (get_or row from 0)) (sym e) (r.least from l (near from l)))
      | inr n ↦
          let earlier : to < upto = omega arith in
          subst (λ (x : ℕ). IsLeast links from to x) (sym (entry_before table row nodes upto from to h.size l earlier)) (h.least from to l earlier)
    ]

pub more_steps : (links : List Link) (nodes upto : ℕ) (table row : List ℕ) → IsStepTable links nodes upto table → IsStepRow links nodes upto row
    → IsStepTable links nodes (upto + 1) (table ++ row)
more_steps links nodes upto table row h r = record { size = size_more table row nodes upto h.size r.size; toward = toward }
  where
    toward : (from to : ℕ) → from < nodes → to < upto + 1 → from ≢ to → IsToward links from to (get_or (table ++ row) (to * nodes + from) 0)
    toward from to l b d = elim (cases_eq to upto) [
      | inl e ↦ subst (λ (x : ℕ). IsToward links from to x) (sym (entry_in table row nodes upto from to h.size e))
          (subst (λ (y : ℕ). IsToward links from y (get_or row from 0)) (sym e) (r.toward from l (λ s. d (s ∙ sym e))))
      | inr n ↦
          let earlier : to < upto = omega arith in
          subst (λ (x : ℕ). IsToward links from to x) (sym (entry_before table row nodes upto from to h.size l earlier))
          (h.toward from to l earlier d)
    ]

-- ---- which nodes are reached

-- An entry is that of a node that reaches the root exactly where it is below `far`.
reached_from : (links : List Link) (nodes root : ℕ) (row : List ℕ) (k : ℕ) → IsCostRow links nodes root row → k < nodes → get_or row k 0 < far
    → Reaches links root k
reached_from links nodes root row k h l near =
    let least = h.least k l near in
    reaches_back links k root (record { steps = least.steps; cost = get_or row k 0; walk = least.walk })

-- The first place of the row toward node 0 with the entry `far` is the lowest node that is not reached.
pub first_unreached : (links : List Link) (nodes : ℕ) (row : List ℕ) (place : ℕ) → IsCostRow links nodes 0 row → IsFirstFar row place
    → IsFirstUnreached nodes links place
first_unreached links nodes row place h first = record {
  within = let x = first.within in let s = h.size in omega arith;
  unreached = λ r. let e = first.here in
      absurd (omega (arith, h.near place (let x = first.within in let s = h.size in omega arith) (reaches_back links 0 place r)));
  lower = λ other l. reached_from links nodes 0 row other h (let x = first.within in let s = h.size in omega arith)
      (let n = first.lower other l in omega (arith, h.top other));
}

-- Where no entry of that row is `far`, each node is reached.
pub all_reached : (links : List Link) (nodes : ℕ) (row : List ℕ) → IsCostRow links nodes 0 row → IsNear row → IsConnected nodes links
all_reached links nodes row h near node l =
    reached_from links nodes 0 row node h l (let n = near node (let s = h.size in omega arith) in omega (arith, h.top node))

-- ---- look-ups

within_table : (nodes from to place size : ℕ) → from < nodes → to < nodes → place ≡ to * nodes + from → size ≡ nodes * nodes → place < size
within_table nodes from to place size l m e s = omega (arith, mul-add-lt to nodes from nodes m l, e, s)

-- The place of an entry is in the table.
pub in_table : (held now : Topology) (from to place size : ℕ) → held ≡ now → from < now.nodes → to < now.nodes → place ≡ to * now.nodes + from
    → size ≡ held.nodes * held.nodes → place < size
in_table held now from to place size e l m p s =
    within_table now.nodes from to place size l m p (subst (λ (t : Topology). size ≡ t.nodes * t.nodes) e s)

pub cost_at : (held now : Topology) (costs : List ℕ) (from to place x : ℕ) → held ≡ now → IsCostTable held.links held.nodes held.nodes costs
    → from < now.nodes → to < now.nodes → place ≡ to * now.nodes + from → x ≡ get_or costs place x → IsLeast now.links from to x
cost_at held now costs from to place x e h l m p r =
    let t = subst (λ (t : Topology). IsCostTable t.links t.nodes t.nodes costs) e h in
    let same : x ≡ get_or costs (to * now.nodes + from) 0 =
    get_or_read costs place x (within_table now.nodes from to place (length costs) l m p t.size) r 0 ∙ ap (λ (n : ℕ). get_or costs n 0) p in
    subst (λ (y : ℕ). IsLeast now.links from to y) (sym same) (t.least from to l m)

pub next_at : (held now : Topology) (nexts : List ℕ) (from to place x : ℕ) → held ≡ now → IsStepTable held.links held.nodes held.nodes nexts
    → from < now.nodes → to < now.nodes → from ≢ to → place ≡ to * now.nodes + from → x ≡ get_or nexts place x → IsToward now.links from to x
next_at held now nexts from to place x e h l m n p r =
    let t = subst (λ (t : Topology). IsStepTable t.links t.nodes t.nodes nexts) e h in
    let same : x ≡ get_or nexts (to * now.nodes + from) 0 =
    get_or_read nexts place x (within_table now.nodes from to place (length nexts) l m p t.size) r 0 ∙ ap (λ (k : ℕ). get_or nexts k 0) p in
    subst (λ (y : ℕ). IsToward now.links from to y) (sym same) (t.toward from to l m n)
