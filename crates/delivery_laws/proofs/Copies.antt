-- What holds of each copy on a link, and what copies that are put on branches change.
use Rattle.std.proofs.Common.{◌≡◌, ℕ, zero, suc, ◌+◌, Bool, true, false, cond, ◌++◌, map, take, drop, List, [], ◌∷◌, Some, is_some, refl, sym, ap, subst, ◌∙◌, arith}
use Rattle.std.specs.Prelude.{◌==◌, ◌&&◌, sum_by, count_by, slice_get}
use Rattle.std.specs.List.{AllByRecursion, filter, remove}
use Rattle.std.proofs.lemmas.Bool.{and_parts, cond_both, true≢false}
use Rattle.std.proofs.lemmas.List.Sums.{sum_by-cons, sum_by-append}
use Rattle.mv_base.specs.declared.ids.IfaceId.{IfaceId}
use Rattle.mv_base.specs.declared.ids.NodeId.{NodeId}
use Rattle.label_defs.specs.declared.branch.Branch.{Branch}
use Rattle.label_defs.proofs.KeyLemmas.{node_equal}
use Rattle.label_defs.proofs.MemberLemmas.{count-cons}
use Rattle.scenario_defs.specs.declared.report.ReportLine.{ReportLine}
use Rattle.scenario_defs.specs.declared.report.ReportLine.TheVariants as lines
use Rattle.mvpn_model.specs.Report.{is_out_at}
use Rattle.edge_defs.specs.Datagrams.{Fate}
use Rattle.network_defs.specs.Acts.{copy_on, with_branches, hop_line, fated}
use Rattle.network_defs.specs.World.{World, LinkCopy, with_copies}
use Rattle.delivery_laws.specs.Flood.{Fates, times_at, written_below, owed_by, total, is_way, outs_in}
use Rattle.delivery_laws.proofs.Totals.{count-append, replaced, total-replaced}
use Rattle.delivery_laws.proofs.Trees.{sum-zero}
use Rattle.network_laws.proofs.Lists.{each_append}

-- ---- lists

pub all_take : {X : Type 0} (P : X → Type 0) (count : ℕ) (xs : List X) → AllByRecursion P xs → AllByRecursion P (take count xs)
all_take P zero xs h = tt
all_take P (suc count) [] h = tt
all_take P (suc count) (x ∷ xs) h = (h.0, all_take P count xs h.1)

pub all_drop : {X : Type 0} (P : X → Type 0) (count : ℕ) (xs : List X) → AllByRecursion P xs → AllByRecursion P (drop count xs)
all_drop P zero xs h = h
all_drop P (suc count) [] h = tt
all_drop P (suc count) (x ∷ xs) h = all_drop P count xs h.1

pub all_but_one : {X : Type 0} (P : X → Type 0) (xs : List X) (place : ℕ) → AllByRecursion P xs → AllByRecursion P (remove xs place)
all_but_one P xs place h = each_append P (take place xs) (drop (suc place) xs) (all_take P place xs h) (all_drop P (suc place) xs h)

pub all_at : {X : Type 0} (P : X → Type 0) (xs : List X) (place : ℕ) (x : X) → AllByRecursion P xs → slice_get xs place ≡ Some x → P x
all_at P [] place x h e = absurd (true≢false (ap is_some (sym e)))
all_at P (y ∷ xs) zero x h e = (let same : y ≡ x = cc in subst P same h.0)
all_at P (y ∷ xs) (suc place) x h e = all_at P xs place x h.1 e

pub all_filter : {X : Type 0} (P : X → Type 0) (test : X → Bool) (xs : List X) → AllByRecursion P xs → AllByRecursion P (filter test xs)
all_filter P test [] h = tt
all_filter P test (x ∷ xs) h =
    cond_both (test x) (x ∷ filter test xs) (filter test xs) (AllByRecursion P) (λ t. (h.0, all_filter P test xs h.1)) (λ f. all_filter P test xs h.1)

-- a sum of what counts only if something holds
pub sum-cond : {X : Type 0} (is : Bool) (f : X → ℕ) (xs : List X) → sum_by (λ x. cond is (f x) 0) xs ≡ cond is (sum_by f xs) 0
sum-cond true f xs = refl
sum-cond false f xs = sum-zero (λ x. 0) (λ x. refl) xs

-- ---- each copy

abbrev pub EachCopy : (NodeId → NodeId → LinkCopy → Type 0) → (NodeId → NodeId → List LinkCopy) → Type 0
EachCopy P copies = (u n : NodeId) → AllByRecursion (P u n) (copies u n)

pub each_replaced : (P : NodeId → NodeId → LinkCopy → Type 0) (from to : NodeId) (new : List LinkCopy) (copies : NodeId → NodeId → List LinkCopy)
    → AllByRecursion (P from to) new → EachCopy P copies → EachCopy P (replaced from to new copies)
each_replaced P from to new copies h each u n =
    cond_both ((u.0 == from.0) && (n.0 == to.0)) new (copies u n) (AllByRecursion (P u n))
    (λ t.
    let parts = and_parts (u.0 == from.0) (n.0 == to.0) t in
    subst (λ (x : NodeId). AllByRecursion (P x n) new) (sym (node_equal u from parts.0))
    (subst (λ (y : NodeId). AllByRecursion (P from y) new) (sym (node_equal n to parts.1)) h))
    (λ f. each u n)

-- ---- copies on branches

abbrev put_on : NodeId → ℕ → ℕ → Branch → World → World
put_on node ttl number branch world = with_copies node branch.node (world.copies node branch.node ++ copy_on world ttl number branch ∷ []) world

pub branches_each : (P : NodeId → NodeId → LinkCopy → Type 0) (node : NodeId) (ttl number : ℕ) (list : List Branch) (world : World)
    → AllByRecursion (λ branch. P node branch.node (copy_on world ttl number branch)) list → EachCopy P world.copies
    → EachCopy P (with_branches node ttl number list world).copies
branches_each P node ttl number [] world h each = each
branches_each P node ttl number (branch ∷ more) world h each =
    let old = world.copies node branch.node in
    branches_each P node ttl number more (put_on node ttl number branch world) h.1
    (each_replaced P node branch.node (old ++ copy_on world ttl number branch ∷ []) world.copies
    (each_append (P node branch.node) old (copy_on world ttl number branch ∷ []) (each node branch.node) (h.0, tt)) each)

pub branches_total : (weight : NodeId → NodeId → LinkCopy → ℕ) (ways : List (NodeId × NodeId)) (node : NodeId) (ttl number : ℕ) (list : List Branch)
    (world : World)
    → AllByRecursion (λ branch. count_by (is_way node branch.node) ways ≡ 1) list
    → total weight ways (with_branches node ttl number list world).copies
    ≡ total weight ways world.copies + sum_by (λ branch. weight node branch.node (copy_on world ttl number branch)) list
branches_total weight ways node ttl number [] world h = omega arith
branches_total weight ways node ttl number (branch ∷ more) world h =
    let old = world.copies node branch.node in
    let copy = copy_on world ttl number branch in
    let rest = branches_total weight ways node ttl number more (put_on node ttl number branch world) h.1 in
    omega (
      arith,
      total-replaced weight node branch.node (old ++ copy ∷ []) world.copies ways h.0,
      sum_by-append (weight node branch.node) old (copy ∷ []),
      sum_by-cons (weight node branch.node) copy [],
      sum_by-cons (λ (b : Branch). weight node b.node (copy_on world ttl number b)) branch more,
      rest,
    )

-- ---- lines

pub outs_written : (number own : ℕ) (iface : IfaceId) (octets : List ℕ) (ifaces : List IfaceId)
    → outs_in number iface (map (λ i. lines.Out own i octets) ifaces) ≡ cond (own == number) (times_at iface ifaces) 0
outs_written number own iface octets [] = by (own == number)
  where
    by : (b : Bool) → 0 ≡ cond {A = ℕ} b 0 0
    by true = refl
    by false = refl
outs_written number own iface octets (first ∷ more) =
    let rest = outs_written number own iface octets more in
    count-cons (is_out_at number iface) (lines.Out own first octets) (map (λ i. lines.Out own i octets) more)
    ∙ ap (λ n. cond ((own == number) && (first.0 == iface.0)) 1 0 + n) rest ∙ by (own == number)
  where
    by : (b : Bool) → cond {A = ℕ} (b && (first.0 == iface.0)) 1 0 + cond b (times_at iface more) 0 ≡ cond b (times_at iface (first ∷ more)) 0
    by true = sym (count-cons (λ (i : IfaceId). i.0 == iface.0) first more)
    by false = refl

pub hops_write_nothing : (number : ℕ) (iface : IfaceId) (node : NodeId) (ttl own : ℕ) (list : List Branch)
    → outs_in number iface (map (hop_line node ttl own) list) ≡ 0
hops_write_nothing number iface node ttl own [] = refl
hops_write_nothing number iface node ttl own (branch ∷ more) =
    omega (
      arith,
      count-cons (is_out_at number iface) (hop_line node ttl own branch) (map (hop_line node ttl own) more),
      hops_write_nothing number iface node ttl own more,
    )

-- ---- a fate

-- What is written and what is owed after a fate: what was before, and what the fate writes and owes.
pub fated_flow : (fates : Fates) (ways : List (NodeId × NodeId)) (number : ℕ) (iface : IfaceId) (world : World) (node : NodeId) (ttl own : ℕ)
    (octets : List ℕ) (before : List ReportLine) (fate : Fate)
    → AllByRecursion (λ branch. count_by (is_way node branch.node) ways ≡ 1) fate.branches
    → outs_in number iface (fated world node ttl own octets before fate).lines + total (owed_by fates number iface) ways
    (fated world node ttl own octets before fate).world.copies
    ≡ outs_in number iface before + (total (owed_by fates number iface) ways world.copies + cond (own == number)
    (times_at iface fate.outs + sum_by (λ branch. written_below fates iface ttl node branch.node branch.label) fate.branches) 0)
fated_flow fates ways number iface world node ttl own octets before fate h =
    let outs = map (λ i. lines.Out own i octets) fate.outs in
    let hops = map (hop_line node ttl own) fate.branches in
    let below = sum_by (λ (branch : Branch). written_below fates iface ttl node branch.node branch.label) fate.branches in
    let both : cond (own == number) (times_at iface fate.outs) 0 + cond (own == number) below 0
    ≡ cond (own == number) (times_at iface fate.outs + below) 0 = by (own == number) below in
    omega (
      arith,
      count-append (is_out_at number iface) before (outs ++ hops),
      count-append (is_out_at number iface) outs hops,
      outs_written number own iface octets fate.outs,
      hops_write_nothing number iface node ttl own fate.branches,
      branches_total (owed_by fates number iface) ways node ttl own fate.branches world h,
      sum-cond (own == number) (λ (branch : Branch). written_below fates iface ttl node branch.node branch.label) fate.branches,
      both,
    )
  where
    by : (b : Bool) (below : ℕ) → cond b (times_at iface fate.outs) 0 + cond b below 0 ≡ cond b (times_at iface fate.outs + below) 0
    by true below = refl
    by false below = refl
