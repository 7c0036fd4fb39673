-- What plans say at their end.
use Rattle.std.proofs.Common.{◌≡◌, ◌∙◌, Bool, true, false, cond, Option, None, Some, refl, ap}
use Rattle.vrf_words.specs.declared.tree_defs.flow.Flow.{Flow}
use Rattle.vrf_words.specs.declared.tree_defs.flow.Upstream.{Upstream}
use Rattle.selective.specs.Leaves.{Leaf}
use Rattle.vrf_flows.proofs.FlowLemmas.{given_by, given_or, or_old}
use Rattle.vrf_trees.specs.declared.wants.Wants.{Wants}
use Rattle.vrf_trees.specs.Wants.{is_stale, wants_of}
use Rattle.vrf_trees.specs.Plan.{carried, joins_for, leaves_for, next_for, planned, renewal, with_joins, with_leaves}

pub stale-end : (leaf : Leaf) (q : Flow) (held : Option Wants) → or_old (given_by (renewal leaf) q held) None ≡ planned leaf q held
stale-end leaf q None = refl
stale-end leaf q (Some own) = by (renewal leaf q own)
  where
    by : (o : Option (Option Wants)) → or_old o None ≡ o
    by None = refl
    by (Some next) = refl

pub leaves-end : (q : Flow) (up : Option Upstream) (plan : Option (Option Wants)) → or_old (given_by leaves_for q up) plan ≡ with_leaves up plan
leaves-end q None plan = refl
leaves-end q (Some up) plan = refl

pub joins-end : (leaf : Leaf) (q : Flow) (up : Option Upstream) (plan : Option (Option Wants))
    → or_old (given_by (joins_for leaf) q up) plan ≡ with_joins leaf q up plan
joins-end leaf q None plan = refl
joins-end leaf q (Some up) plan = refl

pub carry-end : (q : Flow) (plan : Option (Option Wants)) (held : Option Wants) → given_or next_for q plan held ≡ carried plan held
carry-end q None held = refl
carry-end q (Some next) held = refl

absurd-both : (b : Bool) → b ≡ true → b ≡ false → ⊥
absurd-both true h k = absurd cc
absurd-both false h k = absurd cc

-- Nothing is planned for a flow that is not listed.
pub unlisted-none : (leaf : Leaf) (q : Flow) (held : Option Wants) (listed : Bool) → (is_stale held ≡ true → listed ≡ true) → listed ≡ false
    → planned leaf q held ≡ None
unlisted-none leaf q None listed among l = refl
unlisted-none leaf q (Some own) listed among l = by own.stale refl
  where
    by : (b : Bool) → own.stale ≡ b → renewal leaf q own ≡ None
    by true s = absurd (absurd-both listed (among s) l)
    by false s = ap (λ (b : Bool). cond b (Some (Some (wants_of leaf own.edge q))) None) s

-- Once what is stale is planned anew, with what is left and joined, nothing is stale.
pub carried-fresh : (leaf : Leaf) (q : Flow) (joins leaves : Option Upstream) (held : Option Wants) (plan : Option (Option Wants))
    → plan ≡ with_joins leaf q joins (with_leaves leaves (planned leaf q held)) → is_stale (carried plan held) ≡ false
carried-fresh leaf q (Some up) leaves held plan p = ap (λ (o : Option (Option Wants)). is_stale (carried o held)) p
carried-fresh leaf q None (Some up) held plan p = ap (λ (o : Option (Option Wants)). is_stale (carried o held)) p
carried-fresh leaf q None None None plan p = ap (λ (o : Option (Option Wants)). is_stale (carried o None)) p
carried-fresh leaf q None None (Some own) plan p = ap (λ (o : Option (Option Wants)). is_stale (carried o (Some own))) p ∙ by own.stale refl
  where
    by : (b : Bool) → own.stale ≡ b → is_stale (carried (renewal leaf q own) (Some own)) ≡ false
    by true s = ap (λ (b : Bool). is_stale (carried (cond b (Some (Some (wants_of leaf own.edge q))) None) (Some own))) s
    by false s = ap (λ (b : Bool). is_stale (carried (cond b (Some (Some (wants_of leaf own.edge q))) None) (Some own))) s ∙ s
