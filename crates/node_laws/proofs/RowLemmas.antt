-- A row of calls of a label node is the row of label steps of an edge.
use Rattle.std.proofs.Common.{◌≡◌, ◌∙◌, refl, sym, ap, subst, ℕ, ◌||◌, ◌&&◌, Bool, true, false, cond, not, List, [], ◌∷◌, ◌++◌, map, Option, None, Some}
use Rattle.std.specs.List.{filter, flat_map, list_any}
use Rattle.std.specs.FinMap as maps
use Rattle.std.specs.FinMap.{FinMap}
use Rattle.std.specs.FinSet as sets
use Rattle.std.specs.FinSet.{FinSet}
use Rattle.std.proofs.lemmas.Option.{same_Some, none-some}
use Rattle.mv_base.specs.Number.{◌>>?◌}
use Rattle.mldp.specs.declared.mldp_fec.fec.Fec.{Fec}
use Rattle.label_defs.specs.Keys.{fec_cmp}
use Rattle.label_defs.specs.Node.{Spent, LacksLabel, LabelNode, prepared, thereafter, called, called_unless, with_pdus}
use Rattle.label_defs.specs.Members.{in_order}
use Rattle.label_defs.specs.Settling.{Stepped}
use Rattle.label_defs.specs.Steps.{Call, Taken, Want, Unwant, Raised, Noticed, Timers, Rerouted, label_step, step_puts}
use Rattle.label_defs.proofs.SettleLemmas.{bind_some}
use Rattle.network_defs.specs.session_defs.PeerSession.{peer_cmp}
use Rattle.network_defs.specs.session_defs.System.{Put}
use Rattle.edge_defs.specs.Place.{EdgePlace, addr_of, label_place}
use Rattle.edge_defs.specs.Steps.{LabelStep, changed_leaves, label_row, one_call}
use Rattle.network_defs.specs.node_defs.EdgeState.{session_of, waiting_at, with_puts}
use Rattle.network_defs.specs.node_defs.Puts.{label_puts}
use Rattle.node_laws.specs.Places.{AreLabelOctets, node_place}
use Rattle.node_laws.specs.Rows.{IsBehindRow, all_called, is_noticed, without_lost}
use Rattle.node_laws.proofs.OctetLemmas.{all_wait, lost_waits}
use Rattle.node_laws.proofs.PlaceLemmas.{one_addr, one_place}

-- ---- what precedes a label step

prepared_part : (call : Call) (node : LabelNode) → (prepared call node).part ≡ node.part
prepared_part (Taken from message) node = refl
prepared_part (Want fec) node = refl
prepared_part (Unwant fec) node = refl
prepared_part (Raised peer) node = refl
prepared_part (Noticed peer) node = refl
prepared_part Timers node = refl
prepared_part Rerouted node = refl

prepared_spent : (call : Call) (node : LabelNode) → (prepared call node).spent ≡ node.spent
prepared_spent (Taken from message) node = refl
prepared_spent (Want fec) node = refl
prepared_spent (Unwant fec) node = refl
prepared_spent (Raised peer) node = refl
prepared_spent (Noticed peer) node = refl
prepared_spent Timers node = refl
prepared_spent Rerouted node = refl

-- a loss that is noticed drops what waits for its session, and no other call drops anything
prepared_waits : (call : Call) (node : LabelNode) (waiting : FinMap peer_cmp (List ℕ)) → AreLabelOctets waiting node.waiting
    → AreLabelOctets (without_lost (Some call) waiting) (prepared call node).waiting
prepared_waits (Taken from message) node waiting same = same
prepared_waits (Want fec) node waiting same = same
prepared_waits (Unwant fec) node waiting same = same
prepared_waits (Raised peer) node waiting same = same
prepared_waits (Noticed peer) node waiting same = lost_waits waiting node.waiting peer same
prepared_waits Timers node waiting same = same
prepared_waits Rerouted node waiting same = same

none_lost : (call : Call) (waiting : FinMap peer_cmp (List ℕ)) → is_noticed call ≡ false → without_lost (Some call) waiting ≡ waiting
none_lost (Taken from message) waiting e = refl
none_lost (Want fec) waiting e = refl
none_lost (Unwant fec) waiting e = refl
none_lost (Raised peer) waiting e = refl
none_lost (Noticed peer) waiting e = absurd cc
none_lost Timers waiting e = refl
none_lost Rerouted waiting e = refl

-- the node after what precedes the first call
abbrev pub prepared_by : Option Call → LabelNode → LabelNode
prepared_by None node = node
prepared_by (Some call) node = prepared call node

own_prepared : (own : Option Call) (node : LabelNode) (waiting : FinMap peer_cmp (List ℕ)) → AreLabelOctets waiting node.waiting
    → AreLabelOctets (without_lost own waiting) (prepared_by own node).waiting
own_prepared None node waiting same = same
own_prepared (Some call) node waiting same = prepared_waits call node waiting same

-- ---- trees of which an edge becomes or stops being a leaf

leaf_notices_none : (b : Bool) (fec : Fec) → is_noticed (cond b (Want fec) (Unwant fec)) ≡ false
leaf_notices_none true fec = refl
leaf_notices_none false fec = refl

none_noticed : (new : FinSet fec_cmp) (fecs : List Fec)
    → list_any is_noticed (map (λ fec. cond (sets.contains new fec) (Want fec) (Unwant fec)) fecs) ≡ false
none_noticed new [] = refl
none_noticed new (fec ∷ more) = (λ i. leaf_notices_none (sets.contains new fec) fec i || none_noticed new more i)

pub changes_notice_none : (old new : FinSet fec_cmp) → list_any is_noticed (changed_leaves old new) ≡ false
changes_notice_none old new = none_noticed new (filter (λ fec. not (sets.contains old fec && sets.contains new fec)) (in_order (sets.union old new)))

-- each of these calls keeps how often the ends of sessions came up
leaf_raises : (b : Bool) (fec : Fec) (node : LabelNode) → (prepared (cond b (Want fec) (Unwant fec)) node).raises ≡ node.raises
leaf_raises true fec node = refl
leaf_raises false fec node = refl

-- ---- lists

first_none : (a b : Bool) → (a || b) ≡ false → a ≡ false
first_none false b e = refl
first_none true b e = absurd cc

rest_none : (a b : Bool) → (a || b) ≡ false → b ≡ false
rest_none false b e = e
rest_none true b e = absurd cc

pub puts_again : (a b : List Put) (waiting : FinMap peer_cmp (List ℕ)) → with_puts (a ++ b) waiting ≡ with_puts b (with_puts a waiting)
puts_again [] b waiting = refl
puts_again (put ∷ a) b waiting = puts_again a b (maps.insert waiting (session_of put) (waiting_at waiting (session_of put) ++ put.unit.octets))

pub then_none : {A B : Type 0} (o : Option A) (f : A → B) → (o >>? λ x. Some (f x)) ≡ None → o ≡ None
then_none None f e = refl
then_none (Some x) f e = absurd (none-some (f x) (sym e))

-- ---- a row

module _ (place : EdgePlace) (now : ℕ) where
  abbrev at : LabelNode → Call → LabelNode
  at node call = called_unless node.spent (addr_of place.scenario place.me) (label_place place.scenario place.core place.me) now node call

  abbrev all_at : LabelNode → List Call → LabelNode
  all_at node [] = node
  all_at node (call ∷ more) = all_at (at node call) more

  -- the node after a label step that was made
  abbrev after : LabelNode → Call → Stepped → LabelNode
  after node call new = record (prepared call node) {
    part = new.part;
    waiting =
        with_pdus (addr_of place.scenario place.me) (step_puts (label_place place.scenario place.core place.me) now node.part call new.puts)
        (prepared call node).waiting;
  }

  at_after : (node : LabelNode) (call : Call) (new : Stepped) → node.spent ≡ None
      → label_step (label_place place.scenario place.core place.me) now node.part call ≡ Some new → at node call ≡ after node call new
  at_after node call new e s =
      (λ i. called_unless (e i) (addr_of place.scenario place.me) (label_place place.scenario place.core place.me) now node call)
      ∙ (λ i. thereafter (addr_of place.scenario place.me) (label_place place.scenario place.core place.me) now (prepared call node) call (s i))
      ∙ (λ i. record (prepared call node) {
        part = new.part;
        waiting =
            with_pdus (addr_of place.scenario place.me)
            (step_puts (label_place place.scenario place.core place.me) now (prepared_part call node i) call new.puts) (prepared call node).waiting;
      })

  at_lacking : (node : LabelNode) (call : Call) → node.spent ≡ None
      → label_step (label_place place.scenario place.core place.me) now node.part call ≡ None → (at node call).spent ≡ Some LacksLabel
  at_lacking node call e s =
      (λ i. (called_unless (e i) (addr_of place.scenario place.me) (label_place place.scenario place.core place.me) now node call).spent)
      ∙ (λ i. (thereafter (addr_of place.scenario place.me) (label_place place.scenario place.core place.me) now (prepared call node) call (s i)).spent)

  stays : (calls : List Call) (node : LabelNode) (cause : Spent) → node.spent ≡ Some cause → all_at node calls ≡ node
  stays [] node cause e = refl
  stays (call ∷ more) node cause e =
      let same : at node call ≡ node =
      λ i. called_unless (e i) (addr_of place.scenario place.me) (label_place place.scenario place.core place.me) now node call in
      ap (λ (n : LabelNode). all_at n more) same ∙ stays more node cause e

  row_parts : (calls : List Call) (node : LabelNode) (row : List LabelStep) → node.spent ≡ None → label_row place now node.part calls ≡ Some row
      → IsBehindRow node.part row (all_at node calls)
  row_parts [] node row e h =
      subst (λ (made : List LabelStep). IsBehindRow node.part made node) (same_Some [] row h) (record { unspent = e; part = refl })
  row_parts (call ∷ more) node row e h =
      let first =
      bind_some (label_step (label_place place.scenario place.core place.me) now node.part call)
      (λ (new : Stepped). label_row place now new.part more >>? λ made. Some (record { old = node.part; call = call; new = new } ∷ made)) row h in
      let rest =
      bind_some (label_row place now first.0.part more) (λ made. Some (record { old = node.part; call = call; new = first.0 } ∷ made)) row first.2
      in
      let thereafter = row_parts more (after node call first.0) rest.0 (prepared_spent call node ∙ e) rest.1 in
      subst (λ (made : List LabelStep). IsBehindRow node.part made (all_at (at node call) more))
      (same_Some (record { old = node.part; call = call; new = first.0 } ∷ rest.0) row rest.2)
      (subst (λ (n : LabelNode). IsBehindRow node.part (record { old = node.part; call = call; new = first.0 } ∷ rest.0) (all_at n more))
      (sym (at_after node call first.0 e first.1))
      (record { unspent = thereafter.unspent; part = thereafter.part }))

  row_lacks : (calls : List Call) (node : LabelNode) → node.spent ≡ None → label_row place now node.part calls ≡ None
      → (all_at node calls).spent ≡ Some LacksLabel
  row_lacks [] node e h = absurd (none-some [] (sym h))
  row_lacks (call ∷ more) node e h = by (label_step (label_place place.scenario place.core place.me) now node.part call) refl h (row_lacks more)
    where
      by : (o : Option Stepped) → label_step (label_place place.scenario place.core place.me) now node.part call ≡ o
          → (o >>? λ new. label_row place now new.part more >>? λ made. Some (record { old = node.part; call = call; new = new } ∷ made)) ≡ None
          → ((n : LabelNode) → n.spent ≡ None → label_row place now n.part more ≡ None → (all_at n more).spent ≡ Some LacksLabel)
          → (all_at (at node call) more).spent ≡ Some LacksLabel
      by None s k next =
          let lacking = at_lacking node call e s in
          ap (λ (n : LabelNode). n.spent) (stays more (at node call) LacksLabel lacking) ∙ lacking
      by (Some new) s k next =
          ap (λ (n : LabelNode). (all_at n more).spent) (at_after node call new e s)
          ∙ next (after node call new) (prepared_spent call node ∙ e)
          (then_none (label_row place now new.part more) (λ made. record { old = node.part; call = call; new = new } ∷ made) k)

  -- ---- octets that wait

  abbrev row_puts : List LabelStep → List Put
  row_puts row = flat_map (label_puts place.me (addr_of place.scenario place.me) (label_place place.scenario place.core place.me) now) row

  step_waits : (node : LabelNode) (call : Call) (new : Stepped) (waiting : FinMap peer_cmp (List ℕ))
      → AreLabelOctets waiting (prepared call node).waiting
      → AreLabelOctets (with_puts (label_puts place.me (addr_of place.scenario place.me) (label_place place.scenario place.core place.me) now
      (record { old = node.part; call = call; new = new })) waiting) (after node call new).waiting
  step_waits node call new waiting same =
      all_wait place.me (addr_of place.scenario place.me) (step_puts (label_place place.scenario place.core place.me) now node.part call new.puts)
      waiting (prepared call node).waiting same

  -- a row after its first call
  abbrev Waits : List Call → Type 0
  Waits more =
      (node : LabelNode) (row : List LabelStep) (waiting : FinMap peer_cmp (List ℕ)) → node.spent ≡ None
      → label_row place now node.part more ≡ Some row
      → AreLabelOctets waiting node.waiting → AreLabelOctets (with_puts (row_puts row) waiting) (all_at node more).waiting

  first_waits : (call : Call) (more : List Call) → Waits more → (node : LabelNode) (row : List LabelStep) (waiting : FinMap peer_cmp (List ℕ))
      → node.spent ≡ None → label_row place now node.part (call ∷ more) ≡ Some row
      → AreLabelOctets waiting (prepared call node).waiting → AreLabelOctets (with_puts (row_puts row) waiting) (all_at node (call ∷ more)).waiting
  first_waits call more next node row waiting e h same =
      let first =
      bind_some (label_step (label_place place.scenario place.core place.me) now node.part call)
      (λ (new : Stepped). label_row place now new.part more >>? λ made. Some (record { old = node.part; call = call; new = new } ∷ made)) row h in
      let rest =
      bind_some (label_row place now first.0.part more) (λ made. Some (record { old = node.part; call = call; new = first.0 } ∷ made)) row first.2
      in
      let step : LabelStep = record { old = node.part; call = call; new = first.0 } in
      let puts = label_puts place.me (addr_of place.scenario place.me) (label_place place.scenario place.core place.me) now step in
      subst (λ (made : List LabelStep). AreLabelOctets (with_puts (row_puts made) waiting) (all_at (at node call) more).waiting)
      (same_Some (step ∷ rest.0) row rest.2)
      (subst (λ (w : FinMap peer_cmp (List ℕ)). AreLabelOctets w (all_at (at node call) more).waiting)
      (sym (puts_again puts (row_puts rest.0) waiting))
      (subst (λ (n : LabelNode). AreLabelOctets (with_puts (row_puts rest.0) (with_puts puts waiting)) (all_at n more).waiting)
      (sym (at_after node call first.0 e first.1))
      (next (after node call first.0) rest.0 (with_puts puts waiting) (prepared_spent call node ∙ e) rest.1
      (step_waits node call first.0 waiting same))))

  row_waits : (calls : List Call) → list_any is_noticed calls ≡ false → Waits calls
  row_waits [] none node row waiting e h same =
      subst (λ (made : List LabelStep). AreLabelOctets (with_puts (row_puts made) waiting) node.waiting) (same_Some [] row h) same
  row_waits (call ∷ more) none node row waiting e h same =
      first_waits call more (row_waits more (rest_none (is_noticed call) (list_any is_noticed more) none)) node row waiting e h
      (subst (λ (w : FinMap peer_cmp (List ℕ)). AreLabelOctets w (prepared call node).waiting)
      (none_lost call waiting (first_none (is_noticed call) (list_any is_noticed more) none))
      (prepared_waits call node waiting same))

  own_waits : (own : Option Call) (calls : List Call) → list_any is_noticed calls ≡ false
      → (node : LabelNode) (row : List LabelStep) (waiting : FinMap peer_cmp (List ℕ)) → node.spent ≡ None
      → label_row place now node.part (one_call own ++ calls) ≡ Some row → AreLabelOctets waiting (prepared_by own node).waiting
      → AreLabelOctets (with_puts (row_puts row) waiting) (all_at node (one_call own ++ calls)).waiting
  own_waits None calls none node row waiting e h same = row_waits calls none node row waiting e h same
  own_waits (Some call) calls none node row waiting e h same = first_waits call calls (row_waits calls none) node row waiting e h same

  -- ---- raises

  -- what precedes a call counts a raise, and nothing else does
  at_raises : (node : LabelNode) (call : Call) → node.spent ≡ None → (at node call).raises ≡ (prepared call node).raises
  at_raises node call e =
      (λ i. (called_unless (e i) (addr_of place.scenario place.me) (label_place place.scenario place.core place.me) now node call).raises)
      ∙ by (label_step (label_place place.scenario place.core place.me) now node.part call)
    where
      by : (o : Option Stepped) → (thereafter (addr_of place.scenario place.me) (label_place place.scenario place.core place.me) now (prepared call node)
          call o).raises ≡ (prepared call node).raises
      by None = refl
      by (Some new) = refl

  kept_raises : (node : LabelNode) (call : Call) → (prepared call node).raises ≡ node.raises → (at node call).raises ≡ node.raises
  kept_raises node call same = by node.spent refl
    where
      by : (s : Option Spent) → node.spent ≡ s → (at node call).raises ≡ node.raises
      by None e = at_raises node call e ∙ same
      by (Some cause) e =
          λ i. (called_unless (e i) (addr_of place.scenario place.me) (label_place place.scenario place.core place.me) now node call).raises

  leaves_raises : (new : FinSet fec_cmp) (fecs : List Fec) (node : LabelNode)
      → (all_at node (map (λ fec. cond (sets.contains new fec) (Want fec) (Unwant fec)) fecs)).raises ≡ node.raises
  leaves_raises new [] node = refl
  leaves_raises new (fec ∷ more) node =
      let call : Call = cond (sets.contains new fec) (Want fec) (Unwant fec) in
      leaves_raises new more (at node call) ∙ kept_raises node call (leaf_raises (sets.contains new fec) fec node)

  own_raises : (own : Option Call) (old new : FinSet fec_cmp) (node : LabelNode) → node.spent ≡ None
      → (all_at node (one_call own ++ changed_leaves old new)).raises ≡ (prepared_by own node).raises
  own_raises None old new node e =
      leaves_raises new (filter (λ fec. not (sets.contains old fec && sets.contains new fec)) (in_order (sets.union old new))) node
  own_raises (Some call) old new node e =
      leaves_raises new (filter (λ fec. not (sets.contains old fec && sets.contains new fec)) (in_order (sets.union old new))) (at node call)
      ∙ at_raises node call e

  -- ---- the label node of the place

  same_called : (node : LabelNode) (call : Call) → called (node_place place.scenario place.me) place.core now node call ≡ at node call
  same_called node call =
      λ i. called_unless node.spent (sym (one_addr place.scenario place.me) i) (sym (one_place place.scenario place.core place.me) i) now node call

  pub same_row : (calls : List Call) (node : LabelNode)
      → all_called (node_place place.scenario place.me) place.core now node calls ≡ all_at node calls
  same_row [] node = refl
  same_row (call ∷ more) node =
      ap (λ (n : LabelNode). all_called (node_place place.scenario place.me) place.core now n more) (same_called node call)
      ∙ same_row more (at node call)

  pub part_thereafter : (node : LabelNode) (calls : List Call) (row : List LabelStep) → node.spent ≡ None → label_row place now node.part calls ≡ Some row
      → IsBehindRow node.part row (all_called (node_place place.scenario place.me) place.core now node calls)
  part_thereafter node calls row e h = subst (λ (n : LabelNode). IsBehindRow node.part row n) (sym (same_row calls node)) (row_parts calls node row e h)

  pub lacks_after : (node : LabelNode) (calls : List Call) → node.spent ≡ None → label_row place now node.part calls ≡ None
      → (all_called (node_place place.scenario place.me) place.core now node calls).spent ≡ Some LacksLabel
  lacks_after node calls e h = ap (λ (n : LabelNode). n.spent) (same_row calls node) ∙ row_lacks calls node e h

  pub raises_after : (node : LabelNode) (own : Option Call) (old new : FinSet fec_cmp) → node.spent ≡ None
      → (all_called (node_place place.scenario place.me) place.core now node (one_call own ++ changed_leaves old new)).raises
      ≡ (prepared_by own node).raises
  raises_after node own old new e =
      ap (λ (n : LabelNode). n.raises) (same_row (one_call own ++ changed_leaves old new) node) ∙ own_raises own old new node e

  pub octets_from : (node : LabelNode) (own : Option Call) (calls : List Call) (row : List LabelStep) (waiting : FinMap peer_cmp (List ℕ))
      → list_any is_noticed calls ≡ false → node.spent ≡ None
      → label_row place now node.part (one_call own ++ calls) ≡ Some row → AreLabelOctets waiting (prepared_by own node).waiting
      → AreLabelOctets (with_puts (row_puts row) waiting)
      (all_called (node_place place.scenario place.me) place.core now node (one_call own ++ calls)).waiting
  octets_from node own calls row waiting none e h same =
      subst (λ (n : LabelNode). AreLabelOctets (with_puts (row_puts row) waiting) n.waiting) (sym (same_row (one_call own ++ calls) node))
      (own_waits own calls none node row waiting e h same)

  pub octets_after : (node : LabelNode) (own : Option Call) (calls : List Call) (row : List LabelStep) (waiting : FinMap peer_cmp (List ℕ))
      → list_any is_noticed calls ≡ false → node.spent ≡ None
      → label_row place now node.part (one_call own ++ calls) ≡ Some row → AreLabelOctets waiting node.waiting
      → AreLabelOctets (with_puts (row_puts row) (without_lost own waiting))
      (all_called (node_place place.scenario place.me) place.core now node (one_call own ++ calls)).waiting
  octets_after node own calls row waiting none e h same =
      octets_from node own calls row (without_lost own waiting) none e h (own_prepared own node waiting same)
