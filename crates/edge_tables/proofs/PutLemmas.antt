-- What is put, change by change and table by table.
use Rattle.std.proofs.Common.{◌≡◌, ℕ, Bool, true, false, List, [], ◌∷◌, ◌++◌, length, take, inr, refl, sym, ap, subst, ◌∙◌, arith, append_assoc, append-nil}
use Rattle.std.specs.Prelude.{if◌then◌else◌}
use Rattle.std.proofs.lemmas.List.{take_all, take_at}
use Rattle.std.proofs.lemmas.List.Concat.{flat_map-append}
use Rattle.bgp_messages.specs.declared.bgp_attributes.key.Key.{Key}
use Rattle.bgp_messages.specs.bgp_update.Written.{written}
use Rattle.mv_base.specs.declared.table_defs.change.Change.{Change}
use Rattle.edge_tables.specs.rib_sync.Ribs.{RibOut, flushed}
use Rattle.edge_tables.specs.rib_sync.Ribs as ribs
use Rattle.edge_defs.specs.Keys.{Value, key_cmp, same_value}
use Rattle.edge_defs.specs.Messages.{as_update}
use Rattle.edge_tables.specs.Tables.{IsFront, IsPutPart, PeerTable, pending, put_after, texts}
use Rattle.edge_tables.specs.Slots.{of_rib}

-- ---- change by change

-- some first ones of the changes are put, and those that are left are not
pub record IsOnWay (list : List (Change Key Value)) (old out : List ℕ) (left : List (Change Key Value)) : Type 0 where
  pub done : List (Change Key Value)
  pub all : list ≡ done ++ left
  pub octets : out ≡ old ++ texts done

pub none_put : (list : List (Change Key Value)) (old : List ℕ) → IsOnWay list old old list
none_put list old = record { done = []; all = refl; octets = sym (append-nil old) }

pub one_put : (list : List (Change Key Value)) (old out new : List ℕ) (before left : List (Change Key Value)) (change : Change Key Value)
    → IsOnWay list old out before
    → before ≡ change ∷ left → new ≡ out ++ written (as_update change) → IsOnWay list old new left
one_put list old out new before left change way first is = record {
  done = way.done ++ change ∷ [];
  all = way.all ∙ ap (λ (l : List (Change Key Value)). way.done ++ l) first ∙ sym (append_assoc way.done (change ∷ []) left);
  octets =
      is ∙ ap (λ (t : List ℕ). t ++ written (as_update change)) way.octets ∙ append_assoc old (texts way.done) (written (as_update change))
      ∙ ap (λ (t : List ℕ). old ++ (texts way.done ++ t)) (sym (append-nil (written (as_update change))))
      ∙ ap (λ (t : List ℕ). old ++ t) (sym (flat_map-append (λ (c : Change Key Value). written (as_update c)) way.done (change ∷ [])));
}

pub front_put : (list : List (Change Key Value)) (old out new : List ℕ) (left : List (Change Key Value)) → IsOnWay list old out left → new ≡ out
    → IsFront list old new
front_put list old out new left way is = (
  length way.done,
  is ∙ way.octets ∙ ap (λ (l : List (Change Key Value)). old ++ texts l)
      (sym (ap (take (length way.done)) way.all ∙ take_at way.done left (length way.done) refl)),
)

pub all_put : (list : List (Change Key Value)) (old out : List ℕ) (left : List (Change Key Value)) → IsOnWay list old out left → left ≡ []
    → out ≡ old ++ texts list
all_put list old out left way none =
    way.octets ∙ ap (λ (l : List (Change Key Value)). old ++ texts l)
    (sym (way.all ∙ ap (λ (l : List (Change Key Value)). way.done ++ l) none ∙ append-nil way.done))

-- ---- table by table

sent_after : (rib : RibOut key_cmp Value) (b : Bool) (out : List ℕ) → rib.up ≡ b
    → let new : PeerTable = record { up = rib.up; set = rib.set; told = if b then rib.set else rib.sent; waiting = out } in
    of_rib (if b then record rib { sent = rib.set } else rib) out ≡ new
sent_after rib true out e = refl
sent_after rib false out e = refl

pub put_part : (rib after : RibOut key_cmp Value) (waiting out : List ℕ) (list : List (Change Key Value)) → list ≡ ribs.pending same_value rib
    → after ≡ flushed rib
    → IsFront list waiting out → IsPutPart (of_rib rib waiting) (of_rib after out)
put_part rib after waiting out list is sent front =
    inr (
      out,
      subst (λ (l : List (Change Key Value)). IsFront l waiting out) is front,
      ap (λ (r : RibOut key_cmp Value). of_rib r out) sent
          ∙ sent_after rib rib.up out refl,
    )

pub part_of_all : (old new : PeerTable) → new ≡ put_after old → IsPutPart old new
part_of_all old new is =
    let list : List (Change Key Value) = pending old in
    let every : take (length list) list ≡ list = take_all (length list) list (omega arith) in
    inr ((put_after old).waiting, (length list, ap (λ (l : List (Change Key Value)). old.waiting ++ texts l) (sym every)), is)
