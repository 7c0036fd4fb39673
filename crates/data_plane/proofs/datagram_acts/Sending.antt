-- A datagram that is being sent, from where it is accepted to where its copies are on links.
use Rattle.std.proofs.Common.{◌≡◌, ◌≢◌, ◌∙◌, refl, sym, ap, subst, arith, ℕ, zero, suc, ◌+◌, ◌<◌, ◌==◌, Bool, true, false, cond, List, [], ◌∷◌, ◌++◌, filter, length, map, Option, None, Some}
use Rattle.std.specs.List.{AllByRecursion}
use Rattle.std.proofs.lemmas.List.{append-nil, append_assoc, length-append, map-append}
use Rattle.std.proofs.lemmas.List.Elements.{filter-append}
use Rattle.buf_pool.specs.Held.{Buffers, held}
use Rattle.mv_base.specs.declared.ids.NodeId.{NodeId}
use Rattle.label_defs.specs.declared.branch.Branch.{Branch as TreeBranch}
use Rattle.network_defs.specs.session_defs.Octets.{OctetNetwork}
use Rattle.network_defs.specs.Acts.{with_branches}
use Rattle.network_defs.specs.Nodes.{Nodes}
use Rattle.network_defs.specs.World.{Datagram, LinkCopy, World, clock_of, numbered}
use Rattle.network_defs.proofs.Kept.{branches_datagrams, branches_keep}
use Rattle.data_plane.specs.declared.link_copies.hop.Hop.{Hop}
use Rattle.data_plane.specs.link_copies.CopiesData.{CopiesData, Current, IsSent, KeptCopy, LacksNumber, copies_at, copy_on, hop_of, is_at, kept_at, leads_over, octets_in, put_on, sent}
use Rattle.data_plane.proofs.link_copies.Networks.{branches_put, put-cons}
use Rattle.data_plane.proofs.link_copies.Pools.{put_has, put_keeps}
use Rattle.data_plane.specs.datagram_acts.DatagramsView.{DatagramsView}
use Rattle.data_plane.specs.datagram_acts.Stored.{HasBuffer, IsIdle, IsSending, hop_at, waiting, with_datagram}
use Rattle.data_plane.proofs.datagram_acts.Along.{all_append, all_map, all_weaker}
use Rattle.data_plane.proofs.datagram_acts.Numbers.{numbered_next, numbered_within}
use Rattle.data_plane.proofs.datagram_acts.Stores.{alive, still}

abbrev copy_of : KeptCopy → LinkCopy
copy_of k = k.copy

abbrev seen : CopiesData → ℕ → List Hop → DatagramsView
seen copies count hops = record { copies = copies; count = count; hops = hops }

-- ---- the copies that are to be put

module _ (now number : ℕ) where
  abbrev waits : Hop → LinkCopy
  waits hop = record { label = hop.branch.label; ttl = 255; put_at = now; number = number }

  pub waiting_more : (hops more : List Hop) (u n : NodeId)
      → waiting now number (hops ++ more) u n ≡ waiting now number hops u n ++ waiting now number more u n
  waiting_more hops more u n =
      ap (map waits) (filter-append (leads_over u n) hops more) ∙ map-append waits (filter (leads_over u n) hops) (filter (leads_over u n) more)

  copies_wait : (buffer : ℕ) (hops : List Hop) → map copy_of
      (map (λ hop. copy_on 255 now (record { number = number; buffer = buffer }) hop.branch) hops) ≡ map waits hops
  copies_wait buffer [] = refl
  copies_wait buffer (hop ∷ hops) = ap (λ (more : List LinkCopy). waits hop ∷ more) (copies_wait buffer hops)

  -- once they are put, whatever their buffer
  pub put_waits : (buffer : ℕ) (hops : List Hop) (u n : NodeId)
      → map copy_of (put_on 255 now (record { number = number; buffer = buffer }) hops u n) ≡ waiting now number hops u n
  put_waits buffer hops u n = copies_wait buffer (filter (leads_over u n) hops)

  waiting_one : (b : Bool) (hop : Hop) (hops : List Hop) → map waits (cond b (hop ∷ hops) hops) ≡ cond b (waits hop ∷ map waits hops) (map waits hops)
  waiting_one true hop hops = refl
  waiting_one false hop hops = refl

  -- they are what the network puts on the branches
  pub sent_waits : (node : NodeId) (branches : List TreeBranch) (u n : NodeId)
      → map copy_of (sent (Some (record { number = number; buffer = 0 })) node 255 now (map hop_of branches) u n)
      ≡ waiting now number (map (hop_at node) branches) u n
  sent_waits node [] u n = nothing (u.0 == node.0)
    where
      nothing : (b : Bool) → map copy_of (cond b [] []) ≡ []
      nothing true = refl
      nothing false = refl
  sent_waits node (branch ∷ more) u n =
      put-cons (record { number = number; buffer = 0 }) node 255 now branch more u n
      ∙ ap (λ (rest : List LinkCopy). cond (is_at node branch.node u n) (waits (hop_at node branch) ∷ rest) rest) (sent_waits node more u n)
      ∙ sym (waiting_one (is_at node branch.node u n) (hop_at node branch) (filter (leads_over u n) (map (hop_at node) more)))

-- ---- it is accepted

pub accepted_sending : (world : World) (copies : CopiesData) (count : ℕ) (hops : List Hop) (datagram : Datagram)
    → IsIdle world (seen copies count hops) → IsSending (with_datagram datagram world) (count + 1) datagram (seen copies (count + 1) [])
accepted_sending world copies count hops datagram idle = record {
  copies = λ u n. sym (idle.stores.copies u n) ∙ sym (append-nil (copies_at copies u n));
  buffers = λ u n.
      all_weaker (HasBuffer world.datagrams copies.buffers) (HasBuffer (world.datagrams ++ datagram ∷ []) copies.buffers) (kept_at copies u n)
      (still world.datagrams (datagram ∷ []) copies.buffers copies.buffers (λ name octets is. is)) (idle.stores.buffers u n);
  none = idle.none;
  new = λ u n. all_weaker (HasBuffer world.datagrams copies.buffers) _ (kept_at copies u n) older (idle.stores.buffers u n);
  number_is = refl;
  of_it = numbered_next world.datagrams datagram count idle.count;
  count = omega (arith, idle.count, length-append world.datagrams (datagram ∷ []));
}
  where
    older : (k : KeptCopy) → HasBuffer world.datagrams copies.buffers k → k.copy.number ≢ count + 1
    older k has same = absurd (omega (arith, same, idle.count, (numbered_within world.datagrams k.copy.number has.datagram has.is).1))

-- ---- it enters at a node

pub entered_sending : (world : World) (copies : CopiesData) (count number : ℕ) (hops new_hops : List Hop) (datagram : Datagram) (node : NodeId)
    (branches : List TreeBranch)
    → new_hops ≡ hops ++ map (hop_at node) branches → IsSending world number datagram (seen copies count hops)
    → IsSending (with_branches node 255 number branches world) number datagram (seen copies count new_hops)
entered_sending world copies count number hops new_hops datagram node branches are own =
    let thereafter = with_branches node 255 number branches world in
    let datagrams : thereafter.datagrams ≡ world.datagrams = branches_datagrams node 255 number branches world in
    let clock : clock_of thereafter ≡ clock_of world = ap (λ (n : OctetNetwork Nodes). n.state.clock) (branches_keep node 255 number branches world) in
    record {
      copies = λ u n.
          branches_put (record { number = number; buffer = 0 }) node 255 (clock_of world) branches world refl u n
          ∙ (λ i. own.copies u n i ++ sent_waits (clock_of world) number node branches u n i)
          ∙ append_assoc (copies_at copies u n) (waiting (clock_of world) number hops u n)
          (waiting (clock_of world) number (map (hop_at node) branches) u n)
          ∙ ap (λ (more : List LinkCopy). copies_at copies u n ++ more)
          (sym (waiting_more (clock_of world) number hops (map (hop_at node) branches) u n))
          ∙ (λ i. copies_at copies u n ++ waiting (sym clock i) number (sym are i) u n);
      buffers =
          λ u n. subst (λ (ds : List Datagram). AllByRecursion (HasBuffer ds copies.buffers) (kept_at copies u n)) (sym datagrams) (own.buffers u n);
      none = own.none;
      new = own.new;
      number_is = own.number_is;
      of_it = ap (λ (ds : List Datagram). numbered ds number) datagrams ∙ own.of_it;
      count = own.count ∙ sym (ap (λ (ds : List Datagram). length ds) datagrams);
    }

-- ---- its copies are put on links

module _ (world : World) (old new : CopiesData) (count number : ℕ) (hops : List Hop) (datagram : Datagram)
    (own : IsSending world number datagram (seen old count hops)) (none : new.current ≡ None) where
  pub nowhere : length hops ≡ 0 → new ≡ old → IsIdle world (seen new count hops)
  nowhere empty same = subst (λ (d : CopiesData). IsIdle world (seen d count hops)) (sym same) (record {
    stores = record {
      copies =
          λ u n. sym (own.copies u n ∙ ap (λ (more : List LinkCopy). copies_at old u n ++ more) (nothing hops empty u n)
          ∙ append-nil (copies_at old u n));
      buffers = own.buffers;
    };
    none = own.none;
    count = own.count;
  })
    where
      nothing : (some : List Hop) → length some ≡ 0 → (u n : NodeId) → waiting (clock_of world) number some u n ≡ []
      nothing [] e u n = refl
      nothing (hop ∷ more) e u n = absurd (omega (arith, e))

  pub somewhere : (octets : List ℕ) → octets ≡ datagram.octets → IsSent number octets 255 (clock_of world) hops old new
      → IsIdle world (seen new count hops)
  somewhere octets text is = record {
    stores = record {
      copies = λ u n.
          ap (map copy_of) (is.copies u n)
          ∙ map-append copy_of (kept_at old u n) (put_on 255 (clock_of world) current hops u n)
          ∙ ap (λ (more : List LinkCopy). copies_at old u n ++ more) (put_waits (clock_of world) number is.buffer hops u n)
          ∙ sym (own.copies u n);
      buffers = λ u n. subst (AllByRecursion (HasBuffer world.datagrams new.buffers)) (sym (is.copies u n))
          (all_append (HasBuffer world.datagrams new.buffers) (kept_at old u n) (put_on 255 (clock_of world) current hops u n)
          (all_weaker (HasBuffer world.datagrams old.buffers) (HasBuffer world.datagrams new.buffers) (kept_at old u n)
          (alive world.datagrams old.buffers new.buffers keeps) (own.buffers u n))
          (all_map (HasBuffer world.datagrams new.buffers) (λ hop. copy_on 255 (clock_of world) current hop.branch) (filter (leads_over u n) hops)
          of_it));
    };
    none = none;
    count = own.count;
  }
    where
      current : Current
      current = record { number = number; buffer = is.buffer }

      keeps : (name : ℕ) (before : List ℕ) → octets_in old.buffers name ≡ Some before → octets_in new.buffers name ≡ Some before
      keeps name before e =
          ap (λ (b : Buffers). octets_in b name) is.buffers ∙ put_keeps old.buffers is.buffer octets (length hops) is.fresh name before e

      of_it : (hop : Hop) → HasBuffer world.datagrams new.buffers (copy_on 255 (clock_of world) current hop.branch)
      of_it hop = record {
        datagram = datagram;
        is = own.of_it;
        octets = ap (λ (b : Buffers). octets_in b is.buffer) is.buffers ∙ put_has old.buffers is.buffer octets (length hops) is.fresh
            ∙ ap (λ x. Some x) text;
      }
