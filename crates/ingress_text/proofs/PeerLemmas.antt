-- A peer that is taken out of a map and put back.
use Rattle.std.proofs.Common.{◌≡◌, ◌∙◌, ap, subst, refl, ℕ, Bool, true, false, cond, List, Option, None, Some, nat_cmp, unwrap_or}
use Rattle.std.specs.BTreeMap as tree
use Rattle.std.specs.BTreeMap.{BTreeMap, is_at}
use Rattle.ingress_rep.specs.declared.request.Request.{Request}
use Rattle.ingress_text.specs.declared.peers.Peer.{Peer}
use Rattle.ingress_text.specs.Telling.{fresh, taken, Changes}

put_again : {A : Type 0} (b : Bool) (now old : Option A) → cond b now (cond b None old) ≡ cond b now old
put_again true now old = refl
put_again false now old = refl

-- the map has the peer after the octets that were taken, and the others as before
pub put_back : (request : Request) (addr octets : List ℕ) (key own other : ℕ) (old mid new : BTreeMap ℕ Peer) (found : Option Peer)
    (made was now : Peer) →
    own ≡ key → other ≡ key → found ≡ tree.get nat_cmp old own →
    ((q : ℕ) → tree.get nat_cmp mid q ≡ cond (is_at (nat_cmp own) q) None (tree.get nat_cmp old q)) →
    made ≡ fresh → was ≡ unwrap_or found made → now ≡ taken request addr was octets →
    ((q : ℕ) → tree.get nat_cmp new q ≡ cond (is_at (nat_cmp other) q) (Some now) (tree.get nat_cmp mid q)) →
    Changes key (taken request addr (unwrap_or (tree.get nat_cmp old key) fresh) octets) old new
put_back request addr octets key own other old mid new found made was now own_is other_is found_is out made_is was_is now_is back =
    let out_at : (q : ℕ) → tree.get nat_cmp mid q ≡ cond (is_at (nat_cmp key) q) None (tree.get nat_cmp old q) =
    subst (λ (n : ℕ). (q : ℕ) → tree.get nat_cmp mid q ≡ cond (is_at (nat_cmp n) q) None (tree.get nat_cmp old q)) own_is out in
    let back_at : (q : ℕ) → tree.get nat_cmp new q ≡ cond (is_at (nat_cmp key) q) (Some now) (tree.get nat_cmp mid q) =
    subst (λ (n : ℕ). (q : ℕ) → tree.get nat_cmp new q ≡ cond (is_at (nat_cmp n) q) (Some now) (tree.get nat_cmp mid q)) other_is back in
    let own_found : found ≡ tree.get nat_cmp old key = found_is ∙ ap (λ (n : ℕ). tree.get nat_cmp old n) own_is in
    let is : now ≡ taken request addr (unwrap_or (tree.get nat_cmp old key) fresh) octets =
    now_is ∙ ap (λ (p : Peer). taken request addr p octets) (was_is ∙ (λ i. unwrap_or (own_found i) (made_is i))) in
    λ q. back_at q ∙ (ap (λ (o : Option Peer). cond (is_at (nat_cmp key) q) (Some now) o) (out_at q)
    ∙ (put_again (is_at (nat_cmp key) q) (Some now) (tree.get nat_cmp old q)
    ∙ ap (λ (p : Peer). cond (is_at (nat_cmp key) q) (Some p) (tree.get nat_cmp old q)) is))
