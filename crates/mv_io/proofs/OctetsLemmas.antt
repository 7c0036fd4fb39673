-- Laws of what a sink was given.
use Rattle.std.proofs.Common.{ℕ, ◌+◌, ◌-◌, List, [], ◌++◌, take, drop, length, refl, sym, ap, subst, ◌∙◌, append_assoc}
use Rattle.std.proofs.lemmas.List.{append-nil, take-append-drop, take_rest}
use Rattle.std.proofs.Math.Seq.{take-add}
use Rattle.std.specs.Prelude.{Option, None, Some}
use Rattle.mv_io.specs.Octets.{Appended, AppendedPart, IsPrefix}

-- Two pieces one after another are one piece.
pub appended-append : (old mid new : Option (List ℕ)) (a b : List ℕ) → Appended old mid a → Appended mid new b → Appended old new (a ++ b)
appended-append old mid None a b h k = tt
appended-append old None (Some z) a b h k = absurd k
appended-append None (Some y) (Some z) a b h k = absurd h
appended-append (Some x) (Some y) (Some z) a b h k = k ∙ (ap (λ l. l ++ b) h ∙ append_assoc x a b)

-- Nothing was put.
pub appended-nil : (old : Option (List ℕ)) → Appended old old []
appended-nil None = tt
appended-nil (Some x) = sym (append-nil x)

-- A turn of the loop: the first n octets, and then m of the rest.
pub appended-take : (old mid new : Option (List ℕ)) (piece : List ℕ) (n m : ℕ) → Appended old mid (take n piece)
    → Appended mid new (take m (take (length piece - n) (drop n piece))) → Appended old new (take (n + m) piece)
appended-take old mid new piece n m h k =
    rw take-add (appended-append old mid new (take n piece) (take m (drop n piece)) h (rw take_rest at k))

-- What is left out after a front makes it a prefix.
pub take-prefix : (n : ℕ) (piece : List ℕ) → IsPrefix (take n piece) piece
take-prefix n piece = (drop n piece, sym (take-append-drop n piece))

-- A turn that failed leaves the first n octets.
pub appended_part : (old mid new : Option (List ℕ)) (piece : List ℕ) (n : ℕ) → Appended old mid (take n piece) → Appended mid new []
    → AppendedPart old new piece
appended_part old mid new piece n h k = (
  take n piece,
  take-prefix n piece,
  subst (λ (l : List ℕ). Appended old new l) (append-nil (take n piece))
      (appended-append old mid new (take n piece) [] h k),
)

-- The whole is a prefix of itself.
pub prefix-whole : (a : List ℕ) → IsPrefix a a
prefix-whole a = ([], sym (append-nil a))

-- Nothing is a prefix of all.
pub prefix-nil : (a : List ℕ) → IsPrefix [] a
prefix-nil a = (a, refl)

-- A prefix of a front is a prefix of the whole.
pub prefix_of_front : (front a b : List ℕ) → IsPrefix front a → IsPrefix front (a ++ b)
prefix_of_front front a b h = (h.0 ++ b, ap (λ (l : List ℕ). l ++ b) h.1 ∙ append_assoc front h.0 b)

-- A front, and a prefix of what follows it, is a prefix of both.
pub prefix_after : (a front b : List ℕ) → IsPrefix front b → IsPrefix (a ++ front) (a ++ b)
prefix_after a front b h = (h.0, ap (λ (l : List ℕ). a ++ l) h.1 ∙ sym (append_assoc a front h.0))

-- A piece, and then a part of another, is a part of both.
pub part_after : (old mid new : Option (List ℕ)) (a b : List ℕ) → Appended old mid a → AppendedPart mid new b → AppendedPart old new (a ++ b)
part_after old mid new a b h k = (a ++ k.0, prefix_after a k.0 b k.1, appended-append old mid new a k.0 h k.2)

-- The whole is a part.
pub part_whole : (old new : Option (List ℕ)) (a : List ℕ) → Appended old new a → AppendedPart old new a
part_whole old new a h = (a, prefix-whole a, h)

-- A part of a front is a part of the whole.
pub part_of_front : (old new : Option (List ℕ)) (a b : List ℕ) → AppendedPart old new a → AppendedPart old new (a ++ b)
part_of_front old new a b h = (h.0, prefix_of_front h.0 a b h.1, h.2)
