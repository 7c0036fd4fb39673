-- A `&` to the fields of a block shows its pointer. Assumes `Logic`.
use mathlib.Core.List.{[], ◌∷◌}
use Prim.Native.Nat.{ℕ, ◌+◌}
use seplogic.Ra.Ura.{Ura}
use base.Logic.{ent, sep}
use base.Fml.{Lft, Fml}
use types.Logic.{Logic, sem}
use types.Kit.{‵, ◌$◌, ◌∵◌, !, qed, keep, fsplit, done}
use denote.RattleType.{RattleType, RowLaws}
use denote.Memory.{hidden_shr}
use denote.Opens.{shr_dup, unhide, hide}
use denote.RawPtr.{RawPtr, ptr_row_laws}
use denote.Struct.Struct.{Struct, Struct-row_laws}
use denote.Struct.Owning.{shape}
use Rattle.buf_pool.proofs.BlockForm.{BlockOf, D, owning}

module _ (E : BlockOf) {M : Type 1} {𝓤 : Ura M} (𝓛 : Logic 𝓤) (κ : Lft) (b o : ℕ) (d : D E) where
  abbrev Words : RattleType
  Words = Struct (shape (owning E))

  abbrev fields : Words.Denot
  fields = (d.ptr, (d.alloc, tt))

  abbrev S : Fml
  S = hidden_shr Words κ fields b o

  laws : RowLaws Words
  laws = Struct-row_laws (shape (owning E)) (ptr_row_laws, (E.al.laws.shr_laws, tt))

  pub shows_ptr : ent 𝓤 (sem 𝓛 S) (sep 𝓤 (sem 𝓛 (hidden_shr RawPtr κ d.ptr b (o + 0))) (sem 𝓛 S))
  shows_ptr = qed 𝓛 (‵ S ∷ []) ∵ shr_dup ! Words laws fields b o κ $ unhide ! $ fsplit ! $ fsplit ! $ hide ! $ keep ! (0 ∷ 3 ∷ []) $ done !
