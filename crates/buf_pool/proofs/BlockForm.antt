-- A block at its type parameters, under short names.
--     BlockOf, args     the value's row with its laws and the allocator's, and what a call passes for them
--     R, B              the value and the block as rows
--     block_ty, word    the block's MIR type, and its machine value at the handle's
--     P, handle         the allocator as a row, and what a handle owns at its machine value
use mathlib.Core.List.{List, [], ◌∷◌}
use Prim.Native.Nat.{ℕ}
use lib.Dec.{T}
use seplogic.Ra.Ura.{Ura}
use mir.Syntax.{Ty, Args, a_type, ty_ptr, ty_struct, tnil, tcons, dnil, dcons}
use mir.Val.{Val, vptr, vstruct, vnil, vcons, has_ty, WT}
use base.Fml.{Fml}
use types.Logic.{Logic}
use denote.RattleType.{RattleType, RowLaws}
use denote.Laws.{Lawful}
use denote.Param.{layout, bounded, param}
use denote.Param.Laws.{Laws, param_laws}
use denote.Struct.Owning.{Owning, shape}
use Rattle.buf_pool.specs.declared.block.Block.{Block}
use Rattle.buf_pool.specs.contracts.block.Block as B-type
use Rattle.core.proofs.alloc.Calls.{Al, α, Fits}
use Rattle.std_alloc.proofs.ResultValues.{and_tt}
use denote.SharingLaws.{beside_shr_laws}
use denote.RawPtr.{ptr_row_laws}
use denote.Struct.Struct.{Struct, Struct-row_laws}
use denote.Struct.Lending.{lent_at, lent_at_shr_laws}

pub record BlockOf : Type 2 where
  pub row : RattleType
  pub laws : Laws row
  pub al : Al

module _ (E : BlockOf) where
  abbrev pub args : Args
  args = bounded (a_type ∷ a_type ∷ []) (E.row, (E.al.row, tt)) (dcons E.al.d (dcons E.al.drops dnil))

  abbrev pub X : Type 0
  X = E.row.Denot

  abbrev pub D : Type 0
  D = Block X E.al.row.Denot

  abbrev pub τ : Ty
  τ = layout E.row

  abbrev pub own : X → List Val → Fml
  own = E.row.own_val

  abbrev pub R : RattleType
  R = param 0 E.row

  abbrev pub lawful : {M : Type 1} {𝓤 : Ura M} (𝓛 : Logic 𝓤) → Lawful 𝓛 R
  lawful 𝓛 = (param_laws 0 E.row E.laws).lawful 𝓛

  abbrev pub Good : Val → Type 0
  Good v = T (has_ty τ v) × WT v

  abbrev pub P : RattleType
  P = param 1 E.al.row

  abbrev pub handle : E.al.row.Denot → Val → Fml
  handle a hv = P.own_val a (hv ∷ [])

  abbrev pub owning : Owning
  owning = B-type.the_type R P E.al.g

  abbrev pub B : RattleType
  B = B-type.the_row R P E.al.g

  pub block_row_laws : RowLaws B
  block_row_laws d b o = beside_shr_laws ((Struct (shape owning)).shr_at (d.ptr, (d.alloc, tt)) b o) (lent_at R d.ptr d.value)
      (Struct-row_laws (shape owning) (ptr_row_laws, (E.al.laws.shr_laws, tt)) (d.ptr, (d.alloc, tt)) b o)
      (lent_at_shr_laws R E.laws.shr_laws d.ptr d.value)

  abbrev pub block_ty : Ty
  block_ty = ty_struct owning.name (tcons ty_ptr (tcons (α E.al) tnil))

  abbrev pub word : Val → ℕ → ℕ → Val
  word hv b o = vstruct (vcons (vptr b o) (vcons hv vnil))

  pub block_typed : (hv : Val) (b o : ℕ) → Fits E.al hv → T (has_ty block_ty (word hv b o)) × WT (word hv b o)
  block_typed hv b o fa = (and_tt (has_ty (α E.al) hv) fa.0, (tt, (fa.1, tt)))
