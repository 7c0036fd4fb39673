-- What `==` tells of FECs: that they are one.
use Rattle.std.proofs.Common.{◌≡◌, ◌&&◌, Bool, true, false, refl, sym}
use Rattle.std.specs.Cmp.Lexicographic.{same_text, nat_list_eq_equiv}
use Rattle.mv_base.specs.Address.{same_addr_equal, same_addr_equiv}
use Rattle.mldp.specs.declared.mldp_fec.fec.FecKind.{FecKind}
use Rattle.mldp.specs.declared.mldp_fec.fec.FecKind.TheVariants.{P2mp, Up, Down}
use Rattle.mldp.specs.contracts.mldp_fec.fec.FecKindPartialEq.TheImpl as kinds_equal
use Rattle.mldp.specs.contracts.mldp_fec.fec.FecPartialEq.TheImpl as fecs_equal
use Rattle.mldp.specs.declared.mldp_fec.fec.Fec.{Fec}

and_first : (a b : Bool) → (a && b) ≡ true → a ≡ true
and_first true b h = refl
and_first false b h = absurd cc

and_second : (a b : Bool) → (a && b) ≡ true → b ≡ true
and_second true b h = h
and_second false b h = absurd cc

kind_equal : (a b : FecKind) → kinds_equal.ghosts.eq a b ≡ true → a ≡ b
kind_equal P2mp P2mp e = refl
kind_equal Up Up e = refl
kind_equal Down Down e = refl
kind_equal P2mp Up e = absurd cc
kind_equal P2mp Down e = absurd cc
kind_equal Up P2mp e = absurd cc
kind_equal Up Down e = absurd cc
kind_equal Down P2mp e = absurd cc
kind_equal Down Up e = absurd cc

kind_itself : (a : FecKind) → kinds_equal.ghosts.eq a a ≡ true
kind_itself P2mp = refl
kind_itself Up = refl
kind_itself Down = refl

pub fec_equal : (a b : Fec) → fecs_equal.ghosts.eq a b ≡ true → a ≡ b
fec_equal a b h =
    let kind = kind_equal a.kind b.kind (and_first _ _ h) in
    let root = same_addr_equal a.root b.root (and_first _ _ (and_second _ _ h)) in
    let opaque = same_text a.opaque b.opaque (sym (and_second _ _ (and_second _ _ h))) in
    λ i. record { kind = kind i; root = root i; opaque = opaque i }

pub fec_itself : (a : Fec) → fecs_equal.ghosts.eq a a ≡ true
fec_itself a = rw (kind_itself a.kind, same_addr_equiv.refl a.root) (nat_list_eq_equiv.refl a.opaque)
