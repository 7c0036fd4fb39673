-- Tests on the way to what stands at the front.
use Rattle.std.proofs.Common.{◌≡◌, ℕ, Bool, true, false, cond, List, refl}
use Rattle.mv_base.specs.framing.Cut.{Front}
use Rattle.mv_base.specs.framing.Cut.Front.{more, whole, bad}

-- Where a whole unit stands, no fault was met.
pub not_bad : {M E : Type 0} (b : Bool) (before : List M) (offset : ℕ) (e : E) (r : Front M E) (n : ℕ) (ms : List M)
    → cond b (bad before offset e) r ≡ whole n ms → (b ≡ false) × (r ≡ whole n ms)
not_bad true before offset e r n ms h = absurd cc
not_bad false before offset e r n ms h = (refl, h)

-- Where a whole unit stands, enough came.
pub not_more : {M E : Type 0} (b : Bool) (r : Front M E) (n : ℕ) (ms : List M) → cond b more r ≡ whole n ms → (b ≡ false) × (r ≡ whole n ms)
not_more true r n ms h = absurd cc
not_more false r n ms h = (refl, h)

-- Where a fault stands, enough came to tell it.
pub not_waiting : {M E : Type 0} (b : Bool) (r : Front M E) (before : List M) (offset : ℕ) (e : E) → cond b more r ≡ bad before offset e
    → (b ≡ false) × (r ≡ bad before offset e)
not_waiting true r before offset e h = absurd cc
not_waiting false r before offset e h = (refl, h)

-- Where more has to come, no fault was met.
pub not_bad_yet : {M E : Type 0} (b : Bool) (before : List M) (offset : ℕ) (e : E) (r : Front M E) → cond b (bad before offset e) r ≡ more
    → (b ≡ false) × (r ≡ more)
not_bad_yet true before offset e r h = absurd cc
not_bad_yet false before offset e r h = (refl, h)

pub bad_is : {M E : Type 0} (before others : List M) (m n : ℕ) (e f : E) → ◌≡◌ {A = Front M E} (bad before m e) (bad others n f)
    → (m ≡ n) × (e ≡ f) × (before ≡ others)
bad_is before others m n e f h = (cc, cc, cc)

pub whole_is : {M E : Type 0} (m n : ℕ) (ms ns : List M) → ◌≡◌ {A = Front M E} (whole m ms) (whole n ns) → (m ≡ n) × (ms ≡ ns)
whole_is m n ms ns h = (cc, cc)

-- A test that fails is passed by.
pub skip : {A : Type 0} (b : Bool) (x y : A) → b ≡ false → cond b x y ≡ y
skip true x y e = absurd cc
skip false x y e = refl

-- A test that holds decides.
pub take_branch : {A : Type 0} (b : Bool) (x y : A) → b ≡ true → cond b x y ≡ x
take_branch true x y e = refl
take_branch false x y e = absurd cc

-- The same tests give the same, where what stands after them does.
pub same_tests : {A : Type 0} (b : Bool) (x y y' z : A) → cond b x y ≡ z → (y ≡ z → y' ≡ z) → cond b x y' ≡ z
same_tests true x y y' z e f = e
same_tests false x y y' z e f = f e
