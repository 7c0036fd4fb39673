-- A row of tests in a table is the first answer of some smaller rows.
use Rattle.std.proofs.Common.{◌≡◌, refl, Bool, true, false, Option, Some, None, option_map}
use Rattle.std.specs.Prelude.{if◌then◌else◌}
use Rattle.std.specs.Option.{option_or}

pub two : {A B : Type 0} (f : A → B) (b c : Bool) (x y : A) (rest : Option B)
    → (if b then Some (f x) else if c then Some (f y) else rest) ≡ option_or (option_map f (if b then Some x else if c then Some y else None)) rest
two f true c x y rest = refl
two f false true x y rest = refl
two f false false x y rest = refl

pub three : {A B : Type 0} (f : A → B) (b c d : Bool) (x y z : A) (rest : Option B)
    → (if b then Some (f x) else if c then Some (f y) else if d then Some (f z) else rest)
    ≡ option_or (option_map f (if b then Some x else if c then Some y else if d then Some z else None)) rest
three f true c d x y z rest = refl
three f false true d x y z rest = refl
three f false false true x y z rest = refl
three f false false false x y z rest = refl

pub last_four : {A B : Type 0} (f : A → B) (b c d e : Bool) (x y z w : A)
    → (if b then Some (f x) else if c then Some (f y) else if d then Some (f z) else if e then Some (f w) else None)
    ≡ option_map f (if b then Some x else if c then Some y else if d then Some z else if e then Some w else None)
last_four f true c d e x y z w = refl
last_four f false true d e x y z w = refl
last_four f false false true e x y z w = refl
last_four f false false false true x y z w = refl
last_four f false false false false x y z w = refl

pub five : {A : Type 0} (b c d e g : Bool) (x y z v w : A) (rest : Option A)
    → (if b then Some x else if c then Some y else if d then Some z else if e then Some v else if g then Some w else rest)
    ≡ option_or (if b then Some x else if c then Some y else if d then Some z else if e then Some v else if g then Some w else None) rest
five true c d e g x y z v w rest = refl
five false true d e g x y z v w rest = refl
five false false true e g x y z v w rest = refl
five false false false true g x y z v w rest = refl
five false false false false true x y z v w rest = refl
five false false false false false x y z v w rest = refl

-- three rows and the rest, as one
pub together : {A : Type 0} (a b c rest : Option A) → option_or a (option_or b (option_or c rest)) ≡ option_or (option_or a (option_or b c)) rest
together (Some x) b c rest = refl
together None (Some x) c rest = refl
together None None c rest = refl
