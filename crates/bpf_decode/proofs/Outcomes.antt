-- Results and options that a call passed on.
use Rattle.std.proofs.Common.{◌≡◌, Option, Some, None, Result, Ok, Err, refl}
use Rattle.std.specs.Prelude.{IfNone, IfErr, IsErrAnd, if◌then◌else◌}
use Rattle.std.specs.Result.{is_ok}

-- a fact that always holds also holds if there is none
pub IfNone-anyway : {A P : Type 0} (o : Option A) → P → IfNone o P
IfNone-anyway None h = h
IfNone-anyway (Some x) h = tt

-- a fact about an error stays after the error is passed on
pub IfErr-passed : {A E : Type 0} (P : E → Type 0) (e : E) (result : Result A E) → IsErrAnd result (λ x. x ≡ e) → P e → IfErr result P
IfErr-passed P e (Ok x) passed h = absurd passed
IfErr-passed P e (Err x) passed h = rw passed h

-- a fact that holds if the call succeeded, once it has
pub where_ok : {A E B : Type 0} (result : Result A E) (x : A) (y z : B) → result ≡ Ok x → (if is_ok result then y else z) ≡ y
where_ok (Ok w) x y z e = refl
where_ok (Err w) x y z e = absurd cc
