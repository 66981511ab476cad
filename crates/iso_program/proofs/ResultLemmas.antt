-- What holds behind a result.
use Rattle.std.proofs.Common.{Result, Ok, Err, OnErr}
use Rattle.std.specs.Result.{IfOk}

-- what holds, holds behind an error
pub behind_error : {T E : Type 0} (result : Result T E) {Fact : Type 0} → Fact → OnErr result Fact
behind_error (Ok t) fact = tt
behind_error (Err e) fact = fact

-- two facts of a result are one
pub both_ok : {T E : Type 0} (result : Result T E) (P Q : T → Type 0) → IfOk result P → IfOk result Q → IfOk result (λ t. P t × Q t)
both_ok (Ok t) P Q p q = (p, q)
both_ok (Err e) P Q p q = tt
