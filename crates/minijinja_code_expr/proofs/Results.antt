-- What is known after a call that succeeded.
use Rattle.std.proofs.Common.{Result, Ok, Err}
use Rattle.std.specs.Prelude.{IfOk, OnOk}

pub ok_gives : {A E P Q : Type 0} (r : Result A E) → (P → Q) → OnOk r P → OnOk r Q
ok_gives (Ok x) k p = k p
ok_gives (Err x) k p = tt

pub ok_value_gives : {A E : Type 0} {P Q : A → Type 0} (r : Result A E) → ((x : A) → P x → Q x) → IfOk r P → IfOk r Q
ok_value_gives (Ok x) k p = k x p
ok_value_gives (Err x) k p = tt
