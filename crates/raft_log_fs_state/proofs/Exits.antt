-- What holds at one exit of a call, from what holds at another.
use Rattle.std.specs.Prelude.{Result, Ok, Err}
use Rattle.std.specs.Result.{OnOk, OnErr}

pub on_err : {T E : Type 0} (r : Result T E) (P : Type 0) → P → OnErr r P
on_err (Ok v) P is = tt
on_err (Err e) P is = is

pub ok_then : {T E : Type 0} (r : Result T E) {P Q : Type 0} → (P → Q) → OnOk r P → OnOk r Q
ok_then (Ok v) step is = step is
ok_then (Err e) step is = tt

pub err_then : {T E : Type 0} (r : Result T E) {P Q : Type 0} → (P → Q) → OnErr r P → OnErr r Q
err_then (Ok v) step is = tt
err_then (Err e) step is = step is
