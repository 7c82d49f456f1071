-- What is known of an answer, in other words.
use Rattle.std.proofs.Common.{Result, Ok, Err, IfOk, IfErr}

pub ok_then : {T E : Type 0} (r : Result T E) (P Q : T → Type 0) → IfOk r P → ((x : T) → P x → Q x) → IfOk r Q
ok_then (Ok x) P Q h f = f x h
ok_then (Err e) P Q h f = tt

pub err_then : {T E : Type 0} (r : Result T E) (P Q : E → Type 0) → IfErr r P → ((e : E) → P e → Q e) → IfErr r Q
err_then (Ok x) P Q h f = tt
err_then (Err e) P Q h f = f e h

-- what is known of a value under a premise, if the same premise is needed to know it
pub ok_under : {T E premise : Type 0} (r : Result T E) (P : T → Type 0) → (premise → IfOk r (λ x. premise → P x)) → IfOk r (λ x. premise → P x)
ok_under (Ok x) P h = λ is. h is is
ok_under (Err e) P h = tt
