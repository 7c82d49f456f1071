-- A session that is too long is known by its front.
use Rattle.std.proofs.Common.{◌≡◌, ℕ, ◌+◌, ◌∙◌, nat_le, Bool, true, false, inl, inr, List, [], ◌++◌, length, length-take, take, append_assoc, Option, Some, None, IfSome, Result, Ok, Err, IfErr, IfOk, OnErr, refl, sym, ap, arith}
use Rattle.std.proofs.KnownBytes.{Appends-trans}
use Rattle.std.proofs.lemmas.Bool.Decides.{nat_tests}
use Rattle.std.proofs.lemmas.List.{take-take}
use Rattle.std.specs.Option.{option_map}
use Rattle.std.specs.declared.io.ErrorKind.{ErrorKind}
use Rattle.raft_voter_session.specs.Told.{SessionContent}
use Rattle.raft_voter_session.specs.Session.{session_of}
use Rattle.raft_voter_program.specs.Run.{EndsEarly, IsUntoldFor, MayWrite, refused_text}
use Rattle.raft_voter_program.specs.Leaving.{EndsLeaving, MayWriteLeaving}
use Rattle.raft_voter_program.specs.declared.over_store.Ended.{Ended}
use Rattle.raft_voter_program.specs.Writing.{StopsWithin, TakesFront}

too_long : (n : ℕ) (bytes : List ℕ) → nat_le (length (take (n + 1) bytes)) n ≡ nat_le (length bytes) n
too_long n bytes = let size = length-take (n + 1) bytes in grind (arith, nat_tests)

session_front : (input : List ℕ) → session_of (take 268435457 input) ≡ session_of input
unfolding session_of
session_front input = rw (take-take 268435456 268435457 input (omega arith), too_long 268435456 input) refl

-- what may be written for the front of a session may be written for it
shown_of_front : (Writes : SessionContent → List ℕ → ℕ → Type 0) (input front bytes text : List ℕ) (status : ℕ) → front ≡ take 268435457 input → bytes ≡ front
    → MayWrite Writes bytes text status → MayWrite Writes input text status
shown_of_front Writes input front bytes text status e f told = rw (← session_front input, ← e, ← f) told

-- and with the files that are left
left_of_front : {F : Type 0} (Writes : Option F → SessionContent → List ℕ → ℕ → Type 0) (left : Option F) (input front bytes text : List ℕ) (status : ℕ) → front ≡ take 268435457 input → bytes ≡ front
    → MayWriteLeaving Writes left bytes text status → MayWriteLeaving Writes left input text status
left_of_front Writes left input front bytes text status e f told = rw (← session_front input, ← e, ← f) told

-- what is written for the front of a session is written for it
pub ends_of_front : {F E : Type 0} (r : Result (Ended F) E) (Writes : Option F → SessionContent → List ℕ → ℕ → Type 0) (known old new : Option (List ℕ)) (front bytes : List ℕ)
    → IfSome known (λ input. front ≡ take 268435457 input) → bytes ≡ front
    → IfOk r (λ ended. EndsLeaving Writes ended.files bytes old new ended.status)
    → IfOk r (λ ended. IfSome known (λ input. EndsLeaving Writes ended.files input old new ended.status))
ends_of_front (Err fault) Writes known old new front bytes e f ends = tt
ends_of_front (Ok ended) Writes None old new front bytes e f ends = tt
ends_of_front (Ok ended) Writes (Some input) old new front bytes e f (text, told, wrote) =
    (text, left_of_front Writes ended.files input front bytes text ended.status e f told, wrote)

-- all that a reader with a limit gave is the front of what there was
pub read_in_front : (known : Option (List ℕ)) (n limit : ℕ) (old new : List ℕ) → limit ≡ n → old ≡ []
    → IfSome (option_map (take limit) known) (λ xs. new ≡ old ++ xs) → IfSome known (λ input. new ≡ take n input)
read_in_front None n limit old new e f read = tt
read_in_front (Some input) n limit old new e f read = rw (f, e) at read

-- a writer that took the front of a text, and then more of it, took a front of it
pub two_fronts : (a b c : Option (List ℕ)) (bytes left rest : List ℕ) → TakesFront a b bytes left → TakesFront b c left rest → TakesFront a c bytes rest
two_fronts a b c bytes left rest one more = record {
  front = one.front ++ more.front;
  whole = one.whole ∙ ap (λ xs. one.front ++ xs) more.whole ∙ sym (append_assoc one.front more.front rest);
  gained = Appends-trans a b c one.front more.front one.gained more.gained;
}

-- where the front of a session isn't told, nor is it
pub early_of_front : {T E : Type 0} (r : Result T E) (kind : E → ErrorKind) (Writes : SessionContent → List ℕ → ℕ → Type 0)
    (known old new : Option (List ℕ)) (front bytes : List ℕ) → IfSome known (λ input. front ≡ take 268435457 input) → bytes ≡ front
    → IfErr r (λ fault. IsUntoldFor Writes bytes old new (kind fault)) → OnErr r (IfSome known (λ input. EndsEarly Writes false input old new))
early_of_front (Ok ended) kind Writes known old new front bytes e f untold = tt
early_of_front (Err fault) kind Writes None old new front bytes e f untold = tt
early_of_front (Err fault) kind Writes (Some input) old new front bytes e f (inl (kept, told)) = inl kept
early_of_front (Err fault) kind Writes (Some input) old new front bytes e f (inr (text, status, told, wrote)) =
    inr (text, status, shown_of_front Writes input front bytes text status e f told, wrote)

-- of the refusal of arguments a front was written
pub refusal_within : (Writes : SessionContent → List ℕ → ℕ → Type 0) (known old new : Option (List ℕ)) (given : Bool) → given ≡ true → StopsWithin old new refused_text
    → IfSome known (λ input. EndsEarly Writes given input old new)
refusal_within Writes None old new given is wrote = tt
refusal_within Writes (Some input) old new true is wrote = inr (refused_text, 2, (refl, refl), wrote)
refusal_within Writes (Some input) old new false is wrote = absurd (cc)

pub on_err : {T E : Type 0} (r : Result T E) (P : Type 0) → P → OnErr r P
on_err (Ok v) P h = tt
on_err (Err e) P h = h
