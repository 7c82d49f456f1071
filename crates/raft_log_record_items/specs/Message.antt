-- Messages: values of a type that the engine's user chooses. They are stored as bytes.
use Rattle.std.specs.Prelude.{◌≡◌, ℕ, List, Option, None, Some, Result, Ok, Err}
use Rattle.raft_log_record_base.specs.declared.errors.Error.{Error}
use Rattle.raft_log_record_base.specs.declared.errors.Error.TheVariants as errors

-- The result of a call that parses bytes. `reading` is the message that the bytes encode, or `None`. If the call
-- succeeds, it returns this message. It fails with `Message` only if `reading` is `None`. The only other error is
-- `Memory`.
abbrev pub Parses : {M : Type 0} → Result M Error → Option M → Type 0
Parses (Ok m) reading = reading ≡ Some m
Parses (Err errors.Memory) reading = Unit {0}
Parses (Err (errors.Message text)) reading = reading ≡ None
Parses (Err _) reading = ⊥

-- `reading` returns `message` for the bytes that `spelling` writes for it
abbrev pub IsReadBack : {M : Type 0} → (M → List ℕ) → (List ℕ → Option M) → M → Type 0
IsReadBack spelling reading message = reading (spelling message) ≡ Some message
