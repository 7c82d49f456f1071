-- What can be wrong with bytes that are decoded. A decoder can also fail with `Memory`, because it allocates the text
-- of an error.
use Rattle.std.specs.Prelude.{◌≡◌, ◌⊎◌, ◌++◌, ℕ, List, Some, Result, Ok, Err, MatchResult}
use Rattle.std.specs.String.{string_bytes}
use Rattle.std.specs.Global.{Vec, Box}
use Rattle.anyhow.specs.declared.error.Error.{Error as AnyhowError}
use Rattle.raft_log_record_base.specs.declared.codec.error.Error.{Error as CodecError}
use Rattle.raft_log_record_base.specs.declared.size.ParseSizeError.{ParseSizeError}
use Rattle.raft_log_record_base.specs.Text.{size_fault_text}
use Rattle.raft_log_record_base.specs.Grammar.{Reader}
use Rattle.raft_log_record_base.specs.declared.errors.Error.{Error}
use Rattle.raft_log_record_base.specs.declared.errors.Error.TheVariants as errors

-- A fault in the bytes:
-- - `number`: a number doesn't decode, with this error of the codec.
-- - `corrupt`: the record is corrupt, with this error text.
pub data Fault : Type 0 where
  number : CodecError → Fault
  corrupt : List ℕ → Fault

-- the result of reading a number, with an error of the codec as a fault
abbrev pub lifted : {X : Type 0} → Result X CodecError → Result X Fault
lifted (Ok x) = Ok x
lifted (Err e) = Err (number e)

-- reads a number with `read`, and returns an error of the codec as a fault
abbrev pub lifted_at : {X : Type 0} → Reader X CodecError → Reader X Fault
lifted_at read bytes = lifted (read bytes)

-- The error is `Memory`, or it is the fault with which `reading` fails: the same error of the codec, or a corruption
-- with the same text.
abbrev pub FailsOrMemory : {Y : Type 0} → Error → Result Y Fault → Type 0
FailsOrMemory errors.Memory reading = Unit {0}
FailsOrMemory (errors.Codec c) reading = reading ≡ Err (number c)
FailsOrMemory (errors.Corruption text) reading = reading ≡ Err (corrupt (string_bytes text))
FailsOrMemory _ reading = ⊥

-- the second error is `Memory`, or wraps the first one as `Other`
abbrev pub IsOtherOf : AnyhowError → Error → Type 0
IsOtherOf error e =
    (e ≡ errors.Memory) ⊎ ((kept : Box AnyhowError) × (e ≡ errors.Other kept) × (kept.value ≡ error))

-- the error is `Memory`, or it is `InvalidArgument` with the text of `fault`
abbrev pub IsInvalidSize : ParseSizeError → Error → Type 0
IsInvalidSize fault errors.Memory = Unit {0}
IsInvalidSize fault (errors.InvalidArgument text) = size_fault_text fault ≡ Some (string_bytes text)
IsInvalidSize fault _ = ⊥

-- A decoder has the same result as `reading`. It returned the same value and left the same remaining bytes (`new`), or
-- it failed with the same fault. It may instead have failed with `Memory`. If the decoder fails, it consumes nothing of
-- `old`.
abbrev pub ReadsOrMemory :
    {X : Type 0} → Result X Error → List ℕ → List ℕ → Result (X × List ℕ) Fault → Type 0
ReadsOrMemory (Ok x) old new reading = reading ≡ Ok (x, new)
ReadsOrMemory (Err e) old new reading = FailsOrMemory e reading × (new ≡ old)

-- A decoder of a whole slice has the same result as `reading`: the same value or the same fault. It may instead have
-- failed with `Memory`.
abbrev pub GivesOrMemory : {X : Type 0} → Result X Error → Result X Fault → Type 0
GivesOrMemory (Ok x) reading = reading ≡ Ok x
GivesOrMemory (Err e) reading = FailsOrMemory e reading

-- A decoder of the grammar `P` left the bytes `new` of the bytes `old`. If it succeeds, the bytes that it consumed
-- spell the value that it returned. If `old` begins with a spelling, the decoder consumes exactly this spelling and
-- returns its value, or fails with `Memory`. If the decoder fails, it consumes nothing.
pub record DecodesOrMemory {X : Type 0} (P : List ℕ → X → Type 0)
    (result : Result X Error) (old new : List ℕ) : Type 0 where
  pub found : MatchResult result (λ x. (text : List ℕ) × P text x × (old ≡ text ++ new)) (λ e. new ≡ old)
  pub only : (text rest : List ℕ) (x : X) → P text x → old ≡ text ++ rest
      → MatchResult result (λ y. (y ≡ x) × (new ≡ rest)) (λ e. e ≡ errors.Memory)

-- A decoder has the same result as `reading`. It returned the same items as a vector and left the same remaining bytes
-- (`new`), or it failed with the same fault. It may instead have failed with `Memory`. If the decoder fails, it
-- consumes nothing of `old`.
abbrev pub ReadsItemsOrMemory :
    {X : Type 0} → Result (Vec X) Error → List ℕ → List ℕ → Result (List X × List ℕ) Fault → Type 0
ReadsItemsOrMemory (Ok x) old new reading = reading ≡ Ok (x.items, new)
ReadsItemsOrMemory (Err e) old new reading = FailsOrMemory e reading × (new ≡ old)

-- A decoder of a vector by the grammar `P` left the bytes `new` of the bytes `old`. If it succeeds, the bytes that it
-- consumed spell the items that it returned. If `old` begins with a spelling, the decoder consumes exactly this
-- spelling and returns its items, or fails with `Memory`. If the decoder fails, it consumes nothing.
pub record DecodesItemsOrMemory {X : Type 0} (P : List ℕ → List X → Type 0)
    (result : Result (Vec X) Error) (old new : List ℕ) : Type 0 where
  pub found : MatchResult result
      (λ xs. (text : List ℕ) × P text xs.items × (old ≡ text ++ new)) (λ e. new ≡ old)
  pub only : (text rest : List ℕ) (xs : List X) → P text xs → old ≡ text ++ rest
      → MatchResult result (λ ys. (ys.items ≡ xs) × (new ≡ rest)) (λ e. e ≡ errors.Memory)
