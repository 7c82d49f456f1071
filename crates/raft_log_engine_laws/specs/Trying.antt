-- A write tries to append its record at most twice. If the first try had no space, Append has rotated, and the second
-- try appends to the next file.
use Rattle.std.specs.Prelude.{◌≡◌, ◌⊎◌, ℕ, List}
use Rattle.raft_log_record_base.specs.declared.errors.Error.{Error}
use Rattle.raft_log_record_base.specs.declared.errors.Error.TheVariants as errors
use Rattle.raft_log_record_base.specs.declared.pipe_log.FileBlockHandle.{FileBlockHandle}
use Rattle.raft_log_record_base.specs.declared.pipe_log.LogFileContext.{LogFileContext}
use Rattle.raft_log_fs.specs.Causes.{IsLater}
use Rattle.raft_log_machine_laws.specs.Calls.Which.{InAppend}
use Rattle.raft_log_block_cache.specs.raft_log_dual_pipes.specs.Pipes.{LogPipes}
use Rattle.raft_log_block_cache.specs.raft_log_dual_pipes.specs.Calls.{AppendsTo, FailsToAppendTo}
use Rattle.raft_log_block_cache.specs.raft_log_dual_pipes.specs.Numbers.{EndsNumbersAt}
use Rattle.raft_log_block_cache.specs.raft_log_file_pipe.specs.Appending.{SaysTryAgain}

-- an append to Append failed with `TryAgain`
abbrev pub TriesInVain : (LogFileContext → List ℕ) → LogPipes → LogPipes → Type 0
TriesInVain signed v w =
    (error : Error) × SaysTryAgain error × IsLater v.disk w.disk × FailsToAppendTo InAppend signed error v w

-- the record was appended at `block`: at the first try, or at the second after the first failed with `TryAgain`
abbrev pub WritesAt : (LogFileContext → List ℕ) → FileBlockHandle → LogPipes → LogPipes → Type 0
WritesAt signed block v w = AppendsTo InAppend signed block v w
    ⊎ ((mid : LogPipes) × TriesInVain signed v mid × AppendsTo InAppend signed block mid w)

-- An append to Append failed with `error`. If that is `NumberRange` and the pipes ran over a log, the queue had to
-- rotate. Then its active file has the last number that a file name can have.
abbrev pub RefusesRecord : (LogFileContext → List ℕ) → Error → LogPipes → LogPipes → Type 0
RefusesRecord signed error v w =
    FailsToAppendTo InAppend signed error v w × EndsNumbersAt InAppend signed error v w

-- A write failed to append the record, with `error`. Either the first try failed with `error`, which isn't `TryAgain`.
-- Or the first try failed with `TryAgain`, and the second with `error`.
abbrev pub RefusesAt : (LogFileContext → List ℕ) → Error → LogPipes → LogPipes → Type 0
RefusesAt signed error v w = ((SaysTryAgain error → ⊥) × RefusesRecord signed error v w)
    ⊎ ((mid : LogPipes) × TriesInVain signed v mid × IsLater mid.disk w.disk
    × RefusesRecord signed error mid w)

-- both tries to append the record failed with `TryAgain`
abbrev pub TriesTwiceInVain : (LogFileContext → List ℕ) → LogPipes → LogPipes → Type 0
TriesTwiceInVain signed v w = (mid : LogPipes) × TriesInVain signed v mid × TriesInVain signed mid w
