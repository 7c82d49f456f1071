use Rattle.std.proofs.Common.{◌≡◌, ◌++◌, List, length, string_bytes}
use Rattle.std.specs.Prelude.{ℕ, IsTrue}
use Rattle.std.specs.List.{flat_map}
use Rattle.raft_log_world_engine.specs.contracts.files.ClosedLogLogFilesOpenLogLogBatchRemainder.TheImpl.{ghosts as of_files}
use Rattle.raftlog.specs.Playing.{EachIsTranscript, between}
use Rattle.raftlog.proofs.texts.answer_all.Given as goal

abbrev pub invariant-loop-session : goal.invariant-loop-session
invariant-loop-session g l =
    let log = (of_files g.row.R g.R.Log g.R.Log-dict).log in
    IsTrue l.good → (texts : List (List ℕ)) × EachIsTranscript log texts × (string_bytes l.told ≡ flat_map (λ t. t ++ between) texts)

abbrev pub decreases-loop-session : goal.decreases-loop-session
decreases-loop-session g l = length l.left
