use Rattle.std.proofs.Common.{◌≡◌, map, take}
use Rattle.raft_log_offline.specs.Sources.{source_of}
use Rattle.raft_log_offline.proofs.forking.of_kind.Given as goal

-- the files so far
abbrev pub invariant-loop-file : goal.invariant-loop-file
invariant-loop-file l = l.sources.items ≡ map (source_of l.kind) (take l.file-index l.files)
