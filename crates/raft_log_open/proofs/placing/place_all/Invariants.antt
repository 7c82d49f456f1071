use Rattle.std.proofs.Common.{map, take}
use Rattle.std.specs.List.{AllZip}
use Rattle.std.specs.String.{string_bytes}
use Rattle.raft_log_open.specs.Placing.{IsPlaced, last_number}
use Rattle.raft_log_open.proofs.placing.place_all.Given as goal

-- the files so far have their paths
abbrev pub invariant-loop-found : goal.invariant-loop-found
invariant-loop-found l = AllZip (IsPlaced l.queue (map string_bytes l.paths) (last_number l.chosen)) (take l.found-index l.chosen) l.files.items
