use Rattle.std.proofs.Common.{◌+◌, ◌<◌, List, map, take, length, subst, sym, arith}
use Rattle.std.specs.List.{AllZip}
use Rattle.std.specs.String.{string_bytes}
use Rattle.raft_log_recovery_scan.proofs.Public.{zip_more}
use Rattle.raft_log_open.specs.Placing.{IsPlaced, last_number}
use Rattle.raft_log_open.specs.declared.placed_file.PlacedFile.{PlacedFile}
use Rattle.raft_log_open.proofs.Places.{renumbered}
use Rattle.raft_log_open.proofs.placing.place_all.Goals as goal

pub loop-found-preserved : goal.loop-found-preserved
loop-found-preserved c =
    let found = c.args.chosen.now in
    let i = c.loop-found.found-index in
    let lt : i < length found = omega arith in
    let directories = map string_bytes c.args.paths.now in
    let R = IsPlaced c.args.queue directories (last_number found) in
    subst (λ (l : List PlacedFile). AllZip R (take (i + 1) found) l) (sym c.in_ok-push.ensures.items)
    (zip_more R found c.loop-found.files.items i _ c.in_ok-file.file lt c.loop-found.invariant
    (renumbered c.args.queue directories c.last_number-last.result (last_number found) _ c.in_ok-file.file c.last_number-last.ensures c.in_ok-file.ensures.ok))
