use Rattle.std.proofs.Common.{map, take}
use Rattle.std.specs.List.{AllZip}
use Rattle.std.specs.String.{string_bytes}
use Rattle.raft_log_fs.specs.Reading.{IsListing}
use Rattle.raft_log_recovery_scan.proofs.scanning.directories.list_directories.Given as goal

-- the directories so far are listed
abbrev pub invariant-loop-path : goal.invariant-loop-path
invariant-loop-path g l = AllZip (λ path names. IsListing (string_bytes path) (g.F.FileSystem.disk l.file_system) (map string_bytes names.items)) (take l.path-index l.paths) l.listings.items
