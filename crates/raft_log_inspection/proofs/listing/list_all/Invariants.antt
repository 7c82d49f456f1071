use Rattle.std.proofs.Common.{take}
use Rattle.raft_log_inspection.specs.Steps.{AreListed}
use Rattle.raft_log_inspection.proofs.listing.list_all.Given as goal

-- the directories so far are listed
abbrev pub invariant-loop-path : goal.invariant-loop-path
invariant-loop-path g l = AreListed (take l.path-index l.paths) (g.F.FileSystem.disk l.files) l.listings.items
