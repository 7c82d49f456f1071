use Rattle.std.proofs.Common.{length, reverse}
use Rattle.raft_log_fs.specs.Causes.{IsLater}
use Rattle.raft_log_file_pipe.specs.Closing.{greatest_reserved}
use Rattle.raft_log_file_pipe.proofs.SettingAside.{ReservesOn, IsHeldOn}
use Rattle.raft_log_file_pipe.proofs.closing.reserve_files.Given as goal

abbrev pub invariant-loop-file : goal.invariant-loop-file
invariant-loop-file g l =
    ReservesOn (g.G.PipeFormat.file_paths l.layout) (reverse l.fn.recycled.items) (greatest_reserved l.fn.recycled.items) (g.F.FileSystem.disk l.fn.file_system) (reverse l.files.items) l.last (g.F.FileSystem.disk l.file_system)
    × IsHeldOn (g.G.PipeFormat.format l.layout) (g.G.PipeFormat.own l.layout) l.fn.recycled.items (g.F.FileSystem.disk l.fn.file_system) l.files.items (g.F.FileSystem.disk l.file_system)
    × IsLater (g.F.FileSystem.disk l.fn.file_system) (g.F.FileSystem.disk l.file_system)

abbrev pub decreases-loop-file : goal.decreases-loop-file
decreases-loop-file g l = length l.files.items
