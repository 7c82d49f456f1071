-- What a refused read says.
use Rattle.std.proofs.Common.{ℕ, ◌≤◌, Bool, IsTrue, Result, Ok, Err, IfErr, arith}
use Rattle.raft_log_record_base.specs.declared.errors.Error.{Error}
use Rattle.raft_log_record_base.specs.declared.errors.Error.TheVariants as errors
use Rattle.raft_log_fs.specs.Disk.{Disk}
use Rattle.raft_log_file_reader.specs.Source.{CannotRead}
use Rattle.raft_log_file_reader.specs.declared.source.Source.{Source}

-- bytes that couldn't be read from one offset on couldn't be read from an earlier one on
pub cannot_read_earlier : (source : Source) (d : Disk) (early late : ℕ) (e : Error) → early ≤ late → CannotRead source late d e → CannotRead source early d e
cannot_read_earlier source d early late (errors.Io kind) le h =
    record { at = h.at; count = h.count; behind = omega (arith, h.behind); inside = h.inside; unread = h.unread }
cannot_read_earlier source d early late _ le h = h

-- the same of what a read returned, if its receipt is honest
pub refused_earlier : {X : Type 0} (honest : Bool) (source : Source) (d : Disk) (early late : ℕ) (r : Result X Error) → early ≤ late
    → IfErr r (λ error. IsTrue honest → CannotRead source late d error) → IfErr r (λ error. IsTrue honest → CannotRead source early d error)
refused_earlier honest source d early late (Ok x) le h = h
refused_earlier honest source d early late (Err e) le h = λ told. cannot_read_earlier source d early late e le (h told)
