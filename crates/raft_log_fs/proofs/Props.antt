-- A disk is sound in one way only, so that a type may keep the fact beside its fields.
use Rattle.std.proofs.Props.{props}
use Rattle.raft_log_fs.specs.Disk.{Change, File, Disk}
use Rattle.raft_log_fs.specs.Image.{IsSound}

pub Change-set : IsSet Change
Change-set = hlevel props

pub File-set : IsSet File
File-set = hlevel props

pub IsSound-prop : (d : Disk) → IsProp (IsSound d)
IsSound-prop d = hlevel props
