-- Why a call failed: what must have happened to the file system.
use Rattle.std.specs.Prelude.{◌≡◌, ℕ, ◌<◌, ◌≤◌, true, false}
use Rattle.raft_log_fs.specs.Disk.{Disk}

-- Why a call on these files failed. The file system has stopped, a failure was counted during the call, or one of the
-- files has an unreadable offset. The contract of a failed read says more: the read asked for that offset.
pub data HasCause (files : ℕ → Type 0) (old new : Disk) : Type 0 where
  stopped : new.stopped ≡ true → HasCause files old new
  counted_one : old.failures < new.failures → HasCause files old new
  unreadable_place : (id place : ℕ) → files id → new.unreadable id place ≡ true → HasCause files old new

-- why a changing call failed: the file system has stopped, or a failure was counted during the call
pub data Fails (old new : Disk) : Type 0 where
  has_stopped : new.stopped ≡ true → Fails old new
  has_failed : old.failures < new.failures → Fails old new

-- `new` is a later state of the disk: the count of failures never falls, and a stop is final
pub record IsLater (old new : Disk) : Type 0 where
  pub failures : old.failures ≤ new.failures
  pub stopped : old.stopped ≡ true → new.stopped ≡ true

-- nothing disturbs the disk: the file system runs, and every offset is readable
pub record IsUndisturbed (d : Disk) : Type 0 where
  pub runs : d.stopped ≡ false
  pub readable : (id place : ℕ) → d.unreadable id place ≡ false
