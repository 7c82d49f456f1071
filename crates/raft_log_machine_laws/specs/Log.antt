-- An engine's log as its callers see it: the map that is synced, and the pending batches. Also the engine's view of the
-- log: where each entry and value is stored. `may_be` says which files may be on disk.
use Rattle.std.specs.Prelude.{◌≡◌, ℕ, Bool, List, [], ◌++◌}
use Rattle.raft_log_model_laws.specs.Item.{Record}
use Rattle.raft_log_model_laws.specs.Groups.{Map, taken}
use Rattle.raft_log_machine_laws.specs.Whereabouts.{Whereabouts}
use Rattle.raft_log_machine_laws.specs.Model.{Files, IsModelSound, running, with_append}
use Rattle.raft_log_machine_laws.specs.Moves.{Moved}
use Rattle.raft_log_machine_laws.specs.DirectoryImages.{Readings, Allows}
use Rattle.raft_log_machine_laws.specs.Notes.{Notes, AreNoted, AreNotedInRewrite}

-- some files that `may_be` allows are sound, their synced map is `m`, and Append has exactly these batches pending
pub record IsLog {E V : Type 0} (may_be : Files E V → Type 0) (m : Map E V) (pending : List (Record E V))
    : Type 0 where
  pub files : Files E V
  pub whereabouts : ℕ → Whereabouts
  pub failed : Bool
  pub sound : IsModelSound (record { files = files; map = m; whereabouts = whereabouts; failed = failed })
  pub ends : files.append.pending ≡ pending
  pub there : may_be files

-- The log of file system `d` is map `m` with these pending batches. Some files hold this log, and each image that a
-- crash of `d` may leave is an image of these files (`IsAllowed`).
abbrev pub IsLogOf : {D E V : Type 0} → Readings D E V → D → Map E V → List (Record E V) → Type 0
IsLogOf r d m pending = IsLog (Allows r d) m pending

-- What an engine knows: in which queue each entry and value is stored, which files are noted for them, and the map that
-- its tables have.
pub record View (E V : Type 0) : Type 0 where
  pub whereabouts : ℕ → Whereabouts
  pub noted : Notes
  pub noted_in_rewrite : Notes
  pub map : Map E V

-- The view is true of files `f`. They hold map `m`, and have these batches pending. The view's map is `m` after these
-- batches. The view's noted files are right, as `AreNoted` and `AreNotedInRewrite` say.
pub record Stands {E V : Type 0} (v : View E V) (f : Files E V) (m : Map E V) (pending : List (Record E V))
    : Type 0 where
  pub sound : IsModelSound (running f m v.whereabouts)
  pub ends : f.append.pending ≡ pending
  pub map : v.map ≡ taken m pending
  pub noted : AreNoted v.whereabouts v.noted f.append
  pub noted_in_rewrite : AreNotedInRewrite v.map v.whereabouts v.noted_in_rewrite f.rewrite

-- The view is still true after quiet events (`IsQuiet`) changed Append's files into `a`. A prefix of the pending
-- batches is now synced.
pub record Follows {E V : Type 0} (v : View E V) (f : Files E V) (m : Map E V) (pending : List (Record E V))
    (a : Moved f.append_from f.append) : Type 0 where
  pub done : List (Record E V)
  pub rest : List (Record E V)
  pub splits : done ++ rest ≡ pending
  pub stands : Stands v (with_append f a.from a.queue) (taken m done) rest

-- the view is true of some files that `may_be` allows; these hold map `m` and have these batches pending
pub record IsAt {E V : Type 0} (may_be : Files E V → Type 0) (v : View E V) (m : Map E V)
    (pending : List (Record E V)) : Type 0 where
  pub files : Files E V
  pub stands : Stands v files m pending
  pub there : may_be files

-- The view is true of some files that `may_be` allows. They hold map `m` after a prefix of these batches, and the
-- others are pending.
pub record ViewEndsAt {E V : Type 0} (may_be : Files E V → Type 0) (v : View E V) (m : Map E V)
    (pending : List (Record E V)) : Type 0 where
  pub done : List (Record E V)
  pub rest : List (Record E V)
  pub splits : done ++ rest ≡ pending
  pub at : IsAt may_be v (taken m done) rest

-- the log is map `m` after a prefix of these batches, and the others are pending
pub record LogEnds {E V : Type 0} (may_be : Files E V → Type 0) (m : Map E V) (pending : List (Record E V))
    : Type 0 where
  pub done : List (Record E V)
  pub rest : List (Record E V)
  pub splits : done ++ rest ≡ pending
  pub log : IsLog may_be (taken m done) rest

-- the view is true of some files that `may_be` allows; these hold map `m`, and neither queue has a pending record
pub record IsSettled {E V : Type 0} (may_be : Files E V → Type 0) (v : View E V) (m : Map E V) : Type 0 where
  pub at : IsAt may_be v m []
  pub rewrite : at.files.rewrite.pending ≡ []
