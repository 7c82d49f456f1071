-- What a crash, a close, a copy or an armed fault leaves of the voters in a log's files.
use Rattle.std.proofs.Common.{◌≡◌, ◌∙◌, ◌⊎◌, inl, inr, ℕ, false, List, [], take, Option, Some, None, ap, refl, sym, subst}
use Rattle.std.proofs.Math.Path.{fun_ext}
use Rattle.std.proofs.Math.Seq.{take-nil}
use Rattle.raft_log_model_laws.specs.Groups.{taken}
use Rattle.raft_log_fs.specs.Disk.{Disk as OnDisk, File, at_rest, empty_disk}
use Rattle.raft_log_fs.specs.Exits.{Arms, denied_by}
use Rattle.raft_log_fs.specs.Image.{IsFileImage, IsImage, IsLeft, IsSound}
use Rattle.raft_log_fs.proofs.Public.{disk_ext, only_at_rest}
use Rattle.raft_log_fs_memory.specs.Memory.{disk_of}
use Rattle.raft_log_fs_memory.specs.declared.memory.MemoryFileSystem.{MemoryFileSystem}
use Rattle.raft_log_file_settings.specs.declared.config.Config.{Config}
use Rattle.raft_log_dual_pipes.specs.OpenOrClosed.{none_open}
use Rattle.raft_log_dual_pipes.proofs.Public.{logs_go_on_disks}
use Rattle.raft_voter_durability_laws.specs.raft_log_engine_laws.specs.raft_log_dual_pipes.specs.OnDisk.{IsDurableAs}
use Rattle.raft_voter_durability_laws.specs.raft_log_engine_laws.specs.raft_log_dual_pipes.specs.Pipes.{LogRecordValue}
use Rattle.raft_voter_durability_laws.specs.raft_log_engine_laws.specs.Holding.{Represents, IsRecoverableAs}
use Rattle.raft_voter_durability_laws.specs.raft_log_engine_laws.specs.EngineState.{LogDirectories, LogMap, EngineState, has_failed, log_in}
use Rattle.raft_voter_durability_laws.specs.raft_log_engine_laws.proofs.Public.{closed_engines_are_left}
use Rattle.raft_log_recovery_laws.specs.Bare.{IsBare}
use Rattle.raft_log_recovery_laws.specs.ByCalls.{home_of}
use Rattle.raft_log_recovery_laws.specs.ForkLeaving.{EndsFork, LeavesSource}
use Rattle.raft_log_recovery_laws.proofs.Public.{crashed_engines_open, crashed_logs_rest, forks_leave_the_source, two_queues}
use Rattle.raft_voter.specs.Rounds.{fresh_world}
use Rattle.raft_voter.specs.Service.{CutRound, MayFollow, uncut}
use Rattle.raft_voter_durability_laws.specs.Standing.{IsLeftAmong}
use Rattle.raft_voter_durability_laws.proofs.Public.{left_alone}
use Rattle.raft_voter_store.specs.Service.{LeavesAt}
use Rattle.raft_voter_store.specs.Service.LeavesAt.{left as is_left, running}
use Rattle.raft_voter_world.specs.declared.faults.Fault.{Fault}
use Rattle.raft_voter_world.specs.declared.faults.Fault.TheVariants.{Refuse, Stop}
use Rattle.raft_voter_log.specs.Faults.{fault_of}
use Rattle.raft_voter_log.specs.Instance.{AreSame, ClosesStore}
use Rattle.raft_voter_log.specs.Leaving.{FilesLeave, SparesFiles, SparesStore}
use Rattle.raft_voter_log.specs.Leaving.FilesLeave.{bare, left, rests}
use Rattle.raft_voter_log.proofs.Homes.{leave_for, one_home, some_append, some_rewrite}
use Rattle.raft_voter_log.proofs.OpenLemmas.{follows_none, memory_sound}

-- A crash of what a crash left leaves the same.

file_once : (o p q : Option File) → IsFileImage o p → IsFileImage p q → q ≡ p
file_once None None None is again = refl
file_once None None (Some r) is again = absurd again
file_once None (Some r) q is again = absurd is
file_once (Some f) None q is again = absurd is
file_once (Some f) (Some r) None is again = absurd again
file_once (Some f) (Some r) (Some s) (first, at, first_left) (second, then_at, second_left) =
    let same : second ≡ first = only_at_rest (at_rest first) second refl (subst (λ (x : File). IsLeft x second) at second_left) in
    ap Some (then_at ∙ ap at_rest same ∙ sym at)

crashed_once : (before d e : OnDisk) → IsImage before d → IsImage d e → e ≡ d
crashed_once before d e is again =
    disk_ext e d again.directories again.names (fun_ext (λ id. file_once (before.files id) (d.files id) (e.files id) (is.files id) (again.files id))) again.unused
    (fun_ext (λ id. fun_ext (λ place. again.readable id place ∙ sym (is.readable id place)))) (again.running ∙ sym is.running) (again.uncounted ∙ sym is.uncounted) (again.untold ∙ sym is.untold)

pub bare_image : (config : Config) (d e : OnDisk) → IsImage d e → IsBare config d → IsBare config e
bare_image config d e is b = record {
  numbered = λ queue n path at. (let free = b.numbered queue n path at in (ap (λ names. names path) is.names ∙ free.0, ap (λ directories. directories path) is.directories ∙ free.1));
  reserved = λ n path at. ap (λ names. names path) is.names ∙ b.reserved n path at;
  unnamed = λ path at. ap (λ names. names path) is.names ∙ b.unnamed path at;
}

-- what rests is left
rests_left : (config : Config) (d : OnDisk) (m : LogMap) → IsDurableAs (log_in (home_of config)) d m → IsRecoverableAs (home_of config) d m []
rests_left config d m is = (
  none_open,
  record {
    done = [];
    rest = [];
    splits = refl;
    lies = (logs_go_on_disks (log_in (home_of config)) (two_queues (home_of config) (some_append config) (some_rewrite config))).rest d m is;
  },
)

-- a directory in which nothing ever was
pub bare_at_first : (config : Config) (d : OnDisk) → d ≡ empty_disk → IsBare config d
bare_at_first config d empty = subst (IsBare config) (sym empty) (record {
  numbered = λ queue n path at. (refl, refl);
  reserved = λ n path at. refl;
  unnamed = λ path among. refl;
})

pub fresh_at_first : (config : Config) (d : OnDisk) → d ≡ empty_disk → FilesLeave config d (uncut fresh_world)
fresh_at_first config d empty = bare (bare_at_first config d empty) refl

-- an engine that holds a map hasn't failed
holding_lives : (home : LogDirectories) (s : EngineState) (m : LogMap) → Represents home s m [] → has_failed s ≡ false
holding_lives home s m h =
    let one : s.pipes.append.failed ≡ false = h.runs.append.alive in
    let other : s.pipes.rewrite.failed ≡ false = h.runs.rewrite.alive in
    rw (one, other) refl

-- a crash of a log that was left
crash_leaves : (config : Config) (d e : OnDisk) (cut : CutRound) → IsImage d e → (known : FilesLeave config d cut) → SparesFiles config d cut known e → FilesLeave config e cut
crash_leaves config d e cut is (bare b none) chance = bare (bare_image config d e is b) none
crash_leaves config d e cut is (rests before image m at W means follows) chance =
    subst (λ (x : OnDisk). FilesLeave config x cut) (sym (crashed_once before d e image is)) (rests before image m at W means follows)
crash_leaves config d e cut is (left l) chance =
    let (k, within, at) = crashed_logs_rest (home_of config) (some_append config) (some_rewrite config) d e l.map l.pending l.left (chance.crashed is) in
    let (X, follows, means) = l.among k within in
    rests d is (taken l.map (take k l.pending)) at X means follows

-- files that stay as they are
still_leaves : (config : Config) (d e : OnDisk) (cut : CutRound) → e ≡ d → FilesLeave config d cut → FilesLeave config e cut
still_leaves config d e cut same l = subst (λ (x : OnDisk). FilesLeave config x cut) (sym same) l

-- a copy of files into a directory
pub copy_leaves : (config : Config) (target : List ℕ) (old new : OnDisk) (cut : CutRound) → IsSound old → EndsFork config target old new → FilesLeave config old cut → FilesLeave config new cut
copy_leaves config target old new cut sound ends known = by_known known
  where
    keeps : LeavesSource config old new
    keeps = forks_leave_the_source config target old new sound ends

    by_known : FilesLeave config old cut → FilesLeave config new cut
    by_known (bare b none) = bare (keeps.bare b) none
    by_known (rests before image m at W means follows) = left (left_alone (home_of config) new m (MayFollow cut) W (keeps.left m [] (rests_left config old m at)) follows means)
    by_known (left l) = left (record { map = l.map; pending = l.pending; left = keeps.left l.map l.pending l.left; among = l.among })

-- an armed stop or refusal changes nothing on the disk
pub on_disk : (fault : Fault) (old new : OnDisk) → Arms (fault_of fault) old new → new ≡ old
on_disk fault old new arms = by_mark fault arms.marks
  where
    by_mark : (f : Fault) → (new ≡ old) ⊎ (new ≡ denied_by (fault_of f) old) → new ≡ old
    by_mark f (inl same) = same
    by_mark (Stop calls) (inr same) = same
    by_mark (Refuse calls) (inr same) = same

-- A crash of files, and one under a store.

-- by settings that say the same
pub crash_leaves_for : (c e : Config) (d image : OnDisk) (cut : CutRound) → AreSame e c → IsImage d image → (known : FilesLeave c d cut) → SparesFiles c d cut known image → FilesLeave e image cut
crash_leaves_for c e d image cut same is known chance = leave_for c e image cut (sym (one_home e c same)) (crash_leaves c d image cut is known chance)

-- a crash under a store leaves what it left, by any proof of that, unless something passes by chance
crash_spared : (c e : Config) (s : EngineState) (after : MemoryFileSystem) (cut : CutRound) → AreSame e c → IsImage s.pipes.disk (disk_of after)
    → (known : LeavesAt (home_of c) s cut) → SparesStore (home_of c) s cut known (disk_of after) → FilesLeave e (disk_of after) cut
crash_spared c e s after cut same is (running W none keeps) chance =
    let home = home_of c in
    let (k, within, at, opens) = crashed_engines_open disk_of (λ system directory free. Unit {0}) home s keeps.map [] keeps.holds after (memory_sound after) is chance in
    let still : IsDurableAs (log_in home) (disk_of after) keeps.map = subst (λ (l : List LogRecordValue). IsDurableAs (log_in home) (disk_of after) (taken keeps.map l)) (take-nil k) at in
    leave_for c e (disk_of after) cut (sym (one_home e c same)) (rests s.pipes.disk is keeps.map still W keeps.means (follows_none cut W none))
crash_spared c e s after cut same is (is_left failed l) chance =
    let (k, within, at) = crashed_logs_rest (home_of c) (some_append c) (some_rewrite c) s.pipes.disk (disk_of after) l.map l.pending l.left chance in
    let (X, follows, means) = l.among k within in
    leave_for c e (disk_of after) cut (sym (one_home e c same)) (rests s.pipes.disk is (taken l.map (take k l.pending)) at X means follows)

-- what a store says that it leaves is known, and is left unless something passes by chance
pub crash_leaves_under : (c e : Config) (s : EngineState) (after : MemoryFileSystem) (cut : CutRound) → AreSame e c → IsImage s.pipes.disk (disk_of after) → LeavesAt (home_of c) s cut
    → LeavesAt (home_of c) s cut × ((known : LeavesAt (home_of c) s cut) → SparesStore (home_of c) s cut known (disk_of after) → FilesLeave e (disk_of after) cut)
crash_leaves_under c e s after cut same is known = (known, crash_spared c e s after cut same is)

-- a store is closed
pub close_leaves : (config : Config) (s : EngineState) (d : OnDisk) (cut : CutRound) → ClosesStore s d → LeavesAt (home_of config) s cut → FilesLeave config d cut
close_leaves config s d cut closes (running W none keeps) =
    let home = home_of config in
    let alive = holding_lives home s keeps.map keeps.holds in
    left (left_alone home d keeps.map (MayFollow cut) W (closed_engines_are_left home s keeps.map [] d keeps.holds (closes.held alive)) (follows_none cut W none) keeps.means)
close_leaves config s d cut closes (is_left failed l) = left (subst (λ (x : OnDisk). IsLeftAmong (home_of config) x (MayFollow cut)) (sym (closes.failed failed)) l)

-- a fault is armed
pub armed_leaves : (config : Config) (fault : Fault) (old new : OnDisk) (cut : CutRound) → Arms (fault_of fault) old new → FilesLeave config old cut → FilesLeave config new cut
armed_leaves config fault old new cut arms known = still_leaves config old new cut (on_disk fault old new arms) known
