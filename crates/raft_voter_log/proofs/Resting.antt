-- What a crash leaves under a store that runs.
use Rattle.std.proofs.Common.{◌≡◌, ◌∙◌, false, List, [], sym, subst}
use Rattle.std.proofs.Math.Seq.{take-nil}
use Rattle.std.proofs.lemmas.Bool.{false≢true}
use Rattle.raft_log_model_laws.specs.Groups.{taken}
use Rattle.raft_log_fs.specs.Disk.{Disk as OnDisk}
use Rattle.raft_log_fs.specs.Image.{IsImage}
use Rattle.raft_log_fs_memory.specs.Answers.{IsLeftOf}
use Rattle.raft_log_fs_memory.specs.Memory.{disk_of, unsynced}
use Rattle.raft_log_fs_memory.specs.declared.memory.MemoryFileSystem.{MemoryFileSystem}
use Rattle.raft_log_fs_memory.specs.raft_log_fs_state.proofs.Public.{left_is_image}
use Rattle.raft_log_fs_memory.specs.raft_log_fs_state.specs.Left.{left_disk}
use Rattle.raft_log_fs_memory.specs.raft_log_fs_state.specs.declared.remainder.Remainder.{Remainder}
use Rattle.raft_log_file_settings.specs.declared.config.Config.{Config}
use Rattle.raft_voter_durability_laws.specs.raft_log_engine_laws.specs.raft_log_dual_pipes.specs.OnDisk.{IsDurableAs}
use Rattle.raft_voter_durability_laws.specs.raft_log_engine_laws.specs.raft_log_dual_pipes.specs.Pipes.{LogRecordValue}
use Rattle.raft_voter_durability_laws.specs.raft_log_engine_laws.specs.EngineState.{LogDirectories, EngineState, has_failed, log_in}
use Rattle.raft_log_recovery_laws.specs.ByCalls.{home_of}
use Rattle.raft_log_recovery_laws.specs.Running.{LeavesNoChance}
use Rattle.raft_log_recovery_laws.proofs.Public.{crashed_engines_open}
use Rattle.raft_voter.specs.Rounds.{World}
use Rattle.raft_voter.specs.Service.{CutRound, uncut}
use Rattle.raft_voter_durability_laws.specs.Standing.{Keeps}
use Rattle.raft_voter_store.specs.Service.{LeavesAt}
use Rattle.raft_voter_store.specs.Service.LeavesAt.{left as is_left, running}
use Rattle.raft_voter_world.specs.declared.event.Left.{Left}
use Rattle.raft_voter_log.specs.Faults.{remainder_of}
use Rattle.raft_voter_log.specs.Instance.{AreSame, CrashesUnder}
use Rattle.raft_voter_log.specs.Leaving.{FilesLeave, SparesFiles, SparesStore}
use Rattle.raft_voter_log.specs.Leaving.FilesLeave.{bare, left, rests}
use Rattle.raft_voter_log.proofs.Homes.{one_home}
use Rattle.raft_voter_log.proofs.OpenLemmas.{follows_none, memory_sound}
use Rattle.raft_voter_log.proofs.Losses.{foreign_records_are_chance, losses_leave_no_chance}
use Rattle.raft_voter_log.specs.Sessions.{ForeignRecordsBreakPremise, OnlyLoses}

-- no log began in the files, or a crash left them: of these nothing is asked
abbrev pub IsPlain : (config : Config) (d : OnDisk) (cut : CutRound) → FilesLeave config d cut → Type 0
IsPlain config d cut (bare b none) = Unit {0}
IsPlain config d cut (rests before image m at W means follows) = Unit {0}
IsPlain config d cut (left l) = ⊥

-- so they are known
abbrev pub IsPlainly : Config → OnDisk → CutRound → Type 0
IsPlainly config d cut = (known : FilesLeave config d cut) × IsPlain config d cut known

pub plain_spared : (config : Config) (d : OnDisk) (cut : CutRound) (known : FilesLeave config d cut) → IsPlain config d cut known → (read : OnDisk) → SparesFiles config d cut known read
plain_spared config d cut (bare b none) plain read = tt
plain_spared config d cut (rests before image m at W means follows) plain read = tt
plain_spared config d cut (left l) plain read = absurd plain

-- what a crash leaves of a file system in memory is an image of it
pub left_is_one : (what : Remainder) (system after : MemoryFileSystem) → IsLeftOf what system after → IsImage (disk_of system) (disk_of after)
left_is_one what system after is =
    let i = left_is_image what system.storage system.whole in
    let image : IsImage (disk_of system) (left_disk what (unsynced system) (disk_of system)) = record {
      directories = i.directories;
      names = i.names;
      unused = i.unused;
      files = i.files;
      readable = i.readable;
      running = i.running;
      uncounted = i.uncounted;
      untold = i.untold;
    } in
    subst (λ (d : OnDisk). IsImage (disk_of system) d) (sym is) image

pub image_under : (gone : Left) (d e : OnDisk) → CrashesUnder d gone e → IsImage d e
image_under gone d e (system, after, was, is, same) =
    subst (λ (x : OnDisk). IsImage x e) was (subst (λ (x : OnDisk). IsImage (disk_of system) x) same (left_is_one (remainder_of gone) system after is))

-- which voters a store that runs leaves
record KeepsAlone (config : Config) (s : EngineState) (cut : CutRound) : Type 0 where
  pub world : World
  pub none : cut ≡ uncut world
  pub keeps : Keeps (home_of config) s world

alone : (config : Config) (s : EngineState) (cut : CutRound) → has_failed s ≡ false → LeavesAt (home_of config) s cut → KeepsAlone config s cut
alone config s cut alive (running W none keeps) = record { world = W; none = none; keeps = keeps }
alone config s cut alive (is_left failed l) = absurd (false≢true (sym alive ∙ failed))

pub loses_spared : (config : Config) (s : EngineState) (cut : CutRound) (d : OnDisk) → OnlyLoses config s d → (under : LeavesAt (home_of config) s cut) → SparesStore (home_of config) s cut under d
loses_spared config s cut d loses (running W none keeps) = losses_leave_no_chance (home_of config) s keeps.map [] keeps.holds d loses.1
loses_spared config s cut d loses (is_left failed l) = absurd (false≢true (sym loses.0 ∙ failed))

-- it is left at rest
pub loses_rests : (c e : Config) (s : EngineState) (cut : CutRound) (after : MemoryFileSystem) → AreSame e c → IsImage s.pipes.disk (disk_of after) → OnlyLoses c s (disk_of after) → LeavesAt (home_of c) s cut → IsPlainly e (disk_of after) cut
loses_rests c e s cut after same is loses under =
    let home = home_of c in
    let k = alone c s cut loses.0 under in
    let chance : LeavesNoChance home s.pipes (disk_of after) = losses_leave_no_chance home s k.keeps.map [] k.keeps.holds (disk_of after) loses.1 in
    let (n, within, at, opens) = crashed_engines_open disk_of (λ system directory free. Unit {0}) home s k.keeps.map [] k.keeps.holds after (memory_sound after) is chance in
    let still : IsDurableAs (log_in home) (disk_of after) k.keeps.map = subst (λ (l : List LogRecordValue). IsDurableAs (log_in home) (disk_of after) (taken k.keeps.map l)) (take-nil n) at in
    let there : IsDurableAs (log_in (home_of e)) (disk_of after) k.keeps.map = subst (λ (h : LogDirectories). IsDurableAs (log_in h) (disk_of after) k.keeps.map) (sym (one_home e c same)) still in
    (rests s.pipes.disk is k.keeps.map there k.world k.keeps.means (follows_none cut k.world k.none), tt)

pub foreign_records_break_the_premise : ForeignRecordsBreakPremise
foreign_records_break_the_premise config s cut alive (running W none keeps) d has spares = foreign_records_are_chance (home_of config) s keeps.map [] keeps.holds d has spares
foreign_records_break_the_premise config s cut alive (is_left failed l) d has spares = absurd (false≢true (sym alive ∙ failed))
