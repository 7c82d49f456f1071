-- Two opens of the same files.
use Rattle.std.proofs.Common.{◌≡◌, ◌∙◌, ℕ, List, [], take, refl, sym, ap, subst}
use Rattle.std.proofs.Math.Seq.{take-nil}
use Rattle.std.specs.Prelude.{Contains}
use Rattle.raft_log_fs.specs.Disk.{Disk}
use Rattle.raft_log_record_base.specs.declared.pipe_log.LogQueue.TheVariants.{Append}
use Rattle.raft_log_model_laws.specs.Groups.{taken}
use Rattle.raft_log_machine_laws.specs.Fresh.{nothing_stands}
use Rattle.raft_log_file_format.specs.Name.{suffix_of}
use Rattle.raft_log_file_settings.specs.declared.config.Config.{Config}
use Rattle.raft_voter_durability_laws.specs.raft_log_engine_laws.specs.raft_log_memtables.specs.declared.mem_tables.MemTables.{MemTables}
use Rattle.raft_voter_durability_laws.specs.raft_log_engine_laws.specs.raft_log_dual_pipes.specs.Pipes.{LogPipes, LogRecordValue}
use Rattle.raft_voter_durability_laws.specs.raft_log_engine_laws.specs.raft_log_active_file.specs.Paths.{IsPathWith, reserved_suffix_of}
use Rattle.raft_voter_durability_laws.specs.raft_log_engine_laws.specs.Holding.{Represents}
use Rattle.raft_voter_durability_laws.specs.raft_log_engine_laws.specs.raft_log_dual_pipes.specs.OnDisk.{IsDurableAs}
use Rattle.raft_voter_durability_laws.specs.raft_log_engine_laws.specs.EngineState.{LogDirectories, LogMap, EngineState, log_in}
use Rattle.raft_log_recovery.specs.Directories.{paths_of}
use Rattle.raft_log_open.specs.Opening.{OpensDirectory}
use Rattle.raft_log_recovery_laws.specs.Bare.{IsBare}
use Rattle.raft_log_recovery_laws.specs.ByCalls.{home_of}
use Rattle.raft_log_recovery_laws.specs.Opened.{HoldsFresh}
use Rattle.raft_log_recovery_laws.proofs.Public.{bare_directories_open, crashed_directories_open, crashed_engines_open, resting_directories_open, standing_directories_open}
use Rattle.raft_voter_outline.specs.State.{State}
use Rattle.raft_voter.specs.Rounds.{World, fresh_world}
use Rattle.raft_voter_records.specs.Voters.{Means}
use Rattle.raft_voter_records.proofs.Public.{empty_maps_are_fresh, one_world}
use Rattle.raft_voter_durability_laws.specs.Standing.{AreOutlines}
use Rattle.raft_voter_store.specs.Opening.{OpensVoters}
use Rattle.raft_voter_log.specs.StoreWorkers.{AreAlike, WorkersOpenAlike}
use Rattle.raft_voter_log.specs.StoreWorkers.AreAStores.{bare, rests, of_running, of_left, left}
use Rattle.raft_voter_log.proofs.Listed.{listed_alike}

-- an open by these settings makes an engine that holds this map
abbrev HoldsWhere : {F : Type 0} → (F → Disk) → (F → List ℕ → ℕ → Type 0) → F → LogMap → Config → Type 0
HoldsWhere disk tells old m config = (v : LogPipes) (tables : MemTables) → OpensDirectory disk tells config old v tables → HoldsFresh (home_of config) v tables m

-- by all settings that name the directories
abbrev HoldsEverywhere : {F : Type 0} → (F → Disk) → (F → List ℕ → ℕ → Type 0) → F → LogDirectories → LogMap → Type 0
HoldsEverywhere disk tells old home m = (config : Config) → home_of config ≡ home → HoldsWhere disk tells old m config

-- so a store that is opened does
found : {F : Type 0} (disk : F → Disk) (tells : F → List ℕ → ℕ → Type 0) (old : F) (home : LogDirectories) (m : LogMap) (W : World) → Means m W → (config : Config) → home_of config ≡ home → HoldsWhere disk tells old m config
    → (t : EngineState) (os : ℕ → State) → OpensVoters disk tells config old t os → Represents home t m [] × AreOutlines os W
found disk tells old home m W means config named holds t os o =
    let fresh = holds o.opens.pipes o.opens.tables o.opens.opens o.opens.cache o.opens.none in
    let h : Represents (home_of config) o.engine m [] = subst (λ (x : EngineState). Represents (home_of config) x m []) (sym o.opens.is) fresh in
    let (V, told, are) = o.reads (home_of config) m h in (
      subst (λ (x : LogDirectories). Represents x t m []) named (o.stays.holds (home_of config) m [] h),
      subst (λ (X : World). AreOutlines os X) (one_world m V W told means) are,
    )

alike : {F : Type 0} (disk : F → Disk) (tells : F → List ℕ → ℕ → Type 0) (old : F) (home : LogDirectories) (m : LogMap) (W : World) → Means m W → HoldsEverywhere disk tells old home m
    → (one other : Config) → home_of one ≡ home → home_of other ≡ home → (s t : EngineState) (os us : ℕ → State) → OpensVoters disk tells one old s os → OpensVoters disk tells other old t us → AreAlike home s t os us
alike disk tells old home m W means holds one other first second s t os us a b =
    let x = found disk tells old home m W means one first (holds one first) s os a in
    let y = found disk tells old home m W means other second (holds other second) t us b in
    record {
      world = W;
      first = (record { map = m; holds = x.0; means = means }, x.1);
      second = (record { map = m; holds = y.0; means = means }, y.1);
      listed = λ vs ws v w. listed_alike m vs ws v.rising w.rising (v.stored home m x.0) (w.stored home m y.0);
    }

-- directories are bare for all settings that name them
bare_too : (one other : Config) (d : Disk) → home_of one ≡ home_of other → IsBare one d → IsBare other d
bare_too one other d same b = record {
  numbered = λ queue n path at. b.numbered queue n path (subst (λ (ps : List (List ℕ)). IsPathWith (suffix_of queue) ps n path) back at);
  reserved = λ n path at. b.reserved n path (subst (λ (ps : List (List ℕ)). IsPathWith (reserved_suffix_of Append) ps n path) back at);
  unnamed = λ path at. b.unnamed path (subst (λ (ps : List (List ℕ)). Contains ps path) back at);
}
  where
    back : paths_of other ≡ paths_of one
    back = ap (λ (h : LogDirectories). h.append) (sym same)

pub workers_open_alike : {F : Type 0} (disk : F → Disk) (tells : F → List ℕ → ℕ → Type 0) → WorkersOpenAlike disk tells
workers_open_alike disk tells home some more old sound (bare config named b) =
    alike disk tells old home nothing_stands fresh_world (empty_maps_are_fresh nothing_stands (λ g s. refl))
    (λ other is. (bare_directories_open disk tells other old sound (bare_too config other (disk old) (named ∙ sym is) b)).answered)
workers_open_alike disk tells home some more old sound (rests m W lies means) =
    alike disk tells old home m W means
    (λ config is. (resting_directories_open disk tells config old m sound (subst (λ (h : LogDirectories). IsDurableAs (log_in h) (disk old) m) (sym is) lies)).answered)
workers_open_alike disk tells home some more old sound (of_running e W keeps is chance) =
    let (k, within, lies, opens) = crashed_engines_open disk tells home e keeps.map [] keeps.holds old sound is chance in
    let same : take k [] ≡ [] = take-nil k in
    alike disk tells old home keeps.map W keeps.means
    (λ config named. subst (λ (l : List LogRecordValue). HoldsWhere disk tells old (taken keeps.map l) config) same (opens config named).answered)
workers_open_alike disk tells home some more old sound (of_left before cut was crash) =
    let (k, within, lies, opens) = crashed_directories_open disk tells home some more before old was.map was.pending sound was.left crash in
    let (X, passes, means) = was.among k within in
    alike disk tells old home (taken was.map (take k was.pending)) X means (λ config named. (opens config named).answered)
workers_open_alike disk tells home some more old sound (left cut was chance) =
    let (k, within, lies, opens) = standing_directories_open disk tells home some more old was.map was.pending sound was.left chance in
    let (X, passes, means) = was.among k within in
    alike disk tells old home (taken was.map (take k was.pending)) X means (λ config named. (opens config named).answered)
