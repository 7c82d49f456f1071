-- What calls that change no voter leave of a store.
use Rattle.std.proofs.Common.{◌≡◌, ◌∙◌, ◌⊎◌, inl, inr, ℕ, List, [], Result, Ok, Err, IfErr, ap, sym, subst}
use Rattle.raft_voter_durability_laws.specs.raft_log_engine_laws.specs.Fetching.{StaysButBlock}
use Rattle.raft_voter_durability_laws.specs.raft_log_engine_laws.specs.EngineState.{LogDirectories, EngineState, has_failed}
use Rattle.raft_log_fs.specs.Disk.{Disk as OnDisk}
use Rattle.raft_log_fs.specs.Exits.{denied_by}
use Rattle.raft_log_fs.specs.declared.handle.Fault.{Fault as DiskFault}
use Rattle.raft_log_fs_memory.specs.Turns.{armed, armed_with}
use Rattle.raft_log_fs_memory.specs.declared.memory.MemoryFileSystem.{MemoryFileSystem}
use Rattle.raft_log_engine.specs.raft_log_engine_core.specs.Whole.{ArmsEngine}
use Rattle.raft_voter_outline.specs.State.{State}
use Rattle.raft_voter.specs.Rounds.{World}
use Rattle.raft_voter.specs.Service.{CutRound, MayFollow}
use Rattle.raft_voter_durability_laws.specs.Standing.{AreOutlines, IsLeftAmong, Keeps}
use Rattle.raft_voter_recovery.specs.Reading.{ListsVoters}
use Rattle.raft_voter_store.specs.Service.{LeavesAt, service_in}
use Rattle.raft_voter_store.specs.Service.LeavesAt.{left, running}
use Rattle.raft_voter_world.specs.declared.faults.Fault.{Fault}
use Rattle.raft_voter_world.specs.declared.faults.Fault.TheVariants.{Refuse, Stop}
use Rattle.raft_voter_world.specs.Stores.{StaysAsItWas, TellsVoters}
use Rattle.raft_voter_log.specs.Faults.{fault_of}
use Rattle.raft_voter_log.specs.Instance.{ArmsStore}
use Rattle.raft_voter_log.proofs.Listed.{kept_voters_are_told}

-- what three clauses say of a refusal
pub of_refusals : {X E : Type 0} (r : Result X E) (P Q T R : E → Type 0) → ((e : E) → P e → Q e → T e → R e) → IfErr r P → IfErr r Q → IfErr r T → IfErr r R
of_refusals (Ok x) P Q T R f p q t = tt
of_refusals (Err e) P Q T R f p q t = f e p q t

moved_leaves : (h k : LogDirectories) (s t : EngineState) (cut : CutRound) → k ≡ h → t ≡ s → LeavesAt h s cut → LeavesAt k t cut
moved_leaves h k s t cut here same l = subst (λ (x : LogDirectories). LeavesAt x t cut) (sym here) (subst (λ (x : EngineState). LeavesAt h x cut) (sym same) l)

read_keeps : (h : LogDirectories) (s t : EngineState) (W : World) → StaysButBlock s t → Keeps h s W → Keeps h t W
read_keeps h s t W stays keeps = record { map = keeps.map; holds = stays.holds h keeps.map [] keeps.holds; means = keeps.means }

read_leaves : (h : LogDirectories) (s t : EngineState) (cut : CutRound) → StaysButBlock s t → LeavesAt h s cut → LeavesAt h t cut
read_leaves h s t cut stays (running W none keeps) = running W none (read_keeps h s t W stays keeps)
read_leaves h s t cut stays (left failed l) =
    left (ap has_failed stays.same ∙ failed) (subst (λ (x : EngineState). IsLeftAmong h x.pipes.disk (MayFollow cut)) (sym stays.same) l)

-- a fault of the file system is armed as one of the world
pub arms_as : (fault : Fault) (f : DiskFault) (old new : MemoryFileSystem) (s t : EngineState) → f ≡ fault_of fault → ArmsEngine f s t → armed new ≡ armed_with f (armed old) → ArmsStore fault old new s t
arms_as fault f old new s t is arms has = inl (subst (λ (x : DiskFault). ArmsEngine x s t) is arms, has ∙ ap (λ (x : DiskFault). armed_with x (armed old)) is)

-- an armed stop or refusal changes nothing of what an engine shows
arms_nothing : (fault : Fault) (s t : EngineState) → ArmsEngine (fault_of fault) s t → t ≡ s
arms_nothing fault s t arms =
    let disk : t.pipes.disk ≡ s.pipes.disk = on_disk fault arms.pipes.disk.marks in
    arms.others ∙ ap (λ p. record s { pipes = p }) (arms.pipes.others ∙ ap (λ (d : OnDisk). record s.pipes { disk = d }) disk)
  where
    on_disk : (f : Fault) → (t.pipes.disk ≡ s.pipes.disk) ⊎ (t.pipes.disk ≡ denied_by (fault_of f) s.pipes.disk) → t.pipes.disk ≡ s.pipes.disk
    on_disk f (inl same) = same
    on_disk (Stop calls) (inr same) = same
    on_disk (Refuse calls) (inr same) = same

module _ {S : Type 0} (home : S → LogDirectories) (shows : S → EngineState) (outlines : S → ℕ → State) where
  pub same_stays : (old new : S) → home new ≡ home old → shows new ≡ shows old → outlines new ≡ outlines old → StaysAsItWas (service_in home shows outlines) old new
  same_stays old new here same os = record {
    failed = ap has_failed same;
    served = λ W at. record {
      alive = ap has_failed same ∙ at.alive;
      serves = (
        subst (λ (x : LogDirectories). Keeps x (shows new) W) (sym here) (subst (λ (x : EngineState). Keeps (home old) x W) (sym same) at.serves.0),
        subst (λ (x : ℕ → State). AreOutlines x W) (sym os) at.serves.1,
      );
      left = moved_leaves (home old) (home new) (shows old) (shows new) _ here same at.left;
    };
    left = λ cut l. moved_leaves (home old) (home new) (shows old) (shows new) cut here same l;
  }

  pub armed_stays : (fault : Fault) (f : DiskFault) (old new : S) → home new ≡ home old → f ≡ fault_of fault → ArmsEngine f (shows old) (shows new) → outlines new ≡ outlines old → StaysAsItWas (service_in home shows outlines) old new
  armed_stays fault f old new here is arms os = same_stays old new here (arms_nothing fault (shows old) (shows new) (subst (λ (x : DiskFault). ArmsEngine x (shows old) (shows new)) is arms)) os

  pub read_stays : (old new : S) → home new ≡ home old → StaysButBlock (shows old) (shows new) → outlines new ≡ outlines old → StaysAsItWas (service_in home shows outlines) old new
  read_stays old new here stays os = record {
    failed = ap has_failed stays.same;
    served = λ W at. record {
      alive = ap has_failed stays.same ∙ at.alive;
      serves = (
        subst (λ (x : LogDirectories). Keeps x (shows new) W) (sym here) (read_keeps (home old) (shows old) (shows new) W stays at.serves.0),
        subst (λ (x : ℕ → State). AreOutlines x W) (sym os) at.serves.1,
      );
      left = still (left_at at.left);
    };
    left = λ cut l. still (read_leaves (home old) (shows old) (shows new) cut stays l);
  }
    where
      left_at : {cut : CutRound} → LeavesAt (home old) (shows old) cut → LeavesAt (home old) (shows new) cut
      left_at {cut} l = read_leaves (home old) (shows old) (shows new) cut stays l

      still : {cut : CutRound} → LeavesAt (home old) (shows new) cut → LeavesAt (home new) (shows new) cut
      still {cut} l = subst (λ (x : LogDirectories). LeavesAt x (shows new) cut) (sym here) l

  -- the voters that are listed are those that are served
  pub tells_voters : (store : S) (voters : List (ℕ × State)) → ListsVoters (shows store) voters → TellsVoters (service_in home shows outlines) store voters
  tells_voters store voters lists W at = sym (kept_voters_are_told (home store) (shows store) W voters at.serves.0 lists)

pub armed_stopped : (fault : Fault) (f : DiskFault) (s t : EngineState) → f ≡ fault_of fault → ArmsEngine f s t → t.pipes.disk.stopped ≡ s.pipes.disk.stopped
armed_stopped fault f s t is arms = ap (λ (x : EngineState). x.pipes.disk.stopped) (arms_nothing fault s t (subst (λ (x : DiskFault). ArmsEngine x s t) is arms))
