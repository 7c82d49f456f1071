-- An engine's other calls, and opens, as steps of its voters.
use Rattle.std.proofs.Common.{◌≡◌, ◌⊎◌, ℕ, ◌≤◌, [], length, take, refl, inl, inr}
use Rattle.raft_log_fs.specs.Disk.{Disk}
use Rattle.raft_log_model_laws.specs.Groups.{taken}
use Rattle.raft_log_record_base.specs.declared.errors.Error.{Error}
use Rattle.raft_log_record_base.specs.declared.errors.Error.TheVariants as errors
use Rattle.raft_log_engine_laws.specs.EngineState.{LogDirectories, LogMap, EngineState}
use Rattle.raft_log_engine_laws.specs.Holding.{Represents, IsRecoverableAs}
use Rattle.raft_log_engine_laws.specs.raft_log_dual_pipes.specs.OpenOrClosed.{both_open}
use Rattle.raft_log_engine_laws.specs.raft_log_dual_pipes.specs.Pipes.{files_of}
use Rattle.raft_log_engine_laws.proofs.Public.{engines_lie_on_disks}
use Rattle.raft_log_machine_laws.specs.Fresh.{nothing_stands}
use Rattle.raft_voter_records.proofs.Public.{among_none, empty_maps_are_fresh}
use Rattle.raft_voter.specs.Rounds.{TakesFirst, World, fresh_world}
use Rattle.raft_voter_records.specs.Voters.{Means}
use Rattle.raft_voter_durability_laws.specs.Standing.{IsLeftAmong, Keeps}
use Rattle.raft_voter_durability_laws.specs.Calls.{KeepsMap, KeepsOrLeaves, KeepsOrLeavesMap, LeavesLeft, OpensAmong}
use Rattle.raft_voter_durability_laws.specs.Laws.{EnginesLeaveLogs, FreshLogsHaveFreshVoters, OpensFindVoters, PurgesKeepVoters, VotersAreLeft}

-- a log that is left with the map of these voters, and nothing pending, is left with them
pub left_alone : (home : LogDirectories) (d : Disk) (m : LogMap) (P : World → Type 0) (V : World) → IsRecoverableAs home d m [] → P V → Means m V → IsLeftAmong home d P
left_alone home d m P V left passes means = record { map = m; pending = []; left = left; among = among_none P m V passes means }

-- Purges.

kept : (home : LogDirectories) (V : World) (s t : EngineState) → Keeps home s V → KeepsMap s t → Keeps home t V
kept home V s t k keeps = record { map = k.map; holds = keeps home k.map [] k.holds; means = k.means }

refused : (home : LogDirectories) (V : World) (error : Error) (s t : EngineState) → Keeps home s V → KeepsOrLeavesMap error s t → KeepsOrLeaves home error t V
refused home V error s t k purge = by_exit (purge home k.map [] k.holds)
  where
    by_exit : Represents home t (taken k.map []) [] ⊎ ((error ≡ errors.Failed) × (IsRecoverableAs home t.pipes.disk (taken k.map []) [] ⊎ IsRecoverableAs home t.pipes.disk k.map []))
        → KeepsOrLeaves home error t V
    by_exit (inl holds) = inl (record { map = k.map; holds = holds; means = k.means })
    by_exit (inr (is, inl left)) = inr (is, left_alone home t.pipes.disk k.map (λ X. X ≡ V) V left refl k.means)
    by_exit (inr (is, inr left)) = inr (is, left_alone home t.pipes.disk k.map (λ X. X ≡ V) V left refl k.means)

pub purges_keep_voters : PurgesKeepVoters
purges_keep_voters = record { answered = kept; refused = refused }

-- The end of an engine, and a fork.

pub left_elsewhere : (home : LogDirectories) (P : World → Type 0) (d e : Disk) → IsLeftAmong home d P → LeavesLeft home d e → IsLeftAmong home e P
left_elsewhere home P d e l leaves = record { map = l.map; pending = l.pending; left = leaves l.map l.pending l.left; among = l.among }

pub voters_are_left : VotersAreLeft
voters_are_left = record {
  gone = λ home V s d k leaves. left_alone home d k.map (λ X. X ≡ V) V (leaves home k.map [] k.holds) refl k.means;
  forked = λ home V qs refused d e l leaves. left_elsewhere home (TakesFirst V qs refused) d e l leaves;
}

-- Opens.

pub opens_among : (home : LogDirectories) (d : Disk) (P : World → Type 0) (left : IsLeftAmong home d P) (k : ℕ) → k ≤ length left.pending → OpensAmong home d P left k
opens_among home d P left k within =
    let found = left.among k within in
    record {
      world = found.0;
      passes = found.1;
      answered = λ there e holds. record { map = taken left.map (take k left.pending); holds = holds; means = found.2 };
      refused = λ there new l. by_left found.0 found.1 found.2 there new l;
    }
  where
    by_left : (X : World) → P X → Means (taken left.map (take k left.pending)) X → (there : LogDirectories) (new : Disk)
        → IsRecoverableAs there new left.map left.pending ⊎ IsRecoverableAs there new (taken left.map (take k left.pending)) [] → IsLeftAmong there new P
    by_left X passes means there new (inl still) = record { map = left.map; pending = left.pending; left = still; among = left.among }
    by_left X passes means there new (inr now) = left_alone there new (taken left.map (take k left.pending)) P X now passes means

pub opens_find_voters : OpensFindVoters
opens_find_voters home d V qs refused left k within = opens_among home d (TakesFirst V qs refused) left k within

-- Logs in which nothing stands, and engines that are let go.

pub fresh_logs_have_fresh_voters : FreshLogsHaveFreshVoters
fresh_logs_have_fresh_voters = record {
  answered = λ home e holds. record { map = nothing_stands; holds = holds; means = none };
  refused = λ home d left. left_alone home d nothing_stands (λ X. X ≡ fresh_world) fresh_world left refl none;
}
  where
    none : Means nothing_stands fresh_world
    none = empty_maps_are_fresh nothing_stands (λ g s. refl)

pub engines_leave_logs : EnginesLeaveLogs
engines_leave_logs s home m pending h =
    (both_open (files_of s.pipes), record { done = []; rest = pending; splits = refl; lies = engines_lie_on_disks home s m pending h })
