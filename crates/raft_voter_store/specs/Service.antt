-- A store as a service of rounds. `service_in` says in which directories the store's log is; `voter_service` says only
-- that there are some. A voter's outline is the voter without the data of its entries. A `CutRound` has the voters
-- before a round that was cut off, its requests, and the positions of the refused ones. Voters are possible after it if
-- they took the requests before some position, without the refused ones.
use Rattle.std.specs.Prelude.{◌≡◌, ℕ, true, List}
use Rattle.raft_log_fs.specs.Causes.{Fails}
use Rattle.raft_log_engine.specs.raft_log_engine_laws.specs.EngineState.{LogDirectories, EngineState, has_failed}
use Rattle.raft_voter_messages.specs.declared.reply.Reply.{Reply}
use Rattle.raft_voter_messages.specs.declared.request.Request.{Request}
use Rattle.raft_voter_outline.specs.State.{State}
use Rattle.raft_voter.specs.Rounds.{World}
use Rattle.raft_voter.specs.Service.{CutRound, MayFollow, Service, refused_from, uncut}
use Rattle.raft_voter_durability_laws.specs.Standing.{AreOutlines, IsLeftAmong, Keeps}
use Rattle.raft_voter_store.specs.Refusals.{AreExcused}

-- in some directories, the log of engine `s` stores the voters of world `W`, and `os` are their outlines
abbrev pub ServesVoters : EngineState → (ℕ → State) → World → Type 0
ServesVoters s os W = (home : LogDirectories) × Keeps home s W × AreOutlines os W

-- In some directories, the engine's files can be opened again. Whichever prefix of the pending batches a crash keeps,
-- the log then stores voters that are possible after the round `cut`.
abbrev pub LeavesBehind : EngineState → CutRound → Type 0
LeavesBehind s cut = (home : LogDirectories) × IsLeftAmong home s.pipes.disk (MayFollow cut)

-- What a store with its log in the directories `home` leaves:
-- - `running`: no round was cut off, and the log stores the store's voters.
-- - `left`: the engine has failed, and its files can be opened again. As in `LeavesBehind`, the log then stores voters
--   that are possible after the round `cut`.
pub data LeavesAt (home : LogDirectories) (s : EngineState) (cut : CutRound) : Type 0 where
  running : (W : World) → cut ≡ uncut W → Keeps home s W → LeavesAt home s cut
  left : has_failed s ≡ true → IsLeftAmong home s.pipes.disk (MayFollow cut) → LeavesAt home s cut

-- `refused` are the positions of the replies `Refused` in some list of replies to the round `qs`. Each of these replies
-- has a reason (`AreExcused`).
abbrev pub MayRefuse : EngineState → EngineState → (ℕ → State) → List (ℕ × Request) → List ℕ → Type 0
MayRefuse s t os qs refused = (told : List Reply) × (refused ≡ refused_from 0 told) × AreExcused qs told s t os

-- a file call failed between the states `s` and `t` of a store
abbrev pub HasFailedCall : EngineState → EngineState → Type 0
HasFailedCall s t = Fails s.pipes.disk t.pipes.disk

-- a store as a service; `shows` gives the state of the store's engine, and `outlines` the store's outlines
abbrev pub voter_service : {S : Type 0} → (S → EngineState) → (S → ℕ → State) → Service S
voter_service shows outlines = record {
  serves = λ store W. ServesVoters (shows store) (outlines store) W;
  is_failed = λ store. has_failed (shows store);
  leaves = λ store cut. LeavesBehind (shows store) cut;
  may_refuse = λ old new requests refused. MayRefuse (shows old) (shows new) (outlines old) requests refused;
  fails = λ old new. HasFailedCall (shows old) (shows new);
}

-- A store as a service, with its log in the directories that `home` gives. `shows` gives the state of the store's
-- engine, and `outlines` the store's outlines.
abbrev pub service_in : {S : Type 0} → (S → LogDirectories) → (S → EngineState) → (S → ℕ → State) → Service S
service_in home shows outlines = record {
  serves = λ store W. Keeps (home store) (shows store) W × AreOutlines (outlines store) W;
  is_failed = λ store. has_failed (shows store);
  leaves = λ store cut. LeavesAt (home store) (shows store) cut;
  may_refuse = λ old new requests refused. MayRefuse (shows old) (shows new) (outlines old) requests refused;
  fails = λ old new. HasFailedCall (shows old) (shows new);
}
