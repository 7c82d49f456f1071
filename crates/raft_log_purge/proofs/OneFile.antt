-- Append's span has one file once all of it was rewritten.
use Rattle.std.proofs.Common.{◌≡◌, ◌≤◌, ℕ, suc, List, inl, inr, sym, ap, ◌∙◌, arith}
use Rattle.raft_log_file_writer.specs.LogQueue.{LogFiles}
use Rattle.raft_log_machine_laws.specs.Calls.Which.{InAppend}
use Rattle.raft_log_dual_pipes.specs.Pipes.{LogPipes, RunsOn, LogRecordValue, State}
use Rattle.raft_log_dual_pipes.specs.Calls.{PurgesQueue, RotatesQueue, SyncsQueue}
use Rattle.raft_log_purge_copy.specs.raft_log_engine_laws.specs.EngineState.{LogDirectories, LogMap, EngineState, sense}
use Rattle.raft_log_purge_copy.specs.raft_log_engine_laws.specs.Holding.{Represents}
use Rattle.raft_log_purge_policy.specs.Watermarks.{first_at}
use Rattle.raft_log_dual_pipes.specs.LastFile.{last_of}
use Rattle.raft_log_purge_copy.specs.Parts.{StaysInFile}
use Rattle.raft_log_purge.specs.Append.{GoesOnPast, HasOneFile, beginning}

-- a purge of Append's files leaves the last one
pub purge_stays : (seq : ℕ) (v w : LogPipes) → PurgesQueue InAppend seq v w → StaysInFile v w
purge_stays seq v w call home s runs =
    let on = (call (sense home) s runs).0 in
    let there = on.run.append.pipe.number in
    ((_, on), there ∙ sym runs.run.append.pipe.number)

-- Append was synced
synced_stays : (v w : LogPipes) → SyncsQueue InAppend v w → StaysInFile v w
synced_stays v w call home s runs =
    let on = (call (sense home) s runs).0 in
    let there = on.run.append.pipe.number in
    ((_, on), there ∙ sym runs.run.append.pipe.number)

-- it went on in its next file
pub turned : (v w : LogPipes) (home : LogDirectories) (s : State) → RunsOn (sense home) v s → RotatesQueue InAppend v w
    → ((next : State) × RunsOn (sense home) w next) × (last_of InAppend w ≡ suc (last_of InAppend v))
turned v w home s runs call =
    let (files, goes, on, step) = call (sense home) s runs in
    let (room, stale, is_stale, same) = goes in
    let there = on.run.append.pipe.number in
    let here = runs.run.append.pipe.number in
    let behind = ap (λ (q : LogFiles _). q.last) same in
    ((_, on), omega (arith, there, here, behind))

-- the span begins at its last file or before
pub begins_low : (home : LogDirectories) (e : EngineState) (m : LogMap) (pending : List LogRecordValue) → Represents home e m pending
    → first_at InAppend e.pipes ≤ last_of InAppend e.pipes
begins_low home e m pending h =
    let first = h.runs.run.append.first in
    let last = h.runs.run.append.pipe.number in
    let above = h.at.there.append.above in omega (arith, first, last, above)

-- from the file behind the gate on, where Append's files up to it are gone, and nothing lies behind
pub one_is_left : (gate least : ℕ) (home : LogDirectories) (s : EngineState) (log : LogMap) (pending : List LogRecordValue) (synced past mid last : LogPipes) → Represents home s log pending → SyncsQueue InAppend s.pipes synced → gate ≡ last_of InAppend synced
    → GoesOnPast gate synced past → StaysInFile past mid → StaysInFile mid last → first_at InAppend mid ≤ last_of InAppend mid → least ≤ last_of InAppend mid → first_at InAppend last ≡ beginning gate least mid → HasOneFile last
one_is_left gate least home s log pending synced past mid last h syncs is goes on then low limited begins =
    let one = synced_stays s.pipes synced syncs home h.state h.runs in
    elim goes as (λ _. HasOneFile last) [
      | inl rotates ↦ (let two = turned synced past home one.0.0 one.0.1 rotates.1 in
          let three = on home two.0.0 two.0.1 in
          let four = then home three.0.0 three.0.1 in
          let behind = two.1 in
          let stayed = three.1 in
          let ends = four.1 in omega (arith, is, behind, stayed, ends, low, limited, begins))
      | inr still ↦ (let below = still.0 in absurd (omega (arith, is, below)))
    ]
