-- Append goes on in its file while Rewrite is written and synced.
use Rattle.std.proofs.Common.{◌≡◌, refl, sym, ◌∙◌}
use Rattle.raft_log_record_base.specs.declared.pipe_log.FileBlockHandle.{FileBlockHandle}
use Rattle.raft_log_record_frames.specs.declared.marking.Marking.TheVariants.{Unmarked}
use Rattle.raft_log_model_laws.specs.Item.Record.{Plain}
use Rattle.raft_log_record_batches.specs.Batch.{Batch}
use Rattle.raft_log_block_cache.specs.Signing.{signed_for}
use Rattle.raft_log_machine_laws.specs.Calls.Which.{InRewrite}
use Rattle.raft_log_dual_pipes.specs.Steps.{next_log}
use Rattle.raft_log_dual_pipes.specs.Pipes.{LogPipes, RunsOn, State}
use Rattle.raft_log_dual_pipes.specs.Calls.{AppendsTo, SyncsQueue}
use Rattle.raft_log_engine_laws.specs.EngineState.{LogDirectories, sense}
use Rattle.raft_log_engine_laws.specs.Rewriting.{CountsAlone}
use Rattle.raft_log_engine_laws.proofs.Public.{bytes_of, says_marked}
use Rattle.raft_log_purge_copy.specs.Parts.{StaysInFile, append_file}

-- the file that Append is written in is the last one of its span
file_is_last : (home : LogDirectories) (v : LogPipes) (s : State) → RunsOn (sense home) v s → append_file v ≡ s.append.files.last
file_is_last home v s runs = runs.run.append.pipe.number

pub stays_same : (v : LogPipes) → StaysInFile v v
stays_same v home s runs = ((s, runs), refl)

pub stays_on : (a b c : LogPipes) → StaysInFile a b → StaysInFile b c → StaysInFile a c
stays_on a b c first then home s runs =
    let (mid, same) = first home s runs in
    let (last, goes_on) = then home mid.0 mid.1 in
    (last, goes_on ∙ same)

-- a record that counts by itself was written to Rewrite
pub record_stays : (b : Batch) (block : FileBlockHandle) (v w : LogPipes) → CountsAlone b → AppendsTo InRewrite (signed_for b) block v w → StaysInFile v w
record_stays b block v w alone call home s runs =
    let says = says_marked home b Unmarked (Plain (bytes_of b)) alone.some alone.plain refl alone.says alone.laid in
    let (files, has, last, on, step) = (call (sense home) s (Plain (bytes_of b)) runs says).1 in
    let next : State = next_log InRewrite s files w.disk in
    ((next, on), file_is_last home w next on ∙ sym (file_is_last home v s runs))

-- Rewrite was synced
pub sync_stays : (v w : LogPipes) → SyncsQueue InRewrite v w → StaysInFile v w
sync_stays v w call home s runs =
    let on = (call (sense home) s runs).0 in
    let there = on.run.append.pipe.number in
    ((_, on), there ∙ sym (file_is_last home v s runs))
