use Rattle.std.proofs.Common.{◌≡◌, ap, subst, sym, ◌∙◌}
use Rattle.std.specs.Prelude.{None, false}
use Rattle.raft_log_record_batches.specs.Batch.{Batch, signed_as}
use Rattle.raft_log_block_cache.specs.Signing.{SaysItself, signed_for}
use Rattle.raft_log_record_base.specs.declared.pipe_log.FileBlockHandle.{FileBlockHandle}
use Rattle.raft_log_dual_pipes.specs.Pipes.{LogPipes}
use Rattle.raft_log_purge.specs.raft_log_engine_laws.specs.EngineState.{shows}
use Rattle.raft_log_purge.specs.raft_log_engine_laws.specs.Trying.{RefusesAt, WritesAt}
use Rattle.raft_log_purge.specs.raft_log_engine_laws.specs.Writing.{Writes}
use Rattle.raft_log_engine_core.specs.Touching.{PipeRefuses, PipeTakes, WritesRecord}
use Rattle.raft_log_dual_pipes.specs.Telling.{files_begun}
use Rattle.raft_log_dual_pipes.specs.Telling.Told.{RecordApplied, RecordWritten}
use Rattle.raft_log_dual_pipes.proofs.Public.{hears_after}
use Rattle.raft_log_record_base.specs.declared.pipe_log.LogQueue.TheVariants.{Append}
use Rattle.raft_log_engine_core.specs.Hearing.{HearsRecord}
use Rattle.raft_log_engine_core.proofs.Hearing.{goes_into_last}
use Rattle.raft_log_engine_core.proofs.Put.{ready_of, refuses_with, writes_at}
use Rattle.raft_log_engine_core.proofs.writing.append.Goals as goal

pub returns-in-Ok-clause-ok : goal.returns-in-Ok-clause-ok
returns-in-Ok-clause-ok g c =
    let b = c.args.batch.now in
    let v = g.P.PipeLog.shown c.args.pipes.now in
    let w = g.P.PipeLog.shown c.append_or_again-appended.new.pipes in
    let len = c.encoded_len-len.ensures in
    let told = c.in-Ok.ensures in
    let was : c.new-signed.result.batch ≡ signed_as None b = c.new-signed.ensures ∙ ap (signed_as None) c.replace.ensures.value in
    let says = subst (λ (x : Batch). SaysItself (signed_for x) x) was c.encoded_len.ensures.says in
    let ready = ready_of b v c.args.tables.now c.args.cache.now c.requires.some c.requires.marked c.requires.ready says (record { laid = len.laid; adds = len.adds }) in
    let call = subst (λ (x : Batch). WritesAt (signed_for x) c.in-Ok.block v w) was told.ok in (
      len.ready,
      subst (λ (x : LogPipes). Writes b false (shows v c.args.tables.now c.args.cache.now)
          (shows x c.commit.new.tables c.args.cache.now)) (sym c.post_apply_memtables.ensures.shown)
          (writes_at b v w c.args.tables.now c.commit.new.tables c.args.cache.now c.args.cache.now c.requires.lives told.later ready c.in-Ok.block c.into_batch.result
          (ap (λ (x : Batch). x.items) c.into_batch.ensures.batch ∙ ap (λ (x : Batch). x.items) told.said ∙ ap (λ (x : Batch). x.items) was)
          (ap (λ (x : Batch). x.entries) c.into_batch.ensures.batch ∙ ap (λ (x : Batch). x.entries) told.said ∙ ap (λ (x : Batch). x.entries) was)
          told.fails call c.commit.ensures.shows c.commit.ensures.counts),
    )

pub returns-in-Err-clause-err : goal.returns-in-Err-clause-err
returns-in-Err-clause-err g c =
    let b = c.args.batch.now in
    let v = g.P.PipeLog.shown c.args.pipes.now in
    let w = g.P.PipeLog.shown c.append_or_again-appended.new.pipes in
    let len = c.encoded_len-len.ensures in
    let told = c.in-Err.ensures in
    let was : c.new-signed.result.batch ≡ signed_as None b = c.new-signed.ensures ∙ ap (signed_as None) c.replace.ensures.value in
    let says = subst (λ (x : Batch). SaysItself (signed_for x) x) was c.encoded_len.ensures.says in
    let ready = ready_of b v c.args.tables.now c.args.cache.now c.requires.some c.requires.marked c.requires.ready says (record { laid = len.laid; adds = len.adds }) in
    let call = subst (λ (x : Batch). RefusesAt (signed_for x) c.in-Err.error v w) was told.err in
    refuses_with b v w c.args.tables.now c.take_back.new.self c.args.cache.now c.clear.new.self c.requires.lives told.later ready {A = FileBlockHandle} c.in-Err.error told.fails c.take_back.ensures.shows c.clear.ensures call

pub returns-in-Ok-clause-files : goal.returns-in-Ok-clause-files
returns-in-Ok-clause-files g c =
    let b = c.args.batch.now in
    let v = g.P.PipeLog.shown c.args.pipes.now in
    let w = g.P.PipeLog.shown c.append_or_again-appended.new.pipes in
    let was : c.new-signed.result.batch ≡ signed_as None b = c.new-signed.ensures ∙ ap (signed_as None) c.replace.ensures.value in
    let call = subst (λ (x : Batch). WritesAt (signed_for x) c.in-Ok.block v w) was c.in-Ok.ensures.ok in
    let takes = subst (λ (x : Batch). PipeTakes (signed_for x) c.in-Ok.block v w) was c.in-Ok.ensures.takes in
    subst (λ (x : LogPipes). WritesRecord b v x) (sym c.post_apply_memtables.ensures.shown) (c.in-Ok.block, call, takes)

pub returns-in-Err-clause-left : goal.returns-in-Err-clause-left
returns-in-Err-clause-left g c =
    let b = c.args.batch.now in
    let v = g.P.PipeLog.shown c.args.pipes.now in
    let w = g.P.PipeLog.shown c.append_or_again-appended.new.pipes in
    let was : c.new-signed.result.batch ≡ signed_as None b = c.new-signed.ensures ∙ ap (signed_as None) c.replace.ensures.value in
    let told = c.in-Err.ensures in (
      subst (λ (x : Batch). RefusesAt (signed_for x) c.in-Err.error v w) was told.err,
      subst (λ (x : Batch). PipeRefuses (signed_for x) c.in-Err.error v w) was told.told,
    )

pub returns-in-Ok-clause-told : goal.returns-in-Ok-clause-told
returns-in-Ok-clause-told g c =
    let pipes = g.P.PipeLog in
    let b = c.args.batch.now in
    let v = pipes.shown c.args.pipes.now in
    let w = pipes.shown c.append_or_again-appended.new.pipes in
    let old = pipes.listener c.args.pipes.now in
    let mid = pipes.listener c.append_or_again-appended.new.pipes in
    let new = pipes.listener c.post_apply_memtables.new.self in
    let block = c.in-Ok.block in
    let was : c.new-signed.result.batch ≡ signed_as None b = c.new-signed.ensures ∙ ap (signed_as None) c.replace.ensures.value in
    let call = subst (λ (x : Batch). WritesAt (signed_for x) block v w) was c.in-Ok.ensures.ok in
    let takes = subst (λ (x : Batch). PipeTakes (signed_for x) block v w) was c.in-Ok.ensures.takes in
    subst (λ (x : LogPipes). HearsRecord b pipes.hears v x old new) (sym c.post_apply_memtables.ensures.shown) (
      block,
      call,
      takes,
      goes_into_last (signed_for b) block v w takes,
      hears_after pipes.hears (files_begun Append v w) (RecordWritten block) (RecordApplied block.id) old mid new c.in-Ok.ensures.heard c.post_apply_memtables.ensures.told,
    )
