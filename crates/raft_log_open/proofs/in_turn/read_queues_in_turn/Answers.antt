use Rattle.std.proofs.Common.{subst, sym}
use Rattle.raft_log_record_base.specs.declared.errors.Error.{Error}
use Rattle.raft_log_replay_context.specs.Batches.{Declines, HasReadBatches}
use Rattle.raft_log_recovery.specs.Finding.{FindsLog}
use Rattle.raft_log_recovery.specs.Recovering.{FailsToRecoverLog}
use Rattle.raft_log_recovery.specs.declared.builder.DualPipesBuilder.{DualPipesBuilder}
use Rattle.raft_log_open.specs.Finding.FindsUnpadded.{as_it_stood}
use Rattle.raft_log_open.specs.Opening.FailsToOpenDirectory.{unread}
use Rattle.raft_log_open.proofs.Padding.{opened_unpadded, refused_unpadded}
use Rattle.raft_log_open.proofs.Whole.{reads_queues}
use Rattle.raft_log_open.proofs.in_turn.read_queues_in_turn.Goals as goal

pub returns-in-Ok-recover_in_turn-clause-ok : goal.returns-in-Ok-recover_in_turn-clause-ok
returns-in-Ok-recover_in_turn-clause-ok g c =
    reads_queues c.args.config c.in-Ok-recover_in_turn.append c.in-Ok-recover_in_turn.rewrite c.in-Ok.builder c.recover_in_turn.new.self _ _ _ (as_it_stood c.in-Ok.ensures.ok) c.in-Ok-recover_in_turn.ensures.ok

pub returns-in-InvalidArgument-clause-ok : goal.returns-in-InvalidArgument-clause-ok
returns-in-InvalidArgument-clause-ok g c =
    let D = g.F.FileSystem.disk in
    let was = c.recover_in_turn.new.self in
    let old = D c.args.file_system.now in
    let found = D c.find.new.file_system in
    let padded = D c.recover_in_turn.new.file_system in
    let same = sym c.in-Err-recover_in_turn.ensures.same in
    let finds = subst (λ (b : DualPipesBuilder). FindsLog c.args.config b old found) same c.in-Ok.ensures.ok in
    let fails = subst (λ (b : DualPipesBuilder). FailsToRecoverLog HasReadBatches Declines b c.in-Err-recover_in_turn.error found padded) same c.in-Err-recover_in_turn.ensures.err in
    let tells = subst (λ (e : Error). FailsToRecoverLog HasReadBatches Declines was e found padded) c.in-InvalidArgument.is fails in
    opened_unpadded c.args.config was c.in-InvalidArgument.field-0 old found padded (D c.read_unpadded_in_turn.new.file_system) c.read_unpadded_in_turn.result finds tells c.read_unpadded_in_turn.ensures.ok

pub returns-in-InvalidArgument-clause-err : goal.returns-in-InvalidArgument-clause-err
returns-in-InvalidArgument-clause-err g c =
    let D = g.F.FileSystem.disk in
    let was = c.recover_in_turn.new.self in
    let old = D c.args.file_system.now in
    let found = D c.find.new.file_system in
    let padded = D c.recover_in_turn.new.file_system in
    let same = sym c.in-Err-recover_in_turn.ensures.same in
    let finds = subst (λ (b : DualPipesBuilder). FindsLog c.args.config b old found) same c.in-Ok.ensures.ok in
    let fails = subst (λ (b : DualPipesBuilder). FailsToRecoverLog HasReadBatches Declines b c.in-Err-recover_in_turn.error found padded) same c.in-Err-recover_in_turn.ensures.err in
    let tells = subst (λ (e : Error). FailsToRecoverLog HasReadBatches Declines was e found padded) c.in-InvalidArgument.is fails in
    refused_unpadded D g.F.FileSystem.tells_space c.args.config was c.in-InvalidArgument.field-0 c.args.file_system.now c.read_unpadded_in_turn.new.file_system found padded c.read_unpadded_in_turn.result finds tells c.read_unpadded_in_turn.ensures.err

pub returns-in_default : goal.returns-in_default
returns-in_default g c = record { ok = tt; err = unread c.in-Ok.builder _ c.in-Ok.ensures.ok c.in-Err-recover_in_turn.ensures.err c.in_default.not-InvalidArgument }
