use Rattle.std.proofs.Common.{refl, subst}
use Rattle.raft_voter_outline.specs.Decisions.{OutlineBecomes}
use Rattle.raft_voter_outline.specs.State.{State}
use Rattle.raft_voter_store.specs.Writing.FailsToWriteChange.{unsaid, unwritten}
use Rattle.raft_voter_store.proofs.writing.write_change.Goals as goal

pub returns-in-Err-clause-err : goal.returns-in-Err-clause-err
returns-in-Err-clause-err g c = unsaid c.in-Err.ensures.errors refl

pub returns-in_default-clause-err : goal.returns-in_default-clause-err
returns-in_default-clause-err g c = unsaid refl refl

pub returns-in-Ok-write-clause-ok : goal.returns-in-Ok-write-clause-ok
returns-in-Ok-write-clause-ok g c = record {
  batch = c.encode_change.new.batch;
  len = c.in-Ok-write.field-0;
  says = c.in-Ok.ensures.says;
  writes = c.in-Ok-write.ensures.ok;
}

pub returns-in-Ok-write-clause-becomes : goal.returns-in-Ok-write-clause-becomes
returns-in-Ok-write-clause-becomes g c =
    subst (λ (v : State). OutlineBecomes v c.args.request.now c.apply.new.self.voter) c.reserve.ensures.voter c.apply.ensures.voter

pub returns-in-Err-write-clause-err : goal.returns-in-Err-write-clause-err
returns-in-Err-write-clause-err g c =
    unwritten c.encode_change.new.batch c.in-Ok.ensures.says c.in-Ok.ensures.short c.in-Err-write.ensures.err
