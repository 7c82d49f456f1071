use Rattle.std.proofs.Common.{◌++◌, refl, sym, ap, ◌∙◌, arith}
use Rattle.raft_voter_plain.proofs.Worlds.{nothing_written, record_written}
use Rattle.raft_voter_plain.proofs.store.PlainVoters.take.Goals as goal

pub returns-then-not-may_change-clause-ok : goal.returns-then-not-may_change-clause-ok
returns-then-not-may_change-clause-ok c = nothing_written _ _ _ _ c.in_ok-reply.ensures.replies c.in_ok-reply.ensures.changes refl (sym c.if-not-may_change.ensures)

pub returns-clause-ok : goal.returns-clause-ok
returns-clause-ok c =
    record_written _ _ _ _ _ c.in_ok-record.record.items c.in_ok-reply.ensures.replies c.in_ok-reply.ensures.changes (omega arith) c.in_ok-record.ensures.small c.in_ok-record.ensures.bytes c.append.ensures.synced
    (c.in_ok-append.ensures.ok ∙ ap (λ bs. c.args.self.now.file.unsynced ++ bs) c.as_slice.ensures.value)
