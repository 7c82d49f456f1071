use Rattle.std.proofs.Common.{ap, ◌∙◌}
use Rattle.raft_log_engine_laws.specs.raft_log_memtable.specs.Room.{Promise}
use Rattle.std.proofs.lemmas.Result.{err_from_is_err_and}
use Rattle.raft_log_purge_copy.proofs.Closing.{group_ended, not_ended}
use Rattle.raft_log_purge_copy.proofs.Adding.{noted_adds}
use Rattle.raft_log_purge_copy.proofs.restating.end_parts.Goals as goal

pub returns-in_err-block-clause-err : goal.returns-in_err-block-clause-err
returns-in_err-block-clause-err g c =
    let p = err_from_is_err_and c.from_residual.result c.from_residual.ensures.1 in
    rw (p.1, p.2)
    (λ cache s number done pairs has one last lists.
    not_ended c.args.group number done c.args.parts.now pairs c.args.batch s (g.P.PipeLog.shown c.args.pipes.now) c.args.tables.now cache has last lists one c.in_err-block.field-0.0 (g.P.PipeLog.shown c.write_last.new.pipes) c.write_last.new.tables c.in_err-block.ensures.err)

pub returns-clause-ok : goal.returns-clause-ok
returns-clause-ok g c =
    let block = c.in_ok-block.block in
    let n = c.note_group.ensures in
    λ cache s number done pairs has last lists.
    group_ended c.args.group number done c.args.parts.now pairs c.args.batch s (g.P.PipeLog.shown c.args.pipes.now) c.args.tables.now cache has last lists block (g.P.PipeLog.shown c.write_last.new.pipes) c.write_last.new.tables c.note_group.new.self c.in_ok-block.ensures.ok
    (record { from = c.first_file-from.result; to = block.id.seq }) (ap (λ n. record { from = n; to = block.id.seq }) c.first_file-from.ensures) (record { noted = n.noted; others = n.others }) n.exact n.counts

pub returns-clause-counted : goal.returns-clause-counted
returns-clause-counted g c = c.in_ok-block.ensures.counted

pub returns-clause-owes : goal.returns-clause-owes
returns-clause-owes g c =
    let n = c.note_group.ensures in
    λ v h.
    noted_adds c.write_last.new.tables c.note_group.new.self c.args.group (record { from = c.first_file-from.result; to = c.in_ok-block.block.id.seq }) n.noted n.others v (c.write_last.ensures.owes v h)

pub returns-in_err-block-clause-moves : goal.returns-in_err-block-clause-moves
returns-in_err-block-clause-moves g c =
    let p = err_from_is_err_and c.from_residual.result c.from_residual.ensures.1 in
    rw p.1 (λ one alive none. c.in_err-block.ensures.moves one alive none)

pub returns-clause-moves : goal.returns-clause-moves
returns-clause-moves g c = λ one alive none group. ap (λ (q : Promise). q.moves) (c.note_group.ensures.promises group) ∙ c.in_ok-block.ensures.moves one tt none group
