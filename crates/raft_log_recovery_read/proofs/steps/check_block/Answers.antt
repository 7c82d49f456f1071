use Rattle.std.proofs.Common.{sym, subst}
use Rattle.std.proofs.lemmas.Result.{err_from_is_err_and}
use Rattle.raft_log_record_base.specs.declared.errors.Error.{Error}
use Rattle.raft_log_record_frames.specs.Record.{block_of}
use Rattle.raft_log_file_reader.specs.Source.{bytes_of, CannotRead}
use Rattle.raft_log_file_reader.specs.Refused.{bytes_at}
use Rattle.raft_log_recovery_read.specs.Faults.{TellsFault}
use Rattle.raft_log_recovery_read.proofs.FaultLemmas.{part_damaged, part_unread}
use Rattle.raft_log_recovery_read.proofs.BlockLemmas.{torn_block, whole_block}
use Rattle.raft_log_recovery_read.proofs.steps.check_block.Goals as goal

pub returns-in_err-damage-in-Err-clause-err : goal.returns-in_err-damage-in-Err-clause-err
returns-in_err-damage-in-Err-clause-err g c = λ file opened.
    let d = g.F.FileSystem.disk c.args.file_system.now in
    let gave = err_from_is_err_and c.from_residual.result c.from_residual.ensures.1 in
    let other = c.in_err-damage-in-Err.ensures.err in
    rw (gave.1, gave.2) (λ honest.
    let unread = part_unread file.source d c.args.block.offset c.in-Err.error (block_of (bytes_at c.args.block file d)) (c.in-Err.ensures.err file opened honest) other.1 in
    subst (λ (e : Error). CannotRead file.source 0 d e) (sym other.0) unread)

pub returns-in-Ok-clause-ok : goal.returns-in-Ok-clause-ok
returns-in-Ok-clause-ok g c = λ file offset opened honest block.
    whole_block file (bytes_of file.source (g.F.FileSystem.disk c.args.file_system.now)) offset c.args.block block (c.in-Ok.ensures.ok file opened honest)

pub returns-in_ok-damage-in-Err-clause-ok : goal.returns-in_ok-damage-in-Err-clause-ok
returns-in_ok-damage-in-Err-clause-ok g c = λ file offset opened honest block.
    let d = g.F.FileSystem.disk c.args.file_system.now in
    let same = c.in_ok-damage-in-Err.ensures.ok in
    let found = part_damaged file.source d c.args.block.offset c.in-Err.error (block_of (bytes_at c.args.block file d)) (c.in-Err.ensures.err file opened honest) same.1 in
    (found.0, subst (λ (e : Error). TellsFault e found.0) (sym same.0) found.1, torn_block file (bytes_of file.source d) offset c.args.block found.0 block found.2)
