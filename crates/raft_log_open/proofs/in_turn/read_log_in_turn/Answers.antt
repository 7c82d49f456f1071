use Rattle.raft_log_open.specs.Opening.FailsToOpenDirectory.{unmerged, unreadied}
use Rattle.raft_log_open.proofs.Whole.{brings, reads_log}
use Rattle.raft_log_open.proofs.in_turn.read_log_in_turn.Goals as goal

pub returns-in-Err-merge-clause-err : goal.returns-in-Err-merge-clause-err
returns-in-Err-merge-clause-err g c =
    unmerged c.in-Ok.read.append c.in-Ok.read.rewrite c.in-Ok.read.builder c.in-Ok.ensures.ok c.in-Err-merge.ensures.err

pub returns-in-Ok-initialize_files-clause-ok : goal.returns-in-Ok-initialize_files-clause-ok
returns-in-Ok-initialize_files-clause-ok g c =
    reads_log _ _ c.args.config c.in-Ok.read.append c.in-Ok.read.rewrite c.in-Ok.read.builder c.initialize_files.new.self _ _ _ c.in-Ok-merge.tables
    c.in-Ok.ensures.ok c.in-Ok-merge.ensures.ok c.in-Ok-initialize_files.ensures.ok

pub returns-in-Err-initialize_files-clause-err : goal.returns-in-Err-initialize_files-clause-err
returns-in-Err-initialize_files-clause-err g c =
    unreadied c.in-Ok.read.append c.in-Ok.read.rewrite c.in-Ok.read.builder _ c.in-Ok.ensures.ok c.in-Err-initialize_files.ensures.err

pub returns-in-Ok-initialize_files-clause-brought : goal.returns-in-Ok-initialize_files-clause-brought
returns-in-Ok-initialize_files-clause-brought g c =
    brings c.args.config c.in-Ok.read.append c.in-Ok.read.rewrite c.in-Ok.read.builder _ _ _ c.in-Ok.ensures.ok c.written-written.ensures
