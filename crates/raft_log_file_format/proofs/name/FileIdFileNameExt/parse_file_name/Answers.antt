use Rattle.raft_log_record_base.specs.declared.pipe_log.LogQueue.TheVariants.{Append, Rewrite}
use Rattle.raft_log_file_format.proofs.Names.{file_found, none_found}
use Rattle.raft_log_file_format.proofs.name.FileIdFileNameExt.parse_file_name.Goals as goal

-- src/name.rt:105:13
pub returns-in-Some : goal.returns-in-Some
returns-in-Some c id = file_found c.args.file_name.now c.new.result Append c.in-Some.seq c.new.ensures.queue c.new.ensures.seq ((c.parse_seq_before.ensures c.in-Some.seq).0 c.in-Some.is) id

-- src/name.rt:108:13
pub returns-in-Some-parse_seq_before : goal.returns-in-Some-parse_seq_before
returns-in-Some-parse_seq_before c id = file_found c.args.file_name.now c.new-in-Some-parse_seq_before.result Rewrite c.in-Some-parse_seq_before.seq c.new-in-Some-parse_seq_before.ensures.queue c.new-in-Some-parse_seq_before.ensures.seq ((c.parse_seq_before-2.ensures c.in-Some-parse_seq_before.seq).0 c.in-Some-parse_seq_before.is) id

-- src/name.rt:103:5
pub returns : goal.returns
returns c id =
    none_found c.args.file_name.now
    (λ n named. c.in_default.not-Some n ((c.parse_seq_before.ensures n).1 named))
    (λ n named. c.in_default-parse_seq_before.not-Some n ((c.parse_seq_before-2.ensures n).1 named))
    id
