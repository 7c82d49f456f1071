use Rattle.raft_log_record_base.proofs.Grammar.{decodes}
use Rattle.raft_log_record_base.proofs.Var.{is_var_u64, short_exactly, invalid_exactly}
use Rattle.raft_log_record_base.proofs.codec.variable.decode_var_u64.Goals as goal

pub returns-clause-decodes : goal.returns-clause-decodes
returns-clause-decodes c = decodes c.split_var_u64.result c.args.source.now.now c.split_var_u64.new.source.now is_var_u64 c.split_var_u64.ensures

pub returns-clause-short : goal.returns-clause-short
returns-clause-short c = short_exactly c.split_var_u64.result c.args.source.now.now c.split_var_u64.new.source.now c.split_var_u64.ensures

pub returns-clause-invalid : goal.returns-clause-invalid
returns-clause-invalid c = invalid_exactly c.split_var_u64.result c.args.source.now.now c.split_var_u64.new.source.now c.split_var_u64.ensures
