use Rattle.raft_log_record_base.proofs.Public.{decodes}
use Rattle.raft_log_file_format.proofs.Headers.{is_header}
use Rattle.raft_log_file_format.proofs.header.LogFileFormat.decode.Goals as goal

-- src/header.rt:63:5
pub returns-clause-decodes : goal.returns-clause-decodes
returns-clause-decodes c = decodes c.read_format.result c.args.source.now.now c.read_format.new.source.now is_header c.read_format.ensures.exact
