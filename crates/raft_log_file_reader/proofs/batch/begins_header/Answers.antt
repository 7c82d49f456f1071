use Rattle.raft_log_file_reader.proofs.Headers.{decoded_surely}
use Rattle.raft_log_file_reader.proofs.batch.begins_header.Goals as goal

pub returns : goal.returns
returns c = rw c.is_ok.ensures.value (decoded_surely c.decode_header.result c.args.bytes.now c.decode_header.new.source.now c.decode_header.ensures.sure c.decode_header.ensures.exact)
