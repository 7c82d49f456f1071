use Rattle.raft_log_file_writer.proofs.ChainLaws.{rest_holds_nothing, writer_begins_chain}
use Rattle.raft_log_file_writer.proofs.laws.writer_begins_a_chain.Goals as goal

pub returns-clause-begins : goal.returns-clause-begins
returns-clause-begins g c = writer_begins_chain g.G.Framing.is_frame

pub returns-clause-rest : goal.returns-clause-rest
returns-clause-rest g c = rest_holds_nothing g.G.Framing.is_frame
