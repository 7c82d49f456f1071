use Rattle.raft_log_record_base.specs.Files.{signature_of}
use Rattle.raft_log_block_cache.proofs.Signed.{says_itself}
use Rattle.raft_log_block_cache.proofs.signed_batch.SignedBatch.encoded_len.Goals as goal

pub returns-clause-len : goal.returns-clause-len
returns-clause-len c context = c.encoded_len.ensures.ready.size (signature_of context)

pub returns-clause-says : goal.returns-clause-says
returns-clause-says c = says_itself c.args.self.now.batch c.encoded_len.result c.encoded_len.ensures.ready

pub returns-clause-laid : goal.returns-clause-laid
returns-clause-laid c = c.encoded_len.ensures.laid

pub returns-clause-adds : goal.returns-clause-adds
returns-clause-adds c = c.encoded_len.ensures.adds
