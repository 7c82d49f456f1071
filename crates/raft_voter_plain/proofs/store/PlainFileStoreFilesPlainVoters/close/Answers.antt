use Rattle.raft_voter_plain.proofs.Worlds.{closed_at}
use Rattle.raft_voter_plain.proofs.store.PlainFileStoreFilesPlainVoters.close.Goals as goal

pub returns-clause-stands : goal.returns-clause-stands
returns-clause-stands g c = closed_at c.args.store c.into_file.result c.into_file.ensures
