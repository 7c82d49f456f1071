use Rattle.raft_voter_plain.proofs.Worlds.{crashed_at}
use Rattle.raft_voter_plain.proofs.store.PlainFileStoreFilesPlainVoters.after_crash.Goals as goal

pub returns-clause-stands : goal.returns-clause-stands
returns-clause-stands g c = crashed_at c.args.self c.crash.new.self c.crash.ensures
