use Rattle.raft_voter_program.proofs.Fronts.{read_in_front}
use Rattle.raft_voter_program.proofs.over_store.read_front.Goals as goal

pub returns-clause-ok : goal.returns-clause-ok
returns-clause-ok g c =
    read_in_front (g.I.Read.remaining c.args.reader.now) 268435457 _ _ _ c.take.ensures.limit c.new-front.ensures.items (rw c.take.ensures.inner at c.in_ok-read_to_end.ensures.bytes)
