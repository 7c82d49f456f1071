use Rattle.std.proofs.Common.{rules}
use Rattle.raft_voter_history.proofs.Moves.{gives_as}
use Rattle.raft_voter_history.proofs.keeper.claimed.Goals as goal

pub split_pass-requires : goal.split_pass-requires
split_pass-requires g c = (search rules, (search rules, (c.requires.cell, gives_as _ _ _ _ _ c.requires.knows c.requires.has)))
