use Rattle.std.proofs.Common.{[], ◌∷◌, length}
use Rattle.crossbeam_utils.specs.Seq.{cell_view}
use Rattle.raft_log_shared.proofs.keeper.Keeper.note.Given as goal

-- the part is the record, at the end of the history
abbrev pub ghosts-noted : goal.ghosts-noted
ghosts-noted g a = record { first = length (cell_view a.pass.now).all; part = record { call = g.X.Noting.call; answer = a._answer.now } ∷ [] }
