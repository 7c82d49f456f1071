use Rattle.std.proofs.Common.{refl}
use Rattle.raft_log_extents.proofs.EntryPieces.{run_places}
use Rattle.raft_log_extents.proofs.runs.pieces.run_of_piece.Goals as goal

pub returns-then-have_length-clause-places : goal.returns-then-have_length-clause-places
returns-then-have_length-clause-places c =
    run_places c.fit.result c.args.piece.now _ c.place_of-front.result _ c.requires.some c.place_of-front.ensures refl refl refl refl c.requires.one
    (λ h. c.have_length.ensures c.if-have_length.true)

pub returns-else-have_length-clause-places : goal.returns-else-have_length-clause-places
returns-else-have_length-clause-places c =
    run_places c.have_length.result c.args.piece.now _ c.place_of-front.result _ c.requires.some c.place_of-front.ensures refl refl refl refl c.requires.one
    c.have_length.ensures
