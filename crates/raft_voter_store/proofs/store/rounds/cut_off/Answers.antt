use Rattle.std.proofs.Common.{arith}
use Rattle.raft_voter_store.proofs.Places.{refused_more}
use Rattle.raft_voter_store.proofs.store.rounds.cut_off.Goals as goal

pub loop-place-preserved : goal.loop-place-preserved
loop-place-preserved c = (
  refused_more c.loop-place.place c.args.replies.now _ c.loop-place.refused.items c.note_refused.new.refused.items c.loop-place-test.true c.index-replies-place.is c.loop-place.invariant.0 c.note_refused.ensures.places,
  omega (arith, c.loop-place.invariant.1, c.note_refused.ensures.len, c.note_refused.ensures.room, c.loop-place-test.true),
)
