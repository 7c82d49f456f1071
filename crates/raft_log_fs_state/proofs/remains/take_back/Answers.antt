use Rattle.std.proofs.Common.{arith, ◌<◌}
use Rattle.raft_log_fs_state.proofs.TakingBack.{content_back, pieces_back}
use Rattle.raft_log_fs_state.proofs.remains.take_back.Goals as goal

pub loop-left-preserved : goal.loop-left-preserved
loop-left-preserved c =
    let us = c.args.changes.now in
    let left = c.loop-left.left in
    let u = c.index-changes-left.result in
    let start = c.args.content.now in
    let old = c.loop-left.content in
    let so_far = c.loop-left.invariant in
    let some : 0 < left = c.loop-left-test.true in
    record {
      within = omega arith;
      content = content_back us left u start old c.take_back.new.content some so_far.within c.index-changes-left.is so_far.content c.in_ok-piece.ensures.before;
      pieces = pieces_back us left u start old c.loop-left.pieces.items c.push.new.self.items c.in_ok-piece.piece some so_far.within c.index-changes-left.is so_far.content
          c.in_ok-piece.ensures.bytes so_far.pieces c.in_ok-push.ensures.items;
    }
