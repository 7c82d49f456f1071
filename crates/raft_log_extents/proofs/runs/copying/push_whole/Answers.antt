use Rattle.std.proofs.Common.{◌+◌, ◌++◌, [], ◌∷◌, ◌∙◌, ap, arith}
use Rattle.raft_log_extents.specs.Entries.{entry_of}
use Rattle.raft_log_extents.proofs.RunCopies.{alone_more}
use Rattle.raft_log_extents.proofs.runs.copying.push_whole.Goals as goal

pub loop-i-preserved : goal.loop-i-preserved
loop-i-preserved c = (
  alone_more c.args.queue c.args.index c.loop-i.i 1 c.args.words.now c.args.entries.now.items c.loop-i.entries.items c.push_reserved.new.self.items c.loop-i.invariant.0
      (c.push_reserved.ensures.items
      ∙ ap (λ e. c.loop-i.entries.items ++ (e ∷ [])) (c.entry_of.ensures ∙ ap (entry_of c.args.queue (c.args.index + c.loop-i.i)) c.place_in_slice-place.ensures)),
  omega (arith, c.push_reserved.ensures.len, c.loop-i.invariant.1),
  c.push_reserved.ensures.capacity ∙ c.loop-i.invariant.2,
)
