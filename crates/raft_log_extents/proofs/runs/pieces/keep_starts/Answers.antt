use Rattle.std.proofs.Common.{◌++◌, ap, ◌∙◌}
use Rattle.raft_log_extents.proofs.EntryPieces.{kept_all, kept_none}
use Rattle.raft_log_extents.proofs.runs.pieces.keep_starts.Goals as goal

pub returns-then-even-clause-items : goal.returns-then-even-clause-items
returns-then-even-clause-items c = kept_none c.args.even c.args.entries.now c.args.starts.now.items c.if-even.true

pub returns-clause-items : goal.returns-clause-items
returns-clause-items c = c.push_starts.ensures.items ∙ ap (λ l. c.args.starts.now.items ++ l) (kept_all c.args.even c.args.entries.now c.if-even.false)
