use Rattle.std.proofs.Common.{ap, ◌∙◌}
use Rattle.raft_log_replay_context.specs.Pieces.{parts_seen}
use Rattle.raft_log_replay_context.proofs.Parts.{parts_append}
use Rattle.raft_log_replay_context.proofs.head.joined.Goals as goal

pub returns : goal.returns
returns c = λ φ. ap (parts_seen φ) c.in_ok-append.ensures.items ∙ parts_append φ c.args.parts.items c.args.more.items
