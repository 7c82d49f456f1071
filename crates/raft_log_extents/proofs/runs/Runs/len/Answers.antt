use Rattle.std.proofs.Common.{sym, ◌∙◌}
use Rattle.raft_log_extents.proofs.RunReplacing.{sound_length}
use Rattle.raft_log_extents.proofs.runs.Runs.len.Goals as goal

pub returns : goal.returns
returns c = let r = c.args.self.now in sym (sound_length r.front r.base r.len r.runs.items r.starts.items r.sound ∙ r.sound.count)
