use Rattle.std.proofs.Common.{◌+◌, ◌-◌, ◌++◌, ap, arith, drop, take, ◌∙◌}
use Rattle.raft_log_extents.proofs.RunSteps.{split_list}
use Rattle.raft_log_extents.proofs.runs.cutting.split_run.Goals as goal

pub returns-clause-items : goal.returns-clause-items
returns-clause-items c =
    let backed = c.push_back_reserved.new.self in
    let were = c.args.runs.now in
    let len = were.ok.0 in
    split_list were.items c.rotate_left.new.self.items c.pop_front.new.self.items c.push_front_reserved.new.self.items backed.items c.rotate_right.new.self.items
    c.args.at c.pop_front.result c.args.head c.args.head c.args.tail (omega (arith, len, c.requires.at)) c.rotate_left.ensures.items c.pop_front.ensures.items
    (c.pop_front.ensures.variant.1 (omega (arith, c.requires.at, c.rotate_left.ensures.len))) c.push_front_reserved.ensures.items c.push_back_reserved.ensures.items
    (c.rotate_right.ensures.items ∙ ap (λ n. drop (n - (c.args.at + 1)) backed.items ++ take (n - (c.args.at + 1)) backed.items) backed.ok.0)
