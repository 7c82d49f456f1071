use Rattle.std.proofs.Common.{◌≡◌, inl, length, ap, refl, rules}
use Rattle.raft_log_world.specs.Reads.{all_bytes}
use Rattle.raft_log_judge.proofs.Supporting.{empty_list}
use Rattle.raft_log_judge.proofs.reading.is_fetch.Goals as goal

pub returns-then-has_none : goal.returns-then-has_none
returns-then-has_none c =
    let zero : length c.args.entries.now ≡ 0 = search rules in
    (λ yes. inl (c.has_none.ensures.0 c.if-has_none.true, ap all_bytes (empty_list c.args.entries.now zero)), λ fetches. refl)
