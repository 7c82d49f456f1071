use Rattle.std.proofs.Common.{◌≡◌, ◌-◌, ◌++◌, [], ◌∷◌, ◌∙◌, ap, arith, slice_index_or, take}
use Rattle.std.specs.VecDeque.{deque_len}
use Rattle.raft_log_extents.specs.Runs.{one_more}
use Rattle.raft_log_extents.proofs.RunMore.{set_last}
use Rattle.raft_log_extents.proofs.runs.alone.add_one.Goals as goal

pub returns-clause-items : goal.returns-clause-items
returns-clause-items c = λ d.
    let rs = c.args.runs.now.items in
    let ok = c.args.runs.now.ok.0 in
    let same : c.len-last.result - 1 ≡ deque_len c.args.runs.now - 1 = ap (λ n. n - 1) c.len-last.ensures in
    set_last rs (c.len-last.result - 1) c.index_mut.result.now d (omega (arith, ok, c.len-last.ensures, c.requires.some)) c.index_mut.ensures.value
    ∙ ap (λ n. take n rs ++ (one_more (slice_index_or rs n d) ∷ [])) same
