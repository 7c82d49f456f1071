use Rattle.std.proofs.Common.{◌≡◌, false, true, refl}
use Rattle.raft_log_record_frames.specs.Key.{is_internal}
use Rattle.raftlog.proofs.Marks.{false_unless}
use Rattle.raftlog.proofs.Saying.{adds_item}
use Rattle.raftlog.proofs.batches.put.Goals as goal

pub returns : goal.returns
returns c =
    let own = false_unless (is_internal c.args.key.now) (λ e. (let clash : false ≡ true = c.in_ok-put.ensures.internal e in let never : ⊥ = cc in never)) in
    adds_item c.args.batch.now c.put.new.self _ _ own (λ f. refl) c.in_ok-put.ensures.ok
