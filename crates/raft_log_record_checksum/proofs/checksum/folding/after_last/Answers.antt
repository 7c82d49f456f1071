use Rattle.std.proofs.Common.{◌∙◌, ℕ, List, take, arith}
use Rattle.std.proofs.lemmas.List.{take_rest}
use Rattle.raft_log_record_checksum.proofs.Folding.{all_taken}
use Rattle.raft_log_record_checksum.proofs.checksum.folding.after_last.Goals as goal

pub returns : goal.returns
returns c = λ register stands.
    let folded : List ℕ = take 300 c.args.window.now in
    all_taken register _ _ _ _ c.args.last.now c.args.window.now (omega arith) (omega arith) stands
    (rw (take_rest folded 155) at c.take_up.ensures) (rw (take_rest folded 117) at c.take_up-2.ensures) (rw (take_rest folded 89) at c.take_up-3.ensures)
    (c.after_short.ensures ∙ c.take_up-4.ensures)
