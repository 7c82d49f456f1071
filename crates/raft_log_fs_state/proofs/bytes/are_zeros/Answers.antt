use Rattle.std.proofs.Common.{◌/◌, ◌≡◌, ℕ, List, length, rules}
use Rattle.std.specs.List.{All}
use Rattle.raft_log_fs_state.proofs.ZeroChunks.{zeros_by_chunks}
use Rattle.raft_log_fs_state.proofs.bytes.are_zeros.Goals.{then-not-is_empty, else-not-is_empty}
use Rattle.raft_log_fs_state.proofs.bytes.are_zeros.Goals as goal

pub returns-then-are_zero_chunks-clause-zeros : goal.returns-then-are_zero_chunks-clause-zeros
returns-then-are_zero_chunks-clause-zeros c = λ yes.
    (let bytes : List ℕ = c.args.bytes.now in
    let rest : All (λ (byte : ℕ). byte ≡ 0) c.as_chunks.result.1.now = search rules in
    let chunks : All (All (λ (byte : ℕ). byte ≡ 0)) c.as_chunks.result.0.now = elim c.if-not-is_empty.branch [
      | then-not-is_empty w ↦ w.are_zero_chunks.ensures (search rules)
      | else-not-is_empty w ↦ absurd cc
    ] in
    zeros_by_chunks 16 (length bytes / 16) bytes (rw c.as_chunks.ensures.front at chunks) (rw c.as_chunks.ensures.back at rest))
