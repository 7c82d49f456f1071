use Rattle.std.proofs.Common.{◌≡◌, ℕ, List, [], get_or, arith, rules}
use Rattle.std.specs.List.{All}
use Rattle.std.specs.Int.{w128, from_le_bytes}
use Rattle.std.proofs.lemmas.List.Elements.{All-from_get_or}
use Rattle.raft_log_fs_state.proofs.ZeroChunks.{bytes_of_zero}
use Rattle.raft_log_fs_state.proofs.bytes.are_zero_chunks.Goals as goal

pub returns : goal.returns
returns c = λ yes.
    (let chunks : List (List ℕ) = c.args.chunks.now in
    let numbers : All (λ (chunk : List ℕ). from_le_bytes w128 chunk ≡ 0) chunks = search rules in
    All-from_get_or (All (λ (byte : ℕ). byte ≡ 0)) chunks [] (λ i inside. bytes_of_zero w128 (get_or chunks i []) (omega (arith, c.told-chunks i inside)) (numbers i [] inside)))
