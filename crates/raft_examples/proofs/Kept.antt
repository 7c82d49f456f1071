-- States that are stored and read back.
use Rattle.std.proofs.Common.{◌≡◌, ℕ, true, List, subst}
use Rattle.raft_voter_messages.specs.declared.reply.VoterState.{VoterState}
use Rattle.raft_voter_messages.specs.StoredForms.{IsState, state_fits, state_text}
use Rattle.raft_voter_messages.proofs.Public.{state_read_back}

-- a state that is read from what was written of one is that state, but for what is known of its log
pub read_back :
    (bytes : List ℕ) (s r : VoterState) → bytes ≡ state_text s → state_fits s ≡ true → IsState bytes r
    → (r.term ≡ s.term) × (r.vote ≡ s.vote) × (r.base_index ≡ s.base_index) × (r.base_term ≡ s.base_term) × (r.commit ≡ s.commit)
read_back bytes s r text fit is =
    let P : List ℕ → Type 0 = λ bs. IsState bs r in state_read_back s r fit (subst P text is)
