-- The head with which every form of a stored state begins: the term, the vote and the base, as they are read.
use Rattle.std.specs.Prelude.{◌≡◌, ◌≢◌, ℕ, IsTrue, List, ◌∷◌, Option}
use Rattle.raft_voter_messages.specs.declared.reply.VoterState.{VoterState}
use Rattle.raft_voter_messages.specs.declared.stored.head.StateHead.{StateHead}
use Rattle.raft_voter_messages.specs.StoredForms.{head_text, number_text, state_fits, vote_fits, vote_text}

-- the nine bytes of the vote in this head: the byte that says whether there is one, then the candidate
abbrev pub vote_bytes : StateHead → List ℕ
vote_bytes h = h.vote_byte ∷ number_text h.candidate

-- the bytes from which this head was read
abbrev pub head_bytes : StateHead → List ℕ
head_bytes h = head_text h.term (vote_bytes h) h.base_index h.base_term

-- state `s` has the term and the base of head `h`, and its vote is written as the vote bytes of `h`
pub record HasHead (s : VoterState) (h : StateHead) : Type 0 where
  pub term : s.term ≡ h.term
  pub vote : vote_text s.vote ≡ vote_bytes h
  pub base_index : s.base_index ≡ h.base_index
  pub base_term : s.base_term ≡ h.base_term

-- no state in range has this head and this commit
abbrev pub IsNoState : StateHead → ℕ → Type 0
IsNoState h commit = (s : VoterState) → IsTrue (state_fits s) → HasHead s h → s.commit ≢ commit

-- no vote in range is written as the vote bytes of this head
abbrev pub IsNoVote : StateHead → Type 0
IsNoVote h = (vote : Option ℕ) → IsTrue (vote_fits vote) → vote_text vote ≢ vote_bytes h
