-- The states of voters, by their outlines.
use Rattle.std.proofs.Common.{◌≡◌, ◌∙◌, ℕ, refl, sym, ap, subst}
use Rattle.raft_voter_messages.specs.declared.reply.VoterState.{VoterState}
use Rattle.raft_voter_outline.specs.Outlines.{without_bytes}
use Rattle.raft_voter_outline.specs.State.{State, last_index, last_term, state_of}
use Rattle.raft_voter_outline.proofs.Public.{last_index-bare, last_term-bare, term_at-bare}
use Rattle.raft_voter_log.specs.Kept.{HasStateOf, StatesAreVoters}

-- a voter's state, with this last entry
with_last : State → ℕ → ℕ → VoterState
with_last v index term = record { term = v.term; vote = v.vote; base_index = v.base_index; base_term = v.base_term; last_index = index; last_term = term; commit = v.commit }

same_state : (v : State) → state_of (without_bytes v) ≡ state_of v
unfolding with_last
same_state v = ap (λ (i : ℕ). with_last v i (last_term (without_bytes v))) (last_index-bare v) ∙ ap (λ (t : ℕ). with_last v (last_index v) t) (last_term-bare v)

bare_has : (v : State) → HasStateOf (without_bytes v) v
bare_has v = record { state = same_state v; base = refl; last = last_index-bare v; term = term_at-bare v }

pub states_are_voters : StatesAreVoters
states_are_voters os W are g = subst (λ (o : State). HasStateOf o (W g)) (sym (are g)) (bare_has (W g))
