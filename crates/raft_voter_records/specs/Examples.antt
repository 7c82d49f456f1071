-- Example runs of one voter, and what is written for them. The voter's entries have no data of their own.
use Rattle.std.specs.Prelude.{ℕ, List, [], ◌∷◌, None}
use Rattle.raft_log_model_laws.specs.Item.Item.{Put}
use Rattle.raft_log_model_laws.specs.Meaning.{holds}
use Rattle.raft_log_model_laws.specs.Item.Item.{Run}
use Rattle.raft_voter_messages.specs.declared.request.Request.{Request}
use Rattle.raft_voter_messages.specs.declared.request.Request.TheVariants.{Append, Compact}
use Rattle.raft_voter_messages.specs.StoredForms.{head_text, state_text, vote_text}
use Rattle.raft_voter_outline.specs.Outlines.{stored_state}
use Rattle.raft_voter_outline.specs.Rules.{next}
use Rattle.raft_voter_outline.specs.State.{State, fresh}
use Rattle.raft_voter_records.specs.Voters.{Group, stored_entry, voter_key}
use Rattle.raft_voter_records.specs.MeaningChanges.{Words}

-- entries of these terms, without data
abbrev pub of_terms : List ℕ → List (ℕ × List ℕ)
of_terms [] = []
of_terms (t ∷ ts) = (t, []) ∷ of_terms ts

-- the voter after a leader of term 1 sent its first two entries
abbrev pub two_entries : State
two_entries = next fresh (Append 1 0 0 0 (of_terms (1 ∷ 1 ∷ [])))

-- a leader of term 2 sends two entries after the first one, and the commit index 3
abbrev pub other_leader : Request
other_leader = Append 2 1 1 3 (of_terms (2 ∷ 2 ∷ []))

-- the voter `two_entries` after the request `other_leader`
abbrev pub three_entries : State
three_entries = next two_entries other_leader

-- that voter after its log was compacted up to the second entry
abbrev pub compacted_voter : State
compacted_voter = next three_entries (Compact 2)

-- the item that writes the state of voter `v`
abbrev pub put_state : State → Words
put_state v = Put voter_key (state_text (stored_state v))

-- a group as it was written before states had a commit index: base index and base term 2, and one entry of term 2
abbrev pub old_group : Group
old_group s =
    holds s (Run 3 (stored_entry 3 (2, []) ∷ []) ∷ Put voter_key (1 ∷ head_text 2 (vote_text None) 2 2) ∷ [])

-- the voter that is read from a group without a commit index: the commit index is the base
abbrev pub old_voter : State
old_voter = record { term = 2; vote = None; base_index = 2; base_term = 2; commit = 2; log = of_terms (2 ∷ []) }
