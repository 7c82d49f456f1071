-- Laws of voters that are stored in a log: which contents represent them, what a request's record changes, and how a
-- group is read. Each is the contract of an empty function.
use Rattle.std.specs.Prelude.{◌≡◌, ◌↔◌, ℕ, [], ◌∷◌, List}
use Rattle.raft_log_model_laws.specs.Meaning.{Slot}
use Rattle.raft_log_model_laws.specs.Groups.{taken}
use Rattle.raft_voter_messages.specs.declared.reply.Entry.{Entry as VoterEntry}
use Rattle.raft_voter_messages.specs.declared.reply.VoterState.{VoterState}
use Rattle.raft_voter_messages.specs.declared.request.Request.{Request}
use Rattle.raft_voter_outline.specs.declared.outline.decision.Change.{Change}
use Rattle.raft_voter_outline.specs.Outlines.{ChangesEach, stored_state, without_bytes}
use Rattle.raft_voter_outline.specs.State.{State}
use Rattle.raft_voter.specs.Laws.{log_entries}
use Rattle.raft_voter.specs.Rounds.{World, after_one, fresh_world}
use Rattle.raft_voter_records.specs.Voters.{Group, Groups, HoldsVoter, IsForeign, IsVoid, IsVoter, Means}
use Rattle.raft_voter_records.specs.MeaningChanges.{change_items, change_record, decided_items}
use Rattle.raft_voter_records.specs.Readings.{HasForeign, IsReadAs, read_voter}

-- If the contents represent the voters `W`, then after the record of any request they represent the voters after that
-- request.
abbrev pub RecordsLead : Type 0
RecordsLead = (m : Groups) (W : World) (q : ℕ × Request) → Means m W
    → Means (taken m (change_record W q ∷ [])) (after_one W q)

-- Suppose `c` is the change that request `q` makes to every voter with the outline `o`. Then for each such voter, the
-- items of `c` are those found by comparing the voter before the request with the voter after it.
abbrev pub DecisionsAreWritten : Type 0
DecisionsAreWritten = (o : State) (q : Request) (c : Change) → ChangesEach o q c
    → (v : State) → without_bytes v ≡ o → change_items v q ≡ decided_items c q

-- A group's contents represent at most one voter.
abbrev pub OneVoter : Type 0
OneVoter = (grp : Group) (v w : State) → IsVoter grp v → IsVoter grp w → v ≡ w

-- Contents represent at most one world, that is, at most one voter for each group.
abbrev pub OneWorld : Type 0
OneWorld = (m : Groups) (V W : World) → Means m V → Means m W → V ≡ W

-- A group is foreign if and only if it isn't empty, and holds no voter.
abbrev pub ForeignExactly : Type 0
ForeignExactly = (grp : Group)
    → (IsForeign grp ↔ ((IsVoid grp → ⊥) × ((v : State) → ¬ HoldsVoter grp v)))

-- If every group is empty, the contents represent fresh voters.
abbrev pub EmptyMapsAreFresh : Type 0
EmptyMapsAreFresh = (m : Groups) → ((g : ℕ) → IsVoid (m g)) → Means m fresh_world

-- If two contents are equal in every slot, they represent the same voters.
abbrev pub SameMapsMeanTheSame : Type 0
SameMapsMeanTheSame = (m n : Groups) → ((g : ℕ) (s : Slot) → m g s ≡ n g s)
    → (W : World) → Means m W → Means n W

-- If reading a group finds the state `s` and the entries `es`, the group holds the voter with this state and these
-- entries.
abbrev pub ReadGroupsHoldVoters : Type 0
ReadGroupsHoldVoters = (grp : Group) (s : VoterState) (es : List VoterEntry) → IsReadAs grp s es
    → HoldsVoter grp (read_voter s es)

-- If a group holds a voter, reading the group finds the voter's state and entries.
abbrev pub VotersAreRead : Type 0
VotersAreRead = (grp : Group) (v : State) → HoldsVoter grp v → IsReadAs grp (stored_state v) (log_entries v)

-- A group with any of the flaws of `HasForeign` is foreign: no voter has its contents.
abbrev pub ForeignGroupsAreForeign : Type 0
ForeignGroupsAreForeign = (grp : Group) → HasForeign grp → IsForeign grp
