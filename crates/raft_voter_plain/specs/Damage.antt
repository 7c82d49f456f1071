-- When an open may report that a file's bytes are damaged.
use Rattle.std.specs.Prelude.{ℕ, List}
use Rattle.raft_voter_messages.specs.declared.reply.Entry.{Entry}
use Rattle.raft_voter_messages.specs.declared.stored.StoredFault.{StoredFault}
use Rattle.raft_voter_messages.specs.declared.stored.StoredFault.TheVariants.{Memory as StoredMemory}
use Rattle.raft_voter.specs.Rounds.{World}
use Rattle.raft_voter.specs.State.{State}
use Rattle.raft_voter_plain.specs.declared.record.OpenFault.{OpenFault}
use Rattle.raft_voter_plain.specs.declared.record.OpenFault.TheVariants.{Damaged, Memory}
use Rattle.raft_voter_plain.specs.Beginnings.{BeginsWithEntries, BeginsWithEntry, BeginsWithRecord}
use Rattle.raft_voter_plain.specs.Records.{StandsFor}

-- how an open reports this fault of stored bytes: `Memory` as itself, and any other as `Damaged`
abbrev pub open_fault : StoredFault → OpenFault
open_fault StoredMemory = Memory
open_fault fault = Damaged

-- the fault may be `Damaged` only if `P` is true; it may always be `Memory`
abbrev pub TellsDamage : Type 0 → OpenFault → Type 0
TellsDamage P Damaged = P
TellsDamage P Memory = Unit {0}

-- the bytes don't begin with a stored entry, in range and at `index`
abbrev pub HasNoEntry : ℕ → List ℕ → Type 0
HasNoEntry index bytes = (e : Entry) (rest : List ℕ) → ¬ BeginsWithEntry bytes index e rest

-- the bytes don't begin with `count` stored entries in range, whose indexes rise by one from `first`
abbrev pub LacksEntries : ℕ → ℕ → List ℕ → Type 0
LacksEntries first count bytes =
    (es : List Entry) (rest : List ℕ) → ¬ BeginsWithEntries bytes first count es rest

-- the bytes don't begin with a record that can be stored
abbrev pub HasNoVoterRecord : List ℕ → Type 0
HasNoVoterRecord bytes = (r : ℕ × State) (rest : List ℕ) → ¬ BeginsWithRecord bytes r rest

-- the bytes aren't a sequence of records that can be stored
abbrev pub StandsForNothing : List ℕ → Type 0
StandsForNothing bytes = (W : World) → ¬ StandsFor bytes W
