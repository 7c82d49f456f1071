-- The text that is written for the voters of a store, after it was opened. `old` and `new` are the bytes that the
-- writer has before and after, `None` if they aren't known. `v` says what the store promises of its rounds, and `d`
-- what it promises of its files.
use Rattle.std.specs.Prelude.{◌≡◌, ◌≢◌, ◌<◌, ◌⊎◌, ℕ, List, Option, length, codes}
use Rattle.std.specs.Io.KnownBytes.{Appends, Keeps}
use Rattle.std.specs.List.{AllAdjacentBelow}
use Rattle.raft_voter_outline.specs.State.{State}
use Rattle.raft_voter.specs.Service.{Service}
use Rattle.raft_voter.specs.declared.service.Cause.{Cause}
use Rattle.raft_voter.specs.declared.service.Cause.TheVariants as causes
use Rattle.raft_voter_world.specs.Stores.{Disk, FindsVoters, TellsVoters}
use Rattle.raft_voter_program.specs.Writing.{StopsWithin}
use Rattle.raft_voter_program.specs.Lines.{voters_text}

-- the voters are listed in strictly ascending order of their groups
abbrev pub AreRising : List (ℕ × State) → Type 0
AreRising voters = AllAdjacentBelow (λ one next. one.0 < next.0) voters (length voters)

-- `text` has a line for each voter of a list, in ascending order of their groups. If the store serves voters, these are
-- the voters of the list, and each group that isn't listed has a fresh voter.
pub record TellsLines {S : Type 0} (v : Service S) (store : S) (text : List ℕ) : Type 0 where
  pub voters : List (ℕ × State)
  pub tells : TellsVoters v store voters
  pub rising : AreRising voters
  pub written : text ≡ voters_text voters

-- A store was opened from `files` with `workers` recovery threads, and `text` has the lines for its voters. If `files`
-- have no CRC collision, the store serves voters that an open of `files` may find.
pub record OpensAndTells {S F : Type 0} (v : Service S) (d : Disk S F) (files : F) (workers : ℕ) (text : List ℕ) : Type 0 where
  pub store : S
  pub opens : d.opens files workers store
  pub finds : FindsVoters v d files store
  pub lines : TellsLines v store text

-- An open of `files` with `workers` recovery threads failed, and not because memory ran out.
pub record IsRefused {S F : Type 0} (d : Disk S F) (files : F) (workers : ℕ) : Type 0 where
  pub cause : Cause
  pub outside : cause ≢ causes.Memory
  pub back : F
  pub refuses : d.refuses files workers cause back

-- the text for an open that failed
abbrev pub refused_text : List ℕ
refused_text = codes "open refused\n"

-- What may be written for these files, and the exit status: a line for each voter, with 0; or that the open failed,
-- with 4.
abbrev pub MayList : {S F : Type 0} → Service S → Disk S F → F → ℕ → List ℕ → ℕ → Type 0
MayList v d files workers text status = (OpensAndTells v d files workers text × (status ≡ 0))
    ⊎ (IsRefused d files workers × (text ≡ refused_text) × (status ≡ 4))

-- the writer got all of what may be written for these files
abbrev pub ListsVoters :
    {S F : Type 0} → Service S → Disk S F → F → ℕ → Option (List ℕ) → Option (List ℕ) → ℕ → Type 0
ListsVoters v d files workers old new status =
    (text : List ℕ) × MayList v d files workers text status × Appends old new text

-- the writer got nothing, or a part of what may be written for these files: a prefix, but not all of it
abbrev pub ListsEarly :
    {S F : Type 0} → Service S → Disk S F → F → ℕ → Option (List ℕ) → Option (List ℕ) → Type 0
ListsEarly v d files workers old new =
    Keeps old new
    ⊎ ((text : List ℕ) × (status : ℕ) × MayList v d files workers text status × StopsWithin old new text)
