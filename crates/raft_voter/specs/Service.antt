-- What a service of voters promises for each round of requests, and what an open finds in the service's files. From a
-- close or a crash to the next open, these files keep the voters.
use Rattle.std.specs.Prelude.{◌≡◌, ℕ, ◌+◌, ◌<◌, ◌≤◌, IsTrue, Bool, true, false, if◌then◌else◌, List, [], ◌∷◌, length}
use Rattle.raft_voter_messages.specs.declared.reply.Reply.{Reply}
use Rattle.raft_voter_messages.specs.declared.reply.Reply.TheVariants.{Refused}
use Rattle.raft_voter_messages.specs.declared.request.Request.{Request}
use Rattle.raft_voter.specs.Rounds.{TakesFirst, World, after, are_rising, replies_from, taken_from}
use Rattle.raft_voter_messages.specs.Ranges.{in_range}
use Rattle.raft_voter.specs.declared.service.Cause.{Cause}
use Rattle.raft_voter.specs.declared.service.Cause.TheVariants.{FileSystem, Memory, Failed, TooLong}

-- Services and files.

-- A round that was cut off: the voters before it, its requests, and its refused positions. How many of its requests
-- were taken is unknown. `MayFollow` says which voters are possible after it.
pub record CutRound : Type 0 where
  pub before : World
  pub requests : List (ℕ × Request)
  pub refused : List ℕ

-- no round was cut off: only the voters of world `W` are possible
abbrev pub uncut : World → CutRound
uncut W = record { before = W; requests = []; refused = [] }

-- world `X` is possible after this round: its voters took the requests before some position, except the refused ones
abbrev pub MayFollow : CutRound → World → Type 0
MayFollow cut X = TakesFirst cut.before cut.requests cut.refused X

-- A service as its callers see it:
-- - `serves`: it has the voters of this world, and everything that they took is stored;
-- - `is_failed`: it has failed, and serves nothing until it is opened again;
-- - `leaves`: after a close or a crash, only voters that are possible after this cut-off round are found;
-- - `may_refuse`: it may refuse these positions of a round; the first service is the one before the round, the second
--   the one after it;
-- - `fails`: a file system call failed between the first service and the second.
pub record Service (S : Type 0) : Type 1 where
  pub serves : S → World → Type 0
  pub is_failed : S → Bool
  pub leaves : S → CutRound → Type 0
  pub may_refuse : S → S → List (ℕ × Request) → List ℕ → Type 0
  pub fails : S → S → Type 0

-- Files that keep a service's voters while it isn't open:
-- - `leaves`: the next open, even after a crash, finds only voters that are possible after this cut-off round;
-- - `without_chance`: the second files have no CRC collision; they are what a crash left of the first, or the same
--   ones;
-- - `opens`: an open of these files may return this service;
-- - `refuses`: an open of the first files may fail for this cause and leave the second files;
-- - `closes`: a close of this service may leave these files;
-- - `crashes`: a crash may leave the second files of the first;
-- - `refuses_crash`: the call that returns what a crash leaves of these files may fail.
pub record Files (S F : Type 0) : Type 1 where
  pub leaves : F → CutRound → Type 0
  pub without_chance : F → F → Type 0
  pub opens : F → S → Type 0
  pub refuses : F → Cause → F → Type 0
  pub closes : S → F → Type 0
  pub crashes : F → F → Type 0
  pub refuses_crash : F → Type 0

-- service `store` hasn't failed, serves the voters of world `W`, and leaves exactly these to the next open, even after
-- a crash
pub record IsOpenAt {S : Type 0} (v : Service S) (store : S) (W : World) : Type 0 where
  pub alive : v.is_failed store ≡ false
  pub serves : v.serves store W
  pub left : v.leaves store (uncut W)

-- Suppose these files have no CRC collision, and an open finds only voters that are possible after the round `cut`.
-- Then `store`, opened from these files, serves such voters.
abbrev pub FindsVoters : {S F : Type 0} → Service S → Files S F → F → S → Type 0
FindsVoters v f files store =
    f.without_chance files files
    → (cut : CutRound) → f.leaves files cut → (W : World) × MayFollow cut W × IsOpenAt v store W

-- If the files `read` have no CRC collision, an open of the files `left` finds only voters that an open of `files` may
-- find. This is used for two cases, in which `files` became `left`. In a crash, `read` is the same as `left`. In an
-- open that failed, `read` is the same as `files`.
abbrev pub LeavesStanding : {S F : Type 0} → Files S F → F → F → F → Type 0
LeavesStanding f read files left =
    f.without_chance files read → (cut : CutRound) → f.leaves files cut → f.leaves left cut

-- an open of `files` finds only voters that an open may find after service `store` is closed or crashes
abbrev pub LeavesInFiles : {S F : Type 0} → Service S → Files S F → S → F → Type 0
LeavesInFiles v f store files = (cut : CutRound) → v.leaves store cut → f.leaves files cut

-- Rounds with replies.

-- the reply is `Refused`: no voter took the request
abbrev pub is_refused : Reply → Bool
is_refused Refused = true
is_refused reply = false

-- the positions of the replies `Refused` in this list, whose first reply is at position `place`
abbrev pub refused_from : ℕ → List Reply → List ℕ
refused_from place [] = []
refused_from place (reply ∷ replies) =
    if is_refused reply then place ∷ refused_from (place + 1) replies else refused_from (place + 1) replies

-- the positions of the requests out of range in this list, whose first request is at position `place`
abbrev pub out_of_range : ℕ → List (ℕ × Request) → List ℕ
out_of_range place [] = []
out_of_range place (q ∷ qs) =
    if in_range q.1 then out_of_range (place + 1) qs else place ∷ out_of_range (place + 1) qs

-- The voters of world `W` give these replies to these requests, and then are those of world `X`. The positions whose
-- reply is `Refused` count as refused, and their requests aren't taken.
pub record Answers (W : World) (requests : List (ℕ × Request)) (replies : List Reply) (X : World)
    : Type 0 where
  pub rising : IsTrue (are_rising 0 (length requests) (refused_from 0 replies))
  pub told : replies ≡ replies_from 0 (refused_from 0 replies) W requests
  pub taken : X ≡ after W (taken_from 0 (length requests) (refused_from 0 replies) requests)

-- If service `old` serves the voters of a world, these give the replies `told` to this round. Service `new` then
-- serves the voters after the round.
abbrev pub AnswersRound : {S : Type 0} → Service S → List (ℕ × Request) → List Reply → S → S → Type 0
AnswersRound v requests told old new =
    (W : World) → IsOpenAt v old W → (X : World) × Answers W requests told X × IsOpenAt v new X

-- Rounds that are cut off: they end without replies.

-- A round changed service `old` into `new`, and the service may refuse the positions `refused`. Suppose `old` serves
-- the voters of a world. Then a file system call failed in the round. A later open finds these voters after the
-- requests before some position, without those at the refused positions.
pub record TookSome {S : Type 0} (v : Service S) (refused : List ℕ) (requests : List (ℕ × Request))
    (old new : S) : Type 0 where
  pub rising : IsTrue (are_rising 0 (length requests) refused)
  pub may_refuse : v.may_refuse old new requests refused
  pub fails : (W : World) → IsOpenAt v old W → v.fails old new
  pub left : (W : World) → IsOpenAt v old W
      → v.leaves new (record { before = W; requests = requests; refused = refused })

-- No request was taken, and no position refused. Service `new` serves the same voters as `old`. After a close or a
-- crash of `new`, an open finds only voters that it could find after a close or a crash of `old`.
pub record TookNone {S : Type 0} (v : Service S) (refused : List ℕ) (old new : S) : Type 0 where
  pub none : refused ≡ []
  pub served : (W : World) → IsOpenAt v old W → IsOpenAt v new W
  pub left : (cut : CutRound) → v.leaves old cut → v.leaves new cut

-- What a round that is cut off for this cause does to service `old`. For `FileSystem`, some of its requests may be
-- taken; for every other cause, none.
abbrev pub CutsOff : {S : Type 0} → Service S → Cause → List ℕ → List (ℕ × Request) → S → S → Type 0
CutsOff v FileSystem refused requests old new = TookSome v refused requests old new
CutsOff v _ refused requests old new = TookNone v refused old new

-- the cause isn't `FileSystem`, so no request of the round is taken
abbrev pub TakesNothing : Cause → Type 0
TakesNothing FileSystem = ⊥
TakesNothing _ = Unit {0}

-- the cause is a failure of the file system or a lack of memory, which any call may meet
abbrev pub IsFromOutside : Cause → Type 0
IsFromOutside FileSystem = Unit {0}
IsFromOutside Memory = Unit {0}
IsFromOutside _ = ⊥

-- A round of `count` requests can be cut off for this cause. `before` is whether the service had failed before the
-- round, and `now` whether it has failed after it. Only `FileSystem` makes the service fail.
abbrev pub FailsAs : Cause → ℕ → Bool → Bool → Type 0
FailsAs TooLong count before now = (4096 < count) × (now ≡ before)
FailsAs Failed count before now = (count ≤ 4096) × (before ≡ true) × (now ≡ true)
FailsAs Memory count before now = (count ≤ 4096) × (before ≡ false) × (now ≡ false)
FailsAs FileSystem count before now = (count ≤ 4096) × (before ≡ false) × (now ≡ true)

-- the service hadn't failed before the round, and hasn't failed after it
abbrev pub IsAlive : Bool → Bool → Type 0
IsAlive before now = (before ≡ false) × (now ≡ false)
