-- The plain store: voters in memory, and a file to which each change is written as a record. `old` is the store before
-- requests, and `new` or `now` the store after them. A round is cut off if it ends without replies. Voters are possible
-- after such a round if they took its requests before some position, without the refused ones.
use Rattle.std.specs.Prelude.{◌≡◌, ◌<◌, ◌≤◌, ◌⊎◌, ℕ, Bool, true, false, List, [], ◌∷◌, ◌++◌, length, take}
use Rattle.raft_voter_messages.specs.declared.reply.Reply.{Reply}
use Rattle.raft_voter_messages.specs.declared.request.Request.{Request}
use Rattle.raft_voter.specs.Rounds.{World, after, after_one}
use Rattle.raft_voter.specs.Rules.{reply}
use Rattle.raft_voter_plain.specs.declared.store.PlainVoters.{PlainVoters}
use Rattle.raft_voter.specs.InRange.{AllInRange}
use Rattle.raft_voter.specs.Service.{CutRound, Files, MayFollow, Service, out_of_range}
use Rattle.raft_voter.specs.declared.service.Cause.{Cause}
use Rattle.raft_voter.specs.declared.service.Cause.TheVariants.{FileSystem, Memory}
use Rattle.raft_voter_plain.specs.Content.{PlainContent, after_crash, all_synced, whole}
use Rattle.raft_voter_plain.specs.Damage.{StandsForNothing}
use Rattle.raft_voter_plain.specs.Records.{StandsFor, LeadTo, world_in}

-- the world of this store: for each group its voter in memory, or a fresh one
abbrev pub world_of : PlainVoters → World
world_of store = world_in store.voters

-- the synced bytes of the file store the voters that are in memory, and the file has no unsynced bytes
pub record StandsForVoters (store : PlainVoters) : Type 0 where
  pub synced : StandsFor store.file.synced (world_of store)
  pub settled : store.file.unsynced ≡ []

-- the voters in memory are those of world `W`, and the file stores them, all synced
abbrev pub ServesVoters : PlainVoters → World → Type 0
ServesVoters store W = (world_of store ≡ W) × StandsForVoters store

-- the bytes store the voters of exactly one world, and these are possible after the cut-off round `cut`
pub record StandsBehind (bytes : List ℕ) (cut : CutRound) : Type 0 where
  pub world : World
  pub stands : StandsFor bytes world
  pub alone : (X : World) → StandsFor bytes X → X ≡ world
  pub follows : MayFollow cut world

-- the synced bytes of this file store voters that are possible after the cut-off round `cut`, and so do all its bytes,
-- synced or not
pub record FileStandsBehind (file : PlainContent) (cut : CutRound) : Type 0 where
  pub synced : StandsBehind file.synced cut
  pub read : StandsBehind (whole file) cut

-- The positions of the requests that the store refuses in a round. If the store has failed by the end of the round,
-- there are none. Otherwise they are those of the requests out of range.
abbrev pub refused_by : Bool → List (ℕ × Request) → List ℕ
refused_by false requests = out_of_range 0 requests
refused_by true requests = []

-- The plain store as a service. A close or a crash leaves voters that its file stores. The store refuses exactly the
-- requests out of range, or none if it has failed by the end of the round. A file call counts as failed between two
-- states if the store has failed in the second state, but not in the first.
abbrev pub plain_voters : Service PlainVoters
plain_voters = record {
  serves = ServesVoters;
  is_failed = λ store. store.failed;
  leaves = λ store cut. FileStandsBehind store.file cut;
  may_refuse = λ old new requests refused. refused ≡ refused_by new.failed requests;
  fails = λ old new. (old.failed ≡ false) × (new.failed ≡ true);
}

-- An open of this file may fail for this cause. The cause may be `Memory` unless the file is empty. It is `FileSystem`
-- only if the bytes aren't a sequence of records that can be stored.
abbrev pub FileIsRefusedFor : PlainContent → Cause → Type 0
FileIsRefusedFor file Memory = 0 < length (whole file)
FileIsRefusedFor file FileSystem = StandsForNothing (whole file)
FileIsRefusedFor file cause = ⊥

-- The plain store's file while it isn't open. An open syncs it, or fails and leaves it unchanged. A close leaves it
-- unchanged. A crash leaves its synced bytes, and taking these never fails. There is no condition on CRC collisions, as
-- records have no checksum.
abbrev pub plain_files : Files PlainVoters PlainContent
plain_files = record {
  leaves = FileStandsBehind;
  without_chance = λ file read. Unit {0};
  opens = λ file store. store.file ≡ all_synced file;
  refuses = λ file cause back. FileIsRefusedFor file cause × (back ≡ file);
  closes = λ store file. file ≡ store.file;
  crashes = λ file left. left ≡ after_crash file;
  refuses_crash = λ file. ⊥;
}

-- the unsynced bytes of the file are records that lead from world `W` to the voters in memory
abbrev pub LeadsFrom : World → PlainVoters → Type 0
LeadsFrom W store = LeadTo W store.file.unsynced (world_of store)

-- One request was taken in memory, and `told` is the reply of its voter. The synced bytes are the same. Suppose that
-- before the request all voters were in range, and the unsynced records led from world `W` to the voters. Then they now
-- lead from `W` to the voters after the request.
pub record Takes (old : PlainVoters) (asked : ℕ × Request) (told : Reply) (new : PlainVoters) : Type 0 where
  pub told_is : told ≡ reply (world_of old asked.0) asked.1
  pub taken : world_of new ≡ after_one (world_of old) asked
  pub synced : new.file.synced ≡ old.file.synced
  pub written : (W : World) → AllInRange (world_of old) → LeadsFrom W old → LeadsFrom W new

-- one request gets no reply: it was taken in memory or not, and the file is unchanged
pub record OneIsRefused (old : PlainVoters) (asked : ℕ × Request) (new : PlainVoters) : Type 0 where
  pub taken : (world_of new ≡ world_of old) ⊎ (world_of new ≡ after_one (world_of old) asked)
  pub synced : new.file.synced ≡ old.file.synced
  pub unsynced : new.file.unsynced ≡ old.file.unsynced

-- the replies to these requests, which are all taken in order, starting in world `W`
abbrev pub replies_in_turn : World → List (ℕ × Request) → List Reply
replies_in_turn W [] = []
replies_in_turn W (q ∷ qs) = reply (W q.0) q.1 ∷ replies_in_turn (after_one W q) qs

-- These requests were all taken in memory, in order, and `told` are the replies. The synced bytes are the same. Suppose
-- that before the requests all voters were in range, and the unsynced records changed no voter. Then the unsynced
-- records now lead from the voters before the requests to those after.
pub record TakesAll (old : PlainVoters) (asked : List (ℕ × Request)) (told : List Reply) (new : PlainVoters)
    : Type 0 where
  pub told_is : told ≡ replies_in_turn (world_of old) asked
  pub taken : world_of new ≡ after (world_of old) asked
  pub synced : new.file.synced ≡ old.file.synced
  pub written : AllInRange (world_of old) → LeadsFrom (world_of old) old → LeadsFrom (world_of old) new

-- world `X` is world `W` after a prefix of these requests, perhaps none or all
pub record Stopped (W : World) (requests : List (ℕ × Request)) (X : World) : Type 0 where
  pub count : ℕ
  pub few : count ≤ length requests
  pub taken : X ≡ after W (take count requests)

-- the unsynced bytes are records that lead from world `W` to the world after a prefix of these requests
pub record WroteSome (W : World) (asked : List (ℕ × Request)) (unsynced : List ℕ) : Type 0 where
  pub world : World
  pub taken : Stopped W asked world
  pub written : LeadTo W unsynced world

-- These requests get no replies. A prefix of them was taken in memory. The synced bytes are the same. Suppose that
-- before the requests all voters were in range, and the unsynced records changed no voter. Then the changes of a prefix
-- of the requests were written as records. The two prefixes may differ.
pub record AnswersNone (old : PlainVoters) (asked : List (ℕ × Request)) (new : PlainVoters) : Type 0 where
  pub taken : Stopped (world_of old) asked (world_of new)
  pub synced : new.file.synced ≡ old.file.synced
  pub written : AllInRange (world_of old) → LeadsFrom (world_of old) old
      → WroteSome (world_of old) asked new.file.unsynced

-- A prefix of the requests `asked` was taken in memory, with the replies `told`, and the requests `left` remain. The
-- synced bytes are the same. If all voters were in range, they still are, and the changes so far were written as
-- records.
pub record IsAmidst (old : PlainVoters) (asked left : List (ℕ × Request)) (told : List Reply)
    (now : PlainVoters) : Type 0 where
  pub told_is : told ++ replies_in_turn (world_of now) left ≡ replies_in_turn (world_of old) asked
  pub taken : after (world_of now) left ≡ after (world_of old) asked
  pub synced : now.file.synced ≡ old.file.synced
  pub written :
      AllInRange (world_of old)
      → AllInRange (world_of now) × ((W : World) → LeadsFrom W old → LeadsFrom W now)
