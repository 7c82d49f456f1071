-- What a file holds is one world.
use Rattle.std.proofs.Common.{◌≡◌, ℕ, ◌+◌, ◌<◌, ◌^◌, false, List, [], ◌∷◌, ◌++◌, length, append-nil, append_assoc, refl, sym, ap, ◌∙◌, subst, arith}
use Rattle.std.proofs.lemmas.List.Concat.{flat_map-append}
use Rattle.raft_voter_messages.specs.declared.reply.Reply.{Reply}
use Rattle.raft_voter_messages.specs.declared.request.Request.{Request}
use Rattle.raft_voter.specs.Rounds.{World, fresh_world, after, after_one, put}
use Rattle.raft_voter.specs.Rules.{next, reply}
use Rattle.raft_voter.specs.InRange.{AllInRange, IsInRange}
use Rattle.raft_voter.specs.State.{State}
use Rattle.raft_voter_plain.specs.declared.store.PlainVoters.{PlainVoters}
use Rattle.raft_voter_plain.specs.Beginnings.{BeginsWithRecord}
use Rattle.raft_voter_plain.specs.Content.{PlainContent, after_crash, all_synced, whole}
use Rattle.raft_voter_plain.specs.Records.{AreStorable, StandsFor, IsStorableRecord, LeadTo, may_change, voter_record, with_records}
use Rattle.raft_voter.specs.Service.{Answers, AnswersRound, CutRound, FindsVoters, IsOpenAt, LeavesInFiles, LeavesStanding, MayFollow, uncut}
use Rattle.raft_voter_plain.specs.Store.{FileStandsBehind, IsAmidst, StandsBehind, StandsForVoters, Takes, TakesAll, plain_files, plain_voters, replies_in_turn, world_of}
use Rattle.raft_voter_plain.proofs.Ranges.{fresh_in_range, put_in_range, put_there, stays, taken_in_range}
use Rattle.raft_voter_plain.proofs.Records.{records_same}

-- Records, one behind another.

with_records-append : (W : World) (rs ss : List (ℕ × State)) → with_records W (rs ++ ss) ≡ with_records (with_records W rs) ss
with_records-append W [] ss = refl
with_records-append W (r ∷ rs) ss = with_records-append (put W r.0 r.1) rs ss

storable-append : (rs ss : List (ℕ × State)) → AreStorable rs → AreStorable ss → AreStorable (rs ++ ss)
storable-append [] ss h k = k
storable-append (r ∷ rs) ss h k = (h.0, storable-append rs ss h.1 k)

pub joins : (U V W : World) (a b : List ℕ) → LeadTo U a V → LeadTo V b W → LeadTo U (a ++ b) W
joins U V W a b h k = record {
  records = h.records ++ k.records;
  storable = storable-append h.records k.records h.storable k.storable;
  text = rw (h.text, k.text) (sym (flat_map-append voter_record h.records k.records));
  world = k.world ∙ ap (λ X. with_records X k.records) h.world ∙ sym (with_records-append U h.records k.records);
}

pub no_records : (W : World) → LeadTo W [] W
no_records W = record { records = []; storable = tt; text = refl; world = refl }

pub one_record : (W : World) (r : ℕ × State) → IsStorableRecord r → LeadTo W (voter_record r) (put W r.0 r.1)
one_record W r h = record { records = r ∷ []; storable = (h, tt); text = sym (append-nil (voter_record r)); world = refl }

kept_in_range : (W : World) (rs : List (ℕ × State)) → AllInRange W → AreStorable rs → AllInRange (with_records W rs)
kept_in_range W [] all h = all
kept_in_range W (r ∷ rs) all h = kept_in_range (put W r.0 r.1) rs (put_in_range W r.0 r.1 all h.0.voter.in_range) h.1

-- what a file holds is in range
pub held_in_range : (bytes : List ℕ) (W : World) → StandsFor bytes W → AllInRange W
held_in_range bytes W h = subst AllInRange (sym h.world) (kept_in_range fresh_world h.records fresh_in_range h.storable)

pub same_end : (W X Y : World) (bytes : List ℕ) → Y ≡ X → LeadTo W bytes X → LeadTo W bytes Y
same_end W X Y bytes e h = let P : World → Type 0 = λ Z. LeadTo W bytes Z in subst P (sym e) h

-- a request is taken, and the record of its voter is written behind the others
pub one_written : (W X Y : World) (group : ℕ) (q : Request) (bytes now more : List ℕ) → Y ≡ after_one X (group, q) → group < 2 ^ 64
    → (Y group).base_index + length (Y group).log < 2 ^ 63 → more ≡ voter_record (group, Y group) → now ≡ bytes ++ more
    → AllInRange X → LeadTo W bytes X → LeadTo W now Y
one_written W X Y group q bytes now more taken small fit text all range h =
    let there : Y group ≡ next (X group) q = ap (λ (Z : World). Z group) taken ∙ put_there X group (next (X group) q) in
    let inside : IsInRange (Y group) = let P : World → Type 0 = λ Z. IsInRange (Z group) in subst P (sym taken) (taken_in_range X (group, q) range group) in
    let changed : put X group (Y group) ≡ Y = ap (put X group) there ∙ sym taken in
    let P : List ℕ → Type 0 = λ bs. LeadTo W bs Y in
    let one = one_record X (group, Y group) (record { group = small; voter = record { in_range = inside; end_fits = fit } }) in
    subst P (sym (all ∙ ap (λ m. bytes ++ m) text)) (joins W X Y bytes (voter_record (group, Y group)) h (same_end X (put X group (Y group)) Y (voter_record (group, Y group)) (sym changed) one))

pub one_world : (bytes : List ℕ) (V W : World) → StandsFor bytes V → StandsFor bytes W → V ≡ W
one_world bytes V W v w =
    let same = records_same v.records w.records v.storable w.storable (sym v.text ∙ w.text) in
    v.world ∙ ap (with_records fresh_world) same ∙ sym w.world

-- What stands in bytes and in files.

-- no round is cut off behind these voters
follows_none : (W : World) → MayFollow (uncut W) W
follows_none W = record { place = 0; within = omega arith; reached = refl }

pub behind : (bytes : List ℕ) (W : World) (cut : CutRound) → StandsFor bytes W → MayFollow cut W → StandsBehind bytes cut
behind bytes W cut stands follows = record { world = W; stands = stands; alone = λ X other. one_world bytes X W other stands; follows = follows }

pub behind_none : (bytes : List ℕ) (W : World) → StandsFor bytes W → StandsBehind bytes (uncut W)
behind_none bytes W stands = behind bytes W (uncut W) stands (follows_none W)

-- where all is synced, a read gives what is synced
pub whole_synced : (file : PlainContent) → file.unsynced ≡ [] → whole file ≡ file.synced
whole_synced file e = rw e (append-nil file.synced)

-- a file of which all is synced stands for the voters of that
pub settled_stands : (file : PlainContent) (W : World) → StandsFor file.synced W → file.unsynced ≡ [] → FileStandsBehind file (uncut W)
settled_stands file W stands settled =
    let P : List ℕ → Type 0 = λ bytes. StandsFor bytes W in
    record { synced = behind_none file.synced W stands; read = behind_none (whole file) W (subst P (sym (whole_synced file settled)) stands) }

-- where all is stored the voters are served, and a crash leaves them alone
pub served_at : (store : PlainVoters) → store.failed ≡ false → StandsForVoters store → IsOpenAt plain_voters store (world_of store)
served_at store alive stored = record { alive = alive; serves = (refl, stored); left = settled_stands store.file (world_of store) stored.synced stored.settled }

-- Requests that are taken.

-- one that changes nothing, and of which nothing is written
pub nothing_written : (old new : PlainVoters) (asked : ℕ × Request) (told : Reply) → told ≡ reply (world_of old asked.0) asked.1
    → world_of new ≡ after_one (world_of old) asked → new.file ≡ old.file → may_change asked.1 ≡ false → Takes old asked told new
nothing_written old new asked told e taken file same = record {
  told_is = e;
  taken = taken;
  synced = ap (λ (f : PlainContent). f.synced) file;
  written = λ W all here.
      let P : PlainContent → Type 0 = λ f. LeadTo W f.unsynced (world_of new) in
      subst P (sym file) (same_end W (world_of old) (world_of new) old.file.unsynced (taken ∙ stays (world_of old) asked same) here);
}

-- one of which the voter's record is written
pub record_written : (old new : PlainVoters) (group : ℕ) (q : Request) (told : Reply) (more : List ℕ) → told ≡ reply (world_of old group) q
    → world_of new ≡ after_one (world_of old) (group, q) → group < 2 ^ 64 → (world_of new group).base_index + length (world_of new group).log < 2 ^ 63
    → more ≡ voter_record (group, world_of new group) → new.file.synced ≡ old.file.synced → new.file.unsynced ≡ old.file.unsynced ++ more → Takes old (group, q) told new
record_written old new group q told more e taken small fit text synced all = record {
  told_is = e;
  taken = taken;
  synced = synced;
  written = λ W range here. one_written W (world_of old) (world_of new) group q old.file.unsynced new.file.unsynced more taken small fit text all range here;
}

pub amidst_next : (old now next : PlainVoters) (asked left rest : List (ℕ × Request)) (told told_now : List Reply) (q : ℕ × Request) (r : Reply)
    → IsAmidst old asked left told now → left ≡ q ∷ rest → Takes now q r next → told_now ≡ told ++ r ∷ [] → IsAmidst old asked rest told_now next
amidst_next old now next asked left rest told told_now q r so_far here took e =
    let one : replies_in_turn (world_of now) (q ∷ rest) ≡ r ∷ replies_in_turn (world_of next) rest =
    rw (took.told_is, took.taken) refl in
    record {
      told_is = rw e (append_assoc told (r ∷ []) (replies_in_turn (world_of next) rest) ∙ ap (λ rs. told ++ rs) (sym (ap (replies_in_turn (world_of now)) here ∙ one)) ∙ so_far.told_is);
      taken = ap (λ (W : World). after W rest) took.taken ∙ ap (after (world_of now)) (sym here) ∙ so_far.taken;
      synced = took.synced ∙ so_far.synced;
      written = λ range.
          let before = so_far.written range in
          (subst AllInRange (sym took.taken) (taken_in_range (world_of now) q before.0), λ W h. took.written W before.0 (before.1 W h));
    }

-- what was written and then synced is stored
pub all_stored : (old taken new : PlainVoters) (asked : List (ℕ × Request)) (told : List Reply) → TakesAll old asked told taken → world_of new ≡ world_of taken
    → new.file.synced ≡ whole taken.file → new.file.unsynced ≡ [] → StandsForVoters old → StandsForVoters new
all_stored old taken new asked told took same synced settled stored =
    let W = world_of old in
    let P : List ℕ → Type 0 = λ bs. LeadTo W bs W in
    let more = took.written (held_in_range old.file.synced W stored.synced) (subst P (sym stored.settled) (no_records W)) in
    let all : StandsFor (old.file.synced ++ taken.file.unsynced) (world_of taken) = joins fresh_world W (world_of taken) old.file.synced taken.file.unsynced stored.synced more in
    let bytes : old.file.synced ++ taken.file.unsynced ≡ new.file.synced = ap (λ bs. bs ++ taken.file.unsynced) (sym took.synced) ∙ sym synced in
    let Q : List ℕ → Type 0 = λ bs. StandsFor bs (world_of taken) in
    let R : World → Type 0 = λ X. StandsFor new.file.synced X in
    record { synced = subst R (sym same) (subst Q bytes all); settled = settled }

-- Reading.

-- whatever the rest of a file's bytes lead to, all of them do
abbrev pub IsReadTo : List ℕ → World → List ℕ → Type 0
IsReadTo bytes W left = (X : World) → LeadTo W left X → StandsFor bytes X

pub read_on : (bytes left rest : List ℕ) (W Y : World) (r : ℕ × State) → IsReadTo bytes W left → BeginsWithRecord left r rest → Y ≡ put W r.0 r.1 → IsReadTo bytes Y rest
read_on bytes left rest W Y r so_far is e = λ X more.
    let P : World → Type 0 = λ Z. LeadTo Z rest X in
    let Q : List ℕ → Type 0 = λ bs. LeadTo W bs X in
    so_far X (subst Q (sym is.text) (joins W (put W r.0 r.1) X (voter_record r) rest (one_record W r is.storable) (subst P e more)))

-- A round that is answered: what the voters took is stored, and they are served.
pub all_answered : (old taken new : PlainVoters) (asked : List (ℕ × Request)) (told : List Reply) → TakesAll old asked told taken → world_of new ≡ world_of taken
    → new.file.synced ≡ whole taken.file → new.file.unsynced ≡ [] → new.failed ≡ false → Answers (world_of old) asked told (world_of new) → AnswersRound plain_voters asked told old new
all_answered old taken new asked told took same synced settled alive answers = λ W at.
    let P : World → Type 0 = λ V. Answers V asked told (world_of new) in
    (world_of new, subst P at.serves.0 answers, served_at new alive (all_stored old taken new asked told took same synced settled at.serves.1))

-- Files.

-- an open finds the voters that stand in the file, and syncs them
pub opened_at : (file : PlainContent) (store : PlainVoters) → store.file ≡ all_synced file → StandsFor (whole file) (world_of store) → store.failed ≡ false → FindsVoters plain_voters plain_files file store
opened_at file store same held alive = λ spared cut stands.
    let read = stands.read in
    let is : world_of store ≡ read.world = read.alone (world_of store) held in
    let P : World → Type 0 = λ X. MayFollow cut X in
    let stored : StandsForVoters store = record { synced = rw same held; settled = ap (λ (f : PlainContent). f.unsynced) same } in
    (world_of store, subst P (sym is) read.follows, served_at store alive stored)

-- a close leaves what stands in the file
pub closed_at : (store : PlainVoters) (file : PlainContent) → file ≡ store.file → LeavesInFiles plain_voters plain_files store file
closed_at store file same = λ cut stands. let P : PlainContent → Type 0 = λ given. FileStandsBehind given cut in subst P (sym same) stands

-- a crash leaves what is synced in it
pub crashed_at : (file left : PlainContent) → left ≡ after_crash file → LeavesStanding plain_files left file left
crashed_at file left same = λ spared cut stands.
    let P : PlainContent → Type 0 = λ given. FileStandsBehind given cut in
    let Q : List ℕ → Type 0 = λ bytes. StandsBehind bytes cut in
    subst P (sym same) (record { synced = stands.synced; read = subst Q (sym (append-nil file.synced)) stands.synced })
