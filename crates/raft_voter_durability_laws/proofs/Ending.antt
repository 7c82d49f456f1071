-- A round ends.
use Rattle.std.proofs.Common.{◌≡◌, ◌∙◌, ◌⊎◌, ℕ, ◌≤◌, Bool, false, List, [], ◌++◌, length, slice_get, Some, refl, sym, ap, subst, inl, inr, arith, append_assoc}
use Rattle.raft_log_fs.specs.Disk.{Disk}
use Rattle.raft_log_fs.specs.Causes.{IsLater}
use Rattle.raft_log_fs.proofs.Public.{fails_after}
use Rattle.raft_log_model_laws.specs.Groups.{taken}
use Rattle.raft_log_record_base.specs.declared.errors.Error.{Error}
use Rattle.raft_log_engine_laws.specs.EngineState.{LogDirectories, LogMap, EngineState, has_failed}
use Rattle.raft_log_engine_laws.specs.Holding.{EndsAt, Represents, IsRecoverableAs}
use Rattle.raft_log_engine_laws.specs.Syncing.{FailsToSyncAppend, NotSynced, SyncsAppend}
use Rattle.raft_log_engine_laws.specs.raft_log_dual_pipes.specs.Pipes.{LogRecordValue}
use Rattle.raft_log_engine_laws.proofs.Public.{holds_runs}
use Rattle.raft_voter_messages.specs.declared.reply.Reply.{Reply}
use Rattle.raft_voter_messages.specs.declared.request.Request.{Request}
use Rattle.raft_voter_outline.specs.State.{State}
use Rattle.raft_voter.specs.Rounds.{TakesFirst, World, after, after_one}
use Rattle.raft_voter.specs.Service.{refused_from}
use Rattle.raft_voter_records.specs.Voters.{Means}
use Rattle.raft_voter_records.specs.Among.{MeansAmong}
use Rattle.raft_voter_records.proofs.Public.{among_more, among_rest, among_wider, taken_in_two}
use Rattle.raft_voter_durability_laws.specs.Standing.{AreOutlines, IsLeftAmong, Keeps}
use Rattle.raft_voter_durability_laws.specs.Rounds.{IsPassed, IsPassedOrOneMore, took}
use Rattle.raft_voter_durability_laws.specs.Requests.{Broke}
use Rattle.raft_voter_durability_laws.specs.Ends.{Answered, GaveUp, Unsynced, Went}
use Rattle.raft_voter_durability_laws.specs.Laws.{LeftBehindRounds, RoundsEnd}
use Rattle.raft_voter_durability_laws.proofs.Composing.{ends_empty, ends_synced, later_twice}
use Rattle.raft_voter_durability_laws.proofs.Places.{passed_voters_took_first}
use Rattle.raft_voter_durability_laws.proofs.Told.{Requests}

-- a log that is left among voters is so among more of them
pub left_wider : (home : LogDirectories) (d : Disk) (P Q : World → Type 0) → ((X : World) → P X → Q X) → IsLeftAmong home d P → IsLeftAmong home d Q
left_wider home d P Q wider l = record { map = l.map; pending = l.pending; left = l.left; among = among_wider P Q l.map l.pending wider l.among }

-- it was answered
answered_by : (home : LogDirectories) (V : World) (qs : Requests) (told : List Reply) (wrote : Bool) (s t u : EngineState) (os us : ℕ → State) → (k : Keeps home s V) → AreOutlines os V
    → (w : Went qs told wrote s t os us) → has_failed u ≡ false → IsLater s.pipes.disk u.pipes.disk → Represents home u (taken k.map w.said) []
    → Answered home V qs told s u us
answered_by home V qs told wrote s t u os us k outlines w alive later holds = record {
  alive = alive;
  later = later;
  keeps = record { map = taken k.map w.said; holds = holds; means = w.leads k.map V k.means outlines };
  outlines = w.outlines V outlines;
  tells = w.tells home k.map V k.holds k.means outlines;
}

unwritten : (home : LogDirectories) (V : World) (qs : Requests) (told : List Reply) (s t : EngineState) (os us : ℕ → State) → Keeps home s V → AreOutlines os V
    → Went qs told false s t os us → Answered home V qs told s t us
unwritten home V qs told s t os us k outlines w =
    let e : EndsAt home t k.map w.said = w.holds home k.map [] k.holds in
    let none : w.said ≡ [] = w.silent refl in
    let empty : EndsAt home t k.map [] = subst (λ (l : List LogRecordValue). EndsAt home t k.map l) none e in
    let held : Represents home t k.map [] = ends_empty home t k.map empty in
    answered_by home V qs told false s t t os us k outlines w w.alive w.later (subst (λ (l : List LogRecordValue). Represents home t (taken k.map l) []) (sym none) held)

synced : (home : LogDirectories) (V : World) (qs : Requests) (told : List Reply) (wrote : Bool) (s t u : EngineState) (os us : ℕ → State) → Keeps home s V → AreOutlines os V
    → Went qs told wrote s t os us → SyncsAppend t u → Answered home V qs told s u us
synced home V qs told wrote s t u os us k outlines w sync =
    answered_by home V qs told wrote s t u os us k outlines w sync.same.alive (later_twice s.pipes.disk t.pipes.disk u.pipes.disk w.later sync.later)
    (ends_synced home t u k.map w.said (w.holds home k.map [] k.holds) (λ n rest h. sync.holds home n rest h))

-- The engine failed.

-- what is left of a log that ended so
ended_among : (home : LogDirectories) (t : EngineState) (m : LogMap) (pending : List LogRecordValue) (P : World → Type 0) (e : EndsAt home t m pending) → MeansAmong P m pending
    → MeansAmong P (taken m e.done) e.rest
ended_among home t m pending P e among = among_rest P m e.done e.rest (subst (λ (l : List LogRecordValue). MeansAmong P m l) (sym e.splits) among)

left_with : (home : LogDirectories) (V : World) (qs : Requests) (told : List Reply) (q : ℕ × Request) (t : EngineState) (d : Disk) (m : LogMap) (said more : List LogRecordValue) (e : EndsAt home t m said)
    → MeansAmong (IsPassed V qs told) m said → length more ≤ 1 → slice_get qs (length told) ≡ Some q
    → Means (taken m (said ++ more)) (after_one (after V (took qs told)) q)
    → IsRecoverableAs home d (taken m e.done) e.rest ⊎ IsRecoverableAs home d (taken m e.done) (e.rest ++ more) → IsLeftAmong home d (IsPassedOrOneMore V qs told)
left_with home V qs told q t d m said more e among short at means (inl without) = record {
  map = taken m e.done;
  pending = e.rest;
  left = without;
  among = ended_among home t m said (IsPassedOrOneMore V qs told) e (among_wider (IsPassed V qs told) (IsPassedOrOneMore V qs told) m said (λ X p. inl p) among);
}
left_with home V qs told q t d m said more e among short at means (inr with) = record {
  map = taken m e.done;
  pending = e.rest ++ more;
  left = with;
  among =
      among_rest (IsPassedOrOneMore V qs told) m e.done (e.rest ++ more)
      (subst (λ (l : List LogRecordValue). MeansAmong (IsPassedOrOneMore V qs told) m l) (ap (λ (l : List LogRecordValue). l ++ more) (sym e.splits) ∙ append_assoc e.done e.rest more)
      (among_more (IsPassedOrOneMore V qs told) m said more (after_one (after V (took qs told)) q) short
      (among_wider (IsPassed V qs told) (IsPassedOrOneMore V qs told) m said (λ X p. inl p) among) (inr (q, at, refl)) means));
}

gave_up : (home : LogDirectories) (V : World) (qs : Requests) (told : List Reply) (q : ℕ × Request) (wrote : Bool) (s t u : EngineState) (os us : ℕ → State) → Keeps home s V
    → AreOutlines os V → Went qs told wrote s t os us → slice_get qs (length told) ≡ Some q → Broke q t u us → GaveUp home V qs told s u
gave_up home V qs told q wrote s t u os us k outlines w at broke =
    let e : EndsAt home t k.map w.said = w.holds home k.map [] k.holds in
    let left = broke.leaves home (taken k.map e.done) e.rest e.holds in
    let means : Means (taken k.map (w.said ++ broke.said)) (after_one (after V (took qs told)) q) =
    subst (λ (n : LogMap). Means n (after_one (after V (took qs told)) q)) (sym (taken_in_two k.map w.said broke.said))
    (broke.leads (taken k.map w.said) (after V (took qs told)) (w.leads k.map V k.means outlines) (w.outlines V outlines)) in
    record {
      failed = broke.failed;
      fails = fails_after s.pipes.disk t.pipes.disk u.pipes.disk w.later left.0;
      tells = w.tells home k.map V k.holds k.means outlines;
      left = left_with home V qs told q t u.pipes.disk k.map w.said broke.said e (w.among k.map V k.means outlines) broke.short at means left.1;
    }

-- The sync was refused.

sync_failed : (error : Error) (t u : EngineState) → has_failed t ≡ false → NotSynced error t u → FailsToSyncAppend t u
sync_failed error t u alive (is, inl had) = let failed = had.0 in absurd (cc)
sync_failed error t u alive (is, inr fails) = fails

unsynced : (home : LogDirectories) (V : World) (qs : Requests) (told : List Reply) (wrote : Bool) (error : Error) (s t u : EngineState) (os us : ℕ → State) → Keeps home s V
    → AreOutlines os V → Went qs told wrote s t os us → NotSynced error t u → Unsynced home V qs told s u
unsynced home V qs told wrote error s t u os us k outlines w not =
    let failed = sync_failed error t u w.alive not in
    let e : EndsAt home t k.map w.said = w.holds home k.map [] k.holds in
    let left = failed.leaves home (taken k.map e.done) e.rest (holds_runs home t (taken k.map e.done) e.rest e.holds) in
    record {
      failed = failed.failed;
      fails = fails_after s.pipes.disk t.pipes.disk u.pipes.disk w.later left.0;
      tells = w.tells home k.map V k.holds k.means outlines;
      left = record {
        map = taken k.map e.done;
        pending = e.rest;
        left = left.1;
        among = ended_among home t k.map w.said (IsPassed V qs told) e (w.among k.map V k.means outlines);
      };
    }

pub rounds_end : RoundsEnd
rounds_end = record { unwritten = unwritten; answered = synced; gave_up = gave_up; unsynced = unsynced }

-- What is left, by places.

pub left_behind_rounds : LeftBehindRounds
left_behind_rounds = record {
  gave_up = λ home V qs told s t g.
      left_wider home t.pipes.disk (IsPassedOrOneMore V qs told) (TakesFirst V qs (refused_from 0 told)) (passed_voters_took_first V qs told g.tells) g.left;
  unsynced = λ home V qs told s t g.
      left_wider home t.pipes.disk (IsPassed V qs told) (TakesFirst V qs (refused_from 0 told)) (λ X p. passed_voters_took_first V qs told g.tells X (inl p)) g.left;
  alone = λ home V d l.
      left_wider home d (λ X. X ≡ V) (TakesFirst V [] []) (λ X is. record { place = 0; within = omega arith; reached = is }) l;
}
