-- A round of a world.
use Rattle.std.proofs.Common.{◌≡◌, ℕ, ◌+◌, ◌≤◌, nat_lt, nat_le, true, false, IsTrue, List, [], ◌∷◌, ◌++◌, length, Option, None, append_assoc, append-nil, ap, refl, sym, subst, ◌∙◌, arith}
use Rattle.std.proofs.lemmas.Bool.{false≢true}
use Rattle.std.proofs.lemmas.Bool.Decides.{nat_tests}
use Rattle.raft_voter_messages.specs.declared.reply.Reply.{Reply}
use Rattle.raft_voter_messages.specs.declared.request.Request.{Request}
use Rattle.raft_voter_messages.specs.declared.round.Round.{Round}
use Rattle.raft_voter.specs.Rounds.{after, are_rising}
use Rattle.raft_voter.specs.Service.{CutRound, Service, TakesNothing, is_refused, refused_from, uncut}
use Rattle.raft_voter.specs.Voters.{world_of}
use Rattle.raft_voter.specs.declared.service.Cause.{Cause}
use Rattle.raft_voter.specs.declared.service.Cause.TheVariants.{FileSystem, Memory, Failed, TooLong}
use Rattle.raft_voter.proofs.Public.{by_test}
use Rattle.raft_voter_world.specs.declared.event.Event.TheVariants.{Round as RoundEvent}
use Rattle.raft_voter_world.specs.declared.event.Left.{Left}
use Rattle.raft_voter_world.specs.declared.notes.Notes.{Notes}
use Rattle.raft_voter_world.specs.declared.serving.Served.TheVariants.{Answered, TookSome, TookNone}
use Rattle.raft_voter_world.specs.declared.storage.Storage.{Storage}
use Rattle.raft_voter_world.specs.declared.storage.Storage.TheVariants.{Closed, Open}
use Rattle.raft_voter_world.specs.declared.world.World.{World}
use Rattle.raft_voter_world.specs.Cuts.{AreLeast, cuts_in, next_place}
use Rattle.raft_voter_world.specs.History.{Falls, Happens, IsCutOff, IsRoundOf, Moment, behind}
use Rattle.raft_voter_world.specs.History.Moment.{answered, cut_off, idle}
use Rattle.raft_voter_world.specs.Notes.{NotesAnswered, NotesCut, NotesIdle, all_cuts, all_rounds, cut_from, cut_of, waiting, waiting_cuts}
use Rattle.raft_voter_world.specs.Steps.{Falling, Grows, IsStep, Moves, WhereAlive}
use Rattle.raft_voter_world.specs.Storages.{IsServed}
use Rattle.raft_voter_world.specs.Stores.{Disk, Upkeep}
use Rattle.raft_voter_world.proofs.Joining.{moves_more}

-- The places of replies that are Refused rise.

rising : (low k high : ℕ) (rs : List Reply) → low ≤ k → k + length rs ≤ high → are_rising low high (refused_from k rs) ≡ true
rising low k high [] a b = refl
rising low k high (r ∷ rs) a b =
    by_test (λ ps. are_rising low high ps ≡ true) (is_refused r) (k ∷ refused_from (k + 1) rs) (refused_from (k + 1) rs)
    (λ _. let first : nat_le low k ≡ true = grind (arith, nat_tests) in let last : nat_lt k high ≡ true = grind (arith, nat_tests) in rw (first, last) (rising (k + 1) (k + 1) high rs (omega arith) (omega arith)))
    (λ _. rising low (k + 1) high rs (omega arith) (omega arith))

-- What its notes need.

pub answered_rising : {S F : Type 0} (v : Service S) (requests : List (ℕ × Request)) (old new : Storage S F) (round : Round) → IsServed v requests old (Answered round) new → (high : ℕ) × IsTrue (are_rising 0 high round.refused)
answered_rising v requests (Open old) (Open new) round s =
    let high = length s.1.replies in
    let up : are_rising 0 high (refused_from 0 s.1.replies) ≡ true = rising 0 0 high s.1.replies (omega arith) (omega arith) in
    (high, rw s.1.places up)
answered_rising v requests (Open old) (Closed new) round s = absurd s
answered_rising v requests (Closed old) new round s = absurd s

-- What is noted of it.

pub none_waits : (n : Notes) → n.unsettled ≡ None → all_rounds n ≡ n.rounds.items
none_waits n e = ap (λ (u : Option _). n.rounds.items ++ waiting u) e ∙ append-nil _

pub none_cut : (n : Notes) (place : ℕ) → n.unsettled ≡ None → all_cuts n place ≡ n.cuts.items
none_cut n place e = ap (λ (u : Option _). n.cuts.items ++ waiting_cuts place u) e ∙ append-nil _

pub none_unsettled : (n : Notes) → n.unsettled ≡ None → cut_of n ≡ uncut (world_of n.voters)
none_unsettled n e = ap (λ (u : Option _). cut_from (world_of n.voters) u) e

answered_noted : {S F : Type 0} (event : ℕ) (old new : Notes) (round : Round) (now : S) → old.unsettled ≡ None → NotesAnswered old round new → Grows {S = S} {F = F} event old (answered round now ∷ []) new
answered_noted {S} {F} event old new round now none n = record {
  rounds = none_waits new n.none ∙ n.rounds ∙ ap (λ rs. rs ++ round ∷ []) (sym (none_waits old none));
  cuts = λ last rest. ap (λ cs. cs ++ cuts_in last rest) (none_cut old (next_place last rest) none ∙ sym n.cuts ∙ sym (none_cut new (next_place last rest) n.none));
  least = λ rest l. subst (λ (C : CutRound). AreLeast C (answered round now ∷ rest)) (sym (none_unsettled old none))
      (subst (λ (C : CutRound). AreLeast C rest) (none_unsettled new n.none ∙ ap uncut n.world) l);
  lost = n.lost ∙ sym (append-nil _);
}

some_noted : {S F : Type 0} (event : ℕ) (old new : Notes) (round : Round) (now : S) → old.unsettled ≡ None → NotesCut old round new → Grows {S = S} {F = F} event old (cut_off round FileSystem now ∷ []) new
some_noted {S} {F} event old new round now none n = record {
  rounds = n.rounds ∙ ap (λ rs. rs ++ round ∷ []) (sym (none_waits old none));
  cuts = λ last rest.
      ap (λ cs. cs ++ next_place last rest ∷ cuts_in last rest) (none_cut old (next_place last rest) none)
      ∙ sym (append_assoc old.cuts.items (next_place last rest ∷ []) (cuts_in last rest)) ∙ ap (λ cs. cs ++ cuts_in last rest) (sym (n.cuts (next_place last rest)));
  least = λ rest l. subst (λ (C : CutRound). AreLeast C (cut_off round FileSystem now ∷ rest)) (sym (none_unsettled old none)) (subst (λ (C : CutRound). AreLeast C rest) n.cut l);
  lost = n.lost ∙ sym (append-nil _);
}

zero_noted : (old new : Notes) (round : Round) (place : ℕ) (cs : List ℕ) → NotesIdle old round new → all_cuts old place ++ 0 ∷ cs ≡ all_cuts new place ++ cs
zero_noted old new round place cs n = sym (append_assoc (all_cuts old place) (0 ∷ []) cs) ∙ ap (λ xs. xs ++ cs) (sym (n.cuts place))

none_noted : {S F : Type 0} (event : ℕ) (old new : Notes) (round : Round) (cause : Cause) (now : S) → TakesNothing cause → NotesIdle old round new → Grows {S = S} {F = F} event old (cut_off round cause now ∷ []) new
none_noted event old new round FileSystem now none n = absurd none
none_noted {S} {F} event old new round Memory now none n = record {
  rounds = n.rounds;
  cuts = λ last rest. zero_noted old new round (next_place last rest) (cuts_in last rest) n;
  least = λ rest l. subst (λ (C : CutRound). AreLeast C rest) n.cut l;
  lost = n.lost ∙ sym (append-nil _);
}
none_noted {S} {F} event old new round Failed now none n = record {
  rounds = n.rounds;
  cuts = λ last rest. zero_noted old new round (next_place last rest) (cuts_in last rest) n;
  least = λ rest l. subst (λ (C : CutRound). AreLeast C rest) n.cut l;
  lost = n.lost ∙ sym (append-nil _);
}
none_noted {S} {F} event old new round TooLong now none n = record {
  rounds = n.rounds;
  cuts = λ last rest. zero_noted old new round (next_place last rest) (cuts_in last rest) n;
  least = λ rest l. subst (λ (C : CutRound). AreLeast C rest) n.cut l;
  lost = n.lost ∙ sym (append-nil _);
}

idle_noted : {S F : Type 0} (event : ℕ) (old new : Notes) (round : Round) (now : F) → NotesIdle old round new → Grows {S = S} {F = F} event old (idle round now ∷ []) new
idle_noted {S} {F} event old new round now n = record {
  rounds = n.rounds;
  cuts = λ last rest. zero_noted old new round (next_place last rest) (cuts_in last rest) n;
  least = λ rest l. subst (λ (C : CutRound). AreLeast C rest) n.cut l;
  lost = n.lost ∙ sym (append-nil _);
}

-- where nothing was taken, no round waits where none did and the store hasn't failed
none_alive : {S : Type 0} (v : Service S) (old new : S) (round : Round) (cause : Cause) → TakesNothing cause → IsCutOff v old round cause new → v.is_failed new ≡ false → v.is_failed old ≡ false
none_alive v old new round FileSystem none c alive = absurd none
none_alive v old new round Memory none c alive = c.fails.1
none_alive v old new round Failed none c alive = absurd (false≢true (sym alive ∙ c.fails.2))
none_alive v old new round TooLong none c alive = sym c.fails.1 ∙ alive

-- One moment, and the crash that follows where the disk stopped in it.

pub one_moves : {S F : Type 0} (v : Service S) (u : Upkeep S) (d : Disk S F) (event : ℕ) (old mid : World S F) (storage : Storage S F) (m : Moment S F) → old.storage ≡ storage → Happens v u d storage m → mid.storage ≡ behind m
    → Grows event old.notes (m ∷ []) mid.notes → (WhereAlive v storage (old.notes.unsettled ≡ None) → WhereAlive v (behind m) (mid.notes.unsettled ≡ None)) → Moves v u d event old (m ∷ []) mid
one_moves {S} {F} v u d event old mid storage m is h now g ready = record {
  happened = (subst (λ (x : Storage S F). Happens v u d x m) (sym is) h, tt);
  now = now;
  noted = g;
  ready = λ r. subst (λ (x : Storage S F). WhereAlive v x (mid.notes.unsettled ≡ None)) (sym now) (ready (subst (λ (x : Storage S F). WhereAlive v x (old.notes.unsettled ≡ None)) is r));
}

round_step : {S F : Type 0} (v : Service S) (u : Upkeep S) (d : Disk S F) (place : ℕ) (requests : List (ℕ × Request)) (old mid new : World S F) (m : Moment S F) → IsRoundOf requests m → mid.storage ≡ behind m → mid.left ≡ old.left
    → Moves v u d place old (m ∷ []) mid → Falling v u d place mid new → IsStep v u d place (RoundEvent requests) old new
round_step {S} {F} v u d place requests old mid new m of now left a f = record {
  moments = m ∷ f.moments;
  turns = (of, subst (λ (x : Storage S F). Falls u d old.left x f.moments) now (subst (λ (g : Left). Falls u d g mid.storage f.moments) left f.falls));
  moves = moves_more v u d place old mid new (m ∷ []) f.moments a f.moves;
  left = f.left ∙ left;
}

pub answered_step : {S F : Type 0} (v : Service S) (u : Upkeep S) (d : Disk S F) (place : ℕ) (requests : List (ℕ × Request)) (old mid new : World S F) (storage now : Storage S F) (round : Round) → old.storage ≡ storage → mid.storage ≡ now
    → IsServed v requests storage (Answered round) now → WhereAlive v storage (old.notes.unsettled ≡ None) → NotesAnswered old.notes round mid.notes → mid.left ≡ old.left → Falling v u d place mid new → IsStep v u d place (RoundEvent requests) old new
answered_step v u d place requests old mid new (Open store) (Open after) round is now s ready n left f =
    round_step v u d place requests old mid new (answered round after) (ap (λ qs. qs ∷ []) s.0) now left
    (one_moves v u d place old mid (Open store) (answered round after) is s.1 now (answered_noted place old.notes mid.notes round after (ready s.1.alive.0) n) (λ r alive. n.none)) f
answered_step v u d place requests old mid new (Open store) (Closed after) round is now s ready n left f = absurd s
answered_step v u d place requests old mid new (Closed files) after round is now s ready n left f = absurd s

pub some_step : {S F : Type 0} (v : Service S) (u : Upkeep S) (d : Disk S F) (place : ℕ) (requests : List (ℕ × Request)) (old mid new : World S F) (storage now : Storage S F) (round : Round) → old.storage ≡ storage → mid.storage ≡ now
    → IsServed v requests storage (TookSome round) now → WhereAlive v storage (old.notes.unsettled ≡ None) → NotesCut old.notes round mid.notes → mid.left ≡ old.left → Falling v u d place mid new → IsStep v u d place (RoundEvent requests) old new
some_step v u d place requests old mid new (Open store) (Open after) round is now s ready n left f =
    round_step v u d place requests old mid new (cut_off round FileSystem after) (ap (λ qs. qs ∷ []) s.0) now left
    (one_moves v u d place old mid (Open store) (cut_off round FileSystem after) is s.1 now (some_noted place old.notes mid.notes round after (ready s.1.fails.1) n)
    (λ r alive. absurd (false≢true (sym alive ∙ s.1.fails.2)))) f
some_step v u d place requests old mid new (Open store) (Closed after) round is now s ready n left f = absurd s
some_step v u d place requests old mid new (Closed files) after round is now s ready n left f = absurd s

pub none_step : {S F : Type 0} (v : Service S) (u : Upkeep S) (d : Disk S F) (place : ℕ) (requests : List (ℕ × Request)) (old mid new : World S F) (storage now : Storage S F) (round : Round) → old.storage ≡ storage → mid.storage ≡ now
    → IsServed v requests storage (TookNone round) now → NotesIdle old.notes round mid.notes → mid.left ≡ old.left → Falling v u d place mid new → IsStep v u d place (RoundEvent requests) old new
none_step v u d place requests old mid new (Open store) (Open after) round is now s n left f =
    let cause = s.1.0 in
    let none = s.1.1 in
    let c = s.1.2 in
    round_step v u d place requests old mid new (cut_off round cause after) (ap (λ qs. qs ∷ []) s.0) now left
    (one_moves v u d place old mid (Open store) (cut_off round cause after) is c now (none_noted place old.notes mid.notes round cause after none n)
    (λ r alive. n.still (r (none_alive v store after round cause none c alive)))) f
none_step v u d place requests old mid new (Closed files) (Closed after) round is now s n left f =
    round_step v u d place requests old mid new (idle round after) (ap (λ qs. qs ∷ []) s.0) now left
    (one_moves v u d place old mid (Closed files) (idle round after) is (s.1, s.2) now (idle_noted place old.notes mid.notes round after n) (λ r. tt)) f
none_step v u d place requests old mid new (Open store) (Closed after) round is now s n left f = absurd s
none_step v u d place requests old mid new (Closed files) (Open after) round is now s n left f = absurd s
