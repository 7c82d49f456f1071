-- Where nothing was lost, voters that never fail explain the rounds.
use Rattle.std.proofs.Common.{◌≡◌, ℕ, ◌≤◌, Bool, true, false, not, IsTrue, List, [], ◌∷◌, length, Some, None, ap, refl, sym, subst, ◌∙◌, arith}
use Rattle.std.proofs.lemmas.Bool.{false≢true}
use Rattle.raft_voter_messages.specs.declared.round.Round.{Round}
use Rattle.raft_voter_outline.specs.State.{State}
use Rattle.raft_voter.specs.Rounds.{World, Leads, are_rising, after, taken_below, taken_from}
use Rattle.raft_voter.specs.Service.{CutRound, IsOpenAt, Service, uncut}
use Rattle.raft_voter.specs.declared.service.Cause.{Cause}
use Rattle.raft_voter.specs.declared.service.Cause.TheVariants.{FileSystem, Memory, Failed, TooLong}
use Rattle.raft_voter_world.specs.declared.storage.Storage.{Storage}
use Rattle.raft_voter_world.specs.declared.storage.Storage.TheVariants.{Closed, Open}
use Rattle.raft_voter_world.specs.Cuts.{AreLeast, NoneLost, ServeSome, cut_after, cut_by, cuts_in, next_place}
use Rattle.raft_voter_world.specs.History.{Change, Happen, IsAnswered, IsCutOff, Keeps, Moment, rounds_in}
use Rattle.raft_voter_world.specs.History.Change.{closes, purges, arms, copies}
use Rattle.raft_voter_world.specs.History.Moment.{opened, unread, fell, unopened, crashed, kept, answered, cut_off, idle}
use Rattle.raft_voter_world.specs.Places.{IsLeastPlace, world_at}
use Rattle.raft_voter_world.specs.Stores.{Disk, StaysAsItWas, TellsVoters, Upkeep, world_in}
use Rattle.raft_voter_world.proofs.Leading.{LeadsFrom, Serving, answered_leads, cut_leads, idle_leads, is_alive}

-- One moment: what leads on from behind it leads on from before it, and an open store that serves goes on serving.

-- an open that shows voters behind a place
pub opened_leads : {S F : Type 0} (v : Service S) (old new : Storage S F) (cut : CutRound) (workers : ℕ) (store now : S) (voters : List (ℕ × State)) (place : ℕ) (ms : List (Moment S F)) (last : ℕ) (X : World)
    → IsLeastPlace cut (world_in voters) place → LeadsFrom v new (uncut (world_in voters)) ms last X → LeadsFrom v old cut (opened workers store voters (Some place) now ∷ ms) last X
opened_leads v old new cut workers store now voters place ms last X found l = record {
  within = λ e. found.within;
  leads = subst (λ (W : World). Leads W (rounds_in ms) (cuts_in last ms) X) found.fits l.leads;
}

pub opened_serves : {S : Type 0} (v : Service S) (store now : S) (voters : List (ℕ × State)) (W : World) → TellsVoters v store voters → StaysAsItWas v store now → IsOpenAt v store W → IsOpenAt v now (world_in voters)
opened_serves v store now voters W tells stays at = subst (λ (X : World). IsOpenAt v now X) (tells W at) (stays.served W at)

-- a call that keeps the voters
pub kept_serves : {S F : Type 0} (v : Service S) (u : Upkeep S) (d : Disk S F) (change : Change) (old new : Storage S F) (cut : CutRound) → Keeps v u d change old new → Serving v old cut → Serving v new cut
kept_serves v u d closes (Open store) (Closed files) cut k s = tt
kept_serves v u d (purges p refusal) (Open old) (Open new) cut k s = λ alive. go (v.is_failed old) refl alive
  where
    go : (b : Bool) → v.is_failed old ≡ b → v.is_failed new ≡ false → (cut ≡ uncut cut.before) × IsOpenAt v new cut.before
    go true e alive = absurd (false≢true (sym alive ∙ k.1.failed e))
    go false e alive = ((s e).0, k.1.served cut.before (s e).1 alive)
kept_serves v u d (arms f) (Open old) (Open new) cut k s = λ alive. let before = s (sym k.1.failed ∙ alive) in (before.0, k.1.served cut.before before.1)
kept_serves v u d (arms f) (Closed old) (Closed new) cut k s = tt
kept_serves v u d (copies t refusal) (Closed old) (Closed new) cut k s = tt
kept_serves v u d closes (Closed old) new cut k s = absurd k
kept_serves v u d closes (Open old) (Open new) cut k s = absurd k
kept_serves v u d (purges p refusal) (Closed old) new cut k s = absurd k
kept_serves v u d (purges p refusal) (Open old) (Closed new) cut k s = absurd k
kept_serves v u d (arms f) (Open old) (Closed new) cut k s = absurd k
kept_serves v u d (arms f) (Closed old) (Open new) cut k s = absurd k
kept_serves v u d (copies t refusal) (Open old) new cut k s = absurd k
kept_serves v u d (copies t refusal) (Closed old) (Open new) cut k s = absurd k

-- a store that isn't alive doesn't come alive by such a call
pub kept_dead : {S F : Type 0} (v : Service S) (u : Upkeep S) (d : Disk S F) (change : Change) (old new : Storage S F) → Keeps v u d change old new → is_alive v old ≡ false → is_alive v new ≡ false
kept_dead v u d closes (Open store) (Closed files) k e = refl
kept_dead v u d (purges p refusal) (Open old) (Open new) k e = ap not (k.1.failed (not_false (v.is_failed old) e))
  where
    not_false : (b : Bool) → not b ≡ false → b ≡ true
    not_false true h = refl
    not_false false h = sym h
kept_dead v u d (arms f) (Open old) (Open new) k e = ap not k.1.failed ∙ e
kept_dead v u d (arms f) (Closed old) (Closed new) k e = refl
kept_dead v u d (copies t refusal) (Closed old) (Closed new) k e = refl
kept_dead v u d closes (Closed old) new k e = absurd k
kept_dead v u d closes (Open old) (Open new) k e = absurd k
kept_dead v u d (purges p refusal) (Closed old) new k e = absurd k
kept_dead v u d (purges p refusal) (Open old) (Closed new) k e = absurd k
kept_dead v u d (arms f) (Open old) (Closed new) k e = absurd k
kept_dead v u d (arms f) (Closed old) (Open new) k e = absurd k
kept_dead v u d (copies t refusal) (Open old) new k e = absurd k
kept_dead v u d (copies t refusal) (Closed old) (Open new) k e = absurd k

-- a round that was answered
pub answered_on : {S F : Type 0} (v : Service S) (old now : S) (cut : CutRound) (round : Round) (ms : List (Moment S F)) (last : ℕ) → IsAnswered v old round now → (cut ≡ uncut cut.before) × IsOpenAt v old cut.before
    → IsOpenAt v now (cut_after cut round).before × ((X : World) → LeadsFrom v (Open now) (cut_after cut round) ms last X → LeadsFrom v (Open old) cut (answered round now ∷ ms) last X)
answered_on {S} {F} v old now cut round ms last a s =
    let W = cut.before in
    let one = a.answers W s.1 in
    let rising : IsTrue (are_rising 0 (length round.requests) round.refused) = subst (λ (ps : List ℕ). IsTrue (are_rising 0 (length round.requests) ps)) (sym a.places) one.1.rising in
    let taken : one.0 ≡ after W (taken_below round (length round.requests)) = one.1.taken ∙ ap (λ (ps : List ℕ). after W (taken_from 0 (length round.requests) ps round.requests)) (sym a.places) in
    let given = one.1.told ∙ ap (λ (ps : List ℕ). Rattle.raft_voter.specs.Rounds.replies_from 0 ps W round.requests) (sym a.places) in
    let here : (C : CutRound) → C ≡ uncut C.before → (p : ℕ) → world_at C p ≡ C.before = λ C e p. ap (λ (D : CutRound). world_at D p) e in (
      subst (λ (X : World). IsOpenAt v now X) taken one.2,
      λ X l. record {
        within = λ dead. absurd (false≢true (sym dead ∙ ap not a.alive.0));
        leads = subst (λ (V : World). Leads V (round ∷ rounds_in ms) (cuts_in last ms) X) (sym (here cut s.0 (next_place last ms)))
            (answered_leads W X round (rounds_in ms) a.replies (cuts_in last ms) a.told rising given l.leads);
      },
    )

-- a round that was cut off: where some of it may have been taken, what comes leads on from a place of it
pub cut_on : {S F : Type 0} (v : Service S) (old now : S) (cut : CutRound) (round : Round) (cause : Cause) (ms : List (Moment S F)) (last : ℕ) (X : World) → IsCutOff v old round cause now
    → (v.is_failed old ≡ false → cut ≡ uncut cut.before) → LeadsFrom v (Open now) (cut_by cause cut round) ms last X → LeadsFrom v (Open old) cut (cut_off round cause now ∷ ms) last X
cut_on v old now cut round FileSystem ms last X c s l =
    let here : (C : CutRound) → C ≡ uncut C.before → (p : ℕ) → world_at C p ≡ C.before = λ C e p. ap (λ (D : CutRound). world_at D p) e in
    let lived : v.is_failed old ≡ false = c.fails.1 in
    let failed : v.is_failed now ≡ true = c.fails.2 in
    record {
      within = λ dead. absurd (false≢true (sym dead ∙ ap not lived));
      leads = subst (λ (V : World). Leads V (round ∷ rounds_in ms) (next_place last ms ∷ cuts_in last ms) X) (sym (here cut (s lived) (next_place last ms)))
          (cut_leads cut.before X round (rounds_in ms) (next_place last ms) (cuts_in last ms) c.told c.cuts.rising (l.within (ap not failed)) l.leads);
    }
cut_on v old now cut round Memory ms last X c s l = record {
  within = λ dead. absurd (false≢true (sym dead ∙ ap not c.fails.1));
  leads = idle_leads _ X round (rounds_in ms) (cuts_in last ms) c.told c.cuts.none l.leads;
}
cut_on v old now cut round Failed ms last X c s l = record {
  within = λ dead. l.within (ap not c.fails.2);
  leads = idle_leads _ X round (rounds_in ms) (cuts_in last ms) c.told c.cuts.none l.leads;
}
cut_on v old now cut round TooLong ms last X c s l = record {
  within = λ dead. l.within (ap not c.fails.1 ∙ dead);
  leads = idle_leads _ X round (rounds_in ms) (cuts_in last ms) c.told c.cuts.none l.leads;
}

pub cut_serves : {S : Type 0} (v : Service S) (old now : S) (cut : CutRound) (round : Round) (cause : Cause) → IsCutOff v old round cause now
    → (v.is_failed old ≡ false → (cut ≡ uncut cut.before) × IsOpenAt v old cut.before)
    → v.is_failed now ≡ false → (cut_by cause cut round ≡ uncut (cut_by cause cut round).before) × IsOpenAt v now (cut_by cause cut round).before
cut_serves v old now cut round FileSystem c s alive = absurd (false≢true (sym alive ∙ c.fails.2))
cut_serves v old now cut round Memory c s alive = let before = s c.fails.1 in (before.0, c.cuts.served cut.before before.1)
cut_serves v old now cut round Failed c s alive = absurd (false≢true (sym alive ∙ c.fails.2))
cut_serves v old now cut round TooLong c s alive = let before = s (sym c.fails.1 ∙ alive) in (before.0, c.cuts.served cut.before before.1)

-- The whole.

-- a moment that settles nothing and has no round
pub passes : {S F : Type 0} (v : Service S) (old new : Storage S F) (cut : CutRound) (m : Moment S F) (ms : List (Moment S F)) (last : ℕ) (X : World)
    → next_place last (m ∷ ms) ≡ next_place last ms → rounds_in (m ∷ ms) ≡ rounds_in ms → cuts_in last (m ∷ ms) ≡ cuts_in last ms
    → (is_alive v old ≡ false → is_alive v new ≡ false) → LeadsFrom v new cut ms last X → LeadsFrom v old cut (m ∷ ms) last X
passes v old new cut m ms last X p r c dead l = record {
  within = λ e. subst (λ (n : ℕ). n ≤ length cut.requests) (sym p) (l.within (dead e));
  leads = rw (p, r, c) l.leads;
}

pub explain : {S F : Type 0} (v : Service S) (u : Upkeep S) (d : Disk S F) (storage : Storage S F) (cut : CutRound) (ms : List (Moment S F))
    → Happen v u d storage ms → AreLeast cut ms → ServeSome v ms → NoneLost ms → Serving v storage cut → (X : World) × LeadsFrom v storage cut ms 0 X
explain v u d storage cut [] h l s n serving = (world_at cut 0, record { within = λ e. omega arith; leads = record { explained = refl; reached = refl } })
explain v u d (Closed files) cut (opened workers store voters (Some place) now ∷ ms) h l s n serving =
    let at = opened_serves v store now voters s.0.0 h.0.1 h.0.2 s.0.1 in
    let rest = explain v u d (Open now) (uncut (world_in voters)) ms h.1 l.1 s.1 n (λ alive. (refl, at)) in
    (rest.0, opened_leads v (Closed files) (Open now) cut workers store now voters place ms 0 rest.0 l.0 rest.1)
explain v u d storage cut (opened workers store voters None now ∷ ms) h l s n serving = absurd n
explain v u d (Closed files) cut (unread workers store now left ∷ ms) h l s n serving =
    let rest = explain v u d (Closed left) cut ms h.1 l s n tt in
    (rest.0, passes v (Closed files) (Closed left) cut (unread workers store now left) ms 0 rest.0 refl refl refl (λ e. refl) rest.1)
explain v u d (Closed files) cut (fell workers store gone left ∷ ms) h l s n serving =
    let rest = explain v u d (Closed left) cut ms h.1 l s n tt in
    (rest.0, passes v (Closed files) (Closed left) cut (fell workers store gone left) ms 0 rest.0 refl refl refl (λ e. refl) rest.1)
explain v u d (Closed files) cut (unopened workers cause back ∷ ms) h l s n serving =
    let rest = explain v u d (Closed back) cut ms h.1 l s n tt in
    (rest.0, passes v (Closed files) (Closed back) cut (unopened workers cause back) ms 0 rest.0 refl refl refl (λ e. refl) rest.1)
explain v u d storage cut (crashed gone left ∷ ms) h l s n serving =
    let rest = explain v u d (Closed left) cut ms h.1 l s n tt in
    (rest.0, passes v storage (Closed left) cut (crashed gone left) ms 0 rest.0 refl refl refl (λ e. refl) rest.1)
explain v u d (Closed files) cut (kept change now ∷ ms) h l s n serving =
    let rest = explain v u d now cut ms h.1 l s n (kept_serves v u d change (Closed files) now cut h.0 serving) in
    (rest.0, passes v (Closed files) now cut (kept change now) ms 0 rest.0 refl refl refl (kept_dead v u d change (Closed files) now h.0) rest.1)
explain v u d (Open store) cut (kept change now ∷ ms) h l s n serving =
    let rest = explain v u d now cut ms h.1 l s n (kept_serves v u d change (Open store) now cut h.0 serving) in
    (rest.0, passes v (Open store) now cut (kept change now) ms 0 rest.0 refl refl refl (kept_dead v u d change (Open store) now h.0) rest.1)
explain v u d (Open store) cut (answered round now ∷ ms) h l s n serving =
    let one = answered_on v store now cut round ms 0 h.0 (serving h.0.alive.0) in
    let rest = explain v u d (Open now) (cut_after cut round) ms h.1 l s n (λ alive. (refl, one.0)) in
    (rest.0, one.1 rest.0 rest.1)
explain v u d (Open store) cut (cut_off round cause now ∷ ms) h l s n serving =
    let rest = explain v u d (Open now) (cut_by cause cut round) ms h.1 l s n (cut_serves v store now cut round cause h.0 serving) in
    (rest.0, cut_on v store now cut round cause ms 0 rest.0 h.0 (λ alive. (serving alive).0) rest.1)
explain v u d (Closed files) cut (idle round now ∷ ms) h l s n serving =
    let rest = explain v u d (Closed now) cut ms h.1 l s n tt in
    (rest.0, record { within = rest.1.within; leads = idle_leads _ rest.0 round (rounds_in ms) (cuts_in 0 ms) h.0.0.0 h.0.0.1 rest.1.leads })
explain v u d (Open store) cut (opened workers old voters place now ∷ ms) h l s n serving = absurd h.0
explain v u d (Open store) cut (unread workers old now left ∷ ms) h l s n serving = absurd h.0
explain v u d (Open store) cut (fell workers old gone left ∷ ms) h l s n serving = absurd h.0
explain v u d (Open store) cut (unopened workers cause back ∷ ms) h l s n serving = absurd h.0
explain v u d (Open store) cut (idle round now ∷ ms) h l s n serving = absurd h.0
explain v u d (Closed files) cut (answered round now ∷ ms) h l s n serving = absurd h.0
explain v u d (Closed files) cut (cut_off round cause now ∷ ms) h l s n serving = absurd h.0
