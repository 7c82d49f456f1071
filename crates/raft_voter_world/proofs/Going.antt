-- What is known to be left goes on being so, moment by moment.
use Rattle.std.proofs.Common.{◌≡◌, ℕ, false, List, [], ◌∷◌, length, Some, None, ap, refl, sym, subst, ◌∙◌, arith}
use Rattle.raft_voter_messages.specs.declared.round.Round.{Round}
use Rattle.raft_voter.specs.Rounds.{World, after, taken_below}
use Rattle.raft_voter.specs.Service.{CutRound, IsOpenAt, MayFollow, Service, uncut}
use Rattle.raft_voter.specs.declared.service.Cause.{Cause}
use Rattle.raft_voter.specs.declared.service.Cause.TheVariants.{FileSystem, Memory, Failed, TooLong}
use Rattle.raft_voter.proofs.Public.{taken_none}
use Rattle.raft_voter_world.specs.declared.storage.Storage.{Storage}
use Rattle.raft_voter_world.specs.declared.storage.Storage.TheVariants.{Closed, Open}
use Rattle.raft_voter_world.specs.Cuts.{AreLeast, cut_after, cut_by, cuts_in}
use Rattle.raft_voter_world.specs.History.{Change, Happen, IsCutOff, Keeps, Moment, rounds_in}
use Rattle.raft_voter_world.specs.History.Change.{closes, purges, arms, copies}
use Rattle.raft_voter_world.specs.History.Moment.{opened, unread, fell, unopened, crashed, kept, answered, cut_off, idle}
use Rattle.raft_voter_world.specs.Places.{world_at}
use Rattle.raft_voter_world.specs.Run.{Goes, Knows}
use Rattle.raft_voter_world.specs.Stores.{Disk, Upkeep, world_in}
use Rattle.raft_voter_world.proofs.Leading.{LeadsFrom, Serving, idle_leads}
use Rattle.raft_voter_world.proofs.Explaining.{answered_on, cut_on, cut_serves, kept_dead, kept_serves, opened_leads, passes}

-- whatever may stand behind the one may stand behind the other
abbrev pub Within : CutRound → CutRound → Type 0
Within known noted = (X : World) → MayFollow known X → MayFollow noted X

-- behind no round stand its voters alone
only : (W X : World) → MayFollow (uncut W) X → X ≡ W
only W X f = f.reached

-- before it was taken its first voters stand
first_of : (cut : CutRound) → MayFollow cut cut.before
first_of cut = record { place = 0; within = omega arith; reached = sym (ap (after cut.before) (taken_none cut.requests 0 0 cut.refused (omega arith))) }

-- where no round is noted what is known has the voters that are noted
same_before : (known noted : CutRound) → Within known noted → noted ≡ uncut noted.before → known.before ≡ noted.before
same_before known noted w e =
    only noted.before known.before (subst (λ (C : CutRound). MayFollow C known.before) e (w known.before (first_of known)))

-- what a call keeps is still known
kept_known : {S F : Type 0} (v : Service S) (u : Upkeep S) (d : Disk S F) (change : Change) (old new : Storage S F) (cut : CutRound) → Keeps v u d change old new → Knows v d old cut → Knows v d new cut
kept_known v u d closes (Open store) (Closed files) cut k known = k.1 cut known
kept_known v u d (purges p refusal) (Open old) (Open new) cut k known = k.1.left cut known
kept_known v u d (arms f) (Open old) (Open new) cut k known = k.1.left cut known
kept_known v u d (arms f) (Closed old) (Closed new) cut k known = k.1 cut known
kept_known v u d (copies t refusal) (Closed old) (Closed new) cut k known = k.1 cut known
kept_known v u d closes (Closed old) new cut k known = absurd k
kept_known v u d closes (Open old) (Open new) cut k known = absurd k
kept_known v u d (purges p refusal) (Closed old) new cut k known = absurd k
kept_known v u d (purges p refusal) (Open old) (Closed new) cut k known = absurd k
kept_known v u d (arms f) (Open old) (Closed new) cut k known = absurd k
kept_known v u d (arms f) (Closed old) (Open new) cut k known = absurd k
kept_known v u d (copies t refusal) (Open old) new cut k known = absurd k
kept_known v u d (copies t refusal) (Closed old) (Open new) cut k known = absurd k

-- a round that was cut off: what is known of it then
cut_known : {S : Type 0} (v : Service S) (old now : S) (cut noted : CutRound) (round : Round) (cause : Cause) → IsCutOff v old round cause now → Within cut noted
    → (v.is_failed old ≡ false → (noted ≡ uncut noted.before) × IsOpenAt v old noted.before) → v.leaves old cut → v.leaves now (cut_by cause cut round)
cut_known v old now cut noted round FileSystem c w s known =
    let at = s c.fails.1 in
    let same : noted.before ≡ cut.before = sym (same_before cut noted w at.0) in
    subst (λ (W : World). v.leaves now (record { before = W; requests = round.requests; refused = round.refused })) same (c.cuts.left noted.before at.1)
cut_known v old now cut noted round Memory c w s known = c.cuts.left cut known
cut_known v old now cut noted round Failed c w s known = c.cuts.left cut known
cut_known v old now cut noted round TooLong c w s known = c.cuts.left cut known

cut_within : {S : Type 0} (v : Service S) (old now : S) (cut noted : CutRound) (round : Round) (cause : Cause) → IsCutOff v old round cause now → Within cut noted
    → (v.is_failed old ≡ false → noted ≡ uncut noted.before) → Within (cut_by cause cut round) (cut_by cause noted round)
cut_within v old now cut noted round FileSystem c w s =
    let same : cut.before ≡ noted.before = same_before cut noted w (s c.fails.1) in
    λ X f. subst (λ (W : World). MayFollow (record { before = W; requests = round.requests; refused = round.refused }) X) same f
cut_within v old now cut noted round Memory c w s = w
cut_within v old now cut noted round Failed c w s = w
cut_within v old now cut noted round TooLong c w s = w

pub goes : {S F : Type 0} (v : Service S) (u : Upkeep S) (d : Disk S F) (End : Storage S F → CutRound → Type 0) (Whole : ℕ → World → Type 0)
    → ((storage : Storage S F) (cut : CutRound) → Knows v d storage cut → ((X : World) → MayFollow cut X → (place : ℕ) × Whole place X) → ((X : World) × Whole 0 X) → End storage cut)
    → (storage : Storage S F) (cut : CutRound) (known : Knows v d storage cut) (noted : CutRound) (ms : List (Moment S F))
    → Happen v u d storage ms → AreLeast noted ms → Within cut noted → Serving v storage noted
    → ((place : ℕ) (X : World) → LeadsFrom v storage noted ms place X → Whole place X) → Goes v d End storage cut known ms
goes v u d End Whole ends storage cut known noted [] h l w s whole =
    ends storage cut known (λ X f. let t = w X f in (t.place, whole t.place X (record { within = λ e. t.within; leads = record { explained = refl; reached = sym t.reached } })))
    (world_at noted 0, whole 0 (world_at noted 0) (record { within = λ e. omega arith; leads = record { explained = refl; reached = refl } }))
goes v u d End Whole ends (Closed files) cut known noted (opened workers store voters (Some place) now ∷ ms) h l w s whole = λ spared.
    let found = h.0.0.finds cut known spared in
    let at : IsOpenAt v now found.0 = h.0.2.served found.0 found.2 in
    let is : world_in voters ≡ found.0 = sym (h.0.1 found.0 found.2) in
    let near : Within (uncut found.0) (uncut (world_in voters)) = λ X f. subst (λ (W : World). MayFollow (uncut W) X) (sym is) f in
    let serves : IsOpenAt v now (world_in voters) = subst (λ (W : World). IsOpenAt v now W) (sym is) at in (
      refl,
      (
        found.0,
        found.1,
        (
          at,
          goes v u d End Whole ends (Open now) (uncut found.0) at.left (uncut (world_in voters)) ms h.1 l.1 near (λ alive. (refl, serves))
              (λ p X leads. whole p X (opened_leads v (Closed files) (Open now) noted workers store now voters place ms p X l.0 leads)),
        ),
      ),
    )
goes v u d End Whole ends (Closed files) cut known noted (opened workers store voters None now ∷ ms) h l w s whole = λ spared.
    let found = h.0.0.finds cut known spared in
    let t = w found.0 found.1 in
    absurd (l.0 t.place t.within (sym (h.0.1 found.0 found.2) ∙ t.reached))
goes v u d End Whole ends (Closed files) cut known noted (unread workers store now left ∷ ms) h l w s whole = λ spared.
    let found = h.0.0.finds cut known spared in
    let k = h.0.3 (uncut found.0) (h.0.1.left (uncut found.0) found.2.left) in
    let near : Within (uncut found.0) noted = λ X f. subst (λ (W : World). MayFollow noted W) (sym (only found.0 X f)) (w found.0 found.1) in (
      found.0,
      found.1,
      (
        k,
        goes v u d End Whole ends (Closed left) (uncut found.0) k noted ms h.1 l near tt
            (λ p X leads. whole p X (passes v (Closed files) (Closed left) noted (unread workers store now left) ms p X refl refl refl (λ e. refl) leads)),
      ),
    )
goes v u d End Whole ends (Closed files) cut known noted (fell workers store gone left ∷ ms) h l w s whole = λ spared.
    let found = h.0.0.finds cut known spared in
    let under = h.0.2.1 (uncut found.0) found.2.left in
    let near : Within (uncut found.0) noted = λ X f. subst (λ (W : World). MayFollow noted W) (sym (only found.0 X f)) (w found.0 found.1) in (
      found.0,
      found.1,
      (
        under.0,
        λ still.
            let k = under.1 under.0 still in (
              k,
              goes v u d End Whole ends (Closed left) (uncut found.0) k noted ms h.1 l near tt
                  (λ p X leads. whole p X (passes v (Closed files) (Closed left) noted (fell workers store gone left) ms p X refl refl refl (λ e. refl) leads)),
            ),
      ),
    )
goes v u d End Whole ends (Closed files) cut known noted (unopened workers cause back ∷ ms) h l w s whole = λ spared.
    let k = h.0.stands cut known spared in (
      k,
      goes v u d End Whole ends (Closed back) cut k noted ms h.1 l w tt
          (λ p X leads. whole p X (passes v (Closed files) (Closed back) noted (unopened workers cause back) ms p X refl refl refl (λ e. refl) leads)),
    )
goes v u d End Whole ends (Closed files) cut known noted (crashed gone left ∷ ms) h l w s whole = λ spared.
    let k = h.0.1 cut known spared in (
      k,
      goes v u d End Whole ends (Closed left) cut k noted ms h.1 l w tt
          (λ p X leads. whole p X (passes v (Closed files) (Closed left) noted (crashed gone left) ms p X refl refl refl (λ e. refl) leads)),
    )
goes v u d End Whole ends (Open store) cut known noted (crashed gone left ∷ ms) h l w s whole =
    let under = h.0.1 cut known in (
      under.0,
      λ spared.
          let k = under.1 under.0 spared in (
            k,
            goes v u d End Whole ends (Closed left) cut k noted ms h.1 l w tt
                (λ p X leads. whole p X (passes v (Open store) (Closed left) noted (crashed gone left) ms p X refl refl refl (λ e. refl) leads)),
          ),
    )
goes v u d End Whole ends (Closed files) cut known noted (kept change now ∷ ms) h l w s whole =
    let k = kept_known v u d change (Closed files) now cut h.0 known in (
      k,
      goes v u d End Whole ends now cut k noted ms h.1 l w (kept_serves v u d change (Closed files) now noted h.0 s)
          (λ p X leads. whole p X (passes v (Closed files) now noted (kept change now) ms p X refl refl refl (kept_dead v u d change (Closed files) now h.0) leads)),
    )
goes v u d End Whole ends (Open store) cut known noted (kept change now ∷ ms) h l w s whole =
    let k = kept_known v u d change (Open store) now cut h.0 known in (
      k,
      goes v u d End Whole ends now cut k noted ms h.1 l w (kept_serves v u d change (Open store) now noted h.0 s)
          (λ p X leads. whole p X (passes v (Open store) now noted (kept change now) ms p X refl refl refl (kept_dead v u d change (Open store) now h.0) leads)),
    )
goes v u d End Whole ends (Open store) cut known noted (answered round now ∷ ms) h l w s whole =
    let lived = s h.0.alive.0 in
    let at = (answered_on v store now noted round ms 0 h.0 lived).0 in
    let same : noted.before ≡ cut.before = sym (same_before cut noted w lived.0) in
    let now_known : v.leaves now (cut_after cut round) = subst (λ (W : World). v.leaves now (uncut (after W (taken_below round (length round.requests))))) same at.left in
    let near : Within (cut_after cut round) (cut_after noted round) = λ X f. subst (λ (W : World). MayFollow (uncut (after W (taken_below round (length round.requests)))) X) (sym same) f in (
      now_known,
      goes v u d End Whole ends (Open now) (cut_after cut round) now_known (cut_after noted round) ms h.1 l near (λ alive. (refl, at))
          (λ p X leads. whole p X ((answered_on v store now noted round ms p h.0 lived).1 X leads)),
    )
goes v u d End Whole ends (Open store) cut known noted (cut_off round cause now ∷ ms) h l w s whole =
    let k = cut_known v store now cut noted round cause h.0 w s known in (
      k,
      goes v u d End Whole ends (Open now) (cut_by cause cut round) k (cut_by cause noted round) ms h.1 l
          (cut_within v store now cut noted round cause h.0 w (λ alive. (s alive).0)) (cut_serves v store now noted round cause h.0 s)
          (λ p X leads. whole p X (cut_on v store now noted round cause ms p X h.0 (λ alive. (s alive).0) leads)),
    )
goes {S} {F} v u d End Whole ends (Closed files) cut known noted (idle round now ∷ ms) h l w s whole =
    let k : d.leaves now cut = subst (λ (x : F). d.leaves x cut) (sym h.0.1) known in (
      k,
      goes v u d End Whole ends (Closed now) cut k noted ms h.1 l w tt
          (λ p X leads. whole p X (record { within = leads.within; leads = idle_leads _ X round (rounds_in ms) (cuts_in p ms) h.0.0.0 h.0.0.1 leads.leads })),
    )
goes v u d End Whole ends (Open store) cut known noted (opened workers old voters place now ∷ ms) h l w s whole = absurd h.0
goes v u d End Whole ends (Open store) cut known noted (unread workers old now left ∷ ms) h l w s whole = absurd h.0
goes v u d End Whole ends (Open store) cut known noted (fell workers old gone left ∷ ms) h l w s whole = absurd h.0
goes v u d End Whole ends (Open store) cut known noted (unopened workers cause back ∷ ms) h l w s whole = absurd h.0
goes v u d End Whole ends (Open store) cut known noted (idle round now ∷ ms) h l w s whole = absurd h.0
goes v u d End Whole ends (Closed files) cut known noted (answered round now ∷ ms) h l w s whole = absurd h.0
goes v u d End Whole ends (Closed files) cut known noted (cut_off round cause now ∷ ms) h l w s whole = absurd h.0
