use Rattle.std.proofs.Common.{◌≡◌, ◌∙◌, ℕ, true, List, [], refl, sym, ap, subst}
use Rattle.raft_voter_messages.specs.declared.request.Request.{Request}
use Rattle.raft_voter.specs.Rounds.{TakesFirst, World}
use Rattle.raft_voter.specs.Service.{refused_from}
use Rattle.raft_voter.specs.declared.service.RoundFault.{RoundFault}
use Rattle.raft_voter_plain.specs.Store.{world_of}
use Rattle.raft_voter_plain.proofs.Refusals.{answers, refused_in_turn}
use Rattle.raft_voter_plain.proofs.Worlds.{all_answered}
use Rattle.raft_voter_plain.proofs.Stops.{took_front, took_nothing, took_some}
use Rattle.raft_voter_plain.proofs.store.PlainVotersRoundService.serve.Goals as goal

pub returns-clause-ok : goal.returns-clause-ok
returns-clause-ok g c =
    let took = c.in-Ok-take_all.ensures.ok in
    all_answered _ _ _ _ _ took refl c.sync.ensures.synced c.sync.ensures.unsynced (c.take_all.ensures.failed ∙ c.if-self.false) (answers _ _ _ _ took.told_is took.taken)

pub returns-clause-refused : goal.returns-clause-refused
returns-clause-refused g c = ap (refused_from 0) c.in-Ok-take_all.ensures.ok.told_is ∙ refused_in_turn 0 (world_of c.args.self.now) c.args.requests.now

pub returns-in_default-take_all-clause-err : goal.returns-in_default-take_all-clause-err
returns-in_default-take_all-clause-err g c =
    let stopped = c.in_default-take_all.ensures.err in
    rw c.new-in_default-take_all.ensures (took_some c.args.self.now (record c.take_all.new.self { failed = true }) c.args.requests.now refl (record { taken = stopped.taken; synced = stopped.synced; written = stopped.written }))

-- where no place is refused, it is told so
told_of : (W X : World) (requests : List (ℕ × Request)) (refused : List ℕ) → refused ≡ [] → TakesFirst W requests [] X → TakesFirst W requests refused X
told_of W X requests refused none h = let P : List ℕ → Type 0 = λ ps. TakesFirst W requests ps X in subst P (sym none) h

pub returns-then-requests-gt-MAX_ROUND_REQUESTS-clause-taken : goal.returns-then-requests-gt-MAX_ROUND_REQUESTS-clause-taken
returns-then-requests-gt-MAX_ROUND_REQUESTS-clause-taken g c = told_of _ _ _ _ (ap (λ (f : RoundFault). f.refused) c.new.ensures) (took_nothing _ _)

pub returns-then-self-clause-taken : goal.returns-then-self-clause-taken
returns-then-self-clause-taken g c = told_of _ _ _ _ (ap (λ (f : RoundFault). f.refused) c.new-then-self.ensures) (took_nothing _ _)

pub returns-in_default-clause-taken : goal.returns-in_default-clause-taken
returns-in_default-clause-taken g c = told_of _ _ _ _ (ap (λ (f : RoundFault). f.refused) c.new-in_default.ensures) (took_nothing _ _)

pub returns-in_default-take_all-clause-taken : goal.returns-in_default-take_all-clause-taken
returns-in_default-take_all-clause-taken g c =
    told_of _ _ _ _ (ap (λ (f : RoundFault). f.refused) c.new-in_default-take_all.ensures) (took_front _ _ _ c.in_default-take_all.ensures.err.taken)
