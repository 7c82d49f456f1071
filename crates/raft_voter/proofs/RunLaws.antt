use Rattle.std.proofs.Common.{◌≡◌, List, ◌∷◌, ◌++◌, Option, Some, sym, ap, ◌∙◌}
use Rattle.raft_voter_messages.specs.declared.reply.Reply.{Reply}
use Rattle.raft_voter_messages.specs.declared.reply.Reply.TheVariants.{Granted}
use Rattle.raft_voter_messages.specs.declared.request.Request.{Request}
use Rattle.raft_voter_messages.specs.declared.request.Request.TheVariants.{Vote}
use Rattle.raft_voter_outline.specs.State.{fresh}
use Rattle.raft_voter_outline.specs.Rules.{next, reply}
use Rattle.raft_voter.specs.Rounds.{World, after_rounds}
use Rattle.raft_voter.specs.Accounts.{account, group_account, voter_after, voter_from}
use Rattle.raft_voter.specs.Laws.{GroupIsolation, OneVotePerTerm, TermsNeverFall}
use Rattle.raft_voter.proofs.Following.{account_follows, group_runs, own_runs, Runs, runs_append, voter_from-append, voter_from-requests}
use Rattle.raft_voter.proofs.VoterSteps.{gave_granted, gave_voter_from, granted_same, term-voter_from}

-- the reply that was told to the request behind `before`
told_behind :
    (before later : List (Request × Option Reply)) (q : Request) (a : Reply) → Runs fresh (before ++ (q, Some a) ∷ later)
    → a ≡ reply (voter_after before) q
told_behind before later q a runs = (runs_append before ((q, Some a) ∷ later) fresh runs).1.0

pub group_isolation : GroupIsolation
group_isolation rounds rounds' cuts cuts' g e e' before later before' later' q a a' is is' same =
    let one = told_behind before later q a (rw is at (group_runs rounds cuts g e)) in
    let other = told_behind before' later' q a' (rw is' at (group_runs rounds' cuts' g e')) in
    one ∙ ap (λ v. reply v q) (voter_from-requests before before' fresh same) ∙ sym other

pub terms_never_fall : TermsNeverFall
terms_never_fall W X rounds cuts g leads stays =
    let follows = account_follows rounds W cuts leads.explained in
    let became = (own_runs (account rounds cuts) W g follows.0).1 in
    let reached : after_rounds W rounds cuts g ≡ X g = ap (λ (V : World). V g) leads.reached in
    let moved : X g ≡ voter_from (W g) (group_account g rounds cuts) = sym reached ∙ sym (ap (λ (V : World). V g) follows.1) ∙ became in
    rw moved (term-voter_from (group_account g rounds cuts) (W g) stays)

pub one_vote_per_term : OneVotePerTerm
one_vote_per_term rounds cuts g e before between later term t t' c d i i' u u' is stays =
    let x : Request × Option Reply = (Vote t c i u, Some (Granted term)) in
    let y : Request × Option Reply = (Vote t' d i' u', Some (Granted term)) in
    let runs = rw is at (group_runs rounds cuts g e) in
    let first = runs_append (before ++ x ∷ between) (y ∷ later) fresh runs in
    let start = runs_append before (x ∷ between) fresh first.0 in
    let v = voter_after before in
    let gave = gave_granted v t c i u term (sym start.1.0) in
    let kept = gave_voter_from between (next v (Vote t c i u)) term c stays gave in
    let there : voter_from fresh (before ++ x ∷ between) ≡ voter_from (next v (Vote t c i u)) between = voter_from-append before (x ∷ between) fresh in
    granted_same (voter_from (next v (Vote t c i u)) between) t' c d i' u' term kept (sym (rw there at first.1.0))
