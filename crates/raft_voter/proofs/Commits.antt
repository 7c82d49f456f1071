use Rattle.std.proofs.Common.{◌≡◌, ℕ, ◌+◌, ◌≤◌, List, [], ◌∷◌, length, nat_lt, false, None, Option, sym, ap, ◌∙◌, arith}
use Rattle.std.specs.Prelude.{min}
use Rattle.raft_voter_messages.specs.declared.reply.Reply.{Reply}
use Rattle.raft_voter_messages.specs.declared.request.Request.{Request}
use Rattle.raft_voter_messages.specs.declared.request.Request.TheVariants.{Vote, Append, Compact, Install, Read, Status, Retire}
use Rattle.raft_voter_messages.specs.declared.round.Round.{Round}
use Rattle.raft_voter_messages.specs.Ranges.{in_range}
use Rattle.raft_voter_outline.specs.State.{State, adopt_term}
use Rattle.raft_voter_outline.specs.Rules.{next, next_in_range}
use Rattle.raft_voter.specs.Rounds.{Leads, World, after_rounds}
use Rattle.raft_voter_outline.specs.Rules.{is_retire}
use Rattle.raft_voter.specs.Accounts.{account, group_account, NoRetire, voter_from}
use Rattle.raft_voter.specs.Laws.{BaseIsCommitted, CommitNeverFalls}
use Rattle.raft_voter.proofs.Following.{account_follows, own_runs}
use Rattle.raft_voter_outline.proofs.Public.{append_next, base_next, by_test, compact_next, install_next, raised, vote_next, HasCommittedBase}

-- The commit only rises.

same : (v : State) → v.commit ≤ v.commit
same v = omega arith

commit-adopt_term : (v : State) (t : ℕ) → v.commit ≤ (adopt_term v t).commit
commit-adopt_term v t =
    by_test (λ (w : State). v.commit ≤ w.commit) (nat_lt v.term t) (record v { term = t; vote = None }) v (λ h. same v) (λ h. same v)

commit-next_in_range : (q : Request) (v : State) → is_retire q ≡ false → v.commit ≤ (next_in_range v q).commit
commit-next_in_range (Vote t c i u) v stays =
    vote_next (λ (w : State). v.commit ≤ w.commit) v t c i u (λ h. commit-adopt_term v t) (commit-adopt_term v t)
commit-next_in_range (Append t p u commit es) v stays =
    append_next (λ (w : State). v.commit ≤ w.commit) v t p u commit es (same v)
    (raised v.commit (adopt_term v t).commit (min commit (p + length es)) (commit-adopt_term v t)) (commit-adopt_term v t)
commit-next_in_range (Compact i) v stays = compact_next (λ (w : State). v.commit ≤ w.commit) v i (same v) (same v)
commit-next_in_range (Install t i u) v stays =
    install_next (λ (w : State). v.commit ≤ w.commit) v t i u (same v) (commit-adopt_term v t)
    (raised v.commit (adopt_term v t).commit i (commit-adopt_term v t))
commit-next_in_range (Read a b) v stays = same v
commit-next_in_range Status v stays = same v
commit-next_in_range Retire v stays = absurd (cc)

commit-next : (q : Request) (v : State) → is_retire q ≡ false → v.commit ≤ (next v q).commit
commit-next q v stays =
    by_test (λ (w : State). v.commit ≤ w.commit) (in_range q) (next_in_range v q) v (λ h. commit-next_in_range q v stays) (λ h. same v)

commit-voter_from :
    (ts : List (Request × Option Reply)) (v : State) → NoRetire ts → v.commit ≤ (voter_from v ts).commit
commit-voter_from [] v stays = omega arith
commit-voter_from (t ∷ ts) v stays = omega (arith, commit-next t.0 v stays.0, commit-voter_from ts (next v t.0) stays.1)

-- The base stays at or below it.

base_voter_from :
    (ts : List (Request × Option Reply)) (v : State) → HasCommittedBase v → HasCommittedBase (voter_from v ts)
base_voter_from [] v h = h
base_voter_from (t ∷ ts) v h = base_voter_from ts (next v t.0) (base_next t.0 v h)

-- Over rounds.

became :
    (W X : World) (rounds : List Round) (cuts : List ℕ) (g : ℕ) → Leads W rounds cuts X
    → X g ≡ voter_from (W g) (group_account g rounds cuts)
became W X rounds cuts g leads =
    let follows = account_follows rounds W cuts leads.explained in
    let moved = (own_runs (account rounds cuts) W g follows.0).1 in
    let reached : after_rounds W rounds cuts g ≡ X g = ap (λ (V : World). V g) leads.reached in
    sym reached ∙ sym (ap (λ (V : World). V g) follows.1) ∙ moved

pub commit_never_falls : CommitNeverFalls
commit_never_falls W X rounds cuts g leads stays =
    rw (became W X rounds cuts g leads) (commit-voter_from (group_account g rounds cuts) (W g) stays)

pub base_is_committed : BaseIsCommitted
base_is_committed W X rounds cuts g leads h =
    rw (became W X rounds cuts g leads) (base_voter_from (group_account g rounds cuts) (W g) h)
