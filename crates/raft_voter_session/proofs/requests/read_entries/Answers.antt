use Rattle.std.proofs.Common.{rules, ◌≡◌, ◌∙◌, Some, sym}
use Rattle.raft_voter_session.specs.Words.{word_at}
use Rattle.raft_voter_session.proofs.WordLists.{entries_at-word, goes_on, stops}
use Rattle.raft_voter_session.proofs.requests.read_entries.Goals as goal

pub returns-in_default-2 : goal.returns-in_default-2
returns-in_default-2 c =
    let found : word_at c.loop-word.left.now ≡ Some (c.in-Some.word.now, c.in-Some.rest.now) = search rules in
    let split = entries_at-word c.loop-word.left.now c.in-Some.word.now c.in-Some.rest.now found in
    stops c.loop-word.entries _ _ _ _ split (sym c.in_ok-entry.ensures ∙ c.in_default-2.is) c.loop-word.invariant

pub loop-word-preserved : goal.loop-word-preserved
loop-word-preserved c =
    let found : word_at c.loop-word.left.now ≡ Some (c.in-Some.word.now, c.in-Some.rest.now) = search rules in
    let split = entries_at-word c.loop-word.left.now c.in-Some.word.now c.in-Some.rest.now found in
    goes_on c.loop-word.entries _ c.in-Some-2.entry _ _ _ _ split (sym c.in_ok-entry.ensures ∙ c.in-Some-2.is) c.in_ok-push.ensures.ok c.loop-word.invariant
