use Rattle.std.proofs.Common.{◌≡◌}
use Rattle.raft_voter_outline.proofs.Public.{answer_copies}
use Rattle.raft_voter_outline.specs.Outlines.{EntriesAreThere}
use Rattle.raft_voter_outline.specs.Rules.{entries_between, reply}
use Rattle.raft_voter_outline.specs.State.{State}
use Rattle.raft_voter_outline.specs.declared.outline.decision.Answer.TheVariants.{Entries as EntriesAnswer}
use Rattle.raft_voter_messages.specs.declared.reply.Reply.TheVariants.{Entries as EntriesReply}
use Rattle.raft_voter.specs.Entries.{with_entries}
use Rattle.raft_voter.proofs.Owning.{on_err, outline_is}
use Rattle.raft_voter.proofs.voter.Voter.step.Goals as goal

pub entries-requires-clause-above : goal.entries-requires-clause-above
entries-requires-clause-above c =
    let o = c.self.inside.outline.voter in
    let log = c.self.inside.log.items in
    let v : State = with_entries o log in
    let is = c.decide-answer.ensures.answer v (outline_is o log c.self.invariant) in
    let there : EntriesAreThere (EntriesAnswer c.in-Entries.from c.in-Entries.to) c.args.request.now v = rw c.in-Entries.is at is.1 in
    rw (← c.self.view_is) there.1

pub entries-requires-clause-some : goal.entries-requires-clause-some
entries-requires-clause-some c =
    let o = c.self.inside.outline.voter in
    let log = c.self.inside.log.items in
    let v : State = with_entries o log in
    let is = c.decide-answer.ensures.answer v (outline_is o log c.self.invariant) in
    let there : EntriesAreThere (EntriesAnswer c.in-Entries.from c.in-Entries.to) c.args.request.now v = rw c.in-Entries.is at is.1 in
    there.2

pub returns-in-Entries-clause-errors : goal.returns-in-Entries-clause-errors
returns-in-Entries-clause-errors c =
    let o = c.self.inside.outline.voter in
    let log = c.self.inside.log.items in
    let v : State = with_entries o log in
    let from = c.in-Entries.from in
    let to = c.in-Entries.to in
    let is = c.decide-answer.ensures.answer v (outline_is o log c.self.invariant) in
    let there : EntriesAreThere (EntriesAnswer from to) c.args.request.now v = rw c.in-Entries.is at is.1 in
    let told : reply v c.args.request.now ≡ EntriesReply (entries_between v from to) = rw c.in-Entries.is at is.0 in
    on_err c.entries.result (rw (← c.self.view_is) (answer_copies v c.args.request.now from to told there))
