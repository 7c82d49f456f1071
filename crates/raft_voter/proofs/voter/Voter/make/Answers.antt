use Rattle.std.proofs.Common.{◌≡◌, ◌<◌, ◌^◌, ◌∙◌, ap, sym, refl}
use Rattle.raft_voter_outline.proofs.Public.{change_small, room_copies}
use Rattle.raft_voter_outline.specs.Outlines.{ChangesEach, IsChangeOf, log_written, sent_of, without_bytes}
use Rattle.raft_voter_outline.specs.Rules.{next}
use Rattle.raft_voter_outline.specs.Runs.{bare}
use Rattle.raft_voter_outline.specs.State.{State, last_index}
use Rattle.raft_voter.specs.Entries.{laid, with_entries}
use Rattle.raft_voter.proofs.Owning.{on_err, outline_is, written-laid}
use Rattle.raft_voter.proofs.voter.Voter.make.Goals as goal

pub returns-in_err-reserve-clause-errors : goal.returns-in_err-reserve-clause-errors
returns-in_err-reserve-clause-errors c =
    let v = c.args.self.now in
    on_err c.from_residual.result (room_copies v c.args.request.now c.args.change.now c.self.inside.outline.room (c.requires v refl) c.in_err-reserve.ensures.err)

pub invariant_of-self-2 : goal.invariant_of-self-2
invariant_of-self-2 c =
    let o = c.self.inside.outline.voter in
    let log = c.self.inside.log.items in
    let q = c.args.request.now in
    let w = c.args.change.now.write in
    let v : State = with_entries o log in
    let changes : ChangesEach (without_bytes v) q c.args.change.now = rw (← c.self.view_is) at c.requires in
    let is : IsChangeOf v q c.args.change.now = changes v refl in
    let own : without_bytes v ≡ c.reserve.new.self.voter = outline_is o log c.self.invariant ∙ sym c.reserve.ensures.voter in
    let became : without_bytes (next v q) ≡ c.apply.new.self.voter = c.apply.ensures.voter v own in
    let at : c.base_index-base_index.result ≡ v.base_index = c.base_index-base_index.ensures ∙ ap (λ (x : State). x.base_index) c.reserve.ensures.voter in
    let written : c.write.new.log.items ≡ (next v q).log =
    c.in_ok-write.ensures.ok ∙ ap (λ b. log_written w (sent_of q) (laid b log)) at ∙ written-laid w (sent_of q) v
    ∙ sym (ap (λ (x : State). x.log) is.next_is) in
    let small : last_index (next v q) < 2 ^ 63 = change_small v q c.args.change.now is c.self.invariant.small in
    record {
      bared = ap bare written ∙ ap (λ (x : State). x.log) became;
      small = rw (← became, written) small;
    }
