use Rattle.std.proofs.Common.{◌≡◌, ◌∙◌, true, refl, sym, ap, rules}
use Rattle.raft_voter_messages.specs.Ranges.{in_range}
use Rattle.raft_voter_messages.specs.declared.request.Request.{Request}
use Rattle.raft_voter_messages.specs.declared.request.Request.TheVariants.{Vote, Append, Compact, Install, Read, Status, Retire}
use Rattle.raft_voter_outline.specs.Decisions.{read_answer}
use Rattle.raft_voter_outline.specs.Outlines.{answered, without_bytes}
use Rattle.raft_voter_outline.specs.State.{state_of}
use Rattle.raft_voter_outline.specs.declared.outline.decision.Answer.TheVariants.{Told}
use Rattle.raft_voter_messages.specs.declared.reply.Reply.TheVariants.{Status as StatusReply}
use Rattle.raft_voter_outline.specs.Plans.{Plans}
use Rattle.raft_voter_outline.proofs.Deciding.{append_small, decides_of, does_append, does_compact, does_install, does_retire, does_vote, only_asks, plans_append, plans_compact, plans_install, plans_vote, read-bare, read-there, settled, status-bare}
use Rattle.raft_voter_outline.proofs.outline.Outline.decide.Goals as goal

pub returns-in-Vote : goal.returns-in-Vote
returns-in-Vote c = decides_of _ _ _ (λ v e.
    let o = c.args.self.now.voter in
    let q : Request = Vote c.in-Vote.term c.in-Vote.candidate c.in-Vote.last_index c.in-Vote.last_term in
    let is : c.args.request.now ≡ q = c.in-Vote.is in
    let fit : in_range c.args.request.now ≡ true = search rules in
    let fit_q : in_range q ≡ true = rw is at fit in
    let p = c.vote.result in
    let plan : Plans (without_bytes v) q p = rw e c.vote.ensures in
    let own_plan : Plans v q p = plans_vote v p c.in-Vote.term c.in-Vote.candidate c.in-Vote.last_index c.in-Vote.last_term plan in
    rw is (settled v o q p c.settle.result fit_q e own_plan (rw own_plan.write_is (does_vote v c.in-Vote.term c.in-Vote.candidate c.in-Vote.last_index c.in-Vote.last_term)) c.settle.ensures))

pub returns-in-Append : goal.returns-in-Append
returns-in-Append c = decides_of _ _ _ (λ v e.
    let o = c.args.self.now.voter in
    let q : Request = Append c.in-Append.term c.in-Append.prev_index c.in-Append.prev_term c.in-Append.commit c.in-Append.entries in
    let is : c.args.request.now ≡ q = c.in-Append.is in
    let fit : in_range c.args.request.now ≡ true = search rules in
    let fit_q : in_range q ≡ true = rw is at fit in
    let p = c.append.result in
    let own : Plans o q p = rw c.as_slice.ensures at c.append.ensures in
    let plan : Plans (without_bytes v) q p = rw e own in
    let own_plan : Plans v q p = plans_append v p c.in-Append.term c.in-Append.prev_index c.in-Append.prev_term c.in-Append.commit c.in-Append.entries plan in
    rw is (settled v o q p c.settle-in-Append.result fit_q e own_plan (rw own_plan.write_is (does_append v c.in-Append.term c.in-Append.prev_index c.in-Append.prev_term c.in-Append.commit c.in-Append.entries (append_small c.in-Append.term c.in-Append.prev_index c.in-Append.prev_term c.in-Append.commit c.in-Append.entries fit_q))) c.settle-in-Append.ensures))

pub returns-in-Compact : goal.returns-in-Compact
returns-in-Compact c = decides_of _ _ _ (λ v e.
    let o = c.args.self.now.voter in
    let q : Request = Compact c.in-Compact.index in
    let is : c.args.request.now ≡ q = c.in-Compact.is in
    let fit : in_range c.args.request.now ≡ true = search rules in
    let fit_q : in_range q ≡ true = rw is at fit in
    let p = c.compact.result in
    let plan : Plans (without_bytes v) q p = rw e c.compact.ensures in
    let own_plan : Plans v q p = plans_compact v p c.in-Compact.index plan in
    rw is (settled v o q p c.settle-in-Compact.result fit_q e own_plan (rw own_plan.write_is (does_compact v c.in-Compact.index)) c.settle-in-Compact.ensures))

pub returns-in-Install : goal.returns-in-Install
returns-in-Install c = decides_of _ _ _ (λ v e.
    let o = c.args.self.now.voter in
    let q : Request = Install c.in-Install.term c.in-Install.index c.in-Install.entry_term in
    let is : c.args.request.now ≡ q = c.in-Install.is in
    let fit : in_range c.args.request.now ≡ true = search rules in
    let fit_q : in_range q ≡ true = rw is at fit in
    let p = c.install.result in
    let plan : Plans (without_bytes v) q p = rw e c.install.ensures in
    let own_plan : Plans v q p = plans_install v p c.in-Install.term c.in-Install.index c.in-Install.entry_term plan in
    rw is (settled v o q p c.settle-in-Install.result fit_q e own_plan (rw own_plan.write_is (does_install v c.in-Install.term c.in-Install.index c.in-Install.entry_term)) c.settle-in-Install.ensures))

pub returns-in-Retire : goal.returns-in-Retire
returns-in-Retire c = decides_of _ _ _ (λ v e.
    let o = c.args.self.now.voter in
    let is : c.args.request.now ≡ Retire = c.in-Retire.is in
    let own : Plans v Retire c.retire.result = record {
      reply_is = c.retire.ensures.reply_is;
      state_is = c.retire.ensures.state_is;
      write_is = c.retire.ensures.write_is;
    } in
    rw is (settled v o Retire c.retire.result c.settle-in-Retire.result refl e own (rw own.write_is (does_retire v)) c.settle-in-Retire.ensures))

pub returns-in-Read : goal.returns-in-Read
returns-in-Read c = decides_of _ _ _ (λ v e.
    let from = c.in-Read.from in
    let to = c.in-Read.to in
    let q : Request = Read from to in
    let is : c.args.request.now ≡ q = c.in-Read.is in
    let fit : in_range c.args.request.now ≡ true = search rules in
    let fit_q : in_range q ≡ true = rw is at fit in
    let told : c.told-in-Read.result.answer ≡ read_answer (without_bytes v) from to =
    ap (λ d. d.answer) c.told-in-Read.ensures ∙ c.read.ensures ∙ ap (λ w. read_answer w from to) (sym e) in
    rw is (only_asks v q c.told-in-Read.result fit_q refl (read-bare v from to ∙ ap (λ a. answered a v) (sym told)) (rw told (read-there v from to)) (ap (λ d. d.change) c.told-in-Read.ensures)))

pub returns-in-Status : goal.returns-in-Status
returns-in-Status c = decides_of _ _ _ (λ v e.
    let is : c.args.request.now ≡ Status = c.in-Status.is in
    let told : c.told-in-Status.result.answer ≡ Told (StatusReply (state_of (without_bytes v))) =
    ap (λ d. d.answer) c.told-in-Status.ensures ∙ ap (λ s. Told (StatusReply s)) (c.state.ensures.value ∙ ap state_of (sym e)) in
    rw is (only_asks v Status c.told-in-Status.result refl refl (ap (λ s. StatusReply s) (sym (status-bare v)) ∙ ap (λ a. answered a v) (sym told)) (rw told tt) (ap (λ d. d.change) c.told-in-Status.ensures)))
