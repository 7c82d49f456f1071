use Rattle.std.proofs.Common.{◌≡◌, ◌∷◌, ◌++◌, [], List, subst, sym, append-nil, rules}
use Rattle.std.proofs.lemmas.Result.{on_ok_weaker}
use Rattle.raft_log_world.specs.Model.{ModelLog}
use Rattle.raft_log_judge.specs.Candidates.{log_of}
use Rattle.raft_log_judge.specs.declared.change.Change.{Change}
use Rattle.raft_log_judge.specs.Changes.{says_of}
use Rattle.raft_log_judge.specs.Contents.{after_all}
use Rattle.raft_log_judge.specs.Views.{IsRead, LeadTo}
use Rattle.raft_log_judge.proofs.Nexts.{adds_lead, opens_lead, reads_lead, reads_not_lead, turns_lead}
use Rattle.raft_log_judge.proofs.Supporting.{to_not}
use Rattle.raft_log_judge.proofs.stepping.step_one.Goals as goal

pub returns-in_ok-push_back-in-Reads : goal.returns-in_ok-push_back-in-Reads
returns-in_ok-push_back-in-Reads g c =
    let candidate = c.args.candidate in
    let pushed : c.push_back.new.self.items ≡ c.args.nexts.now.items ++ candidate ∷ [] = search rules in
    let read = c.is_read.ensures.0 c.if-is_read.true in
    record {
      more = candidate ∷ [];
      adds = pushed;
      lead = reads_lead c.args.event.now c.args.answer.now candidate (sym c.in-Reads.ensures) (rw c.as_slice.ensures at read);
    }

pub returns-else-is_read : goal.returns-else-is_read
returns-else-is_read g c =
    let batches = c.args.candidate.batches in
    let not : IsRead (after_all batches) c.args.event.now c.args.answer.now → ⊥ =
    λ read. to_not c.is_read.result c.if-is_read.false (c.is_read.ensures.1 (subst (λ (bs : List (List Change)). IsRead (after_all bs) c.args.event.now c.args.answer.now) (sym c.as_slice.ensures) read)) in
    record {
      more = [];
      adds = sym (append-nil c.args.nexts.now.items);
      lead = reads_not_lead c.args.event.now c.args.answer.now c.args.candidate (sym c.in-Reads.ensures) not;
    }

pub returns-in_ok-push_back-in-Turns : goal.returns-in_ok-push_back-in-Turns
returns-in_ok-push_back-in-Turns g c =
    let candidate = c.args.candidate in
    let pushed : c.push_back-in-Turns.new.self.items ≡ c.args.nexts.now.items ++ c.turned.result ∷ [] = search rules in
    record {
      more = c.turned.result ∷ [];
      adds = pushed;
      lead = subst (λ (log : ModelLog). LeadTo says_of (log_of candidate ∷ []) c.args.event.now c.args.answer.now (log ∷ [])) (sym c.turned.ensures)
          (turns_lead c.args.event.now c.args.answer.now candidate c.in-Turns.standing c.in-Turns.settles (sym c.in-Turns.ensures));
    }

pub returns-in_ok-push_back-in-Adds : goal.returns-in_ok-push_back-in-Adds
returns-in_ok-push_back-in-Adds g c =
    let candidate = c.args.candidate in
    let pushed : c.push_back-in-Adds.new.self.items ≡ c.args.nexts.now.items ++ c.turned-in-Adds.result ∷ [] = search rules in
    record {
      more = c.turned-in-Adds.result ∷ [];
      adds = pushed;
      lead = subst (λ (log : ModelLog). LeadTo says_of (log_of candidate ∷ []) c.args.event.now c.args.answer.now (log ∷ [])) (sym c.turned-in-Adds.ensures)
          (adds_lead c.args.event.now c.args.answer.now candidate c.in_ok-more-in-Adds.more c.in_ok-batch-in-Adds.batch c.in_ok-more-in-Adds.ensures.durable c.in_ok-more-in-Adds.ensures.pending c.in_ok-batch-in-Adds.ensures c.in-Adds.standing c.in-Adds.settles (sym c.in-Adds.ensures));
    }

pub returns-in-Opens : goal.returns-in-Opens
returns-in-Opens g c =
    let candidate = c.args.candidate in
    on_ok_weaker c.open_all.result (λ added. record {
      more = added.more;
      adds = added.adds;
      lead = subst (λ (logs : List ModelLog). LeadTo says_of (log_of candidate ∷ []) c.args.event.now c.args.answer.now logs) (sym added.are) (opens_lead c.args.event.now c.args.answer.now candidate (sym c.in-Opens.ensures));
    }) c.open_all.ensures
