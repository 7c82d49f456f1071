use Rattle.std.proofs.Common.{◌≡◌, ◌∙◌, List, ap, sym, refl}
use Rattle.raft_voter_outline.specs.Outlines.{ChangesEach, log_written, outlined, sent_of, without_bytes}
use Rattle.raft_voter_outline.specs.Rules.{next}
use Rattle.raft_voter_outline.specs.Runs.{bare}
use Rattle.raft_voter_outline.specs.State.{State}
use Rattle.raft_voter_messages.specs.declared.reply.VoterState.{VoterState}
use Rattle.raft_voter_outline.proofs.Bareness.{bare-bare}
use Rattle.raft_voter_outline.proofs.Indexes.{Pair}
use Rattle.raft_voter_outline.proofs.Steps.{base_next}
use Rattle.raft_voter_outline.proofs.outline.Outline.apply.Goals as goal

pub change-requires-clause-can : goal.change-requires-clause-can
change-requires-clause-can c =
    let i = c.self.inside in
    let o : State = (outlined i.term i.vote i.base_term i.commit i.terms).voter in
    let bared : without_bytes o ≡ o = ap (λ (l : List Pair). let w : State = record o { log = l } in w) c.self.invariant.bared in
    let decided : ChangesEach o c.args.request.now c.args.change.now = rw (← c.self.view_is) at c.requires.decided in
    let is = decided o bared in
    record {
      voter = o;
      terms_of = record { base_is = refl; log_is = sym c.self.invariant.bared };
      can = is.can;
      rests = is.rests;
      small = is.small c.self.invariant.small;
    }

pub invariant_of-self : goal.invariant_of-self
invariant_of-self c =
    let i = c.self.inside in
    let o : State = (outlined i.term i.vote i.base_term i.commit i.terms).voter in
    let bared : without_bytes o ≡ o = ap (λ (l : List Pair). let w : State = record o { log = l } in w) c.self.invariant.bared in
    let decided : ChangesEach o c.args.request.now c.args.change.now = rw (← c.self.view_is) at c.requires.decided in
    let is = decided o bared in
    let base : c.change.new.self.base ≡ c.args.change.now.state.base_index = c.change.ensures.terms.0 in
    let log = c.change.ensures.terms.1 o (record { base_is = refl; log_is = sym c.self.invariant.bared }) in
    let at : c.args.change.now.state.base_index ≡ (next o c.args.request.now).base_index = ap (λ (s : VoterState). s.base_index) is.state in
    let committed : c.args.change.now.state.commit ≡ (next o c.args.request.now).commit = ap (λ (s : VoterState). s.commit) is.state in
    record {
      bared = ap bare log ∙ bare-bare (log_written c.args.change.now.write (sent_of c.args.request.now) o) ∙ sym log;
      small = rw base (is.small c.self.invariant.small);
      committed = rw (base, at, committed) (base_next c.args.request.now o c.self.invariant.committed);
    }
