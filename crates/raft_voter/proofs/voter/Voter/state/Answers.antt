use Rattle.std.proofs.Common.{◌∙◌, ap, sym}
use Rattle.raft_voter_outline.proofs.Public.{status-bare}
use Rattle.raft_voter_outline.specs.State.{state_of}
use Rattle.raft_voter.specs.Entries.{with_entries}
use Rattle.raft_voter.proofs.Owning.{outline_is}
use Rattle.raft_voter.proofs.voter.Voter.state.Goals as goal

pub returns : goal.returns
returns c =
    let o = c.self.inside.outline.voter in
    let log = c.self.inside.log.items in
    rw (← c.self.view_is) (c.state.ensures.value ∙ ap state_of (sym (outline_is o log c.self.invariant)) ∙ status-bare (with_entries o log))
