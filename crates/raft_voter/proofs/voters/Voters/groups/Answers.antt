use Rattle.std.proofs.Common.{◌≡◌, ◌++◌, List, ℕ, subst, sym, ◌∙◌, append-nil}
use Rattle.std.specs.Map.{keys_of}
use Rattle.raft_voter_outline.specs.State.{State, fresh}
use Rattle.raft_voter.proofs.Sameness.{unlisted}
use Rattle.raft_voter.proofs.voters.Voters.groups.Goals as goal

pub returns : goal.returns
returns c =
    let es = c.args.self.now.voters.entries in
    let gs = c.loop-group.groups.items in
    let P : List (ℕ × State) → Type 0 = λ left. gs ++ keys_of left ≡ keys_of es in
    let whole : gs ≡ keys_of es = sym (append-nil gs) ∙ subst P c.in-None.ensures.steps.0 c.loop-group.invariant in
    λ g out. unlisted es gs g fresh whole out
