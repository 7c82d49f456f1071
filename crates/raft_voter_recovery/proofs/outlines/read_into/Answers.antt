use Rattle.std.proofs.Common.{◌++◌, ◌∷◌, [], Option, refl, inr, subst}
use Rattle.raft_log_engine_core.specs.Reads.{shows_of}
use Rattle.raft_voter_outline.specs.Outlines.{Outlined}
use Rattle.raft_voter_outline.specs.Pairs.{outlines_of}
use Rattle.raft_voter_outline.proofs.Public.{pushed_others, pushed_own}
use Rattle.raft_voter_recovery.specs.Listing.{TellsOutline}
use Rattle.raft_voter_recovery.proofs.Filling.{outline_kept}
use Rattle.raft_voter_recovery.proofs.outlines.read_into.Goals as goal

pub returns-in_default-clause-ok : goal.returns-in_default-clause-ok
returns-in_default-clause-ok g c =
    let s = shows_of g.P.PipeLog.shown c.args.engine.now in
    inr (λ h. refl, subst (λ (x : Option Outlined). TellsOutline s c.args.group x) c.in_default.is c.in_ok-outline.ensures.ok)

pub returns-clause-ok : goal.returns-clause-ok
returns-clause-ok g c =
    let s = shows_of g.P.PipeLog.shown c.args.engine.now in
    let ps = c.args.pairs.now.items in
    let x = c.args.group in
    let o = c.in-Some.outline in
    rw c.in-Ok.ensures.items (outline_kept s x (outlines_of ps) (outlines_of (ps ++ (x, o) ∷ [])) o.voter
    (subst (λ (y : Option Outlined). TellsOutline s x y) c.in-Some.is c.in_ok-outline.ensures.ok) (pushed_own ps x o) (λ h apart. pushed_others ps x h o apart))
