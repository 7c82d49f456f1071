-- What changes when a caller borrows one group's outline and writes through the borrow.
use Rattle.std.specs.Prelude.{◌≡◌, ◌==◌, ℕ, false, OnSome, Option}
use Rattle.std.specs.Borrow.{Fml, LendsSo, MutBor}
use Rattle.raft_voter_outline.specs.Outlines.{Outlined}
use Rattle.raft_voter_outline.specs.contracts.outline.Outline.{the_row as outline_row}
use Rattle.raft_voter_outline.specs.declared.outlines.Outlines.{Outlines}
use Rattle.raft_voter_outline.specs.contracts.outlines.Outlines.{the_row}
use Rattle.raft_voter_outline.specs.Kept.{outlines_in}

-- in `new`, this group has the voter of `outline`, and every other group has the same voter as in `old`
pub record HasOutline (group : ℕ) (old new : Outlines) (outline : Outlined) : Type 0 where
  pub own : outlines_in new group ≡ outline.voter
  pub others : (g : ℕ) → (g == group) ≡ false → outlines_in new g ≡ outlines_in old g

-- At the end of the borrow, the group has the voter of the outline that was last written through the borrow. The other
-- groups' voters are unchanged. If the call returned `None`, no group's voter changed.
abbrev pub LendsOutline : MutBor Outlines → ℕ → Option (MutBor Outlined) → Fml
LendsOutline s group r =
    LendsSo the_row outline_row s r (λ n w. OnSome r (HasOutline group s.now n w))
    (λ n. (g : ℕ) → outlines_in n g ≡ outlines_in s.now g)
