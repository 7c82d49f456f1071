-- What a purge makes of what is known of a store and its journal.
use Rattle.std.proofs.Common.{◌≡◌, Bool, true, false, is_some, List, Option, None, refl, sym, ap, ◌∙◌}
use Rattle.std.proofs.lemmas.Bool.{false≢true}
use Rattle.raft_voter_messages.specs.declared.round.Round.{Round}
use Rattle.raft_voter.specs.Rounds.{World}
use Rattle.raft_voter_shared.specs.declared.failure.Failure.{Failure}
use Rattle.raft_voter_shared.specs.Purging.{failure_in_purge}
use Rattle.raft_voter_shared.specs.Standing.{is_last, standing}

-- a store that hasn't failed now hadn't before
pub was_alive : (before now : Bool) → (before ≡ true → now ≡ true) → now ≡ false → before ≡ false
was_alive false now stays alive = refl
was_alive true now stays alive = absurd (false≢true (sym alive ∙ stays refl))

-- the voters that stand behind the journal are the same
pub standing_kept :
    (before now : Bool) (failure : Option Failure) (W : World) (rounds : List Round) → (before ≡ false → failure ≡ None)
    → standing W rounds (failure_in_purge before now failure) ≡ standing W rounds failure
standing_kept false true failure W rounds none = sym (ap (standing W rounds) (none refl))
standing_kept false false failure W rounds none = refl
standing_kept true now failure W rounds none = refl

pub last_kept :
    (before now : Bool) (failure : Option Failure) (rounds : List Round) → is_last failure rounds ≡ true
    → is_last (failure_in_purge before now failure) rounds ≡ true
last_kept false true failure rounds last = refl
last_kept false false failure rounds last = last
last_kept true now failure rounds last = last

pub alive_kept :
    (before now : Bool) (failure : Option Failure) → (before ≡ false → failure ≡ None) → (before ≡ true → now ≡ true)
    → now ≡ false → failure_in_purge before now failure ≡ None
alive_kept false true failure none stays alive = absurd (false≢true (sym alive))
alive_kept false false failure none stays alive = none refl
alive_kept true now failure none stays alive = absurd (false≢true (sym alive ∙ stays refl))

pub cause_kept :
    (before now had : Bool) (failure : Option Failure) → (before ≡ true → had ≡ false → is_some failure ≡ true)
    → now ≡ true → had ≡ false → is_some (failure_in_purge before now failure) ≡ true
cause_kept false true had failure some dead lived = refl
cause_kept false false had failure some dead lived = absurd (false≢true dead)
cause_kept true now had failure some dead lived = some refl lived
