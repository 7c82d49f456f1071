-- How a store came to fail stays so, or is known behind the call in which it failed.
use Rattle.std.proofs.Common.{◌≡◌, ℕ, Bool, true, false, List, ◌++◌, length, Option, sym, subst}
use Rattle.std.proofs.Math.Logic.{∥∥₁_map}
use Rattle.raft_voter_messages.specs.declared.request.Request.{Request}
use Rattle.raft_voter_messages.specs.declared.round.Round.{Round}
use Rattle.raft_voter.specs.Rounds.{World}
use Rattle.raft_voter.specs.Service.{CutRound, CutsOff, FailsAs, IsOpenAt, Service, uncut}
use Rattle.raft_voter.specs.declared.service.Cause.{Cause}
use Rattle.raft_voter.specs.declared.service.Cause.TheVariants.{FileSystem, Memory, Failed, TooLong}
use Rattle.raft_voter_rounds.specs.Journal.{reached}
use Rattle.raft_voter_shared.specs.declared.failure.Failure.{Failure}
use Rattle.raft_voter_shared.specs.Failing.{CameToFailAs}
use Rattle.raft_voter_shared.specs.Purging.{KeepsServed, failure_in_purge}
use Rattle.raft_voter_shared.specs.Standing.{failure_behind, is_last, standing}
use Rattle.raft_voter_shared.proofs.Journals.{AreCutOff, standing-append, standing_here}

module _ {S : Type 0} (v : Service S) (old new : S) where
  -- what was left of it is left: it came to fail as it had before
  pub still_fails :
      (cut : CutRound) (failure : Option Failure) → ((stood : CutRound) → v.leaves old stood → v.leaves new stood)
      → CameToFailAs v failure cut old → CameToFailAs v failure cut new
  still_fails cut failure stays why is =
      ∥∥₁_map (why is) (λ f. record {
        before = f.before;
        after = f.after;
        served = f.served;
        fails = f.fails;
        failed = f.failed;
        left = f.left;
        still = λ stood l. stays stood (f.still stood l);
      })

  -- behind rounds that were cut off together
  pub cut_why :
      (rounds : List Round) (requests : List (ℕ × Request)) (cause : Cause) (refused : List ℕ) (cut : List Round)
      (failure : Option Failure) → AreCutOff requests refused cut
      → CutsOff v cause refused requests old new → FailsAs cause (length requests) (v.is_failed old) (v.is_failed new)
      → is_last failure rounds ≡ true → (W : World) → (v.is_failed old ≡ false → ∥ IsOpenAt v old (reached W rounds) ∥₁)
      → CameToFailAs v failure (standing W rounds failure) old
      → CameToFailAs v (failure_behind cause (length rounds) (length (rounds ++ cut)) failure)
      (standing W (rounds ++ cut) (failure_behind cause (length rounds) (length (rounds ++ cut)) failure)) new
  cut_why rounds requests cause refused cut failure are cuts fails last W opens why = go cause cuts fails
    where
      same : ((stood : CutRound) → v.leaves old stood → v.leaves new stood)
          → CameToFailAs v failure (standing W (rounds ++ cut) failure) new
      same stays =
          subst (λ (stood : CutRound). CameToFailAs v failure stood new) (sym (standing-append W failure rounds requests refused cut are last))
          (still_fails (standing W rounds failure) failure stays why)

      go : (cause : Cause) → CutsOff v cause refused requests old new
          → FailsAs cause (length requests) (v.is_failed old) (v.is_failed new)
          → CameToFailAs v (failure_behind cause (length rounds) (length (rounds ++ cut)) failure)
          (standing W (rounds ++ cut) (failure_behind cause (length rounds) (length (rounds ++ cut)) failure)) new
      go FileSystem cuts fails =
          subst (λ (stood : CutRound). CameToFailAs v (failure_behind FileSystem (length rounds) (length (rounds ++ cut)) failure) stood new)
          (sym (standing_here W rounds requests refused cut are))
          (λ is. ∥∥₁_map (opens fails.1) (λ at. record {
            before = old;
            after = new;
            served = at;
            fails = cuts.fails (reached W rounds) at;
            failed = fails.2;
            left = cuts.left (reached W rounds) at;
            still = λ stood l. l;
          }))
      go Memory cuts fails = same cuts.left
      go Failed cuts fails = same cuts.left
      go TooLong cuts fails = same cuts.left

  -- behind a purge
  pub purged_why :
      (rounds : List Round) (failure : Option Failure) → KeepsServed v old new
      → (W : World) → (v.is_failed old ≡ false → ∥ IsOpenAt v old (reached W rounds) ∥₁)
      → CameToFailAs v failure (standing W rounds failure) old → (before now : Bool) → v.is_failed old ≡ before
      → v.is_failed new ≡ now
      → CameToFailAs v (failure_in_purge before now failure) (standing W rounds (failure_in_purge before now failure)) new
  purged_why rounds failure kept W opens why false true lived dead =
      λ is. ∥∥₁_map (opens lived) (λ at. record {
        before = old;
        after = new;
        served = at;
        fails = kept.fails (reached W rounds) at dead;
        failed = dead;
        left = kept.left (uncut (reached W rounds)) at.left;
        still = λ stood l. l;
      })
  purged_why rounds failure kept W opens why false false lived dead =
      still_fails (standing W rounds failure) failure kept.left why
  purged_why rounds failure kept W opens why true now lived dead =
      still_fails (standing W rounds failure) failure kept.left why
