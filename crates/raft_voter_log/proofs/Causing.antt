-- Why rounds are cut off, and purges refused.
use Rattle.std.proofs.Common.{◌≡◌, ◌∙◌, false, [], refl, sym, subst, inl, inr}
use Rattle.std.proofs.lemmas.Bool.{false≢true}
use Rattle.raft_log_record_base.specs.declared.errors.Error.{Error}
use Rattle.raft_log_record_base.specs.declared.errors.Error.TheVariants as errors
use Rattle.raft_log_record_frames.specs.Marking.{mark_key}
use Rattle.raft_voter_durability_laws.specs.raft_log_engine_laws.specs.EngineState.{LogDirectories, LogMap, EngineState, has_failed}
use Rattle.raft_voter_durability_laws.specs.raft_log_engine_laws.specs.Holding.{Represents}
use Rattle.raft_log_purge.specs.Append.{FailsToRewriteAppend}
use Rattle.raft_log_purge_copy.specs.Reasons.{HasMarkValue, HasPurgeReason, HasReason}
use Rattle.raft_voter.specs.Rounds.{World}
use Rattle.raft_voter_records.specs.Voters.{Means}
use Rattle.raft_voter_log.specs.StoreCauses.{CutRoundsHaveFailed, FailedPurgesHaveFailed, HasVotersReason, PurgesTellCauses, StopsPurge}
use Rattle.raft_voter_log.proofs.Lengths.{no_long_group}
use Rattle.raft_voter_log.proofs.Listed.{voters_have_no_own_key}

pub cut_rounds_have_failed : CutRoundsHaveFailed
cut_rounds_have_failed home V requests refused s t os keeps are cuts = elim (cuts.left home V keeps are) [ inl gave ↦ gave.fails | inr unsynced ↦ unsynced.fails ]

-- a store that keeps voters hasn't failed
alive : (home : LogDirectories) (s : EngineState) (m : LogMap) → Represents home s m [] → has_failed s ≡ false
alive home s m h =
    let one : s.pipes.append.failed ≡ false = h.runs.append.alive in
    let other : s.pipes.rewrite.failed ≡ false = h.runs.rewrite.alive in
    rw (one, other) refl

-- a purge of it was refused in its midst
refused : (home : LogDirectories) (s t : EngineState) (m : LogMap) (error : Error) → Represents home s m [] → StopsPurge s t error → FailsToRewriteAppend error s t
refused home s t m error h (inl (inl had)) = absurd (false≢true (sym (alive home s m h) ∙ had.1))
refused home s t m error h (inl (inr fails)) = fails.1
refused home s t m error h (inr (inl had)) = absurd (false≢true (sym (alive home s m h) ∙ had.1))
refused home s t m error h (inr (inr fails)) = fails.1

-- where it isn't full, it is refused as a part of it is
but_full : (home : LogDirectories) (m : LogMap) (error : Error) (s t : EngineState) → (error ≡ errors.Full → ⊥) → HasPurgeReason home m error s t → HasReason home m error s t
but_full home m error s t other (inl reason) = reason
but_full home m error s t other (inr (full, long)) = absurd (other full)

pub failed_purges_have_failed : FailedPurgesHaveFailed
failed_purges_have_failed home V s t error keeps stops failed =
    let h = keeps.holds in
    let f = refused home s t keeps.map error h stops in
    let is : error ≡ errors.Failed = (f.tells (alive home s keeps.map h)).0 failed in
    subst (λ (e : Error). HasReason home keeps.map e s t) is (but_full home keeps.map error s t (λ full. let never : ⊥ = cc in never) (f.cause home keeps.map [] h))

-- a group of voters has none of the log's own keys
no_mark_value : (m : LogMap) (V : World) → Means m V → HasMarkValue m → ⊥
no_mark_value m V means (value, has) = let none = voters_have_no_own_key m V means 0 mark_key refl in let no : ⊥ = cc in no

voters_reason : (home : LogDirectories) (m : LogMap) (V : World) (error : Error) (s t : EngineState) → Means m V → HasReason home m error s t → HasVotersReason home m error s t
voters_reason home m V (errors.InvalidArgument text) s t means h = no_mark_value m V means h
voters_reason home m V errors.Full s t means long = absurd (no_long_group m V means long)
voters_reason home m V error s t means h = h

purge_reason : (home : LogDirectories) (m : LogMap) (V : World) (error : Error) (s t : EngineState) → Means m V → HasPurgeReason home m error s t → HasVotersReason home m error s t
purge_reason home m V error s t means (inl reason) = voters_reason home m V error s t means reason
purge_reason home m V error s t means (inr (full, long)) = subst (λ (e : Error). HasVotersReason home m e s t) (sym full) long

pub purges_tell_causes : PurgesTellCauses
purges_tell_causes home V s t error keeps stops =
    let f = refused home s t keeps.map error keeps.holds stops in
    (keeps.map, keeps.means, purge_reason home keeps.map V error s t keeps.means (f.cause home keeps.map [] keeps.holds))
