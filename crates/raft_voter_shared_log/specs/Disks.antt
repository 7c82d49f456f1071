-- A store on a disk is closed, and it is opened again, after a crash or without one.
use Rattle.raft_voter.specs.Rounds.{World}
use Rattle.raft_voter.specs.Service.{CutRound, IsOpenAt, MayFollow, Service}
use Rattle.raft_voter_world.specs.Stores.{Disk, FindsVoters, LeavesInFiles, LeavesStanding}

-- The close of store `old` left the files `closed`. Store `new` was opened from `left`: these files, or what a crash
-- left of them. Suppose that after a close or a crash of `old`, an open finds only voters that are possible after the
-- round `cut`, and that there is no CRC collision in `left`. Then `new` serves such voters.
--
-- What counts as a CRC collision depends on a proof of what the files hold. For `closed`, this is the proof that the
-- close gives. For `left`, it is the proof that follows from that one.
abbrev pub DisksGoOn : {S F : Type 0} → Service S → Disk S F → Type 0
DisksGoOn {S} {F} v d = (old new : S) (closed left : F) (cut : CutRound) → (was : v.leaves old cut)
    → (closes : LeavesInFiles v d old closed) → (crashes : LeavesStanding v d closed left left)
    → FindsVoters v d left new → (spared : d.without_chance closed cut (closes cut was) left)
    → d.without_chance left cut (crashes cut (closes cut was) spared) left
    → (X : World) × MayFollow cut X × IsOpenAt v new X
