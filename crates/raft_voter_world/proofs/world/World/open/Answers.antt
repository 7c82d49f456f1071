use Rattle.std.proofs.Common.{refl, subst, sym}
use Rattle.raft_voter.specs.Voters.{world_of}
use Rattle.raft_voter_world.specs.declared.notes.Notes.{Notes}
use Rattle.raft_voter_world.specs.declared.opening.Opened.{Opened}
use Rattle.raft_voter_world.specs.declared.world.World.{World}
use Rattle.raft_voter_world.specs.Notes.{NotesShown}
use Rattle.raft_voter_world.specs.Openings.{ComesOut}
use Rattle.raft_voter_world.proofs.FromFiles.{from_closed, from_shown, open_step}
use Rattle.raft_voter_world.proofs.Moving.{ok_weaker}
use Rattle.raft_voter_world.proofs.world.World.open.Goals.{in-Shown+in_ok-show-in-Shown, in-Closed}
use Rattle.raft_voter_world.proofs.world.World.open.Goals as goal

pub returns : goal.returns
returns g c =
    let came = λ (o : Opened g.row.S.Denot g.row.F.Denot). ComesOut g.S.RoundService.service g.S.VoterStorage.upkeep g.F.VoterDisk.disk c.into_files-files.result c.args.workers c.args.self.left o in
    let opens = λ (new : World g.row.S.Denot g.row.F.Denot). open_step g.S.RoundService.service g.S.VoterStorage.upkeep g.F.VoterDisk.disk c.args.place c.args.workers c.args.self new c.args.self.storage c.into_files-files.result refl c.into_files-files.ensures in
    elim c.match-branch-2.branch [
      | in-Shown+in_ok-show-in-Shown w ↦
          ok_weaker c.fallen.result _ _ (λ new f. opens new
          (from_shown _ _ _ c.args.place c.args.workers c.args.self _ new c.into_files-files.result w.in-Shown.store w.in-Shown.shown w.in_ok-show-in-Shown.ensures.0 (subst came w.in-Shown.is c.in_ok-store.ensures) w.storage-is
          (subst (λ (n : Notes). NotesShown c.args.self.notes c.args.place (world_of w.in-Shown.shown) w.in_ok-show-in-Shown.ensures.0 n) (sym w.notes-is) w.in_ok-show-in-Shown.ensures.1) refl f)) (c.fallen.ensures c.args.place)
      | in-Closed w ↦
          ok_weaker c.fallen.result _ _ (λ new f. opens new
          (from_closed _ _ _ c.args.place c.args.workers c.args.self _ new c.into_files-files.result w.in-Closed.files (subst came w.in-Closed.is c.in_ok-store.ensures) w.storage-is w.notes-is refl f)) (c.fallen.ensures c.args.place)
    ]
