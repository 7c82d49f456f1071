use Rattle.std.proofs.Common.{refl, subst}
use Rattle.raft_voter_world.specs.declared.serving.Served.{Served}
use Rattle.raft_voter_world.specs.declared.world.World.{World}
use Rattle.raft_voter_world.specs.Steps.{Falling}
use Rattle.raft_voter_world.specs.Storages.{IsServed}
use Rattle.raft_voter_world.proofs.Moving.{ok_weaker}
use Rattle.raft_voter_world.proofs.Rounding.{answered_rising, answered_step, none_step, some_step}
use Rattle.raft_voter_world.proofs.world.World.round.Goals.{in-Answered+in_ok-answered-in-Answered, in-TookSome, in-TookNone+in_ok-idle-in-TookNone}
use Rattle.raft_voter_world.proofs.world.World.round.Goals as goal

pub answered-requires-clause-rising : goal.answered-requires-clause-rising
answered-requires-clause-rising g c =
    answered_rising g.S.RoundService.service c.args.requests c.args.self.storage c.serve.new.self c.in-Answered.round
    (subst (λ (s : Served). IsServed g.S.RoundService.service c.args.requests c.args.self.storage s c.serve.new.self) c.in-Answered.is c.in_ok-round.ensures)

pub returns : goal.returns
returns g c =
    elim c.match-branch-2.branch [
      | in-Answered+in_ok-answered-in-Answered w ↦
          ok_weaker c.fallen.result _ _ (λ new f. answered_step _ _ _ c.args.place c.args.requests c.args.self _ new c.args.self.storage c.serve.new.self w.in-Answered.round refl refl
          (subst (λ (s : Served). IsServed g.S.RoundService.service c.args.requests c.args.self.storage s c.serve.new.self) w.in-Answered.is c.in_ok-round.ensures)
          c.requires w.in_ok-answered-in-Answered.ensures refl
          (subst (λ (mid : World g.row.S.Denot g.row.F.Denot). Falling g.S.RoundService.service g.S.VoterStorage.upkeep g.F.VoterDisk.disk c.args.place mid new) w.self-is f)) (c.fallen.ensures c.args.place)
      | in-TookSome w ↦
          ok_weaker c.fallen.result _ _ (λ new f. some_step _ _ _ c.args.place c.args.requests c.args.self _ new c.args.self.storage c.serve.new.self w.in-TookSome.round refl refl
          (subst (λ (s : Served). IsServed g.S.RoundService.service c.args.requests c.args.self.storage s c.serve.new.self) w.in-TookSome.is c.in_ok-round.ensures)
          c.requires w.cut_off.ensures refl
          (subst (λ (mid : World g.row.S.Denot g.row.F.Denot). Falling g.S.RoundService.service g.S.VoterStorage.upkeep g.F.VoterDisk.disk c.args.place mid new) w.self-is f)) (c.fallen.ensures c.args.place)
      | in-TookNone+in_ok-idle-in-TookNone w ↦
          ok_weaker c.fallen.result _ _ (λ new f. none_step _ _ _ c.args.place c.args.requests c.args.self _ new c.args.self.storage c.serve.new.self w.in-TookNone.round refl refl
          (subst (λ (s : Served). IsServed g.S.RoundService.service c.args.requests c.args.self.storage s c.serve.new.self) w.in-TookNone.is c.in_ok-round.ensures)
          w.in_ok-idle-in-TookNone.ensures refl
          (subst (λ (mid : World g.row.S.Denot g.row.F.Denot). Falling g.S.RoundService.service g.S.VoterStorage.upkeep g.F.VoterDisk.disk c.args.place mid new) w.self-is f)) (c.fallen.ensures c.args.place)
    ]
