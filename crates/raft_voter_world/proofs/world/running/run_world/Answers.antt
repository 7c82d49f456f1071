use Rattle.std.proofs.Common.{rules}
use Rattle.raft_voter_world.proofs.Moving.{ok_weaker}
use Rattle.raft_voter_world.proofs.Turning.{new_ready, runs}
use Rattle.raft_voter_world.proofs.world.running.run_world.Goals as goal

pub play-requires : goal.play-requires
play-requires g c = (search rules, new_ready g.S.RoundService.service c.args.files c.new-world.result c.new-world.ensures.storage)

pub returns : goal.returns
returns g c =
    ok_weaker c.finish.result _ _ (λ report e. runs _ _ _ c.args.files c.args.events.items c.new-world.result c.in_ok-played.played report (record {
      storage = c.new-world.ensures.storage;
      cut = c.new-world.ensures.world;
      rounds = c.new-world.ensures.rounds;
      cuts = c.new-world.ensures.cuts;
      lost = c.new-world.ensures.lost;
      left = c.new-world.ensures.left;
    }) c.in_ok-played.ensures e) c.finish.ensures
