use Rattle.raft_crash_examples.proofs.Served.{served}
use Rattle.raft_crash_examples.proofs.serving.serve_across_a_crash.Goals as goal

pub returns-in-Ok-serve-2 : goal.returns-in-Ok-serve-2
returns-in-Ok-serve-2 g c =
    served g.S.RoundService.service g.F.VoterDisk.disk c.args.files c.in-Ok-crashed_under.files c.in-Ok.store c.serve.new.self c.in-Ok-open.store c.serve-2.new.self c.args.before.now c.args.behind.now c.in-Ok-serve.replies c.in-Ok-serve-2.second
    c.in-Ok.ensures.finds c.in-Ok-serve.ensures.ok c.in-Ok-crashed_under.ensures.stands c.in-Ok-open.ensures.finds c.in-Ok-serve-2.ensures.ok
