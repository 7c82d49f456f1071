use Rattle.std.proofs.Common.{ap, refl, sym, ◌∙◌, None}
use Rattle.raft_log_replay_context.proofs.Slots.{number_within, read_there}
use Rattle.raft_log_replay_context.proofs.open_groups.add_part.Goals as goal

pub returns-in_ok-push-clause-ok : goal.returns-in_ok-push-clause-ok
returns-in_ok-push-clause-ok c =
    let ss = c.args.slots.now.items in
    record {
      before = c.in-Some.group;
      after = record { number = c.in-Some.group.number; parts = c.push.new.self };
      stood = read_there ss c.args.place None c.index_mut.result.now (number_within ss c.args.place c.requires.0 c.requires.1) ∙ sym c.index_mut.ensures.value ∙ c.in-Some.is;
      stands = refl;
      more = ap (λ ps. (c.in-Some.group.number, ps)) c.in_ok-push.ensures.items;
    }
