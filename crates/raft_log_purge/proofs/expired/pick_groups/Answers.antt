use Rattle.std.proofs.Common.{◌==◌, ℕ, Bool, List, ap, ◌∙◌}
use Rattle.std.specs.List.{list_any}
use Rattle.raft_log_purge_policy.specs.Behind.{round_behind}
use Rattle.raft_log_purge_policy.specs.Picking.{count_of}
use Rattle.raft_log_purge.proofs.expired.pick_groups.Goals as goal

pub returns : goal.returns
returns c =
    let seen = c.in_ok-picked.ensures in
    let lists = seen.picks in record {
      answered = lists.answered;
      rewritten = lists.rewritten;
      rounds = λ g.
          c.in_ok-next.ensures g
          ∙ ap (λ (b : Bool). round_behind b (count_of c.args.rounds.now g)) (ap (λ (l : List ℕ). list_any (λ k. k == g) l) c.as_slice.ensures.value ∙ lists.asked.exact g);
      owed = seen.owed;
    }
