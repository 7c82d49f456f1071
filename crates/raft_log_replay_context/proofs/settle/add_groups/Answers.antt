use Rattle.std.proofs.Common.{◌≡◌, ◌∙◌, ◌||◌, ap, take, true, ℕ, rules}
use Rattle.std.proofs.lemmas.List.{take_all}
use Rattle.raft_log_memtables.specs.Batch.{mentions}
use Rattle.raft_log_memtables.proofs.Public.{mentions_more}
use Rattle.raft_log_replay_context.specs.Pieces.{ends_with}
use Rattle.raft_log_replay_context.specs.Noting.{is_listed}
use Rattle.raft_log_replay_context.proofs.Settling.{list_kept, list_pushed, listed_none}
use Rattle.raft_log_replay_context.proofs.settle.add_groups.Goals as goal
use Rattle.raft_log_replay_context.proofs.settle.add_groups.Goals.{then-not-ends_with+in_ok-push, else-not-ends_with}

pub loop-item-init : goal.loop-item-init
loop-item-init c = λ g. listed_none g c.args.groups.now.items

pub loop-item-preserved : goal.loop-item-preserved
loop-item-preserved c =
    let xs = c.args.items.now in
    let i = c.loop-item.item-index in
    let x = c.item-item.result in
    let start = c.args.groups.now.items in
    let old = c.loop-item.groups.items in
    let more = λ (g : ℕ). mentions_more g xs i x x c.loop-item-test.true c.item-item.is in
    elim c.if-not-ends_with.branch [
      | then-not-ends_with+in_ok-push w ↦
          rw w.groups-is (λ g. list_pushed g x.raft_group_id start old _ (mentions g (take i xs)) _ w.in_ok-push.ensures.items (c.loop-item.invariant g) (more g))
      | else-not-ends_with w ↦
          let last : ends_with old x.raft_group_id ≡ true = search rules in
          rw w.groups-is (λ g. list_kept g x.raft_group_id start old (mentions g (take i xs)) _ last (c.loop-item.invariant g) (more g))
    ]

pub returns : goal.returns
returns c = λ g.
    let all : take c.loop-item.item-index c.args.items.now ≡ c.args.items.now = take_all c.loop-item.item-index c.args.items.now c.loop-item-test.false in
    c.loop-item.invariant g ∙ ap (λ l. is_listed g c.args.groups.now.items || mentions g l) all
