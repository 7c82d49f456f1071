use Rattle.std.proofs.Common.{◌≡◌, ◌∙◌, ap, arith, sym, take, ℕ}
use Rattle.std.proofs.lemmas.List.{take_all}
use Rattle.raft_log_memtables.proofs.Items.{mentions_more}
use Rattle.raft_log_memtables.proofs.Ready.{none_more, others_more, rest_more, unwritten_rests}
use Rattle.raft_log_memtables.specs.Batch.{mentions}
use Rattle.raft_log_memtables.proofs.mem_tables.MemTables.take_back.Goals as goal

pub loop-item-preserved : goal.loop-item-preserved
loop-item-preserved c =
    let e = c.take_back_of.ensures in
    let so_far = c.loop-item.invariant in
    let xs = c.args.items.now in
    let i = c.loop-item.item-index in
    let more = λ (g : ℕ). mentions_more g xs i _ c.item-item.result (omega arith) c.item-item.is in
    record {
      shows = record { shown = λ g. e.shows.shown g ∙ so_far.shows.shown g; counts = λ g. e.shows.counts g ∙ so_far.shows.counts g };
      rest = λ g h. rest_more c.loop-item.self c.take_back_of.new.self c.item-item.result.raft_group_id g _ e.shows e.rest e.others (so_far.rest g) (sym (more g) ∙ h);
      moves = λ g h. none_more (λ q. q.moves) c.loop-item.self c.take_back_of.new.self c.item-item.result.raft_group_id g _ e.moves e.others (so_far.moves g) (sym (more g) ∙ h);
      room = λ g h. none_more (λ q. q.wanted) c.loop-item.self c.take_back_of.new.self c.item-item.result.raft_group_id g _ e.room e.others (so_far.room g) (sym (more g) ∙ h);
      others = λ g h. others_more c.args.self.now c.loop-item.self c.take_back_of.new.self c.item-item.result.raft_group_id g _ e.others (so_far.others g) (sym (more g) ∙ h);
      tables = λ g. e.tables g ∙ so_far.tables g;
    }

pub returns-clause-unwritten : goal.returns-clause-unwritten
returns-clause-unwritten c =
    let m = c.args.self.now in
    let n = c.loop-item.self in
    let xs = c.args.items.now in
    let done = c.loop-item.invariant in
    let all : take c.loop-item.item-index xs ≡ xs = take_all c.loop-item.item-index xs c.loop-item-test.false in
    unwritten_rests m n xs done.shows (λ g h. done.rest g (ap (mentions g) all ∙ h)) (λ g h. done.others g (ap (mentions g) all ∙ h))
