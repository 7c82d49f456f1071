use Rattle.std.proofs.Common.{◌≡◌, ℕ, ◌+◌, ◌-◌, ◌≤◌, ap, ap₂, arith, drop, length, take, ◌∙◌}
use Rattle.raft_log_record_base.specs.declared.pipe_log.FileBlockHandle.{FileBlockHandle}
use Rattle.raft_log_record_base.specs.declared.pipe_log.LogQueue.{LogQueue}
use Rattle.raft_log_extents.specs.Blocks.{in_block}
use Rattle.raft_log_extents.specs.Bounds.{bounds_of}
use Rattle.raft_log_extents.specs.Entries.{place_at}
use Rattle.raft_log_memtable.specs.Table.{shown}
use Rattle.raft_log_memtable.proofs.Fetching.{appended_between, rewritten_between}
use Rattle.raft_log_memtable.proofs.mem_table.MemTable.bounds.Goals.{then-position-self, else-position-self}
use Rattle.raft_log_memtable.proofs.mem_table.MemTable.bounds.Goals as goal

pub returns-clause-entries : goal.returns-clause-entries
returns-clause-entries c =
    let v = shown c.args.self.now in
    let n = c.args.index - v.first in
    let p = c.bounds.result.0 in
    let limit = c.if-position-self.queue.1 in
    let block : FileBlockHandle = record { id = c.new.result; offset = p.offset; len = p.len } in
    let bounds = bounds_of c.bounds.result.1 in
    let first = ap (λ v. v.first) c.self.view_is in
    let places = ap (λ v. v.places.items) c.self.view_is in
    let border = ap (λ v. v.rewritten) c.self.view_is in
    let at : c.args.index ≡ v.first + n = omega (arith, c.requires.first) in
    let same : place_at block ≡ in_block p 0 0 = ap (λ k. in_block (record p { file = k }) 0 0) c.new.ensures.seq in
    let long : length bounds ≤ limit + 1 = c.bounds.ensures.count.1 in
    let are = c.bounds.ensures.places ∙ ap₂ (λ f q. take (length bounds - 1) (drop (c.args.index - f) q)) first places in
    elim c.if-position-self.branch [
      | then-position-self w ↦
          rewritten_between v n c.args.index limit v.places block p bounds at same long are (c.new.ensures.queue ∙ ap (λ (q : LogQueue × ℕ). q.0) w.queue-is)
          (let few = ap (λ (q : LogQueue × ℕ). q.1) w.queue-is in omega (arith, few, w.min.ensures, w.if-position-self.true, first, border))
      | else-position-self w ↦
          appended_between v n c.args.index limit v.places block p bounds at same long are (c.new.ensures.queue ∙ ap (λ (q : LogQueue × ℕ). q.0) w.queue-is)
          (omega (arith, w.if-position-self.false, first, border))
    ]
