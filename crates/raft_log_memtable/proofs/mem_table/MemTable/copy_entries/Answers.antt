use Rattle.std.proofs.Common.{ap, arith}
use Rattle.raft_log_memtable.specs.Table.{shown}
use Rattle.raft_log_memtable.proofs.Fetching.{parts_read}
use Rattle.raft_log_memtable.proofs.mem_table.MemTable.copy_entries.Goals as goal

pub returns : goal.returns
returns c =
    let t = c.self.inside in
    let first = ap (λ v. v.first) c.self.view_is in
    let places = ap (λ v. v.places.items) c.self.view_is in
    let border = ap (λ v. v.rewritten) c.self.view_is in
    parts_read (shown c.args.self.now) c.args.position c.args.count c.min-before.result t.first c.args.self.now.places.items t.places.items c.args.entries.now.items
    c.copy_entries.new.entries.items c.copy_entries-2.new.entries.items first places c.requires.within
    (omega (arith, c.min-before.ensures))
    (λ some. omega (arith, c.min-before.ensures, c.saturating_sub.ensures, border, some))
    (λ some. omega (arith, c.min-before.ensures, c.saturating_sub.ensures, border, some))
    c.copy_entries.ensures.items c.copy_entries-2.ensures.items
