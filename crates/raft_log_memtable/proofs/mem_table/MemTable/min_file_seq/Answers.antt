use Rattle.std.proofs.Common.{Some, ap, subst, sym, ◌∙◌}
use Rattle.raft_log_memtable_index.specs.Noted.{start_of}
use Rattle.raft_log_memtable.specs.Files.{IsMinFile}
use Rattle.raft_log_memtable.specs.Table.{shown}
use Rattle.raft_log_memtable.proofs.mem_table.MemTable.min_file_seq.Goals as goal

pub returns-in_ok-least-in-Rewrite-clause-exact : goal.returns-in_ok-least-in-Rewrite-clause-exact
returns-in_ok-least-in-Rewrite-clause-exact c =
    subst (λ q. IsMinFile q (shown c.args.self.now) (Some c.start_of.result)) (sym c.in-Rewrite.is) (
      Some c.in_ok-least-in-Rewrite.least,
      c.in_ok-least-in-Rewrite.ensures.exact,
      ap Some (c.start_of.ensures ∙ ap (λ t. start_of c.in_ok-least-in-Rewrite.least t.noted) c.self.view_is),
    )
