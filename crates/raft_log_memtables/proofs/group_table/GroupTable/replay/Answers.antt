use Rattle.std.proofs.Common.{◌≡◌, ap, refl, rules, subst, sym, ◌∙◌}
use Rattle.raft_log_record_items.specs.declared.command.Command.TheVariants as commands
use Rattle.raft_log_extents.specs.Entries.{run_of}
use Rattle.raft_log_memtable_index.specs.Replayed.{replayed}
use Rattle.raft_log_memtable.specs.Table.{replay_of}
use Rattle.raft_log_memtable.specs.Replays.{in_append}
use Rattle.raft_log_memtables.specs.Bare.{HasNothing}
use Rattle.raft_log_memtables.proofs.Rereading.{run_is}
use Rattle.raft_log_memtables.proofs.group_table.GroupTable.replay.Goals as goal
use Rattle.raft_log_memtables.proofs.group_table.GroupTable.replay.Goals.{in-EntryIndexes+in_ok-replay_run-in-EntryIndexes, in-Command-Compact, in-Kv+in_ok-replay_key-in-Kv}

pub returns-in-Command-Clean-clause-ok : goal.returns-in-Command-Clean-clause-ok
returns-in-Command-Clean-clause-ok c =
    let clean : c.in-Command-Clean.field-0 ≡ commands.Clean = search rules in
    rw (c.in-Command-Clean.is, clean) (c.replay_clean.ensures.read (in_append c.args.queue) c.args.file)

pub returns-clause-ok : goal.returns-clause-ok
returns-clause-ok c = elim c.match-content.branch [
  | in-EntryIndexes+in_ok-replay_run-in-EntryIndexes w ↦
      rw (w.self-is, w.in-EntryIndexes.is)
      (w.in_ok-replay_run-in-EntryIndexes.ensures.ok c.args.file
      ∙ ap (replayed (in_append c.args.queue) c.args.file (replay_of c.args.self.now.table)) (ap run_of w.as_slice.ensures.value ∙ run_is w.in-EntryIndexes.entries))
  | in-Command-Compact w ↦
      let compact : w.in-Command-Compact.field-0 ≡ commands.Compact w.in-Command-Compact.index = search rules in
      rw (w.self-is, w.in-Command-Compact.is, compact) (w.replay_compact.ensures.read (in_append c.args.queue) c.args.file)
  | in-Kv+in_ok-replay_key-in-Kv w ↦ rw (w.self-is, w.in-Kv.is) w.in_ok-replay_key-in-Kv.ensures.ok
]

pub invariant_of-self-in-Command-Clean : goal.invariant_of-self-in-Command-Clean
invariant_of-self-in-Command-Clean c = record {
  bare = λ h.
      subst HasNothing (sym (ap (λ z. z.table) (c.replay_clean.ensures.read (in_append c.args.queue) c.args.file))) (record { entries = refl; values = λ k. refl });
}
