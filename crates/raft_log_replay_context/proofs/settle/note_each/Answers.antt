use Rattle.std.proofs.Common.{◌≡◌, ◌∙◌, refl, subst, take, Some}
use Rattle.std.proofs.lemmas.List.{take_all}
use Rattle.raft_log_memtables.specs.Tables.{replayed_of}
use Rattle.raft_log_replay_context.specs.Noting.{is_listed, NotesAll}
use Rattle.raft_log_replay_context.proofs.Settling.{noted_more, noted_none}
use Rattle.raft_log_replay_context.proofs.settle.note_each.Goals as goal

pub loop-group-init : goal.loop-group-init
loop-group-init c = record {
  notes = noted_none c.args.files (replayed_of c.args.tables.now);
  counts = λ g. refl;
  rest = λ h. h;
}

pub loop-group-preserved : goal.loop-group-preserved
loop-group-preserved c = record {
  notes = noted_more c.args.files c.args.groups.now c.loop-group.group-index _ _ c.args.tables.now c.loop-group.tables c.note_read_group.new.self
      c.loop-group-test.true refl c.loop-group.invariant.notes c.note_read_group.ensures.noted c.note_read_group.ensures.others;
  counts = λ g. c.note_read_group.ensures.counts g ∙ c.loop-group.invariant.counts g;
  rest = λ h. c.note_read_group.ensures.rest (c.loop-group.invariant.rest h);
}

pub returns-clause-notes : goal.returns-clause-notes
returns-clause-notes c =
    let all : take c.loop-group.group-index c.args.groups.now ≡ c.args.groups.now = take_all c.loop-group.group-index c.args.groups.now c.loop-group-test.false in
    subst (λ l. NotesAll (Some c.args.files) (λ g. is_listed g l) (replayed_of c.args.tables.now) (replayed_of c.loop-group.tables)) all c.loop-group.invariant.notes
