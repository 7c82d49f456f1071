use Rattle.std.proofs.Common.{[], refl, ◌∙◌, inl, inr}
use Rattle.raft_log_file_reader.specs.Reader.{end_of}
use Rattle.raft_log_file_reader.specs.declared.open_file.OpenFile.{OpenFile}
use Rattle.raft_log_file_uses.proofs.AtWork.{as_much, ended, went_on}
use Rattle.raft_log_file_uses.proofs.whole_end.whole_end.Goals as goal

pub loop-batch-init : goal.loop-batch-init
loop-batch-init g c =
    let opens = c.in_ok-_format.ensures.ok in
    let file : OpenFile = record { id = c.args.id; source = opens.source; format = c.in_ok-_format._format } in
    record {
      reading = c.in_ok-_format.ensures.reading;
      honest = c.in_ok-_format.ensures.receipts g.met.F.FileSystem.truthful;
      file = file;
      opened = opens.opened;
      read = record { is = refl; reads_by = opens.reads_by; start = end_of c.open.new.self; header = opens.header (c.in_ok-_format.ensures.receipts g.met.F.FileSystem.truthful); batches = []; has = refl };
    }

pub next-requires : goal.next-requires
next-requires g c = c.loop-batch.invariant.reading

pub returns-in-Ok-None : goal.returns-in-Ok-None
returns-in-Ok-None g c =
    let work = c.loop-batch.invariant in
    let none = rw c.in-Ok-None.field-0-is at (c.in-Ok-None.ensures.ok work.file work.opened (c.in-Ok-None.ensures.receipts.stays g.met.F.FileSystem.truthful work.honest)) in
    ended c.args.id c.args.handle (g.F.FileSystem.disk c.args.file_system.now) c.loop-batch.reader c.valid_offset-in-Ok-None.result work (c.valid_offset-in-Ok-None.ensures ∙ none.1.end) (inl none.0)

pub returns-in-Err-Corruption : goal.returns-in-Err-Corruption
returns-in-Err-Corruption g c =
    let work = c.loop-batch.invariant in
    let broken = rw c.in-Err-Corruption.field-0-is at (c.in-Err-Corruption.ensures.err work.file work.opened (c.in-Err-Corruption.ensures.receipts.stays g.met.F.FileSystem.truthful work.honest)) in
    ended c.args.id c.args.handle (g.F.FileSystem.disk c.args.file_system.now) c.loop-batch.reader c.valid_offset-in-Err-Corruption.result work (c.valid_offset-in-Err-Corruption.ensures ∙ c.in-Err-Corruption.ensures.stays.end) (inr (_, broken))

pub returns-in-Err-Codec : goal.returns-in-Err-Codec
returns-in-Err-Codec g c =
    let work = c.loop-batch.invariant in
    let broken = rw c.in-Err-Codec.field-0-is at (c.in-Err-Codec.ensures.err work.file work.opened (c.in-Err-Codec.ensures.receipts.stays g.met.F.FileSystem.truthful work.honest)) in
    ended c.args.id c.args.handle (g.F.FileSystem.disk c.args.file_system.now) c.loop-batch.reader c.valid_offset-in-Err-Codec.result work (c.valid_offset-in-Err-Codec.ensures ∙ c.in-Err-Codec.ensures.stays.end) (inr (_, broken))

pub loop-batch-preserved : goal.loop-batch-preserved
loop-batch-preserved g c =
    let d = g.F.FileSystem.disk c.args.file_system.now in
    let work = c.loop-batch.invariant in
    let batch = rw c.in-Ok-Some.field-0-is at (c.in-Ok-Some.ensures.ok work.file work.opened (c.in-Ok-Some.ensures.receipts.stays g.met.F.FileSystem.truthful work.honest)) in
    let same = c.check_entry_block.ensures.same in
    as_much c.args.id c.args.handle d c.next.new.self c.check_entry_block.new.self
    (went_on c.args.id c.args.handle d c.loop-batch.reader c.next.new.self c.in-Ok-Some.batch.items work c.in-Ok-Some.ensures.file c.in-Ok-Some.ensures.reading (c.in-Ok-Some.ensures.receipts.stays g.met.F.FileSystem.truthful work.honest) batch)
    (record { reading = c.check_entry_block.ensures.reading; honest = c.check_entry_block.ensures.receipts.stays g.met.F.FileSystem.truthful (c.in-Ok-Some.ensures.receipts.stays g.met.F.FileSystem.truthful work.honest); file = same.file; end = same.end })
