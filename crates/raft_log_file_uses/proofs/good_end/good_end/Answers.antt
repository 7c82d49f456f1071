use Rattle.std.proofs.Common.{[], refl, ◌∙◌, inl, inr}
use Rattle.raft_log_file_reader.specs.Reader.{end_of}
use Rattle.raft_log_file_reader.specs.declared.open_file.OpenFile.{OpenFile}
use Rattle.raft_log_file_uses.proofs.AtWork.{went_on, less_left, ended}
use Rattle.raft_log_file_uses.proofs.good_end.good_end.Goals as goal

pub loop-reader-init : goal.loop-reader-init
loop-reader-init g c =
    let opens = c.in_ok-_format.ensures.ok in
    let file : OpenFile = record { id = c.args.id; source = opens.source; format = c.in_ok-_format._format } in
    record {
      reading = c.in_ok-_format.ensures.reading;
      honest = c.in_ok-_format.ensures.receipts g.met.F.FileSystem.truthful;
      file = file;
      opened = opens.opened;
      read = record { is = refl; reads_by = opens.reads_by; start = end_of c.open.new.self; header = opens.header (c.in_ok-_format.ensures.receipts g.met.F.FileSystem.truthful); batches = []; has = refl };
    }

pub next-requires : goal.next-requires
next-requires g c = c.loop-reader.invariant.reading

pub loop-reader-preserved-in-Ok-Some : goal.loop-reader-preserved-in-Ok-Some
loop-reader-preserved-in-Ok-Some g c =
    let work = c.loop-reader.invariant in
    let batch = rw c.in-Ok-Some.field-0-is at (c.in-Ok-Some.ensures.ok work.file work.opened (c.in-Ok-Some.ensures.receipts.stays g.met.F.FileSystem.truthful work.honest)) in
    went_on c.args.id c.args.handle (g.F.FileSystem.disk c.args.file_system.now) c.loop-reader.reader c.next.new.self c.in-Ok-Some.field-0-0.items work c.in-Ok-Some.ensures.file c.in-Ok-Some.ensures.reading (c.in-Ok-Some.ensures.receipts.stays g.met.F.FileSystem.truthful work.honest) batch

pub loop-reader-smaller-in-Ok-Some : goal.loop-reader-smaller-in-Ok-Some
loop-reader-smaller-in-Ok-Some g c =
    let further = rw c.in-Ok-Some.field-0-is at c.in-Ok-Some.ensures.further in
    less_left c.args.id c.args.handle (g.F.FileSystem.disk c.args.file_system.now) c.loop-reader.reader c.next.new.self c.loop-reader.invariant c.in-Ok-Some.ensures.file c.in-Ok-Some.ensures.reading further

pub returns-in-Ok-None : goal.returns-in-Ok-None
returns-in-Ok-None g c =
    let work = c.loop-reader.invariant in
    let none = rw c.in-Ok-None.field-0-is at (c.in-Ok-None.ensures.ok work.file work.opened (c.in-Ok-None.ensures.receipts.stays g.met.F.FileSystem.truthful work.honest)) in
    ended c.args.id c.args.handle (g.F.FileSystem.disk c.args.file_system.now) c.loop-reader.reader c.valid_offset.result work (c.valid_offset.ensures ∙ none.1.end) (inl none.0)

pub returns-in-Err-Corruption : goal.returns-in-Err-Corruption
returns-in-Err-Corruption g c =
    let work = c.loop-reader.invariant in
    let broken = rw c.in-Err-Corruption.field-0-is at (c.in-Err-Corruption.ensures.err work.file work.opened (c.in-Err-Corruption.ensures.receipts.stays g.met.F.FileSystem.truthful work.honest)) in
    ended c.args.id c.args.handle (g.F.FileSystem.disk c.args.file_system.now) c.loop-reader.reader c.valid_offset-in-Err-Corruption.result work (c.valid_offset-in-Err-Corruption.ensures ∙ c.in-Err-Corruption.ensures.stays.end) (inr (_, broken))

pub returns-in-Err-Codec : goal.returns-in-Err-Codec
returns-in-Err-Codec g c =
    let work = c.loop-reader.invariant in
    let broken = rw c.in-Err-Codec.field-0-is at (c.in-Err-Codec.ensures.err work.file work.opened (c.in-Err-Codec.ensures.receipts.stays g.met.F.FileSystem.truthful work.honest)) in
    ended c.args.id c.args.handle (g.F.FileSystem.disk c.args.file_system.now) c.loop-reader.reader c.valid_offset-in-Err-Codec.result work (c.valid_offset-in-Err-Codec.ensures ∙ c.in-Err-Codec.ensures.stays.end) (inr (_, broken))
