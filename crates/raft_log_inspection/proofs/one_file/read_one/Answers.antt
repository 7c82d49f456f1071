use Rattle.std.proofs.Common.{◌≡◌, ◌==◌, ℕ, List, Option, Some, map, refl, sym, ap, subst, ◌∙◌}
use Rattle.std.specs.String.{string_bytes}
use Rattle.std.proofs.lemmas.Bool.{and_parts, and_from}
use Rattle.raft_log_record_base.specs.declared.errors.Error.{Error}
use Rattle.raft_log_file_reader.specs.Reader.{honest_of}
use Rattle.raft_log_file_reader.specs.Source.{bytes_in}
use Rattle.raft_log_recovery_scan.specs.Found.{found_path}
use Rattle.raft_log_recovery_scan.specs.declared.file_kind.FileKind.{FileKind}
use Rattle.raft_log_recovery_read.specs.Batches.{HasTaken, said}
use Rattle.raft_log_inspection.specs.Intact.{IsUndamaged, id_of}
use Rattle.raft_log_inspection.proofs.FileLemmas.{both_then}
use Rattle.raft_log_inspection.proofs.one_file.read_one.Goals as goal

pub returns-in-Ok-read-clause-ok : goal.returns-in-Ok-read-clause-ok
returns-in-Ok-read-clause-ok g c =
    let d = g.F.FileSystem.disk c.args.files.now in
    let queue = c.args.queue in
    let file = c.args.file in
    let directories = map string_bytes c.args.paths.now in
    let node = c.in-Ok.handle.file in
    let last = file.seq == c.args.newest in
    let content = bytes_in (d.files node) in
    let found = c.in-Ok-read.read in
    let path = c.as_str.ensures.value ∙ c.in_ok-path.ensures ∙ ap (λ (k : FileKind). found_path k directories file) c.kind_of.ensures in
    both_then c.damage_of.result c.damage_of.ensures.declined c.damage_of.ensures.undamaged
    (λ damage none undamaged honest.
    let parts = and_parts c.args.receipts.now.honest (honest_of c.read_file-read.new.reader) (sym c.note_reads.ensures ∙ c.damage_of.ensures.receipts.falls honest) in
    let (reading, reads, handed) = c.in-Ok-read.ensures.ok parts.1 in
    record {
      batches = said (id_of queue file) reading.batches;
      taken = subst (λ (o : Option Error). HasTaken (g.M.ReplayMachine.reads queue) (g.M.ReplayMachine.declines queue) (said (id_of queue file) reading.batches) c.args.machine.now c.read_file-read.new.machine o) none
          handed.taken;
      intact = λ is. record {
        node = node;
        named = subst (λ (l : List ℕ). d.names l ≡ Some node) path c.in-Ok.ensures.ok.is;
        read = reading;
        reads = reads;
        undamaged = subst (λ (end : Option ℕ). IsUndamaged last content end reading.fault) handed.end (subst (λ (fault : Option Error). IsUndamaged last content found.end fault) handed.fault (undamaged honest is));
        holds = refl;
      };
    })

pub returns-in-Ok-read-clause-receipts : goal.returns-in-Ok-read-clause-receipts
returns-in-Ok-read-clause-receipts g c = record {
  falls = λ honest. (and_parts c.args.receipts.now.honest (honest_of c.read_file-read.new.reader) (sym c.note_reads.ensures ∙ c.damage_of.ensures.receipts.falls honest)).0;
  stays = λ truth honest. c.damage_of.ensures.receipts.stays truth (c.note_reads.ensures ∙ and_from c.args.receipts.now.honest (honest_of c.read_file-read.new.reader) honest (c.in-Ok-read.ensures.receipts truth));
}

pub returns-in-Err-read-clause-receipts : goal.returns-in-Err-read-clause-receipts
returns-in-Err-read-clause-receipts g c = record {
  falls = λ honest. (and_parts c.args.receipts.now.honest (honest_of c.read_file-read.new.reader) (sym c.note_reads.ensures ∙ honest)).0;
  stays = λ truth honest. c.note_reads.ensures ∙ and_from c.args.receipts.now.honest (honest_of c.read_file-read.new.reader) honest (c.in-Err-read.ensures.receipts truth);
}
