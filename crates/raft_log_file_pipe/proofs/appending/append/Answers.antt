use Rattle.std.proofs.Common.{◌≡◌, ℕ, List, length, ◌∙◌, ap, subst, sym}
use Rattle.std.specs.declared.io.ErrorKind.TheVariants.{StorageFull}
use Rattle.raft_log_active_file.specs.declared.last_file.WriteFault.TheVariants.{CutBack}
use Rattle.raft_log_file_pipe.specs.declared.pipe_files.PipeFiles.{PipeFiles}
use Rattle.raft_log_file_writer.specs.Writer.{WritesNext}
use Rattle.raft_log_active_file.specs.Exits.{AppendMakes}
use Rattle.raft_log_active_file.specs.declared.last_file.WriteFault.{WriteFault}
use Rattle.raft_log_file_pipe.specs.Appending.{AppendsAt, context_of}
use Rattle.raft_log_file_pipe.specs.Appending.AppendFails.{not_written}
use Rattle.raft_log_file_pipe.specs.Exits.{Adds, FailsToAdd, SameLists}
use Rattle.raft_log_file_pipe.proofs.Contexts.{id_is, context_is}
use Rattle.raft_log_file_pipe.specs.Doing.{AppendsBy}
use Rattle.raft_log_file_pipe.specs.Doing.FailsToAppendBy.{not_written as not_written_by}
use Rattle.raft_log_file_pipe.proofs.appending.append.Goals as goal

pub returns-in-Ok-clause-ok : goal.returns-in-Ok-clause-ok
returns-in-Ok-clause-ok g c =
    let D = g.F.FileSystem.disk in
    let signed = g.B.ReactiveBytes.signed c.args.bytes.now in
    let context : c.new.result ≡ context_of c.args.queue c.rotate_if_full.new.files = context_is c.args.queue c.rotate_if_full.new.files c.new-id.result c.new.result c.new-id.ensures.queue c.new-id.ensures.seq c.new.ensures.id c.new.ensures.version in
    let is : c.as_bytes-record.result.now ≡ signed (context_of c.args.queue c.rotate_if_full.new.files) = c.as_bytes-record.ensures ∙ c.sign.ensures.bytes ∙ ap signed context in
    let left : AppendsAt (g.G.PipeFormat.format c.args.layout.now) (g.G.PipeFormat.own c.args.layout.now) (g.G.PipeFormat.file_paths c.args.layout.now) c.args.new_files.now c.args.queue signed c.args.files.now c.add.new.files
    (record { id = c.new-id.result; offset = c.in-Ok.at; len = length c.as_bytes-record.result.now }) (D c.args.file_system.now) (D c.add.new.file_system) = record {
      middle = c.rotate_if_full.new.files;
      between = D c.rotate_if_full.new.file_system;
      first = c.in_ok-rotate_if_full.ensures.ok;
      adds = subst (λ (bytes : List ℕ). Adds (g.G.PipeFormat.format c.args.layout.now) (g.G.PipeFormat.own c.args.layout.now) (g.G.PipeFormat.file_paths c.args.layout.now) bytes c.in-Ok.at c.rotate_if_full.new.files c.add.new.files (D c.rotate_if_full.new.file_system) (D c.add.new.file_system)) is c.in-Ok.ensures.ok;
      lists = c.add.ensures.lists;
      calls = subst (λ (bytes : List ℕ). WritesNext c.rotate_if_full.new.files.writer c.add.new.files.writer bytes c.args.new_files.now.target_size (D c.rotate_if_full.new.file_system) (D c.add.new.file_system)) is c.in-Ok.ensures.calls;
      id = id_is c.args.queue c.rotate_if_full.new.files c.new-id.result c.new-id.ensures.queue c.new-id.ensures.seq;
      len = ap length is;
    } in
    left

pub returns-in-Err-clause-err : goal.returns-in-Err-clause-err
returns-in-Err-clause-err g c =
    let D = g.F.FileSystem.disk in
    let signed = g.B.ReactiveBytes.signed c.args.bytes.now in
    let context : c.new.result ≡ context_of c.args.queue c.rotate_if_full.new.files = context_is c.args.queue c.rotate_if_full.new.files c.new-id.result c.new.result c.new-id.ensures.queue c.new-id.ensures.seq c.new.ensures.id c.new.ensures.version in
    let is : c.as_bytes-record.result.now ≡ signed (context_of c.args.queue c.rotate_if_full.new.files) = c.as_bytes-record.ensures ∙ c.sign.ensures.bytes ∙ ap signed context in
    not_written c.rotate_if_full.new.files c.add.new.files (D c.rotate_if_full.new.file_system) (D c.add.new.file_system) c.in-Err.fault c.in_ok-rotate_if_full.ensures.ok c.rotate_if_full.ensures.later
    (subst (λ (bytes : List ℕ). FailsToAdd (g.G.PipeFormat.format c.args.layout.now) (g.G.PipeFormat.own c.args.layout.now) (g.G.PipeFormat.file_paths c.args.layout.now) bytes c.in-Err.fault c.rotate_if_full.new.files c.add.new.files (D c.rotate_if_full.new.file_system) (D c.add.new.file_system)) is c.in-Err.ensures.err)
    c.add.ensures.lists
    (subst (λ (bytes : List ℕ). AppendMakes c.in-Err.fault c.rotate_if_full.new.files.writer c.add.new.files.writer bytes c.args.new_files.now.target_size (D c.rotate_if_full.new.file_system) (D c.add.new.file_system)) is c.in-Err.ensures.refusal)
    c.report_write_fault.ensures.left c.report_write_fault.ensures.later

pub returns-in-Err-clause-elsewhere : goal.returns-in-Err-clause-elsewhere
returns-in-Err-clause-elsewhere g c again =
    let D = g.F.FileSystem.disk in
    let signed = g.B.ReactiveBytes.signed c.args.bytes.now in
    let context : c.new.result ≡ context_of c.args.queue c.rotate_if_full.new.files = context_is c.args.queue c.rotate_if_full.new.files c.new-id.result c.new.result c.new-id.ensures.queue c.new-id.ensures.seq c.new.ensures.id c.new.ensures.version in
    let is : c.as_bytes-record.result.now ≡ signed (context_of c.args.queue c.rotate_if_full.new.files) = c.as_bytes-record.ensures ∙ c.sign.ensures.bytes ∙ ap signed context in
    let (full, goes) = c.report_write_fault.ensures.elsewhere again in
    record {
      middle = c.rotate_if_full.new.files;
      cut = c.add.new.files;
      between = D c.rotate_if_full.new.file_system;
      short = c.add.new.file_system;
      first = c.in_ok-rotate_if_full.ensures.ok;
      fails = subst (λ (fault : WriteFault). FailsToAdd (g.G.PipeFormat.format c.args.layout.now) (g.G.PipeFormat.own c.args.layout.now) (g.G.PipeFormat.file_paths c.args.layout.now) (signed (context_of c.args.queue c.rotate_if_full.new.files)) fault c.rotate_if_full.new.files c.add.new.files (D c.rotate_if_full.new.file_system) (D c.add.new.file_system)) full
          (subst (λ (bytes : List ℕ). FailsToAdd (g.G.PipeFormat.format c.args.layout.now) (g.G.PipeFormat.own c.args.layout.now) (g.G.PipeFormat.file_paths c.args.layout.now) bytes c.in-Err.fault c.rotate_if_full.new.files c.add.new.files (D c.rotate_if_full.new.file_system) (D c.add.new.file_system)) is c.in-Err.ensures.err);
      lists = c.add.ensures.lists;
      goes = goes;
    }

pub returns-in-Err-clause-full : goal.returns-in-Err-clause-full
returns-in-Err-clause-full g c is_full =
    let D = g.F.FileSystem.disk in
    let signed = g.B.ReactiveBytes.signed c.args.bytes.now in
    let context : c.new.result ≡ context_of c.args.queue c.rotate_if_full.new.files = context_is c.args.queue c.rotate_if_full.new.files c.new-id.result c.new.result c.new-id.ensures.queue c.new-id.ensures.seq c.new.ensures.id c.new.ensures.version in
    let is : c.as_bytes-record.result.now ≡ signed (context_of c.args.queue c.rotate_if_full.new.files) = c.as_bytes-record.ensures ∙ c.sign.ensures.bytes ∙ ap signed context in
    let (short, full, none, files, system) = c.report_write_fault.ensures.full is_full in
    record {
      middle = c.rotate_if_full.new.files;
      between = D c.rotate_if_full.new.file_system;
      first = c.in_ok-rotate_if_full.ensures.ok;
      fails = subst (λ (f : PipeFiles). FailsToAdd (g.G.PipeFormat.format c.args.layout.now) (g.G.PipeFormat.own c.args.layout.now) (g.G.PipeFormat.file_paths c.args.layout.now) (signed (context_of c.args.queue c.rotate_if_full.new.files)) (CutBack StorageFull) c.rotate_if_full.new.files f (D c.rotate_if_full.new.file_system) (D c.report_write_fault.new.file_system)) (sym files)
          (subst (λ (system : g.row.F.Denot). FailsToAdd (g.G.PipeFormat.format c.args.layout.now) (g.G.PipeFormat.own c.args.layout.now) (g.G.PipeFormat.file_paths c.args.layout.now) (signed (context_of c.args.queue c.rotate_if_full.new.files)) (CutBack StorageFull) c.rotate_if_full.new.files c.add.new.files (D c.rotate_if_full.new.file_system) (D system)) (sym system)
          (subst (λ (fault : WriteFault). FailsToAdd (g.G.PipeFormat.format c.args.layout.now) (g.G.PipeFormat.own c.args.layout.now) (g.G.PipeFormat.file_paths c.args.layout.now) (signed (context_of c.args.queue c.rotate_if_full.new.files)) fault c.rotate_if_full.new.files c.add.new.files (D c.rotate_if_full.new.file_system) (D c.add.new.file_system)) short
          (subst (λ (bytes : List ℕ). FailsToAdd (g.G.PipeFormat.format c.args.layout.now) (g.G.PipeFormat.own c.args.layout.now) (g.G.PipeFormat.file_paths c.args.layout.now) bytes c.in-Err.fault c.rotate_if_full.new.files c.add.new.files (D c.rotate_if_full.new.file_system) (D c.add.new.file_system)) is c.in-Err.ensures.err)));
      lists = subst (SameLists c.rotate_if_full.new.files) (sym files) c.add.ensures.lists;
      none = none;
      full = full;
    }

pub returns-in-Ok-clause-calls : goal.returns-in-Ok-clause-calls
returns-in-Ok-clause-calls g c =
    let D = g.F.FileSystem.disk in
    let signed = g.B.ReactiveBytes.signed c.args.bytes.now in
    let context : c.new.result ≡ context_of c.args.queue c.rotate_if_full.new.files = context_is c.args.queue c.rotate_if_full.new.files c.new-id.result c.new.result c.new-id.ensures.queue c.new-id.ensures.seq c.new.ensures.id c.new.ensures.version in
    let is : c.as_bytes-record.result.now ≡ signed (context_of c.args.queue c.rotate_if_full.new.files) = c.as_bytes-record.ensures ∙ c.sign.ensures.bytes ∙ ap signed context in
    let left : AppendsBy (g.G.PipeFormat.file_paths c.args.layout.now) c.args.new_files.now c.args.queue signed c.args.files.now c.add.new.files (record { id = c.new-id.result; offset = c.in-Ok.at; len = length c.as_bytes-record.result.now })
    (D c.args.file_system.now) (D c.add.new.file_system) = record {
      middle = c.rotate_if_full.new.files;
      between = D c.rotate_if_full.new.file_system;
      first = c.in_ok-rotate_if_full.ensures.calls;
      lists = c.add.ensures.lists;
      calls = subst (λ (bytes : List ℕ). WritesNext c.rotate_if_full.new.files.writer c.add.new.files.writer bytes c.args.new_files.now.target_size (D c.rotate_if_full.new.file_system) (D c.add.new.file_system)) is c.in-Ok.ensures.calls;
      id = id_is c.args.queue c.rotate_if_full.new.files c.new-id.result c.new-id.ensures.queue c.new-id.ensures.seq;
      offset = c.in-Ok.ensures.at;
      len = ap length is;
    } in
    left

pub returns-in-Err-clause-refusal : goal.returns-in-Err-clause-refusal
returns-in-Err-clause-refusal g c =
    let D = g.F.FileSystem.disk in
    let signed = g.B.ReactiveBytes.signed c.args.bytes.now in
    let context : c.new.result ≡ context_of c.args.queue c.rotate_if_full.new.files = context_is c.args.queue c.rotate_if_full.new.files c.new-id.result c.new.result c.new-id.ensures.queue c.new-id.ensures.seq c.new.ensures.id c.new.ensures.version in
    let is : c.as_bytes-record.result.now ≡ signed (context_of c.args.queue c.rotate_if_full.new.files) = c.as_bytes-record.ensures ∙ c.sign.ensures.bytes ∙ ap signed context in
    not_written_by c.rotate_if_full.new.files c.add.new.files (D c.rotate_if_full.new.file_system) (D c.add.new.file_system) c.in-Err.fault c.in_ok-rotate_if_full.ensures.calls c.add.ensures.lists
    (subst (λ (bytes : List ℕ). AppendMakes c.in-Err.fault c.rotate_if_full.new.files.writer c.add.new.files.writer bytes c.args.new_files.now.target_size (D c.rotate_if_full.new.file_system) (D c.add.new.file_system)) is c.in-Err.ensures.refusal)
    c.report_write_fault.ensures.calls
