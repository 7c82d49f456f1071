use Rattle.std.proofs.Common.{◌+◌, ◌<◌, ◌^◌, length, subst, sym, ap, refl, ℕ}
use Rattle.std.proofs.lemmas.Result.{err_from_is_err_and}
use Rattle.raft_log_file_writer.specs.Writer.{reach}
use Rattle.raft_log_file_writer.proofs.WriterLaws.{refused_next, refused_kept, refused_durable, touches_refused, next_written, durable_next, written_at, written_next, written_short}
use Rattle.raft_log_file_writer.proofs.writer.LogFileWriter.write.Goals as goal

pub returns-in_err-write_at-clause-err : goal.returns-in_err-write_at-clause-err
returns-in_err-write_at-clause-err g c =
    let D = g.F.FileSystem.disk in
    let gave = err_from_is_err_and c.from_residual.result c.from_residual.ensures.1 in
    rw (gave.1, gave.2) (refused_next c.args.self.now c.make_room.new.self c.args.bytes.now c.args.target_size_hint (D c.args.file_system.now) (D c.write_at.new.self) c.in_err-write_at.field-0.0 (D c.make_room.new.file_system)
    c.make_room.ensures.room c.make_room.ensures.stays c.in_err-write_at.ensures.err)

pub returns-in_err-write_at-clause-kept : goal.returns-in_err-write_at-clause-kept
returns-in_err-write_at-clause-kept g c =
    let D = g.F.FileSystem.disk in
    let fails = refused_next c.args.self.now c.make_room.new.self c.args.bytes.now c.args.target_size_hint (D c.args.file_system.now) (D c.write_at.new.self) c.in_err-write_at.field-0.0 (D c.make_room.new.file_system)
    c.make_room.ensures.room c.make_room.ensures.stays c.in_err-write_at.ensures.err in
    let gave = err_from_is_err_and c.from_residual.result c.from_residual.ensures.1 in
    rw (gave.1) (refused_kept c.args.self.now c.make_room.new.self c.args.bytes.now c.args.target_size_hint (D c.args.file_system.now) (D c.write_at.new.self) c.in_err-write_at.field-0.0 fails)

pub returns-in_err-write_at-clause-durable : goal.returns-in_err-write_at-clause-durable
returns-in_err-write_at-clause-durable g c =
    let D = g.F.FileSystem.disk in
    let fails = refused_next c.args.self.now c.make_room.new.self c.args.bytes.now c.args.target_size_hint (D c.args.file_system.now) (D c.write_at.new.self) c.in_err-write_at.field-0.0 (D c.make_room.new.file_system)
    c.make_room.ensures.room c.make_room.ensures.stays c.in_err-write_at.ensures.err in
    refused_durable c.args.self.now c.make_room.new.self c.args.bytes.now c.args.target_size_hint (D c.args.file_system.now) (D c.write_at.new.self) c.in_err-write_at.field-0.0 fails

pub returns-in_err-write_at-clause-others : goal.returns-in_err-write_at-clause-others
returns-in_err-write_at-clause-others g c =
    let D = g.F.FileSystem.disk in
    let fails = refused_next c.args.self.now c.make_room.new.self c.args.bytes.now c.args.target_size_hint (D c.args.file_system.now) (D c.write_at.new.self) c.in_err-write_at.field-0.0 (D c.make_room.new.file_system)
    c.make_room.ensures.room c.make_room.ensures.stays c.in_err-write_at.ensures.err in
    let writer = c.args.self.now in
    touches_refused writer.handle writer.written writer.capacity c.args.bytes.now c.args.target_size_hint (D c.args.file_system.now) (D c.write_at.new.self) c.in_err-write_at.field-0.0 fails.calls

pub invariant_of-self : goal.invariant_of-self
invariant_of-self g c =
    let D = g.F.FileSystem.disk in
    let middle = c.make_room.new.self in
    let end = written_short middle.handle middle.written c.args.bytes.now (D c.make_room.new.file_system) (D c.write_at.new.self) (g.met.F.FileSystem.sound c.write_at.new.self) c.in_ok-write_at.ensures.ok in
    record { short = subst (λ (n : ℕ). n + length c.args.bytes.now < 2 ^ 63) c.make_room.ensures.stays.written_is end }

pub returns-clause-written : goal.returns-clause-written
returns-clause-written g c =
    let D = g.F.FileSystem.disk in
    let bytes = c.args.bytes.now in
    next_written c.args.self.now _ bytes c.args.target_size_hint (D c.args.file_system.now) (D c.write_at.new.self)
    (written_next c.args.self.now c.make_room.new.self _ bytes c.args.target_size_hint (D c.args.file_system.now) (D c.write_at.new.self) (D c.make_room.new.file_system) c.make_room.ensures.room c.make_room.ensures.stays
    (record { handle_is = refl; written_is = ap (λ (n : ℕ). n + length bytes) (sym c.make_room.ensures.stays.written_is); capacity_is = refl }) c.in_ok-write_at.ensures.ok)

pub returns-clause-durable : goal.returns-clause-durable
returns-clause-durable g c =
    let D = g.F.FileSystem.disk in
    let bytes = c.args.bytes.now in
    let writer = c.args.self.now in
    let at = c.make_room.ensures.stays in
    λ durable within has. durable_next writer.handle writer.written writer.capacity bytes c.args.target_size_hint (D c.args.file_system.now) (D c.write_at.new.self) durable within
    (written_at writer.handle writer.written writer.capacity bytes c.args.target_size_hint (D c.args.file_system.now) (D c.write_at.new.self) (D c.make_room.new.file_system) c.make_room.new.self (reach writer.capacity (writer.written + length bytes) c.args.target_size_hint)
    c.make_room.ensures.room at c.in_ok-write_at.ensures.ok) has
