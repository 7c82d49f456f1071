use Rattle.std.proofs.Common.{◌≡◌, ◌∙◌, ap, ◌-◌, ℕ, max, min, arith}
use Rattle.raft_log_file_writer.proofs.WriterLaws.{room_made}
use Rattle.raft_log_file_writer.proofs.writer.LogFileWriter.make_room.Goals as goal

pub returns-clause-room : goal.returns-clause-room
returns-clause-room g c =
    let D = g.F.FileSystem.disk in
    let writer = c.args.self.now in
    let left = c.args.target_size_hint - writer.capacity in
    let ahead : c.min-ahead.result ≡ min 2097152 left = c.min-ahead.ensures ∙ ap (λ (n : ℕ). min 2097152 n) c.saturating_sub.ensures in
    let size : c.max-size.result ≡ max (c.args.end - writer.capacity) (min 2097152 left) = c.max-size.ensures ∙ ap (λ (n : ℕ). max (c.args.end - writer.capacity) n) ahead in
    room_made writer.handle writer.capacity c.args.end c.args.target_size_hint (D c.args.file_system.now) (D c.allocate.new.self) c.allocate.result c.max-size.result (omega (arith, c.if-end-self.false)) size c.allocate.ensures.ok c.allocate.ensures.err
