use Rattle.std.proofs.Common.{subst, sym}
use Rattle.raft_log_file_pipe.specs.Appending.{AppendsAt}
use Rattle.raft_log_file_pipe.specs.Exits.{SyncsPipe}
use Rattle.raft_examples.proofs.pipes.save_record.Goals as goal

pub returns-clause-ok : goal.returns-clause-ok
returns-clause-ok g c =
    let P = g.G.PipeFormat in
    let D = g.F.FileSystem.disk in
    let pipe = c.args.pipe.now in
    let L = pipe.layout in
    let between = D c.append.new.file_system in
    let files = sym c.in_ok-sync.ensures.same.2 in
    record {
      between = between;
      written = subst (λ fs. AppendsAt (P.format L) (P.own L) (P.file_paths L) pipe.settings.new_files pipe.settings.queue
          (g.B.ReactiveBytes.signed c.args.bytes.now) pipe.files fs c.in_ok-place.place (D c.args.file_system.now) between)
          files c.in_ok-place.ensures.ok;
      synced = subst (λ fs. SyncsPipe (P.format L) (P.own L) (P.file_paths L) fs between (D c.sync.new.file_system)) files
          (subst (λ l. SyncsPipe (P.format l) (P.own l) (P.file_paths l) c.append.new.self.files between (D c.sync.new.file_system))
          c.in_ok-place.ensures.same.0 c.in_ok-sync.ensures.ok);
    }
