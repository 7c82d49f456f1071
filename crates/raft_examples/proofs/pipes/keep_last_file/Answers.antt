use Rattle.std.proofs.Common.{subst}
use Rattle.raft_log_file_pipe.specs.Purging.{Purges}
use Rattle.raft_examples.proofs.pipes.keep_last_file.Goals as goal

pub returns-clause-ok : goal.returns-clause-ok
returns-clause-ok g c =
    let P = g.G.PipeFormat in
    let D = g.F.FileSystem.disk in
    let turned = c.rotate.new.self in
    let between = D c.rotate.new.file_system in
    let new = D c.purge_to.new.file_system in
    record {
      middle = turned.files;
      between = between;
      turned = c.in_ok-rotate.ensures.ok;
      purged =
          subst (λ l. Purges (P.format l) (P.own l) (P.file_paths l) c.args.pipe.now.settings.capacity turned.files.active.seq
          turned.files c.purge_to.new.self.files between new) c.in_ok-rotate.ensures.same.0
          (subst (λ s. Purges (P.format turned.layout) (P.own turned.layout) (P.file_paths turned.layout) s.capacity turned.files.active.seq
          turned.files c.purge_to.new.self.files between new) c.in_ok-rotate.ensures.same.1
          (subst (λ n. Purges (P.format turned.layout) (P.own turned.layout) (P.file_paths turned.layout) turned.settings.capacity n
          turned.files c.purge_to.new.self.files between new) c.file_span-span.ensures.last c.in_ok-gone.ensures.ok));
    }
