use Rattle.std.proofs.Common.{map, sym, ◌∙◌, ap}
use Rattle.std.specs.String.{string_bytes}
use Rattle.raft_log_dual_pipes.proofs.Ends.{closes, fails_as, names_same, settles_when, stays_same}
use Rattle.raft_log_dual_pipes.proofs.Pairing.{either_false}
use Rattle.raft_log_dual_pipes.proofs.dual_pipes.DualPipesPipeLog.close.Goals as goal

pub returns-clause-held : goal.returns-clause-held
returns-clause-held g c alive =
    let D = g.F.FileSystem.disk in
    let (append, rewrite) = either_false c.args.self.append.failed c.args.self.rewrite.failed alive in
    let a = c.finish-of_append.ensures.same in
    let r = c.finish-of_rewrite.ensures.same in
    let second = D c.finish-of_rewrite.new.file_system in
    let third = D c.reserve_names.new.file_system in
    let last = D c.reserve_names-2.new.file_system in
    closes _ (D c.finish-of_append.new.file_system) second third last (c.finish-of_append.ensures.held append) (c.finish-of_rewrite.ensures.held rewrite)
    (stays_same c.args.self.append.layout.queue c.finish-of_append.new.self.layout.queue (map string_bytes c.args.self.append.layout.paths.items) (map string_bytes c.finish-of_append.new.self.layout.paths.items) c.args.self.append.files.recycled.items c.finish-of_append.new.self.files.recycled.items second third
    (ap (λ l. l.queue) a.0) (ap (λ l. map string_bytes l.paths.items) a.0) (ap (λ kept. kept.items) a.3) (c.reserve_names.ensures.held (a.2 ∙ append)))
    (stays_same c.args.self.rewrite.layout.queue c.finish-of_rewrite.new.self.layout.queue (map string_bytes c.args.self.rewrite.layout.paths.items) (map string_bytes c.finish-of_rewrite.new.self.layout.paths.items) c.args.self.rewrite.files.recycled.items c.finish-of_rewrite.new.self.files.recycled.items third last
    (ap (λ l. l.queue) r.0) (ap (λ l. map string_bytes l.paths.items) r.0) (ap (λ kept. kept.items) r.3) (c.reserve_names-2.ensures.held (r.2 ∙ rewrite)))

pub returns-clause-calls : goal.returns-clause-calls
returns-clause-calls g c alive =
    let D = g.F.FileSystem.disk in
    let (append, rewrite) = either_false c.args.self.append.failed c.args.self.rewrite.failed alive in
    let a = c.finish-of_append.ensures.same in
    let r = c.finish-of_rewrite.ensures.same in
    let second = D c.finish-of_rewrite.new.file_system in
    let third = D c.reserve_names.new.file_system in
    let last = D c.reserve_names-2.new.file_system in
    record {
      one = D c.finish-of_append.new.file_system;
      two = second;
      three = third;
      append = c.finish-of_append.ensures.calls append;
      rewrite = c.finish-of_rewrite.ensures.calls rewrite;
      append_names = names_same c.args.self.append.layout.queue c.finish-of_append.new.self.layout.queue (map string_bytes c.args.self.append.layout.paths.items) (map string_bytes c.finish-of_append.new.self.layout.paths.items) c.args.self.append.files.recycled.items c.finish-of_append.new.self.files.recycled.items second third
          (ap (λ l. l.queue) a.0) (ap (λ l. map string_bytes l.paths.items) a.0) (ap (λ kept. kept.items) a.3) (c.reserve_names.ensures.calls (a.2 ∙ append));
      rewrite_names = names_same c.args.self.rewrite.layout.queue c.finish-of_rewrite.new.self.layout.queue (map string_bytes c.args.self.rewrite.layout.paths.items) (map string_bytes c.finish-of_rewrite.new.self.layout.paths.items) c.args.self.rewrite.files.recycled.items c.finish-of_rewrite.new.self.files.recycled.items third last
          (ap (λ l. l.queue) r.0) (ap (λ l. map string_bytes l.paths.items) r.0) (ap (λ kept. kept.items) r.3) (c.reserve_names-2.ensures.calls (r.2 ∙ rewrite));
    }

pub returns-clause-settled : goal.returns-clause-settled
returns-clause-settled g c =
    let D = g.F.FileSystem.disk in
    let (append, rewrite) = either_false c.args.self.append.failed c.args.self.rewrite.failed (sym c.is_failed.ensures ∙ c.if-is_failed.false) in
    let a = c.finish-of_append.ensures.same in
    let r = c.finish-of_rewrite.ensures.same in
    let second = D c.finish-of_rewrite.new.file_system in
    let third = D c.reserve_names.new.file_system in
    let last = D c.reserve_names-2.new.file_system in
    rw c.and.ensures (settles_when _ c.finish-of_append.result c.finish-of_rewrite.result (D c.finish-of_append.new.file_system) second third last c.finish-of_append.ensures.settled c.finish-of_rewrite.ensures.settled
    (stays_same c.args.self.append.layout.queue c.finish-of_append.new.self.layout.queue (map string_bytes c.args.self.append.layout.paths.items) (map string_bytes c.finish-of_append.new.self.layout.paths.items) c.args.self.append.files.recycled.items c.finish-of_append.new.self.files.recycled.items second third
    (ap (λ l. l.queue) a.0) (ap (λ l. map string_bytes l.paths.items) a.0) (ap (λ kept. kept.items) a.3) (c.reserve_names.ensures.held (a.2 ∙ append)))
    (stays_same c.args.self.rewrite.layout.queue c.finish-of_rewrite.new.self.layout.queue (map string_bytes c.args.self.rewrite.layout.paths.items) (map string_bytes c.finish-of_rewrite.new.self.layout.paths.items) c.args.self.rewrite.files.recycled.items c.finish-of_rewrite.new.self.files.recycled.items third last
    (ap (λ l. l.queue) r.0) (ap (λ l. map string_bytes l.paths.items) r.0) (ap (λ kept. kept.items) r.3) (c.reserve_names-2.ensures.held (r.2 ∙ rewrite))))

pub returns-clause-value : goal.returns-clause-value
returns-clause-value g c alive =
    let D = g.F.FileSystem.disk in
    let (append, rewrite) = either_false c.args.self.append.failed c.args.self.rewrite.failed alive in
    let a = c.finish-of_append.ensures.same in
    let r = c.finish-of_rewrite.ensures.same in
    let second = D c.finish-of_rewrite.new.file_system in
    let third = D c.reserve_names.new.file_system in
    let last = D c.reserve_names-2.new.file_system in
    record {
      one = D c.finish-of_append.new.file_system;
      two = second;
      three = third;
      of_append = c.finish-of_append.result;
      of_rewrite = c.finish-of_rewrite.result;
      append = c.finish-of_append.ensures.value append;
      rewrite = c.finish-of_rewrite.ensures.value rewrite;
      append_names = names_same c.args.self.append.layout.queue c.finish-of_append.new.self.layout.queue (map string_bytes c.args.self.append.layout.paths.items) (map string_bytes c.finish-of_append.new.self.layout.paths.items) c.args.self.append.files.recycled.items c.finish-of_append.new.self.files.recycled.items second third
          (ap (λ l. l.queue) a.0) (ap (λ l. map string_bytes l.paths.items) a.0) (ap (λ kept. kept.items) a.3) (c.reserve_names.ensures.calls (a.2 ∙ append));
      rewrite_names = names_same c.args.self.rewrite.layout.queue c.finish-of_rewrite.new.self.layout.queue (map string_bytes c.args.self.rewrite.layout.paths.items) (map string_bytes c.finish-of_rewrite.new.self.layout.paths.items) c.args.self.rewrite.files.recycled.items c.finish-of_rewrite.new.self.files.recycled.items third last
          (ap (λ l. l.queue) r.0) (ap (λ l. map string_bytes l.paths.items) r.0) (ap (λ kept. kept.items) r.3) (c.reserve_names-2.ensures.calls (r.2 ∙ rewrite));
      is = c.and.ensures;
    }

pub returns-clause-fails : goal.returns-clause-fails
returns-clause-fails g c = rw c.and.ensures (fails_as c.args.self.append.failed c.args.self.rewrite.failed c.finish-of_append.result c.finish-of_rewrite.result (sym c.is_failed.ensures ∙ c.if-is_failed.false) c.finish-of_append.ensures.fails c.finish-of_rewrite.ensures.fails)
