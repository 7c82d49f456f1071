use Rattle.std.proofs.Common.{map, refl, sym, ◌∙◌, ap}
use Rattle.std.specs.String.{string_bytes}
use Rattle.raft_log_machine_laws.specs.Calls.Which.{InAppend, InRewrite}
use Rattle.raft_log_dual_pipes.proofs.Exits.{appends_not_when, appends_when}
use Rattle.raft_log_dual_pipes.specs.Pipes.{LogPipes, OnePipe}
use Rattle.raft_log_dual_pipes.proofs.PairNumbers.{append_ends_when}
use Rattle.raft_log_dual_pipes.proofs.LastFile.{lasts_when}
use Rattle.raft_log_dual_pipes.proofs.Pairing.{either_false, when_alive}
use Rattle.raft_log_dual_pipes.proofs.Telling.{grows_when, nobody_hears_err, nobody_hears_ok}
use Rattle.raft_log_dual_pipes.proofs.dual_pipes.DualPipesPipeLog.append.Goals as goal

pub returns-in-Append-clause-ok : goal.returns-in-Append-clause-ok
returns-in-Append-clause-ok g c =
    let e = c.append.ensures in
    rw c.in-Append.is (appends_when InAppend _ _ _ (g.B.ReactiveBytes.signed c.args.bytes.now) c.append.result e.ok e.fails
    (record { queue = ap (λ l. l.queue) e.same.0; directories = ap (λ l. map string_bytes l.paths.items) e.same.0; settings = e.same.1 }) e.first)

pub returns-in-Append-clause-err : goal.returns-in-Append-clause-err
returns-in-Append-clause-err g c =
    let e = c.append.ensures in
    let alive = (either_false _ _ (sym c.is_failed.ensures ∙ c.if-is_failed.false)).0 in
    rw c.in-Append.is (appends_not_when InAppend _ _ _ (g.B.ReactiveBytes.signed c.args.bytes.now) c.append.result (e.err alive) e.fails
    (record { queue = ap (λ l. l.queue) e.same.0; directories = ap (λ l. map string_bytes l.paths.items) e.same.0; settings = e.same.1 }) e.first
    (g.met.F.FileSystem.sound c.append.new.file_system))

pub returns-in-Rewrite-clause-ok : goal.returns-in-Rewrite-clause-ok
returns-in-Rewrite-clause-ok g c =
    let e = c.append-in-Rewrite.ensures in
    rw c.in-Rewrite.is (appends_when InRewrite _ _ _ (g.B.ReactiveBytes.signed c.args.bytes.now) c.append-in-Rewrite.result e.ok e.fails
    (record { queue = ap (λ l. l.queue) e.same.0; directories = ap (λ l. map string_bytes l.paths.items) e.same.0; settings = e.same.1 }) e.first)

pub returns-in-Rewrite-clause-err : goal.returns-in-Rewrite-clause-err
returns-in-Rewrite-clause-err g c =
    let e = c.append-in-Rewrite.ensures in
    let alive = (either_false _ _ (sym c.is_failed.ensures ∙ c.if-is_failed.false)).1 in
    rw c.in-Rewrite.is (appends_not_when InRewrite _ _ _ (g.B.ReactiveBytes.signed c.args.bytes.now) c.append-in-Rewrite.result (e.err alive) e.fails
    (record { queue = ap (λ l. l.queue) e.same.0; directories = ap (λ l. map string_bytes l.paths.items) e.same.0; settings = e.same.1 }) e.first
    (g.met.F.FileSystem.sound c.append-in-Rewrite.new.file_system))

pub returns-in-Append-clause-range : goal.returns-in-Append-clause-range
returns-in-Append-clause-range g c =
    let e = c.append.ensures in
    let alive = (either_false _ _ (sym c.is_failed.ensures ∙ c.if-is_failed.false)).0 in
    let p = c.append.new.self in
    let o : OnePipe = record { queue = p.layout.queue; directories = map string_bytes p.layout.paths.items; settings = p.settings; files = p.files; failed = p.failed } in
    rw c.in-Append.is (append_ends_when InAppend _ o _ (g.B.ReactiveBytes.signed c.args.bytes.now) c.append.result (e.err alive))

pub returns-in-Rewrite-clause-range : goal.returns-in-Rewrite-clause-range
returns-in-Rewrite-clause-range g c =
    let e = c.append-in-Rewrite.ensures in
    let alive = (either_false _ _ (sym c.is_failed.ensures ∙ c.if-is_failed.false)).1 in
    let p = c.append-in-Rewrite.new.self in
    let o : OnePipe = record { queue = p.layout.queue; directories = map string_bytes p.layout.paths.items; settings = p.settings; files = p.files; failed = p.failed } in
    rw c.in-Rewrite.is (append_ends_when InRewrite _ o _ (g.B.ReactiveBytes.signed c.args.bytes.now) c.append-in-Rewrite.result (e.err alive))

pub returns-in-Append-clause-goes_into : goal.returns-in-Append-clause-goes_into
returns-in-Append-clause-goes_into g c =
    let was = c.args.self.now in
    let v : LogPipes = record {
      append = record { queue = was.append.layout.queue; directories = map string_bytes was.append.layout.paths.items; settings = was.append.settings; files = was.append.files; failed = was.append.failed };
      rewrite = record { queue = was.rewrite.layout.queue; directories = map string_bytes was.rewrite.layout.paths.items; settings = was.rewrite.settings; files = was.rewrite.files; failed = was.rewrite.failed };
      disk = g.F.FileSystem.disk was.file_system;
    } in
    let p = c.append.new.self in
    let o : OnePipe = record { queue = p.layout.queue; directories = map string_bytes p.layout.paths.items; settings = p.settings; files = p.files; failed = p.failed } in
    rw c.in-Append.is (lasts_when InAppend v o (g.F.FileSystem.disk c.append.new.file_system) (g.B.ReactiveBytes.signed c.args.bytes.now) c.append.result c.append.ensures.ok)

pub returns-in-Rewrite-clause-goes_into : goal.returns-in-Rewrite-clause-goes_into
returns-in-Rewrite-clause-goes_into g c =
    let was = c.args.self.now in
    let v : LogPipes = record {
      append = record { queue = was.append.layout.queue; directories = map string_bytes was.append.layout.paths.items; settings = was.append.settings; files = was.append.files; failed = was.append.failed };
      rewrite = record { queue = was.rewrite.layout.queue; directories = map string_bytes was.rewrite.layout.paths.items; settings = was.rewrite.settings; files = was.rewrite.files; failed = was.rewrite.failed };
      disk = g.F.FileSystem.disk was.file_system;
    } in
    let p = c.append-in-Rewrite.new.self in
    let o : OnePipe = record { queue = p.layout.queue; directories = map string_bytes p.layout.paths.items; settings = p.settings; files = p.files; failed = p.failed } in
    rw c.in-Rewrite.is (lasts_when InRewrite v o (g.F.FileSystem.disk c.append-in-Rewrite.new.file_system) (g.B.ReactiveBytes.signed c.args.bytes.now) c.append-in-Rewrite.result c.append-in-Rewrite.ensures.ok)

pub returns-in-Append-clause-calls : goal.returns-in-Append-clause-calls
returns-in-Append-clause-calls g c = rw c.in-Append.is c.append.ensures.ok

pub returns-in-Append-clause-refusal : goal.returns-in-Append-clause-refusal
returns-in-Append-clause-refusal g c =
    let alive = (either_false _ _ (sym c.is_failed.ensures ∙ c.if-is_failed.false)).0 in
    rw c.in-Append.is (when_alive c.append.result _ _ (c.append.ensures.err alive))

pub returns-in-Rewrite-clause-calls : goal.returns-in-Rewrite-clause-calls
returns-in-Rewrite-clause-calls g c = rw c.in-Rewrite.is c.append-in-Rewrite.ensures.ok

pub returns-in-Rewrite-clause-refusal : goal.returns-in-Rewrite-clause-refusal
returns-in-Rewrite-clause-refusal g c =
    let alive = (either_false _ _ (sym c.is_failed.ensures ∙ c.if-is_failed.false)).1 in
    rw c.in-Rewrite.is (when_alive c.append-in-Rewrite.result _ _ (c.append-in-Rewrite.ensures.err alive))

pub returns-in-Append-clause-grows : goal.returns-in-Append-clause-grows
returns-in-Append-clause-grows g c = rw c.in-Append.is (grows_when c.append.result 2 c.args.self.now.append.files c.append.new.self.files c.append.ensures.near)

pub returns-in-Append-clause-told : goal.returns-in-Append-clause-told
returns-in-Append-clause-told g c = nobody_hears_ok c.append.result _ _ _

pub returns-in-Append-clause-told_less : goal.returns-in-Append-clause-told_less
returns-in-Append-clause-told_less g c = nobody_hears_err c.append.result _ _ _

pub returns-in-Rewrite-clause-grows : goal.returns-in-Rewrite-clause-grows
returns-in-Rewrite-clause-grows g c = rw c.in-Rewrite.is (grows_when c.append-in-Rewrite.result 2 c.args.self.now.rewrite.files c.append-in-Rewrite.new.self.files c.append-in-Rewrite.ensures.near)

pub returns-in-Rewrite-clause-told : goal.returns-in-Rewrite-clause-told
returns-in-Rewrite-clause-told g c = nobody_hears_ok c.append-in-Rewrite.result _ _ _

pub returns-in-Rewrite-clause-told_less : goal.returns-in-Rewrite-clause-told_less
returns-in-Rewrite-clause-told_less g c = nobody_hears_err c.append-in-Rewrite.result _ _ _
