use Rattle.std.proofs.Common.{rules, ◌≡◌, false, map, sym, subst, ◌∙◌}
use Rattle.std.specs.String.{string_bytes}
use Rattle.std.specs.declared.io.ErrorKind.TheVariants.{OutOfMemory}
use Rattle.std.proofs.lemmas.Bool.{false≢true}
use Rattle.raft_log_offline.specs.Telling.{HasFileName}
use Rattle.raft_log_offline.proofs.Permitting.{holds_listed, listed_holds, nothing_held}
use Rattle.raft_log_offline.proofs.permission.holds_log_file.Goals as goal

pub returns-in-Ok-clause-ok : goal.returns-in-Ok-clause-ok
returns-in-Ok-clause-ok g c =
    let d = g.F.FileSystem.disk c.args.file_system.now in
    let directory = c.args.directory.now in
    let names = map string_bytes c.in-Ok.names.items in
    let same = c.as_slice.ensures.value in (
      (λ has. holds_listed directory d names c.in-Ok.ensures.ok (subst (λ l. HasFileName (map string_bytes l)) same (c.has_file_name.ensures.0 has))),
      λ holds. c.has_file_name.ensures.1 (subst (λ l. HasFileName (map string_bytes l)) (sym same) (listed_holds directory d names c.in-Ok.ensures.ok holds)),
    )

pub returns-clause-ok : goal.returns-clause-ok
returns-clause-ok g c =
    let d = g.F.FileSystem.disk c.args.file_system.now in
    let runs : d.stopped ≡ false = sym c.has_stopped.ensures ∙ c.if-has_stopped.false in
    let other : c.in-Err.kind ≡ OutOfMemory → ⊥ = search rules in (
      (λ t. absurd (false≢true t)),
      λ holds. absurd (nothing_held c.args.directory.now d c.in-Err.kind (g.met.F.FileSystem.sound c.args.file_system.now) runs other c.in-Err.ensures.err holds),
    )
