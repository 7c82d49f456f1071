use Rattle.std.proofs.Common.{rules, sym, subst, refl, ap, ◌∙◌, ◌≡◌, ◌∷◌, [], List, map, Global, String}
use Rattle.std.specs.Map.Iter.{deref_pair}
use Rattle.std.proofs.lemmas.Bool.{false≢true}
use Rattle.std.proofs.lemmas.List.{map-append}
use Rattle.std.proofs.lemmas.Map.Iter.{iter_end}
use Rattle.raft_log_fs.specs.Disk.{IsPathIn}
use Rattle.raft_log_fs_state.specs.declared.storage.Node.{Node}
use Rattle.raft_log_fs_memory.specs.Memory.{disk_of}
use Rattle.raft_log_fs_memory.proofs.Space.{NoneLiesIn, none_more, lies_elsewhere}
use Rattle.raft_log_fs_memory.proofs.memory.MemoryFileSystem.lies_in.Goals as goal
use Rattle.raft_log_fs_memory.proofs.memory.MemoryFileSystem.lies_in.Goals.{else-names-via-then-names+else-is_within, else-names-via-else-names}

pub loop-path-preserved : goal.loop-path-preserved
loop-path-preserved c =
    let d = disk_of c.args.self.now in
    let so_far = map deref_pair c.loop-path.yielded in
    let e : String Global × Node = (c.in-Some.path.now, c.in-Some.field-0-1.now) in
    subst (λ (es : List (String Global × Node)). NoneLiesIn es c.args.file c.args.directory.now d)
    (sym (map-append deref_pair c.loop-path.yielded ((c.in-Some.path, c.in-Some.field-0-1) ∷ [])))
    (none_more so_far e c.args.file c.args.directory.now d c.loop-path.invariant (λ named inside. elim c.else-names.branch [
      | else-names-via-then-names+else-is_within w ↦
          false≢true (w.if-is_within.ensures.1 (subst (IsPathIn c.args.directory.now) (sym w.deref-then-names.ensures) inside))
      | else-names-via-else-names w ↦ false≢true (w.if-names.ensures.1 (ap d.names c.deref.ensures ∙ named))
    ]))

pub returns : goal.returns
returns c =
    let paths = c.args.self.now.storage.paths in
    let d = disk_of c.args.self.now in
    let all : map deref_pair c.loop-path.yielded ≡ paths.entries = search (rules, iter_end) in (
      (λ is. absurd (false≢true is)),
      (λ lies. absurd (lies_elsewhere c.args.file c.args.directory.now d paths (λ path. refl)
          (subst (λ (es : List (String Global × Node)). NoneLiesIn es c.args.file c.args.directory.now d) all c.loop-path.invariant) lies)),
    )
