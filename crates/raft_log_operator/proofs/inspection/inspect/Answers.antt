use Rattle.std.proofs.Common.{List, ℕ, ap, map, subst, ◌∙◌}
use Rattle.std.specs.String.{string_bytes}
use Rattle.raft_log_record_base.specs.declared.pipe_log.LogQueue.TheVariants as queues
use Rattle.raft_log_operator.specs.Sound.{InspectsOne}
use Rattle.raft_log_operator.proofs.inspection.inspect.Goals as goal

pub returns : goal.returns
returns g c =
    let d = g.F.FileSystem.disk c.args.files.now in
    let paths = c.in_ok-paths.ensures in
    record {
      append = subst (λ (l : List (List ℕ)). InspectsOne queues.Append l d c.in_ok-append.append) (ap (map string_bytes) c.as_slice.ensures.value ∙ paths) c.in_ok-append.ensures;
      rewrite = subst (λ (l : List (List ℕ)). InspectsOne queues.Rewrite l d c.in_ok-rewrite.rewrite) (ap (map string_bytes) c.as_slice-2.ensures.value ∙ paths) c.in_ok-rewrite.ensures;
    }
