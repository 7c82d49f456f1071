use Rattle.std.proofs.Common.{List, [], ℕ, subst}
use Rattle.raft_log_offline.specs.Findings.{Lists, told_by}
use Rattle.raft_log_operator.proofs.SoundLemmas.{no_hole}
use Rattle.raft_log_operator.proofs.inspection.inspect_one.Goals as goal

pub returns : goal.returns
returns g c =
    let inspects = c.in_ok-files.ensures.ok (c.in_ok-files.ensures.receipts.stays g.met.F.FileSystem.truthful c.none-receipts.ensures) in
    let checker = c.inspect_queue.new.machine in
    record {
      batches = inspects.batches;
      intact = inspects.intact;
      whole = λ none. no_hole c.args.queue inspects.batches checker (inspects.taken [] (λ group. c.new-checker.ensures group))
          (subst (λ (l : List (ℕ × ℕ)). Lists (told_by checker) l) none c.in_ok-holes.ensures) c.findings_are_first_holes.ensures.none;
    }
