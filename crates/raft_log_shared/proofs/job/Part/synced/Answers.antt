use Rattle.std.proofs.Common.{◌<◌, ℕ, List, sym, ap, subst, ◌∙◌}
use Rattle.std.proofs.Math.Logic.{∥∥₁_map}
use Rattle.raft_log_shared.specs.declared.served.Served.{Served}
use Rattle.raft_log_shared.proofs.Ending.{home_after, stamped_after, waits_so}
use Rattle.raft_log_shared.proofs.job.Part.synced.Goals as goal

pub invariant_of-result : goal.invariant_of-result
invariant_of-result g c =
    let part = c.args.self in
    let sync = c.args.sync.now in
    let twin = c.again-synced.result in
    let same = c.again-synced.ensures.claim in
    let told = c.after_sync-result.result in
    let ok = waits_so part.sync part.result c.requires.waits in
    let stamped = stamped_after part.ask.batch part.ask.sync sync.failed part.result told part.claim twin c.new.result c.after_sync-result.ensures c.new.ensures
    part.written ok.1 (part.same ∙ ok.0) (ap (λ (p : ℕ × List Served). p.1) same ∙ sync.is)
    (subst (λ (p : ℕ × List Served). part.claim.0 < p.0) (sym same) c.requires.later) in
    record {
      home = ∥∥₁_map part.home (λ h. home_after part.ask.batch part.batch sync.failed part.result told c.after_sync-result.ensures ok.1 h);
      written = stamped.written;
      synced = stamped.synced;
      later = stamped.later;
      due = stamped.due;
    }
