use Rattle.std.proofs.Common.{◌-◌, ℕ, length, subst, sym}
use Rattle.raft_log_world.specs.Reads.{IsCount}
use Rattle.raft_log_judge.proofs.Supporting.{length_bytes}
use Rattle.raft_log_judge.proofs.reading.are_fetched.Goals as goal

pub returns : goal.returns
returns c =
    let entries = c.args.entries.now in
    let counted = subst (λ (all : ℕ). IsCount c.args.max.now all (length entries)) c.saturating_sub.ensures (c.is_count.ensures.0 c.if-not-is_count.false) in (
      λ yes. record {
        are = c.has_entries.ensures.0 c.if-not-has_entries.false;
        all = c.has_all.ensures.0 yes;
        count = subst (λ (n : ℕ). IsCount c.args.max.now (c.args.end - c.args.begin) n) (sym (length_bytes entries)) counted;
      },
      λ fetched. c.has_all.ensures.1 fetched.all,
    )
