use Rattle.std.proofs.Common.{ℕ, ◌%◌, ◌^◌, Some, subst}
use Rattle.raft_log_record_frames.specs.Record.{IsFooter}
use Rattle.raft_log_record_frames.proofs.Footers.{one_signature}
use Rattle.raft_log_record_frames.proofs.laws.signature_separates_files.Goals as goal

pub returns : goal.returns
returns c = λ a b bytes items h. (
  λ k. one_signature (a % 2 ^ 32) (b % 2 ^ 32) bytes items items h k,
  λ same. subst (λ (s : ℕ). IsFooter (Some s) bytes items) same h,
)
