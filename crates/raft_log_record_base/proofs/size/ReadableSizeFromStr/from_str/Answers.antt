use Rattle.std.proofs.Common.{List, ℕ, subst}
use Rattle.raft_log_record_base.specs.Size.{GivesSize, size_in}
use Rattle.raft_log_record_base.proofs.Sizes.{reads_size}
use Rattle.raft_log_record_base.proofs.size.ReadableSizeFromStr.from_str.Goals as goal

pub returns : goal.returns
returns c =
    let P : List ℕ → Type 0 = λ l. GivesSize c.size_in.result (size_in l) in
    reads_size c.args.text.now c.trim.result.now c.size_in.result c.trim.ensures.value c.trim.ensures.trim (subst P c.as_bytes.ensures.value c.size_in.ensures)
