use Rattle.std.proofs.Common.{ℕ, ◌+◌, ◌*◌, ◌/◌, ◌∙◌, ap, min}
use Rattle.raft_log_file_pipe.proofs.Fractions.{fraction}
use Rattle.raft_log_file_pipe.proofs.single_pipe.SinglePipe.file_at.Goals as goal

pub returns : goal.returns
returns g c =
    c.saturating_add.ensures ∙ ap (λ (n : ℕ). min (c.args.self.now.files.first_seq + n) 18446744073709551615)
    (fraction c.count-count.result c.args.num c.args.den c.requires.whole ∙ ap (λ (n : ℕ). n * c.args.num / c.args.den) c.count-count.ensures)
