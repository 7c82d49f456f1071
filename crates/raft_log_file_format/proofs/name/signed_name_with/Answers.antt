use Rattle.std.proofs.Common.{◌++◌, ℕ, List, ap, sym, ◌∙◌, arith}
use Rattle.std.specs.Fmt.{styled_decimal}
use Rattle.raft_log_file_format.proofs.Names.{padded_signed, text_signed}
use Rattle.raft_log_file_format.proofs.name.signed_name_with.Goals as goal

pub returns-then-seq-lt-LOG_SIGNED_SEQ_LIMIT-clause-ok : goal.returns-then-seq-lt-LOG_SIGNED_SEQ_LIMIT-clause-ok
returns-then-seq-lt-LOG_SIGNED_SEQ_LIMIT-clause-ok c =
    c.in_ok-format.ensures.ok ∙ ap (λ s. styled_decimal s c.args.seq ++ c.args.suffix.now) c.laid_out.ensures ∙ ap (λ (l : List ℕ). l ++ c.args.suffix.now) (padded_signed c.args.seq)
    ∙ ap (λ (l : List ℕ). l ++ c.args.suffix.now) (sym (text_signed c.args.seq (omega (arith, c.if-seq-lt-LOG_SIGNED_SEQ_LIMIT.true))))
