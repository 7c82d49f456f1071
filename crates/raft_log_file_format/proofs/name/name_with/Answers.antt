use Rattle.std.proofs.Common.{◌≡◌, ◌++◌, ℕ, List, ap, refl, ◌∙◌, arith}
use Rattle.std.specs.Fmt.{styled_decimal}
use Rattle.std.specs.String.{string_bytes}
use Rattle.raft_log_file_format.specs.Name.{sixteen_digits}
use Rattle.raft_log_file_format.proofs.Names.{padded_sixteen, written_number}
use Rattle.raft_log_file_format.proofs.name.name_with.Goals as goal

-- src/name.rt:64:1
pub returns-clause-ok : goal.returns-clause-ok
returns-clause-ok c = c.in_ok-format.ensures.ok ∙ ap (λ s. styled_decimal s c.args.seq ++ c.args.suffix.now) c.laid_out.ensures ∙ ap (λ (l : List ℕ). l ++ c.args.suffix.now) (padded_sixteen c.args.seq)

-- src/name.rt:64:1
pub returns-clause-parsed : goal.returns-clause-parsed
returns-clause-parsed c some =
    let written : string_bytes c.in_ok-format.field-0 ≡ sixteen_digits c.args.seq ++ c.args.suffix.now = c.in_ok-format.ensures.ok ∙ ap (λ s. styled_decimal s c.args.seq ++ c.args.suffix.now) c.laid_out.ensures ∙ ap (λ (l : List ℕ). l ++ c.args.suffix.now) (padded_sixteen c.args.seq) in
    rw written (written_number c.args.suffix.now c.args.seq (omega (arith, c.if-seq-ge-LOG_SEQ_LIMIT.false)) some, (sixteen_digits c.args.seq, refl))
