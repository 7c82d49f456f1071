use Rattle.std.proofs.Common.{refl, sym, ◌∙◌}
use Rattle.raft_log_file_format.proofs.Headers.{header_length}
use Rattle.raft_log_file_format.proofs.header.LogFileFormat.encoded_len.Goals as goal

-- src/header.rt:50:5
pub returns-in-V1 : goal.returns-in-V1
returns-in-V1 c a = header_length c.args.version a 61 (λ _. refl) (λ two. absurd (let k = sym c.in-V1.is ∙ two in cc))

-- src/header.rt:50:5
pub returns-in-V2 : goal.returns-in-V2
returns-in-V2 c a = header_length c.args.version a 69 (λ one. absurd (let k = sym c.in-V2.is ∙ one in cc)) (λ _. refl)
