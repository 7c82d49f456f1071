use Rattle.std.proofs.Common.{◌≡◌, ℕ, Some, subst, sym}
use Rattle.std.specs.Prelude.{◌↔◌}
use Rattle.raft_log_file_format.specs.Name.{IsNamed}
use Rattle.raft_log_recovery_scan.specs.Names.{end_of}
use Rattle.raft_log_recovery_scan.specs.declared.file_kind.FileKind.{FileKind}
use Rattle.raft_log_recovery_scan.proofs.file_kind.FileKind.parse_name.Goals as goal

pub returns-in-Append : goal.returns-in-Append
returns-in-Append c = subst (λ (k : FileKind). (n : ℕ) → (c.parse_name_in.result ≡ Some n) ↔ IsNamed (end_of k) c.args.name.now n) (sym c.in-Append.is) c.parse_name_in.ensures

pub returns-in-Rewrite : goal.returns-in-Rewrite
returns-in-Rewrite c = subst (λ (k : FileKind). (n : ℕ) → (c.parse_name_in-in-Rewrite.result ≡ Some n) ↔ IsNamed (end_of k) c.args.name.now n) (sym c.in-Rewrite.is) c.parse_name_in-in-Rewrite.ensures

pub returns-in-Reserved : goal.returns-in-Reserved
returns-in-Reserved c = subst (λ (k : FileKind). (n : ℕ) → (c.parse_reserved_file_name.result ≡ Some n) ↔ IsNamed (end_of k) c.args.name.now n) (sym c.in-Reserved.is) c.parse_reserved_file_name.ensures
