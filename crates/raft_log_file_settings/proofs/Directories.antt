-- Which paths are those of log files.
use Rattle.std.proofs.Common.{◌≡◌, ℕ, true, false, drop, List, ◌++◌, Option, Some, None, inl, inr, refl, sym, ap, ◌∙◌}
use Rattle.std.specs.Prelude.{is_some}
use Rattle.std.proofs.lemmas.Bool.{false≢true}
use Rattle.std.proofs.lemmas.List.{append_cancel_left}
use Rattle.raft_log_record_base.specs.declared.pipe_log.FileId.{FileId}
use Rattle.raft_log_file_format.specs.Name.{IsNamed, suffix_of, reserved_suffix}
use Rattle.raft_log_file_settings.specs.Sanitized.{IsFileName}

-- what the two readings of a name say
abbrev pub ReadsFile : List ℕ → Option FileId → Type 0
ReadsFile name r = (id : FileId) → (r ≡ Some id → IsNamed (suffix_of id.queue) name id.seq) × (IsNamed (suffix_of id.queue) name id.seq → r ≡ Some id)

abbrev pub ReadsReserved : List ℕ → Option ℕ → Type 0
ReadsReserved name r = (n : ℕ) → (r ≡ Some n → IsNamed reserved_suffix name n) × (IsNamed reserved_suffix name n → r ≡ Some n)

pub file_read : (name : List ℕ) (r : Option FileId) → ReadsFile name r → is_some r ≡ true → IsFileName name
file_read name (Some id) exact some = (id.seq, inl (id.queue, (exact id).0 refl))
file_read name None exact some = absurd (false≢true some)

pub reserved_read : (name : List ℕ) (r : Option ℕ) → ReadsReserved name r → is_some r ≡ true → IsFileName name
reserved_read name (Some n) exact some = (n, inr ((exact n).0 refl))
reserved_read name None exact some = absurd (false≢true some)

pub one_is_read : (name : List ℕ) (r : Option FileId) (s : Option ℕ) → ReadsFile name r → ReadsReserved name s → is_some r ≡ false → IsFileName name → is_some s ≡ true
one_is_read name r s file reserved none (n, inl (queue, named)) =
    absurd (false≢true (sym none ∙ ap (λ (o : Option FileId). is_some o) ((file (record { queue = queue; seq = n })).1 named)))
one_is_read name r s file reserved none (n, inr named) = ap (λ (o : Option ℕ). is_some o) ((reserved n).1 named)

-- a path behind its directory: no other rest is behind it
pub one_rest : (directory path rest other : List ℕ) → path ≡ directory ++ rest → path ≡ directory ++ other → rest ≡ other
one_rest directory path rest other a b = append_cancel_left directory rest other (sym a ∙ b)

pub text_rest : (directory path rest : List ℕ) (k : ℕ) → path ≡ directory ++ drop k path → rest ≡ drop k path → path ≡ directory ++ rest
text_rest directory path rest k is behind = is ∙ ap (λ (l : List ℕ). directory ++ l) (sym behind)
