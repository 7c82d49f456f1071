-- What a snapshot covers: a term and an index, each encoded as a number of variable length.
use Rattle.std.specs.Prelude.{ℕ, List, ◌++◌, Ok}
use Rattle.raft_log_record_base.specs.Grammar.{◌>>=◌}
use Rattle.raft_log_record_base.specs.Number.{NumberReader, var_u64_at, var_u64_bytes}

-- the encoding of the term and the index
abbrev pub cover_bytes : ℕ → ℕ → List ℕ
cover_bytes term index = var_u64_bytes term ++ var_u64_bytes index

-- parses the term and the index at the start of `bytes`
abbrev pub cover_at : NumberReader (ℕ × ℕ)
cover_at bytes = var_u64_at bytes >>= λ term. var_u64_at term.1 >>= λ index. Ok ((term.0, index.0), index.1)
