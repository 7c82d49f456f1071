-- The entries of a voter in their stored form.
use Rattle.std.specs.Prelude.{ℕ, List, map}
use Rattle.raft_voter_messages.specs.StoredForms.{entry_text}
use Rattle.raft_voter_outline.specs.Rules.{numbered}

-- the stored bytes of each of these entries; the first has the index `index`
abbrev pub entry_texts : ℕ → List (ℕ × List ℕ) → List (List ℕ)
entry_texts index entries = map entry_text (numbered index entries)
