-- The replies that a caller gets: those of the store, except for reads whose entries couldn't be copied.
use Rattle.std.specs.Prelude.{◌≡◌, ◌⊎◌, Bool, true, false}
use Rattle.raft_voter_messages.specs.declared.reply.Reply.{Reply}
use Rattle.raft_voter_messages.specs.declared.reply.Reply.TheVariants.{Entries, Refused}

-- the reply has the entries of a Read
abbrev pub is_read : Reply → Bool
is_read (Entries entries) = true
is_read reply = false

-- The caller gets `handed` for the store's reply `told`. These are the same, or `told` has entries and `handed` is
-- `Refused`, because memory for a copy ran out.
abbrev pub HandsOut : Reply → Reply → Type 0
HandsOut told handed = (handed ≡ told) ⊎ ((is_read told ≡ true) × (handed ≡ Refused))
