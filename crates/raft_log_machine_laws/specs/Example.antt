-- An example: one raft group through two purges, a crash, and an open that reads recycled files again. Entries and
-- values are numbers.
use Rattle.std.specs.Prelude.{ℕ, true, false, if◌then◌else◌, ◌==◌, List, [], ◌∷◌}
use Rattle.raft_log_model_laws.specs.Item.{Record}
use Rattle.raft_log_model_laws.specs.Item.Item.{Run, Compact, Put}
use Rattle.raft_log_model_laws.specs.Item.Record.{Plain}
use Rattle.raft_log_machine_laws.specs.Queue.{Store}
use Rattle.raft_log_machine_laws.specs.Whereabouts.{Whereabouts, with_key}
use Rattle.raft_log_machine_laws.specs.Fresh.{nowhere}
use Rattle.raft_log_machine_laws.specs.Machine.{Event}
use Rattle.raft_log_machine_laws.specs.Machine.Event.{Take, SyncAppend, SyncRewrite, WritePlain, RaiseAppend, Reopen}
use Rattle.raft_log_machine_laws.specs.WrongRules.{tagged}

-- a batch with entries 1 to 3
abbrev pub entries : Record ℕ ℕ
entries = Plain (tagged 1 (Run 1 (11 ∷ 12 ∷ 13 ∷ []) ∷ []))

-- a batch that deletes the entries below 3 and puts a key
abbrev pub compaction : Record ℕ ℕ
compaction = Plain (tagged 1 (Compact 3 ∷ Put (5 ∷ []) 50 ∷ []))

-- these whereabouts for raft group 1; every other group has nothing
abbrev pub only : Whereabouts → ℕ → Whereabouts
only t g = if 1 == g then t else nowhere

-- The events. The first purge copies the entries to Rewrite, and their file leaves Append's live range. The second
-- purge writes a tombstone and copies the key, and Append's next file leaves the live range. After a crash, an open
-- reads both recycled files again.
abbrev pub two_purges : List (Event ℕ ℕ)
two_purges =
    Take entries ∷ SyncAppend
    ∷ WritePlain (tagged 1 (Run 1 (11 ∷ 12 ∷ 13 ∷ []) ∷ [])) ∷ SyncRewrite ∷ RaiseAppend (entries ∷ []) []
    ∷ Take compaction ∷ SyncAppend
    ∷ WritePlain (tagged 1 (Compact 3 ∷ [])) ∷ WritePlain (tagged 1 (Put (5 ∷ []) 50 ∷ [])) ∷ SyncRewrite
    ∷ RaiseAppend (compaction ∷ []) []
    ∷ Reopen [] [] [] [] [] [] [] (entries ∷ compaction ∷ []) ∷ []

-- the records of both queues after these events
abbrev pub purged_twice : Store ℕ ℕ
purged_twice = record {
  rewrite = record {
    gone = [];
    live =
        Plain (tagged 1 (Run 1 (11 ∷ 12 ∷ 13 ∷ []) ∷ [])) ∷ Plain (tagged 1 (Compact 3 ∷ []))
        ∷ Plain (tagged 1 (Put (5 ∷ []) 50 ∷ [])) ∷ [];
    pending = [];
  };
  append = record { gone = []; live = entries ∷ compaction ∷ []; pending = [] };
}

-- The whereabouts of raft group 1 after these events. Entry 3 and the key are in Append again, and a Compact is owed
-- again.
abbrev pub read_again : Whereabouts
read_again = record {
  first = 3;
  split = 3;
  end = 4;
  appended = with_key (λ k. false) (5 ∷ []) true;
  cleaned = false;
  compacted = true;
  deleted = λ k. false;
}
