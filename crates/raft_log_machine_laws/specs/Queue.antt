-- The records of a directory's two queues, and what may happen to them.
use Rattle.std.specs.Prelude.{List, [], ◌∷◌, ◌++◌}
use Rattle.raft_log_model_laws.specs.Item.{Record}

-- the records of one queue, oldest first
pub record Queue (E V : Type 0) : Type 0 where
  -- records in recycled or other files below the live range that may still be on disk; a recovery may start at one of
  -- these records
  pub gone : List (Record E V)
  -- synced records in files of the live range
  pub live : List (Record E V)
  -- records at the end of the active file that aren't synced; a crash leaves a prefix of them
  pub pending : List (Record E V)

-- the two queues of a directory
pub record Store (E V : Type 0) : Type 0 where
  pub rewrite : Queue E V
  pub append : Queue E V

-- all records of the queue that a recovery may read
abbrev pub all_records : {E V : Type 0} → Queue E V → List (Record E V)
all_records q = q.gone ++ (q.live ++ q.pending)

-- the queue after record `y` was appended; it is pending
abbrev pub takes : {E V : Type 0} → Queue E V → Record E V → Queue E V
takes q y = record { gone = q.gone; live = q.live; pending = q.pending ++ y ∷ [] }

-- the queue after all its records were synced
abbrev pub synced : {E V : Type 0} → Queue E V → Queue E V
synced q = record { gone = q.gone; live = q.live ++ q.pending; pending = [] }

-- the queue after the records `n1` left the live range at its beginning, and the records `n2` stayed
abbrev pub raised : {E V : Type 0} → Queue E V → List (Record E V) → List (Record E V) → Queue E V
raised q n1 n2 = record { gone = q.gone ++ n1; live = n2; pending = q.pending }

-- the queue after the records below the live range were lost, except `back`: the files of the lost ones are deleted,
-- renamed, or before a gap
abbrev pub left : {E V : Type 0} → Queue E V → List (Record E V) → Queue E V
left q back = record { gone = back; live = q.live; pending = q.pending }

-- The queue after an open read an image and synced what it read. Of the records below the live range, it read `back`
-- but not `cut`. Of the pending ones, the image has `kept`.
abbrev pub reread : {E V : Type 0} → Queue E V → (cut back kept : List (Record E V)) → Queue E V
reread q cut back kept = record { gone = cut; live = back ++ (q.live ++ kept); pending = [] }

-- the directory, with `append` as its Append queue
abbrev pub with_append : {E V : Type 0} → Store E V → Queue E V → Store E V
with_append q append = record { rewrite = q.rewrite; append = append }

-- the directory, with `rewrite` as its Rewrite queue
abbrev pub with_rewrite : {E V : Type 0} → Store E V → Queue E V → Store E V
with_rewrite q rewrite = record { rewrite = rewrite; append = q.append }
