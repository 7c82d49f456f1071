-- What a recovery takes from the result of reading each file of a queue.
use Rattle.std.specs.Prelude.{ℕ, Option, None, List, [], ◌∷◌}
use Rattle.raft_log_active_file.specs.declared.format.File.{File}
use Rattle.raft_log_recovery_read.specs.declared.file_ending.FileEnding.{FileEnding}

-- each file, with the format that was read from its header; for a file without a header, version 1 and no alignment
abbrev pub as_read : List FileEnding → List File → List File
as_read [] files = files
as_read (ending ∷ endings) [] = []
as_read (ending ∷ endings) (file ∷ files) = record file { format = ending.format } ∷ as_read endings files

-- the offset up to which the last file was read, if there is a file and it has a header
abbrev pub end_of_last : List FileEnding → Option ℕ
end_of_last [] = None
end_of_last (ending ∷ []) = ending.end
end_of_last (ending ∷ next ∷ endings) = end_of_last (next ∷ endings)
