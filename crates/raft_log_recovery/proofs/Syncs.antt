-- Files are synced one after the other.
use Rattle.std.proofs.Common.{ℕ, ◌+◌, ◌<◌, List, [], ◌∷◌, ◌++◌, take, drop, length, get_or, refl, sym, ap, subst, ◌∙◌}
use Rattle.std.specs.declared.io.ErrorKind.{ErrorKind}
use Rattle.std.proofs.lemmas.List.{take_more, drop_more, take-append-drop}
use Rattle.raft_log_fs.specs.Disk.{Disk}
use Rattle.raft_log_fs.specs.Exits.{FailsToSync, Syncs}
use Rattle.raft_log_active_file.specs.declared.format.File.{File}
use Rattle.raft_log_recovery.specs.Syncing.{FailsToSyncEach, SyncsEach}

one_more : (files : List File) (f : File) (a b c : Disk) → SyncsEach files a b → Syncs f.handle b c → SyncsEach (files ++ f ∷ []) a c
one_more [] f a b c all one = (c, subst (λ (d : Disk). Syncs f.handle d c) all one, refl)
one_more (file ∷ files) f a b c all one = (all.0, all.1, one_more files f all.0 b c all.2 one)

-- one more is synced
pub syncs_more : (files : List File) (i : ℕ) (f : File) (a b c : Disk) → i < length files → SyncsEach (take i files) a b → Syncs (get_or files i f).handle b c → SyncsEach (take (i + 1) files) a c
syncs_more files i f a b c there all one =
    subst (λ (l : List File). SyncsEach l a c) (sym (take_more files i f there)) (one_more (take i files) (get_or files i f) a b c all one)

-- one isn't synced
pub syncs_stop : (files : List File) (i : ℕ) (f : File) (kind : ErrorKind) (a b c : Disk) → i < length files → SyncsEach (take i files) a b → FailsToSync (get_or files i f).handle kind b c → FailsToSyncEach files kind a c
syncs_stop files i f kind a b c there all fails = record {
  before = take i files;
  file = get_or files i f;
  behind = drop (i + 1) files;
  split = sym (take-append-drop i files) ∙ ap (λ (l : List File). take i files ++ l) (drop_more files i f there);
  between = b;
  synced = all;
  fails = fails;
}
