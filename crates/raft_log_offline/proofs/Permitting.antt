-- Which names are those of log files, and which paths lie in a directory.
use Rattle.std.specs.Prelude.{is_some}
use Rattle.std.specs.String.{string_bytes}
use Rattle.std.proofs.Common.{◌≡◌, ℕ, true, false, List, [], ◌∷◌, ◌++◌, Option, Some, None, inl, inr, refl, sym, ap, subst, ◌∙◌}
use Rattle.std.proofs.lemmas.Bool.{false≢true}
use Rattle.std.proofs.lemmas.List.Elements.{Contains-append_cases}
use Rattle.raft_log_record_base.specs.declared.pipe_log.FileId.{FileId}
use Rattle.std.specs.declared.io.ErrorKind.{ErrorKind}
use Rattle.std.specs.declared.io.ErrorKind.TheVariants.{OutOfMemory}
use Rattle.std.proofs.lemmas.List.{append-nil}
use Rattle.raft_log_record_base.specs.declared.errors.Error.{Error}
use Rattle.raft_log_record_base.specs.declared.errors.Error.TheVariants as errors
use Rattle.raft_log_fs.specs.Disk.{Disk}
use Rattle.raft_log_fs.specs.Image.{IsSound}
use Rattle.raft_log_fs.specs.Arguments.{stopped, wrong_argument, no_memory}
use Rattle.raft_log_fs.specs.Reading.{IsListing, IsNotListed}
use Rattle.raft_log_file_format.specs.Name.{IsNamed, suffix_of, reserved_suffix}
use Rattle.raft_log_file_settings.specs.Sanitized.{IsFileName, IsRefusedFor}
use Rattle.raft_log_file_settings.specs.Settings.{Settings}
use Rattle.raft_log_offline.specs.Forks.{Forbids, HoldsLogFile, IsForkRefusal, IsFree, LiesInOne, LiesWithin}
use Rattle.raft_log_offline.specs.Telling.{HasFileName, TellsWords}
use Rattle.raft_log_offline.proofs.Lasts.{first_or_later, in_none}

-- what the two readings of a name say
abbrev pub ReadsFile : List ℕ → Option FileId → Type 0
ReadsFile name r = (id : FileId) → (r ≡ Some id → IsNamed (suffix_of id.queue) name id.seq) × (IsNamed (suffix_of id.queue) name id.seq → r ≡ Some id)

abbrev pub ReadsReserved : List ℕ → Option ℕ → Type 0
ReadsReserved name r = (n : ℕ) → (r ≡ Some n → IsNamed reserved_suffix name n) × (IsNamed reserved_suffix name n → r ≡ Some n)

pub file_read : (name : List ℕ) (r : Option FileId) → ReadsFile name r → is_some r ≡ true → IsFileName name
file_read name (Some id) exact some = (id.seq, inl (id.queue, (exact id).0 refl))
file_read name None exact some = absurd (false≢true some)

pub reserved_read : (name : List ℕ) (r : Option ℕ) → ReadsReserved name r → is_some r ≡ true → IsFileName name
reserved_read name (Some n) exact some = (n, inr ((exact n).0 refl))
reserved_read name None exact some = absurd (false≢true some)

pub one_is_read : (name : List ℕ) (r : Option FileId) (s : Option ℕ) → ReadsFile name r → ReadsReserved name s → is_some r ≡ false → IsFileName name → is_some s ≡ true
one_is_read name r s file reserved none (n, inl (queue, named)) =
    absurd (false≢true (sym none ∙ ap (λ (o : Option FileId). is_some o) ((file (record { queue = queue; seq = n })).1 named)))
one_is_read name r s file reserved none (n, inr named) = ap (λ (o : Option ℕ). is_some o) ((reserved n).1 named)

-- one of several paths more, and one of several names more
pub none_in_more : (paths : List (List ℕ)) (directory path : List ℕ) → (LiesInOne paths path → ⊥) → (LiesWithin directory path → ⊥) → LiesInOne (paths ++ directory ∷ []) path → ⊥
none_in_more paths directory path none not (d, there, within) = elim (Contains-append_cases paths (directory ∷ []) d there) [
  | inl before ↦ none (d, before, within)
  | inr last ↦ elim (first_or_later directory [] d last) [ inl same ↦ not (subst (λ (x : List ℕ). LiesWithin x path) (sym same) within) | inr nothing ↦ in_none d nothing ]
]

pub no_name_more : (names : List (List ℕ)) (name : List ℕ) → (HasFileName names → ⊥) → (IsFileName name → ⊥) → HasFileName (names ++ name ∷ []) → ⊥
no_name_more names name none not (n, there, is) = elim (Contains-append_cases names (name ∷ []) n there) [
  | inl before ↦ none (n, before, is)
  | inr last ↦ elim (first_or_later name [] n last) [ inl same ↦ not (subst IsFileName (sym same) is) | inr nothing ↦ in_none n nothing ]
]

-- what isn't behind a directory's path doesn't lie in it
pub not_within : (directory path : List ℕ) → ((rest : List ℕ) → path ≡ directory ++ rest → ⊥) → LiesWithin directory path → ⊥
not_within directory path none (inl same) = none [] (same ∙ sym (append-nil directory))
not_within directory path none (inr (rest, is)) = none (47 ∷ rest) is

-- what is listed
pub holds_listed : (directory : List ℕ) (d : Disk) (names : List (List ℕ)) → IsListing directory d names → HasFileName names → HoldsLogFile directory d
holds_listed directory d names listing (name, there, is) =
    record { home = listing.there; name = name; is = is; plain = (listing.listed name there).1; there = (listing.listed name there).0 }

pub listed_holds : (directory : List ℕ) (d : Disk) (names : List (List ℕ)) → IsListing directory d names → HoldsLogFile directory d → HasFileName names
listed_holds directory d names listing holds = (holds.name, listing.all holds.name holds.plain holds.there, holds.is)

no_directory : (directory : List ℕ) (d : Disk) (o : Option ℕ) → IsSound d → d.directories directory ≡ true → d.names directory ≡ o → (d.names directory ≡ None → ⊥) → ⊥
no_directory directory d None sound there is file = file is
no_directory directory d (Some id) sound there is file = false≢true (sym (sound.apart directory id is) ∙ there)

-- where no directory is, no file is in it
pub nothing_held : (directory : List ℕ) (d : Disk) (kind : ErrorKind) → IsSound d → d.stopped ≡ false → (kind ≡ OutOfMemory → ⊥) → IsNotListed directory d kind → HoldsLogFile directory d → ⊥
nothing_held directory d kind sound runs other (stopped stop tells) holds = false≢true (sym runs ∙ stop)
nothing_held directory d kind sound runs other (wrong_argument going (inl (is, named))) holds = no_directory directory d (d.names directory) sound holds.home refl named
nothing_held directory d kind sound runs other (wrong_argument going (inr (is, none, gone))) holds = false≢true (sym gone ∙ holds.home)
nothing_held directory d kind sound runs other (no_memory going is) holds = other is

-- what is told of a copy that something stands against
pub told : (s : Settings) (target : List ℕ) (d : Disk) (words : List ℕ) (error : Error) → TellsWords words error → ((text : List ℕ) → text ≡ words → Forbids s target d text) → IsForkRefusal s target d error
told s target d words (errors.InvalidArgument text) is why = why (string_bytes text) is
told s target d words errors.Memory is why = tt
told s target d words _ is why = absurd is

-- unsound settings
pub told_unsound : (s : Settings) (target : List ℕ) (d : Disk) (error : Error) → IsFree s target d → IsRefusedFor s error → IsForkRefusal s target d error
told_unsound s target d (errors.Other why) free is = (free, is)
told_unsound s target d errors.Memory free is = tt
told_unsound s target d _ free is = absurd is
