-- Files that are kept for use keep their names through the calls of an open.
use Rattle.std.specs.Prelude.{Result, Err}
use Rattle.std.specs.Map.{update}
use Rattle.std.specs.Str.{bytes_eq}
use Rattle.std.specs.declared.io.ErrorKind.{ErrorKind}
use Rattle.std.proofs.Common.{◌≡◌, ℕ, suc, ◌<◌, Bool, true, false, Some, None, List, [], ◌∷◌, length, refl, sym, ap, subst, ◌∙◌, arith}
use Rattle.raft_log_record_base.specs.declared.pipe_log.LogQueue.TheVariants.{Append}
use Rattle.raft_log_fs.specs.Arguments.{WrongName}
use Rattle.raft_log_fs.specs.Disk.{Disk, zeros}
use Rattle.raft_log_fs.proofs.Public.{kept_delete, name_apart, name_here}
use Rattle.raft_log_active_file.specs.Standing.{Names}
use Rattle.raft_log_active_file.specs.Layout.{path_of}
use Rattle.raft_log_active_file.specs.declared.format.File.{File}
use Rattle.raft_log_engine_laws.specs.raft_log_active_file.specs.QueueFiles.{log_paths}
use Rattle.raft_log_recovery_read.specs.declared.file_ending.FileEnding.{FileEnding}
use Rattle.raft_log_recovery.specs.Cutting.{CutsEach, CutsIf}
use Rattle.raft_log_recovery.specs.Syncing.{SyncsEach}
use Rattle.raft_log_recovery.specs.Dropping.{DropsEach, DropsOrNot}
use Rattle.raft_log_recovery.specs.Dropping.DropsOrNot.{dropped, refused}
use Rattle.raft_log_recovery.specs.Making.{Makes, MakesEach}
use Rattle.raft_log_engine_laws.specs.raft_log_block_cache.specs.Stored.{Each}
use Rattle.raft_log_recovery_laws.proofs.LastCut.{trims_touch}
use Rattle.raft_log_recovery_laws.proofs.Readying.{fill_leaves}
use Rattle.raft_log_recovery_laws.proofs.SpareLists.{each_weaker, AreRising, IsSpareOn}

-- Calls that leave all names.

cut_names : (damaged : Bool) (f : File) (e : FileEnding) (old new : Disk) → CutsIf damaged f e old new → new.names ≡ old.names
cut_names false f e old new same = ap (λ (d : Disk). d.names) same
cut_names true f e old new trims = (let only = trims_touch f.handle _ old new trims in only.names)

pub cuts_names : (files : List File) (endings : List FileEnding) (old new : Disk) → CutsEach files endings old new → new.names ≡ old.names
cuts_names [] endings old new same = ap (λ (d : Disk). d.names) same
cuts_names (f ∷ files) [] old new same = ap (λ (d : Disk). d.names) same
cuts_names (f ∷ files) (e ∷ endings) old new (mid, one, rest) = cuts_names files endings mid new rest ∙ cut_names e.is_damaged f e old mid one

pub syncs_names : (files : List File) (old new : Disk) → SyncsEach files old new → new.names ≡ old.names
syncs_names [] old new same = ap (λ (d : Disk). d.names) same
syncs_names (f ∷ files) old new (mid, one, rest) = syncs_names files mid new rest ∙ ap (λ (d : Disk). d.names) one.done

none_is_some : (id : ℕ) → None ≡ Some id → ⊥
none_is_some id e = absurd (cc)

-- Calls on other files that are kept for use.
module _ (directories : List (List ℕ)) (some : 0 < length directories) where
  abbrev Spare : Disk → File → Type 0
  Spare d f = IsSpareOn directories some d f

  abbrev path_at : File → List ℕ
  path_at f = path_of (log_paths Append directories) f

  pub spare_kept : (old new : Disk) (f : File) → new.names (path_at f) ≡ old.names (path_at f) → Spare old f → Spare new f
  spare_kept old new f same is = record { reserved = is.reserved; small = is.small; named = same ∙ is.named }

  -- so are all, where no name changed
  pub spares_named : (old new : Disk) (files : List File) → new.names ≡ old.names → Each (Spare old) files → Each (Spare new) files
  spares_named old new files names spares = each_weaker (Spare old) (Spare new) files (λ f is. spare_kept old new f (ap (λ (N : Names). N (path_at f)) names) is) spares

  module _ {S : Type 0} (disk : S → Disk) (tells : S → List ℕ → ℕ → Type 0) (size : ℕ) where
    -- One file is made and filled.
    module _ (to seq : ℕ) (file : File) (full : Bool) (old new : S) (makes : Makes disk tells (log_paths Append directories) (zeros size) to seq file full old new) where
      names : (disk new).names ≡ update bytes_eq (disk old).names (path_at file) (Some (disk old).unused)
      names = (fill_leaves file.handle (zeros size) to full makes.created (disk new) makes.fills).touches.names ∙ ap (λ (d : Disk). d.names) makes.creates.done

      pub one_made : Spare (disk new) file
      one_made = record {
        reserved = makes.reserved;
        small = omega (arith, makes.small, makes.number);
        named = ap (λ (N : Names). N (path_at file)) names ∙ name_here (disk old).names (path_at file) (Some (disk old).unused) ∙ ap Some (sym makes.creates.number);
      }

      -- the others are as they were
      other_kept : (f : File) → Spare (disk old) f → Spare (disk new) f
      other_kept f is =
          let apart : path_at f ≡ path_at file → ⊥ = λ same. none_is_some f.handle.file (sym makes.creates.free ∙ ap (disk old).names (sym same) ∙ is.named) in
          spare_kept (disk old) (disk new) f (ap (λ (N : Names). N (path_at f)) names ∙ name_apart (disk old).names (path_at file) (Some (disk old).unused) (path_at f) apart) is

    -- So are some.
    pub record MakesSpares (made : List File) (old new : S) : Type 0 where
      pub all : Each (Spare (disk new)) made
      pub others : (f : File) → Spare (disk old) f → Spare (disk new) f

    pub makes_spares : (to seq : ℕ) (made : List File) (full : Bool) (old new : S) → MakesEach disk tells (log_paths Append directories) (zeros size) to seq made full old new → MakesSpares made old new
    makes_spares to seq [] full old new (is, same) = record {
      all = tt;
      others = λ f spare. subst (λ (s : S). Spare (disk s) f) (sym same) spare;
    }
    makes_spares to seq (file ∷ made) full old new (one, others, mid, makes, more, is) =
        let rest = makes_spares to (suc seq) made others mid new more in
        record {
          all = (rest.others file (one_made to seq file one old mid makes), rest.all);
          others = λ f spare. rest.others f (other_kept to seq file one old mid makes f spare);
        }

    pub made_rise : (to seq : ℕ) (made : List File) (full : Bool) (old new : S) → MakesEach disk tells (log_paths Append directories) (zeros size) to seq made full old new → AreRising seq made
    made_rise to seq [] full old new makes = tt
    made_rise to seq (file ∷ made) full old new (one, others, mid, makes, more, is) =
        let number = makes.number in
        (omega (arith, number), subst (λ (n : ℕ). AreRising (suc n) made) (sym number) (made_rise to (suc seq) made others mid new more))

  -- Some are deleted, or not.
  drop_keeps : (path : List ℕ) (file : File) (old new : Disk) → (path_at file ≡ path → ⊥) → DropsOrNot (log_paths Append directories) file old new → new.names path ≡ old.names path
  drop_keeps path file old new apart (dropped deletes) = ap (λ (d : Disk). d.names path) deletes.done ∙ name_apart old.names (path_at file) None path (λ same. apart (sym same))
  drop_keeps path file old new apart (refused kind fails) =
      let result : Result (Unit {0}) ErrorKind = Err kind in
      kept_delete (λ d. d.names path ≡ old.names path) (WrongName (path_at file) old) result (path_at file) (record { at_count = λ d is. is; at_end = λ d is. is }) refl
      (λ id is. name_apart old.names (path_at file) None path (λ same. apart (sym same))) tt fails

  pub drops_keep : (path : List ℕ) (files : List File) (old new : Disk) → Each (λ (g : File). path_at g ≡ path → ⊥) files → DropsEach (log_paths Append directories) files old new → new.names path ≡ old.names path
  drops_keep path [] old new none same = ap (λ (d : Disk). d.names path) same
  drops_keep path (file ∷ files) old new (apart, none) (mid, one, rest) = drops_keep path files mid new none rest ∙ drop_keeps path file old mid apart one
