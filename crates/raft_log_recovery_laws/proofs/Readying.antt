-- Files that are made, filled and deleted under reserved names leave the files of a queue as they are.
use Rattle.std.specs.Prelude.{Result, Ok, Err}
use Rattle.std.specs.declared.io.ErrorKind.{ErrorKind}
use Rattle.std.proofs.Common.{◌≡◌, ℕ, zero, suc, ◌*◌, ◌<◌, Bool, true, Some, List, [], ◌∷◌, ◌++◌, drop, length, reverse, sym, ap, subst, ◌∙◌, inl, inr}
use Rattle.std.proofs.lemmas.List.{reverse-append}
use Rattle.raft_log_record_base.specs.declared.errors.Error.{Error}
use Rattle.raft_log_record_base.specs.declared.errors.Error.TheVariants as errors
use Rattle.raft_log_fs.specs.Disk.{Change, Wrote, Disk, with_file, File as DiskFile}
use Rattle.raft_log_fs.specs.Calls.{after_change, with_change, Changes, RefusedChange}
use Rattle.raft_log_fs.specs.Arguments.{WrongCreate, WrongName, WrongWriter}
use Rattle.raft_log_file_writer.specs.LogFormat.{Format}
use Rattle.raft_log_fs.specs.Touching.{TouchesOnly}
use Rattle.raft_log_fs.specs.declared.handle.Handle.{Handle}
use Rattle.raft_log_fs.proofs.Public.{kept_change, name_here, touches_change, touches_same, touches_then, IsCalm}
use Rattle.raft_log_active_file.specs.Layout.{path_of, FilePaths}
use Rattle.raft_log_active_file.specs.declared.format.File.{File}
use Rattle.raft_log_file_pipe.proofs.Public.{path_reserved}
use Rattle.raft_log_recovery.specs.Dropping.{DropsEach, DropsOrNot, FailsToDropEach}
use Rattle.raft_log_recovery.specs.Dropping.DropsOrNot.{dropped, refused}
use Rattle.raft_log_recovery.specs.Filling.{FillsOrNot, WritesPieces}
use Rattle.raft_log_recovery.specs.Making.{FailsToMake, Makes, MakesEach}
use Rattle.raft_log_recovery.specs.Readying.{kept_of, FailsToReady, MakesMissing, Readies}
use Rattle.raft_log_engine_laws.specs.raft_log_block_cache.specs.Stored.{Each}
use Rattle.raft_log_recovery_laws.specs.Keeping.{KeepsNumbered}
use Rattle.raft_log_recovery_laws.proofs.Keeping.{keeps_then}
use Rattle.raft_log_recovery_laws.proofs.Calls.{create_keeps, create_names, delete_keeps, delete_names, keeps_all, keeps_touched, no_create_keeps, no_create_names, no_delete_keeps, no_delete_names, AreSoundNames}

-- the file has a reserved name
abbrev pub IsReserved : File → Type 0
IsReserved file = file.reserved ≡ true

-- Writes.

names_calm : IsCalm AreSoundNames
names_calm = record { at_count = λ d is. record { one = is.one; used = is.used }; at_end = λ d is. record { one = is.one; used = is.used } }

written_names : (d : Disk) (id : ℕ) (file : DiskFile) → AreSoundNames d → AreSoundNames (with_file id (Some file) d)
written_names d id file is = record { one = is.one; used = is.used }

-- what writes to a file leave
pub record Writes (id : ℕ) (old new : Disk) : Type 0 where
  pub touches : TouchesOnly id old new
  pub names : AreSoundNames old → AreSoundNames new

write_leaves : (handle : Handle) (change : Change) (old new : Disk) → Changes handle.file (after_change change) old new → Writes handle.file old new
write_leaves handle change old new done =
    let result : Result (Unit {0}) ErrorKind = Ok tt in
    record {
      touches = touches_change (WrongWriter handle old) result handle.file change done tt;
      names = λ is. kept_change AreSoundNames (WrongWriter handle old) result handle.file change names_calm is (λ file content at part. written_names old handle.file (with_change change content file) is) done tt;
    }

no_write_leaves : (handle : Handle) (change : Change) (kind : ErrorKind) (old new : Disk) → RefusedChange handle.file change (WrongWriter handle old) kind old new → Writes handle.file old new
no_write_leaves handle change kind old new fails =
    let result : Result (Unit {0}) ErrorKind = Err kind in
    record {
      touches = touches_change (WrongWriter handle old) result handle.file change tt fails;
      names = λ is. kept_change AreSoundNames (WrongWriter handle old) result handle.file change names_calm is (λ file content at part. written_names old handle.file (with_change change content file) is) tt fails;
    }

no_writes : (id : ℕ) (d : Disk) → Writes id d d
no_writes id d = record { touches = touches_same id d; names = λ is. is }

writes_then : (id : ℕ) (a b c : Disk) → Writes id a b → Writes id b c → Writes id a c
writes_then id a b c first next = record { touches = touches_then id a b c first.touches next.touches; names = λ is. next.names (first.names is) }

pieces_leave : (handle : Handle) (bytes : List ℕ) (count : ℕ) (old new : Disk) → WritesPieces handle bytes count old new → Writes handle.file old new
pieces_leave handle bytes zero old new same = subst (Writes handle.file old) (sym same) (no_writes handle.file old)
pieces_leave handle bytes (suc count) old new (mid, before, one) = writes_then handle.file old mid new (pieces_leave handle bytes count old mid before) (write_leaves handle (Wrote (count * length bytes) bytes) mid new one)

pub fill_leaves : (handle : Handle) (bytes : List ℕ) (size : ℕ) (full : Bool) (old new : Disk) → FillsOrNot handle bytes size full old new → Writes handle.file old new
fill_leaves handle bytes size full old new (inl (fills, is)) = pieces_leave handle bytes _ old new fills
fill_leaves handle bytes size full old new (inr (kind, fails, is)) =
    writes_then handle.file old fails.between new (pieces_leave handle bytes fails.count old fails.between fails.written) (no_write_leaves handle (Wrote (fails.count * length bytes) bytes) kind fails.between new fails.fails)

-- Lists.

pub each_append : {A : Type 0} (P : A → Type 0) (xs ys : List A) → Each P xs → Each P ys → Each P (xs ++ ys)
each_append P [] ys first rest = rest
each_append P (x ∷ xs) ys (one, first) rest = (one, each_append P xs ys first rest)

each_front : {A : Type 0} (P : A → Type 0) (xs ys : List A) → Each P (xs ++ ys) → Each P xs
each_front P [] ys each = tt
each_front P (x ∷ xs) ys (one, each) = (one, each_front P xs ys each)

each_drop : {A : Type 0} (P : A → Type 0) (k : ℕ) (xs : List A) → Each P xs → Each P (drop k xs)
each_drop P zero xs each = each
each_drop P (suc k) [] each = tt
each_drop P (suc k) (x ∷ xs) (one, each) = each_drop P k xs each

pub each_reverse : {A : Type 0} (P : A → Type 0) (xs : List A) → Each P xs → Each P (reverse xs)
each_reverse P [] each = tt
each_reverse P (x ∷ xs) (one, each) = subst (Each P) (sym (reverse-append (x ∷ []) xs)) (each_append P (reverse xs) (x ∷ []) (each_reverse P xs each) (one, tt))

module _ {R : Type 0} (F : Format R) (paths : FilePaths) (never : (directory n m : ℕ) → m < F.limit → F.IsPath m (paths.reserved directory n) → ⊥) where
  -- the files of the queue are as they were, and no file has two names
  pub record Leaves (old new : Disk) : Type 0 where
    pub keeps : KeepsNumbered F old new
    pub names : AreSoundNames new

  leaves_all : (old new : Disk) → AreSoundNames old → new ≡ old → Leaves old new
  leaves_all old new sound same = subst (Leaves old) (sym same) (record { keeps = keeps_all F old; names = sound })

  leaves_then : (a b c : Disk) → Leaves a b → Leaves b c → Leaves a c
  leaves_then a b c first next = record { keeps = keeps_then F a b c first.keeps next.keeps; names = next.names }

  no_number : (file : File) → IsReserved file → (m : ℕ) → m < F.limit → F.IsPath m (path_of paths file) → ⊥
  no_number file reserved m less at = never file.path_id file.seq m less (subst (F.IsPath m) (path_reserved paths file reserved) at)

  module _ {S : Type 0} (disk : S → Disk) (tells : S → List ℕ → ℕ → Type 0) where
    makes_leave : (bytes : List ℕ) (size seq : ℕ) (file : File) (full : Bool) (old new : S) → AreSoundNames (disk old) → Makes disk tells paths bytes size seq file full old new → Leaves (disk old) (disk new)
    makes_leave bytes size seq file full old new sound makes =
        let path = path_of paths file in
        let there = create_names (disk old) makes.created path file.handle.file sound makes.creates in
        let fills = fill_leaves file.handle bytes size full makes.created (disk new) makes.fills in
        let named : makes.created.names path ≡ Some file.handle.file =
        ap (λ (d : Disk). d.names path) makes.creates.done ∙ name_here (disk old).names path (Some (disk old).unused) ∙ ap Some (sym makes.creates.number) in
        record {
          keeps = keeps_then F (disk old) makes.created (disk new) (create_keeps F (disk old) makes.created path file.handle.file sound (no_number file makes.reserved) makes.creates)
              (keeps_touched F makes.created (disk new) file.handle.file fills.touches (λ m other less at is. no_number file makes.reserved m less (subst (F.IsPath m) (there.one other path file.handle.file is named) at)));
          names = fills.names there;
        }

    each_made : (bytes : List ℕ) (size seq : ℕ) (files : List File) (full : Bool) (old new : S) → AreSoundNames (disk old) → MakesEach disk tells paths bytes size seq files full old new → Leaves (disk old) (disk new)
    each_made bytes size seq [] full old new sound (is, same) = leaves_all (disk old) (disk new) sound (ap disk same)
    each_made bytes size seq (file ∷ files) full old new sound (one, others, mid, makes, more, is) =
        let first = makes_leave bytes size seq file one old mid sound makes in
        leaves_then (disk old) (disk mid) (disk new) first (each_made bytes size (suc seq) files others mid new first.names more)

    made_reserved : (bytes : List ℕ) (size seq : ℕ) (files : List File) (full : Bool) (old new : S) → MakesEach disk tells paths bytes size seq files full old new → Each IsReserved files
    made_reserved bytes size seq [] full old new makes = tt
    made_reserved bytes size seq (file ∷ files) full old new (one, others, mid, makes, more, is) = (makes.reserved, made_reserved bytes size (suc seq) files others mid new more)

  drop_leaves : (file : File) (old new : Disk) → IsReserved file → AreSoundNames old → DropsOrNot paths file old new → Leaves old new
  drop_leaves file old new reserved sound (dropped deletes) = record {
    keeps = delete_keeps F old new (path_of paths file) sound (no_number file reserved) deletes;
    names = delete_names old new (path_of paths file) sound deletes;
  }
  drop_leaves file old new reserved sound (refused kind fails) = record {
    keeps = no_delete_keeps F old new (path_of paths file) (WrongName (path_of paths file) old) kind sound (no_number file reserved) fails;
    names = no_delete_names old new (path_of paths file) (WrongName (path_of paths file) old) kind sound fails;
  }

  drops_leave : (files : List File) (old new : Disk) → Each IsReserved files → AreSoundNames old → DropsEach paths files old new → Leaves old new
  drops_leave [] old new reserved sound same = leaves_all old new sound same
  drops_leave (file ∷ files) old new (one, more) sound (mid, drops, others) =
      let first = drop_leaves file old mid one sound drops in
      leaves_then old mid new first (drops_leave files mid new more first.names others)

  -- files before one that has no name to be deleted by
  undropped_leave : (files : List File) (error : Error) (old new : Disk) → Each IsReserved files → AreSoundNames old → FailsToDropEach paths files error old new → Leaves old new
  undropped_leave files error old new reserved sound fails =
      drops_leave fails.before old new (each_front IsReserved fails.before (fails.file ∷ fails.behind) (subst (Each IsReserved) fails.files_are reserved)) sound fails.drops

  module _ {S : Type 0} (disk : S → Disk) (tells : S → List ℕ → ℕ → Type 0) where
    -- those past what is kept, from the newest on
    abbrev surplus : (full : Bool) (wanted : ℕ) (all : List File) → List File
    surplus full wanted all = reverse (drop (kept_of full wanted) all)

    surplus_reserved : (size wanted : ℕ) (files all : List File) (full : Bool) (old new : S) → Each IsReserved files → MakesMissing disk tells paths size wanted files all full old new
        → Each IsReserved (surplus full wanted all)
    surplus_reserved size wanted files all full old new reserved m =
        let each : Each IsReserved all = subst (Each IsReserved) (sym m.all_is) (each_append IsReserved files m.made reserved (made_reserved disk tells _ size _ m.made full old new m.makes)) in
        each_reverse IsReserved (drop (kept_of full wanted) all) (each_drop IsReserved (kept_of full wanted) all each)

    -- files were readied
    pub readies_leave : (size wanted : ℕ) (files kept : List File) (old new : S) → Each IsReserved files → AreSoundNames (disk old) → Readies disk tells paths size wanted files kept old new → Leaves (disk old) (disk new)
    readies_leave size wanted files kept old new reserved sound readies =
        let m = readies.makes in
        let made = each_made disk tells _ size _ m.made readies.full old readies.between sound m.makes in
        leaves_then (disk old) (disk readies.between) (disk new) made
        (drops_leave (surplus readies.full wanted readies.all) (disk readies.between) (disk new) (surplus_reserved size wanted files readies.all readies.full old readies.between reserved m) made.names readies.drops)

    unmade_leaves : (size seq : ℕ) (error : Error) (old new : S) → AreSoundNames (disk old) → FailsToMake disk tells paths size seq error old new → Leaves (disk old) (disk new)
    unmade_leaves size seq errors.Memory old new sound same = leaves_all (disk old) (disk new) sound same
    unmade_leaves size seq errors.NumberRange old new sound (above, same) = leaves_all (disk old) (disk new) sound same
    unmade_leaves size seq (errors.Io kind) old new sound (small, (directory, chosen, fails)) = record {
      keeps = no_create_keeps F (disk old) (disk new) (paths.reserved directory seq) (WrongCreate (paths.reserved directory seq) (disk old)) kind sound (λ m less at. never directory seq m less at) fails;
      names = no_create_names (disk old) (disk new) (paths.reserved directory seq) (WrongCreate (paths.reserved directory seq) (disk old)) kind sound fails;
    }
    unmade_leaves size seq _ old new sound fails = absurd fails

    -- or they weren't
    pub unreadied_leaves : (size wanted : ℕ) (files : List File) (error : Error) (old new : S) → Each IsReserved files → AreSoundNames (disk old) → FailsToReady disk tells paths size wanted files error old new → Leaves (disk old) (disk new)
    unreadied_leaves size wanted files error old new reserved sound (inl fails) =
        let first = each_made disk tells _ size _ fails.made fails.full old fails.between sound fails.makes in
        leaves_then (disk old) (disk fails.between) (disk new) first (unmade_leaves size _ error fails.between new first.names fails.fails)
    unreadied_leaves size wanted files error old new reserved sound (inr fails) =
        let m = fails.makes in
        let made = each_made disk tells _ size _ m.made fails.full old fails.between sound m.makes in
        leaves_then (disk old) (disk fails.between) (disk new) made
        (undropped_leave (surplus fails.full wanted fails.all) error (disk fails.between) (disk new) (surplus_reserved size wanted files fails.all fails.full old fails.between reserved m) made.names fails.fails)
