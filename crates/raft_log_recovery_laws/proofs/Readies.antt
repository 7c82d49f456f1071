-- Files for later use are readied beside the files that are taken as synced.
use Rattle.std.specs.declared.io.ErrorKind.{ErrorKind}
use Rattle.std.proofs.Common.{◌≡◌, ℕ, zero, suc, ◌*◌, ◌<◌, Bool, true, false, Option, Some, None, List, [], ◌∷◌, length, sym, ap, ◌∙◌, inl, inr, arith, nat_eq}
use Rattle.std.proofs.lemmas.Bool.{cases_Bool}
use Rattle.std.specs.Map.{update}
use Rattle.raft_log_fs.specs.Disk.{Change, Wrote, Disk, at_rest, with_file}
use Rattle.raft_log_fs.specs.Disk.{File as DiskFile}
use Rattle.raft_log_fs.specs.Arguments.{WrongWriter}
use Rattle.raft_log_fs.specs.Calls.{after_change, created, deleted, with_change, Changes, Creates, Deletes, RefusedChange, SomeOf}
use Rattle.raft_log_fs.specs.Calls.Refused.{after_stop, failed, stops, wrong_argument}
use Rattle.raft_log_fs.specs.Calls.SomeOf.{none as none_of, some as some_of}
use Rattle.raft_log_fs.specs.declared.handle.Handle.{Handle}
use Rattle.raft_log_active_file.specs.Layout.{path_of, FilePaths}
use Rattle.raft_log_active_file.specs.declared.format.File.{File}
use Rattle.raft_log_file_pipe.specs.Placing.{AllLackRoom, IsChosen}
use Rattle.raft_log_file_pipe.specs.Placing.IsChosen.{alone, first as first_room, none as no_room}
use Rattle.raft_log_recovery.specs.Dropping.{DropsEach, DropsOrNot}
use Rattle.raft_log_recovery.specs.Dropping.DropsOrNot.{dropped, refused}
use Rattle.raft_log_recovery.specs.Filling.{FillsOrNot, WritesPieces}
use Rattle.raft_log_recovery.specs.Making.{Makes, MakesEach}
use Rattle.raft_log_recovery.specs.Readying.{Readies}
use Rattle.raft_log_recovery_laws.proofs.Settling.{none_settled, rest_settled, settled_change, settled_if, settled_in, settled_refusal, settled_updates, settled_with}

-- each of these files is one that the file system has numbered
abbrev pub AreOld : (ℕ → Bool) → Disk → Type 0
AreOld E d = (id : ℕ) → E id ≡ true → id < d.unused

new_is_none : (E : ℕ → Bool) (d : Disk) (id : ℕ) → AreOld E d → id ≡ d.unused → E id ≡ false
new_is_none E d id old is = elim (cases_Bool (E id)) [ inl hit ↦ (let below = old id hit in absurd (omega (arith, below, is))) | inr miss ↦ miss ]

module _ (E : ℕ → Bool) where
  -- Writes to one that is none of these.

  unused_change : (id : ℕ) (next : DiskFile → DiskFile) (old new : Disk) → Changes id next old new → new.unused ≡ old.unused
  unused_change id next old new c = ap (λ (d : Disk). d.unused) c.done

  some_left : (id : ℕ) (change : Change) (old left : Disk) → SomeOf id change old left → left.unused ≡ old.unused
  some_left id change old left (none_of same) = ap (λ (d : Disk). d.unused) same
  some_left id change old left (some_of file content is part done) = ap (λ (d : Disk). d.unused) done

  unused_refused : (id : ℕ) (change : Change) (wrong : ErrorKind → Type 0) (error : ErrorKind) (old new : Disk) → RefusedChange id change wrong error old new → new.unused ≡ old.unused
  unused_refused id change wrong error old new (after_stop stopped same told) = ap (λ (d : Disk). d.unused) same
  unused_refused id change wrong error old new (wrong_argument runs is same) = ap (λ (d : Disk). d.unused) same
  unused_refused id change wrong error old new (failed runs right left part is) = ap (λ (d : Disk). d.unused) is ∙ some_left id change old left part
  unused_refused id change wrong error old new (stops runs told left what is) = ap (λ (d : Disk). d.unused) is ∙ elim what [
    | inl same ↦ ap (λ (d : Disk). d.unused) same
    | inr (right, which) ↦ elim which [ inl part ↦ some_left id change old left part | inr all ↦ unused_change id (after_change change) old left all ]
  ]

  settled_some : (id : ℕ) (change : Change) (old left : Disk) → E id ≡ false → SomeOf id change old left → SomeOf id change (settled_in E old) (settled_in E left)
  settled_some id change old left free (none_of same) = none_of (ap (settled_in E) same)
  settled_some id change old left free (some_of file content is part done) =
      some_of file content (ap (λ (b : Bool). settled_if b (old.files id)) free ∙ is) part
      (ap (settled_in E) done ∙ settled_with E id (Some (with_change change content file)) old
      ∙ ap (λ (b : Bool). with_file id (settled_if b (Some (with_change change content file))) (settled_in E old)) free)

  wrong_then : (handle : Handle) (d : Disk) (e : ErrorKind) → E handle.file ≡ false → WrongWriter handle d e → WrongWriter handle (settled_in E d) e
  wrong_then handle d e free (inl (told, gone)) = inl (told, ap (λ (b : Bool). settled_if b (d.files handle.file)) free ∙ gone)
  wrong_then handle d e free (inr read_only) = inr read_only

  wrong_before : (handle : Handle) (d : Disk) (e : ErrorKind) → E handle.file ≡ false → WrongWriter handle (settled_in E d) e → WrongWriter handle d e
  wrong_before handle d e free (inl (told, gone)) = inl (told, ap (λ (b : Bool). settled_if b (d.files handle.file)) (sym free) ∙ gone)
  wrong_before handle d e free (inr read_only) = inr read_only

  module _ (handle : Handle) (free : E handle.file ≡ false) (bytes : List ℕ) where
    pieces : (count : ℕ) (old new : Disk) → WritesPieces handle bytes count old new → WritesPieces handle bytes count (settled_in E old) (settled_in E new)
    pieces zero old new same = ap (settled_in E) same
    pieces (suc count) old new (mid, before, one) = (settled_in E mid, pieces count old mid before, settled_change E handle.file (after_change (Wrote (count * length bytes) bytes)) mid new free one)

    unused_pieces : (count : ℕ) (old new : Disk) → WritesPieces handle bytes count old new → new.unused ≡ old.unused
    unused_pieces zero old new same = ap (λ (d : Disk). d.unused) same
    unused_pieces (suc count) old new (mid, before, one) = unused_change handle.file (after_change (Wrote (count * length bytes) bytes)) mid new one ∙ unused_pieces count old mid before

    fills : (size : ℕ) (full : Bool) (old new : Disk) → FillsOrNot handle bytes size full old new → FillsOrNot handle bytes size full (settled_in E old) (settled_in E new)
    fills size full old new (inl (all, is)) = inl (pieces _ old new all, is)
    fills size full old new (inr (kind, some, is)) = inr (
      kind,
      record {
        count = some.count;
        short = some.short;
        between = settled_in E some.between;
        written = pieces some.count old some.between some.written;
        fails =
            (let change : Change = Wrote (some.count * length bytes) bytes in
            settled_refusal E kind some.between new (λ left part. settled_some handle.file change some.between left free part)
            (λ left done. settled_change E handle.file (after_change change) some.between left free done) (λ e w. wrong_then handle some.between e free w) (λ e w. wrong_before handle some.between e free w) some.fails);
      },
      is,
    )

    unused_fills : (size : ℕ) (full : Bool) (old new : Disk) → FillsOrNot handle bytes size full old new → new.unused ≡ old.unused
    unused_fills size full old new (inl (all, is)) = unused_pieces _ old new all
    unused_fills size full old new (inr (kind, some, is)) = unused_refused handle.file (Wrote (some.count * length bytes) bytes) (WrongWriter handle some.between) kind some.between new some.fails ∙ unused_pieces some.count old some.between some.written

  -- Files that are made and deleted.

  settled_create : (path : List ℕ) (id : ℕ) (old new : Disk) → Creates path id old new → Creates path id (settled_in E old) (settled_in E new)
  settled_create path id old new c = record {
    runs = c.runs;
    free = c.free;
    apart = c.apart;
    home = record { directory = c.home.directory; inside = c.home.inside; there = c.home.there };
    number = c.number;
    done =
        ap (settled_in E) c.done
        ∙ ap (λ (x : ℕ → Option DiskFile). record (created path old) { files = x })
        (settled_updates E old.files old.unused (Some (at_rest [])) ∙ ap (λ (o : Option DiskFile). update nat_eq (settled_in E old).files old.unused o) (rest_settled (E old.unused) []));
  }

  settled_delete : (path : List ℕ) (old new : Disk) → Deletes path old new → Deletes path (settled_in E old) (settled_in E new)
  settled_delete path old new c = record {
    runs = c.runs;
    id = c.id;
    is = c.is;
    done =
        ap (settled_in E) c.done
        ∙ ap (λ (x : ℕ → Option DiskFile). record (deleted path c.id old) { files = x })
        (settled_updates E old.files c.id None ∙ ap (λ (o : Option DiskFile). update nat_eq (settled_in E old).files c.id o) (none_settled (E c.id)));
  }

  drops_or_not : (paths : FilePaths) (file : File) (old new : Disk) → DropsOrNot paths file old new → DropsOrNot paths file (settled_in E old) (settled_in E new)
  drops_or_not paths file old new (dropped done) = dropped (settled_delete (path_of paths file) old new done)
  drops_or_not paths file old new (refused kind fails) =
      refused kind (settled_refusal E kind old new (λ left same. ap (settled_in E) same) (λ left done. settled_delete (path_of paths file) old left done) (λ e w. w) (λ e w. w) fails)

  drops_each : (paths : FilePaths) (files : List File) (old new : Disk) → DropsEach paths files old new → DropsEach paths files (settled_in E old) (settled_in E new)
  drops_each paths [] old new same = ap (settled_in E) same
  drops_each paths (file ∷ files) old new (mid, one, rest) = (settled_in E mid, drops_or_not paths file old mid one, drops_each paths files mid new rest)

  -- Where they are made.

  all_lack : (tells : List ℕ → ℕ → Type 0) (d : Disk) (size : ℕ) (directories : List (List ℕ)) → AllLackRoom tells d size directories → AllLackRoom tells (settled_in E d) size directories
  all_lack tells d size [] none = none
  all_lack tells d size (x ∷ xs) (one, rest) = (one, all_lack tells d size xs rest)

  chosen : (tells : List ℕ → ℕ → Type 0) (d : Disk) (size : ℕ) (directories : List (List ℕ)) (place : ℕ) → IsChosen tells d size directories place → IsChosen tells (settled_in E d) size directories place
  chosen tells d size directories place (alone one is) = alone one is
  chosen tells d size directories place (first_room before directory behind split is lack room) = first_room before directory behind split is (all_lack tells d size before lack) room
  chosen tells d size directories place (no_room lack is) = no_room (all_lack tells d size directories lack) is

  module _ {S : Type 0} (disk : S → Disk) (tells : S → List ℕ → ℕ → Type 0) where
    abbrev settled_disk : S → Disk
    settled_disk s = settled_in E (disk s)

    made_free : (paths : FilePaths) (bytes : List ℕ) (size seq : ℕ) (file : File) (full : Bool) (old new : S) → AreOld E (disk old) → Makes disk tells paths bytes size seq file full old new → E file.handle.file ≡ false
    made_free paths bytes size seq file full old new are m = new_is_none E (disk old) file.handle.file are m.creates.number

    makes : (paths : FilePaths) (bytes : List ℕ) (size seq : ℕ) (file : File) (full : Bool) (old new : S) → AreOld E (disk old) → Makes disk tells paths bytes size seq file full old new → Makes settled_disk tells paths bytes size seq file full old new
    makes paths bytes size seq file full old new are m = record {
      number = m.number;
      small = m.small;
      reserved = m.reserved;
      format = m.format;
      permitted = m.permitted;
      placed = chosen (tells old) (disk old) size paths.directories file.path_id m.placed;
      created = settled_in E m.created;
      creates = settled_create (path_of paths file) file.handle.file (disk old) m.created m.creates;
      fills = fills file.handle (made_free paths bytes size seq file full old new are m) bytes size full m.created (disk new) m.fills;
    }

    old_then : (paths : FilePaths) (bytes : List ℕ) (size seq : ℕ) (file : File) (full : Bool) (old new : S) → AreOld E (disk old) → Makes disk tells paths bytes size seq file full old new → AreOld E (disk new)
    old_then paths bytes size seq file full old new are m id hit =
        let below = are id hit in
        let same = unused_fills file.handle (made_free paths bytes size seq file full old new are m) bytes size full m.created (disk new) m.fills in
        let more : m.created.unused ≡ suc (disk old).unused = ap (λ (d : Disk). d.unused) m.creates.done in
        omega (arith, below, same, more)

    makes_each : (paths : FilePaths) (bytes : List ℕ) (size seq : ℕ) (files : List File) (full : Bool) (old new : S) → AreOld E (disk old) → MakesEach disk tells paths bytes size seq files full old new → MakesEach settled_disk tells paths bytes size seq files full old new
    makes_each paths bytes size seq [] full old new are done = done
    makes_each paths bytes size seq (file ∷ files) full old new are (one, others, mid, first, rest, is) =
        (one, others, mid, makes paths bytes size seq file one old mid are first, makes_each paths bytes size (suc seq) files others mid new (old_then paths bytes size seq file one old mid are first) rest, is)

    pub settled_readies : (paths : FilePaths) (size wanted : ℕ) (files kept : List File) (old new : S) → AreOld E (disk old) → Readies disk tells paths size wanted files kept old new → Readies settled_disk tells paths size wanted files kept old new
    settled_readies paths size wanted files kept old new are r =
        let m = r.makes in
        record {
          all = r.all;
          full = r.full;
          between = r.between;
          makes = record { made = m.made; count = m.count; all_is = m.all_is; makes = makes_each paths _ size _ m.made r.full old r.between are m.makes };
          kept_is = r.kept_is;
          drops = drops_each paths _ (disk r.between) (disk new) r.drops;
        }
