-- A file is made, and gets the path of another one.
use Rattle.std.specs.Prelude.{◌⊎◌, Ok, Err}
use Rattle.std.proofs.Common.{◌≡◌, ℕ, suc, true, Option, Some, List, [], ◌∷◌, refl, sym, ◌∙◌, ap, subst, inl, inr}
use Rattle.std.specs.declared.io.ErrorKind.{ErrorKind}
use Rattle.raft_log_fs.specs.Disk.{Disk, File, Wrote, at_rest, overwritten}
use Rattle.raft_log_fs.specs.Image.{IsSound}
use Rattle.raft_log_fs.specs.Arguments.{WrongCreate, WrongHandle, WrongRename, WrongWriter}
use Rattle.raft_log_fs.specs.Calls.{Changes, Creates, Renames, after_change, created, flushed, renamed}
use Rattle.raft_log_fs.specs.Exits.{FailsToCreate, FailsToRename, FailsToSync, FailsToWrite}
use Rattle.raft_log_fs.specs.Touching.{TouchesOnly, TouchesOnlyNames}
use Rattle.raft_log_fs.specs.declared.handle.Handle.{Handle}
use Rattle.raft_log_fs.proofs.Public.{file_here, has_done, kept_rename, name_here, names_create, names_file, names_rename, names_then, overwritten_at_end, renaming_leaves, touches_change, touches_sync, IsCalm}
use Rattle.raft_log_open.specs.Replacing.{FailsToMake, FailsToReplace, IsAtRest, IsEither, MakesFile, Replaces, StaysAt, not_created, not_written, not_synced, unmade, unnamed}

-- what touches one path touches no more than one of two
pub wider : (temporary path : List ℕ) (old new : Disk) → TouchesOnlyNames (λ other. other ≡ temporary) old new → TouchesOnlyNames (IsEither temporary path) old new
wider temporary path old new only = record {
  directories = only.directories;
  names = λ q other. only.names q (λ same. other (inl same));
  files = λ q id other at. only.files q id (λ same. other (inl same)) at;
}

-- and leaves another path alone
pub left_alone : (temporary path : List ℕ) (old new : Disk) → (path ≡ temporary → ⊥) → TouchesOnlyNames (λ other. other ≡ temporary) old new → StaysAt path old new
left_alone temporary path old new apart only = record { named = only.names path apart; file = λ id at. only.files path id apart at }

-- A new file.

begun_named : (path : List ℕ) (id : ℕ) (old begun : Disk) → Creates path id old begun → begun.names path ≡ Some id
begun_named path id old begun creates =
    ap (λ (d : Disk). d.names path) creates.done ∙ name_here old.names path (Some old.unused) ∙ ap (λ (n : ℕ). Some n) (sym creates.number)

touched_first : (path : List ℕ) (id : ℕ) (old begun : Disk) → IsSound old → Creates path id old begun → TouchesOnlyNames (λ other. other ≡ path) old begun
touched_first path id old begun sound creates = names_create (λ other. other ≡ path) {T = ℕ} (λ n. n) (λ kind. ⊥) (Ok id) path sound refl creates tt

-- a change of the new file's bytes
touched_next : (path : List ℕ) (id : ℕ) (old begun new : Disk) → IsSound old → IsSound begun → Creates path id old begun → TouchesOnly id begun new → TouchesOnlyNames (λ other. other ≡ path) old new
touched_next path id old begun new sound sound_begun creates only =
    let own : List ℕ → Type 0 = λ other. other ≡ path in
    names_then own old begun new (touched_first path id old begun sound creates) (names_file own begun new path id sound_begun refl (begun_named path id old begun creates) only)

touches_both : (id : ℕ) (a b c : Disk) → TouchesOnly id a b → TouchesOnly id b c → TouchesOnly id a c
touches_both id a b c first next = record {
  names = next.names ∙ first.names;
  directories = next.directories ∙ first.directories;
  others = λ other apart. next.others other apart ∙ first.others other apart;
}

-- the file that was made, written and synced has the bytes
saved : (path : List ℕ) (id : ℕ) (bytes : List ℕ) (old begun written new : Disk) → Creates path id old begun → Changes id (after_change (Wrote 0 bytes)) begun written
    → Changes id flushed written new → new.files id ≡ Some (at_rest bytes)
saved path id bytes old begun written new creates writes syncs =
    let here : begun.files id ≡ Some (at_rest []) =
    ap (λ (d : Disk). d.files id) creates.done ∙ ap (λ (n : ℕ). (created path old).files n) creates.number ∙ file_here old.files old.unused (Some (at_rest [])) in
    let first = has_done id (λ file. file ≡ at_rest []) (λ file. file.content ≡ bytes) (after_change (Wrote 0 bytes)) begun written
    (record { file = at_rest []; is = here; has = refl }) writes (λ file is. ap (λ (f : File). overwritten 0 bytes f.content) is ∙ overwritten_at_end bytes []) in
    let last = has_done id (λ file. file.content ≡ bytes) (λ file. file ≡ at_rest bytes) flushed written new first syncs (λ file is. ap at_rest is) in
    last.is ∙ ap Some last.has

pub made_file : (path : List ℕ) (id : ℕ) (bytes : List ℕ) (old begun written new : Disk) → IsSound old → IsSound begun
    → Creates path id old begun → Changes id (after_change (Wrote 0 bytes)) begun written → Changes id flushed written new → MakesFile path bytes old new
made_file path id bytes old begun written new sound sound_begun creates writes syncs =
    let wrote = touches_change {T = ℕ} (λ kind. ⊥) (Ok 0) id (Wrote 0 bytes) writes tt in
    let synced = touches_sync {T = ℕ} (λ kind. ⊥) (Ok 0) id syncs tt in
    let both = touches_both id begun written new wrote synced in
    record {
      made = record {
        id = id;
        named = ap (λ (f : List ℕ → Option ℕ). f path) both.names ∙ begun_named path id old begun creates;
        file = record { file = at_rest bytes; is = saved path id bytes old begun written new creates writes syncs; has = refl };
      };
      others = touched_next path id old begun new sound sound_begun creates both;
    }

pub uncreated : (path bytes : List ℕ) (kind : ErrorKind) (old new : Disk) → IsSound old → FailsToCreate path kind old new → FailsToMake path bytes kind old new
uncreated path bytes kind old new sound refused = record {
  others = names_create (λ other. other ≡ path) {T = ℕ} (λ n. n) (WrongCreate path old) (Err kind) path sound refl tt refused;
  told = not_created refused;
}

pub unwritten : (path bytes : List ℕ) (handle : Handle) (kind : ErrorKind) (old begun new : Disk) → IsSound old → IsSound begun → Creates path handle.file old begun
    → FailsToWrite handle 0 bytes kind begun new → FailsToMake path bytes kind old new
unwritten path bytes handle kind old begun new sound sound_begun creates refused = record {
  others = touched_next path handle.file old begun new sound sound_begun creates (touches_change {T = ℕ} (WrongWriter handle begun) (Err kind) handle.file (Wrote 0 bytes) tt refused);
  told = not_written handle begun creates refused;
}

pub unsynced : (path bytes : List ℕ) (handle : Handle) (kind : ErrorKind) (old begun full new : Disk) → IsSound old → IsSound begun → Creates path handle.file old begun
    → Changes handle.file (after_change (Wrote 0 bytes)) begun full → FailsToSync handle kind full new → FailsToMake path bytes kind old new
unsynced path bytes handle kind old begun full new sound sound_begun creates writes refused = record {
  others = touched_next path handle.file old begun new sound sound_begun creates
      (touches_both handle.file begun full new (touches_change {T = ℕ} (λ e. ⊥) (Ok 0) handle.file (Wrote 0 bytes) writes tt)
      (touches_sync {T = ℕ} (WrongHandle handle full) (Err kind) handle.file tt refused));
  told = not_synced handle begun full creates writes refused;
}

-- Its new name.

-- the file that had the temporary path has the other one
moved : (temporary path bytes : List ℕ) (id : ℕ) (made : Disk) → IsAtRest temporary bytes made → made.names temporary ≡ Some id → IsAtRest path bytes (renamed temporary path id made)
moved temporary path bytes id made rest is =
    let leaves = renaming_leaves made temporary path id in
    let there = rest.named in
    let same : rest.id ≡ id = cc in
    let stands = rest.file in
    record { id = id; named = leaves.named; file = record { file = stands.file; is = leaves.itself ∙ ap made.files (sym same) ∙ stands.is; has = stands.has } }

pub replaced : (temporary path bytes : List ℕ) (old made new : Disk) → (path ≡ temporary → ⊥) → IsSound made → MakesFile temporary bytes old made → Renames temporary path made new
    → Replaces temporary path bytes old new
replaced temporary path bytes old made new apart sound makes renames =
    let leaves = renaming_leaves made temporary path renames.id in
    record {
      anew = subst (IsAtRest path bytes) (sym renames.done) (moved temporary path bytes renames.id made makes.made renames.is);
      free = ap (λ (d : Disk). d.names temporary) renames.done ∙ leaves.unnamed (λ same. apart (sym same));
      others = names_then (IsEither temporary path) old made new (wider temporary path old made makes.others)
          (names_rename (IsEither temporary path) {T = ℕ} (λ kind. ⊥) (Ok 0) temporary path sound (inl refl) (inr refl) renames tt);
    }

-- What stands under the path where the renaming is refused.
abbrev Whole : List ℕ → List ℕ → Disk → Disk → Type 0
Whole path bytes old d = StaysAt path old d ⊎ IsAtRest path bytes d

whole_calm : (path bytes : List ℕ) (old : Disk) → IsCalm (Whole path bytes old)
whole_calm path bytes old = record { at_count = λ {error} d whole. counts error d whole; at_end = λ d whole. ends d whole }
  where
    counts : (error : ErrorKind) (d : Disk) → Whole path bytes old d → Whole path bytes old (record d { failures = suc d.failures; kinds = error ∷ d.kinds })
    counts error d (inl stays) = inl (record { named = stays.named; file = stays.file })
    counts error d (inr rest) = inr (record { id = rest.id; named = rest.named; file = record { file = rest.file.file; is = rest.file.is; has = rest.file.has } })

    ends : (d : Disk) → Whole path bytes old d → Whole path bytes old (record d { stopped = true })
    ends d (inl stays) = inl (record { named = stays.named; file = stays.file })
    ends d (inr rest) = inr (record { id = rest.id; named = rest.named; file = record { file = rest.file.file; is = rest.file.is; has = rest.file.has } })

pub unmade_file : (temporary path bytes : List ℕ) (kind : ErrorKind) (old new : Disk) → (path ≡ temporary → ⊥) → FailsToMake temporary bytes kind old new → FailsToReplace temporary path bytes kind old new
unmade_file temporary path bytes kind old new apart fails = record {
  whole = inl (left_alone temporary path old new apart fails.others);
  others = wider temporary path old new fails.others;
  told = unmade fails.told;
}

pub unrenamed : (temporary path bytes : List ℕ) (kind : ErrorKind) (old made new : Disk) → (path ≡ temporary → ⊥) → IsSound made → MakesFile temporary bytes old made
    → FailsToRename temporary path kind made new → FailsToReplace temporary path bytes kind old new
unrenamed temporary path bytes kind old made new apart sound makes refused = record {
  whole = kept_rename {T = ℕ} (Whole path bytes old) (WrongRename temporary path made) (Err kind) temporary path (whole_calm path bytes old)
      (inl (left_alone temporary path old made apart makes.others)) (λ id is free home. inr (moved temporary path bytes id made makes.made is)) tt refused;
  others = names_then (IsEither temporary path) old made new (wider temporary path old made makes.others)
      (names_rename (IsEither temporary path) {T = ℕ} (WrongRename temporary path made) (Err kind) temporary path sound (inl refl) (inr refl) tt refused);
  told = unnamed made makes refused;
}
