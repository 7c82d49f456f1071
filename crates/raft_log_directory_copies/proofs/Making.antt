-- A file is made in a directory, and one more.
use Rattle.std.specs.Prelude.{Ok, Contains, bytes_eq}
use Rattle.std.proofs.Common.{◌≡◌, ℕ, Bool, Option, Some, None, List, [], ◌∷◌, ◌++◌, ◌+◌, ◌<◌, length, take, drop, get_or, refl, sym, ◌∙◌, ap, subst, inl, inr}
use Rattle.std.proofs.lemmas.Bool.{cases_Bool, false≢true}
use Rattle.std.proofs.lemmas.List.{append_cancel_left, map-append, take_more}
use Rattle.std.proofs.lemmas.List.Elements.{All-push, All-weaker, Contains-append_left, Contains-push}
use Rattle.std.proofs.lemmas.Slice.Eq.{bytes_eq-Decides}
use Rattle.raft_log_fs.specs.Disk.{Disk, File, Wrote, at_rest, overwritten}
use Rattle.raft_log_fs.specs.Image.{IsSound}
use Rattle.raft_log_fs.specs.Calls.{Changes, Creates, after_change, created, flushed}
use Rattle.raft_log_fs.proofs.Public.{file_here, has_done, name_here, names_create, names_file, names_then, other_names_stay, overwritten_at_end, touches_change, touches_sync}
use Rattle.raft_log_directory_copies.specs.declared.stored_file.StoredFile.{StoredFile}
use Rattle.raft_log_directory_copies.specs.Copies.{HoldsExactly, IsAtRest, MakesFile, name_of, names_of, path_in}

-- A file that was made, written and synced has the bytes.

saved : (path : List ℕ) (id : ℕ) (bytes : List ℕ) (old begun written new : Disk) → Creates path id old begun → Changes id (after_change (Wrote 0 bytes)) begun written
    → Changes id flushed written new → new.files id ≡ Some (at_rest bytes)
saved path id bytes old begun written new creates writes syncs =
    let here : begun.files id ≡ Some (at_rest []) =
    ap (λ (d : Disk). d.files id) creates.done ∙ ap (λ (n : ℕ). (created path old).files n) creates.number ∙ file_here old.files old.unused (Some (at_rest [])) in
    let first = has_done id (λ file. file ≡ at_rest []) (λ file. file.content ≡ bytes) (after_change (Wrote 0 bytes)) begun written
    (record { file = at_rest []; is = here; has = refl }) writes (λ file is. ap (λ (f : File). overwritten 0 bytes f.content) is ∙ overwritten_at_end bytes []) in
    let last = has_done id (λ file. file.content ≡ bytes) (λ file. file ≡ at_rest bytes) flushed written new first syncs (λ file is. ap at_rest is) in
    last.is ∙ ap Some last.has

pub made : (path : List ℕ) (id : ℕ) (bytes : List ℕ) (old begun written new : Disk) → IsSound old → IsSound begun → IsSound written
    → Creates path id old begun → Changes id (after_change (Wrote 0 bytes)) begun written → Changes id flushed written new → MakesFile path bytes old new
made path id bytes old begun written new sound sound_begun sound_written creates writes syncs =
    let own : List ℕ → Type 0 = λ other. other ≡ path in
    let begun_named : begun.names path ≡ Some id = ap (λ (d : Disk). d.names path) creates.done ∙ name_here old.names path (Some old.unused) ∙ ap (λ (n : ℕ). Some n) (sym creates.number) in
    let wrote = touches_change {T = ℕ} (λ kind. ⊥) (Ok 0) id (Wrote 0 bytes) writes tt in
    let synced = touches_sync {T = ℕ} (λ kind. ⊥) (Ok 0) id syncs tt in
    let written_named : written.names path ≡ Some id = ap (λ (f : List ℕ → Option ℕ). f path) wrote.names ∙ begun_named in
    let new_named : new.names path ≡ Some id = ap (λ (f : List ℕ → Option ℕ). f path) synced.names ∙ written_named in
    record {
      free = creates.free;
      made = record { id = id; named = new_named; file = record { file = at_rest bytes; is = saved path id bytes old begun written new creates writes syncs; has = refl } };
      others = names_then own old begun new (names_create own {T = ℕ} (λ n. n) (λ kind. ⊥) (Ok id) path sound refl creates tt)
          (names_then own begun written new (names_file own begun written path id sound_begun refl begun_named wrote) (names_file own written new path id sound_written refl written_named synced));
    }

-- A directory with some files.

-- one name is that of one path
one_name : (directory a b : List ℕ) → path_in directory a ≡ path_in directory b → a ≡ b
one_name directory a b same = ap (λ (l : List ℕ). drop 1 l) (append_cancel_left directory (47 ∷ a) (47 ∷ b) same)

-- a file that was there stays
stays : (path : List ℕ) (bytes : List ℕ) (directory : List ℕ) (one : StoredFile) (old new : Disk) → MakesFile path bytes old new
    → IsAtRest (path_in directory (name_of one)) one.bytes.items old → IsAtRest (path_in directory (name_of one)) one.bytes.items new
stays path bytes directory one old new makes kept =
    let apart : path_in directory (name_of one) ≡ path → ⊥ = λ same. (let here = kept.named in let none = makes.free in let at = ap old.names same in cc) in
    other_names_stay (λ other. other ≡ path) (λ file. file ≡ at_rest one.bytes.items) old new (path_in directory (name_of one)) makes.others apart kept

more_names : (before : List StoredFile) (file : StoredFile) → names_of (before ++ file ∷ []) ≡ names_of before ++ name_of file ∷ []
more_names before file = map-append name_of before (file ∷ [])

pub holds_more : (directory : List ℕ) (before : List StoredFile) (file : StoredFile) (old new : Disk) → HoldsExactly before directory old
    → MakesFile (path_in directory (name_of file)) file.bytes.items old new → HoldsExactly (before ++ file ∷ []) directory new
holds_more directory before file old new holds makes =
    let path = path_in directory (name_of file) in
    record {
      there = ap (λ (f : List ℕ → Bool). f directory) makes.others.directories ∙ holds.there;
      kept = All-push (λ (one : StoredFile). IsAtRest (path_in directory (name_of one)) one.bytes.items new) before file
          (All-weaker (λ (one : StoredFile). IsAtRest (path_in directory (name_of one)) one.bytes.items old) (λ (one : StoredFile). IsAtRest (path_in directory (name_of one)) one.bytes.items new)
          (λ one kept. stays path file.bytes.items directory one old new makes kept) before holds.kept) makes.made;
      only = λ name plain named. subst (λ (l : List (List ℕ)). Contains l name) (sym (more_names before file)) (elim (cases_Bool (bytes_eq (path_in directory name) path)) [
        | inl hit ↦
            let same = one_name directory name (name_of file) ((bytes_eq-Decides (path_in directory name) path).0 hit) in
            subst (Contains (names_of before ++ name_of file ∷ [])) (sym same) (Contains-push (names_of before) (name_of file))
        | inr miss ↦
            let apart : path_in directory name ≡ path → ⊥ = λ same. false≢true (sym miss ∙ (bytes_eq-Decides (path_in directory name) path).1 same) in
            let was : old.names (path_in directory name) ≡ None → ⊥ = λ none. named (makes.others.names (path_in directory name) apart ∙ none) in
            Contains-append_left (names_of before) (name_of file ∷ []) name (holds.only name plain was)
      ]);
    }

-- one more in the order of a list
pub holds_next : (directory : List ℕ) (files : List StoredFile) (i : ℕ) (file : StoredFile) (path bytes : List ℕ) (old new : Disk) → i < length files → file ≡ get_or files i file
    → path ≡ path_in directory (name_of file) → bytes ≡ file.bytes.items → HoldsExactly (take i files) directory old → MakesFile path bytes old new
    → HoldsExactly (take (i + 1) files) directory new
holds_next directory files i file path bytes old new lt is at same holds makes =
    let more : take (i + 1) files ≡ take i files ++ file ∷ [] = take_more files i file lt ∙ ap (λ (f : StoredFile). take i files ++ f ∷ []) (sym is) in
    subst (λ (l : List StoredFile). HoldsExactly l directory new) (sym more) (holds_more directory (take i files) file old new holds
    (subst (λ (b : List ℕ). MakesFile (path_in directory (name_of file)) b old new) same (subst (λ (p : List ℕ). MakesFile p bytes old new) at makes)))

-- The directory is made first.

-- A directory whose listing is empty has no file.
