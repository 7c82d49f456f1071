-- What each step of the storage makes of its disk and of the order of all changes, and that it stays whole.
use Rattle.std.specs.Prelude.{◌≡◌, ℕ, ◌+◌, ◌<◌, ◌++◌, ◌∷◌, min, Bool, false, cond, Option, Some, None, List, [], suc, vec_len}
use Rattle.std.specs.Option.{option_map}
use Rattle.std.specs.Map.{update}
use Rattle.std.specs.Str.{bytes_eq}
use Rattle.std.proofs.Common.{refl, sym, ◌∙◌, ap, subst, arith, inl, inr, nat_eq}
use Rattle.std.proofs.lemmas.Bool.{cases_eq, cases_lt, cases_Bool}
use Rattle.std.proofs.lemmas.List.{get_or_past}
use Rattle.std.proofs.lemmas.Slice.Eq.{bytes_eq-Decides}
use Rattle.std.proofs.lemmas.Map.{update_same, update_other}
use std.Path.{fun_ext}
use Rattle.raft_log_fs.specs.Disk.{Change, GrewTo, File, zeros, HasDirectory, with_file, file_limit}
use Rattle.raft_log_fs.specs.Image.{end_of, IsSound}
use Rattle.raft_log_fs.specs.Calls.{with_change, flushed, created, deleted, without, renamed, with_directory}
use Rattle.raft_log_fs.proofs.Public.{disk_ext, file_apart, file_here, name_apart, sound_created, sound_deleted, sound_flushed, sound_renamed, sound_with_directory, sound_with_file}
use Rattle.raft_log_fs_state.specs.declared.storage.Storage.{Storage}
use Rattle.raft_log_fs_state.specs.declared.storage.Node.{Node}
use Rattle.raft_log_fs_state.specs.declared.storage.Node.TheVariants as node
use Rattle.raft_log_fs_state.specs.Held.{Held, held, held_of, resting, with_made, all_synced, file_of}
use Rattle.raft_log_fs_state.specs.Order.{with_stamp, in_order, without_file, Rises, AreStamped}
use Rattle.raft_log_fs_state.specs.Storage.{file_named, is_directory, node_at, contents_of, unsynced_of, IsStorageSound}
use Rattle.raft_log_fs_state.specs.Steps.{IsSame, after_part, size_of, Makes, NotesGrowth, SyncsFile, AddsName, DropsName, MovesName, without_replaced}
use Rattle.raft_log_fs_state.specs.Changes.{with_rest}
use Rattle.raft_log_fs_state.proofs.Fronts.{sound_after_part, unmade_growth}
use Rattle.raft_log_fs_state.proofs.RisingLaws.{miss}
use Rattle.raft_log_fs_state.proofs.OrderLaws.{order_pushed, stamped_pushed, order_dropped, order_added, still_stamped}
use Rattle.raft_log_fs_state.proofs.StorageLaws.{updated, file_of-with_made, mapped, same_there, put_back}

-- The same files.

pub order_kept : (old new : Storage) → ((q : ℕ) → held_of new.files.items q ≡ held_of old.files.items q) → new.made ≡ old.made → vec_len new.files ≡ vec_len old.files
    → unsynced_of new ≡ unsynced_of old
order_kept old new files made len =
    ap (λ (n : ℕ). in_order n (held_of new.files.items) (vec_len new.files)) made
    ∙ (ap (λ (n : ℕ). in_order old.made (held_of new.files.items) n) len
    ∙ ap (λ (F : ℕ → Option Held). in_order old.made F (vec_len old.files)) (fun_ext files))

pub stamped_kept : (old new : Storage) → ((q : ℕ) → held_of new.files.items q ≡ held_of old.files.items q) → new.made ≡ old.made
    → AreStamped old.made (held_of old.files.items) → AreStamped new.made (held_of new.files.items)
stamped_kept old new files made are =
    subst (λ (n : ℕ). AreStamped n (held_of new.files.items)) (sym made) (subst (AreStamped old.made) (sym (fun_ext files)) are)

pub is_same : (old new : Storage) → ((q : List ℕ) → node_at new q ≡ node_at old q) → ((q : ℕ) → held_of new.files.items q ≡ held_of old.files.items q)
    → new.made ≡ old.made → vec_len new.files ≡ vec_len old.files → IsSame old new
is_same old new nodes files made len = record {
  contents = disk_ext (contents_of new) (contents_of old)
      (fun_ext (λ q. ap is_directory (nodes q))) (fun_ext (λ q. ap file_named (nodes q)))
      (fun_ext (λ q. ap (option_map file_of) (files q))) len refl refl refl refl;
  order = order_kept old new files made len;
}

pub whole_same : (old new : Storage) → IsStorageSound old → ((q : List ℕ) → node_at new q ≡ node_at old q) → ((q : ℕ) → held_of new.files.items q ≡ held_of old.files.items q)
    → new.made ≡ old.made → vec_len new.files ≡ vec_len old.files → IsStorageSound new
whole_same old new whole nodes files made len = record {
  sound = subst IsSound (sym (is_same old new nodes files made len).contents) whole.sound;
  stamped = stamped_kept old new files made whole.stamped;
}

pub some_file_held : (o : Option Held) → (o ≡ None → ⊥) → (file : Held) × (o ≡ Some file)
some_file_held None there = absurd (there refl)
some_file_held (Some file) there = (file, refl)

-- a file that is there has a node number below the next one
below_unused : (storage : Storage) (id : ℕ) → (held_of storage.files.items id ≡ None → ⊥) → id < vec_len storage.files
below_unused storage id there = elim (cases_lt id (vec_len storage.files)) [
  | inl below ↦ below
  | inr past ↦ absurd (there (ap (option_map held) (get_or_past storage.files.items id None (omega (arith, past, storage.files.ok)))))
]

-- Another state of one file.

made_contents : (old new : Storage) (id : ℕ) (step : Held → Held) (next : File → File) → ((h : Held) → file_of (step h) ≡ next (file_of h))
    → ((q : List ℕ) → node_at new q ≡ node_at old q)
    → ((q : ℕ) → held_of new.files.items q ≡ update nat_eq (held_of old.files.items) id (option_map step (held_of old.files.items id)) q)
    → vec_len new.files ≡ vec_len old.files
    → (file : File) → (contents_of old).files id ≡ Some file → contents_of new ≡ with_file id (Some (next file)) (contents_of old)
made_contents old new id step next each nodes files len file is =
    disk_ext (contents_of new) (with_file id (Some (next file)) (contents_of old))
    (fun_ext (λ q. ap is_directory (nodes q))) (fun_ext (λ q. ap file_named (nodes q)))
    (fun_ext (λ q. updated id (held_of old.files.items) (held_of new.files.items) (option_map step (held_of old.files.items id)) files q
    ∙ ap (λ (o : Option File). update nat_eq (contents_of old).files id o q) (stepped (held_of old.files.items id) is)))
    len refl refl refl refl
  where
    stepped : (o : Option Held) → option_map file_of o ≡ Some file → option_map file_of (option_map step o) ≡ Some (next file)
    stepped None at = absurd (cc)
    stepped (Some h) at = ap Some (each h ∙ ap next (let same : file_of h ≡ file = cc in same))

-- the state of the file after the step, and of the others
now_here : (old new : ℕ → Option Held) (id : ℕ) (step : Held → Held) (file : Held) → ((q : ℕ) → new q ≡ update nat_eq old id (option_map step (old id)) q)
    → old id ≡ Some file → new id ≡ Some (step file)
now_here old new id step file files is = files id ∙ (file_here old id (option_map step (old id)) ∙ ap (option_map step) is)

now_apart : (old new : ℕ → Option Held) (id : ℕ) (w : Option Held) → ((q : ℕ) → new q ≡ update nat_eq old id w q) → (q : ℕ) → (q ≡ id → ⊥) → new q ≡ old q
now_apart old new id w files q apart = files q ∙ file_apart old id w q apart

-- a change
pub makes : (old new : Storage) (id : ℕ) (change : Change) (rest : List ℕ) → IsStorageSound old → (held_of old.files.items id ≡ None → ⊥) → ((q : List ℕ) → node_at new q ≡ node_at old q)
    → ((q : ℕ) → held_of new.files.items q ≡ update nat_eq (held_of old.files.items) id (option_map (with_made old.made change rest) (held_of old.files.items id)) q)
    → new.made ≡ suc old.made → vec_len new.files ≡ vec_len old.files → Makes id change rest old new
makes old new id change rest whole there nodes files made len =
    let F = held_of old.files.items in
    let G = held_of new.files.items in
    let file = some_file_held (F id) there in
    record {
      contents = made_contents old new id (with_made old.made change rest) (after_part change rest) (file_of-with_made old.made change rest) nodes files len;
      order = ap (λ (n : ℕ). in_order n G (vec_len new.files)) made ∙ (ap (λ (n : ℕ). in_order (suc old.made) G n) len
          ∙ order_pushed old.made (vec_len old.files) id change rest F G file.0 whole.stamped (below_unused old id there) file.1
          (now_here F G id (with_made old.made change rest) file.0 files file.1) (now_apart F G id (option_map (with_made old.made change rest) (F id)) files));
    }

pub whole_makes : (old new : Storage) (id : ℕ) (change : Change) (rest : List ℕ) → IsStorageSound old → (held_of old.files.items id ≡ None → ⊥) → end_of (with_rest change rest) < file_limit → Makes id change rest old new
    → ((q : ℕ) → held_of new.files.items q ≡ update nat_eq (held_of old.files.items) id (option_map (with_made old.made change rest) (held_of old.files.items id)) q)
    → new.made ≡ suc old.made → IsStorageSound new
whole_makes old new id change rest whole there short made_it files made =
    let F = held_of old.files.items in
    let G = held_of new.files.items in
    let file = some_file_held (F id) there in
    let is : option_map file_of (F id) ≡ Some (file_of file.0) = ap (option_map file_of) file.1 in
    record {
      sound = subst IsSound (sym (made_it.contents (file_of file.0) is))
          (sound_with_file (contents_of old) id (file_of file.0) (after_part change rest (file_of file.0)) whole.sound is
          (sound_after_part (file_of file.0) change rest (whole.sound.files id (file_of file.0) is) short));
      stamped = subst (λ (n : ℕ). AreStamped n G) (sym made)
          (stamped_pushed old.made id change rest F G file.0 whole.stamped file.1 (now_here F G id (with_made old.made change rest) file.0 files file.1)
          (now_apart F G id (option_map (with_made old.made change rest) (F id)) files));
    }

-- a growth that failed and added nothing
pub noted_growth : (old new : Storage) (id made rest size : ℕ) → made ≡ min (size_of ((contents_of old).files id)) size → made + rest ≡ size → Makes id (GrewTo made) (zeros rest) old new
    → NotesGrowth id size old new
noted_growth old new id made rest size is all makes_it = record {
  contents = λ file at. makes_it.contents file at ∙ ap (λ (f : File). with_file id (Some f) (contents_of old))
      (unmade_growth made rest file (omega (arith, is, ap size_of at)) ∙ ap (λ (n : ℕ). with_change (GrewTo n) file.content file) all);
  order = λ file at. makes_it.order ∙ ap (λ (n : ℕ). unsynced_of old ++ (id, GrewTo n) ∷ []) (is ∙ ap (λ (o : Option File). min (size_of o) size) at);
}

-- a sync
pub syncs : (old new : Storage) (id : ℕ) → ((q : List ℕ) → node_at new q ≡ node_at old q) → (held_of old.files.items id ≡ None → ⊥)
    → ((q : ℕ) → held_of new.files.items q ≡ update nat_eq (held_of old.files.items) id (option_map all_synced (held_of old.files.items id)) q)
    → new.made ≡ old.made → vec_len new.files ≡ vec_len old.files → SyncsFile id old new
syncs old new id nodes there files made len =
    let F = held_of old.files.items in
    let G = held_of new.files.items in
    let file = some_file_held (F id) there in
    record {
      contents = made_contents old new id all_synced flushed (λ h. refl) nodes files len;
      order = ap (λ (n : ℕ). in_order n G (vec_len new.files)) made ∙ (ap (λ (n : ℕ). in_order old.made G n) len
          ∙ order_dropped old.made (vec_len old.files) id F G (now_apart F G id (option_map all_synced (F id)) files)
          (λ s. ap (with_stamp s id) (now_here F G id all_synced file.0 files file.1)));
    }

-- where a file's changes are gone
emptied : (next id : ℕ) (old new : ℕ → Option Held) → AreStamped next old → ((q : ℕ) → (q ≡ id → ⊥) → new q ≡ old q) → ((s : ℕ) → with_stamp s id (new id) ≡ [])
    → ((file : Held) → new id ≡ Some file → file.changes ≡ []) → AreStamped next new
emptied next id old new are others none empty =
    still_stamped next old new are
    (λ q file at. elim (cases_eq q id) [
      | inl same ↦ subst (Rises 0 next) (sym (empty file (ap new (sym same) ∙ at))) tt
      | inr apart ↦ are.rise q file (sym (others q apart) ∙ at)
    ])
    (λ a stamp had. elim (cases_eq a id) [
      | inl same ↦ subst (λ (i : ℕ). with_stamp stamp i (new i) ≡ []) (sym same) (none stamp)
      | inr apart ↦ ap (with_stamp stamp a) (others a apart) ∙ had
    ])

same_changes : (a b : Held) → Some a ≡ Some b → a.changes ≡ [] → b.changes ≡ []
same_changes a b is none = let same : a ≡ b = cc in subst (λ (h : Held). h.changes ≡ []) same none

pub whole_syncs : (old new : Storage) (id : ℕ) → IsStorageSound old → (held_of old.files.items id ≡ None → ⊥) → SyncsFile id old new
    → ((q : ℕ) → held_of new.files.items q ≡ update nat_eq (held_of old.files.items) id (option_map all_synced (held_of old.files.items id)) q)
    → new.made ≡ old.made → IsStorageSound new
whole_syncs old new id whole there synced files made =
    let F = held_of old.files.items in
    let G = held_of new.files.items in
    let file = some_file_held (F id) there in
    let is : option_map file_of (F id) ≡ Some (file_of file.0) = ap (option_map file_of) file.1 in
    let now = now_here F G id all_synced file.0 files file.1 in
    record {
      sound = subst IsSound (sym (synced.contents (file_of file.0) is))
          (sound_with_file (contents_of old) id (file_of file.0) (flushed (file_of file.0)) whole.sound is (sound_flushed (file_of file.0) (whole.sound.files id (file_of file.0) is)));
      stamped = subst (λ (n : ℕ). AreStamped n G) (sym made)
          (emptied old.made id F G whole.stamped (now_apart F G id (option_map all_synced (F id)) files) (λ s. ap (with_stamp s id) now)
          (λ after at. same_changes (all_synced file.0) after (sym now ∙ at) refl));
    }

-- Names.

none_of : (o : Option Held) → option_map file_of o ≡ None → o ≡ None
none_of None none = refl
none_of (Some file) none = absurd (cc)

-- the next node number has no file
fresh_of : (storage : Storage) → IsStorageSound storage → held_of storage.files.items (vec_len storage.files) ≡ None
fresh_of storage whole = none_of (held_of storage.files.items (vec_len storage.files)) (whole.sound.fresh (vec_len storage.files) (omega arith))

-- a new file's changes, and those of the others
added_stamps : (old new : ℕ → Option Held) (id : ℕ) → old id ≡ None → ((q : ℕ) → new q ≡ update nat_eq old id (Some (resting [])) q)
    → (stamp q : ℕ) → with_stamp stamp q (new q) ≡ with_stamp stamp q (old q)
added_stamps old new id none files stamp q = elim (cases_eq q id) [
  | inl same ↦ subst (λ (i : ℕ). with_stamp stamp i (new i) ≡ with_stamp stamp i (old i)) (sym same)
      (ap (with_stamp stamp id) (files id ∙ file_here old id (Some (resting []))) ∙ sym (ap (with_stamp stamp id) none))
  | inr apart ↦ ap (with_stamp stamp q) (now_apart old new id (Some (resting [])) files q apart)
]

pub adds_file : (old new : Storage) (path : List ℕ) → IsStorageSound old → node_at old path ≡ None
    → ((q : List ℕ) → node_at new q ≡ update bytes_eq (node_at old) path (Some (node.File (vec_len old.files))) q)
    → ((q : ℕ) → held_of new.files.items q ≡ update nat_eq (held_of old.files.items) (vec_len old.files) (Some (resting [])) q)
    → new.made ≡ old.made → vec_len new.files ≡ suc (vec_len old.files) → AddsName (created path) old new
adds_file old new path whole free nodes files made len =
    let F = held_of old.files.items in
    let G = held_of new.files.items in
    let id = vec_len old.files in
    record {
      contents = disk_ext (contents_of new) (created path (contents_of old))
          (fun_ext (λ q. ap is_directory (nodes q) ∙ same_there is_directory (node_at old) path (Some (node.File id)) (sym (ap is_directory free)) q))
          (fun_ext (λ q. ap file_named (nodes q) ∙ mapped file_named (node_at old) path (Some (node.File id)) q))
          (fun_ext (updated id F G (Some (resting [])) files))
          len refl refl refl refl;
      order = ap (λ (n : ℕ). in_order n G (vec_len new.files)) made ∙ (ap (λ (n : ℕ). in_order old.made G n) len
          ∙ order_added old.made id F G (added_stamps F G id (fresh_of old whole) files)
          (λ s. ap (with_stamp s id) (files id ∙ file_here F id (Some (resting [])))));
    }

pub whole_adds_file : (old new : Storage) (path : List ℕ) → IsStorageSound old → node_at old path ≡ None → HasDirectory path (contents_of old) → AddsName (created path) old new
    → ((q : ℕ) → held_of new.files.items q ≡ update nat_eq (held_of old.files.items) (vec_len old.files) (Some (resting [])) q)
    → new.made ≡ old.made → IsStorageSound new
whole_adds_file old new path whole free home added files made =
    let F = held_of old.files.items in
    let G = held_of new.files.items in
    let id = vec_len old.files in
    let now = files id ∙ file_here F id (Some (resting [])) in
    record {
      sound = subst IsSound (sym added.contents) (sound_created (contents_of old) path whole.sound (ap file_named free) (ap is_directory free) home);
      stamped = subst (λ (n : ℕ). AreStamped n G) (sym made)
          (emptied old.made id F G whole.stamped (now_apart F G id (Some (resting [])) files) (λ s. ap (with_stamp s id) now)
          (λ after at. same_changes (resting []) after (sym now ∙ at) refl));
    }

pub adds_directory : (old new : Storage) (path : List ℕ) → node_at old path ≡ None
    → ((q : List ℕ) → node_at new q ≡ update bytes_eq (node_at old) path (Some node.Directory) q)
    → ((q : ℕ) → held_of new.files.items q ≡ held_of old.files.items q) → new.made ≡ old.made → vec_len new.files ≡ vec_len old.files
    → AddsName (with_directory path) old new
adds_directory old new path free nodes files made len = record {
  contents = disk_ext (contents_of new) (with_directory path (contents_of old))
      (fun_ext (λ q. ap is_directory (nodes q) ∙ mapped is_directory (node_at old) path (Some node.Directory) q))
      (fun_ext (λ q. ap file_named (nodes q) ∙ same_there file_named (node_at old) path (Some node.Directory) (sym (ap file_named free)) q))
      (fun_ext (λ q. ap (option_map file_of) (files q)))
      len refl refl refl refl;
  order = order_kept old new files made len;
}

pub whole_adds_directory : (old new : Storage) (path : List ℕ) → IsStorageSound old → node_at old path ≡ None → AddsName (with_directory path) old new
    → ((q : ℕ) → held_of new.files.items q ≡ held_of old.files.items q) → new.made ≡ old.made → IsStorageSound new
whole_adds_directory old new path whole free added files made = record {
  sound = subst IsSound (sym added.contents) (sound_with_directory (contents_of old) path whole.sound (ap file_named free));
  stamped = stamped_kept old new files made whole.stamped;
}

-- a file that goes
gone_order : (old new : Storage) (id : ℕ) → ((q : ℕ) → held_of new.files.items q ≡ update nat_eq (held_of old.files.items) id None q)
    → new.made ≡ old.made → vec_len new.files ≡ vec_len old.files → unsynced_of new ≡ without_file id (unsynced_of old)
gone_order old new id files made len =
    let F = held_of old.files.items in
    let G = held_of new.files.items in
    ap (λ (n : ℕ). in_order n G (vec_len new.files)) made ∙ (ap (λ (n : ℕ). in_order old.made G n) len
    ∙ order_dropped old.made (vec_len old.files) id F G (now_apart F G id None files) (λ s. ap (with_stamp s id) (files id ∙ file_here F id None)))

gone_stamped : (old new : Storage) (id : ℕ) → IsStorageSound old → ((q : ℕ) → held_of new.files.items q ≡ update nat_eq (held_of old.files.items) id None q)
    → new.made ≡ old.made → AreStamped new.made (held_of new.files.items)
gone_stamped old new id whole files made =
    let F = held_of old.files.items in
    let G = held_of new.files.items in
    let now = files id ∙ file_here F id None in
    subst (λ (n : ℕ). AreStamped n G) (sym made)
    (emptied old.made id F G whole.stamped (now_apart F G id None files) (λ s. ap (with_stamp s id) now) (λ after at. absurd (no_file after (sym now ∙ at))))
  where
    no_file : (after : Held) → None ≡ Some after → ⊥
    no_file after e = cc

pub drops : (old new : Storage) (path : List ℕ) (id : ℕ) → node_at old path ≡ Some (node.File id)
    → ((q : List ℕ) → node_at new q ≡ update bytes_eq (node_at old) path None q)
    → ((q : ℕ) → held_of new.files.items q ≡ update nat_eq (held_of old.files.items) id None q)
    → new.made ≡ old.made → vec_len new.files ≡ vec_len old.files → DropsName path id old new
drops old new path id is nodes files made len = record {
  contents = disk_ext (contents_of new) (deleted path id (contents_of old))
      (fun_ext (λ q. ap is_directory (nodes q) ∙ same_there is_directory (node_at old) path None (sym (ap is_directory is)) q))
      (fun_ext (λ q. ap file_named (nodes q) ∙ mapped file_named (node_at old) path None q))
      (fun_ext (updated id (held_of old.files.items) (held_of new.files.items) None files))
      len refl refl refl refl;
  order = gone_order old new id files made len;
}

pub whole_drops : (old new : Storage) (path : List ℕ) (id : ℕ) → IsStorageSound old → node_at old path ≡ Some (node.File id) → DropsName path id old new
    → ((q : ℕ) → held_of new.files.items q ≡ update nat_eq (held_of old.files.items) id None q) → new.made ≡ old.made → IsStorageSound new
whole_drops old new path id whole is gone files made = record {
  sound = subst IsSound (sym gone.contents) (sound_deleted (contents_of old) path id whole.sound (ap file_named is));
  stamped = gone_stamped old new id whole files made;
}

-- which node a file's name has
pub named_file : (o : Option Node) (id : ℕ) → file_named o ≡ Some id → o ≡ Some (node.File id)
named_file None id is = absurd (cc)
named_file (Some node.Directory) id is = absurd (cc)
named_file (Some (node.File other)) id is = let same : other ≡ id = cc in ap (λ (n : ℕ). Some (node.File n)) same

pub not_directory : (o : Option Node) → (o ≡ Some node.Directory → ⊥) → is_directory o ≡ false
not_directory None apart = refl
not_directory (Some node.Directory) apart = absurd (apart refl)
not_directory (Some (node.File id)) apart = refl

-- the names after a renaming to another name
moved_names : (N : List ℕ → Option Node) (from to : List ℕ) (id : ℕ) → (from ≡ to → ⊥) → (q : List ℕ)
    → file_named (update bytes_eq (update bytes_eq N to (Some (node.File id))) from None q)
    ≡ update bytes_eq (update bytes_eq (λ p. file_named (N p)) from None) to (Some id) q
moved_names N from to id apart q = elim (cases_Bool (bytes_eq to q)) [
  | inl hit ↦
      (let same : to ≡ q = (bytes_eq-Decides to q).0 hit in
      ap file_named (name_apart (update bytes_eq N to (Some (node.File id))) from None q (λ is. apart (sym (same ∙ is))) ∙ update_same bytes_eq N to (Some (node.File id)) q hit)
      ∙ sym (update_same bytes_eq (update bytes_eq (λ p. file_named (N p)) from None) to (Some id) q hit))
  | inr lost ↦
      mapped file_named (update bytes_eq N to (Some (node.File id))) from None q
      ∙ (ap (λ (o : Option Node). cond (bytes_eq from q) None (file_named o)) (update_other bytes_eq N to (Some (node.File id)) q lost)
      ∙ sym (update_other bytes_eq (update bytes_eq (λ p. file_named (N p)) from None) to (Some id) q lost))
]

moved_directories : (N : List ℕ → Option Node) (from to : List ℕ) (id : ℕ) → (from ≡ to → ⊥) → N from ≡ Some (node.File id) → (N to ≡ Some node.Directory → ⊥) → (q : List ℕ)
    → is_directory (update bytes_eq (update bytes_eq N to (Some (node.File id))) from None q) ≡ is_directory (N q)
moved_directories N from to id apart is other q =
    same_there is_directory (update bytes_eq N to (Some (node.File id))) from None
    (sym (ap is_directory (name_apart N to (Some (node.File id)) from apart ∙ is))) q
    ∙ same_there is_directory N to (Some (node.File id)) (sym (not_directory (N to) other)) q

-- a file gets another name, which nothing had
pub moves : (old new : Storage) (from to : List ℕ) (id : ℕ) → (from ≡ to → ⊥) → node_at old from ≡ Some (node.File id) → (node_at old to ≡ Some node.Directory → ⊥)
    → ((q : List ℕ) → node_at new q ≡ update bytes_eq (update bytes_eq (node_at old) to (Some (node.File id))) from None q)
    → file_named (node_at old to) ≡ None
    → ((q : ℕ) → held_of new.files.items q ≡ held_of old.files.items q) → new.made ≡ old.made → vec_len new.files ≡ vec_len old.files
    → MovesName from to id old new
moves old new from to id apart is other nodes none files made len =
    let F = (contents_of old).files in
    record {
      contents = disk_ext (contents_of new) (renamed from to id (contents_of old))
          (fun_ext (λ q. ap is_directory (nodes q) ∙ moved_directories (node_at old) from to id apart is other q))
          (fun_ext (λ q. ap file_named (nodes q) ∙ moved_names (node_at old) from to id apart q))
          (fun_ext (λ q. ap (option_map file_of) (files q)
          ∙ (sym (put_back F id (F id) refl q) ∙ ap (λ (o : Option ℕ). update nat_eq (without o F) id (F id) q) (sym none))))
          len refl refl refl refl;
      order = order_kept old new files made len ∙ ap (λ (o : Option ℕ). without_replaced id o (unsynced_of old)) (sym none);
    }

-- or which another file had
pub moves_over : (old new : Storage) (from to : List ℕ) (id gone : ℕ) → IsStorageSound old → (from ≡ to → ⊥) → node_at old from ≡ Some (node.File id) → node_at old to ≡ Some (node.File gone)
    → ((q : List ℕ) → node_at new q ≡ update bytes_eq (update bytes_eq (node_at old) to (Some (node.File id))) from None q)
    → ((q : ℕ) → held_of new.files.items q ≡ update nat_eq (held_of old.files.items) gone None q)
    → new.made ≡ old.made → vec_len new.files ≡ vec_len old.files → MovesName from to id old new
moves_over old new from to id gone whole apart is over nodes files made len =
    let F = (contents_of old).files in
    let other : id ≡ gone → ⊥ = λ same. apart (whole.sound.one_name from to id (ap file_named is) (ap file_named over ∙ ap Some (sym same))) in
    record {
      contents = disk_ext (contents_of new) (renamed from to id (contents_of old))
          (fun_ext (λ q. ap is_directory (nodes q) ∙ moved_directories (node_at old) from to id apart is (λ directory. directory_file (sym directory ∙ over)) q))
          (fun_ext (λ q. ap file_named (nodes q) ∙ moved_names (node_at old) from to id apart q))
          (fun_ext (λ q. updated gone (held_of old.files.items) (held_of new.files.items) None files q
          ∙ (sym (put_back (update nat_eq F gone None) id (F id) (file_apart F gone None id other) q)
          ∙ ap (λ (o : Option ℕ). update nat_eq (without o F) id (F id) q) (sym (ap file_named over)))))
          len refl refl refl refl;
      order = gone_order old new gone files made len
          ∙ (sym (ap (λ (b : Bool). cond b (unsynced_of old) (without_file gone (unsynced_of old))) (miss gone id (λ same. other (sym same))))
          ∙ ap (λ (o : Option ℕ). without_replaced id o (unsynced_of old)) (sym (ap file_named over)));
    }
  where
    directory_file : Some node.Directory ≡ Some (node.File gone) → ⊥
    directory_file e = cc

pub whole_moves : (old new : Storage) (from to : List ℕ) (id : ℕ) → IsStorageSound old → node_at old from ≡ Some (node.File id) → (node_at old to ≡ Some node.Directory → ⊥)
    → HasDirectory to (contents_of old) → MovesName from to id old new → AreStamped new.made (held_of new.files.items) → IsStorageSound new
whole_moves old new from to id whole is apart home moved are = record {
  sound = subst IsSound (sym moved.contents)
      (sound_renamed (contents_of old) from to id whole.sound (ap file_named is) (not_directory (node_at old to) apart) home);
  stamped = are;
}

pub whole_moves_over : (old new : Storage) (from to : List ℕ) (id gone : ℕ) → IsStorageSound old → node_at old from ≡ Some (node.File id) → (node_at old to ≡ Some node.Directory → ⊥)
    → HasDirectory to (contents_of old) → MovesName from to id old new → ((q : ℕ) → held_of new.files.items q ≡ update nat_eq (held_of old.files.items) gone None q) → new.made ≡ old.made → IsStorageSound new
whole_moves_over old new from to id gone whole is apart home moved files made = whole_moves old new from to id whole is apart home moved (gone_stamped old new gone whole files made)
