-- A file that gets other bytes, all synced, leaves what is held sound.
use Rattle.std.specs.Prelude.{◌≡◌, ℕ, ◌<◌, Option, Some, None, List, [], length, vec_len}
use Rattle.std.specs.Option.{option_map}
use Rattle.std.proofs.lemmas.List.Elements.{All-nil}
use Rattle.std.specs.Map.{update}
use Rattle.std.proofs.Common.{refl, sym, ◌∙◌, ap, subst, arith, inl, inr, nat_eq, set}
use Rattle.std.proofs.lemmas.Bool.{cases_eq, cases_lt}
use Rattle.std.proofs.lemmas.List.{get_or_past, get_or-set_same, get_or-set_other}
use std.Path.{fun_ext}
use Rattle.raft_log_fs.specs.Disk.{Disk, at_rest, with_file, file_limit}
use Rattle.raft_log_fs.specs.Image.{IsSound}
use Rattle.raft_log_fs.specs.Calls.{created}
use Rattle.raft_log_fs.proofs.Public.{disk_ext, file_apart, file_here, left_at_rest, sound_with_file}
use Rattle.raft_log_fs_state.specs.declared.files.Stored.{Stored}
use Rattle.raft_log_fs_state.specs.declared.storage.Storage.{Storage}
use Rattle.raft_log_fs_state.specs.Held.{Held, held, held_of, resting, file_of}
use Rattle.raft_log_fs_state.specs.Order.{with_stamp, Rises, AreStamped}
use Rattle.raft_log_fs_state.specs.Storage.{contents_of, IsStorageSound}
use Rattle.raft_log_fs_state.proofs.Public.{some_file_held, still_stamped, updated}
use Rattle.raft_log_fs_os.specs.Loading.{FillsFile}

-- a file that is there has a node number below the next one
pub is_below : (storage : Storage) (id : ℕ) → (held_of storage.files.items id ≡ None → ⊥) → id < vec_len storage.files
is_below storage id there = elim (cases_lt id (vec_len storage.files)) [
  | inl below ↦ below
  | inr past ↦ absurd (there (ap (option_map held) (get_or_past storage.files.items id None (omega (arith, past, storage.files.ok)))))
]

-- a file that was just added is there
pub is_added : (old new : Storage) (path : List ℕ) → contents_of new ≡ created path (contents_of old) → held_of new.files.items (vec_len old.files) ≡ None → ⊥
is_added old new path is none =
    let id = vec_len old.files in
    let there : (contents_of new).files id ≡ Some (at_rest []) = ap (λ (d : Disk). d.files id) is ∙ file_here (contents_of old).files id (Some (at_rest [])) in
    let gone : (contents_of new).files id ≡ None = ap (option_map file_of) none in
    absurd (cc)

-- the node numbers with another file at one of them
pub held_put : (files : List (Option Stored)) (id : ℕ) (stored : Stored) → id < length files → (q : ℕ)
    → held_of (set files id (Some stored)) q ≡ update nat_eq (held_of files) id (Some (held stored)) q
held_put files id stored below q = elim (cases_eq q id) [
  | inl same ↦ subst (λ (i : ℕ). held_of (set files id (Some stored)) i ≡ update nat_eq (held_of files) id (Some (held stored)) i) (sym same)
      (ap (option_map held) (get_or-set_same files id (Some stored) None below) ∙ sym (file_here (held_of files) id (Some (held stored))))
  | inr apart ↦ ap (option_map held) (get_or-set_other files id q (Some stored) None apart)
      ∙ sym (file_apart (held_of files) id (Some (held stored)) q apart)
]

pub fills : (old new : Storage) (id : ℕ) (bytes : List ℕ) → new.paths ≡ old.paths
    → ((q : ℕ) → held_of new.files.items q ≡ update nat_eq (held_of old.files.items) id (Some (resting bytes)) q)
    → vec_len new.files ≡ vec_len old.files → FillsFile id bytes old new
fills old new id bytes paths files len file is =
    disk_ext (contents_of new) (with_file id (Some (at_rest bytes)) (contents_of old))
    (ap (λ p. (contents_of (record old { paths = p })).directories) paths) (ap (λ p. (contents_of (record old { paths = p })).names) paths)
    (fun_ext (updated id (held_of old.files.items) (held_of new.files.items) (Some (resting bytes)) files))
    len refl refl refl refl

-- at its number stands the new file, and at the others what did
fills_here : (old new : ℕ → Option Held) (id : ℕ) (file : Held) → ((q : ℕ) → new q ≡ update nat_eq old id (Some file) q) → new id ≡ Some file
fills_here old new id file files = files id ∙ file_here old id (Some file)

fills_apart : (old new : ℕ → Option Held) (id : ℕ) (file : Held) → ((q : ℕ) → new q ≡ update nat_eq old id (Some file) q) → (q : ℕ) → (q ≡ id → ⊥) → new q ≡ old q
fills_apart old new id file files q apart = files q ∙ file_apart old id (Some file) q apart

at_rest_rises : (next : ℕ) (bytes : List ℕ) (file : Held) → Some (resting bytes) ≡ Some file → Rises 0 next file.changes
at_rest_rises next bytes file is = let same : resting bytes ≡ file = cc in subst (λ (h : Held). Rises 0 next h.changes) same tt

pub whole_fills : (old new : Storage) (id : ℕ) (bytes : List ℕ) → IsStorageSound old → (held_of old.files.items id ≡ None → ⊥) → length bytes < file_limit → FillsFile id bytes old new
    → ((q : ℕ) → held_of new.files.items q ≡ update nat_eq (held_of old.files.items) id (Some (resting bytes)) q)
    → new.made ≡ old.made → IsStorageSound new
whole_fills old new id bytes whole there short filled files made =
    let F = held_of old.files.items in
    let G = held_of new.files.items in
    let file = some_file_held (F id) there in
    let is : (contents_of old).files id ≡ Some (file_of file.0) = ap (option_map file_of) file.1 in
    let now = fills_here F G id (resting bytes) files in
    record {
      sound = subst IsSound (sym (filled (file_of file.0) is))
          (sound_with_file (contents_of old) id (file_of file.0) (at_rest bytes) whole.sound is
          (record { stands = left_at_rest bytes; short = short; ends = All-nil _ }));
      stamped = subst (λ (n : ℕ). AreStamped n G) (sym made)
          (still_stamped old.made F G whole.stamped
          (λ q after at. elim (cases_eq q id) [
            | inl same ↦ at_rest_rises old.made bytes after (sym now ∙ (ap G (sym same) ∙ at))
            | inr apart ↦ whole.stamped.rise q after (sym (fills_apart F G id (resting bytes) files q apart) ∙ at)
          ])
          (λ a stamp had. elim (cases_eq a id) [
            | inl same ↦ subst (λ (i : ℕ). with_stamp stamp i (G i) ≡ []) (sym same) (ap (with_stamp stamp id) now)
            | inr apart ↦ ap (with_stamp stamp a) (fills_apart F G id (resting bytes) files a apart) ∙ had
          ]));
    }
