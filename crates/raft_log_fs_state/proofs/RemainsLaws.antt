-- What a remainder leaves of a storage is an image, and the order of the calls says what.
use Rattle.std.specs.Prelude.{◌≡◌, ℕ, ◌<◌, cond, Option, Some, None, List, [], ◌∷◌, length, vec_len}
use Rattle.std.specs.List.{All, AllZip}
use Rattle.std.specs.List.Sorted.{IsPermutation}
use Rattle.std.specs.Map.{lookup}
use Rattle.std.specs.BTreeMap.{is_at}
use Rattle.std.specs.Cmp.Lexicographic.{slice_cmp}
use Rattle.std.specs.Option.{option_map}
use Rattle.std.specs.Ordering.{nat_cmp, is_eq}
use Rattle.std.specs.String.{string_bytes}
use Rattle.std.proofs.Common.{refl, sym, ◌∙◌, ap, subst, arith, inl, inr, String, Global}
use Rattle.std.proofs.lemmas.Bool.{cases_lt}
use Rattle.std.proofs.lemmas.List.{get_or_past}
use std.Path.{fun_ext}
use Rattle.raft_log_fs.specs.Disk.{at_rest, file_limit}
use Rattle.raft_log_fs.specs.Image.{end_of, IsLeft, IsFileImage, IsImage}
use Rattle.raft_log_fs.proofs.Public.{disk_ext}
use Rattle.raft_log_fs_state.specs.declared.files.Stored.{Stored}
use Rattle.raft_log_fs_state.specs.declared.remainder.Remainder.{Remainder}
use Rattle.raft_log_fs_state.specs.declared.storage.Node.{Node}
use Rattle.raft_log_fs_state.specs.declared.storage.Storage.{Storage}
use Rattle.raft_log_fs_state.specs.Held.{Held, held, held_of, changes_in, file_of}
use Rattle.raft_log_fs_state.specs.Left.{left_of, left_file, left_disk}
use Rattle.raft_log_fs_state.specs.Order.{with_stamp, in_order, Rises, AreStamped}
use Rattle.raft_log_fs_state.specs.Stamps.{stamps_of, place_in, left_held}
use Rattle.raft_log_fs_state.specs.Storage.{file_named, is_directory, node_at, contents_of, unsynced_of, IsStorageSound}
use Rattle.raft_log_fs_state.proofs.LeftLaws.{place_sorted, left_in_order, left_is_left}

-- a clone of the paths names the same
pub cloned : (es fs : List (String Global × Node)) → AllZip (λ p q. (string_bytes q.0 ≡ string_bytes p.0) × (q.1 ≡ p.1)) es fs → (path : List ℕ)
    → lookup (is_at (λ (q : String Global). slice_cmp nat_cmp path (string_bytes q))) fs ≡ lookup (is_at (λ (q : String Global). slice_cmp nat_cmp path (string_bytes q))) es
cloned [] [] zip path = refl
cloned [] (f ∷ fs) zip path = absurd zip
cloned (e ∷ es) [] zip path = absurd zip
cloned (e ∷ es) (f ∷ fs) (here, more) path =
    ap (λ (bs : List ℕ). cond (is_eq (slice_cmp nat_cmp path bs)) (Some f.1) (lookup (is_at (λ (q : String Global). slice_cmp nat_cmp path (string_bytes q))) fs)) here.0
    ∙ (ap (λ (n : Node). cond (is_at (λ (q : String Global). slice_cmp nat_cmp path (string_bytes q)) e.0) (Some n) (lookup (is_at (λ (q : String Global). slice_cmp nat_cmp path (string_bytes q))) fs)) here.1
    ∙ ap (λ (o : Option Node). cond (is_at (λ (q : String Global). slice_cmp nat_cmp path (string_bytes q)) e.0) (Some e.1) o) (cloned es fs more path))

-- a file that is there has a node number below the next one
below : (files : List (Option Stored)) (id : ℕ) (file : Held) → held_of files id ≡ Some file → id < length files
below files id file is = elim (cases_lt id (length files)) [
  | inl less ↦ less
  | inr past ↦ absurd (no_file (sym (ap (option_map held) (get_or_past files id None past)) ∙ is))
]
  where
    no_file : None ≡ Some file → ⊥
    no_file e = cc

-- each change of a whole storage is short of the limit
pub ends_short : (storage : Storage) → IsStorageSound storage → (id : ℕ) (file : Held) → held_of storage.files.items id ≡ Some file → All (λ c. end_of c < file_limit) (changes_in file.changes)
ends_short storage whole id file is = (whole.sound.files id (file_of file) (ap (option_map file_of) is)).ends

-- what is left of a file by the places that its stamps tell is what the order of the calls says
file_left : (what : Remainder) (storage : Storage) (place : ℕ → ℕ) → AreStamped storage.made (held_of storage.files.items)
    → ((s : ℕ) → place s ≡ length (in_order s (held_of storage.files.items) (vec_len storage.files)))
    → (id : ℕ) (o : Option Held) → held_of storage.files.items id ≡ o
    → option_map file_of (option_map (left_held what place) o) ≡ option_map (left_file what (unsynced_of storage) id) (option_map file_of o)
file_left what storage place are places id None is = refl
file_left what storage place are places id (Some file) is =
    let inside : id < vec_len storage.files = omega (arith, below storage.files.items id file is, storage.files.ok) in
    ap (λ (bytes : List ℕ). Some (at_rest bytes))
    (left_in_order what place storage.made (vec_len storage.files) id (held_of storage.files.items) file file.synced are inside is places)

pub left_contents : (what : Remainder) (old new : Storage) (stamps : List ℕ) → IsStorageSound old
    → IsPermutation (stamps_of (held_of old.files.items) (vec_len old.files)) stamps
    → ((q : List ℕ) → node_at new q ≡ node_at old q)
    → ((q : ℕ) → held_of new.files.items q ≡ option_map (left_held what (place_in stamps)) (held_of old.files.items q))
    → vec_len new.files ≡ vec_len old.files → contents_of new ≡ left_disk what (unsynced_of old) (contents_of old)
left_contents what old new stamps whole perm nodes files len =
    disk_ext (contents_of new) (left_disk what (unsynced_of old) (contents_of old))
    (fun_ext (λ q. ap is_directory (nodes q))) (fun_ext (λ q. ap file_named (nodes q)))
    (fun_ext (λ q. ap (option_map file_of) (files q)
    ∙ file_left what old (place_in stamps) whole.stamped (place_sorted (held_of old.files.items) (vec_len old.files) stamps perm) q (held_of old.files.items q) refl))
    len refl refl refl refl

left_image : (what : Remainder) (storage : Storage) → AreStamped storage.made (held_of storage.files.items) → (id : ℕ) (o : Option Held) → held_of storage.files.items id ≡ o
    → IsFileImage (option_map file_of o) (option_map (left_file what (unsynced_of storage) id) (option_map file_of o))
left_image what storage are id None is = tt
left_image what storage are id (Some file) is =
    let inside : id < vec_len storage.files = omega (arith, below storage.files.items id file is, storage.files.ok) in
    let place : ℕ → ℕ = λ s. length (in_order s (held_of storage.files.items) (vec_len storage.files)) in (
      left_of what 0 id (unsynced_of storage) file.synced,
      refl,
      subst (IsLeft (file_of file)) (left_in_order what place storage.made (vec_len storage.files) id (held_of storage.files.items) file file.synced are inside is (λ s. refl))
          (left_is_left what place file),
    )

pub left_is_image : (what : Remainder) (storage : Storage) → IsStorageSound storage → IsImage (contents_of storage) (left_disk what (unsynced_of storage) (contents_of storage))
left_is_image what storage whole = record {
  directories = refl;
  names = refl;
  unused = refl;
  files = λ id. left_image what storage whole.stamped id (held_of storage.files.items id) refl;
  readable = λ id place. refl;
  running = refl;
  uncounted = refl;
  untold = refl;
}

no_stamp : (what : Remainder) (place : ℕ → ℕ) (stamp id : ℕ) (o : Option Held) → with_stamp stamp id (option_map (left_held what place) o) ≡ []
no_stamp what place stamp id None = refl
no_stamp what place stamp id (Some file) = refl

no_changes : (what : Remainder) (place : ℕ → ℕ) (o : Option Held) (file : Held) → option_map (left_held what place) o ≡ Some file → file.changes ≡ []
no_changes what place None file is = absurd (cc)
no_changes what place (Some old) file is = let same : left_held what place old ≡ file = cc in subst (λ (h : Held). h.changes ≡ []) same refl

-- files at rest need no stamps
pub left_stamped : (what : Remainder) (place : ℕ → ℕ) (old new : ℕ → Option Held) → ((q : ℕ) → new q ≡ option_map (left_held what place) (old q)) → AreStamped 0 new
left_stamped what place old new files = record {
  rise = λ id file is. subst (Rises 0 0) (sym (no_changes what place (old id) file (sym (files id) ∙ is))) tt;
  alone = λ a b stamp has_a has_b. absurd (has_a (ap (with_stamp stamp a) (files a) ∙ no_stamp what place stamp a (old a)));
}
