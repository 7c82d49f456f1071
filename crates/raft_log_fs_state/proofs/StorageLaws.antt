-- A step of one file's bytes is a step of one file of the disk, and of a name a step of the names.
use Rattle.std.specs.Prelude.{◌≡◌, ℕ, ◌≤◌, Bool, cond, Option, Some, None, List, [], ◌∷◌, ◌++◌, length}
use Rattle.std.specs.Option.{option_map}
use Rattle.std.specs.Map.{update}
use Rattle.std.proofs.Common.{sym, ◌∙◌, ap, subst, arith, inl, inr, nat_eq}
use Rattle.std.specs.Str.{bytes_eq}
use Rattle.std.proofs.lemmas.List.{get_or_append_left, get_or_push, get_or_past, length-append, map-append}
use Rattle.std.proofs.lemmas.Slice.Eq.{bytes_eq-Decides}
use Rattle.std.proofs.lemmas.Bool.{cases_eq, cases_lt, cases_Bool}
use Rattle.raft_log_fs.specs.Disk.{Change, File, changed}
use Rattle.raft_log_fs.proofs.Public.{file_apart, file_here}
use Rattle.raft_log_fs_state.specs.declared.files.Stored.{Stored}
use Rattle.raft_log_fs_state.specs.declared.storage.Node.{Node}
use Rattle.raft_log_fs_state.specs.Changes.{Made}
use Rattle.raft_log_fs_state.specs.Changes.{with_rest}
use Rattle.raft_log_fs_state.specs.Steps.{after_part}
use Rattle.raft_log_fs_state.specs.Held.{Held, held, held_of, with_made, file_of}

-- another state of one file
pub updated : (id : ℕ) (old new : ℕ → Option Held) (w : Option Held) → ((q : ℕ) → new q ≡ update nat_eq old id w q) → (q : ℕ)
    → option_map file_of (new q) ≡ update nat_eq (λ i. option_map file_of (old i)) id (option_map file_of w) q
updated id old new w is q = elim (cases_eq q id) [
  | inl same ↦ subst (λ (i : ℕ). option_map file_of (new i) ≡ update nat_eq (λ j. option_map file_of (old j)) id (option_map file_of w) i) (sym same)
      (ap (option_map file_of) (is id ∙ file_here old id w) ∙ sym (file_here (λ i. option_map file_of (old i)) id (option_map file_of w)))
  | inr apart ↦
      ap (option_map file_of) (is q ∙ file_apart old id w q apart)
      ∙ sym (file_apart (λ i. option_map file_of (old i)) id (option_map file_of w) q apart)
]

-- a file with one more change, as the disk has it
pub file_of-with_made : (stamp : ℕ) (change : Change) (rest : List ℕ) (file : Held) → file_of (with_made stamp change rest file) ≡ after_part change rest (file_of file)
file_of-with_made stamp change rest file =
    ap (λ (cs : List Change). let f : File = record { content = changed change file.content; synced = file.synced; changes = cs } in f)
    (map-append (λ (m : Made). with_rest m.change m.rest) file.changes (record { stamp = stamp; change = change; rest = rest } ∷ []))

-- A function of what stands at a key, after an update
pub mapped : {X : Type 0} (f : Option Node → X) (N : List ℕ → Option Node) (path : List ℕ) (w : Option Node) (q : List ℕ)
    → f (update bytes_eq N path w q) ≡ cond (bytes_eq path q) (f w) (f (N q))
mapped f N path w q = elim (cases_Bool (bytes_eq path q)) [
  | inl hit ↦ ap (λ (b : Bool). f (cond b w (N q))) hit ∙ sym (ap (λ (b : Bool). cond b (f w) (f (N q))) hit)
  | inr lost ↦ ap (λ (b : Bool). f (cond b w (N q))) lost ∙ sym (ap (λ (b : Bool). cond b (f w) (f (N q))) lost)
]

-- where the name was free, a file's name leaves the directories as they were
pub same_there : {X : Type 0} (f : Option Node → X) (N : List ℕ → Option Node) (path : List ℕ) (w : Option Node) → f w ≡ f (N path) → (q : List ℕ)
    → f (update bytes_eq N path w q) ≡ f (N q)
same_there f N path w same q = mapped f N path w q ∙ elim (cases_Bool (bytes_eq path q)) [
  | inl hit ↦ ap (λ (b : Bool). cond b (f w) (f (N q))) hit ∙ (same ∙ ap (λ (p : List ℕ). f (N p)) ((bytes_eq-Decides path q).0 hit))
  | inr lost ↦ ap (λ (b : Bool). cond b (f w) (f (N q))) lost
]

-- the node numbers with one more file
pub held_pushed : (files : List (Option Stored)) (empty : Stored) (count : ℕ) → count ≡ length files → (q : ℕ)
    → held_of (files ++ Some empty ∷ []) q ≡ update nat_eq (held_of files) count (Some (held empty)) q
held_pushed files empty count is q = elim (cases_lt q (length files)) [
  | inl below ↦ ap (option_map held) (get_or_append_left files (Some empty ∷ []) None q below)
      ∙ sym (file_apart (held_of files) count (Some (held empty)) q (λ same. omega (arith, same, is, below)))
  | inr from ↦ elim (cases_eq q (length files)) [
    | inl last ↦ ap (option_map held) (get_or_push files (Some empty) None q (sym last))
        ∙ sym (subst (λ (n : ℕ). update nat_eq (held_of files) count (Some (held empty)) n ≡ Some (held empty)) (is ∙ sym last) (file_here (held_of files) count (Some (held empty))))
    | inr past ↦
        let over : length (files ++ Some empty ∷ []) ≤ q = omega (arith, length-append files (Some empty ∷ []), from, past) in
        ap (option_map held) (get_or_past (files ++ Some empty ∷ []) q None over ∙ sym (get_or_past files q None from))
        ∙ sym (file_apart (held_of files) count (Some (held empty)) q (λ same. past (same ∙ is)))
  ]
]

-- a file put back where it was
pub put_back : {X : Type 0} (files : ℕ → Option X) (id : ℕ) (w : Option X) → files id ≡ w → (q : ℕ) → update nat_eq files id w q ≡ files q
put_back files id w is q = elim (cases_eq q id) [
  | inl same ↦ subst (λ (i : ℕ). update nat_eq files id w i ≡ files i) (sym same) (file_here files id w ∙ sym is)
  | inr apart ↦ file_apart files id w q apart
]
