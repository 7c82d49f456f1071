-- Some files of a disk are taken as if they were synced as they stand: calls on the disk are calls on what it
-- becomes so.
use Rattle.std.specs.declared.io.ErrorKind.{ErrorKind}
use Rattle.std.proofs.Common.{◌≡◌, ℕ, Bool, true, false, Option, Some, None, List, take, refl, sym, ap, subst, ◌∙◌, inl, inr, nat_eq}
use Rattle.std.specs.Prelude.{cond}
use Rattle.std.specs.Option.{option_map}
use Rattle.std.specs.Map.{update}
use Rattle.std.proofs.lemmas.Bool.{cases_eq}
use std.Path.{fun_ext}
use Rattle.raft_log_fs.specs.Disk.{ShortenedTo, File, Disk, at_rest, with_file}
use Rattle.raft_log_fs.specs.Calls.{after_change, flushed, Changes, Refused}
use Rattle.raft_log_fs.specs.Calls.Refused.{after_stop, failed, stops, wrong_argument}
use Rattle.raft_log_fs.specs.declared.handle.Handle.{Handle}
use Rattle.raft_log_fs.proofs.Public.{file_apart, file_here, same_file}
use Rattle.raft_log_active_file.specs.TakingUp.{Trims}

abbrev pub settled_if : Bool → Option File → Option File
settled_if b o = cond b (option_map flushed o) o

abbrev pub settled_file : Bool → File → File
settled_file b file = cond b (flushed file) file

-- the disk with these files synced as they stand
abbrev pub settled_in : (ℕ → Bool) → Disk → Disk
settled_in E d = record d { files = λ j. settled_if (E j) (d.files j) }

-- Files.

some_settled : (b : Bool) (file : File) → settled_if b (Some file) ≡ Some (settled_file b file)
some_settled true file = refl
some_settled false file = refl

pub rest_settled : (b : Bool) (bytes : List ℕ) → settled_if b (Some (at_rest bytes)) ≡ Some (at_rest bytes)
rest_settled true bytes = refl
rest_settled false bytes = refl

pub none_settled : (b : Bool) → settled_if b None ≡ None
none_settled true = refl
none_settled false = refl

same_content : (b : Bool) (file : File) → (settled_file b file).content ≡ file.content
same_content true file = refl
same_content false file = refl

-- Updates.

settled_update : (E : ℕ → Bool) (f : ℕ → Option File) (k : ℕ) (w : Option File) (j : ℕ) → settled_if (E j) (update nat_eq f k w j) ≡ update nat_eq (λ i. settled_if (E i) (f i)) k (settled_if (E k) w) j
settled_update E f k w j = elim (cases_eq j k) [
  | inl same ↦
      subst (λ (x : ℕ). settled_if (E x) (update nat_eq f k w x) ≡ update nat_eq (λ i. settled_if (E i) (f i)) k (settled_if (E k) w) x) (sym same)
      (ap (settled_if (E k)) (file_here f k w) ∙ sym (file_here (λ i. settled_if (E i) (f i)) k (settled_if (E k) w)))
  | inr apart ↦ ap (settled_if (E j)) (file_apart f k w j apart) ∙ sym (file_apart (λ i. settled_if (E i) (f i)) k (settled_if (E k) w) j apart)
]

pub settled_updates : (E : ℕ → Bool) (f : ℕ → Option File) (k : ℕ) (w : Option File) → (λ j. settled_if (E j) (update nat_eq f k w j)) ≡ update nat_eq (λ i. settled_if (E i) (f i)) k (settled_if (E k) w)
settled_updates E f k w = fun_ext (settled_update E f k w)

pub settled_with : (E : ℕ → Bool) (k : ℕ) (w : Option File) (d : Disk) → settled_in E (with_file k w d) ≡ with_file k (settled_if (E k) w) (settled_in E d)
settled_with E k w d = ap (λ (x : ℕ → Option File). record d { files = x }) (settled_updates E d.files k w)

twice : (f : ℕ → Option File) (k : ℕ) (v w : Option File) (j : ℕ) → update nat_eq (update nat_eq f k v) k w j ≡ update nat_eq f k w j
twice f k v w j = elim (cases_eq j k) [
  | inl same ↦ subst (λ (x : ℕ). update nat_eq (update nat_eq f k v) k w x ≡ update nat_eq f k w x) (sym same) (file_here (update nat_eq f k v) k w ∙ sym (file_here f k w))
  | inr apart ↦ file_apart (update nat_eq f k v) k w j apart ∙ file_apart f k v j apart ∙ sym (file_apart f k w j apart)
]

with_twice : (k : ℕ) (v w : Option File) (d : Disk) → with_file k w (with_file k v d) ≡ with_file k w d
with_twice k v w d = ap (λ (x : ℕ → Option File). record d { files = x }) (fun_ext (twice d.files k v w))

-- Calls.

module _ (E : ℕ → Bool) where
  -- on a file that is none of these
  pub settled_change : (id : ℕ) (next : File → File) (old new : Disk) → E id ≡ false → Changes id next old new → Changes id next (settled_in E old) (settled_in E new)
  settled_change id next old new none c = record {
    runs = c.runs;
    file = c.file;
    is = ap (λ (b : Bool). settled_if b (old.files id)) none ∙ c.is;
    done = ap (settled_in E) c.done ∙ settled_with E id (Some (next c.file)) old ∙ ap (λ (b : Bool). with_file id (settled_if b (Some (next c.file))) (settled_in E old)) none;
  }

  pub settled_sync : (id : ℕ) (old new : Disk) → Changes id flushed old new → Changes id flushed (settled_in E old) (settled_in E new)
  settled_sync id old new c = record {
    runs = c.runs;
    file = settled_file (E id) c.file;
    is = ap (settled_if (E id)) c.is ∙ some_settled (E id) c.file;
    done =
        ap (settled_in E) c.done ∙ settled_with E id (Some (flushed c.file)) old
        ∙ ap (λ (o : Option File). with_file id o (settled_in E old)) (rest_settled (E id) c.file.content ∙ ap (λ (bytes : List ℕ). Some (at_rest bytes)) (sym (same_content (E id) c.file)));
  }

  pub settled_trim : (handle : Handle) (size : ℕ) (old new : Disk) → Trims handle size old new → Trims handle size (settled_in E old) (settled_in E new)
  settled_trim handle size old new t =
      let id : ℕ = handle.file in
      let c = t.shortens in
      let file : File = settled_file (E id) c.file in
      let cut : Disk = with_file id (Some (after_change (ShortenedTo size) file)) (settled_in E old) in
      let was : t.syncs.file ≡ after_change (ShortenedTo size) c.file =
      same_file t.cut id t.syncs.file (after_change (ShortenedTo size) c.file) t.syncs.is (ap (λ (d : Disk). d.files id) c.done ∙ file_here old.files id (Some (after_change (ShortenedTo size) c.file))) in
      let bytes : List ℕ = take size c.file.content in
      let new_is : new ≡ with_file id (Some (at_rest bytes)) old =
      t.syncs.done ∙ ap (λ (f : File). with_file id (Some (at_rest f.content)) t.cut) was ∙ ap (λ (d : Disk). with_file id (Some (at_rest bytes)) d) c.done ∙ with_twice id (Some (after_change (ShortenedTo size) c.file)) (Some (at_rest bytes)) old in
      record {
        cut = cut;
        shortens = record { runs = c.runs; file = file; is = ap (settled_if (E id)) c.is ∙ some_settled (E id) c.file; done = refl };
        syncs = record {
          runs = c.runs;
          file = after_change (ShortenedTo size) file;
          is = file_here (settled_in E old).files id (Some (after_change (ShortenedTo size) file));
          done =
              ap (settled_in E) new_is ∙ settled_with E id (Some (at_rest bytes)) old ∙ ap (λ (o : Option File). with_file id o (settled_in E old)) (rest_settled (E id) bytes)
              ∙ ap (λ (l : List ℕ). with_file id (Some (at_rest (take size l))) (settled_in E old)) (sym (same_content (E id) c.file))
              ∙ sym (with_twice id (Some (after_change (ShortenedTo size) file)) (Some (at_rest (take size file.content))) (settled_in E old));
        };
      }

  -- that was refused
  pub settled_refusal : {part done part_then done_then : Disk → Type 0} {wrong wrong_then : ErrorKind → Type 0} (error : ErrorKind) (old new : Disk)
      → ((left : Disk) → part left → part_then (settled_in E left)) → ((left : Disk) → done left → done_then (settled_in E left))
      → ((e : ErrorKind) → wrong e → wrong_then e) → ((e : ErrorKind) → wrong_then e → wrong e)
      → Refused part done wrong error old new → Refused part_then done_then wrong_then error (settled_in E old) (settled_in E new)
  settled_refusal error old new parts dones to back (after_stop stopped same told) = after_stop stopped (ap (settled_in E) same) told
  settled_refusal error old new parts dones to back (wrong_argument runs is same) = wrong_argument runs (to error is) (ap (settled_in E) same)
  settled_refusal error old new parts dones to back (failed runs right left some is) = failed runs (λ e w. right e (back e w)) (settled_in E left) (parts left some) (ap (settled_in E) is)
  settled_refusal error old new parts dones to back (stops runs told left what is) =
      stops runs told (settled_in E left)
      (elim what [
        | inl same ↦ inl (ap (settled_in E) same)
        | inr (right, which) ↦ inr (λ e w. right e (back e w), elim which [ inl some ↦ inl (parts left some) | inr all ↦ inr (dones left all) ])
      ])
      (ap (settled_in E) is)
