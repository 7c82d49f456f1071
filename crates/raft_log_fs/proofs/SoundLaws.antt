-- Each call, answered or refused, leaves a sound disk sound.
use Rattle.std.specs.Prelude.{◌≡◌, ℕ, ◌<◌, ◌⊎◌, Bool, true, false, cond, Option, Some, None, List, []}
use Rattle.std.specs.Map.{update}
use Rattle.std.specs.Str.{bytes_eq}
use Rattle.std.specs.declared.io.ErrorKind.{ErrorKind}
use Rattle.std.proofs.Common.{refl, sym, ◌∙◌, ap, subst, arith, inl, inr, nat_eq}
use Rattle.std.proofs.lemmas.List.Elements.{All-nil, All-push}
use Rattle.std.proofs.lemmas.Bool.{cases_eq, cases_Bool}
use Rattle.std.proofs.lemmas.Slice.Eq.{bytes_eq-Decides}
use Rattle.raft_log_fs.specs.Disk.{Change, File, Disk, HasDirectory, IsPathIn, at_rest, with_file, file_limit}
use Rattle.raft_log_fs.specs.Image.{end_of, IsSoundFile, IsSound}
use Rattle.raft_log_fs.specs.Calls.{with_change, after_change, flushed, created, deleted, without, renamed, with_directory, counted, at_stop, InPart}
use Rattle.raft_log_fs.proofs.ImageLaws.{left_at_rest, rest_sound}
use Rattle.raft_log_fs.proofs.ChangeLaws.{part_may, left_changed, changed_in_part}
use Rattle.raft_log_fs.proofs.PathLaws.{home_there}
use Rattle.raft_log_fs.proofs.Updates.{name_case, file_case, file_here, file_apart}

pub empty_sound : IsSoundFile (at_rest [])
empty_sound = record { stands = left_at_rest []; short = omega arith; ends = All-nil _ }

-- a file is sound after a change in part, if the change is short of the limit
pub sound_with_change : (file : File) (change : Change) (content : List ℕ) → IsSoundFile file → InPart change file.content content → end_of change < file_limit
    → IsSoundFile (with_change change content file)
sound_with_change file change content sound part short = record {
  stands = left_changed file change content file.content content sound.stands (part_may change file.content content part);
  short = sound.short;
  ends = All-push (λ p. end_of p < file_limit) file.changes change sound.ends short;
}

-- and after a whole one
pub sound_after_change : (file : File) (change : Change) → IsSoundFile file → end_of change < file_limit → IsSoundFile (after_change change file)
sound_after_change file change sound short = sound_with_change file change _ sound (changed_in_part change file.content) short

-- and after a sync
pub sound_flushed : (file : File) → IsSoundFile file → IsSoundFile (flushed file)
sound_flushed file sound = rest_sound file file.content sound sound.stands

-- the disk, where one file became another sound one
pub sound_with_file : (d : Disk) (id : ℕ) (old next : File) → IsSound d → d.files id ≡ Some old → IsSoundFile next → IsSound (with_file id (Some next) d)
sound_with_file d id old next sound is fine = record {
  named = λ path j at none. elim (file_case d.files id (Some next) j None none) [ inl here ↦ cc (here.1) | inr there ↦ sound.named path j at there.1 ];
  one_name = sound.one_name;
  apart = sound.apart;
  home = sound.home;
  fresh = λ j above. file_apart d.files id (Some next) j (λ same. cc (sound.fresh j above)) ∙ sound.fresh j above;
  files = λ j file at. elim (file_case d.files id (Some next) j (Some file) at) [
    | inl here ↦ (let same : next ≡ file = cc (here.1) in subst IsSoundFile same fine)
    | inr there ↦ sound.files j file there.1
  ];
}

-- after a failure, at a stop, and with other marks
pub sound_counted : (error : ErrorKind) (d : Disk) → IsSound d → IsSound (counted error d)
sound_counted error d sound = record { named = sound.named; one_name = sound.one_name; apart = sound.apart; home = sound.home; fresh = sound.fresh; files = sound.files }

pub sound_at_stop : (d : Disk) → IsSound d → IsSound (at_stop d)
sound_at_stop d sound = record { named = sound.named; one_name = sound.one_name; apart = sound.apart; home = sound.home; fresh = sound.fresh; files = sound.files }

-- with a new file
pub sound_created : (d : Disk) (path : List ℕ) → IsSound d → d.names path ≡ None → d.directories path ≡ false → HasDirectory path d → IsSound (created path d)
sound_created d path sound free apart home = record {
  named = λ p j at none. elim (file_case d.files d.unused (Some (at_rest [])) j None none) [
    | inl here ↦ cc (here.1)
    | inr there ↦ elim (name_case d.names path (Some d.unused) p (Some j) at) [
      | inl new ↦ there.0 (let same : d.unused ≡ j = cc (new.1) in sym same)
      | inr old ↦ sound.named p j old.1 there.1
    ]
  ];
  one_name = λ a b j at_a at_b. elim (name_case d.names path (Some d.unused) a (Some j) at_a) [
    | inl new_a ↦ elim (name_case d.names path (Some d.unused) b (Some j) at_b) [
      | inl new_b ↦ new_a.0 ∙ sym new_b.0
      | inr old_b ↦ absurd (used b j old_b.1 (cc (new_a.1)))
    ]
    | inr old_a ↦ elim (name_case d.names path (Some d.unused) b (Some j) at_b) [
      | inl new_b ↦ absurd (used a j old_a.1 (cc (new_b.1)))
      | inr old_b ↦ sound.one_name a b j old_a.1 old_b.1
    ]
  ];
  apart = λ p j at. elim (name_case d.names path (Some d.unused) p (Some j) at) [
    | inl new ↦ ap d.directories new.0 ∙ apart
    | inr old ↦ sound.apart p j old.1
  ];
  home = λ q p j at inside. elim (name_case d.names path (Some d.unused) p (Some j) at) [
    | inl new ↦ home_there q path d home (subst (IsPathIn q) new.0 inside)
    | inr old ↦ sound.home q p j old.1 inside
  ];
  fresh = λ j above. file_apart d.files d.unused (Some (at_rest [])) j (λ same. omega (arith, same)) ∙ sound.fresh j (omega arith);
  files = λ j file at. elim (file_case d.files d.unused (Some (at_rest [])) j (Some file) at) [
    | inl new ↦ (let same : at_rest [] ≡ file = cc (new.1) in subst IsSoundFile same empty_sound)
    | inr old ↦ sound.files j file old.1
  ];
}
  where
    used : (p : List ℕ) (j : ℕ) → d.names p ≡ Some j → j ≡ d.unused → ⊥
    used p j at same = sound.named p j at (sound.fresh j (omega (arith, same)))

-- without a name and its file
pub sound_deleted : (d : Disk) (path : List ℕ) (id : ℕ) → IsSound d → d.names path ≡ Some id → IsSound (deleted path id d)
sound_deleted d path id sound is = record {
  named = λ p j at none. let old = kept p j at in
      sound.named p j old.1 (sym (file_apart d.files id None j (λ same. old.0 (sound.one_name p path j old.1 (is ∙ ap Some (sym same))))) ∙ none);
  one_name = λ a b j at_a at_b. sound.one_name a b j (kept a j at_a).1 (kept b j at_b).1;
  apart = λ p j at. sound.apart p j (kept p j at).1;
  home = λ q p j at. sound.home q p j (kept p j at).1;
  fresh = λ j above. elim (cases_eq j id) [
    | inl same ↦ subst (λ (q : ℕ). update nat_eq d.files id None q ≡ None) (sym same) (file_here d.files id None)
    | inr apart ↦ file_apart d.files id None j apart ∙ sound.fresh j above
  ];
  files = λ j file at. elim (file_case d.files id None j (Some file) at) [
    | inl gone ↦ cc (gone.1)
    | inr old ↦ sound.files j file old.1
  ];
}
  where
    kept : (p : List ℕ) (j : ℕ) → update bytes_eq d.names path None p ≡ Some j → (p ≡ path → ⊥) × (d.names p ≡ Some j)
    kept p j at = elim (name_case d.names path None p (Some j) at) [ inl gone ↦ cc (gone.1) | inr old ↦ old ]

-- what stays where the file of another name went
without_case : (o : Option ℕ) (files : ℕ → Option File) (j : ℕ) (file : File) → without o files j ≡ Some file → files j ≡ Some file
without_case None files j file at = at
without_case (Some id) files j file at = elim (file_case files id None j (Some file) at) [ inl gone ↦ cc (gone.1) | inr old ↦ old.1 ]

pub without_apart : (o : Option ℕ) (files : ℕ → Option File) (j : ℕ) → (o ≡ Some j → ⊥) → without o files j ≡ files j
without_apart None files j apart = refl
without_apart (Some id) files j apart = file_apart files id None j (λ same. apart (ap Some (sym same)))

without_none : (o : Option ℕ) (files : ℕ → Option File) (j : ℕ) → files j ≡ None → without o files j ≡ None
without_none None files j none = none
without_none (Some id) files j none = elim (cases_eq j id) [
  | inl same ↦ subst (λ (q : ℕ). update nat_eq files id None q ≡ None) (sym same) (file_here files id None)
  | inr apart ↦ file_apart files id None j apart ∙ none
]

-- with a file under another name
pub sound_renamed : (d : Disk) (from to : List ℕ) (id : ℕ) → IsSound d → d.names from ≡ Some id → d.directories to ≡ false → HasDirectory to d → IsSound (renamed from to id d)
sound_renamed d from to id sound is apart home = record {
  named = λ p j at none. elim (moved p j at) [
    | inl new ↦ sound.named from id is (sym (file_here (without (d.names to) d.files) id (d.files id))
        ∙ subst (λ (q : ℕ). update nat_eq (without (d.names to) d.files) id (d.files id) q ≡ None) (sym new.1) none)
    | inr old ↦ sound.named p j old.2
        (sym (without_apart (d.names to) d.files j (λ lost. old.0 (sound.one_name p to j old.2 lost)))
        ∙ (sym (file_apart (without (d.names to) d.files) id (d.files id) j (λ same. old.1 (sound.one_name p from j old.2 (is ∙ ap Some (sym same))))) ∙ none))
  ];
  one_name = λ a b j at_a at_b. elim (moved a j at_a) [
    | inl new_a ↦ elim (moved b j at_b) [
      | inl new_b ↦ new_a.0 ∙ sym new_b.0
      | inr old_b ↦ absurd (old_b.1 (sound.one_name b from j old_b.2 (is ∙ ap Some new_a.1)))
    ]
    | inr old_a ↦ elim (moved b j at_b) [
      | inl new_b ↦ absurd (old_a.1 (sound.one_name a from j old_a.2 (is ∙ ap Some new_b.1)))
      | inr old_b ↦ sound.one_name a b j old_a.2 old_b.2
    ]
  ];
  apart = λ p j at. elim (moved p j at) [ inl new ↦ ap d.directories new.0 ∙ apart | inr old ↦ sound.apart p j old.2 ];
  home = λ q p j at inside. elim (moved p j at) [
    | inl new ↦ home_there q to d home (subst (IsPathIn q) new.0 inside)
    | inr old ↦ sound.home q p j old.2 inside
  ];
  fresh = λ j above. elim (cases_eq j id) [
    | inl same ↦ subst (λ (q : ℕ). update nat_eq (without (d.names to) d.files) id (d.files id) q ≡ None) (sym same)
        (file_here (without (d.names to) d.files) id (d.files id) ∙ sound.fresh id (omega (arith, same)))
    | inr other ↦ file_apart (without (d.names to) d.files) id (d.files id) j other ∙ without_none (d.names to) d.files j (sound.fresh j above)
  ];
  files = λ j file at. elim (file_case (without (d.names to) d.files) id (d.files id) j (Some file) at) [
    | inl here ↦ sound.files id file here.1
    | inr there ↦ sound.files j file (without_case (d.names to) d.files j file there.1)
  ];
}
  where
    moved : (p : List ℕ) (j : ℕ) → update bytes_eq (update bytes_eq d.names from None) to (Some id) p ≡ Some j
        → ((p ≡ to) × (id ≡ j)) ⊎ ((p ≡ to → ⊥) × (p ≡ from → ⊥) × (d.names p ≡ Some j))
    moved p j at = elim (name_case (update bytes_eq d.names from None) to (Some id) p (Some j) at) [
      | inl new ↦ (let same : id ≡ j = cc (new.1) in inl (new.0, same))
      | inr old ↦ elim (name_case d.names from None p (Some j) old.1) [ inl gone ↦ cc (gone.1) | inr older ↦ inr (old.0, older.0, older.1) ]
    ]

-- with one more directory
pub sound_with_directory : (d : Disk) (path : List ℕ) → IsSound d → d.names path ≡ None → IsSound (with_directory path d)
sound_with_directory d path sound free = record {
  named = sound.named;
  one_name = sound.one_name;
  fresh = sound.fresh;
  files = sound.files;
  apart = λ p j at. elim (cases_Bool (bytes_eq path p)) [
    | inl hit ↦ (let same : path ≡ p = (bytes_eq-Decides path p).0 hit in let none : d.names p ≡ None = ap d.names (sym same) ∙ free in cc (none, at))
    | inr miss ↦ ap (λ (b : Bool). cond b true (d.directories p)) miss ∙ sound.apart p j at
  ];
  home = λ q p j at inside. elim (cases_Bool (bytes_eq path q)) [
    | inl hit ↦ ap (λ (b : Bool). cond b true (d.directories q)) hit
    | inr miss ↦ ap (λ (b : Bool). cond b true (d.directories q)) miss ∙ sound.home q p j at inside
  ];
}
