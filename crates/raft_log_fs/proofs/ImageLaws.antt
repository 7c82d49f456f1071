-- The laws of images: the files as they stand are one, after a sync of all they are the only one, an image of an image
-- is an image, and any byte may stand in a written range.
use Rattle.std.specs.Prelude.{◌≡◌, ℕ, ◌-◌, ◌<◌, ◌≤◌, Bool, Option, Some, None, List, [], length}
use Rattle.std.specs.List.{All, Contains}
use Rattle.std.specs.Option.{option_map}
use Rattle.std.specs.declared.io.ErrorKind.{ErrorKind}
use Rattle.std.proofs.Common.{refl, sym, ◌∙◌, ap, subst, arith, inl, inr}
use Rattle.std.proofs.Math.ListN.{set}
use Rattle.std.proofs.lemmas.List.{ext_get_or, get_or-set_other, length-set}
use Rattle.std.proofs.lemmas.List.Elements.{All-nil, All-contains, All-weaker}
use Rattle.std.proofs.lemmas.Bool.{cases_lt, false≢true}
use std.Path.{fun_ext}
use Rattle.raft_log_fs.specs.Disk.{Change, File, Disk, at_rest, file_limit}
use Rattle.raft_log_fs.specs.Laws.{SyncedFileHasOneImage, NamedIsUsed, AbsentHoldsNoName, ImagesStay}
use Rattle.raft_log_fs.specs.Calls.{with_marks, counted, at_stop, flushed}
use Rattle.raft_log_fs.specs.Image.{Touches, Spares, end_of, IsLeft, IsFileImage, IsImage, IsSoundFile, IsSound, as_it_stands, IsAllSynced}

-- bytes at rest are what is left of them
pub left_at_rest : (bytes : List ℕ) → IsLeft (at_rest bytes) bytes
left_at_rest bytes = record { kept = λ place below spared. (below, refl); within = λ size fits ends. fits }

-- and nothing else is
pub only_at_rest : (file : File) (bytes : List ℕ) → file.changes ≡ [] → IsLeft file bytes → bytes ≡ file.synced
only_at_rest file bytes none left =
    let spared : (place : ℕ) → All (Spares place) file.changes = λ place. subst (All (Spares place)) (sym none) (All-nil _) in
    let short : length bytes ≤ length file.synced = left.within (length file.synced) (omega arith) (subst (All (λ change. end_of change ≤ length file.synced)) (sym none) (All-nil _)) in
    let long : length file.synced ≤ length bytes =
    elim (cases_lt (length bytes) (length file.synced)) [
      | inl less ↦ let more = (left.kept (length bytes) less (spared (length bytes))).0 in absurd (omega arith)
      | inr enough ↦ enough
    ] in
    ext_get_or 0 bytes file.synced (omega arith) (λ place below. (left.kept place (omega arith) (spared place)).1)

-- the content of a sound file without unsynced changes is what was synced
pub content_is_synced : (file : File) → IsSoundFile file → file.changes ≡ [] → file.content ≡ file.synced
content_is_synced file sound none = only_at_rest file file.content none sound.stands

file_stands : (o : Option File) → ((file : File) → o ≡ Some file → IsSoundFile file) → IsFileImage o (option_map flushed o)
file_stands None sound = tt
file_stands (Some file) sound = (file.content, refl, (sound file refl).stands)

file_only : (o image : Option File) → ((file : File) → o ≡ Some file → IsSoundFile file) → ((file : File) → o ≡ Some file → file.changes ≡ [])
    → IsFileImage o image → image ≡ option_map flushed o
file_only None None sound none is = refl
file_only None (Some after) sound none is = absurd is
file_only (Some before) None sound none is = absurd is
file_only (Some before) (Some after) sound none (bytes, at, left) =
    ap Some (at ∙ ap at_rest (only_at_rest before bytes (none before refl) left ∙ sym (content_is_synced before (sound before refl) (none before refl))))

file_twice : (o p q : Option File) → IsFileImage o p → IsFileImage p q → IsFileImage o q
file_twice None None None is again = tt
file_twice None None (Some r) is again = absurd again
file_twice None (Some r) q is again = absurd is
file_twice (Some f) None q is again = absurd is
file_twice (Some f) (Some r) None is again = absurd again
file_twice (Some f) (Some r) (Some s) (first, at, left) (second, then_at, left_again) =
    let same : second ≡ first = only_at_rest (at_rest first) second refl (subst (λ (x : File). IsLeft x second) at left_again) in
    (second, then_at, subst (IsLeft f) (sym same) left)

-- two disks are one where all they hold is
pub disk_ext : (d e : Disk) → d.directories ≡ e.directories → d.names ≡ e.names → d.files ≡ e.files → d.unused ≡ e.unused
    → d.unreadable ≡ e.unreadable → d.stopped ≡ e.stopped → d.failures ≡ e.failures → d.kinds ≡ e.kinds → d ≡ e
disk_ext d e directories names files unused unreadable stopped failures kinds =
    ap (λ (x : List ℕ → Bool). record d { directories = x }) directories
    ∙ ap (λ (x : List ℕ → Option ℕ). record d { directories = e.directories; names = x }) names
    ∙ ap (λ (x : ℕ → Option File). record d { directories = e.directories; names = e.names; files = x }) files
    ∙ ap (λ (x : ℕ). record e { unused = x; unreadable = d.unreadable; stopped = d.stopped; failures = d.failures; kinds = d.kinds }) unused
    ∙ ap (λ (x : ℕ → ℕ → Bool). record e { unreadable = x; stopped = d.stopped; failures = d.failures; kinds = d.kinds }) unreadable
    ∙ ap (λ (x : Bool). record e { stopped = x; failures = d.failures; kinds = d.kinds }) stopped
    ∙ ap (λ (x : ℕ). record e { failures = x; kinds = d.kinds }) failures
    ∙ ap (λ (x : List ErrorKind). record e { kinds = x }) kinds

-- where a file isn't absent, there is one
pub some_file : (o : Option File) → (o ≡ None → ⊥) → (file : File) × (o ≡ Some file)
some_file None there = absurd (there refl)
some_file (Some file) there = (file, refl)

-- the files as they stand are an image
pub stands_is_image : (d : Disk) → IsSound d → IsImage d (as_it_stands d)
stands_is_image d sound = record {
  directories = refl;
  names = refl;
  unused = refl;
  files = λ id. file_stands (d.files id) (sound.files id);
  readable = λ id place. refl;
  running = refl;
  uncounted = refl;
  untold = refl;
}

-- where all is synced, they are the only one
pub synced_is_only_image : (d image : Disk) → IsSound d → IsAllSynced d → IsImage d image → image ≡ as_it_stands d
synced_is_only_image d image sound synced is =
    disk_ext image (as_it_stands d) is.directories is.names
    (fun_ext (λ id. file_only (d.files id) (image.files id) (sound.files id) (synced id) (is.files id)))
    is.unused (fun_ext (λ id. fun_ext (λ place. is.readable id place))) is.running is.uncounted is.untold

-- and of one file that is synced
pub synced_file_has_one_image : SyncedFileHasOneImage
synced_file_has_one_image d image id file sound at none is =
    let all_none : (f : File) → d.files id ≡ Some f → f.changes ≡ [] = λ f there. (let same : file ≡ f = cc in subst (λ (g : File). g.changes ≡ []) same none) in
    file_only (d.files id) (image.files id) (sound.files id) all_none (is.files id) ∙ ap (option_map flushed) at

-- an image of an image is an image
pub image_of_image : (d image later : Disk) → IsImage d image → IsImage image later → IsImage d later
image_of_image d image later is again = record {
  directories = again.directories ∙ is.directories;
  names = again.names ∙ is.names;
  unused = again.unused ∙ is.unused;
  files = λ id. file_twice (d.files id) (image.files id) (later.files id) (is.files id) (again.files id);
  readable = again.readable;
  running = again.running;
  uncounted = again.uncounted;
  untold = again.untold;
}

-- in a written range, and behind a cut, any byte may be left
pub any_byte_left : (file : File) (bytes : List ℕ) (change : Change) (place byte : ℕ) → Contains file.changes change → Touches change place
    → IsLeft file bytes → IsLeft file (set bytes place byte)
any_byte_left file bytes change place byte is touched left = record {
  kept = λ q below spared.
      let apart : q ≡ place → ⊥ = λ same. All-contains (Spares q) file.changes change spared is (subst (Touches change) (sym same) touched) in
      let old = left.kept q below spared in
      (subst (λ (n : ℕ). q < n) (sym (length-set bytes place byte)) old.0, get_or-set_other bytes place q byte 0 apart ∙ old.1);
  within = λ size fits ends. subst (λ (n : ℕ). n ≤ size) (sym (length-set bytes place byte)) (left.within size fits ends);
}

-- what is left of a sound file is sound
pub rest_sound : (file : File) (bytes : List ℕ) → IsSoundFile file → IsLeft file bytes → IsSoundFile (at_rest bytes)
rest_sound file bytes sound left = record {
  stands = left_at_rest bytes;
  short = let most : length bytes ≤ file_limit - 1 = left.within (file_limit - 1) (omega (arith, sound.short))
      (All-weaker (λ change. end_of change < file_limit) (λ change. end_of change ≤ file_limit - 1) (λ change less. omega (arith, less)) file.changes sound.ends) in
      omega (arith, most);
  ends = All-nil _;
}

file_sound : (o image : Option File) → ((file : File) → o ≡ Some file → IsSoundFile file) → IsFileImage o image → (file : File) → image ≡ Some file → IsSoundFile file
file_sound None None sound is file none = absurd (cc)
file_sound None (Some after) sound is file some = absurd is
file_sound (Some before) None sound is file none = absurd is
file_sound (Some before) (Some after) sound (bytes, at, left) file some =
    let same : at_rest bytes ≡ file = cc in
    subst IsSoundFile same (rest_sound before bytes (sound before refl) left)

file_there : (o image : Option File) → IsFileImage o image → image ≡ None → o ≡ None
file_there None image is none = refl
file_there (Some before) None is none = absurd is
file_there (Some before) (Some after) is none = cc

file_absent : (o image : Option File) → IsFileImage o image → o ≡ None → image ≡ None
file_absent None None is none = refl
file_absent None (Some after) is none = absurd is
file_absent (Some before) image is none = absurd (cc)

-- an image of a sound disk is sound
pub image_is_sound : (d image : Disk) → IsSound d → IsImage d image → IsSound image
image_is_sound d image sound is = record {
  named = λ path id at none. sound.named path id (name_of path id at) (file_there (d.files id) (image.files id) (is.files id) none);
  one_name = λ a b id at_a at_b. sound.one_name a b id (name_of a id at_a) (name_of b id at_b);
  apart = λ path id at. ap (λ (f : List ℕ → Bool). f path) is.directories ∙ sound.apart path id (name_of path id at);
  home = λ q path id at inside. ap (λ (f : List ℕ → Bool). f q) is.directories ∙ sound.home q path id (name_of path id at) inside;
  fresh = λ id above. file_absent (d.files id) (image.files id) (is.files id) (sound.fresh id (subst (λ (n : ℕ). n ≤ id) is.unused above));
  files = λ id. file_sound (d.files id) (image.files id) (sound.files id) (is.files id);
}
  where
    name_of : (path : List ℕ) (id : ℕ) → image.names path ≡ Some id → d.names path ≡ Some id
    name_of path id at = ap (λ (f : List ℕ → Option ℕ). f path) (sym is.names) ∙ at

-- a name leads to a number that was given
pub named_is_used : NamedIsUsed
named_is_used d path id sound at = elim (cases_lt id d.unused) [ inl less ↦ less | inr above ↦ absurd (sound.named path id at (sound.fresh id above)) ]

-- no name lies in a directory that isn't there
pub absent_holds_no_name : AbsentHoldsNoName
absent_holds_no_name d directory path sound absent inside = by_name (d.names path) refl
  where
    by_name : (o : Option ℕ) → d.names path ≡ o → d.names path ≡ None
    by_name None none = none
    by_name (Some id) named = absurd (false≢true (sym absent ∙ sound.home directory path id named inside))

-- what a stop may leave doesn't depend on marks, counts and stops
images_alike : (d e image : Disk) → d.directories ≡ e.directories → d.names ≡ e.names → d.files ≡ e.files → d.unused ≡ e.unused → IsImage d image → IsImage e image
images_alike d e image directories names files unused is = record {
  directories = is.directories ∙ directories;
  names = is.names ∙ names;
  unused = is.unused ∙ unused;
  files = λ id. subst (λ (f : ℕ → Option File). IsFileImage (f id) (image.files id)) files (is.files id);
  readable = is.readable;
  running = is.running;
  uncounted = is.uncounted;
  untold = is.untold;
}

pub images_stay : ImagesStay
images_stay = record {
  marks = λ d image unreadable. images_alike d (with_marks unreadable d) image refl refl refl refl;
  failure = λ error d image. images_alike d (counted error d) image refl refl refl refl;
  stop = λ d image. images_alike d (at_stop d) image refl refl refl refl;
  failure_back = λ error d image. images_alike (counted error d) d image refl refl refl refl;
  marks_back = λ d image unreadable. images_alike (with_marks unreadable d) d image refl refl refl refl;
  stop_back = λ d image. images_alike (at_stop d) d image refl refl refl refl;
}
