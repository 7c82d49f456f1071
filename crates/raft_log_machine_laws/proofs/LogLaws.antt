-- What a log promises of its images.
use Rattle.std.proofs.Common.{◌≡◌, ℕ, ◌≤◌, false, List, [], ◌∷◌, ◌++◌, length, take, refl, sym, ap, ap₂, ◌∙◌, subst, append-nil, arith, length-append}
use Rattle.std.proofs.Math.Seq.{take-append_seam}
use Rattle.raft_log_model_laws.specs.Item.{Record}
use Rattle.raft_log_model_laws.specs.Groups.{Map, directory_meaning, taken}
use Rattle.raft_log_machine_laws.specs.Whereabouts.{Whereabouts}
use Rattle.raft_log_machine_laws.specs.Files.{LogFile, FileQueue, IsRead, queue_of, records_of, fresh_files}
use Rattle.raft_log_machine_laws.specs.Files.FileEvent.{Read}
use Rattle.raft_log_machine_laws.specs.Queue.{Store, reread}
use Rattle.raft_log_machine_laws.specs.Machine.{Machine}
use Rattle.raft_log_machine_laws.specs.Machine.Event.{Reopen}
use Rattle.raft_log_machine_laws.specs.Fresh.{nothing_stands, nowhere}
use Rattle.raft_log_machine_laws.proofs.FileLaws.{file_step_numbers}
use Rattle.raft_log_machine_laws.proofs.DirectoryLaws.{read_queue}
use Rattle.raft_log_machine_laws.proofs.ImageLaws.{opens, means_kept}
use Rattle.raft_log_machine_laws.proofs.FileLaws.{read_split, read_records}
use Rattle.raft_log_machine_laws.specs.Model.{Files, Model, IsModelSound, machine_of, no_files}
use Rattle.raft_log_machine_laws.specs.DirectoryImages.{Readings, IsAllowed, Allows, Means, MeansNoMore, ReadsAsPartOf, ShowsNoMore, ReadsNothing, IsOwnImage, empty_file}
use Rattle.raft_log_machine_laws.specs.Log.{IsLog, IsLogOf, IsAt, View}
use Rattle.raft_log_machine_laws.proofs.Sound.{fresh_sound, sound_step}

-- what may be there may be less
pub fewer : {E V : Type 0} (may might : Files E V → Type 0) (m : Map E V) (pending : List (Record E V)) → ((f : Files E V) → may f → might f)
    → IsLog may m pending → IsLog might m pending
fewer may might m pending less h = record {
  files = h.files;
  whereabouts = h.whereabouts;
  failed = h.failed;
  sound = h.sound;
  ends = h.ends;
  there = less h.files h.there;
}

-- an engine's log, once its tables are forgotten
pub log_of : {E V : Type 0} (may might : Files E V → Type 0) (v : View E V) (m : Map E V) (pending : List (Record E V)) → ((f : Files E V) → may f → might f)
    → IsAt may v m pending → IsLog might m pending
log_of may might v m pending less h = record {
  files = h.files;
  whereabouts = v.whereabouts;
  failed = false;
  sound = h.stands.sound;
  ends = h.stands.ends;
  there = less h.files h.there;
}

-- some first batches
pub kept_first : {E V : Type 0} (kept lost pending : List (Record E V)) → kept ++ lost ≡ pending → (length kept ≤ length pending) × (take (length kept) pending ≡ kept)
kept_first kept lost pending e = (
  omega (arith, length-append kept lost, ap (λ l. length l) e),
  ap (λ l. take (length kept) l) (sym e) ∙ take-append_seam kept lost,
)

module _ {D E V : Type 0} (r : Readings D E V) where
  allowed_part : (f : Files E V) (image other : D) → ReadsAsPartOf r image other → IsAllowed r f other → IsAllowed r f image
  allowed_part f image other part h = record {
    rewrite_kept = h.rewrite_kept;
    rewrite_lost = h.rewrite_lost;
    append_kept = h.append_kept;
    append_lost = h.append_lost;
    rewrite_image = h.rewrite_image;
    append_image = h.append_image;
    rewrite_read = λ s files read. h.rewrite_read s files (part.rewrite s files read);
    append_read = λ s files read. h.append_read s files (part.append s files read);
  }

  -- a file system whose images show no more
  pub shows_no_more : (old new : D) (m : Map E V) (pending : List (Record E V)) → ShowsNoMore r old new → IsLogOf r old m pending → IsLogOf r new m pending
  shows_no_more old new m pending less h =
      fewer (Allows r old) (Allows r new) m pending
      (λ f allows image left. allowed_part f image (less image left).0 (less image left).2 (allows (less image left).0 (less image left).1)) h

  pub shown_means : (old new : D) → ShowsNoMore r old new → MeansNoMore r old new
  shown_means old new less image left = (
    (less image left).0,
    (less image left).1,
    λ m means s t rewrite append reads_rewrite reads_append.
        means s t rewrite append ((less image left).2.rewrite s rewrite reads_rewrite) ((less image left).2.append t append reads_append),
  )

  -- an image that the files allow means the map after what was kept
  allowed_means : (d : Model E V) (image : D) → IsModelSound d → (h : IsAllowed r d.files image) → Means r image (taken d.map h.append_kept)
  allowed_means d image k h s t rewrite append reads_rewrite reads_append g slot =
      let of_rewrite = read_records d.files.rewrite h.rewrite_kept rewrite
      (read_split d.files.rewrite_from d.files.rewrite h.rewrite_kept s rewrite k.rewrite_numbers (h.rewrite_read s rewrite reads_rewrite)) in
      let of_append = read_records d.files.append h.append_kept append
      (read_split d.files.append_from d.files.append h.append_kept t append k.append_numbers (h.append_read t append reads_append)) in
      ap (λ l. directory_meaning l (records_of append) g slot) of_rewrite.3
      ∙ ap (λ l. directory_meaning (of_rewrite.1 ++ ((queue_of d.files.rewrite).live ++ h.rewrite_kept)) l g slot) of_append.3
      ∙ means_kept (machine_of d) k.kept k.replay k.runs h.rewrite_kept h.rewrite_lost of_rewrite.0 of_rewrite.1 h.append_kept h.append_lost of_append.0 of_append.1
      h.rewrite_image of_rewrite.2 h.append_image of_append.2 g slot

  pub promise : (d : D) (m : Map E V) (pending : List (Record E V)) (image : D) → IsLogOf r d m pending → r.leaves d image
      → (k : ℕ) × (k ≤ length pending) × Means r image (taken m (take k pending))
  promise d m pending image h left =
      let allowed : IsAllowed r h.files image = h.there image left in
      let first = kept_first allowed.append_kept allowed.append_lost pending (allowed.append_image ∙ h.ends) in (
        length allowed.append_kept,
        first.0,
        subst (λ l. Means r image (taken m l)) (sym first.1)
            (allowed_means (record { files = h.files; map = m; whereabouts = h.whereabouts; failed = h.failed }) image h.sound allowed),
      )

  -- the files once an image was read from the span's first file on, and synced
  abbrev kept_queue : FileQueue E V → List (Record E V) → FileQueue E V
  kept_queue q kept = record q { synced = q.synced ++ kept; pending = [] }

  kept_files : (n : ℕ) (q : FileQueue E V) (kept : List (Record E V)) (s : ℕ) (files : List (LogFile E V)) → IsRead n q kept s files → IsRead n (kept_queue q kept) [] s files
  kept_files n q kept s files read = record {
    low = read.low;
    skipped = read.skipped;
    rest = read.rest ∙ ap (λ l. q.behind ++ (q.gone ++ (q.full ++ record { number = q.last; records = l } ∷ []))) (sym (append-nil (q.synced ++ kept)));
    numbered = read.numbered;
    some = read.some;
  }

  abbrev kept_of : Files E V → List (Record E V) → List (Record E V) → Files E V
  kept_of f r_kept a_kept = record {
    rewrite = kept_queue f.rewrite r_kept;
    rewrite_from = f.rewrite_from;
    append = kept_queue f.append a_kept;
    append_from = f.append_from;
  }

  read_none : (q : FileQueue E V) (kept : List (Record E V)) → queue_of (kept_queue q kept) ≡ reread (queue_of q) (records_of q.gone) [] kept
  read_none q kept = (read_queue q q.gone [] kept (append-nil q.gone)).0

  kept_sound : (d : Model E V) (r_kept r_lost a_kept a_lost : List (Record E V)) → IsModelSound d → r_kept ++ r_lost ≡ d.files.rewrite.pending
      → a_kept ++ a_lost ≡ d.files.append.pending
      → (whereabouts : ℕ → Whereabouts) × IsModelSound (record { files = kept_of d.files r_kept a_kept; map = taken d.map a_kept; whereabouts = whereabouts; failed = false })
  kept_sound d r_kept r_lost a_kept a_lost k r_image a_image =
      let w : Machine E V = machine_of d in
      let reopen = opens w k.kept k.replay k.runs r_kept r_lost (records_of d.files.rewrite.gone) [] a_kept a_lost (records_of d.files.append.gone) []
      r_image (append-nil (records_of d.files.rewrite.gone)) a_image (append-nil (records_of d.files.append.gone)) in
      let store : Store E V = record {
        rewrite = reread (queue_of d.files.rewrite) (records_of d.files.rewrite.gone) [] r_kept;
        append = reread (queue_of d.files.append) (records_of d.files.append.gone) [] a_kept;
      } in (
        reopen.1.4.0,
        sound_step (Reopen r_kept r_lost (records_of d.files.rewrite.gone) [] a_kept a_lost (records_of d.files.append.gone) []) d
            (record { files = kept_of d.files r_kept a_kept; map = taken d.map a_kept; whereabouts = reopen.1.4.0; failed = false }) (
              reopen.1.0,
              reopen.1.1,
              reopen.1.2,
              reopen.1.3,
              (
                reopen.1.4.0,
                reopen.1.4.1,
                ap₂ (λ x y. record { store = record { rewrite = x; append = y }; map = taken d.map a_kept; whereabouts = reopen.1.4.0; failed = false })
                    (read_none d.files.rewrite r_kept) (read_none d.files.append a_kept),
              ),
            ) k
            (file_step_numbers (Read d.files.rewrite.gone [] r_kept) d.files.rewrite_from d.files.rewrite (kept_queue d.files.rewrite r_kept) (append-nil d.files.rewrite.gone, refl) k.rewrite_numbers)
            (file_step_numbers (Read d.files.append.gone [] a_kept) d.files.append_from d.files.append (kept_queue d.files.append a_kept) (append-nil d.files.append.gone, refl) k.append_numbers),
      )

  -- an image at rest is a log of its own, with nothing pending
  pub image_is_log : (d : D) (m : Map E V) (pending : List (Record E V)) (image : D) → IsLogOf r d m pending → r.leaves d image → IsOwnImage r image
      → (k : ℕ) × (k ≤ length pending) × IsLogOf r image (taken m (take k pending)) []
  image_is_log d m pending image h left rest =
      let allowed : IsAllowed r h.files image = h.there image left in
      let first = kept_first allowed.append_kept allowed.append_lost pending (allowed.append_image ∙ h.ends) in
      let opened = kept_sound (record { files = h.files; map = m; whereabouts = h.whereabouts; failed = h.failed })
      allowed.rewrite_kept allowed.rewrite_lost allowed.append_kept allowed.append_lost h.sound allowed.rewrite_image allowed.append_image in
      let log : IsLogOf r image (taken m allowed.append_kept) [] = record {
        files = kept_of h.files allowed.rewrite_kept allowed.append_kept;
        whereabouts = opened.0;
        failed = false;
        sound = opened.1;
        ends = refl;
        there = λ again left_again. record {
          rewrite_kept = [];
          rewrite_lost = [];
          append_kept = [];
          append_lost = [];
          rewrite_image = refl;
          append_image = refl;
          rewrite_read = λ s files read. kept_files h.files.rewrite_from h.files.rewrite allowed.rewrite_kept s files (allowed.rewrite_read s files ((rest.1 again left_again).rewrite s files read));
          append_read = λ s files read. kept_files h.files.append_from h.files.append allowed.append_kept s files (allowed.append_read s files ((rest.1 again left_again).append s files read));
        };
      } in (length allowed.append_kept, first.0, subst (λ l. IsLogOf r image (taken m l) []) (sym first.1) log)

  -- where nothing is read, nothing stands
  fresh_read : (s : ℕ) (files : List (LogFile E V)) → (s ≡ 1) × (files ≡ empty_file ∷ []) → IsRead 1 fresh_files [] s files
  fresh_read s files h =
      subst (λ l. IsRead {E = E} {V = V} 1 fresh_files [] s l) (sym h.1) (subst (λ n. IsRead {E = E} {V = V} 1 fresh_files [] n (empty_file ∷ [])) (sym h.0)
      (record { low = omega arith; skipped = []; rest = refl; numbered = (refl, tt); some = omega arith }))

  pub nothing_is_log : (d : D) → ((image : D) → r.leaves d image → ReadsNothing r image) → IsLogOf r d nothing_stands []
  nothing_is_log d none = record {
    files = no_files;
    whereabouts = λ g. nowhere;
    failed = false;
    sound = fresh_sound;
    ends = refl;
    there = λ image left. record {
      rewrite_kept = [];
      rewrite_lost = [];
      append_kept = [];
      append_lost = [];
      rewrite_image = refl;
      append_image = refl;
      rewrite_read = λ s files read. fresh_read s files ((none image left).rewrite s files read);
      append_read = λ s files read. fresh_read s files ((none image left).append s files read);
    };
  }

  -- a copy shows no more than what it was made of
  pub copy_is_log : (source copy : D) (m : Map E V) (pending : List (Record E V)) → IsOwnImage r source → ((image : D) → r.leaves copy image → ReadsAsPartOf r image source)
      → IsLogOf r source m pending → IsLogOf r copy m pending
  copy_is_log source copy m pending rest part h = shows_no_more source copy m pending (λ image left. (source, rest.0, part image left)) h

  -- what no image means more than before
  pub promise_later : (old new : D) (m : Map E V) (pending : List (Record E V)) (image : D) → IsLogOf r old m pending → MeansNoMore r old new → r.leaves new image
      → (k : ℕ) × (k ≤ length pending) × Means r image (taken m (take k pending))
  promise_later old new m pending image h less left =
      let before = less image left in
      let k = promise old m pending before.0 h before.1 in (k.0, k.1, before.2 (taken m (take k.0 pending)) k.2)
