-- What the machine's laws say of numbered files: their records can be read again, run after run and group after
-- group.
use Rattle.std.proofs.Common.{◌≡◌, ℕ, ◌+◌, ◌≤◌, false, List, [], ◌∷◌, ◌++◌, map, Option, Some, None, refl, sym, ap, ap₂, subst, ◌∙◌, append_assoc, append-nil}
use Rattle.std.proofs.lemmas.List.{length-map}
use Rattle.std.specs.Prelude.{nat_lt, nat_le, ◌&&◌, if◌then◌else◌}
use Rattle.raft_log_model_laws.specs.Item.{Item, Record, Tagged}
use Rattle.raft_log_model_laws.specs.Item.Item.{Run, Clean, Compact, Put, Del}
use Rattle.raft_log_model_laws.specs.Item.Record.{Plain, Part}
use Rattle.raft_log_model_laws.specs.Item.Mark.{Begin, Middle, End}
use Rattle.raft_log_model_laws.specs.Groups.{appended, rewritten, taken}
use Rattle.raft_log_model_laws.specs.Holes.{next_window, nothing, FitsOn, NoHole, Window}
use Rattle.raft_log_machine_laws.specs.Files.{queue_of, records_of, span, FileQueue, LogFile}
use Rattle.raft_log_machine_laws.specs.Machine.{AllFit, Fits, RecordsFit}
use Rattle.raft_log_machine_laws.specs.Whereabouts.{top, Whereabouts}
use Rattle.raft_log_machine_laws.specs.Files.FileEvent.{Read}
use Rattle.raft_log_machine_laws.specs.Machine.Event.{Reopen}
use Rattle.raft_log_machine_laws.proofs.Public.{file_step_numbers, opens, read_queue, replays, sound_step, RecordsFit-back}
use Rattle.raft_log_machine_laws.specs.Unbroken.{IsUnbroken, UnbrokenFrom}
use Rattle.raft_log_machine_laws.specs.Model.{machine_of, running, Files, IsModelSound, Model}
use Rattle.raft_log_machine_laws.specs.Calls.{read_files, ReadAgain}
use Rattle.raft_log_memtable_index.specs.Shown.{KeyValue}
use Rattle.raft_log_memtable_index.specs.Bridge.{Located}
use Rattle.raft_log_memtable_index.specs.Replayed.{told}
use Rattle.raft_log_replay_context.specs.Opened.{told_record, told_tagged}

-- the records of a span
pub records_of_both : {E V : Type 0} (xs ys : List (LogFile E V)) → records_of (xs ++ ys) ≡ records_of xs ++ records_of ys
records_of_both [] ys = refl
records_of_both {E} {V} (x ∷ xs) ys = ap (λ (l : List (Record E V)). x.records ++ l) (records_of_both xs ys) ∙ sym (append_assoc x.records (records_of xs) (records_of ys))

pub span_records : {E V : Type 0} (q : FileQueue E V) → records_of (span q q.pending) ≡ (queue_of q).live ++ q.pending
span_records {E} {V} q =
    records_of_both q.full (record { number = q.last; records = q.synced ++ q.pending } ∷ [])
    ∙ ap (λ (l : List (Record E V)). records_of q.full ++ l) (append-nil (q.synced ++ q.pending))
    ∙ sym (append_assoc (records_of q.full) q.synced q.pending)

module _ {E V : Type 0} (d : Model E V) (k : IsModelSound d) where
  abbrev R : List (Record E V)
  R = records_of (span d.files.rewrite d.files.rewrite.pending)

  abbrev A : List (Record E V)
  A = records_of (span d.files.append d.files.append.pending)

  pub rewrite_unbroken : IsUnbroken R
  rewrite_unbroken =
      let q = d.files.rewrite in
      subst IsUnbroken (sym (span_records q)) ((replays (machine_of d) k.kept k.replay).groups q.pending [] (queue_of q).gone [] (append-nil q.pending) (append-nil (queue_of q).gone))

  pub rewrite_whole : (g : ℕ) → NoHole nothing (rewritten g R)
  rewrite_whole g =
      let q = d.files.rewrite in
      subst (λ (l : List (Record E V)). NoHole nothing (rewritten g l)) (sym (span_records q))
      ((replays (machine_of d) k.kept k.replay).rewrite g q.pending [] (queue_of q).gone [] (append-nil q.pending) (append-nil (queue_of q).gone))

  pub append_whole : (g : ℕ) → NoHole nothing (appended g A)
  append_whole g =
      let q = d.files.append in
      subst (λ (l : List (Record E V)). NoHole nothing (appended g l)) (sym (span_records q))
      ((replays (machine_of d) k.kept k.replay).append g q.pending [] (queue_of q).gone [] (append-nil q.pending) (append-nil (queue_of q).gone))

  pub rewrite_fits : RecordsFit R
  rewrite_fits =
      let q = d.files.rewrite in
      subst RecordsFit (sym (span_records q)) (RecordsFit-back (queue_of q).gone ((queue_of q).live ++ q.pending) k.kept.fits)

-- What stands for the entries doesn't matter.
module _ {E : Type 0} (at : Located → E) where
  unbroken_from : (going : Option ℕ) (rs : List (Record Located KeyValue)) → UnbrokenFrom going (map (told_record at) rs) → UnbrokenFrom going rs
  unbroken_from going [] h = tt
  unbroken_from going (Plain xs ∷ rs) h = unbroken_from None rs h
  unbroken_from going (Part (Begin n) xs ∷ rs) h = unbroken_from (Some n) rs h
  unbroken_from going (Part (Middle n) xs ∷ rs) h = (h.0, unbroken_from going rs h.1)
  unbroken_from going (Part (End n) xs ∷ rs) h = (h.0, unbroken_from None rs h.1)

  pub unbroken_untold : (rs : List (Record Located KeyValue)) → IsUnbroken (map (told_record at) rs) → IsUnbroken rs
  unbroken_untold rs (going, h) = (going, unbroken_from going rs h)

  window_told : (w : Window) (x : Item Located KeyValue) → next_window w (told at x) ≡ next_window w x
  window_told w (Run f []) = refl
  window_told w (Run f (l ∷ ls)) = ap (λ (n : ℕ). record { first = if nat_lt w.first f && nat_le f w.end then w.first else f; end = f + n }) (length-map (l ∷ ls) at)
  window_told w Clean = refl
  window_told w (Compact c) = refl
  window_told w (Put k v) = refl
  window_told w (Del k) = refl

  fits_on_untold : (w : Window) (x : Item Located KeyValue) → FitsOn w (told at x) → FitsOn w x
  fits_on_untold w (Run f []) h = h
  fits_on_untold w (Run f (l ∷ ls)) h = h
  fits_on_untold w Clean h = h
  fits_on_untold w (Compact c) h = h
  fits_on_untold w (Put k v) h = h
  fits_on_untold w (Del k) h = h

  pub hole_untold : (w : Window) (xs : List (Item Located KeyValue)) → NoHole w (map (told at) xs) → NoHole w xs
  hole_untold w [] h = tt
  hole_untold w (x ∷ xs) h = (fits_on_untold w x h.0, hole_untold (next_window w x) xs (subst (λ (u : Window). NoHole u (map (told at) xs)) (window_told w x) h.1))

  fits_untold : (x : Item Located KeyValue) → Fits (told at x) → Fits x
  fits_untold (Run f ls) h = subst (λ (n : ℕ). f + n ≤ top) (length-map ls at) h
  fits_untold Clean h = tt
  fits_untold (Compact c) h = tt
  fits_untold (Put k v) h = tt
  fits_untold (Del k) h = tt

  all_fit_untold : (xs : List (Tagged Located KeyValue)) → AllFit (map (told_tagged at) xs) → AllFit xs
  all_fit_untold [] h = tt
  all_fit_untold (x ∷ xs) h = (fits_untold x.item h.0, all_fit_untold xs h.1)

  pub fit_untold : (rs : List (Record Located KeyValue)) → RecordsFit (map (told_record at) rs) → RecordsFit rs
  fit_untold [] h = tt
  fit_untold (Plain xs ∷ rs) h = (all_fit_untold xs h.0, fit_untold rs h.1)
  fit_untold (Part m xs ∷ rs) h = (all_fit_untold xs h.0, fit_untold rs h.1)

-- What a log's files are once they were read again: a log, wherever its things stand.
module _ {E V : Type 0} (d : Model E V) (k : IsModelSound d) (r : ReadAgain d.files.rewrite) (a : ReadAgain d.files.append) where
  abbrev pub read_again : Files E V
  read_again = record d.files { rewrite = read_files d.files.rewrite r; append = read_files d.files.append a }

  pub again_sound : (whereabouts : ℕ → Whereabouts) × IsModelSound (running read_again (taken d.map a.kept) whereabouts)
  again_sound =
      let (rewrite_is, rewrite_start) = read_queue d.files.rewrite r.below r.again r.kept r.gone in
      let (append_is, append_start) = read_queue d.files.append a.below a.again a.kept a.gone in
      let reopen = opens (machine_of d) k.kept k.replay k.runs r.kept r.lost (records_of r.below) (records_of r.again) a.kept a.lost (records_of a.below) (records_of a.again) r.image rewrite_start a.image append_start in (
        reopen.1.4.0,
        sound_step (Reopen r.kept r.lost (records_of r.below) (records_of r.again) a.kept a.lost (records_of a.below) (records_of a.again)) d (running read_again (taken d.map a.kept) reopen.1.4.0) (
          r.image,
          rewrite_start,
          a.image,
          append_start,
          (
            reopen.1.4.0,
            reopen.1.4.1,
            ap₂ (λ x y. record { store = record { rewrite = x; append = y }; map = taken d.map a.kept; whereabouts = reopen.1.4.0; failed = false }) rewrite_is append_is,
          ),
        ) k
            (file_step_numbers (Read r.below r.again r.kept) d.files.rewrite_from d.files.rewrite (read_files d.files.rewrite r) (r.gone, refl) k.rewrite_numbers)
            (file_step_numbers (Read a.below a.again a.kept) d.files.append_from d.files.append (read_files d.files.append a) (a.gone, refl) k.append_numbers),
      )
