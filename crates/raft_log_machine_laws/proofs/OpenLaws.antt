-- An open: what it read of an image is the map after some first pending batches, and the view made of it is true.
use Rattle.std.proofs.Common.{◌≡◌, ℕ, ◌≤◌, false, List, [], ◌++◌, length, take, refl, sym, ap₂, ◌∙◌, subst}
use Rattle.std.proofs.Math.Path.{fun_ext}
use Rattle.raft_log_model_laws.specs.Item.{Record}
use Rattle.raft_log_model_laws.specs.Groups.{Map, appended, directory_meaning, taken}
use Rattle.raft_log_machine_laws.specs.Files.{queue_of, records_of}
use Rattle.raft_log_machine_laws.specs.Files.FileEvent.{Read}
use Rattle.raft_log_machine_laws.specs.Images.{IsOneRun}
use Rattle.raft_log_machine_laws.specs.Recovery.{IsRecovered}
use Rattle.raft_log_machine_laws.specs.Queue.{reread}
use Rattle.raft_log_machine_laws.specs.Machine.Event.{Reopen}
use Rattle.raft_log_machine_laws.proofs.DirectoryLaws.{read_queue}
use Rattle.raft_log_machine_laws.proofs.FileLaws.{file_step_numbers}
use Rattle.raft_log_machine_laws.proofs.ImageLaws.{means_kept}
use Rattle.raft_log_machine_laws.specs.Model.{Files, Model, IsModelSound, machine_of, running}
use Rattle.raft_log_machine_laws.specs.Log.{View, Stands, IsLog, IsAt}
use Rattle.raft_log_machine_laws.specs.Calls.{ReadAgain, read_files, records_read, IsMadeOf, Replays}
use Rattle.raft_log_machine_laws.proofs.Sound.{sound_step}
use Rattle.raft_log_machine_laws.proofs.LogLaws.{kept_first}

module _ {E V : Type 0} (d : Model E V) (k : IsModelSound d) (r : ReadAgain d.files.rewrite) (a : ReadAgain d.files.append) where
  abbrev read : Files E V
  read = record d.files { rewrite = read_files d.files.rewrite r; append = read_files d.files.append a }

  rewrite_is : queue_of (read_files d.files.rewrite r) ≡ reread (queue_of d.files.rewrite) (records_of r.below) (records_of r.again) r.kept
  rewrite_is = (read_queue d.files.rewrite r.below r.again r.kept r.gone).0

  append_is : queue_of (read_files d.files.append a) ≡ reread (queue_of d.files.append) (records_of a.below) (records_of a.again) a.kept
  append_is = (read_queue d.files.append a.below a.again a.kept a.gone).0

  rewrite_start : records_of r.below ++ records_of r.again ≡ (queue_of d.files.rewrite).gone
  rewrite_start = (read_queue d.files.rewrite r.below r.again r.kept r.gone).1

  append_start : records_of a.below ++ records_of a.again ≡ (queue_of d.files.append).gone
  append_start = (read_queue d.files.append a.below a.again a.kept a.gone).1

  -- what was read means the map after the batches that were kept
  pub read_means : directory_meaning (records_read d.files.rewrite r) (records_read d.files.append a) ≡ taken d.map a.kept
  read_means = fun_ext (λ g. fun_ext (λ s. means_kept (machine_of d) k.kept k.replay k.runs r.kept r.lost (records_of r.below) (records_of r.again)
      a.kept a.lost (records_of a.below) (records_of a.again) r.image rewrite_start a.image append_start g s))

  pub one_run : (g : ℕ) → IsOneRun (directory_meaning (records_read d.files.rewrite r) (records_read d.files.append a) g)
  one_run g = subst (λ map. IsOneRun (map g)) (sym read_means) (k.runs.runs g a.kept a.lost a.image)

  pub read_sound : (v : View E V) → IsMadeOf v (records_read d.files.rewrite r) (records_read d.files.append a) read
      → IsModelSound (running read (taken d.map a.kept) v.whereabouts)
  read_sound v made =
      sound_step (Reopen r.kept r.lost (records_of r.below) (records_of r.again) a.kept a.lost (records_of a.below) (records_of a.again)) d
      (running read (taken d.map a.kept) v.whereabouts) (
        r.image,
        rewrite_start,
        a.image,
        append_start,
        (
          v.whereabouts,
          λ g. subst (λ map. IsRecovered (map g) (appended g (records_read d.files.append a)) (v.whereabouts g)) read_means (made.whereabouts g),
          ap₂ (λ x y. record { store = record { rewrite = x; append = y }; map = taken d.map a.kept; whereabouts = v.whereabouts; failed = false }) rewrite_is append_is,
        ),
      ) k
      (file_step_numbers (Read r.below r.again r.kept) d.files.rewrite_from d.files.rewrite (read_files d.files.rewrite r) (r.gone, refl) k.rewrite_numbers)
      (file_step_numbers (Read a.below a.again a.kept) d.files.append_from d.files.append (read_files d.files.append a) (a.gone, refl) k.append_numbers)

  pub read_stands : (v : View E V) → IsMadeOf v (records_read d.files.rewrite r) (records_read d.files.append a) read
      → Stands v read (taken d.map a.kept) []
  read_stands v made = record {
    sound = read_sound v made;
    ends = refl;
    map = made.map ∙ read_means;
    noted = made.noted;
    noted_in_rewrite = made.noted_in_rewrite;
  }

-- of whatever log the file system was
pub open_answered : {S E V : Type 0} (allows ties : S → Files E V → Type 0) (s t : S) (v : View E V) (m : Map E V) (pending : List (Record E V))
    → Replays allows ties v s t → IsLog (allows s) m pending → (k : ℕ) × (k ≤ length pending) × IsAt (ties t) v (taken m (take k pending)) []
open_answered {S} {E} {V} allows ties s t v m pending call h =
    let d : Model E V = record { files = h.files; map = m; whereabouts = h.whereabouts; failed = h.failed } in
    let c = call h.files h.there in
    let first = kept_first c.1.kept c.1.lost pending (c.1.image ∙ h.ends) in (
      length c.1.kept,
      first.0,
      subst (λ l. IsAt (ties t) v (taken m l) []) (sym first.1) (record {
        files = record h.files { rewrite = read_files h.files.rewrite c.0; append = read_files h.files.append c.1 };
        stands = read_stands d h.sound c.0 c.1 v (c.3 (one_run d h.sound c.0 c.1));
        there = c.2;
      }),
    )
