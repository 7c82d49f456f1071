-- Each change of a directory's files, as a step of the machine, keeps its model sound.
use Rattle.std.proofs.Common.{◌≡◌, ℕ, ◌+◌, false, List, [], ◌∷◌, ◌++◌, length, refl, ap}
use Rattle.raft_log_model_laws.specs.Item.{Item, Record, Tagged, items_of}
use Rattle.raft_log_model_laws.specs.Item.Record.{Plain, Part}
use Rattle.raft_log_model_laws.specs.Item.Mark.{Begin, Middle, End}
use Rattle.raft_log_model_laws.specs.Groups.{Map, of_group, taken, appended, rewritten}
use Rattle.raft_log_machine_laws.specs.Queue.{Queue, with_append as store_with_append, with_rewrite as store_with_rewrite}
use Rattle.raft_log_machine_laws.specs.Unbroken.{joined}
use Rattle.raft_log_machine_laws.specs.Whereabouts.{Whereabouts, GrowsBy, CarriesAll, OwesNothing, HasAppended, HasRewritten}
use Rattle.raft_log_machine_laws.specs.Files.{LogFile, FileQueue, IsNumbered, queue_of, records_of}
use Rattle.raft_log_machine_laws.specs.Files.FileEvent.{Grow, Sync, Rotate, Raise, Lose}
use Rattle.raft_log_machine_laws.specs.Machine.{AllFit, Event, GoesOnWith, IsJoined, Machine, Step}
use Rattle.raft_log_machine_laws.specs.Machine.Event.{Take, SyncAppend, SyncRewrite, WritePlain, WriteBegin, WriteMiddle, WriteEnd, RaiseAppend, RaiseRewrite, LoseAppend, LoseRewrite}
use Rattle.raft_log_machine_laws.proofs.MachineKeeps.{step_keeps}
use Rattle.raft_log_machine_laws.proofs.ReplayLaws.{step_replays, fresh_replays}
use Rattle.raft_log_machine_laws.proofs.RunLaws.{step_runs, fresh_runs}
use Rattle.raft_log_machine_laws.proofs.FreshKeeps.{fresh_keeps}
use Rattle.raft_log_machine_laws.proofs.FileLaws.{file_step_numbers}
use Rattle.raft_log_machine_laws.proofs.DirectoryLaws.{rotated_queue, synced_queue, raised_queue, lost_queue}
use Rattle.raft_log_machine_laws.specs.Model.{Files, Model, machine_of, running, IsModelSound, with_append, with_rewrite, fresh_model}
use Rattle.raft_log_machine_laws.specs.Moves.{grown, settled_files, rotated, raised_files}

pub fresh_sound : {E V : Type 0} → IsModelSound (fresh_model {E = E} {V = V})
fresh_sound = record {
  kept = fresh_keeps;
  replay = fresh_replays;
  runs = fresh_runs;
  rewrite_numbers = ((refl, tt), tt);
  append_numbers = ((refl, tt), tt);
}

-- a step of the machine
pub sound_step : {E V : Type 0} (e : Event E V) (d n : Model E V) → Step e (machine_of d) (machine_of n) → IsModelSound d
    → IsNumbered n.files.rewrite_from n.files.rewrite → IsNumbered n.files.append_from n.files.append → IsModelSound n
sound_step e d n step k r a = record {
  kept = step_keeps e (machine_of d) (machine_of n) step k.kept;
  replay = step_replays e (machine_of d) (machine_of n) step k.kept k.replay;
  runs = step_runs e (machine_of d) (machine_of n) step k.kept k.runs;
  rewrite_numbers = r;
  append_numbers = a;
}

module _ {E V : Type 0} (f : Files E V) (m : Map E V) (ws : ℕ → Whereabouts) (k : IsModelSound (running f m ws)) where
  -- the machine with another Append, and with another Rewrite
  abbrev append_is : Map E V → (ℕ → Whereabouts) → Queue E V → Machine E V
  append_is map whereabouts q = record { store = store_with_append (machine_of (running f m ws)).store q; map = map; whereabouts = whereabouts; failed = false }

  abbrev rewrite_is : (ℕ → Whereabouts) → Queue E V → Machine E V
  rewrite_is whereabouts q = record { store = store_with_rewrite (machine_of (running f m ws)).store q; map = m; whereabouts = whereabouts; failed = false }

  -- Append
  pub append_settled : IsModelSound (running (with_append f f.append_from (settled_files f.append)) (taken m f.append.pending) ws)
  append_settled =
      sound_step SyncAppend (running f m ws) (running (with_append f f.append_from (settled_files f.append)) (taken m f.append.pending) ws)
      (refl, ap (append_is (taken m f.append.pending) ws) (synced_queue f.append)) k k.rewrite_numbers
      (file_step_numbers Sync f.append_from f.append (settled_files f.append) refl k.append_numbers)

  pub append_rotated : IsModelSound (running (with_append f f.append_from (rotated f.append)) (taken m f.append.pending) ws)
  append_rotated =
      sound_step SyncAppend (running f m ws) (running (with_append f f.append_from (rotated f.append)) (taken m f.append.pending) ws)
      (refl, ap (append_is (taken m f.append.pending) ws) (rotated_queue f.append)) k k.rewrite_numbers
      (file_step_numbers Rotate f.append_from f.append (rotated f.append) refl k.append_numbers)

  pub append_lost : (before : List (LogFile E V)) (file : LogFile E V) (rest : List (LogFile E V)) → before ++ file ∷ rest ≡ f.append.gone
      → IsModelSound (running (with_append f (f.append_from + (length before + 1)) (record f.append { behind = f.append.behind ++ before; gone = rest })) m ws)
  append_lost before file rest e =
      let next : FileQueue E V = record f.append { behind = f.append.behind ++ before; gone = rest } in
      let n : ℕ = f.append_from + (length before + 1) in
      sound_step (LoseAppend (records_of before ++ file.records) (records_of rest)) (running f m ws) (running (with_append f n next) m ws)
      ((lost_queue f.append before file rest e).1, ap (append_is m ws) (lost_queue f.append before file rest e).0) k k.rewrite_numbers
      (file_step_numbers (Lose before file rest) f.append_from f.append next (e, refl) k.append_numbers)

  pub append_grown : (y : Record E V) (next : ℕ → Whereabouts) → ((g : ℕ) → GrowsBy (ws g) (of_group g (items_of y)) (next g))
      → IsModelSound (running (with_append f f.append_from (grown f.append y)) m next)
  append_grown y next grow =
      sound_step (Take y) (running f m ws) (running (with_append f f.append_from (grown f.append y)) m next)
      (refl, (next, grow, refl)) k k.rewrite_numbers
      (file_step_numbers (Grow (y ∷ [])) f.append_from f.append (grown f.append y) refl k.append_numbers)

  pub append_raised : (out stay : List (LogFile E V)) → out ++ stay ≡ f.append.full → f.append.pending ≡ [] → f.rewrite.pending ≡ []
      → ((g : ℕ) → OwesNothing (ws g)) → ((g : ℕ) → HasAppended (ws g) (appended g (records_of stay ++ f.append.synced)))
      → IsModelSound (running (with_append f f.append_from (raised_files f.append out stay)) m ws)
  append_raised out stay e nothing r_nothing owes has =
      sound_step (RaiseAppend (records_of out) (records_of stay ++ f.append.synced)) (running f m ws)
      (running (with_append f f.append_from (raised_files f.append out stay)) m ws)
      (refl, nothing, r_nothing, (raised_queue f.append out stay e).1, owes, has, ap (append_is m ws) (raised_queue f.append out stay e).0) k k.rewrite_numbers
      (file_step_numbers (Raise out stay) f.append_from f.append (raised_files f.append out stay) (e, refl) k.append_numbers)

  -- Rewrite
  pub rewrite_settled : IsModelSound (running (with_rewrite f f.rewrite_from (settled_files f.rewrite)) m ws)
  rewrite_settled =
      sound_step SyncRewrite (running f m ws) (running (with_rewrite f f.rewrite_from (settled_files f.rewrite)) m ws)
      (refl, ap (rewrite_is ws) (synced_queue f.rewrite)) k
      (file_step_numbers Sync f.rewrite_from f.rewrite (settled_files f.rewrite) refl k.rewrite_numbers) k.append_numbers

  pub rewrite_rotated : IsModelSound (running (with_rewrite f f.rewrite_from (rotated f.rewrite)) m ws)
  rewrite_rotated =
      sound_step SyncRewrite (running f m ws) (running (with_rewrite f f.rewrite_from (rotated f.rewrite)) m ws)
      (refl, ap (rewrite_is ws) (rotated_queue f.rewrite)) k
      (file_step_numbers Rotate f.rewrite_from f.rewrite (rotated f.rewrite) refl k.rewrite_numbers) k.append_numbers

  pub rewrite_lost : (before : List (LogFile E V)) (file : LogFile E V) (rest : List (LogFile E V)) → before ++ file ∷ rest ≡ f.rewrite.gone
      → IsModelSound (running (with_rewrite f (f.rewrite_from + (length before + 1)) (record f.rewrite { behind = f.rewrite.behind ++ before; gone = rest })) m ws)
  rewrite_lost before file rest e =
      let next : FileQueue E V = record f.rewrite { behind = f.rewrite.behind ++ before; gone = rest } in
      let n : ℕ = f.rewrite_from + (length before + 1) in
      sound_step (LoseRewrite (records_of before ++ file.records) (records_of rest)) (running f m ws) (running (with_rewrite f n next) m ws)
      ((lost_queue f.rewrite before file rest e).1, ap (rewrite_is ws) (lost_queue f.rewrite before file rest e).0) k
      (file_step_numbers (Lose before file rest) f.rewrite_from f.rewrite next (e, refl) k.rewrite_numbers) k.append_numbers

  pub rewrite_grown : (xs : List (Tagged E V)) (next : ℕ → Whereabouts) → f.append.pending ≡ [] → AllFit xs
      → ((g : ℕ) → CarriesAll (m g) (ws g) (of_group g xs) (next g))
      → IsModelSound (running (with_rewrite f f.rewrite_from (grown f.rewrite (Plain xs))) m next)
  rewrite_grown xs next nothing fit carry =
      sound_step (WritePlain xs) (running f m ws) (running (with_rewrite f f.rewrite_from (grown f.rewrite (Plain xs))) m next)
      (refl, nothing, fit, (next, carry, refl)) k
      (file_step_numbers (Grow (Plain xs ∷ [])) f.rewrite_from f.rewrite (grown f.rewrite (Plain xs)) refl k.rewrite_numbers) k.append_numbers

  pub group_begun : (n : ℕ) (xs : List (Tagged E V)) → AllFit xs
      → IsModelSound (running (with_rewrite f f.rewrite_from (grown f.rewrite (Part (Begin n) xs))) m ws)
  group_begun n xs fit =
      sound_step (WriteBegin n xs) (running f m ws) (running (with_rewrite f f.rewrite_from (grown f.rewrite (Part (Begin n) xs))) m ws)
      (refl, fit, refl) k
      (file_step_numbers (Grow (Part (Begin n) xs ∷ [])) f.rewrite_from f.rewrite (grown f.rewrite (Part (Begin n) xs)) refl k.rewrite_numbers) k.append_numbers

  pub group_goes_on : (n : ℕ) (first : List (Tagged E V)) (more : List (List (Tagged E V))) (xs : List (Tagged E V))
      → AllFit xs → GoesOnWith (queue_of f.rewrite) n first more
      → IsModelSound (running (with_rewrite f f.rewrite_from (grown f.rewrite (Part (Middle n) xs))) m ws)
  group_goes_on n first more xs fit on =
      sound_step (WriteMiddle n xs) (running f m ws) (running (with_rewrite f f.rewrite_from (grown f.rewrite (Part (Middle n) xs))) m ws)
      (refl, fit, (first, more, on, refl)) k
      (file_step_numbers (Grow (Part (Middle n) xs ∷ [])) f.rewrite_from f.rewrite (grown f.rewrite (Part (Middle n) xs)) refl k.rewrite_numbers) k.append_numbers

  pub group_ended : (n : ℕ) (first : List (Tagged E V)) (more : List (List (Tagged E V))) (xs : List (Tagged E V)) (next : ℕ → Whereabouts)
      → f.append.pending ≡ [] → AllFit xs → GoesOnWith (queue_of f.rewrite) n first more
      → ((g : ℕ) → (items : List (Item E V)) × IsJoined (of_group g (joined first more ++ xs)) items × CarriesAll (m g) (ws g) items (next g))
      → IsModelSound (running (with_rewrite f f.rewrite_from (grown f.rewrite (Part (End n) xs))) m next)
  group_ended n first more xs next nothing fit on carry =
      sound_step (WriteEnd n xs) (running f m ws) (running (with_rewrite f f.rewrite_from (grown f.rewrite (Part (End n) xs))) m next)
      (refl, nothing, fit, (first, more, on, (next, carry, refl))) k
      (file_step_numbers (Grow (Part (End n) xs ∷ [])) f.rewrite_from f.rewrite (grown f.rewrite (Part (End n) xs)) refl k.rewrite_numbers) k.append_numbers

  pub rewrite_raised : (out stay : List (LogFile E V)) → out ++ stay ≡ f.rewrite.full → f.append.pending ≡ [] → f.rewrite.pending ≡ []
      → ((g : ℕ) → HasRewritten (m g) (ws g) (rewritten g (records_of stay ++ f.rewrite.synced)))
      → IsModelSound (running (with_rewrite f f.rewrite_from (raised_files f.rewrite out stay)) m ws)
  rewrite_raised out stay e nothing r_nothing has =
      sound_step (RaiseRewrite (records_of out) (records_of stay ++ f.rewrite.synced)) (running f m ws)
      (running (with_rewrite f f.rewrite_from (raised_files f.rewrite out stay)) m ws)
      (refl, nothing, r_nothing, (raised_queue f.rewrite out stay e).1, has, ap (rewrite_is ws) (raised_queue f.rewrite out stay e).0) k
      (file_step_numbers (Raise out stay) f.rewrite_from f.rewrite (raised_files f.rewrite out stay) (e, refl) k.rewrite_numbers) k.append_numbers
