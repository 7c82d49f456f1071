-- A purge changes nothing of what the directory means.
use Rattle.std.proofs.Common.{◌≡◌, ℕ, List, [], ◌∷◌, sym, ap, ◌∙◌, append-nil}
use Rattle.raft_log_model_laws.specs.Meaning.{Slot}
use Rattle.raft_log_model_laws.specs.Groups.{Map, taken}
use Rattle.raft_log_machine_laws.specs.Machine.{Machine, Event, Step, Steps, IsKept}
use Rattle.raft_log_machine_laws.specs.Machine.Event.{Take, SyncAppend, SyncRewrite, WritePlain, WriteBegin, WriteMiddle, WriteEnd, RaiseAppend, RaiseRewrite, LoseAppend, LoseRewrite, Fail, Reopen}
use Rattle.raft_log_machine_laws.specs.Purge.{IsOwn, AllOwn, Reading, meaning_there}
use Rattle.raft_log_machine_laws.proofs.SurvivalSteps.{holds_more}
use Rattle.raft_log_machine_laws.proofs.MachineKeeps.{steps_keep}

module _ {E V : Type 0} where
  -- the map after all records, synced or not
  abbrev after_all : Machine E V → Map E V
  after_all w = taken w.map w.store.append.pending

  own_step : (e : Event E V) (w v : Machine E V) → IsOwn e → Step e w v → (g : ℕ) (s : Slot) → after_all v g s ≡ after_all w g s
  own_step (Take y) w v own h g s = absurd own
  own_step SyncAppend w v own h g s = ap (λ x. after_all x g s) h.1
  own_step SyncRewrite w v own h g s = ap (λ x. after_all x g s) h.1
  own_step (WritePlain xs) w v own h g s = ap (λ x. after_all x g s) h.3.2
  own_step (WriteBegin n xs) w v own h g s = ap (λ x. after_all x g s) h.2
  own_step (WriteMiddle n xs) w v own h g s = ap (λ x. after_all x g s) h.2.3
  own_step (WriteEnd n xs) w v own h g s = ap (λ x. after_all x g s) h.3.3.2
  own_step (RaiseAppend out stay) w v own h g s = ap (λ x. after_all x g s) h.6
  own_step (RaiseRewrite out stay) w v own h g s = ap (λ x. after_all x g s) h.5
  own_step (LoseAppend lost rest) w v own h g s = ap (λ x. after_all x g s) h.1
  own_step (LoseRewrite lost rest) w v own h g s = ap (λ x. after_all x g s) h.1
  own_step Fail w v own h g s = ap (λ x. after_all x g s) h
  own_step (Reopen r_kept r_lost r_cut r_back a_kept a_lost a_cut a_back) w v own h g s = absurd own

  own_steps : (es : List (Event E V)) (w v : Machine E V) → AllOwn es → Steps w es v → (g : ℕ) (s : Slot) → after_all v g s ≡ after_all w g s
  own_steps [] w v own h g s = ap (λ x. after_all x g s) h
  own_steps (e ∷ es) w v own h g s = own_steps es h.0 v own.1 h.2 g s ∙ own_step e w h.0 own.0 h.1 g s

  -- from each start the files as they stand mean the map after all records
  pub means_all : (w : Machine E V) → IsKept w → (r : Reading w.store) (g : ℕ) (s : Slot) → meaning_there w.store r g s ≡ after_all w g s
  means_all w k r g s =
      holds_more w.store w.map k.holds g s w.store.rewrite.pending [] r.r_cut r.r_back r.a_cut r.a_back w.store.append.pending
      (append-nil w.store.rewrite.pending) r.r_start r.a_start

  pub invisible : (es : List (Event E V)) (w v : Machine E V) → AllOwn es → Steps w es v → IsKept w → (before : Reading w.store) (later : Reading v.store) (g : ℕ) (s : Slot)
      → meaning_there v.store later g s ≡ meaning_there w.store before g s
  invisible es w v own h k before later g s =
      means_all v (steps_keep es w v h k) later g s ∙ own_steps es w v own h g s ∙ sym (means_all w k before g s)
