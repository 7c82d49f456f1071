-- A pipe that is nothing but its files meets the words on its calls.
use Rattle.std.proofs.Common.{◌≡◌, ℕ, ◌⊎◌, List, [], ◌∷◌, ◌++◌, refl, sym, ap, subst, inr}
use Rattle.raft_log_model_laws.specs.Item.{Record}
use Rattle.raft_log_machine_laws.specs.Files.{FileQueue, LogFile}
use Rattle.raft_log_machine_laws.specs.Files.FileEvent.{Rotate}
use Rattle.raft_log_machine_laws.specs.Model.{Files}
use Rattle.raft_log_machine_laws.specs.Moves.{Moved, grown, settled_files, rotated, raised_files}
use Rattle.raft_log_machine_laws.specs.Notes.{AllBelow}
use Rattle.raft_log_machine_laws.specs.Calls.{Which, queue_at, from_at, put, Appends, CutsBack, LeavesOut, MayAppend, Syncs, Raises, IsExactly}

module _ {E V : Type 0} where
  -- no event, and one rotation
  abbrev none_moved : (n : ℕ) (q : FileQueue E V) → Moved n q
  none_moved n q = record { events = []; from = n; queue = q; moves = (refl, refl) }

  abbrev rotation : (n : ℕ) (q : FileQueue E V) → Moved n q
  rotation n q = record { events = Rotate ∷ []; from = n; queue = rotated q; moves = (rotated q, tt, refl, (refl, refl)) }

module _ {E V : Type 0} (which : Which) (f : Files E V) where
  pub exact_appends : (y : Record E V) → Appends IsExactly which y (queue_at which f).last f (put which f (from_at which f) (grown (queue_at which f) y))
  exact_appends y x e =
      subst (λ z. (a : Moved (from_at which z) (queue_at which z)) × (a.queue.last ≡ (queue_at which f).last)
      × IsExactly (put which f (from_at which f) (grown (queue_at which f) y)) (put which z a.from (grown a.queue y)))
      (sym e) (none_moved (from_at which f) (queue_at which f), refl, refl)

  pub exact_cuts_back : CutsBack IsExactly which f (put which f (from_at which f) (settled_files (queue_at which f)))
  exact_cuts_back x e =
      subst (λ z. (a : Moved (from_at which z) (queue_at which z))
      × IsExactly (put which f (from_at which f) (settled_files (queue_at which f))) (put which z a.from (settled_files a.queue)))
      (sym e) (none_moved (from_at which f) (queue_at which f), refl)

  pub exact_rotates : LeavesOut IsExactly which f (put which f (from_at which f) (rotated (queue_at which f)))
  exact_rotates x e =
      subst (λ z. (a : Moved (from_at which z) (queue_at which z)) × IsExactly (put which f (from_at which f) (rotated (queue_at which f))) (put which z a.from a.queue))
      (sym e) (rotation (from_at which f) (queue_at which f), refl)

  pub exact_fails : (y : Record E V) → MayAppend IsExactly IsExactly which y f (put which f (from_at which f) (grown (queue_at which f) y))
  exact_fails y x e =
      subst (λ z. (a : Moved (from_at which z) (queue_at which z))
      × (IsExactly (put which f (from_at which f) (grown (queue_at which f) y)) (put which z a.from a.queue)
      ⊎ IsExactly (put which f (from_at which f) (grown (queue_at which f) y)) (put which z a.from (grown a.queue y))))
      (sym e) (none_moved (from_at which f) (queue_at which f), inr refl)

  pub exact_syncs : Syncs IsExactly which f (put which f (from_at which f) (settled_files (queue_at which f)))
  exact_syncs x e = ap (λ z. put which z (from_at which z) (settled_files (queue_at which z))) e

  pub exact_raises : (n : ℕ) (out stay : List (LogFile E V)) → out ++ stay ≡ (queue_at which f).full → AllBelow n out
      → Raises IsExactly IsExactly which n f (put which f (from_at which f) (raised_files (queue_at which f) out stay))
  exact_raises n out stay splits below x e =
      subst (λ z. (o i : List (LogFile E V)) × (o ++ i ≡ (queue_at which z).full) × AllBelow n o
      × ((a : Moved (from_at which z) (raised_files (queue_at which z) o i))
      × IsExactly (put which f (from_at which f) (raised_files (queue_at which f) out stay)) (put which z a.from a.queue)))
      (sym e) (out, stay, splits, below, (none_moved (from_at which f) (raised_files (queue_at which f) out stay), refl))
