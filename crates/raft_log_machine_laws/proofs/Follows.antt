-- A view stays true of the files, whatever quiet events happen to either queue.
use Rattle.std.proofs.Common.{◌≡◌, ℕ, ◌+◌, List, [], ◌∷◌, ◌++◌, length, refl, sym, ap, ◌∙◌, subst, append_assoc, append-nil}
use Rattle.std.proofs.Math.Path.{fun_ext}
use Rattle.raft_log_model_laws.specs.Item.{Record}
use Rattle.raft_log_model_laws.specs.Groups.{Map, taken}
use Rattle.raft_log_model_laws.proofs.Public.{taken_append}
use Rattle.raft_log_machine_laws.specs.Files.{LogFile, FileQueue, FileEvent, FileStep, numbered_from}
use Rattle.raft_log_machine_laws.specs.Files.FileEvent.{Grow, Sync, Rotate, Raise, Lose, Read}
use Rattle.raft_log_machine_laws.specs.Model.{Files, running, IsModelSound, with_append, with_rewrite}
use Rattle.raft_log_machine_laws.specs.Moves.{IsQuiet, Moves, Moved, settled_files, rotated}
use Rattle.raft_log_machine_laws.specs.Notes.{AreNoted}
use Rattle.raft_log_machine_laws.specs.Log.{View, Stands, Follows}
use Rattle.raft_log_machine_laws.proofs.Sound.{append_settled, append_rotated, append_lost, rewrite_settled, rewrite_rotated, rewrite_lost}
use Rattle.raft_log_machine_laws.proofs.SpanLaws.{quiet_span}
use Rattle.raft_log_machine_laws.proofs.AppendNotes.{noted_quiet}
use Rattle.raft_log_machine_laws.proofs.RewriteNotes.{rewrite_noted_quiet}

module _ {E V : Type 0} where
  pub taken_twice : (m : Map E V) (xs ys : List (Record E V)) → taken (taken m xs) ys ≡ taken m (xs ++ ys)
  taken_twice m xs ys = fun_ext (λ g. fun_ext (λ s. sym (taken_append m g s xs ys)))

  -- of the batches some first ones are synced, where Append has become this
  abbrev Become : View E V → Files E V → Map E V → List (Record E V) → ℕ → FileQueue E V → Type 0
  Become v f m pending from q =
      (done rest : List (Record E V)) × (done ++ rest ≡ pending) × Stands v (with_append f from q) (taken m done) rest

  module _ (v : View E V) (f : Files E V) (m : Map E V) (pending : List (Record E V)) (h : Stands v f m pending) where
    -- all is synced
    all_synced : (q : FileQueue E V) → q.pending ≡ [] → IsModelSound (running (with_append f f.append_from q) (taken m f.append.pending) v.whereabouts)
        → AreNoted v.whereabouts v.noted q → Stands v (with_append f f.append_from q) (taken m pending) []
    all_synced q nothing sound noted = record {
      sound = subst (λ l. IsModelSound (running (with_append f f.append_from q) (taken m l) v.whereabouts)) h.ends sound;
      ends = nothing;
      map = h.map;
      noted = noted;
      noted_in_rewrite = h.noted_in_rewrite;
    }

    pub stands_settled : Stands v (with_append f f.append_from (settled_files f.append)) (taken m pending) []
    stands_settled =
        all_synced (settled_files f.append) refl (append_settled f m v.whereabouts h.sound)
        (noted_quiet f.append (settled_files f.append) v.whereabouts v.noted (quiet_span Sync f.append (settled_files f.append) tt refl) h.noted)

    pub stands_rotated : Stands v (with_append f f.append_from (rotated f.append)) (taken m pending) []
    stands_rotated =
        all_synced (rotated f.append) refl (append_rotated f m v.whereabouts h.sound)
        (noted_quiet f.append (rotated f.append) v.whereabouts v.noted (quiet_span Rotate f.append (rotated f.append) tt refl) h.noted)

    pub stands_lost : (before : List (LogFile E V)) (file : LogFile E V) (rest : List (LogFile E V)) → before ++ file ∷ rest ≡ f.append.gone
        → Stands v (with_append f (f.append_from + (length before + 1)) (record f.append { behind = f.append.behind ++ before; gone = rest })) m pending
    stands_lost before file rest e = record {
      sound = append_lost f m v.whereabouts h.sound before file rest e;
      ends = h.ends;
      map = h.map;
      noted = h.noted;
      noted_in_rewrite = h.noted_in_rewrite;
    }

    -- one quiet event
    one_follows : (e : FileEvent E V) (p : FileQueue E V) → IsQuiet e → FileStep e f.append p → Become v f m pending (numbered_from f.append_from e) p
    one_follows (Grow ys) p quiet step = absurd quiet
    one_follows Sync p quiet step =
        subst (λ q. Become v f m pending f.append_from q) (sym step) (pending, [], append-nil pending, stands_settled)
    one_follows Rotate p quiet step =
        subst (λ q. Become v f m pending f.append_from q) (sym step) (pending, [], append-nil pending, stands_rotated)
    one_follows (Raise out stay) p quiet step = absurd quiet
    one_follows (Lose before file rest) p quiet step =
        subst (λ q. Become v f m pending (f.append_from + (length before + 1)) q) (sym step.1)
        ([], pending, refl, stands_lost before file rest step.0)
    one_follows (Read below again kept) p quiet step = absurd quiet

    -- of Rewrite
    pub rewrite_stands_settled : Stands v (with_rewrite f f.rewrite_from (settled_files f.rewrite)) m pending
    rewrite_stands_settled = record {
      sound = rewrite_settled f m v.whereabouts h.sound;
      ends = h.ends;
      map = h.map;
      noted = h.noted;
      noted_in_rewrite = rewrite_noted_quiet f.rewrite (settled_files f.rewrite) v.map v.whereabouts v.noted_in_rewrite
          (quiet_span Sync f.rewrite (settled_files f.rewrite) tt refl) h.noted_in_rewrite;
    }

    pub rewrite_stands_rotated : Stands v (with_rewrite f f.rewrite_from (rotated f.rewrite)) m pending
    rewrite_stands_rotated = record {
      sound = rewrite_rotated f m v.whereabouts h.sound;
      ends = h.ends;
      map = h.map;
      noted = h.noted;
      noted_in_rewrite = rewrite_noted_quiet f.rewrite (rotated f.rewrite) v.map v.whereabouts v.noted_in_rewrite
          (quiet_span Rotate f.rewrite (rotated f.rewrite) tt refl) h.noted_in_rewrite;
    }

    pub rewrite_stands_lost : (before : List (LogFile E V)) (file : LogFile E V) (rest : List (LogFile E V)) → before ++ file ∷ rest ≡ f.rewrite.gone
        → Stands v (with_rewrite f (f.rewrite_from + (length before + 1)) (record f.rewrite { behind = f.rewrite.behind ++ before; gone = rest })) m pending
    rewrite_stands_lost before file rest e = record {
      sound = rewrite_lost f m v.whereabouts h.sound before file rest e;
      ends = h.ends;
      map = h.map;
      noted = h.noted;
      noted_in_rewrite = rewrite_noted_quiet f.rewrite (record f.rewrite { behind = f.rewrite.behind ++ before; gone = rest }) v.map v.whereabouts v.noted_in_rewrite
          (quiet_span (Lose before file rest) f.rewrite (record f.rewrite { behind = f.rewrite.behind ++ before; gone = rest }) tt (e, refl)) h.noted_in_rewrite;
    }

    rewrite_one : (e : FileEvent E V) (p : FileQueue E V) → IsQuiet e → FileStep e f.rewrite p → Stands v (with_rewrite f (numbered_from f.rewrite_from e) p) m pending
    rewrite_one (Grow ys) p quiet step = absurd quiet
    rewrite_one Sync p quiet step = subst (λ q. Stands v (with_rewrite f f.rewrite_from q) m pending) (sym step) rewrite_stands_settled
    rewrite_one Rotate p quiet step = subst (λ q. Stands v (with_rewrite f f.rewrite_from q) m pending) (sym step) rewrite_stands_rotated
    rewrite_one (Raise out stay) p quiet step = absurd quiet
    rewrite_one (Lose before file rest) p quiet step =
        subst (λ q. Stands v (with_rewrite f (f.rewrite_from + (length before + 1)) q) m pending) (sym step.1) (rewrite_stands_lost before file rest step.0)
    rewrite_one (Read below again kept) p quiet step = absurd quiet

  -- any number of them
  many_follow : (es : List (FileEvent E V)) (v : View E V) (f : Files E V) (m : Map E V) (pending : List (Record E V)) (from : ℕ) (q : FileQueue E V)
      → Moves f.append_from f.append es from q → Stands v f m pending → Become v f m pending from q
  many_follow [] v f m pending from q moves h =
      subst (λ n. Become v f m pending n q) (sym moves.0) (subst (λ p. Become v f m pending f.append_from p) (sym moves.1) ([], pending, refl, h))
  many_follow (e ∷ es) v f m pending from q moves h =
      let first : Become v f m pending (numbered_from f.append_from e) moves.0 = one_follows v f m pending h e moves.0 moves.1 moves.2 in
      let rest : Become v (with_append f (numbered_from f.append_from e) moves.0) (taken m first.0) first.1 from q =
      many_follow es v (with_append f (numbered_from f.append_from e) moves.0) (taken m first.0) first.1 from q moves.3 first.3 in (
        first.0 ++ rest.0,
        rest.1,
        append_assoc first.0 rest.0 rest.1 ∙ ap (λ l. first.0 ++ l) rest.2 ∙ first.2,
        subst (λ map. Stands v (with_append f from q) map rest.1) (taken_twice m first.0 rest.0) rest.3,
      )

  pub append_follows : (v : View E V) (f : Files E V) (m : Map E V) (pending : List (Record E V)) (a : Moved f.append_from f.append) → Stands v f m pending
      → Follows v f m pending a
  append_follows v f m pending a h =
      let w : Become v f m pending a.from a.queue = many_follow a.events v f m pending a.from a.queue a.moves h in
      record { done = w.0; rest = w.1; splits = w.2; stands = w.3 }

  rewrite_many : (es : List (FileEvent E V)) (v : View E V) (f : Files E V) (m : Map E V) (pending : List (Record E V)) (from : ℕ) (q : FileQueue E V)
      → Moves f.rewrite_from f.rewrite es from q → Stands v f m pending → Stands v (with_rewrite f from q) m pending
  rewrite_many [] v f m pending from q moves h =
      subst (λ n. Stands v (with_rewrite f n q) m pending) (sym moves.0) (subst (λ p. Stands v (with_rewrite f f.rewrite_from p) m pending) (sym moves.1) h)
  rewrite_many (e ∷ es) v f m pending from q moves h =
      rewrite_many es v (with_rewrite f (numbered_from f.rewrite_from e) moves.0) m pending from q moves.3
      (rewrite_one v f m pending h e moves.0 moves.1 moves.2)

  pub rewrite_follows : (v : View E V) (f : Files E V) (m : Map E V) (pending : List (Record E V)) (r : Moved f.rewrite_from f.rewrite) → Stands v f m pending
      → Stands v (with_rewrite f r.from r.queue) m pending
  rewrite_follows v f m pending r h = rewrite_many r.events v f m pending r.from r.queue r.moves h
