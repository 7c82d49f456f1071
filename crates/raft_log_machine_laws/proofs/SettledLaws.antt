-- Where all is synced, and calls one after another.
use Rattle.std.proofs.Common.{◌≡◌, ℕ, List, [], ◌∷◌, ◌++◌, refl, sym, ap, ◌∙◌, subst, append_assoc, append-nil}
use Rattle.raft_log_model_laws.specs.Item.{Record}
use Rattle.raft_log_model_laws.specs.Groups.{Map, taken}
use Rattle.raft_log_machine_laws.specs.Files.{FileQueue}
use Rattle.raft_log_machine_laws.specs.Files.FileEvent.{Sync}
use Rattle.raft_log_machine_laws.specs.Model.{Files, with_append, with_rewrite}
use Rattle.raft_log_machine_laws.specs.Moves.{Moves, Moved, settled_files}
use Rattle.raft_log_machine_laws.specs.Log.{View, Stands, Follows, IsLog, IsAt, ViewEndsAt, LogEnds, IsSettled}
use Rattle.raft_log_machine_laws.specs.Calls.{Which, queue_at, from_at, CutsBack, Syncs, Settles}
use Rattle.raft_log_machine_laws.specs.Calls.Which.{InAppend, InRewrite}
use Rattle.raft_log_machine_laws.proofs.Follows.{taken_twice, append_follows, rewrite_follows}

module _ {E V : Type 0} where
  -- after quiet events of Append that leave nothing pending
  settled_follows : (v : View E V) (f : Files E V) (m : Map E V) (pending : List (Record E V)) (a : Moved f.append_from f.append) → a.queue.pending ≡ []
      → Stands v f m pending → Stands v (with_append f a.from a.queue) (taken m pending) []
  settled_follows v f m pending a nothing h =
      let w : Follows v f m pending a = append_follows v f m pending a h in
      let none : w.rest ≡ [] = sym w.stands.ends ∙ nothing in
      let all : w.done ≡ pending = sym (append-nil w.done) ∙ ap (λ l. w.done ++ l) (sym none) ∙ w.splits in
      subst (λ l. Stands v (with_append f a.from a.queue) (taken m l) []) all
      (subst (λ l. Stands v (with_append f a.from a.queue) (taken m w.done) l) none w.stands)

  -- a sync behind other quiet events
  abbrev one_more : (from : ℕ) (q : FileQueue E V) (a : Moved from q) → Moved from q
  one_more from q a = record {
    events = a.events ++ Sync ∷ [];
    from = a.from;
    queue = settled_files a.queue;
    moves = behind a.events from q a.moves;
  }
    where
      behind : (es : List _) (n : ℕ) (p : FileQueue E V) → Moves n p es a.from a.queue → Moves n p (es ++ Sync ∷ []) a.from (settled_files a.queue)
      behind [] n p h = (settled_files p, tt, refl, (h.0, ap settled_files h.1))
      behind (e ∷ es) n p h = (h.0, h.1, h.2, behind es _ h.0 h.3)

module _ {S E V : Type 0} (ties : S → Files E V → Type 0) (s t : S) where
  pub cut_back_settles : (which : Which) → CutsBack ties which s t → Settles ties which s t
  cut_back_settles which call f there =
      let a : Moved (from_at which f) (queue_at which f) = (call f there).0 in
      (one_more (from_at which f) (queue_at which f) a, refl, (call f there).1)

  pub sync_settles : (which : Which) → Syncs ties which s t → Settles ties which s t
  sync_settles which call f there = (
    record {
      events = Sync ∷ [];
      from = from_at which f;
      queue = settled_files (queue_at which f);
      moves = (settled_files (queue_at which f), tt, refl, (refl, refl));
    },
    refl,
    call f there,
  )

  module _ (v : View E V) (m : Map E V) where
    pub append_settles : (pending : List (Record E V)) → Settles ties InAppend s t → IsAt (ties s) v m pending → IsAt (ties t) v (taken m pending) []
    append_settles pending call h =
        let c = call h.files h.there in record {
          files = with_append h.files c.0.from c.0.queue;
          stands = settled_follows v h.files m pending c.0 c.1 h.stands;
          there = c.2;
        }

    pub rewrite_settles : Settles ties InRewrite s t → IsAt (ties s) v m [] → IsSettled (ties t) v m
    rewrite_settles call h =
        let c = call h.files h.there in record {
          at = record {
            files = with_rewrite h.files c.0.from c.0.queue;
            stands = rewrite_follows v h.files m [] c.0 h.stands;
            there = c.2;
          };
          rewrite = c.1;
        }

    -- Append's syncs and rotations leave Rewrite settled
    pub settled_stays : Settles ties InAppend s t → IsSettled (ties s) v m → IsSettled (ties t) v m
    settled_stays call h =
        let c = call h.at.files h.at.there in record {
          at = record {
            files = with_append h.at.files c.0.from c.0.queue;
            stands = settled_follows v h.at.files m [] c.0 c.1 h.at.stands;
            there = c.2;
          };
          rewrite = h.rewrite;
        }

module _ {E V : Type 0} (may : Files E V → Type 0) (m : Map E V) where
  -- some batches are synced, then others
  pub ends_in_turn : (v : View E V) (done rest more pending : List (Record E V)) → done ++ rest ≡ pending → ViewEndsAt may v (taken m done) (rest ++ more)
      → ViewEndsAt may v m (pending ++ more)
  ends_in_turn v done rest more pending e h = record {
    done = done ++ h.done;
    rest = h.rest;
    splits = append_assoc done h.done h.rest ∙ ap (λ l. done ++ l) h.splits ∙ sym (append_assoc done rest more) ∙ ap (λ l. l ++ more) e;
    at = subst (λ map. IsAt may v map h.rest) (taken_twice m done h.done) h.at;
  }

  pub logs_end_in_turn : (done rest more pending : List (Record E V)) → done ++ rest ≡ pending → LogEnds may (taken m done) (rest ++ more)
      → LogEnds may m (pending ++ more)
  logs_end_in_turn done rest more pending e h = record {
    done = done ++ h.done;
    rest = h.rest;
    splits = append_assoc done h.done h.rest ∙ ap (λ l. done ++ l) h.splits ∙ sym (append_assoc done rest more) ∙ ap (λ l. l ++ more) e;
    log = subst (λ map. IsLog may map h.rest) (taken_twice m done h.done) h.log;
  }

  -- nothing is pending in the end: all of them are in the map
  pub all_done : (v : View E V) (done rest pending : List (Record E V)) → done ++ rest ≡ pending → IsAt may v (taken (taken m done) rest) []
      → IsAt may v (taken m pending) []
  all_done v done rest pending e h = subst (λ map. IsAt may v map []) (taken_twice m done rest ∙ ap (taken m) e) h
