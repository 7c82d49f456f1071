-- What an engine says of its log goes on with each call of a pipe.
use Rattle.std.proofs.Common.{ℕ, ◌⊎◌, List, [], ◌∷◌, ◌++◌, false, sym, ap, ◌∙◌, subst, inl, inr, append_assoc}
use Rattle.raft_log_model_laws.specs.Item.{Record, Tagged}
use Rattle.raft_log_model_laws.specs.Item.Record.{Plain, Part}
use Rattle.raft_log_model_laws.specs.Item.Mark.{Begin}
use Rattle.raft_log_model_laws.specs.Groups.{Map, taken}
use Rattle.raft_log_machine_laws.specs.Machine.{AllFit}
use Rattle.raft_log_machine_laws.specs.Model.{Files, with_append, with_rewrite}
use Rattle.raft_log_machine_laws.specs.Moves.{Moved, grown, settled_files}
use Rattle.raft_log_machine_laws.specs.Notes.{GoesOnFrom}
use Rattle.raft_log_machine_laws.specs.Log.{View, Stands, Follows, IsLog, IsAt, ViewEndsAt, LogEnds}
use Rattle.raft_log_machine_laws.specs.Tables.{GrowsTo, CarriesTo}
use Rattle.raft_log_machine_laws.specs.Calls.{Appends, CutsBack, LeavesOut, MayAppend, Syncs, FailsWhole, IsInGroup}
use Rattle.raft_log_machine_laws.specs.Calls.Which.{InAppend, InRewrite}
use Rattle.raft_log_machine_laws.proofs.Follows.{taken_twice, append_follows, rewrite_follows, stands_settled, rewrite_stands_settled}
use Rattle.raft_log_machine_laws.proofs.RewriteNotes.{group_begins}
use Rattle.raft_log_machine_laws.proofs.StandsLaws.{stands_grown, stands_carried, stands_begun}

module _ {E V : Type 0} where
  -- a view that is true of files which may be there is a log
  pub stands_log : (may : Files E V → Type 0) (v : View E V) (f : Files E V) (m : Map E V) (pending : List (Record E V)) → Stands v f m pending → may f → IsLog may m pending
  stands_log may v f m pending h there = record {
    files = f;
    whereabouts = v.whereabouts;
    failed = false;
    sound = h.sound;
    ends = h.ends;
    there = there;
  }

module _ {S E V : Type 0} (ties allows : S → Files E V → Type 0) (s t : S) (v : View E V) (m : Map E V) (pending : List (Record E V)) (h : IsAt (ties s) v m pending) where
  -- Append: a batch is written
  pub append_answered : (u : View E V) (y : Record E V) (n : ℕ) → Appends ties InAppend y n s t → GrowsTo y n v u → ViewEndsAt (ties t) u m (pending ++ y ∷ [])
  append_answered u y n call grow =
      let a : Moved h.files.append_from h.files.append = (call h.files h.there).0 in
      let w : Follows v h.files m pending a = append_follows v h.files m pending a h.stands in record {
        done = w.done;
        rest = w.rest ++ y ∷ [];
        splits = sym (append_assoc w.done w.rest (y ∷ [])) ∙ ap (λ l. l ++ y ∷ []) w.splits;
        at = record {
          files = with_append h.files a.from (grown a.queue y);
          stands = stands_grown v u (with_append h.files a.from a.queue) (taken m w.done) w.rest y
              (subst (λ k. GrowsTo y k v u) (sym (call h.files h.there).1) grow) w.stands;
          there = (call h.files h.there).2;
        };
      }

  pub append_cut_back : CutsBack ties InAppend s t → IsAt (ties t) v (taken m pending) []
  append_cut_back call =
      let a : Moved h.files.append_from h.files.append = (call h.files h.there).0 in
      let w : Follows v h.files m pending a = append_follows v h.files m pending a h.stands in record {
        files = with_append h.files a.from (settled_files a.queue);
        stands = subst (λ map. Stands v (with_append h.files a.from (settled_files a.queue)) map []) (taken_twice m w.done w.rest ∙ ap (taken m) w.splits)
            (stands_settled v (with_append h.files a.from a.queue) (taken m w.done) w.rest w.stands);
        there = (call h.files h.there).1;
      }

  pub append_left_out : LeavesOut ties InAppend s t → ViewEndsAt (ties t) v m pending
  append_left_out call =
      let a : Moved h.files.append_from h.files.append = (call h.files h.there).0 in
      let w : Follows v h.files m pending a = append_follows v h.files m pending a h.stands in record {
        done = w.done;
        rest = w.rest;
        splits = w.splits;
        at = record { files = with_append h.files a.from a.queue; stands = w.stands; there = (call h.files h.there).1 };
      }

  pub append_may_be_there : (u : ℕ → View E V) (y : Record E V) → MayAppend ties allows InAppend y s t → ((n : ℕ) → GrowsTo y n v (u n))
      → LogEnds (allows t) m pending ⊎ LogEnds (allows t) m (pending ++ y ∷ [])
  append_may_be_there u y call grow =
      let a : Moved h.files.append_from h.files.append = (call h.files h.there).0 in
      let w : Follows v h.files m pending a = append_follows v h.files m pending a h.stands in
      elim (call h.files h.there).1 [
        | inl without ↦ inl (record {
          done = w.done;
          rest = w.rest;
          splits = w.splits;
          log = stands_log (allows t) v (with_append h.files a.from a.queue) (taken m w.done) w.rest w.stands without;
        })
        | inr with_it ↦ inr (record {
          done = w.done;
          rest = w.rest ++ y ∷ [];
          splits = sym (append_assoc w.done w.rest (y ∷ [])) ∙ ap (λ l. l ++ y ∷ []) w.splits;
          log = stands_log (allows t) (u a.queue.last) (with_append h.files a.from (grown a.queue y)) (taken m w.done) (w.rest ++ y ∷ [])
              (stands_grown v (u a.queue.last) (with_append h.files a.from a.queue) (taken m w.done) w.rest y (grow a.queue.last) w.stands) with_it;
        })
      ]

  -- syncs
  pub append_synced : Syncs ties InAppend s t → IsAt (ties t) v (taken m pending) []
  append_synced call = record {
    files = with_append h.files h.files.append_from (settled_files h.files.append);
    stands = stands_settled v h.files m pending h.stands;
    there = call h.files h.there;
  }

  pub rewrite_synced : Syncs ties InRewrite s t → IsAt (ties t) v m pending
  rewrite_synced call = record {
    files = with_rewrite h.files h.files.rewrite_from (settled_files h.files.rewrite);
    stands = rewrite_stands_settled v h.files m pending h.stands;
    there = call h.files h.there;
  }

  pub failed_whole : FailsWhole ties allows s t → IsLog (allows t) m pending
  failed_whole call = stands_log (allows t) v h.files m pending h.stands (call h.files h.there)

  -- Rewrite: nothing is written
  pub rewrite_cut_back : CutsBack ties InRewrite s t → IsAt (ties t) v m pending
  rewrite_cut_back call =
      let a : Moved h.files.rewrite_from h.files.rewrite = (call h.files h.there).0 in record {
        files = with_rewrite h.files a.from (settled_files a.queue);
        stands = rewrite_stands_settled v (with_rewrite h.files a.from a.queue) m pending (rewrite_follows v h.files m pending a h.stands);
        there = (call h.files h.there).1;
      }

  pub rewrite_left_out : LeavesOut ties InRewrite s t → IsAt (ties t) v m pending
  rewrite_left_out call =
      let a : Moved h.files.rewrite_from h.files.rewrite = (call h.files h.there).0 in record {
        files = with_rewrite h.files a.from a.queue;
        stands = rewrite_follows v h.files m pending a h.stands;
        there = (call h.files h.there).1;
      }

  -- the begin of an atomic group
  pub group_begun : (n b : ℕ) (xs : List (Tagged E V)) → AllFit xs → Appends ties InRewrite (Part (Begin n) xs) b s t → IsInGroup (ties t) v m pending b n xs []
  group_begun n b xs fit call =
      let a : Moved h.files.rewrite_from h.files.rewrite = (call h.files h.there).0 in record {
        files = with_rewrite h.files a.from (grown a.queue (Part (Begin n) xs));
        stands = stands_begun v (with_rewrite h.files a.from a.queue) m pending n xs fit (rewrite_follows v h.files m pending a h.stands);
        there = (call h.files h.there).2;
        group = subst (λ k. GoesOnFrom (grown a.queue (Part (Begin n) xs)) k n xs []) (call h.files h.there).1 (group_begins a.queue n xs);
      }

  pub begin_may_be_there : (n : ℕ) (xs : List (Tagged E V)) → AllFit xs → MayAppend ties allows InRewrite (Part (Begin n) xs) s t → IsLog (allows t) m pending
  begin_may_be_there n xs fit call =
      let a : Moved h.files.rewrite_from h.files.rewrite = (call h.files h.there).0 in
      let w : Stands v (with_rewrite h.files a.from a.queue) m pending = rewrite_follows v h.files m pending a h.stands in
      elim (call h.files h.there).1 [
        | inl without ↦ stands_log (allows t) v (with_rewrite h.files a.from a.queue) m pending w without
        | inr with_it ↦ stands_log (allows t) v (with_rewrite h.files a.from (grown a.queue (Part (Begin n) xs))) m pending
            (stands_begun v (with_rewrite h.files a.from a.queue) m pending n xs fit w) with_it
      ]

-- while no batch is pending
module _ {S E V : Type 0} (ties allows : S → Files E V → Type 0) (s t : S) (v : View E V) (m : Map E V) where
  pub copies_answered : (u : View E V) (xs : List (Tagged E V)) (n : ℕ) → Appends ties InRewrite (Plain xs) n s t → CarriesTo xs n v u → IsAt (ties s) v m []
      → IsAt (ties t) u m []
  copies_answered u xs n call carry h =
      let a : Moved h.files.rewrite_from h.files.rewrite = (call h.files h.there).0 in record {
        files = with_rewrite h.files a.from (grown a.queue (Plain xs));
        stands = stands_carried v u (with_rewrite h.files a.from a.queue) m xs (subst (λ k. CarriesTo xs k v u) (sym (call h.files h.there).1) carry)
            (rewrite_follows v h.files m [] a h.stands);
        there = (call h.files h.there).2;
      }

  pub copies_may_be_there : (u : ℕ → View E V) (xs : List (Tagged E V)) → MayAppend ties allows InRewrite (Plain xs) s t → ((n : ℕ) → CarriesTo xs n v (u n))
      → IsAt (ties s) v m [] → IsLog (allows t) m []
  copies_may_be_there u xs call carry h =
      let a : Moved h.files.rewrite_from h.files.rewrite = (call h.files h.there).0 in
      let w : Stands v (with_rewrite h.files a.from a.queue) m [] = rewrite_follows v h.files m [] a h.stands in
      elim (call h.files h.there).1 [
        | inl without ↦ stands_log (allows t) v (with_rewrite h.files a.from a.queue) m [] w without
        | inr with_it ↦ stands_log (allows t) (u a.queue.last) (with_rewrite h.files a.from (grown a.queue (Plain xs))) m []
            (stands_carried v (u a.queue.last) (with_rewrite h.files a.from a.queue) m xs (carry a.queue.last) w) with_it
      ]
