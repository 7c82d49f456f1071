-- An engine in the middle of an atomic group, and its raises that fail.
use Rattle.std.proofs.Common.{◌≡◌, ℕ, ◌+◌, List, [], ◌∷◌, ◌++◌, length, ap, ◌∙◌, inl, inr}
use Rattle.raft_log_model_laws.specs.Item.{Record, Tagged}
use Rattle.raft_log_model_laws.specs.Item.Record.{Part}
use Rattle.raft_log_model_laws.specs.Item.Mark.{Middle, End}
use Rattle.raft_log_model_laws.specs.Groups.{Map, taken}
use Rattle.raft_log_machine_laws.specs.Whereabouts.{OwesNothing}
use Rattle.raft_log_machine_laws.specs.Files.{FileEvent, FileQueue}
use Rattle.raft_log_machine_laws.specs.Files.FileEvent.{Grow, Sync, Rotate, Raise, Lose, Read}
use Rattle.raft_log_machine_laws.specs.Machine.{AllFit}
use Rattle.raft_log_machine_laws.specs.Model.{Files, with_append, with_rewrite}
use Rattle.raft_log_machine_laws.specs.Moves.{Moves, Moved, grown, raised_files}
use Rattle.raft_log_machine_laws.specs.Notes.{AppendStandsFrom, RewriteStandsFrom, GoesOnFrom}
use Rattle.raft_log_machine_laws.specs.Log.{View, Stands, Follows, IsLog, IsAt, IsSettled}
use Rattle.raft_log_machine_laws.specs.Tables.{EndsGroupTo}
use Rattle.raft_log_machine_laws.specs.Calls.{Appends, LeavesOut, MayAppend, Raises, IsInGroup}
use Rattle.raft_log_machine_laws.specs.Calls.Which.{InAppend, InRewrite}
use Rattle.raft_log_machine_laws.proofs.Follows.{append_follows, rewrite_follows}
use Rattle.raft_log_machine_laws.proofs.RewriteNotes.{group_goes_on, group_moves_on}
use Rattle.raft_log_machine_laws.proofs.StandsLaws.{stands_gone_on, stands_ended, stands_raised, rewrite_stands_raised}
use Rattle.raft_log_machine_laws.proofs.CallLaws.{stands_log}

module _ {S E V : Type 0} (ties allows : S → Files E V → Type 0) (s t : S) (v : View E V) (m : Map E V) (b n : ℕ) (first : List (Tagged E V))
    (more : List (List (Tagged E V))) where
  -- a group that is given up is forgotten: it has no end, so it counts not
  pub group_given_up : (pending : List (Record E V)) → IsInGroup (ties s) v m pending b n first more → IsAt (ties s) v m pending
  group_given_up pending h = record { files = h.files; stands = h.stands; there = h.there }

  pub group_left_out : (pending : List (Record E V)) → LeavesOut ties InRewrite s t → IsInGroup (ties s) v m pending b n first more
      → IsInGroup (ties t) v m pending b n first more
  group_left_out pending call h =
      let a : Moved h.files.rewrite_from h.files.rewrite = (call h.files h.there).0 in record {
        files = with_rewrite h.files a.from a.queue;
        stands = rewrite_follows v h.files m pending a h.stands;
        there = (call h.files h.there).1;
        group = group_moves_on h.files.rewrite_from h.files.rewrite a b n first more h.group;
      }

  pub middle_answered : (pending : List (Record E V)) (k : ℕ) (xs : List (Tagged E V)) → AllFit xs → Appends ties InRewrite (Part (Middle n) xs) k s t
      → IsInGroup (ties s) v m pending b n first more → IsInGroup (ties t) v m pending b n first (more ++ xs ∷ [])
  middle_answered pending k xs fit call h =
      let a : Moved h.files.rewrite_from h.files.rewrite = (call h.files h.there).0 in
      let on : GoesOnFrom a.queue b n first more = group_moves_on h.files.rewrite_from h.files.rewrite a b n first more h.group in record {
        files = with_rewrite h.files a.from (grown a.queue (Part (Middle n) xs));
        stands = stands_gone_on v (with_rewrite h.files a.from a.queue) m pending b n first more xs fit on (rewrite_follows v h.files m pending a h.stands);
        there = (call h.files h.there).2;
        group = group_goes_on a.queue b n first more xs on;
      }

  pub middle_may_be_there : (pending : List (Record E V)) (xs : List (Tagged E V)) → AllFit xs → MayAppend ties allows InRewrite (Part (Middle n) xs) s t
      → IsInGroup (ties s) v m pending b n first more → IsLog (allows t) m pending
  middle_may_be_there pending xs fit call h =
      let a : Moved h.files.rewrite_from h.files.rewrite = (call h.files h.there).0 in
      let w : Stands v (with_rewrite h.files a.from a.queue) m pending = rewrite_follows v h.files m pending a h.stands in
      elim (call h.files h.there).1 [
        | inl without ↦ stands_log (allows t) v (with_rewrite h.files a.from a.queue) m pending w without
        | inr with_it ↦ stands_log (allows t) v (with_rewrite h.files a.from (grown a.queue (Part (Middle n) xs))) m pending
            (stands_gone_on v (with_rewrite h.files a.from a.queue) m pending b n first more xs fit
            (group_moves_on h.files.rewrite_from h.files.rewrite a b n first more h.group) w) with_it
      ]

  pub end_answered : (u : View E V) (k : ℕ) (xs : List (Tagged E V)) → Appends ties InRewrite (Part (End n) xs) k s t → EndsGroupTo first more xs b v u
      → IsInGroup (ties s) v m [] b n first more → IsAt (ties t) u m []
  end_answered u k xs call end h =
      let a : Moved h.files.rewrite_from h.files.rewrite = (call h.files h.there).0 in record {
        files = with_rewrite h.files a.from (grown a.queue (Part (End n) xs));
        stands = stands_ended v u (with_rewrite h.files a.from a.queue) m b n first more xs end
            (group_moves_on h.files.rewrite_from h.files.rewrite a b n first more h.group) (rewrite_follows v h.files m [] a h.stands);
        there = (call h.files h.there).2;
      }

  pub end_may_be_there : (u : View E V) (xs : List (Tagged E V)) → MayAppend ties allows InRewrite (Part (End n) xs) s t → EndsGroupTo first more xs b v u
      → IsInGroup (ties s) v m [] b n first more → IsLog (allows t) m []
  end_may_be_there u xs call end h =
      let a : Moved h.files.rewrite_from h.files.rewrite = (call h.files h.there).0 in
      let w : Stands v (with_rewrite h.files a.from a.queue) m [] = rewrite_follows v h.files m [] a h.stands in
      elim (call h.files h.there).1 [
        | inl without ↦ stands_log (allows t) v (with_rewrite h.files a.from a.queue) m [] w without
        | inr with_it ↦ stands_log (allows t) u (with_rewrite h.files a.from (grown a.queue (Part (End n) xs))) m []
            (stands_ended v u (with_rewrite h.files a.from a.queue) m b n first more xs end
            (group_moves_on h.files.rewrite_from h.files.rewrite a b n first more h.group) w) with_it
      ]

nothing_done : {E V : Type 0} (v : View E V) (f : Files E V) (m : Map E V) (done rest : List (Record E V)) → done ++ rest ≡ [] → Stands v f (taken m done) rest
    → Stands v f m []
nothing_done v f m [] [] e w = w
nothing_done v f m [] (x ∷ xs) e w = cc
nothing_done v f m (x ∷ xs) rest e w = cc

-- raises: `become` is what ties the new state, or what its images allow
module _ {S E V : Type 0} (ties become : S → Files E V → Type 0) (s t : S) (v : View E V) (m : Map E V) (n : ℕ) (h : IsSettled (ties s) v m) where
  pub append_raised_to : Raises ties become InAppend n s t → ((g : ℕ) → OwesNothing (v.whereabouts g)) → AppendStandsFrom n v.whereabouts v.noted
      → IsAt (become t) v m []
  append_raised_to call owes from =
      let f : Files E V = h.at.files in
      let c = call f h.at.there in
      let raised : Files E V = with_append f f.append_from (raised_files f.append c.0 c.1) in
      let w : Follows v raised m [] c.4.0 =
      append_follows v raised m [] c.4.0 (stands_raised v f m n c.0 c.1 h.rewrite c.2 c.3 owes from h.at.stands) in record {
        files = with_append f c.4.0.from c.4.0.queue;
        stands = nothing_done v (with_append f c.4.0.from c.4.0.queue) m w.done w.rest w.splits w.stands;
        there = c.4.1;
      }

  pub rewrite_raised_to : Raises ties become InRewrite n s t → RewriteStandsFrom n v.map v.whereabouts v.noted_in_rewrite → IsAt (become t) v m []
  rewrite_raised_to call from =
      let f : Files E V = h.at.files in
      let c = call f h.at.there in record {
        files = with_rewrite f c.4.0.from c.4.0.queue;
        stands = rewrite_follows v (with_rewrite f f.rewrite_from (raised_files f.rewrite c.0 c.1)) m [] c.4.0
            (rewrite_stands_raised v f m n c.0 c.1 h.rewrite c.2 c.3 from h.at.stands);
        there = c.4.1;
      }

  -- nothing is pending in Rewrite then, where nothing was
  nothing_moved : (es : List (FileEvent E V)) (from : ℕ) (q : FileQueue E V) (to : ℕ) (p : FileQueue E V) → Moves from q es to p → q.pending ≡ [] → p.pending ≡ []
  nothing_moved [] from q to p moves nothing = ap (λ x. x.pending) moves.1 ∙ nothing
  nothing_moved (Grow ys ∷ es) from q to p moves nothing = absurd moves.1
  nothing_moved (Sync ∷ es) from q to p moves nothing = nothing_moved es from moves.0 to p moves.3 (ap (λ x. x.pending) moves.2)
  nothing_moved (Rotate ∷ es) from q to p moves nothing = nothing_moved es from moves.0 to p moves.3 (ap (λ x. x.pending) moves.2)
  nothing_moved (Raise out stay ∷ es) from q to p moves nothing = absurd moves.1
  nothing_moved (Lose before file rest ∷ es) from q to p moves nothing =
      nothing_moved es (from + (length before + 1)) moves.0 to p moves.3 (ap (λ x. x.pending) moves.2.1 ∙ nothing)
  nothing_moved (Read below again kept ∷ es) from q to p moves nothing = absurd moves.1

  pub append_raise_settled : Raises ties become InAppend n s t → ((g : ℕ) → OwesNothing (v.whereabouts g)) → AppendStandsFrom n v.whereabouts v.noted
      → IsSettled (become t) v m
  unfolding append_raised_to
  append_raise_settled call owes from = record { at = append_raised_to call owes from; rewrite = h.rewrite }

  pub rewrite_raise_settled : Raises ties become InRewrite n s t → RewriteStandsFrom n v.map v.whereabouts v.noted_in_rewrite → IsSettled (become t) v m
  unfolding rewrite_raised_to
  rewrite_raise_settled call from =
      let f : Files E V = h.at.files in
      let c = call f h.at.there in record {
        at = rewrite_raised_to call from;
        rewrite = nothing_moved c.4.0.events f.rewrite_from (raised_files f.rewrite c.0 c.1) c.4.0.from c.4.0.queue c.4.0.moves h.rewrite;
      }

  -- a raise that failed: what the images allow is a log still
  pub append_raise_failed : Raises ties become InAppend n s t → ((g : ℕ) → OwesNothing (v.whereabouts g)) → AppendStandsFrom n v.whereabouts v.noted
      → IsLog (become t) m []
  append_raise_failed call owes from =
      let at : IsAt (become t) v m [] = append_raised_to call owes from in stands_log (become t) v at.files m [] at.stands at.there

  pub rewrite_raise_failed : Raises ties become InRewrite n s t → RewriteStandsFrom n v.map v.whereabouts v.noted_in_rewrite → IsLog (become t) m []
  rewrite_raise_failed call from =
      let at : IsAt (become t) v m [] = rewrite_raised_to call from in stands_log (become t) v at.files m [] at.stands at.there
