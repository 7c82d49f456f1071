-- An open of a world.
use Rattle.std.proofs.Common.{◌≡◌, ◌==◌, inl, inr, ℕ, Bool, true, false, List, [], ◌∷◌, ◌++◌, Option, Some, None, append_assoc, append-nil, ap, refl, sym, subst, ◌∙◌}
use Rattle.std.proofs.Math.Path.{fun_ext}
use Rattle.std.proofs.lemmas.Bool.{eqb-true, eq-eqb, false≢true}
use Rattle.raft_voter_outline.specs.State.{State}
use Rattle.raft_voter.specs.Rounds.{World as AllVoters, put}
use Rattle.raft_voter.specs.Service.{CutRound, Service, uncut}
use Rattle.raft_voter.specs.Voters.{world_of}
use Rattle.raft_voter.specs.declared.service.Cause.{Cause}
use Rattle.raft_voter.specs.declared.voters.Voters.{Voters}
use Rattle.raft_voter_world.specs.declared.event.Event.TheVariants.{Open as OpenEvent}
use Rattle.raft_voter_world.specs.declared.event.Left.{Left}
use Rattle.raft_voter_world.specs.declared.notes.Notes.{Notes}
use Rattle.raft_voter_world.specs.declared.opening.Opened.{Opened}
use Rattle.raft_voter_world.specs.declared.opening.Opened.TheVariants.{Shown, Closed as IsClosed}
use Rattle.raft_voter_world.specs.declared.storage.Storage.{Storage}
use Rattle.raft_voter_world.specs.declared.storage.Storage.TheVariants.{Closed, Open}
use Rattle.raft_voter_world.specs.declared.world.World.{World}
use Rattle.raft_voter_world.specs.Cuts.{AreLeast, cuts_in, lost_at, next_place}
use Rattle.raft_voter_world.specs.History.{Falls, Happens, IsClosedAs, IsOpening, IsUnopened, Keeps, Moment, One, Opens, Turns, behind}
use Rattle.raft_voter_world.specs.History.Change.{closes}
use Rattle.raft_voter_world.specs.History.Moment.{fell, kept, opened, unopened, unread}
use Rattle.raft_voter_world.specs.Notes.{NotesShown, all_rounds, lost_by}
use Rattle.raft_voter_world.specs.Openings.{ComesOut}
use Rattle.raft_voter_world.specs.Steps.{Falling, Grows, IsStep, Moves, WhereAlive}
use Rattle.raft_voter_world.specs.Stores.{Disk, Upkeep, world_in}
use Rattle.raft_voter_world.proofs.Joining.{moves_more}
use Rattle.raft_voter_world.proofs.Moving.{first_so, kept_moves, same_moves, second_so}
use Rattle.raft_voter_world.proofs.Rounding.{none_cut, none_unsettled, none_waits, one_moves}

-- The voters of a list.

-- some of the list were put, from its last on
pub record IsGathered (all left : List (ℕ × State)) (W : AllVoters) : Type 0 where
  pub done : List (ℕ × State)
  pub parts : all ≡ left ++ done
  pub told : W ≡ world_in done

pub none_gathered : (all : List (ℕ × State)) (W : AllVoters) → W ≡ world_in [] → IsGathered all all W
none_gathered all W is = record { done = []; parts = sym (append-nil all); told = is }

one_told : (g : ℕ) (v : State) (vs : List (ℕ × State)) → put (world_in vs) g v ≡ world_in ((g, v) ∷ vs)
one_told g v vs = fun_ext (λ h. by_group h (h == g) (g == h) refl refl)
  where
    by_group : (h : ℕ) (a b : Bool) → (h == g) ≡ a → (g == h) ≡ b → put (world_in vs) g v h ≡ world_in ((g, v) ∷ vs) h
    by_group h true true there here = rw (there, here) refl
    by_group h false false there here = rw (there, here) refl
    by_group h true false there here = absurd (false≢true (sym here ∙ eq-eqb g h (sym (eqb-true h g there))))
    by_group h false true there here = absurd (false≢true (sym there ∙ eq-eqb h g (sym (eqb-true g h here))))

pub one_gathered : (all left rest : List (ℕ × State)) (W X : AllVoters) (g : ℕ) (v : State) → IsGathered all left W → left ≡ rest ++ (g, v) ∷ [] → X ≡ put W g v → IsGathered all rest X
one_gathered all left rest W X g v is last now = record {
  done = (g, v) ∷ is.done;
  parts = is.parts ∙ ap (λ (xs : List (ℕ × State)). xs ++ is.done) last ∙ append_assoc rest ((g, v) ∷ []) is.done;
  told = now ∙ ap (λ (Y : AllVoters). put Y g v) is.told ∙ one_told g v is.done;
}

pub all_gathered : (all left : List (ℕ × State)) (W : AllVoters) → IsGathered all left W → left ≡ [] → W ≡ world_in all
all_gathered all left W is empty = is.told ∙ ap world_in (sym (is.parts ∙ ap (λ (xs : List (ℕ × State)). xs ++ is.done) empty))

-- What is noted of it.

shown_noted : {S F : Type 0} (event workers : ℕ) (old new : Notes) (store now : S) (listed : List (ℕ × State)) (place : Option ℕ) → NotesShown old event (world_in listed) place new → Grows {S = S} {F = F} event old (opened workers store listed place now ∷ []) new
shown_noted {S} {F} event workers old new store now listed place n = record {
  rounds = none_waits new n.settled.none ∙ n.settled.rounds ∙ sym (append-nil (all_rounds old));
  cuts = λ last rest. ap (λ cs. cs ++ cuts_in last rest) (sym n.settled.cuts ∙ sym (none_cut new (next_place last rest) n.settled.none));
  least = λ rest l. (n.found, subst (λ (C : CutRound). AreLeast C rest) (none_unsettled new n.settled.none ∙ ap uncut n.world) l);
  lost = n.lost ∙ ap (λ (ls : List ℕ). old.lost.items ++ ls) (by_place place);
}
  where
    by_place : (p : Option ℕ) → lost_by p event ≡ lost_at {S = S} {F = F} event (opened workers store listed p now ∷ [])
    by_place None = refl
    by_place (Some p) = refl

unread_noted : {S F : Type 0} (event workers : ℕ) (notes : Notes) (store now : S) (files : F) → Grows {S = S} {F = F} event notes (unread workers store now files ∷ []) notes
unread_noted event workers notes store now files = record { rounds = sym (append-nil (all_rounds notes)); cuts = λ last rest. refl; least = λ rest l. l; lost = sym (append-nil notes.lost.items) }

fell_noted : {S F : Type 0} (event workers : ℕ) (notes : Notes) (store : S) (gone : Left) (files : F) → Grows {S = S} {F = F} event notes (fell workers store gone files ∷ []) notes
fell_noted event workers notes store gone files = record { rounds = sym (append-nil (all_rounds notes)); cuts = λ last rest. refl; least = λ rest l. l; lost = sym (append-nil notes.lost.items) }

unopened_noted : {S F : Type 0} (event workers : ℕ) (notes : Notes) (cause : Cause) (back : F) → Grows {S = S} {F = F} event notes (unopened workers cause back ∷ []) notes
unopened_noted event workers notes cause back = record { rounds = sym (append-nil (all_rounds notes)); cuts = λ last rest. refl; least = λ rest l. l; lost = sym (append-nil notes.lost.items) }

-- An open of files.

-- a world with no store open, but these files
abbrev pub closed_at : {S F : Type 0} → World S F → F → World S F
closed_at world files = record world { storage = Closed files }

-- the moments of an open of files, and the crash that follows where the disk has stopped
pub record FromFiles {S F : Type 0} (v : Service S) (u : Upkeep S) (d : Disk S F) (place workers : ℕ) (old : World S F) (files : F) (new : World S F) : Type 0 where
  pub moments : List (Moment S F)
  pub opens : Opens u d workers old.left files moments
  pub moves : Moves v u d place (closed_at old files) moments new
  pub left : new.left ≡ old.left

one_opened : {S F : Type 0} (v : Service S) (u : Upkeep S) (d : Disk S F) (place workers : ℕ) (old mid new : World S F) (files : F) (m : Moment S F) → d.has_stopped files ≡ false → Happens v u d (Closed files) m → IsOpening u workers old.left m
    → mid.storage ≡ behind m → mid.left ≡ old.left → Grows place old.notes (m ∷ []) mid.notes → WhereAlive v (behind m) (mid.notes.unsettled ≡ None) → Falling v u d place mid new → FromFiles v u d place workers old files new
one_opened {S} {F} v u d place workers old mid new files m runs happens opens now left noted ready f =
    let falls : Falls u d old.left (behind m) f.moments = subst (λ (x : Storage S F). Falls u d old.left x f.moments) now (subst (λ (g : Left). Falls u d g mid.storage f.moments) left f.falls) in
    let one : One u d old.left (IsOpening {S = S} {F = F} u workers old.left) (m ∷ f.moments) = (opens, falls) in
    record {
      moments = m ∷ f.moments;
      opens = second_so (d.has_stopped files) _ _ runs one;
      moves = moves_more v u d place (closed_at old files) mid new (m ∷ []) f.moments (one_moves v u d place (closed_at old files) mid (Closed files) m refl happens now noted (λ r. ready)) f.moves;
      left = f.left ∙ left;
    }

none_opened : {S F : Type 0} (v : Service S) (u : Upkeep S) (d : Disk S F) (place workers : ℕ) (old mid new : World S F) (files : F) → d.has_stopped files ≡ true → mid.storage ≡ Closed files → mid.notes ≡ old.notes → mid.left ≡ old.left
    → Falling v u d place mid new → FromFiles v u d place workers old files new
none_opened {S} {F} v u d place workers old mid new files stopped now notes left f = record {
  moments = f.moments;
  opens = first_so (d.has_stopped files) _ _ stopped
      (subst (λ (x : Storage S F). Falls u d old.left x f.moments) now (subst (λ (g : Left). Falls u d g mid.storage f.moments) left f.falls));
  moves = same_moves v u d place (closed_at old files) mid new f.moments now notes f.moves;
  left = f.left ∙ left;
}

pub from_shown : {S F : Type 0} (v : Service S) (u : Upkeep S) (d : Disk S F) (place workers : ℕ) (old mid new : World S F) (files : F) (now : S) (voters : Voters) (found : Option ℕ) → ComesOut v u d files workers old.left (Shown now voters) → mid.storage ≡ Open now
    → NotesShown old.notes place (world_of voters) found mid.notes → mid.left ≡ old.left → Falling v u d place mid new → FromFiles v u d place workers old files new
from_shown {S} {F} v u d place workers old mid new files now voters found (inl (store, runs, is, came)) at shows left f =
    let listed = came.0 in
    let n : NotesShown old.notes place (world_in listed) found mid.notes = subst (λ (X : AllVoters). NotesShown old.notes place X found mid.notes) came.4 shows in
    one_opened v u d place workers old mid new files (opened workers store listed found now) runs (is, came.1, came.2) (refl, came.3) at left
    (shown_noted place workers old.notes mid.notes store now listed found n) (λ alive. n.settled.none) f
from_shown v u d place workers old mid new files now voters found (inr (inl (cause, came))) at shows left f = absurd (let other = came.3 in let no : ⊥ = cc in no)
from_shown v u d place workers old mid new files now voters found (inr (inr (stopped, other))) at shows left f = absurd (let no : ⊥ = cc in no)

-- the files that came of an open, or else these
abbrev files_of : {S F : Type 0} → F → Opened S F → F
files_of other (Shown now voters) = other
files_of other (IsClosed files) = files

pub from_closed : {S F : Type 0} (v : Service S) (u : Upkeep S) (d : Disk S F) (place workers : ℕ) (old mid new : World S F) (files back : F) → ComesOut v u d files workers old.left (IsClosed back) → mid.storage ≡ Closed back → mid.notes ≡ old.notes
    → mid.left ≡ old.left → Falling v u d place mid new → FromFiles v u d place workers old files new
from_closed {S} {F} v u d place workers old mid new files back (inl (store, runs, is, inl came)) at notes left f =
    one_opened v u d place workers old mid new files (fell workers store old.left back) runs (is, came.0, came.1) (refl, refl) at left
    (subst (λ (n : Notes). Grows {S = S} {F = F} place old.notes (fell workers store old.left back ∷ []) n) (sym notes) (fell_noted place workers old.notes store old.left back)) tt f
from_closed {S} {F} v u d place workers old mid new files back (inl (store, runs, is, inr (now, stays, going, closed, leaves))) at notes left f =
    one_opened v u d place workers old mid new files (unread workers store now back) runs (is, stays, closed, leaves) (refl, going) at left
    (subst (λ (n : Notes). Grows {S = S} {F = F} place old.notes (unread workers store now back ∷ []) n) (sym notes) (unread_noted place workers old.notes store now back)) tt f
from_closed {S} {F} v u d place workers old mid new files back (inr (inl (cause, came))) at notes left f =
    let here : came.0 ≡ back = sym (ap (λ (o : Opened S F). files_of files o) came.3) in
    one_opened v u d place workers old mid new files (unopened workers cause back) came.1 (subst (λ (x : F). IsUnopened v d files workers cause x) here came.2) refl at left
    (subst (λ (n : Notes). Grows {S = S} {F = F} place old.notes (unopened workers cause back ∷ []) n) (sym notes) (unopened_noted place workers old.notes cause back)) tt f
from_closed {S} {F} v u d place workers old mid new files back (inr (inr (stopped, same))) at notes left f =
    none_opened v u d place workers old mid new files stopped (at ∙ ap Closed (ap (λ (o : Opened S F). files_of files o) same)) notes left f

-- a store that is open is closed, and its files are opened
pub open_step : {S F : Type 0} (v : Service S) (u : Upkeep S) (d : Disk S F) (place workers : ℕ) (old new : World S F) (storage : Storage S F) (files : F) → old.storage ≡ storage → IsClosedAs v d storage files → FromFiles v u d place workers old files new
    → IsStep v u d place (OpenEvent workers) old new
open_step {S} {F} v u d place workers old new (Open store) files is k x = record {
  moments = kept closes (Closed files) ∷ x.moments;
  turns = subst (λ (y : Storage S F). Turns u d old.left y (OpenEvent workers) (kept closes (Closed files) ∷ x.moments)) (sym is) x.opens;
  moves = kept_moves v u d place closes old (closed_at old files) new x.moments (subst (λ (y : Storage S F). Keeps v u d closes y (Closed files)) (sym is) k) refl x.moves;
  left = x.left;
}
open_step {S} {F} v u d place workers old new (Closed before) files is k x = record {
  moments = x.moments;
  turns = subst (λ (y : Storage S F). Turns u d old.left y (OpenEvent workers) x.moments) (sym is) (subst (λ (y : F). Opens u d workers old.left y x.moments) k x.opens);
  moves = same_moves v u d place old (closed_at old files) new x.moments (ap Closed k ∙ sym is) refl x.moves;
  left = x.left;
}
