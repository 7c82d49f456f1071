-- Steps of a world.
use Rattle.std.proofs.Common.{◌≡◌, ◌==◌, ℕ, Bool, true, false, List, [], ◌∷◌, None, Result, Ok, Err, IfOk, Global, if◌then◌else◌, ap, refl, sym, subst, ◌∙◌, append-nil}
use Rattle.std.proofs.lemmas.Bool.{false≢true}
use Rattle.std.specs.String.{string_bytes}
use Rattle.std.specs.declared.string.String.{String}
use Rattle.raft_voter.specs.Service.{Service}
use Rattle.raft_voter_world.specs.declared.event.Event.{Event}
use Rattle.raft_voter_world.specs.declared.event.Event.TheVariants.{Close, Crash, CrashAt, Fork, Refuse}
use Rattle.raft_voter_world.specs.declared.faults.Fault.TheVariants.{Refuse as RefuseCall, Stop}
use Rattle.raft_voter_world.specs.declared.event.Left.{Left}
use Rattle.raft_voter_world.specs.declared.notes.Notes.{Notes}
use Rattle.raft_voter_world.specs.declared.storage.Storage.{Storage}
use Rattle.raft_voter_world.specs.declared.storage.Storage.TheVariants.{Closed, Open}
use Rattle.raft_voter_world.specs.declared.world.World.{World}
use Rattle.raft_voter_world.specs.History.{Change, Crashes, Either, Falls, IsChange, IsClosedAs, One, Happen, Happens, Keeps, Moment, Turns, behind_all, has_stopped, left_from}
use Rattle.raft_voter_world.specs.History.Change.{closes, purges, arms, copies}
use Rattle.raft_voter_world.specs.History.Moment.{crashed, kept}
use Rattle.raft_voter_world.specs.Steps.{Falling, Grows, IsStep, Moves, WhereAlive, event_of}
use Rattle.raft_voter_world.specs.Storages.{CopiesIfClosed, PurgesIfOpen}
use Rattle.raft_voter_world.specs.declared.faults.Purge.{Purge}
use Rattle.raft_voter_world.specs.declared.faults.Purge.TheVariants.{Expired, RewriteAppend as Append, RewriteRewrite as Rewrite}
use Rattle.raft_voter_world.specs.Stores.{Disk, Upkeep}

pub ok_weaker : {X E : Type 0} (r : Result X E) (P Q : X → Type 0) → ((x : X) → P x → Q x) → IfOk r P → IfOk r Q
ok_weaker (Ok x) P Q f h = f x h
ok_weaker (Err e) P Q f h = tt

pub first_so : (b : Bool) (P Q : Type 0) → b ≡ true → P → Either b P Q
first_so true P Q e h = h
first_so false P Q e h = absurd (false≢true e)

pub second_so : (b : Bool) (P Q : Type 0) → b ≡ false → Q → Either b P Q
second_so true P Q e h = absurd (false≢true (sym e))
second_so false P Q e h = h

nothing_noted : {S F : Type 0} (event : ℕ) (notes : Notes) (ms : List (Moment S F)) → ms ≡ [] → Grows event notes ms notes
nothing_noted event notes [] e = record { rounds = sym (append-nil _); cuts = λ last rest. refl; least = λ rest l. l; lost = sym (append-nil _) }
nothing_noted event notes (m ∷ ms) e = absurd cc

pub stays : {S F : Type 0} (v : Service S) (u : Upkeep S) (d : Disk S F) (event : ℕ) (world : World S F) → has_stopped u d world.storage ≡ false → Falling v u d event world world
stays v u d event world runs = record {
  moments = [];
  falls = runs;
  moves = record { happened = tt; now = refl; noted = nothing_noted event world.notes [] refl; ready = λ r. r };
  left = refl;
}

crash_noted : {S F : Type 0} (event : ℕ) (notes : Notes) (gone : Left) (files : F) → Grows {S = S} {F = F} event notes (crashed gone files ∷ []) notes
crash_noted event notes gone files = record { rounds = sym (append-nil _); cuts = λ last rest. refl; least = λ rest l. l; lost = sym (append-nil _) }

pub falls_down : {S F : Type 0} (v : Service S) (u : Upkeep S) (d : Disk S F) (event : ℕ) (old new : World S F) (files : F) → has_stopped u d old.storage ≡ true → Crashes v d old.storage old.left files
    → new.storage ≡ Closed files → new.notes ≡ old.notes → new.left ≡ old.left → Falling v u d event old new
falls_down {S} {F} v u d event old new files stopped falls now notes left = record {
  moments = crashed old.left files ∷ [];
  falls = (stopped, refl);
  moves = record {
    happened = (happens old.storage falls, tt);
    now = now;
    noted = subst (λ (n : Notes). Grows {S = S} {F = F} event old.notes (crashed old.left files ∷ []) n) (sym notes) (crash_noted event old.notes old.left files);
    ready = λ r. subst (λ (x : Storage S F). WhereAlive v x (new.notes.unsettled ≡ None)) (sym now) tt;
  };
  left = left;
}
  where
    happens : (storage : Storage S F) → Crashes v d storage old.left files → Happens v u d storage (crashed old.left files)
    happens (Closed f) h = h
    happens (Open s) h = h

-- where a call kept the voters, what is so where a store is alive is still so
kept_alive : {S F : Type 0} (v : Service S) (u : Upkeep S) (d : Disk S F) (change : Change) (old new : Storage S F) (P : Type 0) → Keeps v u d change old new → WhereAlive v old P → WhereAlive v new P
kept_alive v u d closes (Open store) (Closed files) P k a = tt
kept_alive v u d (purges p refusal) (Open old) (Open new) P k a = λ alive. go (v.is_failed old) refl alive
  where
    go : (b : Bool) → v.is_failed old ≡ b → v.is_failed new ≡ false → P
    go true e alive = absurd (false≢true (sym alive ∙ k.1.failed e))
    go false e alive = a e
kept_alive v u d (arms f) (Open old) (Open new) P k a = λ alive. a (sym k.1.failed ∙ alive)
kept_alive v u d (arms f) (Closed old) (Closed new) P k a = tt
kept_alive v u d (copies t refusal) (Closed old) (Closed new) P k a = tt
kept_alive v u d closes (Closed old) new P k a = absurd k
kept_alive v u d closes (Open old) (Open new) P k a = absurd k
kept_alive v u d (purges p refusal) (Closed old) new P k a = absurd k
kept_alive v u d (purges p refusal) (Open old) (Closed new) P k a = absurd k
kept_alive v u d (arms f) (Open old) (Closed new) P k a = absurd k
kept_alive v u d (arms f) (Closed old) (Open new) P k a = absurd k
kept_alive v u d (copies t refusal) (Open old) new P k a = absurd k
kept_alive v u d (copies t refusal) (Closed old) (Open new) P k a = absurd k

kept_happens : {S F : Type 0} (v : Service S) (u : Upkeep S) (d : Disk S F) (change : Change) (old new : Storage S F) → Keeps v u d change old new → Happens v u d old (kept change new)
kept_happens v u d change (Closed files) new k = k
kept_happens v u d change (Open store) new k = k

-- a call kept the voters, and a crash followed where the disk stopped
pub kept_moves : {S F : Type 0} (v : Service S) (u : Upkeep S) (d : Disk S F) (event : ℕ) (change : Change) (old mid new : World S F) (ms : List (Moment S F)) → Keeps v u d change old.storage mid.storage → mid.notes ≡ old.notes
    → Moves v u d event mid ms new → Moves v u d event old (kept change mid.storage ∷ ms) new
kept_moves {S} {F} v u d event change old mid new ms k notes m =
    let g : Grows {S = S} {F = F} event old.notes ms new.notes = subst (λ (n : Notes). Grows {S = S} {F = F} event n ms new.notes) notes m.noted in
    record {
      happened = (kept_happens v u d change old.storage mid.storage k, m.happened);
      now = m.now;
      noted = record { rounds = g.rounds; cuts = g.cuts; least = g.least; lost = g.lost };
      ready = λ r. m.ready (subst (λ (n : Notes). WhereAlive v mid.storage (n.unsettled ≡ None)) (sym notes) (kept_alive v u d change old.storage mid.storage (old.notes.unsettled ≡ None) k r));
    }

-- Events that make one call, which keeps the voters.

-- where a purge is made of an open store, or of none
pub purge_step : {S F : Type 0} (v : Service S) (u : Upkeep S) (d : Disk S F) (place : ℕ) (purge : Purge) (old mid new : World S F) (storage : Storage S F) → old.storage ≡ storage → PurgesIfOpen v u d purge storage mid.storage
    → mid.notes ≡ old.notes → mid.left ≡ old.left → Falling v u d place mid new → IsStep v u d place (event_of purge) old new
purge_step {S} {F} v u d place purge old mid new (Open store) is (refusal, k) notes left f = record {
  moments = kept (purges purge refusal) mid.storage ∷ f.moments;
  turns = subst (λ (x : Storage S F). Turns u d old.left x (event_of purge) (kept (purges purge refusal) mid.storage ∷ f.moments)) (sym is) (turned purge);
  moves = kept_moves v u d place (purges purge refusal) old mid new f.moments (subst (λ (x : Storage S F). Keeps v u d (purges purge refusal) x mid.storage) (sym is) k) notes f.moves;
  left = f.left ∙ left ∙ same purge;
}
  where
    falls : Falls u d old.left mid.storage f.moments
    falls = subst (λ (g : Left). Falls u d g mid.storage f.moments) left f.falls

    turned : (p : Purge) → Turns u d old.left (Open store) (event_of p) (kept (purges p refusal) mid.storage ∷ f.moments)
    turned Expired = (refl, falls)
    turned Append = (refl, falls)
    turned Rewrite = (refl, falls)

    same : (p : Purge) → old.left ≡ left_from (event_of p) old.left
    same Expired = refl
    same Append = refl
    same Rewrite = refl
purge_step {S} {F} v u d place purge old mid new (Closed files) is k notes left f = record {
  moments = f.moments;
  turns = subst (λ (x : Storage S F). Turns u d old.left x (event_of purge) f.moments) (sym is) (turned purge);
  moves = record {
    happened = subst (λ (x : Storage S F). Happen v u d x f.moments) there f.moves.happened;
    now = subst (λ (x : Storage S F). new.storage ≡ behind_all x f.moments) there f.moves.now;
    noted = subst (λ (n : Notes). Grows {S = S} {F = F} place n f.moments new.notes) notes f.moves.noted;
    ready = λ r. f.moves.ready (subst (λ (x : Storage S F). WhereAlive v x (mid.notes.unsettled ≡ None)) (sym k) tt);
  };
  left = f.left ∙ left ∙ same purge;
}
  where
    there : mid.storage ≡ old.storage
    there = k ∙ sym is

    falls : Falls u d old.left (Closed files) f.moments
    falls = subst (λ (g : Left). Falls u d g (Closed files) f.moments) left (subst (λ (x : Storage S F). Falls u d mid.left x f.moments) k f.falls)

    turned : (p : Purge) → Turns u d old.left (Closed files) (event_of p) f.moments
    turned Expired = falls
    turned Append = falls
    turned Rewrite = falls

    same : (p : Purge) → old.left ≡ left_from (event_of p) old.left
    same Expired = refl
    same Append = refl
    same Rewrite = refl

-- a crash, whatever was armed
pub crash_step : {S F : Type 0} (v : Service S) (u : Upkeep S) (d : Disk S F) (place : ℕ) (gone : Left) (old new : World S F) (files : F) → Crashes v d old.storage gone files
    → new.storage ≡ Closed files → new.notes ≡ old.notes → new.left ≡ old.left → IsStep v u d place (Crash gone) old new
crash_step {S} {F} v u d place gone old new files falls now notes left = record {
  moments = crashed gone files ∷ [];
  turns = turned old.storage falls;
  moves = record {
    happened = (happens old.storage falls, tt);
    now = now;
    noted = subst (λ (n : Notes). Grows {S = S} {F = F} place old.notes (crashed gone files ∷ []) n) (sym notes) (crash_noted place old.notes gone files);
    ready = λ r. subst (λ (x : Storage S F). WhereAlive v x (new.notes.unsettled ≡ None)) (sym now) tt;
  };
  left = left;
}
  where
    happens : (storage : Storage S F) → Crashes v d storage gone files → Happens v u d storage (crashed gone files)
    happens (Closed f) h = h
    happens (Open s) h = h

    turned : (storage : Storage S F) → Crashes v d storage gone files → Turns u d old.left storage (Crash gone) (crashed gone files ∷ [])
    turned (Closed f) h = (refl, h.2)
    turned (Open s) h = (refl, h.2)

-- one call kept the voters
kept_step : {S F : Type 0} (v : Service S) (u : Upkeep S) (d : Disk S F) (place : ℕ) (event : Event) (change : Change) (old mid new : World S F) → Keeps v u d change old.storage mid.storage → mid.notes ≡ old.notes → mid.left ≡ left_from event old.left
    → ((ms : List (Moment S F)) → Falls u d mid.left mid.storage ms → Turns u d old.left old.storage event (kept change mid.storage ∷ ms)) → Falling v u d place mid new → IsStep v u d place event old new
kept_step v u d place event change old mid new k notes left turned f = record {
  moments = kept change mid.storage ∷ f.moments;
  turns = turned f.moments f.falls;
  moves = kept_moves v u d place change old mid new f.moments k notes f.moves;
  left = f.left ∙ left;
}

-- nothing was called
none_step : {S F : Type 0} (v : Service S) (u : Upkeep S) (d : Disk S F) (place : ℕ) (event : Event) (old new : World S F) → old.left ≡ left_from event old.left
    → ((ms : List (Moment S F)) → Falls u d old.left old.storage ms → Turns u d old.left old.storage event ms) → Falling v u d place old new → IsStep v u d place event old new
none_step v u d place event old new left turned f = record { moments = f.moments; turns = turned f.moments f.falls; moves = f.moves; left = f.left ∙ left }

none_refused : {S F : Type 0} (u : Upkeep S) (d : Disk S F) (gone : Left) (calls : ℕ) (storage : Storage S F) (ms : List (Moment S F)) → (calls == 0) ≡ true → Falls u d gone storage ms → Turns u d gone storage (Refuse calls) ms
none_refused u d gone calls (Closed x) ms e f = first_so (calls == 0) _ _ e f
none_refused u d gone calls (Open x) ms e f = first_so (calls == 0) _ _ e f

one_refused : {S F : Type 0} (u : Upkeep S) (d : Disk S F) (gone : Left) (calls : ℕ) (storage now : Storage S F) (ms : List (Moment S F)) → (calls == 0) ≡ false → Falls u d gone now ms → Turns u d gone storage (Refuse calls) (kept (arms (RefuseCall calls)) now ∷ ms)
one_refused {S} {F} u d gone calls (Closed x) now ms e f =
    let one : One u d gone (IsChange {S = S} {F = F} (arms (RefuseCall calls))) (kept (arms (RefuseCall calls)) now ∷ ms) = (refl, f) in
    second_so (calls == 0) _ _ e one
one_refused {S} {F} u d gone calls (Open x) now ms e f =
    let one : One u d gone (IsChange {S = S} {F = F} (arms (RefuseCall calls))) (kept (arms (RefuseCall calls)) now ∷ ms) = (refl, f) in
    second_so (calls == 0) _ _ e one

pub refuse_none : {S F : Type 0} (v : Service S) (u : Upkeep S) (d : Disk S F) (place calls : ℕ) (old new : World S F) → (calls == 0) ≡ true → Falling v u d place old new → IsStep v u d place (Refuse calls) old new
refuse_none v u d place calls old new e f = none_step v u d place (Refuse calls) old new refl (λ ms h. none_refused u d old.left calls old.storage ms e h) f

pub refuse_one : {S F : Type 0} (v : Service S) (u : Upkeep S) (d : Disk S F) (place calls : ℕ) (old mid new : World S F) → (calls == 0) ≡ false → Keeps v u d (arms (RefuseCall calls)) old.storage mid.storage → mid.notes ≡ old.notes → mid.left ≡ old.left
    → Falling v u d place mid new → IsStep v u d place (Refuse calls) old new
refuse_one v u d place calls old mid new e k notes left f =
    kept_step v u d place (Refuse calls) (arms (RefuseCall calls)) old mid new k notes left (λ ms h. one_refused u d old.left calls old.storage mid.storage ms e (subst (λ (g : Left). Falls u d g mid.storage ms) left h)) f

-- nothing is changed
pub same_moves : {S F : Type 0} (v : Service S) (u : Upkeep S) (d : Disk S F) (event : ℕ) (old mid new : World S F) (ms : List (Moment S F)) → mid.storage ≡ old.storage → mid.notes ≡ old.notes → Moves v u d event mid ms new → Moves v u d event old ms new
same_moves {S} {F} v u d event old mid new ms there notes m = record {
  happened = subst (λ (x : Storage S F). Happen v u d x ms) there m.happened;
  now = subst (λ (x : Storage S F). new.storage ≡ behind_all x ms) there m.now;
  noted = subst (λ (n : Notes). Grows {S = S} {F = F} event n ms new.notes) notes m.noted;
  ready = λ r. m.ready (subst (λ (n : Notes). WhereAlive v mid.storage (n.unsettled ≡ None)) (sym notes) (subst (λ (x : Storage S F). WhereAlive v x (old.notes.unsettled ≡ None)) (sym there) r));
}

same_step : {S F : Type 0} (v : Service S) (u : Upkeep S) (d : Disk S F) (place : ℕ) (event : Event) (old mid new : World S F) → mid.storage ≡ old.storage → mid.notes ≡ old.notes → mid.left ≡ old.left → old.left ≡ left_from event old.left
    → ((ms : List (Moment S F)) → Falls u d old.left old.storage ms → Turns u d old.left old.storage event ms) → Falling v u d place mid new → IsStep v u d place event old new
same_step {S} {F} v u d place event old mid new there notes left same turned f = record {
  moments = f.moments;
  turns = turned f.moments (subst (λ (g : Left). Falls u d g old.storage f.moments) left (subst (λ (x : Storage S F). Falls u d mid.left x f.moments) there f.falls));
  moves = same_moves v u d place old mid new f.moments there notes f.moves;
  left = f.left ∙ left ∙ same;
}

-- a store that is open is closed
pub close_step : {S F : Type 0} (v : Service S) (u : Upkeep S) (d : Disk S F) (place : ℕ) (old mid new : World S F) (storage : Storage S F) (files : F) → old.storage ≡ storage → IsClosedAs v d storage files → mid.storage ≡ Closed files
    → mid.notes ≡ old.notes → mid.left ≡ old.left → Falling v u d place mid new → IsStep v u d place Close old new
close_step {S} {F} v u d place old mid new (Open store) files is k now notes left f =
    kept_step v u d place Close closes old mid new
    (subst (λ (x : Storage S F). Keeps v u d closes old.storage x) (sym now) (subst (λ (x : Storage S F). Keeps v u d closes x (Closed files)) (sym is) k)) notes left
    (λ ms h. subst (λ (x : Storage S F). Turns u d old.left x Close (kept closes mid.storage ∷ ms)) (sym is) (refl, subst (λ (g : Left). Falls u d g mid.storage ms) left h)) f
close_step {S} {F} v u d place old mid new (Closed x) files is k now notes left f =
    same_step v u d place Close old mid new (now ∙ ap Closed k ∙ sym is) notes left refl
    (λ ms h. subst (λ (y : Storage S F). Turns u d old.left y Close ms) (sym is) (subst (λ (y : Storage S F). Falls u d old.left y ms) is h)) f

-- files are copied, where no store is open
pub fork_step : {S F : Type 0} (v : Service S) (u : Upkeep S) (d : Disk S F) (place : ℕ) (target : String Global) (old mid new : World S F) (storage : Storage S F) → old.storage ≡ storage → CopiesIfClosed v u d (string_bytes target) storage mid.storage
    → mid.notes ≡ old.notes → mid.left ≡ old.left → Falling v u d place mid new → IsStep v u d place (Fork target) old new
fork_step {S} {F} v u d place target old mid new (Closed x) is (refusal, k) notes left f =
    kept_step v u d place (Fork target) (copies (string_bytes target) refusal) old mid new
    (subst (λ (y : Storage S F). Keeps v u d (copies (string_bytes target) refusal) y mid.storage) (sym is) k) notes left
    (λ ms h. subst (λ (y : Storage S F). Turns u d old.left y (Fork target) (kept (copies (string_bytes target) refusal) mid.storage ∷ ms)) (sym is) (refl, subst (λ (g : Left). Falls u d g mid.storage ms) left h)) f
fork_step {S} {F} v u d place target old mid new (Open x) is k notes left f =
    same_step v u d place (Fork target) old mid new (k ∙ sym is) notes left refl
    (λ ms h. subst (λ (y : Storage S F). Turns u d old.left y (Fork target) ms) (sym is) (subst (λ (y : Storage S F). Falls u d old.left y ms) is h)) f

one_stop : {S F : Type 0} (u : Upkeep S) (d : Disk S F) (gone gone' : Left) (calls : ℕ) (storage now : Storage S F) (ms : List (Moment S F)) → (calls == 0) ≡ false → Falls u d gone' now ms → Turns u d gone storage (CrashAt calls gone') (kept (arms (Stop calls)) now ∷ ms)
one_stop {S} {F} u d gone gone' calls (Closed x) now ms e f =
    let one : One u d gone' (IsChange {S = S} {F = F} (arms (Stop calls))) (kept (arms (Stop calls)) now ∷ ms) = (refl, f) in
    second_so (calls == 0) _ _ e one
one_stop {S} {F} u d gone gone' calls (Open x) now ms e f =
    let one : One u d gone' (IsChange {S = S} {F = F} (arms (Stop calls))) (kept (arms (Stop calls)) now ∷ ms) = (refl, f) in
    second_so (calls == 0) _ _ e one

none_stop : {S F : Type 0} (u : Upkeep S) (d : Disk S F) (gone gone' : Left) (calls : ℕ) (storage : Storage S F) (ms : List (Moment S F)) → (calls == 0) ≡ true → Falls u d gone storage ms → Turns u d gone storage (CrashAt calls gone') ms
none_stop u d gone gone' calls (Closed x) ms e f = first_so (calls == 0) _ _ e f
none_stop u d gone gone' calls (Open x) ms e f = first_so (calls == 0) _ _ e f

pub stop_none : {S F : Type 0} (v : Service S) (u : Upkeep S) (d : Disk S F) (place calls : ℕ) (gone : Left) (old new : World S F) → (calls == 0) ≡ true → Falling v u d place old new → IsStep v u d place (CrashAt calls gone) old new
stop_none v u d place calls gone old new e f =
    none_step v u d place (CrashAt calls gone) old new (ap (λ (b : Bool). if b then old.left else gone) (sym e)) (λ ms h. none_stop u d old.left gone calls old.storage ms e h) f

pub stop_one : {S F : Type 0} (v : Service S) (u : Upkeep S) (d : Disk S F) (place calls : ℕ) (gone : Left) (old mid new : World S F) → (calls == 0) ≡ false → Keeps v u d (arms (Stop calls)) old.storage mid.storage → mid.notes ≡ old.notes → mid.left ≡ gone
    → Falling v u d place mid new → IsStep v u d place (CrashAt calls gone) old new
stop_one v u d place calls gone old mid new e k notes left f =
    kept_step v u d place (CrashAt calls gone) (arms (Stop calls)) old mid new k notes (left ∙ ap (λ (b : Bool). if b then old.left else gone) (sym e))
    (λ ms h. one_stop u d old.left gone calls old.storage mid.storage ms e (subst (λ (g : Left). Falls u d g mid.storage ms) left h)) f
