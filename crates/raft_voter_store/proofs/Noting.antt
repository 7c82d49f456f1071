-- The refusals that are told of a round, step by step.
use Rattle.std.proofs.Common.{◌≡◌, ℕ, ◌+◌, zero, suc, true, false, if◌then◌else◌, Bool, List, [], ◌∷◌, ◌++◌, length, map, Some, refl, sym, ap, subst, inl, inr, ◌∙◌, arith}
use Rattle.std.specs.Prelude.{slice_get, take}
use Rattle.std.specs.List.{AllByRecursion}
use Rattle.std.proofs.lemmas.List.{append-nil, append_assoc, map-append}
use Rattle.raft_log_fs.specs.Causes.{IsLater}
use Rattle.raft_log_record_base.specs.declared.errors.Error.{Error}
use Rattle.raft_log_engine.specs.raft_log_engine_laws.specs.EngineState.{EngineState, has_failed}
use Rattle.raft_log_engine.specs.raft_log_engine_laws.specs.Syncing.{NotSynced, SyncsAppend}
use Rattle.raft_voter_messages.specs.declared.reply.Reply.{Reply}
use Rattle.raft_voter_messages.specs.declared.reply.Reply.TheVariants as replies
use Rattle.raft_voter_messages.specs.declared.request.Request.{Request}
use Rattle.raft_voter_messages.specs.Ranges.{in_range}
use Rattle.raft_voter_outline.specs.State.{State}
use Rattle.raft_voter.specs.Service.{is_refused, refused_from}
use Rattle.raft_voter_durability_laws.specs.Requests.{Served, TurnedDown}
use Rattle.raft_voter_durability_laws.proofs.Public.{later_same}
use Rattle.raft_voter_store.specs.Refusals.{AppendsRefusals, IsRefusal, IsCauseOf, TurnsDown, told_refusal}
use Rattle.raft_voter_store.specs.Rounds.{NotesOn, Passes}
use Rattle.raft_voter_store.specs.Taking.{FailsToTake}
use Rattle.raft_voter_store.specs.declared.refusals.Refusal.{Refusal}
use Rattle.raft_voter_store.specs.declared.refusals.RefusalCause.TheVariants.{OutOfRange, Rejected}
use Rattle.raft_voter_store.proofs.Places.{refused_behind}
use Rattle.raft_voter_store.proofs.Rounds.{refused_since, unsynced_later}

all_wider : {A : Type 0} (P Q : A → Type 0) (xs : List A) → ((x : A) → P x → Q x) → AllByRecursion P xs → AllByRecursion Q xs
all_wider P Q [] wider all = tt
all_wider P Q (x ∷ xs) wider all = (wider x all.0, all_wider P Q xs wider all.1)

all_both : {A : Type 0} (P : A → Type 0) (xs ys : List A) → AllByRecursion P xs → AllByRecursion P ys → AllByRecursion P (xs ++ ys)
all_both P [] ys first later = later
all_both P (x ∷ xs) ys first later = (first.0, all_both P xs ys first.1 later)

-- what stands at a place of a list still does with one more behind, and the same stands before
still_there : {A : Type 0} (xs : List A) (x y : A) (i : ℕ) → slice_get xs i ≡ Some y → (slice_get (xs ++ x ∷ []) i ≡ Some y) × (take i (xs ++ x ∷ []) ≡ take i xs)
still_there [] x y i is = absurd (let never : ⊥ = cc in never)
still_there (z ∷ zs) x y zero is = (is, refl)
still_there {A} (z ∷ zs) x y (suc i) is =
    let there = still_there zs x y i is in
    (there.0, ap (λ (l : List A). z ∷ l) there.1)

last_there : {A : Type 0} (xs : List A) (x : A) → (slice_get (xs ++ x ∷ []) (length xs) ≡ Some x) × (take (length xs) (xs ++ x ∷ []) ≡ xs)
last_there [] x = (refl, refl)
last_there {A} (z ∷ zs) x =
    let there = last_there zs x in
    (there.0, ap (λ (l : List A). z ∷ l) there.1)

-- a refusal is one still behind what comes later
refusal_since : (qs : List (ℕ × Request)) (told : List Reply) (s t u : EngineState) (os : ℕ → State) (r : Refusal) → IsLater t.pipes.disk u.pipes.disk → IsRefusal qs told s t os r → IsRefusal qs told s u os r
refusal_since qs told s t u os r since is = record {
  refused = is.refused;
  request = is.request;
  at = is.at;
  cause = refused_since r.cause qs (take r.place told) is.request s t u os since is.cause;
}

refusal_before : (qs : List (ℕ × Request)) (told : List Reply) (a : Reply) (s t : EngineState) (os : ℕ → State) (r : Refusal) → IsRefusal qs told s t os r → IsRefusal qs (told ++ a ∷ []) s t os r
refusal_before qs told a s t os r is =
    let there = still_there told a replies.Refused r.place is.refused in
    record {
      refused = there.0;
      request = is.request;
      at = is.at;
      cause = subst (λ (l : List Reply). IsCauseOf r.cause qs l is.request s t os) (sym there.1) is.cause;
    }

-- Steps.

pub none_noted : (qs : List (ℕ × Request)) (told : List Reply) (first : List Refusal) (s : EngineState) (os : ℕ → State) → told ≡ [] → AppendsRefusals qs told first first s s os
none_noted qs told first s os none = record {
  refusals = [];
  appends = sym (append-nil first);
  places = sym (ap (λ (l : List Reply). refused_from 0 l) none);
  right = tt;
}

pub noted_since : (qs : List (ℕ × Request)) (told now : List Reply) (first noted notes : List Refusal) (s t u : EngineState) (os : ℕ → State) → IsLater t.pipes.disk u.pipes.disk → now ≡ told → notes ≡ noted
    → AppendsRefusals qs told first noted s t os → AppendsRefusals qs now first notes s u os
noted_since qs told now first noted notes s t u os since same is before =
    subst (λ (l : List Reply). AppendsRefusals qs l first notes s u os) (sym same) (record {
      refusals = before.refusals;
      appends = is ∙ before.appends;
      places = before.places;
      right = all_wider (IsRefusal qs told s t os) (IsRefusal qs told s u os) before.refusals (λ r. refusal_since qs told s t u os r since) before.right;
    })

-- what a sync leaves
pub noted_synced : (qs : List (ℕ × Request)) (told : List Reply) (first notes : List Refusal) (s t u : EngineState) (os : ℕ → State) → SyncsAppend t u → AppendsRefusals qs told first notes s t os → AppendsRefusals qs told first notes s u os
noted_synced qs told first notes s t u os synced before = noted_since qs told told first notes notes s t u os synced.later refl refl before

pub noted_unsynced : (qs : List (ℕ × Request)) (told : List Reply) (first notes : List Refusal) (error : Error) (s t u : EngineState) (os : ℕ → State) → NotSynced error t u → AppendsRefusals qs told first notes s t os
    → AppendsRefusals qs told first notes s u os
noted_unsynced qs told first notes error s t u os unsynced before = noted_since qs told told first notes notes s t u os (unsynced_later error t u unsynced) refl refl before

noted_more : (qs : List (ℕ × Request)) (told : List Reply) (a : Reply) (first noted notes more : List Refusal) (s t u : EngineState) (os : ℕ → State) → IsLater t.pipes.disk u.pipes.disk
    → AppendsRefusals qs told first noted s t os → notes ≡ noted ++ more → map (λ r. r.place) more ≡ refused_from (length told) (a ∷ []) → AllByRecursion (IsRefusal qs (told ++ a ∷ []) s u os) more
    → AppendsRefusals qs (told ++ a ∷ []) first notes s u os
noted_more qs told a first noted notes more s t u os since before is places right =
    let place : Refusal → ℕ = λ r. r.place in
    record {
      refusals = before.refusals ++ more;
      appends = is ∙ ap (λ (l : List Refusal). l ++ more) before.appends ∙ append_assoc first before.refusals more;
      places = map-append place before.refusals more ∙ ap (λ (l : List ℕ). l ++ map place more) before.places ∙ ap (λ (l : List ℕ). refused_from 0 told ++ l) places ∙ sym (refused_behind 0 (length told) told a (omega arith));
      right = all_both (IsRefusal qs (told ++ a ∷ []) s u os) before.refusals more
          (all_wider (IsRefusal qs told s t os) (IsRefusal qs (told ++ a ∷ []) s u os) before.refusals (λ r is. refusal_before qs told a s u os r (refusal_since qs told s t u os r since is)) before.right) right;
    }

-- Out of range.

told_place : (place : ℕ) (a : Reply) → map (λ (r : Refusal). r.place) (told_refusal place a) ≡ refused_from place (a ∷ [])
told_place place a =
    elim (is_refused a) as (λ b. map (λ (r : Refusal). r.place) (if b then record { place = place; cause = OutOfRange } ∷ [] else []) ≡ (if b then place ∷ refused_from (place + 1) [] else refused_from (place + 1) []))
    [ true ↦ refl | false ↦ refl ]

is_the_refusal : (a : Reply) → is_refused a ≡ true → replies.Refused ≡ a
is_the_refusal replies.Refused is = refl
is_the_refusal _ is = absurd (let never : ⊥ = cc in never)

told_right : (qs : List (ℕ × Request)) (told : List Reply) (a : Reply) (q : ℕ × Request) (s u : EngineState) (os : ℕ → State) → slice_get qs (length told) ≡ Some q → (is_refused a ≡ true → in_range q.1 ≡ false)
    → AllByRecursion (IsRefusal qs (told ++ a ∷ []) s u os) (told_refusal (length told) a)
told_right qs told a q s u os at outside = by (is_refused a) refl
  where
    by : (b : Bool) → is_refused a ≡ b → AllByRecursion (IsRefusal qs (told ++ a ∷ []) s u os) (if b then record { place = length told; cause = OutOfRange } ∷ [] else [])
    by true is = (record { refused = (last_there told a).0 ∙ ap (λ (r : Reply). Some r) (sym (is_the_refusal a is)); request = q; at = at; cause = outside is }, tt)
    by false is = tt

pub served_notes : (q : ℕ × Request) (a : Reply) (more : Bool) (place : ℕ) (told now : List Reply) (noted notes : List Refusal) (t u : EngineState) (us ws : ℕ → State) → Served q a more t u us ws → now ≡ told ++ a ∷ [] → place ≡ length told
    → notes ≡ noted ++ told_refusal place a → NotesOn q told now noted notes t u us
served_notes q a more place told now noted notes t u us ws served is here adds qs wrote s os first passes at before =
    let adds' : notes ≡ noted ++ told_refusal (length told) a = adds ∙ ap (λ (p : ℕ). noted ++ told_refusal p a) here in
    subst (λ (l : List Reply). AppendsRefusals qs l first notes s u os) (sym is)
    (noted_more qs told a first noted notes (told_refusal (length told) a) s t u os served.later before adds' (told_place (length told) a) (told_right qs told a q s u os at served.refuses))

-- Rejected.

pub past_notes : (q : ℕ × Request) (error : Error) (place : ℕ) (told now : List Reply) (noted notes : List Refusal) (t u : EngineState) (us ws : ℕ → State) → FailsToTake q error t u us ws → has_failed u ≡ false → now ≡ told ++ replies.Refused ∷ []
    → place ≡ length told → notes ≡ noted ++ record { place = place; cause = Rejected error } ∷ [] → NotesOn q told now noted notes t u us
past_notes q error place told now noted notes t u us ws (same, inl turned) alive is here adds qs wrote s os first passes at before =
    let r : ℕ → Refusal = λ p. record { place = p; cause = Rejected error } in
    let adds' : notes ≡ noted ++ r (length told) ∷ [] = adds ∙ ap (λ (p : ℕ). noted ++ r p ∷ []) here in
    let there = last_there told replies.Refused in
    let turns : TurnsDown qs told q error s u os = record { wrote = wrote; mid = t; next = u; outlines = us; went = passes.went; turned = turned; later = later_same u.pipes.disk } in
    let right : IsRefusal qs (told ++ replies.Refused ∷ []) s u os (r (length told)) = record {
      refused = there.0;
      request = q;
      at = at;
      cause = subst (λ (l : List Reply). TurnsDown qs l q error s u os) (sym there.1) turns;
    } in
    subst (λ (l : List Reply). AppendsRefusals qs l first notes s u os) (sym is)
    (noted_more qs told replies.Refused first noted notes (r (length told) ∷ []) s t u os turned.later before adds' refl (right, tt))
past_notes q error place told now noted notes t u us ws (same, inr broke) alive is here adds qs wrote s os first passes at before =
    let failed : has_failed u ≡ true = broke.1.failed in
    absurd cc
