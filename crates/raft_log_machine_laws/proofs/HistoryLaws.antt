-- A machine's map is what the batches make that no crash lost.
use Rattle.std.proofs.Common.{◌≡◌, ℕ, List, [], ◌∷◌, ◌++◌, unwrap_or, refl, sym, ap, ◌∙◌}
use Rattle.raft_log_model_laws.specs.Item.{Record}
use Rattle.raft_log_model_laws.specs.Meaning.{Slot, says}
use Rattle.raft_log_model_laws.specs.Groups.{Map, appended, taken}
use Rattle.raft_log_machine_laws.specs.Machine.{Machine, Event, Step, Steps}
use Rattle.raft_log_machine_laws.specs.Machine.Event.{Take, SyncAppend, SyncRewrite, WritePlain, WriteBegin, WriteMiddle, WriteEnd, RaiseAppend, RaiseRewrite, LoseAppend, LoseRewrite, Fail, Reopen}
use Rattle.raft_log_machine_laws.specs.Fresh.{nothing_stands, fresh_machine}
use Rattle.raft_log_machine_laws.specs.History.{History, happened, history_from, history}
use Rattle.raft_log_machine_laws.proofs.Words.{says_appended, unwrap_or_option_or}

module _ {E V : Type 0} where
  -- the machine holds what its history says
  pub record Follows (h : History E V) (w : Machine E V) : Type 0 where
    pub pending : w.store.append.pending ≡ h.pending
    pub map : (g : ℕ) (s : Slot) → w.map g s ≡ taken nothing_stands h.synced g s

  more : (m : Map E V) (h : History E V) (kept : List (Record E V)) → ((g : ℕ) (s : Slot) → m g s ≡ taken nothing_stands h.synced g s)
      → (g : ℕ) (s : Slot) → taken m kept g s ≡ taken nothing_stands (h.synced ++ kept) g s
  more m h kept same g s =
      ap (unwrap_or (says s (appended g kept))) (same g s)
      ∙ sym (ap (λ o. unwrap_or o (nothing_stands {E = E} {V = V} g s)) (says_appended g s h.synced kept)
      ∙ unwrap_or_option_or (says s (appended g kept)) (says s (appended g h.synced)) (nothing_stands {E = E} {V = V} g s))

  same_machine : (h : History E V) (w v : Machine E V) → v.store.append.pending ≡ w.store.append.pending → ((g : ℕ) (s : Slot) → v.map g s ≡ w.map g s) → Follows h w → Follows h v
  same_machine h w v p q f = record { pending = p ∙ f.pending; map = λ g s. q g s ∙ f.map g s }

  unmoved : (h : History E V) (w v u : Machine E V) → v ≡ u → u.store.append.pending ≡ w.store.append.pending → ((g : ℕ) (s : Slot) → u.map g s ≡ w.map g s) → Follows h w → Follows h v
  unmoved h w v u e p q f = same_machine h w v (ap (λ x. x.store.append.pending) e ∙ p) (λ g s. ap (λ x. x.map g s) e ∙ q g s) f

  follows_step : (h : History E V) (e : Event E V) (w v : Machine E V) → Step e w v → Follows h w → Follows (happened h e) v
  follows_step h (Take y) w v k f = record {
    pending = ap (λ x. x.store.append.pending) k.1.2 ∙ ap (λ l. l ++ y ∷ []) f.pending;
    map = λ g s. ap (λ x. x.map g s) k.1.2 ∙ f.map g s;
  }
  follows_step h SyncAppend w v k f = record {
    pending = ap (λ x. x.store.append.pending) k.1;
    map = λ g s. ap (λ x. x.map g s) k.1 ∙ more w.map h w.store.append.pending f.map g s ∙ ap (λ l. taken nothing_stands (h.synced ++ l) g s) f.pending;
  }
  follows_step h SyncRewrite w v k f = unmoved h w v _ k.1 refl (λ g s. refl) f
  follows_step h (WritePlain xs) w v k f = unmoved h w v _ k.3.2 refl (λ g s. refl) f
  follows_step h (WriteBegin n xs) w v k f = unmoved h w v _ k.2 refl (λ g s. refl) f
  follows_step h (WriteMiddle n xs) w v k f = unmoved h w v _ k.2.3 refl (λ g s. refl) f
  follows_step h (WriteEnd n xs) w v k f = unmoved h w v _ k.3.3.2 refl (λ g s. refl) f
  follows_step h (RaiseAppend out stay) w v k f = unmoved h w v _ k.6 refl (λ g s. refl) f
  follows_step h (RaiseRewrite out stay) w v k f = unmoved h w v _ k.5 refl (λ g s. refl) f
  follows_step h (LoseAppend lost rest) w v k f = unmoved h w v _ k.1 refl (λ g s. refl) f
  follows_step h (LoseRewrite lost rest) w v k f = unmoved h w v _ k.1 refl (λ g s. refl) f
  follows_step h Fail w v k f = unmoved h w v _ k refl (λ g s. refl) f
  follows_step h (Reopen r_kept r_lost r_cut r_back a_kept a_lost a_cut a_back) w v k f = record {
    pending = ap (λ x. x.store.append.pending) k.4.2;
    map = λ g s. ap (λ x. x.map g s) k.4.2 ∙ more w.map h a_kept f.map g s;
  }

  follows_steps : (es : List (Event E V)) (h : History E V) (w v : Machine E V) → Steps w es v → Follows h w → Follows (history_from h es) v
  follows_steps [] h w v k f = unmoved h w v w k refl (λ g s. refl) f
  follows_steps (e ∷ es) h w v k f = follows_steps es (happened h e) k.0 v k.2 (follows_step h e w k.0 k.1 f)

  pub schedule_follows : (es : List (Event E V)) (v : Machine E V) → Steps fresh_machine es v
      → (v.store.append.pending ≡ (history es).pending) × ((g : ℕ) (s : Slot) → v.map g s ≡ taken nothing_stands (history es).synced g s)
  schedule_follows es v k =
      let f = follows_steps es (record { synced = []; pending = [] }) fresh_machine v k (record { pending = refl; map = λ g s. refl }) in (f.pending, f.map)
