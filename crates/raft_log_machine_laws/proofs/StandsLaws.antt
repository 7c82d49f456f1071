-- A view goes on with the files: where a record is written, and where a queue begins later.
use Rattle.std.proofs.Common.{◌≡◌, ℕ, ◌≤◌, ◌⊎◌, List, [], ◌∷◌, ◌++◌, None, sym, ap, ◌∙◌, subst, inl, inr, append-nil, arith}
use Rattle.raft_log_model_laws.specs.Item.{Item, Record, Tagged, items_of}
use Rattle.raft_log_model_laws.specs.Item.Record.{Plain, Part}
use Rattle.raft_log_model_laws.specs.Item.Mark.{Begin, Middle, End}
use Rattle.raft_log_model_laws.specs.Meaning.{Slot, after}
use Rattle.raft_log_model_laws.specs.Groups.{Map, of_group, taken}
use Rattle.raft_log_machine_laws.specs.Unbroken.{joined}
use Rattle.raft_log_machine_laws.specs.Whereabouts.{OwesNothing, CarriesAll}
use Rattle.raft_log_machine_laws.specs.Files.{LogFile}
use Rattle.raft_log_machine_laws.specs.Machine.{AllFit, IsJoined}
use Rattle.raft_log_machine_laws.specs.Model.{Files, running, IsModelSound, with_append, with_rewrite}
use Rattle.raft_log_machine_laws.specs.Moves.{grown, raised_files}
use Rattle.raft_log_machine_laws.specs.Notes.{IsInRewrite, SpeaksFrom, AllBelow, AppendStandsFrom, RewriteStandsFrom, GoesOnFrom}
use Rattle.raft_log_machine_laws.specs.Tables.{GrowsTo, CarriesTo, EndsGroupTo}
use Rattle.raft_log_machine_laws.specs.Log.{View, Stands}
use Rattle.raft_log_machine_laws.proofs.Sound.{append_grown, append_raised, rewrite_grown, group_begun, group_goes_on, group_ended, rewrite_raised}
use Rattle.raft_log_machine_laws.proofs.AppendNotes.{noted_takes, noted_less, noted_raised, noted_has}
use Rattle.raft_log_machine_laws.proofs.RewriteNotes.{rewrite_noted_less, rewrite_noted_takes, rewrite_noted_raised, plain_speaks, group_speaks, group_at_end, noted_rewritten_has}
use Rattle.raft_log_machine_laws.proofs.GrowsLaws.{items_were}
use Rattle.raft_log_machine_laws.proofs.Follows.{taken_twice}

module _ {E V : Type 0} where
  -- a batch that Append takes
  pub stands_grown : (v u : View E V) (f : Files E V) (m : Map E V) (pending : List (Record E V)) (y : Record E V) → GrowsTo y f.append.last v u
      → Stands v f m pending → Stands u (with_append f f.append_from (grown f.append y)) m (pending ++ y ∷ [])
  stands_grown v u f m pending y grow h = record {
    sound = append_grown f m v.whereabouts h.sound y u.whereabouts grow.whereabouts;
    ends = ap (λ l. l ++ y ∷ []) h.ends;
    map = grow.map ∙ ap (λ map. taken map (y ∷ [])) h.map ∙ taken_twice m pending (y ∷ []);
    noted = noted_takes f.append y v.whereabouts u.whereabouts v.noted u.noted grow.noted h.noted;
    noted_in_rewrite = rewrite_noted_less f.rewrite v.map u.map v.whereabouts u.whereabouts v.noted_in_rewrite u.noted_in_rewrite was h.noted_in_rewrite;
  }
    where
      now : (g : ℕ) (s : Slot) → u.map g s ≡ after (v.map g) (of_group g (items_of y)) s
      now g s = ap (λ map. map g s) grow.map ∙ ap (λ l. after (v.map g) (of_group g l) s) (append-nil (items_of y))

      was : (g : ℕ) (s : Slot) → IsInRewrite (u.whereabouts g) s
          → (u.map g s ≡ None) ⊎ (IsInRewrite (v.whereabouts g) s × (v.map g s ≡ None → u.map g s ≡ None) × (u.noted_in_rewrite g s ≤ v.noted_in_rewrite g s))
      was g s at = elim (items_were (v.whereabouts g) (u.whereabouts g) (v.map g) (of_group g (items_of y)) (grow.whereabouts g) s at) [
        | inl none ↦ inl (now g s ∙ none)
        | inr there ↦ inr (there.0, λ none. now g s ∙ there.1 none, grow.noted_in_rewrite g s at)
      ]

  -- marks, copies and what is rewritten again
  pub stands_carried : (v u : View E V) (f : Files E V) (m : Map E V) (xs : List (Tagged E V)) → CarriesTo xs f.rewrite.last v u → Stands v f m []
      → Stands u (with_rewrite f f.rewrite_from (grown f.rewrite (Plain xs))) m []
  stands_carried v u f m xs carry h = record {
    sound = rewrite_grown f m v.whereabouts h.sound xs u.whereabouts h.ends carry.fit
        (λ g. subst (λ map. CarriesAll (map g) (v.whereabouts g) (of_group g xs) (u.whereabouts g)) h.map (carry.whereabouts g));
    ends = h.ends;
    map = carry.map ∙ h.map;
    noted = noted_less f.append v.whereabouts u.whereabouts v.noted u.noted carry.noted h.noted;
    noted_in_rewrite = rewrite_noted_takes f.rewrite (Plain xs) u.map v.whereabouts u.whereabouts v.noted_in_rewrite u.noted_in_rewrite comes
        (λ g s at. subst (λ map. (map g s ≡ None) ⊎ SpeaksFrom f.rewrite g (v.noted_in_rewrite g s) s) (sym carry.map) (h.noted_in_rewrite g s at));
  }
    where
      comes : (g : ℕ) (s : Slot) → IsInRewrite (u.whereabouts g) s
          → (IsInRewrite (v.whereabouts g) s × (u.noted_in_rewrite g s ≤ v.noted_in_rewrite g s)) ⊎ SpeaksFrom (grown f.rewrite (Plain xs)) g (u.noted_in_rewrite g s) s
      comes g s at = elim (carry.noted_in_rewrite g s at) [
        | inl was ↦ inl was
        | inr new ↦ inr (plain_speaks f.rewrite xs g (u.noted_in_rewrite g s) s new.0 new.1)
      ]

  -- the begin and a middle of an atomic group: what an engine knows stays
  still_noted : (v : View E V) (f : Files E V) (m : Map E V) (pending : List (Record E V)) (y : Record E V) → Stands v f m pending
      → IsModelSound (running (with_rewrite f f.rewrite_from (grown f.rewrite y)) m v.whereabouts)
      → Stands v (with_rewrite f f.rewrite_from (grown f.rewrite y)) m pending
  still_noted v f m pending y h sound = record {
    sound = sound;
    ends = h.ends;
    map = h.map;
    noted = h.noted;
    noted_in_rewrite = rewrite_noted_takes f.rewrite y v.map v.whereabouts v.whereabouts v.noted_in_rewrite v.noted_in_rewrite
        (λ g s at. inl (at, omega arith)) h.noted_in_rewrite;
  }

  pub stands_begun : (v : View E V) (f : Files E V) (m : Map E V) (pending : List (Record E V)) (n : ℕ) (xs : List (Tagged E V)) → AllFit xs → Stands v f m pending
      → Stands v (with_rewrite f f.rewrite_from (grown f.rewrite (Part (Begin n) xs))) m pending
  stands_begun v f m pending n xs fit h = still_noted v f m pending (Part (Begin n) xs) h (group_begun f m v.whereabouts h.sound n xs fit)

  pub stands_gone_on : (v : View E V) (f : Files E V) (m : Map E V) (pending : List (Record E V)) (b n : ℕ) (first : List (Tagged E V))
      (more : List (List (Tagged E V))) (xs : List (Tagged E V)) → AllFit xs → GoesOnFrom f.rewrite b n first more → Stands v f m pending
      → Stands v (with_rewrite f f.rewrite_from (grown f.rewrite (Part (Middle n) xs))) m pending
  stands_gone_on v f m pending b n first more xs fit on h =
      still_noted v f m pending (Part (Middle n) xs) h (group_goes_on f m v.whereabouts h.sound n first more xs fit (group_at_end f.rewrite b n first more on))

  -- its end
  pub stands_ended : (v u : View E V) (f : Files E V) (m : Map E V) (b n : ℕ) (first : List (Tagged E V)) (more : List (List (Tagged E V))) (xs : List (Tagged E V))
      → EndsGroupTo first more xs b v u → GoesOnFrom f.rewrite b n first more → Stands v f m []
      → Stands u (with_rewrite f f.rewrite_from (grown f.rewrite (Part (End n) xs))) m []
  stands_ended v u f m b n first more xs end on h = record {
    sound = group_ended f m v.whereabouts h.sound n first more xs u.whereabouts h.ends end.fit (group_at_end f.rewrite b n first more on)
        (λ g. subst (λ map. (items : List (Item E V)) × IsJoined (of_group g (joined first more ++ xs)) items × CarriesAll (map g) (v.whereabouts g) items (u.whereabouts g))
        h.map (end.whereabouts g));
    ends = h.ends;
    map = end.map ∙ h.map;
    noted = noted_less f.append v.whereabouts u.whereabouts v.noted u.noted end.noted h.noted;
    noted_in_rewrite = rewrite_noted_takes f.rewrite (Part (End n) xs) u.map v.whereabouts u.whereabouts v.noted_in_rewrite u.noted_in_rewrite comes
        (λ g s at. subst (λ map. (map g s ≡ None) ⊎ SpeaksFrom f.rewrite g (v.noted_in_rewrite g s) s) (sym end.map) (h.noted_in_rewrite g s at));
  }
    where
      comes : (g : ℕ) (s : Slot) → IsInRewrite (u.whereabouts g) s
          → (IsInRewrite (v.whereabouts g) s × (u.noted_in_rewrite g s ≤ v.noted_in_rewrite g s)) ⊎ SpeaksFrom (grown f.rewrite (Part (End n) xs)) g (u.noted_in_rewrite g s) s
      comes g s at = elim (end.noted_in_rewrite g s at) [
        | inl was ↦ inl was
        | inr new ↦ inr (group_speaks f.rewrite b n first more xs g (u.noted_in_rewrite g s) s on new.0 new.1)
      ]

  -- Append begins at the least noted file, or before it
  pub stands_raised : (v : View E V) (f : Files E V) (m : Map E V) (n : ℕ) (out stay : List (LogFile E V)) → f.rewrite.pending ≡ [] → out ++ stay ≡ f.append.full
      → AllBelow n out → ((g : ℕ) → OwesNothing (v.whereabouts g)) → AppendStandsFrom n v.whereabouts v.noted → Stands v f m []
      → Stands v (with_append f f.append_from (raised_files f.append out stay)) m []
  stands_raised v f m n out stay r_nothing e below owes from h = record {
    sound = append_raised f m v.whereabouts h.sound out stay e h.ends r_nothing owes
        (noted_has f m v.whereabouts v.noted n out stay h.sound h.ends e below from h.noted);
    ends = h.ends;
    map = h.map;
    noted = noted_raised f.append n out stay v.whereabouts v.noted e below from h.noted;
    noted_in_rewrite = h.noted_in_rewrite;
  }

  -- and so does Rewrite
  pub rewrite_stands_raised : (v : View E V) (f : Files E V) (m : Map E V) (n : ℕ) (out stay : List (LogFile E V)) → f.rewrite.pending ≡ []
      → out ++ stay ≡ f.rewrite.full → AllBelow n out → RewriteStandsFrom n v.map v.whereabouts v.noted_in_rewrite → Stands v f m []
      → Stands v (with_rewrite f f.rewrite_from (raised_files f.rewrite out stay)) m []
  rewrite_stands_raised v f m n out stay r_nothing e below from h = record {
    sound = rewrite_raised f m v.whereabouts h.sound out stay e h.ends r_nothing
        (noted_rewritten_has f m v.whereabouts v.noted_in_rewrite n out stay h.sound h.ends r_nothing e below
        (subst (λ map. RewriteStandsFrom n map v.whereabouts v.noted_in_rewrite) h.map from)
        (λ g s at. subst (λ map. (map g s ≡ None) ⊎ SpeaksFrom f.rewrite g (v.noted_in_rewrite g s) s) h.map (h.noted_in_rewrite g s at)));
    ends = h.ends;
    map = h.map;
    noted = h.noted;
    noted_in_rewrite = rewrite_noted_raised f.rewrite n out stay v.map v.whereabouts v.noted_in_rewrite e below from h.noted_in_rewrite;
  }
