-- Notes of Append stay true while its files change.
use Rattle.std.proofs.Common.{◌≡◌, ℕ, ◌⊎◌, List, [], ◌∷◌, ◌++◌, Option, Some, None, unwrap_or, refl, sym, ap, ◌∙◌, subst, inl, inr, append_assoc, append-nil, arith}
use Rattle.raft_log_model_laws.specs.Item.{Record, items_of}
use Rattle.raft_log_model_laws.specs.Meaning.{Slot, Content, says, holds}
use Rattle.raft_log_model_laws.specs.Meaning.Slot.{Index, Key}
use Rattle.raft_log_model_laws.specs.Groups.{Map, of_group, appended, rewritten, directory_meaning, taken}
use Rattle.raft_log_machine_laws.specs.Survival.{IsSpoken}
use Rattle.raft_log_machine_laws.specs.Whereabouts.{Whereabouts, HasAppended}
use Rattle.raft_log_machine_laws.specs.Files.{LogFile, FileQueue, records_of, span}
use Rattle.raft_log_machine_laws.proofs.StaysLaws.{append_stay_says}
use Rattle.raft_log_machine_laws.proofs.FileLaws.{records_of-append}
use Rattle.raft_log_machine_laws.specs.Model.{Files, running, IsModelSound}
use Rattle.raft_log_machine_laws.specs.Moves.{grown, raised_files}
use Rattle.raft_log_machine_laws.specs.Notes.{Notes, IsAmong, RecordLiesIn, SpeaksIn, IsAppended, AreNoted, AppendStandsFrom, AllBelow}
use Rattle.raft_log_machine_laws.proofs.SpanLaws.{last_file, GoesOnQuietly, LiesIn-front, LiesIn-above, lies_grown, lies_last, lies_among, among_speaks, span_records}

module _ {E V : Type 0} where
  -- a quiet event
  pub noted_quiet : (q p : FileQueue E V) (ws : ℕ → Whereabouts) (notes : Notes) → GoesOnQuietly q p → AreNoted ws notes q → AreNoted ws notes p
  noted_quiet q p ws notes on noted g s at =
      let was : SpeaksIn q g (notes g s) s = noted g s at in
      (was.0, subst (λ l. RecordLiesIn (notes g s) was.0 l) (sym on.1) (LiesIn-front (notes g s) was.0 (span q q.pending) on.0 was.1), was.2)

  -- a record is taken: what is new in Append is in that record, which lies in the last file
  pub noted_takes : (q : FileQueue E V) (y : Record E V) (ws next : ℕ → Whereabouts) (old new : Notes)
      → ((g : ℕ) (s : Slot) → IsAppended (next g) s
      → (IsAppended (ws g) s × (new g s ≡ old g s)) ⊎ ((new g s ≡ q.last) × IsSpoken (says s (of_group g (items_of y)))))
      → AreNoted ws old q → AreNoted next new (grown q y)
  noted_takes q y ws next old new grow noted g s at = elim (grow g s at) [ inl was ↦ as_before was | inr now ↦ here now ]
    where
      as_before : IsAppended (ws g) s × (new g s ≡ old g s) → SpeaksIn (grown q y) g (new g s) s
      as_before was =
          let there : SpeaksIn q g (old g s) s = noted g s was.0 in
          subst (λ n. SpeaksIn (grown q y) g n s) (sym was.1) (there.0, lies_grown q y (old g s) there.0 there.1, there.2)

      here : (new g s ≡ q.last) × IsSpoken (says s (of_group g (items_of y))) → SpeaksIn (grown q y) g (new g s) s
      here now = subst (λ n. SpeaksIn (grown q y) g n s) (sym now.0) (y, lies_last q y, now.1)

  -- fewer things stand in Append
  pub noted_less : (q : FileQueue E V) (ws next : ℕ → Whereabouts) (old new : Notes)
      → ((g : ℕ) (s : Slot) → IsAppended (next g) s → IsAppended (ws g) s × (new g s ≡ old g s)) → AreNoted ws old q → AreNoted next new q
  noted_less q ws next old new less noted g s at =
      subst (λ n. SpeaksIn q g n s) (sym (less g s at).1) (noted g s (less g s at).0)

  -- the span begins at the least noted file, or before it
  pub noted_raised : (q : FileQueue E V) (n : ℕ) (out stay : List (LogFile E V)) (ws : ℕ → Whereabouts) (notes : Notes) → out ++ stay ≡ q.full
      → AllBelow n out → AppendStandsFrom n ws notes → AreNoted ws notes q → AreNoted ws notes (raised_files q out stay)
  noted_raised q n out stay ws notes e below from noted g s at =
      let was : SpeaksIn q g (notes g s) s = noted g s at in (
        was.0,
        LiesIn-above n (notes g s) was.0 out (stay ++ last_file q q.pending ∷ []) below (from g s at)
            (subst (λ l. RecordLiesIn (notes g s) was.0 l) (ap (λ l. l ++ last_file q q.pending ∷ []) (sym e) ∙ append_assoc out stay (last_file q q.pending ∷ [])) was.1),
        was.2,
      )

-- a word that is spoken and gives this value is this value's
spoken_value : {C : Type 0} (word : Option (Option C)) (rest value : Option C) → unwrap_or word rest ≡ value → IsSpoken word → word ≡ Some value
spoken_value (Some x) rest value e h = ap Some e
spoken_value None rest value e h = let none : None ≡ Some h.0 = h.1 in cc

module _ {E V : Type 0} where
  stays_as_map : (f : Files E V) (m : Map E V) (ws : ℕ → Whereabouts) (out stay : List (LogFile E V)) → IsModelSound (running f m ws) → out ++ stay ≡ f.append.full
      → (g : ℕ) (s : Slot) → IsSpoken (says s (appended g (records_of stay ++ f.append.synced)))
      → says s (appended g (records_of stay ++ f.append.synced)) ≡ Some (m g s)
  stays_as_map f m ws out stay k e g s spoken =
      let whole : records_of out ++ (records_of stay ++ f.append.synced) ≡ records_of f.append.full ++ f.append.synced =
      sym (append_assoc (records_of out) (records_of stay) f.append.synced) ∙ ap (λ l. l ++ f.append.synced) (sym (records_of-append out stay) ∙ ap records_of e) in
      let same : says s (appended g (records_of stay ++ f.append.synced)) ≡ says s (appended g (records_of f.append.full ++ f.append.synced)) =
      append_stay_says g s (records_of out) (records_of stay ++ f.append.synced) spoken ∙ ap (λ l. says s (appended g l)) whole in
      let meaning : directory_meaning (records_of f.rewrite.full ++ f.rewrite.synced ++ []) (records_of f.append.full ++ f.append.synced) g s ≡ m g s =
      k.kept.holds g s [] f.rewrite.pending (records_of f.rewrite.gone) [] (records_of f.append.gone) [] refl (append-nil _) (append-nil _) in
      let older : Option (Content E V) = holds s (rewritten g (records_of f.rewrite.full ++ f.rewrite.synced ++ [])) in
      spoken_value (says s (appended g (records_of stay ++ f.append.synced))) older (m g s) (ap (λ word. unwrap_or word older) same ∙ meaning) spoken

  -- Append may begin at the least noted file: what stays of it has all that stands there
  pub noted_has : (f : Files E V) (m : Map E V) (ws : ℕ → Whereabouts) (notes : Notes) (n : ℕ) (out stay : List (LogFile E V)) → IsModelSound (running f m ws)
      → f.append.pending ≡ [] → out ++ stay ≡ f.append.full → AllBelow n out → AppendStandsFrom n ws notes → AreNoted ws notes f.append
      → (g : ℕ) → HasAppended (ws g) (appended g (records_of stay ++ f.append.synced))
  noted_has f m ws notes n out stay k nothing e below from noted g = (
    λ i low high.
        let true : m g (Index i) ≡ Some ((k.kept.whereabouts refl g).solid i (omega (arith, (k.kept.whereabouts refl g).in_order.0)) high).0 =
        ap (λ l. taken m l g (Index i)) (sym nothing) ∙ ((k.kept.whereabouts refl g).solid i (omega (arith, (k.kept.whereabouts refl g).in_order.0)) high).1 in
        (_, stays_as_map f m ws out stay k e g (Index i) (spoken (Index i) (low, high)) ∙ ap Some true),
    λ key at. (m g (Key key), stays_as_map f m ws out stay k e g (Key key) (spoken (Key key) at)),
  )
    where
      spoken : (s : Slot) → IsAppended (ws g) s → IsSpoken (says s (appended g (records_of stay ++ f.append.synced)))
      spoken s at =
          let there : SpeaksIn (raised_files f.append out stay) g (notes g s) s = noted_raised f.append n out stay ws notes e below from noted g s at in
          among_speaks g s there.0 (records_of stay ++ f.append.synced)
          (subst (λ l. IsAmong l there.0)
          (span_records (raised_files f.append out stay) f.append.pending
          ∙ ap (λ l. records_of stay ++ l) (ap (λ l. f.append.synced ++ l) nothing ∙ append-nil f.append.synced))
          (lies_among (notes g s) there.0 (span (raised_files f.append out stay) f.append.pending) there.1)) there.2
