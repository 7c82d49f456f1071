-- Notes of Rewrite stay true while its files change.
use Rattle.std.proofs.Common.{◌≡◌, ℕ, ◌<◌, ◌≤◌, ◌⊎◌, false, List, [], ◌∷◌, ◌++◌, Option, Some, None, refl, sym, ap, ◌∙◌, subst, inl, inr, append_assoc, append-nil, arith}
use Rattle.std.proofs.lemmas.List.{map-append}
use Rattle.std.specs.Option.{option_or}
use Rattle.raft_log_model_laws.specs.Item.{Record, Tagged}
use Rattle.raft_log_model_laws.specs.Item.Record.{Plain, Part}
use Rattle.raft_log_model_laws.specs.Item.Mark.{Begin, Middle, End}
use Rattle.raft_log_model_laws.specs.Meaning.{Slot, Content, says}
use Rattle.raft_log_model_laws.specs.Meaning.Slot.{Index, Key}
use Rattle.raft_log_model_laws.specs.Groups.{Map, of_group, counts, opened, none_open, rewritten, taken}
use Rattle.raft_log_machine_laws.specs.Unbroken.{IsUnbroken, begun, joined}
use Rattle.raft_log_machine_laws.specs.Survival.{IsSpoken}
use Rattle.raft_log_machine_laws.specs.Whereabouts.{Whereabouts, HasRewritten}
use Rattle.raft_log_machine_laws.specs.Files.{LogFile, FileEvent, FileQueue, numbered_from, queue_of, records_of, span}
use Rattle.raft_log_machine_laws.specs.Machine.{GoesOnWith}
use Rattle.raft_log_machine_laws.proofs.Words.{says_append, rewritten_more}
use Rattle.raft_log_machine_laws.proofs.Starts.{no_back, spoken_newer}
use Rattle.raft_log_machine_laws.proofs.MachineWords.{says_end}
use Rattle.raft_log_machine_laws.proofs.TruthGrows.{spoken_after}
use Rattle.raft_log_machine_laws.proofs.UnbrokenLaws.{IsUnbroken-back}
use Rattle.raft_log_machine_laws.proofs.StaysLaws.{stay_says, plain_stays, group_stays}
use Rattle.raft_log_machine_laws.proofs.FileLaws.{records_of-append}
use Rattle.raft_log_machine_laws.specs.Model.{Files, running, IsModelSound}
use Rattle.raft_log_machine_laws.specs.Moves.{Moves, Moved, grown, raised_files}
use Rattle.raft_log_machine_laws.specs.Notes.{Notes, AllFrom, AllBelow, SpeaksFrom, IsInRewrite, AreNotedInRewrite, RewriteStandsFrom, GoesOnFrom}
use Rattle.raft_log_machine_laws.proofs.SpanLaws.{last_file, GoesOnQuietly, quiet_span, AllFrom-append, AllFrom-back, AllFrom-lower, end_of_span, end_stays, span_records}

module _ {E V : Type 0} where
  nothing_spoken : (g : ℕ) (s : Slot) (back : List (LogFile E V)) → back ≡ [] → IsSpoken (says s (rewritten g (records_of back))) → ⊥
  nothing_spoken g s back e spoken =
      let none : None ≡ Some spoken.0 = ap (λ l. says s (rewritten g (records_of l))) (sym e) ∙ spoken.1 in cc

  -- what speaks of a slot reaches the last file
  pub reaches_last : (q : FileQueue E V) (g n : ℕ) (s : Slot) (h : SpeaksFrom q g n s)
      → (x : List (LogFile E V)) × (h.front ++ x ≡ q.full) × (h.back ≡ x ++ last_file q q.pending ∷ [])
  reaches_last q g n s h = elim (end_of_span q q.pending h.front h.back h.splits) [
    | inl none ↦ absurd (nothing_spoken g s h.back none h.spoken)
    | inr w ↦ w
  ]

  -- the noted file is one of the span's, so no higher than the last
  pub noted_low : (q : FileQueue E V) (g n : ℕ) (s : Slot) → SpeaksFrom q g n s → n ≤ q.last
  noted_low q g n s h =
      let w : (x : List (LogFile E V)) × (h.front ++ x ≡ q.full) × (h.back ≡ x ++ last_file q q.pending ∷ []) = reaches_last q g n s h in
      (AllFrom-back n w.0 (last_file q q.pending ∷ []) (subst (λ l. AllFrom n l) w.2 h.from)).0

  pub speaks_lower : (q : FileQueue E V) (g n k : ℕ) (s : Slot) → k ≤ n → SpeaksFrom q g n s → SpeaksFrom q g k s
  speaks_lower q g n k s le h = record {
    front = h.front;
    back = h.back;
    splits = h.splits;
    from = AllFrom-lower n k h.back le h.from;
    spoken = h.spoken;
  }

  -- a sync, a rotation, a loss
  pub speaks_moved : (q p : FileQueue E V) (g n : ℕ) (s : Slot) → GoesOnQuietly q p → SpeaksFrom q g n s → SpeaksFrom p g n s
  speaks_moved q p g n s on h = record {
    front = h.front;
    back = h.back ++ on.0;
    splits = sym (append_assoc h.front h.back on.0) ∙ ap (λ l. l ++ on.0) h.splits ∙ sym on.1;
    from = AllFrom-append n h.back on.0 h.from (on.3 n (noted_low q g n s h));
    spoken = subst (λ l. IsSpoken (says s (rewritten g l)))
        (sym (records_of-append h.back on.0 ∙ ap (λ l. records_of h.back ++ l) on.2 ∙ append-nil (records_of h.back))) h.spoken;
  }

  -- behind records that speak of a slot any record may follow
  pub spoken_more : (g : ℕ) (s : Slot) (xs : List (Record E V)) (y : Record E V) → IsSpoken (says s (rewritten g xs)) → IsSpoken (says s (rewritten g (xs ++ y ∷ [])))
  spoken_more g s xs y spoken =
      subst (λ word. IsSpoken word) (sym (ap (says s) (rewritten_more g xs y) ∙ says_append s (rewritten g xs) (of_group g (counts (opened none_open xs) y))))
      (spoken_after (says s (of_group g (counts (opened none_open xs) y))) (says s (rewritten g xs)) spoken)

  more_behind : (q : FileQueue E V) (y : Record E V) (x : List (LogFile E V))
      → records_of (x ++ last_file q q.pending ∷ []) ++ y ∷ [] ≡ records_of (x ++ last_file q (q.pending ++ y ∷ []) ∷ [])
  more_behind q y x =
      ap (λ l. l ++ y ∷ []) (records_of-append x (last_file q q.pending ∷ []) ∙ ap (λ l. records_of x ++ l) (append-nil (q.synced ++ q.pending)))
      ∙ append_assoc (records_of x) (q.synced ++ q.pending) (y ∷ [])
      ∙ ap (λ l. records_of x ++ l) (append_assoc q.synced q.pending (y ∷ []) ∙ sym (append-nil (q.synced ++ (q.pending ++ y ∷ []))))
      ∙ sym (records_of-append x (last_file q (q.pending ++ y ∷ []) ∷ []))

  with_last : (n : ℕ) (q : FileQueue E V) (kept more : List (Record E V)) (x : List (LogFile E V)) → AllFrom n (x ++ last_file q kept ∷ []) → AllFrom n (x ++ last_file q more ∷ [])
  with_last n q kept more [] h = h
  with_last n q kept more (f ∷ x) h = (h.0, with_last n q kept more x h.1)

  -- Rewrite takes a record of any kind, a begin, a middle or an end too
  pub speaks_grown : (q : FileQueue E V) (y : Record E V) (g n : ℕ) (s : Slot) → SpeaksFrom q g n s → SpeaksFrom (grown q y) g n s
  speaks_grown q y g n s h =
      let w : (x : List (LogFile E V)) × (h.front ++ x ≡ q.full) × (h.back ≡ x ++ last_file q q.pending ∷ []) = reaches_last q g n s h in record {
        front = h.front;
        back = w.0 ++ last_file q (q.pending ++ y ∷ []) ∷ [];
        splits = sym (append_assoc h.front w.0 (last_file q (q.pending ++ y ∷ []) ∷ [])) ∙ ap (λ l. l ++ last_file q (q.pending ++ y ∷ []) ∷ []) w.1;
        from = with_last n q q.pending (q.pending ++ y ∷ []) w.0 (subst (λ l. AllFrom n l) w.2 h.from);
        spoken = subst (λ l. IsSpoken (says s (rewritten g l))) (more_behind q y w.0)
            (spoken_more g s (records_of (w.0 ++ last_file q q.pending ∷ [])) y (subst (λ l. IsSpoken (says s (rewritten g (records_of l)))) w.2 h.spoken));
      }

  -- any number of quiet events
  moved_many : (P : FileQueue E V → Type 0) → ((q p : FileQueue E V) → GoesOnQuietly q p → P q → P p) → (es : List (FileEvent E V)) (from : ℕ) (q : FileQueue E V)
      (to : ℕ) (p : FileQueue E V) → Moves from q es to p → P q → P p
  moved_many P step [] from q to p moves h = subst P (sym moves.1) h
  moved_many P step (e ∷ es) from q to p moves h =
      moved_many P step es (numbered_from from e) moves.0 to p moves.3 (step q moves.0 (quiet_span e q moves.0 moves.1 moves.2) h)

  pub speaks_moved_on : (from : ℕ) (q : FileQueue E V) (p : Moved from q) (g n : ℕ) (s : Slot) → SpeaksFrom q g n s → SpeaksFrom p.queue g n s
  speaks_moved_on from q p g n s h = moved_many (λ x. SpeaksFrom x g n s) (λ x y. speaks_moved x y g n s) p.events from q p.from p.queue p.moves h

  -- the span begins at the noted file, or before it
  pub speaks_raised : (q : FileQueue E V) (g k n : ℕ) (s : Slot) (out stay : List (LogFile E V)) → out ++ stay ≡ q.full → AllBelow k out → k ≤ n
      → SpeaksFrom q g n s → SpeaksFrom (raised_files q out stay) g n s
  speaks_raised q g k n s out stay e below le h =
      let w : (x : List (LogFile E V)) × (x ++ h.back ≡ stay ++ last_file q q.pending ∷ []) =
      end_stays k n h.front h.back out (stay ++ last_file q q.pending ∷ [])
      (h.splits ∙ (ap (λ l. l ++ last_file q q.pending ∷ []) (sym e) ∙ append_assoc out stay (last_file q q.pending ∷ []))) below h.from le in
      record { front = w.0; back = h.back; splits = w.1; from = h.from; spoken = h.spoken }

  -- the notes of all slots
  pub rewrite_noted_quiet : (q p : FileQueue E V) (m : Map E V) (ws : ℕ → Whereabouts) (notes : Notes) → GoesOnQuietly q p
      → AreNotedInRewrite m ws notes q → AreNotedInRewrite m ws notes p
  rewrite_noted_quiet q p m ws notes on noted g s at =
      elim (noted g s at) [ inl none ↦ inl none | inr h ↦ inr (speaks_moved q p g (notes g s) s on h) ]

  pub rewrite_noted_raised : (q : FileQueue E V) (n : ℕ) (out stay : List (LogFile E V)) (m : Map E V) (ws : ℕ → Whereabouts) (notes : Notes) → out ++ stay ≡ q.full
      → AllBelow n out → RewriteStandsFrom n m ws notes → AreNotedInRewrite m ws notes q → AreNotedInRewrite m ws notes (raised_files q out stay)
  rewrite_noted_raised q n out stay m ws notes e below from noted g s at = elim (from g s at) [
    | inl none ↦ inl none
    | inr le ↦ elim (noted g s at) [ inl none ↦ inl none | inr h ↦ inr (speaks_raised q g n (notes g s) s out stay e below le h) ]
  ]

  -- what an engine knows changes, the files don't: of what stands in Rewrite nothing is noted later
  pub rewrite_noted_less : (q : FileQueue E V) (m after : Map E V) (ws next : ℕ → Whereabouts) (old new : Notes)
      → ((g : ℕ) (s : Slot) → IsInRewrite (next g) s
      → (after g s ≡ None) ⊎ (IsInRewrite (ws g) s × (m g s ≡ None → after g s ≡ None) × (new g s ≤ old g s)))
      → AreNotedInRewrite m ws old q → AreNotedInRewrite after next new q
  rewrite_noted_less q m after ws next old new less noted g s at = elim (less g s at) [
    | inl none ↦ inl none
    | inr was ↦ elim (noted g s was.0) [ inl none ↦ inl (was.1 none) | inr h ↦ inr (speaks_lower q g (old g s) (new g s) s was.2 h) ]
  ]

  -- a record of Rewrite: what comes to stand there counts from the file noted for it on
  pub rewrite_noted_takes : (q : FileQueue E V) (y : Record E V) (m : Map E V) (ws next : ℕ → Whereabouts) (old new : Notes)
      → ((g : ℕ) (s : Slot) → IsInRewrite (next g) s → (IsInRewrite (ws g) s × (new g s ≤ old g s)) ⊎ SpeaksFrom (grown q y) g (new g s) s)
      → AreNotedInRewrite m ws old q → AreNotedInRewrite m next new (grown q y)
  rewrite_noted_takes q y m ws next old new comes noted g s at = elim (comes g s at) [
    | inl was ↦ elim (noted g s was.0) [
      | inl none ↦ inl none
      | inr h ↦ inr (speaks_grown q y g (new g s) s (speaks_lower q g (old g s) (new g s) s was.1 h))
    ]
    | inr now ↦ inr now
  ]

  -- of a plain record: from its file on
  pub plain_speaks : (q : FileQueue E V) (xs : List (Tagged E V)) (g n : ℕ) (s : Slot) → n ≤ q.last → IsSpoken (says s (of_group g xs))
      → SpeaksFrom (grown q (Plain xs)) g n s
  plain_speaks q xs g n s le spoken = record {
    front = q.full;
    back = last_file q (q.pending ++ Plain xs ∷ []) ∷ [];
    splits = refl;
    from = (le, tt);
    spoken = subst (λ l. IsSpoken (says s (rewritten g l))) (more_behind q (Plain xs) [])
        (plain_stays g s (records_of (last_file q q.pending ∷ [])) xs [] spoken);
  }

  -- an atomic group that goes on reaches the last file
  nothing_goes_on : (n : ℕ) (first : List (Tagged E V)) (more : List (List (Tagged E V))) (before : List (Record E V)) (back : List (LogFile E V))
      → back ≡ [] → records_of back ≡ before ++ begun n first more → ⊥
  nothing_goes_on n first more before back e h =
      let none : before ++ begun n first more ≡ [] = sym h ∙ ap records_of e in
      let nothing : begun n first more ≡ [] = no_back before (begun n first more) none in cc

  group_reaches : (q : FileQueue E V) (b n : ℕ) (first : List (Tagged E V)) (more : List (List (Tagged E V))) (h : GoesOnFrom q b n first more)
      → (x : List (LogFile E V)) × (h.front ++ x ≡ q.full) × (h.back ≡ x ++ last_file q q.pending ∷ [])
  group_reaches q b n first more h = elim (end_of_span q q.pending h.front h.back h.splits) [
    | inl none ↦ absurd (nothing_goes_on n first more h.before h.back none h.ends)
    | inr w ↦ w
  ]

  -- the files from which on the group lies, with one more record
  grown_back : (q : FileQueue E V) (y : Record E V) (b n : ℕ) (first : List (Tagged E V)) (more : List (List (Tagged E V))) → GoesOnFrom q b n first more
      → (front back : List (LogFile E V)) × (before : List (Record E V)) × (front ++ back ≡ span (grown q y) (grown q y).pending) × AllFrom b back
      × (records_of back ≡ (before ++ begun n first more) ++ y ∷ [])
  grown_back q y b n first more h =
      let w : (x : List (LogFile E V)) × (h.front ++ x ≡ q.full) × (h.back ≡ x ++ last_file q q.pending ∷ []) = group_reaches q b n first more h in (
        h.front,
        w.0 ++ last_file q (q.pending ++ y ∷ []) ∷ [],
        h.before,
        sym (append_assoc h.front w.0 (last_file q (q.pending ++ y ∷ []) ∷ [])) ∙ ap (λ l. l ++ last_file q (q.pending ++ y ∷ []) ∷ []) w.1,
        with_last b q q.pending (q.pending ++ y ∷ []) w.0 (subst (λ l. AllFrom b l) w.2 h.high),
        sym (more_behind q y w.0) ∙ ap (λ l. records_of l ++ y ∷ []) (sym w.2) ∙ ap (λ l. l ++ y ∷ []) h.ends,
      )

  pub group_begins : (q : FileQueue E V) (n : ℕ) (xs : List (Tagged E V)) → GoesOnFrom (grown q (Part (Begin n) xs)) q.last n xs []
  group_begins q n xs = record {
    front = q.full;
    back = last_file q (q.pending ++ Part (Begin n) xs ∷ []) ∷ [];
    splits = refl;
    high = (omega arith, tt);
    before = records_of (last_file q q.pending ∷ []);
    ends = sym (more_behind q (Part (Begin n) xs) []);
  }

  pub group_goes_on : (q : FileQueue E V) (b n : ℕ) (first : List (Tagged E V)) (more : List (List (Tagged E V))) (xs : List (Tagged E V))
      → GoesOnFrom q b n first more → GoesOnFrom (grown q (Part (Middle n) xs)) b n first (more ++ xs ∷ [])
  group_goes_on q b n first more xs h =
      let w = grown_back q (Part (Middle n) xs) b n first more h in record {
        front = w.0;
        back = w.1;
        splits = w.3;
        high = w.4;
        before = w.2;
        ends = w.5 ∙ append_assoc w.2 (begun n first more) (Part (Middle n) xs ∷ [])
            ∙ ap (λ l. w.2 ++ (Part (Begin n) first ∷ l)) (sym (map-append (λ ys. Part (Middle n) ys) more (xs ∷ [])));
      }

  pub group_moves : (q p : FileQueue E V) (b n : ℕ) (first : List (Tagged E V)) (more : List (List (Tagged E V))) → GoesOnQuietly q p
      → GoesOnFrom q b n first more → GoesOnFrom p b n first more
  group_moves q p b n first more on h =
      let w : (x : List (LogFile E V)) × (h.front ++ x ≡ q.full) × (h.back ≡ x ++ last_file q q.pending ∷ []) = group_reaches q b n first more h in record {
        front = h.front;
        back = h.back ++ on.0;
        splits = sym (append_assoc h.front h.back on.0) ∙ ap (λ l. l ++ on.0) h.splits ∙ sym on.1;
        high = AllFrom-append b h.back on.0 h.high (on.3 b (AllFrom-back b w.0 (last_file q q.pending ∷ []) (subst (λ l. AllFrom b l) w.2 h.high)).0);
        before = h.before;
        ends = records_of-append h.back on.0 ∙ ap (λ l. records_of h.back ++ l) on.2 ∙ append-nil (records_of h.back) ∙ h.ends;
      }

  pub group_moves_on : (from : ℕ) (q : FileQueue E V) (p : Moved from q) (b n : ℕ) (first : List (Tagged E V)) (more : List (List (Tagged E V)))
      → GoesOnFrom q b n first more → GoesOnFrom p.queue b n first more
  group_moves_on from q p b n first more h =
      moved_many (λ x. GoesOnFrom x b n first more) (λ x y. group_moves x y b n first more) p.events from q p.from p.queue p.moves h

  -- its end: all of it counts from the file of its begin on
  pub group_speaks : (q : FileQueue E V) (b n : ℕ) (first : List (Tagged E V)) (more : List (List (Tagged E V))) (xs : List (Tagged E V)) (g k : ℕ) (s : Slot)
      → GoesOnFrom q b n first more → k ≤ b → IsSpoken (says s (of_group g (joined first more ++ xs))) → SpeaksFrom (grown q (Part (End n) xs)) g k s
  group_speaks q b n first more xs g k s h le spoken =
      let w = grown_back q (Part (End n) xs) b n first more h in record {
        front = w.0;
        back = w.1;
        splits = w.3;
        from = AllFrom-lower b k w.1 le w.4;
        spoken = subst (λ l. IsSpoken (says s (rewritten g l))) (sym w.5) (group_stays g s w.2 n first more xs [] spoken);
      }

  -- so the group is the end of the queue's records, as the machine asks
  pub group_at_end : (q : FileQueue E V) (b n : ℕ) (first : List (Tagged E V)) (more : List (List (Tagged E V))) → GoesOnFrom q b n first more
      → GoesOnWith (queue_of q) n first more
  group_at_end q b n first more h = (
    records_of h.front ++ h.before,
    append_assoc (records_of q.full) q.synced q.pending ∙ sym (span_records q q.pending) ∙ ap records_of (sym h.splits)
        ∙ records_of-append h.front h.back ∙ ap (λ l. records_of h.front ++ l) h.ends ∙ sym (append_assoc (records_of h.front) h.before (begun n first more)),
  )

-- what an end of the span speaks of, the longer end does
module _ {E V : Type 0} where
  longer_speaks : (g : ℕ) (s : Slot) (xs ys : List (Record E V)) → IsUnbroken (xs ++ ys) → IsSpoken (says s (rewritten g ys)) → IsSpoken (says s (rewritten g (xs ++ ys)))
  longer_speaks g s xs ys unbroken spoken =
      let whole : (older : Option (Option (Content E V))) × (says s (rewritten g (xs ++ ys)) ≡ option_or (says s (rewritten g ys)) older) = says_end g s xs ys unbroken in
      spoken_newer (says s (rewritten g ys)) whole.0 (says s (rewritten g (xs ++ ys))) whole.1 spoken

  -- the records of a span with nothing pending
  settled_records : (q : FileQueue E V) → q.pending ≡ [] → records_of (span q q.pending) ≡ records_of q.full ++ q.synced
  settled_records q nothing =
      span_records q q.pending ∙ ap (λ l. records_of q.full ++ l) (ap (λ l. q.synced ++ l) nothing ∙ append-nil q.synced)

  stays_says : (f : Files E V) (m : Map E V) (ws : ℕ → Whereabouts) (out stay : List (LogFile E V)) → IsModelSound (running f m ws) → out ++ stay ≡ f.rewrite.full
      → f.rewrite.pending ≡ [] → (g n : ℕ) (s : Slot) → SpeaksFrom (raised_files f.rewrite out stay) g n s
      → says s (rewritten g (records_of stay ++ f.rewrite.synced))
      ≡ says s (rewritten g ((records_of f.rewrite.full ++ f.rewrite.synced) ++ f.rewrite.pending))
  stays_says f m ws out stay k e nothing g n s h =
      let there : records_of h.front ++ records_of h.back ≡ records_of stay ++ f.rewrite.synced =
      sym (records_of-append h.front h.back) ∙ ap records_of h.splits ∙ settled_records (raised_files f.rewrite out stay) nothing in
      let whole : records_of out ++ (records_of stay ++ f.rewrite.synced) ≡ (records_of f.rewrite.full ++ f.rewrite.synced) ++ f.rewrite.pending =
      sym (append_assoc (records_of out) (records_of stay) f.rewrite.synced) ∙ ap (λ l. l ++ f.rewrite.synced) (sym (records_of-append out stay) ∙ ap records_of e)
      ∙ sym (ap (λ l. (records_of f.rewrite.full ++ f.rewrite.synced) ++ l) nothing ∙ append-nil (records_of f.rewrite.full ++ f.rewrite.synced)) in
      let live : IsUnbroken ((records_of f.rewrite.full ++ f.rewrite.synced) ++ f.rewrite.pending) =
      IsUnbroken-back (records_of f.rewrite.gone) ((records_of f.rewrite.full ++ f.rewrite.synced) ++ f.rewrite.pending) k.kept.unbroken in
      let all : IsUnbroken (records_of out ++ (records_of stay ++ f.rewrite.synced)) = subst (λ l. IsUnbroken l) (sym whole) live in
      let some : IsUnbroken (records_of stay ++ f.rewrite.synced) = IsUnbroken-back (records_of out) (records_of stay ++ f.rewrite.synced) all in
      let spoken : IsSpoken (says s (rewritten g (records_of stay ++ f.rewrite.synced))) =
      subst (λ l. IsSpoken (says s (rewritten g l))) there
      (longer_speaks g s (records_of h.front) (records_of h.back) (subst (λ l. IsUnbroken l) (sym there) some) h.spoken) in
      stay_says g s (records_of out) (records_of stay ++ f.rewrite.synced) all spoken ∙ ap (λ l. says s (rewritten g l)) whole

  -- Rewrite may begin at the least noted file: what stays of it has all that stands there
  pub noted_rewritten_has : (f : Files E V) (m : Map E V) (ws : ℕ → Whereabouts) (notes : Notes) (n : ℕ) (out stay : List (LogFile E V)) → IsModelSound (running f m ws)
      → f.append.pending ≡ [] → f.rewrite.pending ≡ [] → out ++ stay ≡ f.rewrite.full → AllBelow n out → RewriteStandsFrom n m ws notes
      → AreNotedInRewrite m ws notes f.rewrite → (g : ℕ) → HasRewritten (m g) (ws g) (rewritten g (records_of stay ++ f.rewrite.synced))
  noted_rewritten_has f m ws notes n out stay k nothing r_nothing e below from noted g = (λ i low high. index i low high, λ key at. value key at)
    where
      stands : (s : Slot) → IsInRewrite (ws g) s → (m g s ≡ None) ⊎ SpeaksFrom (raised_files f.rewrite out stay) g (notes g s) s
      stands s at = rewrite_noted_raised f.rewrite n out stay m ws notes e below from noted g s at

      synced_map : (s : Slot) → taken m f.append.pending g s ≡ m g s
      synced_map s = ap (λ l. taken m l g s) nothing

      index : (i : ℕ) → (ws g).first ≤ i → i < (ws g).split → says (Index i) (rewritten g (records_of stay ++ f.rewrite.synced)) ≡ Some (m g (Index i))
      index i low high = elim (stands (Index i) (low, high)) [
        | inl none ↦ absurd (not_none i low high none)
        | inr h ↦ stays_says f m ws out stay k e r_nothing g (notes g (Index i)) (Index i) h
            ∙ (k.kept.whereabouts refl g).rewritten i low high ∙ ap Some (synced_map (Index i))
      ]
        where
          not_none : (i : ℕ) → (ws g).first ≤ i → i < (ws g).split → m g (Index i) ≡ None → ⊥
          not_none i low high none =
              let there : (entry : Content E V) × (taken m f.append.pending g (Index i) ≡ Some entry) =
              (k.kept.whereabouts refl g).solid i low (omega (arith, (k.kept.whereabouts refl g).in_order.1)) in
              let both : None ≡ Some there.0 = sym none ∙ sym (synced_map (Index i)) ∙ there.1 in cc

      value : (key : List ℕ) → (ws g).appended key ≡ false
          → (m g (Key key) ≡ None) ⊎ (says (Key key) (rewritten g (records_of stay ++ f.rewrite.synced)) ≡ Some (m g (Key key)))
      value key at = elim (stands (Key key) at) [
        | inl none ↦ inl none
        | inr h ↦ elim ((k.kept.whereabouts refl g).key_older key at) [
          | inl none ↦ inl (sym (synced_map (Key key)) ∙ none)
          | inr all ↦ inr (stays_says f m ws out stay k e r_nothing g (notes g (Key key)) (Key key) h ∙ all ∙ ap Some (synced_map (Key key)))
        ]
      ]
