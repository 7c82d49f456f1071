-- The files on a disk as the numbered files of the machine: what is read of them, and their steps.
use Rattle.std.proofs.Common.{◌≡◌, ℕ, ◌+◌, ◌-◌, ◌<◌, ◌≤◌, zero, suc, Option, Some, None, List, [], ◌∷◌, ◌++◌, length, take, drop, map, cond, refl, sym, ◌∙◌, ap, subst, inl, inr, arith, nat_eq, length-append}
use Rattle.std.proofs.lemmas.List.{append-nil, append_assoc, map-append, take-append-drop}
use Rattle.std.proofs.lemmas.Bool.{cases_Bool, cases_lt}
use Rattle.std.proofs.lemmas.Bool.Decides.{Decides-eqb}
use Rattle.raft_log_model_laws.specs.Item.{Record}
use Rattle.raft_log_machine_laws.specs.Files.{LogFile, FileQueue, NumberedFrom, first_file, all_files}
use Rattle.raft_log_machine_laws.specs.Files.FileEvent.{Grow, Sync, Rotate, Raise, Read}
use Rattle.raft_log_fs.specs.Disk.{Disk}
use Rattle.raft_log_fs.specs.Image.{IsImage}
use Rattle.raft_log_file_writer.specs.LawsChains.{Written}
use Rattle.raft_log_file_writer.specs.KeepsSynced.{kept_records}
use Rattle.raft_log_file_writer.specs.LogFormat.{Format, IsFormat}
use Rattle.raft_log_file_writer.specs.LogQueue.{Past, LogFiles, Found, IsThere, IsAbsent, ReadsFiles, HoldsLast, IsLeftover, EndsInOnePlace, past_from, found_from, recent, rotated}
use Rattle.raft_log_file_writer.proofs.Public.{queue_is_kept}
use Rattle.raft_log_active_file.specs.Queue.{with_more, synced}
use Rattle.raft_log_active_file.specs.Bridge.{said, filed, logged, IsFileQueue, ReadsAsFiles, StepsTo, GapsStay}
use Rattle.raft_log_active_file.specs.NumberedLaws.{ReadsAsNumbered, TakesNumberedSteps}
use Rattle.raft_log_active_file.proofs.Keeping.{log_files}

module _ {R E V : Type 0} (says : R → Record E V) where
  said-append : (vs ws : List (Written R)) → said says (vs ++ ws) ≡ said says vs ++ said says ws
  said-append vs ws = map-append (λ (w : Written R). says w.value) vs ws

  -- some files, and those that follow them
  filed-append : (h : ℕ → Past R) (s t j k n : ℕ) → s + j ≡ t → j + k ≡ n → filed says h s n ≡ filed says h s j ++ filed says h t k
  filed-append h s t zero k n from all =
      let here : s ≡ t = omega (arith, from) in
      let same : n ≡ k = omega (arith, all) in
      ap (λ (i : ℕ). filed says h s i) same ∙ ap (λ (i : ℕ). filed says h i k) here
  filed-append h s t (suc j) k zero from all = absurd (omega (arith, all))
  filed-append h s t (suc j) k (suc n) from all =
      ap (λ (fs : List (LogFile E V)). record { number = s; records = said says (h s).records } ∷ fs) (filed-append h (suc s) t j k n (omega (arith, from)) (omega (arith, all)))

  filed_same : (g h : ℕ → Past R) (s k : ℕ) → ((m : ℕ) → s ≤ m → m < s + k → g m ≡ h m) → filed says g s k ≡ filed says h s k
  filed_same g h s zero same = refl
  filed_same g h s (suc k) same =
      let first : g s ≡ h s = same s (omega arith) (omega arith) in
      let rest = filed_same g h (suc s) k (λ m from less. same m (omega (arith, from)) (omega (arith, less))) in
      λ i. record { number = s; records = said says (first i).records } ∷ rest i

  length-filed : (h : ℕ → Past R) (s k : ℕ) → length (filed says h s k) ≡ k
  length-filed h s zero = refl
  length-filed h s (suc k) = ap suc (length-filed h (suc s) k)

  -- files as they are read
  logged_past : (h : ℕ → Past R) (s k : ℕ) → map (logged says) (past_from h s k) ≡ filed says h s k
  logged_past h s zero = refl
  logged_past h s (suc k) = ap (λ (fs : List (LogFile E V)). record { number = s; records = said says (h s).records } ∷ fs) (logged_past h (suc s) k)

  numbered_filed : (h : ℕ → Past R) (s k t : ℕ) (tail : List (LogFile E V)) → s + k ≡ t → NumberedFrom t tail → NumberedFrom s (filed says h s k ++ tail)
  numbered_filed h s zero t tail from numbered = (let here : t ≡ s = omega (arith, from) in subst (λ (n : ℕ). NumberedFrom n tail) here numbered)
  numbered_filed h s (suc k) t tail from numbered =
      let next : suc s ≡ s + 1 = omega arith in
      (refl, subst (λ (n : ℕ). NumberedFrom n (filed says h (suc s) k ++ tail)) next (numbered_filed h (suc s) k t tail (omega (arith, from)) numbered))

  module _ (F : Format R) (q : LogFiles R) (low first : ℕ) where
    -- a reading starts at the gap's end at the least
    starts_above : (d image : Disk) → IsImage d image → q.last < F.limit → IsThere F q.last d → ((m : ℕ) → suc m ≡ low → IsAbsent F m d) → low ≤ q.last
        → (c s k : ℕ) (found : List (Found R)) → suc (s + c) ≡ low → ReadsFiles F image s k found → ⊥
    starts_above d image is bound there gap below c s zero found at (none, behind) =
        let gone = behind q.last (omega (arith, at, below)) bound there.path there.at in
        let named : image.names there.path ≡ Some there.id = ap (λ (f : List ℕ → Option ℕ). f there.path) is.names ∙ there.named in
        cc (gone, named)
    starts_above d image is bound there gap below zero s (suc k) found at (ws, more, less, reads, others, is_found) =
        let gone = gap s (omega (arith, at)) reads.path reads.at in
        let named : d.names reads.path ≡ Some reads.file.id = ap (λ (f : List ℕ → Option ℕ). f reads.path) (sym is.names) ∙ reads.file.named in
        cc (gone, named)
    starts_above d image is bound there gap below (suc c) s (suc k) found at (ws, more, less, reads, others, is_found) =
        starts_above d image is bound there gap below c (suc s) k more (omega (arith, at)) others

    pub reads_as_files : (d : Disk) (files : FileQueue E V) → IsFileQueue says F q low first d files → q.last < F.limit → IsThere F q.last d → EndsInOnePlace F q d → ReadsAsFiles says F q low first d files
    reads_as_files d files all bound there ends image is chance =
        let (count, within, one) = ends image is chance in
        let kept = said says (take count q.pending) in
        let lost = said says (drop count q.pending) in (
          kept,
          lost,
          sym (said-append (take count q.pending) (drop count q.pending)) ∙ ap (said says) (take-append-drop count q.pending) ∙ sym all.pending,
          λ s under found reads.
              (let below = all.below in
              let above = all.above in
              let from : low ≤ s = elim (cases_lt s low) [
                | inl less ↦ absurd (starts_above d image is bound there all.gap (omega (arith, below, above)) (low - suc s) s reads.0 found (omega (arith, less)) reads.1)
                | inr more ↦ omega (arith, more)
              ] in
              let a = s - low in
              let b = first - s in
              let tail : List (LogFile E V) = record { number = q.last; records = said says (kept_records q.durable q.pending count) } ∷ [] in
              let gone : filed says q.older low all.back ≡ filed says q.older low a ++ filed says q.older s b = filed-append q.older low s a b all.back (omega (arith, from)) (omega (arith, from, under, below)) in
              let whole : filed says q.older s (q.last - s) ≡ filed says q.older s b ++ filed says q.older first all.forth = filed-append q.older s first b all.forth (q.last - s) (omega (arith, under)) (omega (arith, under, above)) in
              let read : map (logged says) found ≡ filed says q.older s (q.last - s) ++ tail =
              ap (map (logged says)) (one s (omega (arith, under, above)) found reads) ∙ map-append (logged says) (past_from q.older s (q.last - s)) (record { number = q.last; records = kept_records q.durable q.pending count } ∷ [])
              ∙ ap (λ (fs : List (LogFile E V)). fs ++ tail) (logged_past q.older s (q.last - s)) in
              let last : tail ≡ record { number = files.last; records = files.synced ++ kept } ∷ [] =
              (λ i. record { number = (sym all.last) i; records = (said-append q.durable (take count q.pending) ∙ ap (λ (rs : List (Record E V)). rs ++ kept) (sym all.synced)) i } ∷ []) in
              let G = filed says q.older low a in
              let B = filed says q.older s b in
              let H = filed says q.older first all.forth in
              record {
                low = omega (arith, under, below, ap length all.gone, length-filed q.older low all.back);
                skipped = files.behind ++ G;
                rest = append_assoc files.behind G (map (logged says) found)
                    ∙ ap (λ (fs : List (LogFile E V)). files.behind ++ (G ++ fs)) (read ∙ ap (λ (fs : List (LogFile E V)). fs ++ tail) whole ∙ append_assoc B H tail)
                    ∙ ap (λ (fs : List (LogFile E V)). files.behind ++ fs) (sym (append_assoc G B (H ++ tail)))
                    ∙ ap (λ (fs : List (LogFile E V)). files.behind ++ (fs ++ (H ++ tail))) (sym gone ∙ sym all.gone)
                    ∙ ap (λ (fs : List (LogFile E V)). files.behind ++ (files.gone ++ (fs ++ tail))) (sym all.full)
                    ∙ ap (λ (fs : List (LogFile E V)). files.behind ++ (files.gone ++ (files.full ++ fs))) last;
                numbered = subst (NumberedFrom s) (sym read) (numbered_filed q.older s (q.last - s) q.last tail (omega (arith, under, above)) (refl, tt));
                some = omega (arith, ap length read, length-append (filed says q.older s (q.last - s)) tail);
              }),
        )

    -- The steps.

    -- on a disk with no fewer gaps they are the same
    pub fewer_names : (old new : Disk) (files : FileQueue E V) → GapsStay F q old new → IsFileQueue says F q low first old files → IsFileQueue says F q low first new files
    fewer_names old new files stay all = record {
      back = all.back;
      forth = all.forth;
      below = all.below;
      above = all.above;
      gone = all.gone;
      full = all.full;
      last = all.last;
      synced = all.synced;
      pending = all.pending;
      behind = all.behind;
      gap = λ m next. (let below = all.below in let above = all.above in stay m (omega (arith, next, below, above)) (all.gap m next));
    }

    pub grows : (d : Disk) (files : FileQueue E V) (ws : List (Written R)) → IsFileQueue says F q low first d files → StepsTo says F (Grow (said says ws)) files (with_more ws q) low first d
    grows d files ws all = (
      record files { pending = files.pending ++ said says ws },
      refl,
      record {
        back = all.back;
        forth = all.forth;
        below = all.below;
        above = all.above;
        gone = all.gone;
        full = all.full;
        last = all.last;
        synced = all.synced;
        pending = ap (λ (rs : List (Record E V)). rs ++ said says ws) all.pending ∙ sym (said-append q.pending ws);
        behind = all.behind;
        gap = all.gap;
      },
    )

    -- what is synced of the last file
    all_said : (d : Disk) (files : FileQueue E V) → IsFileQueue says F q low first d files → files.synced ++ files.pending ≡ said says (recent q)
    all_said d files all = (λ i. all.synced i ++ all.pending i) ∙ sym (said-append q.durable q.pending)

    pub syncs : (d : Disk) (files : FileQueue E V) → IsFileQueue says F q low first d files → StepsTo says F Sync files (synced q) low first d
    syncs d files all = (
      record files { synced = files.synced ++ files.pending; pending = [] },
      refl,
      record {
        back = all.back;
        forth = all.forth;
        below = all.below;
        above = all.above;
        gone = all.gone;
        full = all.full;
        last = all.last;
        synced = all_said d files all;
        pending = refl;
        behind = all.behind;
        gap = all.gap;
      },
    )

    pub rotates : (d : Disk) (files : FileQueue E V) (header stale : List ℕ) → IsFileQueue says F q low first d files → StepsTo says F Rotate files (rotated header stale q) low first d
    rotates d files header stale all =
        let next = rotated header stale q in
        let below = all.below in
        let above = all.above in
        let elsewhere : (m : ℕ) → m < q.last → q.older m ≡ next.older m = λ m less. elim (cases_Bool (nat_eq m q.last)) [
          | inl hit ↦ (let same = (Decides-eqb m q.last).0 hit in absurd (omega (arith, less, same)))
          | inr miss ↦ sym (ap (λ b. cond b (record { header = q.header; records = recent q }) (q.older m)) miss)
        ] in
        let last : next.older q.last ≡ record { header = q.header; records = recent q } = ap (λ b. cond b (record { header = q.header; records = recent q }) (q.older q.last)) ((Decides-eqb q.last q.last).1 refl) in
        let one : filed says next.older q.last 1 ≡ record { number = files.last; records = files.synced ++ files.pending } ∷ [] =
        (λ i. record { number = (sym all.last) i; records = (ap (λ (p : Past R). said says p.records) last ∙ sym (all_said d files all)) i } ∷ []) in (
          record files { full = files.full ++ record { number = files.last; records = files.synced ++ files.pending } ∷ []; last = files.last + 1; synced = []; pending = [] },
          refl,
          record {
            back = all.back;
            forth = suc all.forth;
            below = all.below;
            above = omega (arith, above);
            gone = all.gone ∙ filed_same q.older next.older low all.back (λ m from less. elsewhere m (omega (arith, less, below, above)));
            full = ap (λ (fs : List (LogFile E V)). fs ++ record { number = files.last; records = files.synced ++ files.pending } ∷ []) (all.full ∙ filed_same q.older next.older first all.forth (λ m from less. elsewhere m (omega (arith, less, above))))
                ∙ ap (λ (fs : List (LogFile E V)). filed says next.older first all.forth ++ fs) (sym one)
                ∙ sym (filed-append next.older first q.last all.forth 1 (suc all.forth) above (omega arith));
            last = ap (λ (n : ℕ). n + 1) all.last ∙ (let up : q.last + 1 ≡ suc q.last = omega arith in up);
            synced = refl;
            pending = refl;
            behind = all.behind;
            gap = all.gap;
          },
        )

    -- the span begins later, within its files
    pub raises : (d : Disk) (files : FileQueue E V) (to : ℕ) → first ≤ to → to ≤ q.last → IsFileQueue says F q low first d files
        → (out stay : List (LogFile E V)) × (out ≡ filed says q.older first (to - first)) × StepsTo says F (Raise out stay) files q low to d
    raises d files to from below_last all =
        let below = all.below in
        let above = all.above in
        let out = filed says q.older first (to - first) in
        let stay = filed says q.older to (q.last - to) in
        let parts : filed says q.older first all.forth ≡ out ++ stay = filed-append q.older first to (to - first) (q.last - to) all.forth (omega (arith, from)) (omega (arith, from, below_last, above)) in (
          out,
          stay,
          refl,
          (
            record files { gone = files.gone ++ out; full = stay },
            (sym parts ∙ sym all.full, refl),
            record {
              back = all.back + (to - first);
              forth = q.last - to;
              below = omega (arith, from, below);
              above = omega (arith, below_last);
              gone = ap (λ (fs : List (LogFile E V)). fs ++ out) all.gone ∙ sym (filed-append q.older low first all.back (to - first) (all.back + (to - first)) below (omega arith));
              full = refl;
              last = all.last;
              synced = all.synced;
              pending = all.pending;
              behind = all.behind;
              gap = all.gap;
            },
          ),
        )

    -- an open: the span begins at an earlier file, and of the pending records some first ones are durable
    pub reads_again : (d : Disk) (files : FileQueue E V) (to count : ℕ) (next : LogFiles R) → low ≤ to → to ≤ first → next.older ≡ q.older → next.last ≡ q.last → next.durable ≡ kept_records q.durable q.pending count → next.pending ≡ []
        → IsFileQueue says F q low first d files
        → (below again : List (LogFile E V)) × (kept lost : List (Record E V)) × (kept ++ lost ≡ files.pending) × StepsTo says F (Read below again kept) files next low to d
    reads_again d files to count next from under older last durable pending all =
        let below = all.below in
        let above = all.above in
        let front = filed says q.older low (to - low) in
        let again = filed says q.older to (first - to) in
        let kept = said says (take count q.pending) in
        let parts : filed says q.older low all.back ≡ front ++ again = filed-append q.older low to (to - low) (first - to) all.back (omega (arith, from)) (omega (arith, from, under, below)) in
        let whole : filed says q.older to (first - to + all.forth) ≡ again ++ filed says q.older first all.forth = filed-append q.older to first (first - to) all.forth (first - to + all.forth) (omega (arith, under)) refl in (
          front,
          again,
          kept,
          said says (drop count q.pending),
          sym (said-append (take count q.pending) (drop count q.pending)) ∙ ap (said says) (take-append-drop count q.pending) ∙ sym all.pending,
          (
            record files { gone = front; full = again ++ files.full; synced = files.synced ++ kept; pending = [] },
            (sym parts ∙ sym all.gone, refl),
            record {
              back = to - low;
              forth = first - to + all.forth;
              below = omega (arith, from);
              above = omega (arith, under, above, last);
              gone = ap (λ (h : ℕ → Past R). filed says h low (to - low)) (sym older);
              full = ap (λ (fs : List (LogFile E V)). again ++ fs) all.full ∙ sym whole ∙ ap (λ (h : ℕ → Past R). filed says h to (first - to + all.forth)) (sym older);
              last = all.last ∙ sym last;
              synced = ap (λ (rs : List (Record E V)). rs ++ kept) all.synced ∙ sym (said-append q.durable (take count q.pending)) ∙ ap (said says) (sym durable);
              pending = ap (said says) (sym pending);
              behind = all.behind;
              gap = all.gap;
            },
          ),
        )

  pub takes_numbered_steps : (F : Format R) → TakesNumberedSteps says F
  takes_numbered_steps F q low first d files all = record {
    elsewhere = λ new stay. fewer_names F q low first d new files stay all;
    grows = λ ws. grows F q low first d files ws all;
    syncs = syncs F q low first d files all;
    rotates = λ header stale. rotates F q low first d files header stale all;
    raises = λ to from below. raises F q low first d files to from below all;
    reads_again = λ to count next from under older last durable pending. reads_again F q low first d files to count next from under older last durable pending all;
  }

  pub reads_as_numbered : (F : Format R) (own : List ℕ → Type 0) → IsFormat F → ReadsAsNumbered says F own
  reads_as_numbered F own lawful tell base q path id N d sound either low first files all =
      elim either [
        | inl s ↦
            (let has = log_files F own base q path id (HoldsLast F q) N d s in
            reads_as_files F q low first d files all s.bound (there has.last.path has.last.at has.last.file.id has.last.file.named) ((queue_is_kept F lawful).ends tell q d sound (inl has) s.headed))
        | inr s ↦
            (let has = log_files F own base q path id (IsLeftover F q) N d s in
            reads_as_files F q low first d files all s.bound (there has.last.path has.last.at has.last.file.id has.last.file.named) ((queue_is_kept F lawful).ends tell q d sound (inr has) s.headed))
      ]
    where
      there : (p : List ℕ) → F.IsPath q.last p → (j : ℕ) → d.names p ≡ Some j → IsThere F q.last d
      there p at j named = record { path = p; at = at; id = j; named = named }
