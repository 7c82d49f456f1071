-- A scan of a log's directories finds all files of a queue that lies there.
use Rattle.std.specs.Prelude.{Contains, None, Some, Option}
use Rattle.std.specs.List.Sorted.{IsPermutation, IsSorted}
use Rattle.std.proofs.Common.{◌≡◌, ℕ, ◌<◌, ◌≤◌, zero, suc, List, [], ◌∷◌, ◌++◌, length, get_or, refl, sym, ap, subst, ◌∙◌, inl, inr, arith, length-append, append_assoc}
use Rattle.std.proofs.lemmas.Bool.{cases_lt, cases_order}
use Rattle.std.proofs.lemmas.List.{append_cancel_right}
use Rattle.std.proofs.lemmas.List.Elements.{Contains-get_or}
use Rattle.std.proofs.lemmas.List.Sorted.{IsPermutation-sym}
use Rattle.raft_log_record_base.specs.declared.pipe_log.LogQueue.{LogQueue}
use Rattle.raft_log_fs.specs.Disk.{Disk}
use Rattle.raft_log_fs.specs.Image.{IsSound}
use Rattle.raft_log_file_writer.specs.LogQueue.{LogFiles, IsLeftover}
use Rattle.raft_log_active_file.specs.Layout.{place_of}
use Rattle.raft_log_active_file.specs.Standing.{Names, Stands}
use Rattle.raft_log_file_format.specs.Name.{suffix_of}
use Rattle.raft_log_engine_laws.specs.raft_log_active_file.specs.QueueFiles.{log_format}
use Rattle.raft_log_engine_laws.specs.raft_log_active_file.specs.QueueFilesLaws.{is_layout}
use Rattle.raft_log_engine_laws.specs.raft_log_active_file.specs.PathLaws.{one_name}
use Rattle.raft_log_engine_laws.specs.raft_log_active_file.specs.Paths.{IsOwnPath, IsPathWith}
use Rattle.raft_log_engine_laws.specs.raft_log_active_file.specs.declared.record.LogRecord.{LogRecord}
use Rattle.raft_log_recovery_scan.specs.Found.{AreDistinct, AreFilesIn, FileLiesIn, found_path}
use Rattle.raft_log_recovery_scan.specs.Names.{name_of}
use Rattle.raft_log_recovery_scan.proofs.Public.{limit_small, name_plain, sign_one}
use Rattle.raft_log_recovery_scan.specs.Runs.{IsRunOf, found_cmp}
use Rattle.raft_log_recovery_scan.specs.Scanned.{IsQueueIn}
use Rattle.raft_log_recovery_scan.specs.declared.scanning.found.FoundFile.{FoundFile}
use Rattle.raft_log_recovery_laws.specs.AllFiles.{NoFilesAreScanned, ScannedFilesAreAll}
use Rattle.raft_log_recovery_laws.specs.Beginning.{IsTwice}
use Rattle.raft_log_recovery_laws.specs.Scanned.{kind_of}
use Rattle.raft_log_recovery_laws.proofs.Beginnings.{at_end, lies_there, listed, rise}
use Rattle.raft_log_recovery_laws.proofs.Begun.{named_file, scanned_files_begin}
use Rattle.raft_log_recovery_laws.proofs.FoundPaths.{path_found}
use Rattle.raft_log_recovery_laws.proofs.Spans.{scanned_files_are_spanned}

-- Lists.

-- what isn't missing is there
some_there : (o : Option ℕ) → (o ≡ None → ⊥) → (id : ℕ) × (o ≡ Some id)
some_there None not = absurd (not refl)
some_there (Some id) not = (id, refl)

none_is_some : (id : ℕ) → None ≡ Some id → ⊥
none_is_some id e = absurd (cc)

-- two places of a list in which none comes twice have two elements
distinct_at : (ds : List (List ℕ)) (x : List ℕ) (i j : ℕ) → AreDistinct ds → i < j → j < length ds → get_or ds i x ≡ get_or ds j x → ⊥
distinct_at [] x i j distinct less within same = omega (arith, within)
distinct_at (d ∷ ds) x i zero distinct less within same = omega (arith, less)
distinct_at (d ∷ ds) x zero (suc j) (lone, rest) less within same = lone (subst (Contains ds) (sym same) (Contains-get_or ds j x (omega (arith, within))))
distinct_at (d ∷ ds) x (suc i) (suc j) (lone, rest) less within same = distinct_at ds x i j rest (omega (arith, less)) (omega (arith, within)) same

-- The files of a queue that lie in the directories.

module _ (queue : LogQueue) (directories : List (List ℕ)) (d : Disk) where
  numbered_at : (f : FoundFile) → FileLiesIn (kind_of queue) directories d f → IsPathWith (suffix_of queue) directories f.seq (found_path (kind_of queue) directories f)
  numbered_at f lies =
      let listed = lies.listed in
      let small = limit_small f.signed f.seq lies.small in
      subst (IsPathWith (suffix_of queue) directories f.seq) (path_found queue directories f listed)
      ((is_layout queue directories (omega (arith, listed))).numbered (place_of (length directories) f.path_id f.signed) f.seq small)

  module _ (found before : List FoundFile) (last : FoundFile) (are : AreFilesIn (kind_of queue) directories d found) (run : IsRunOf found (before ++ last ∷ [])) where
    abbrev front : List FoundFile
    front = run.dropped ++ before

    abbrev all : List FoundFile
    all = front ++ last ∷ []

    whole : run.dropped ++ (before ++ last ∷ []) ≡ all
    whole = sym (append_assoc run.dropped before (last ∷ []))

    same : IsPermutation found all
    same = subst (IsPermutation found) whole run.same

    long : length front < length all
    long = omega (arith, length-append front (last ∷ []))

    -- none has a higher number than the last one that is kept
    highest : (f : FoundFile) → FileLiesIn (kind_of queue) directories d f → f.seq ≤ last.seq
    highest f lies =
        let there = listed (kind_of queue) directories d found all f are same lies in
        let up : there.0 ≤ length front = omega (arith, there.1, length-append front (last ∷ [])) in
        subst (λ (h : FoundFile). f.seq ≤ h.seq) (at_end front [] last f)
        (subst (λ (h : FoundFile). h.seq ≤ (get_or all (length front) f).seq) there.2 (rise all f there.0 (length front) (subst (IsSorted found_cmp) whole run.ordered) up long))

    last_lies : FileLiesIn (kind_of queue) directories d last
    last_lies = lies_there (kind_of queue) directories d found all last are (IsPermutation-sym found all same) (subst (Contains all) (at_end front [] last last) (Contains-get_or all (length front) last long))

  module _ (q : LogFiles LogRecord) (path : List ℕ) (id : ℕ) (N : Names) (s : Stands (log_format queue directories) (IsOwnPath queue directories) d q path id (IsLeftover (log_format queue directories) q) N d) where
    -- the last file is there, and none above it
    last_there : d.names path ≡ None → ⊥
    last_there none = none_is_some id (sym none ∙ ap (λ (f : Names). f path) s.names ∙ s.named)

    none_above : (f : FoundFile) → FileLiesIn (kind_of queue) directories d f → q.last < f.seq → ⊥
    none_above f lies above =
        let there = found_path (kind_of queue) directories f in
        lies.there (ap (λ (g : Names). g there) s.names ∙ s.none f.seq there above (limit_small f.signed f.seq lies.small) (numbered_at f lies))

    -- no number has two files
    not_twice : AreDistinct directories → IsSound d → (n : ℕ) → IsTwice (kind_of queue) directories d n → ⊥
    not_twice distinct sound n t =
        let a = found_path (kind_of queue) directories t.here in
        let b = found_path (kind_of queue) directories t.there in
        let (i, is_i) = some_there (d.names a) t.here_lies.there in
        let (j, is_j) = some_there (d.names b) t.there_lies.there in
        let at_a : IsPathWith (suffix_of queue) directories n a = subst (λ (k : ℕ). IsPathWith (suffix_of queue) directories k a) t.here_number (numbered_at t.here t.here_lies) in
        let at_b : IsPathWith (suffix_of queue) directories n b = subst (λ (k : ℕ). IsPathWith (suffix_of queue) directories k b) t.there_number (numbered_at t.there t.there_lies) in
        let named_a : N a ≡ Some i = ap (λ (f : Names). f a) (sym s.names) ∙ is_i in
        let named_b : N b ≡ Some j = ap (λ (f : Names). f b) (sym s.names) ∙ is_j in
        let one : i ≡ j = elim (cases_lt n q.last) [
          | inl below ↦ s.single n i j a b below at_a at_b named_a named_b
          | inr up ↦ elim (cases_lt q.last n) [
            | inl above ↦ absurd (none_above t.here t.here_lies (omega (arith, above, t.here_number)))
            | inr even ↦
                let here : n ≡ q.last = omega (arith, up, even) in
                s.alone a i (subst (λ (k : ℕ). IsPathWith (suffix_of queue) directories k a) here at_a) named_a
                ∙ sym (s.alone b j (subst (λ (k : ℕ). IsPathWith (suffix_of queue) directories k b) here at_b) named_b)
          ]
        ] in
        let joined : a ≡ b = sound.one_name a b i is_i (is_j ∙ ap Some (sym one)) in
        let kind = kind_of queue in
        let here_home : List ℕ = get_or directories t.here.path_id [] in
        let there_home : List ℕ = get_or directories t.there.path_id [] in
        let here_name : List ℕ = name_of kind t.here.signed t.here.seq in
        let there_name : List ℕ = name_of kind t.there.signed t.there.seq in
        let here_small = limit_small t.here.signed t.here.seq t.here_lies.small in
        let there_small = limit_small t.there.signed t.there.seq t.there_lies.small in
        let names : here_name ≡ there_name =
        one_name here_home there_home here_name there_name (name_plain kind t.here.signed t.here.seq here_small) (name_plain kind t.there.signed t.there.seq there_small) joined in
        let seqs : t.here.seq ≡ t.there.seq = t.here_number ∙ sym t.there_number in
        let signs : t.here.signed ≡ t.there.signed = sign_one kind t.here.signed t.there.signed t.here.seq t.there.seq here_name (t.here_lies.small, refl) (t.there_lies.small, names) in
        let homes : here_home ≡ there_home = append_cancel_right here_home there_home (47 ∷ there_name) (sym (ap (λ (l : List ℕ). here_home ++ 47 ∷ l) names) ∙ joined) in
        elim (cases_order t.here.path_id t.there.path_id) [
          | inl path ↦ t.apart (λ i. record { seq = seqs i; path_id = path i; signed = signs i })
          | inr (inl less) ↦ distinct_at directories [] t.here.path_id t.there.path_id distinct less t.there_lies.listed homes
          | inr (inr more) ↦ distinct_at directories [] t.there.path_id t.here.path_id distinct more t.here_lies.listed (sym homes)
        ]

    -- the last file that is kept is the last one
    last_is : (found before : List FoundFile) (last : FoundFile) → AreFilesIn (kind_of queue) directories d found → IsRunOf found (before ++ last ∷ []) → last.seq ≡ q.last
    last_is found before last are run = elim (cases_lt last.seq q.last) [
      | inl less ↦ absurd (named_file queue directories d found are q.last path s.at last_there (λ f lies is. omega (arith, highest found before last are run f lies, is, less)))
      | inr up ↦ elim (cases_lt q.last last.seq) [
        | inl above ↦ absurd (none_above last (last_lies found before last are run) above)
        | inr even ↦ omega (arith, up, even)
      ]
    ]

    -- some file is kept
    some_kept : (found : List FoundFile) → AreFilesIn (kind_of queue) directories d found → IsRunOf found [] → ⊥
    some_kept found are run = elim run.broken [
      | inl none ↦
          let all : IsPermutation found [] = subst (λ (l : List FoundFile). IsPermutation found (l ++ [])) none run.same in
          named_file queue directories d found are q.last path s.at last_there (λ f lies is. (let (k, less, there) = listed (kind_of queue) directories d found [] f are all lies in omega (arith, less)))
      | inr b ↦ omega (arith, ap length b.begins)
    ]

pub scanned_files_are_all : ScannedFilesAreAll
scanned_files_are_all queue directories distinct mode d sound q path id N s files scanned = elim scanned.opened [
  | inl none ↦ absurd (some_kept queue directories d q path id N s scanned.run.found scanned.run.all (subst (IsRunOf scanned.run.found) none.0 scanned.run.run))
  | inr behind ↦
      let run : IsRunOf scanned.run.found (behind.before ++ behind.last ∷ []) = subst (IsRunOf scanned.run.found) behind.found_split scanned.run.run in
      let there : IsQueueIn (kind_of queue) directories d mode (behind.opened ++ behind.active ∷ []) = subst (IsQueueIn (kind_of queue) directories d mode) behind.split scanned in
      record {
        earlier = behind.opened;
        last = behind.active;
        split = behind.split;
        number_is = behind.writable.seq ∙ last_is queue directories d q path id N s scanned.run.found behind.before behind.last scanned.run.all run;
        spanned = scanned_files_are_spanned queue directories mode d behind.opened behind.active there;
        begins = elim (scanned_files_begin queue directories mode d behind.opened behind.active there) [
          | inl gap ↦ gap
          | inr twice ↦ absurd (not_twice queue directories d q path id N s distinct sound _ twice)
        ];
      }
]

pub no_files_are_scanned : NoFilesAreScanned
no_files_are_scanned queue directories mode d none files scanned = elim scanned.opened [
  | inl empty ↦ empty.1
  | inr behind ↦
      let run : IsRunOf scanned.run.found (behind.before ++ behind.last ∷ []) = subst (IsRunOf scanned.run.found) behind.found_split scanned.run.run in
      let lies = last_lies queue directories d scanned.run.found behind.before behind.last scanned.run.all run in
      absurd (lies.there (none behind.last.seq (limit_small behind.last.signed behind.last.seq lies.small) (found_path (kind_of queue) directories behind.last) (numbered_at queue directories d behind.last lies)))
]
