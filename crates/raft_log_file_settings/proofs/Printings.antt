-- Rows that are put into a table, and what is read of it.
use Rattle.std.proofs.Common.{◌≡◌, ℕ, ◌+◌, ◌<◌, ◌≤◌, Bool, true, false, cond, length, get_or, take, drop, Bor, inl, inr, List, [], ◌∷◌, ◌++◌, String, Global, Ordering, Less, Equal, Greater, string_bytes, nat_cmp, refl, sym, ap, ◌∙◌, arith, le-leb}
use Rattle.std.specs.Prelude.{map, nat_le, Option, Some, None, Ok, codes, pos, ◌*◌, ◌^◌}
use Rattle.std.specs.Result.{result_ok}
use Rattle.std.specs.Option.{option_map, option_or}
use Rattle.std.specs.Str.{bytes_eq}
use Rattle.std.specs.Cmp.Lexicographic.{slice_cmp}
use Rattle.std.proofs.lemmas.Bool.{cases_Bool, leb-true}
use Rattle.std.proofs.lemmas.List.{take_more, drop_more, take-append-drop, map-append}
use Rattle.std.proofs.lemmas.Map.Text.{btree_map_updates_text}
use Rattle.std.specs.Ordering.{match_ordering}
use Rattle.std.specs.BTreeMap.{BTreeMap, UpdatesBy, insert_entry, get_by_text}
use Rattle.std.specs.String.{string_cmp}
use Rattle.toml.specs.Data.{Data, Members, get_member, as_str, as_bool, depth, members_depth}
use Rattle.toml.specs.Data.Data.{string, integer, boolean}
use Rattle.toml.specs.View.{view, members_view}
use Rattle.toml.specs.declared.value.Value.{Value}
use Rattle.toml.proofs.Views.{view-lookup}
use Rattle.raft_log_record_base.specs.Files.{version_number}
use Rattle.raft_log_record_base.specs.declared.size.ReadableSize.{ReadableSize}
use Rattle.raft_log_record_base.specs.declared.pipe_log.Version.{Version}
use Rattle.raft_log_record_base.specs.declared.pipe_log.Version.TheVariants.{V1, V2}
use Rattle.raft_log_record_base.proofs.Public.{size_in-size_text}
use Rattle.raft_log_record_base.specs.declared.errors.Error.{Error}
use Rattle.raft_log_record_base.specs.declared.errors.Error.TheVariants as errors
use Rattle.raft_log_file_settings.specs.declared.recovery_mode.RecoveryMode.{RecoveryMode}
use Rattle.raft_log_file_settings.specs.declared.recovery_mode.RecoveryMode.TheVariants.{AbsoluteConsistency, TolerateTailCorruption, TolerateAnyCorruption}
use Rattle.raft_log_file_settings.specs.declared.printing.Entry.{Entry}
use Rattle.raft_log_file_settings.specs.declared.printing.Entry.TheVariants as entries
use Rattle.raft_log_file_settings.specs.Printing.{SizeFits, SizesFit, Row, word_of, size_data, row_of, rows_of, with_row, with_rows, HasRows, PutsRow, is_unsaid, first_unsaid, IsUnprintable, SaysTooLarge}
use Rattle.raft_log_file_settings.specs.Settings.{Settings, default_settings}
use Rattle.raft_log_file_settings.specs.Reading.{at, at_value, ok_or, maybe, size_of, number_of, ratio_of, version_of, mode_of, directories_in, recovery_in, files_in, purging_in, recycling_in, settings_in}
use Rattle.raft_log_file_settings.proofs.Readings.{all_read}

abbrev pub Pairs : Type 0
Pairs = List (String Global × Value)

-- An insert is as flat as what was inserted and what was there.

deeper : (o : Ordering) (k : String Global) (v : Value) (e : String Global × Value) (es : Pairs) (after : Pairs)
    → depth (view v) ≡ 0 → members_depth (members_view (e ∷ es)) ≡ 0 → members_depth (members_view after) ≡ 0
    → members_depth (members_view (match_ordering o ((k, v) ∷ e ∷ es) ((e.0, v) ∷ es) (e ∷ after))) ≡ 0
deeper Less k v e es after flat old new = omega arith
deeper Equal k v e es after flat old new = omega arith
deeper Greater k v e es after flat old new = omega arith

pub flat_insert : (es : Pairs) (k : String Global) (v : Value) → depth (view v) ≡ 0 → members_depth (members_view es) ≡ 0
    → members_depth (members_view (insert_entry string_cmp es k v)) ≡ 0
flat_insert [] k v flat old = omega arith
flat_insert (e ∷ es) k v flat old = deeper (string_cmp k e.0) k v e es (insert_entry string_cmp es k v) flat old (flat_insert es k v flat (omega arith))

-- What a table has at each key once a value is put.

viewed : (b : Bool) (v : Value) (o : Option Value) → option_map view (cond b (Some v) o) ≡ cond b (Some (view v)) (option_map view o)
viewed true v o = refl
viewed false v o = refl

pub put_at : (m n : BTreeMap (String Global) Value) (v : Value) (name key : List ℕ) → name ≡ key
    → UpdatesBy string_cmp (λ k. slice_cmp nat_cmp name (string_bytes k)) m n (Some v)
    → (k : List ℕ) → get_member k (members_view n.entries) ≡ cond (bytes_eq key k) (Some (view v)) (get_member k (members_view m.entries))
put_at m n v name key same updates k =
    sym (view-lookup k n.entries) ∙ ap (option_map view) (btree_map_updates_text name m n (Some v) updates k)
    ∙ viewed (bytes_eq name k) v (get_by_text m k)
    ∙ ap (λ o. cond (bytes_eq name k) (Some (view v)) o) (view-lookup k m.entries)
    ∙ ap (λ (l : List ℕ). cond (bytes_eq l k) (Some (view v)) (get_member k (members_view m.entries))) same

-- One row more.

with_rows-snoc : (rows : List Row) (row : Row) (at : List ℕ → Option Data) → with_rows (rows ++ row ∷ []) at ≡ with_row row (with_rows rows at)
with_rows-snoc [] row at = refl
with_rows-snoc (r ∷ rows) row at = with_rows-snoc rows row (with_row r at)

first_unsaid-append : (rows more : List Row) → first_unsaid rows ≡ None → first_unsaid (rows ++ more) ≡ first_unsaid more
first_unsaid-append [] more none = refl
first_unsaid-append (r ∷ rows) more none =
    elim (cases_Bool (is_unsaid r.1)) [
      | inl past ↦ absurd (let e = rw past at none in cc)
      | inr small ↦ rw small (first_unsaid-append rows more (rw small at none))
    ]

abbrev pub CodeRow : Type 0
CodeRow = Bor (List ℕ) × Option Entry

-- the rows so far are put, and each number of them is one that TOML says
pub record AreSoFar (rows : List CodeRow) (i : ℕ) (table : Members) : Type 0 where
  pub made : HasRows (map row_of (take i rows)) table
  pub none : first_unsaid (map row_of (take i rows)) ≡ None

rows_more : (rows : List CodeRow) (i : ℕ) (d : CodeRow) → i < length rows → map row_of (take (i + 1) rows) ≡ map row_of (take i rows) ++ row_of (get_or rows i d) ∷ []
rows_more rows i d lt = ap (map row_of) (take_more rows i d lt) ∙ map-append row_of (take i rows) (get_or rows i d ∷ [])

pub one_more : (rows : List CodeRow) (i : ℕ) (d : CodeRow) (old new : Members) → i < length rows → AreSoFar rows i old
    → PutsRow (row_of (get_or rows i d)) old new → is_unsaid (row_of (get_or rows i d)).1 ≡ false → AreSoFar rows (i + 1) new
one_more rows i d old new lt far puts small =
    let r : Row = row_of (get_or rows i d) in
    let done : List Row = map row_of (take i rows) in
    record {
      made = record {
        at = λ k. puts.at k ∙ ap (λ o. cond (bytes_eq r.0 k) (option_or r.1 o) o) (far.made.at k)
            ∙ ap (λ (f : List ℕ → Option Data). f k) (sym (with_rows-snoc done r (λ _. None)))
            ∙ ap (λ (rs : List Row). with_rows rs (λ _. None) k) (sym (rows_more rows i d lt));
        flat = puts.flat far.made.flat;
      };
      none = ap first_unsaid (rows_more rows i d lt) ∙ first_unsaid-append done (r ∷ []) far.none ∙ rw small refl;
    }

rows_split : (rows : List CodeRow) (i : ℕ) (d : CodeRow) → i < length rows → map row_of rows ≡ map row_of (take i rows) ++ (row_of (get_or rows i d) ∷ map row_of (drop (i + 1) rows))
rows_split rows i d lt =
    ap (map row_of) (sym (take-append-drop i rows) ∙ ap (λ (l : List CodeRow). take i rows ++ l) (drop_more rows i d lt))
    ∙ map-append row_of (take i rows) (get_or rows i d ∷ drop (i + 1) rows)

past_here : (r : Row) (more : List Row) (key : List ℕ) → first_unsaid (r ∷ []) ≡ Some key → first_unsaid (r ∷ more) ≡ Some key
past_here r more key e =
    elim (cases_Bool (is_unsaid r.1)) [
      | inl past ↦ rw past (rw past at e)
      | inr small ↦ absurd (let e2 = rw small at e in cc)
    ]

pub stopped : (rows : List CodeRow) (i : ℕ) (d : CodeRow) (error : Error) → i < length rows → first_unsaid (map row_of (take i rows)) ≡ None
    → IsUnprintable (row_of (get_or rows i d) ∷ []) error → IsUnprintable (map row_of rows) error
stopped rows i d (errors.InvalidArgument text) lt none h =
    (h.0, ap first_unsaid (rows_split rows i d lt) ∙ first_unsaid-append (map row_of (take i rows)) (row_of (get_or rows i d) ∷ map row_of (drop (i + 1) rows)) none ∙ past_here (row_of (get_or rows i d)) (map row_of (drop (i + 1) rows)) h.0 h.1, h.2)
stopped rows i d errors.Memory lt none h = tt
stopped rows i d _ lt none h = absurd h

pub too_far : (key : List ℕ) (n : ℕ) (error : Error) → 2 ^ 63 ≤ n → SaysTooLarge key error → IsUnprintable ((key, Some (integer (pos n))) ∷ []) error
too_far key n (errors.InvalidArgument text) past h = (key, rw (le-leb (2 ^ 63) n past) refl, h)
too_far key n errors.Memory past h = tt
too_far key n _ past h = absurd h

-- The rows of the code are those of the settings.

pub strings : (o : Option (Bor (List ℕ))) → option_map (λ t. string t.now) o ≡ option_map (λ d. string d) (option_map (λ t. t.now) o)
strings None = refl
strings (Some t) = refl

pub sizes : (o : Option ReadableSize) → option_map (λ size. size_data size.0) o ≡ option_map size_data (option_map (λ size. size.0) o)
sizes None = refl
sizes (Some size) = refl

pub these_rows : (s : Settings)
    (dir dir_limit spill spill_limit mode block per_sync version target threshold rewrite memory prefill : Option Data)
    → dir ≡ Some (string s.dir) → dir_limit ≡ option_map size_data s.dir_limit
    → spill ≡ option_map (λ d. string d) s.spill_dir → spill_limit ≡ option_map size_data s.spill_dir_limit
    → mode ≡ Some (string (word_of s.recovery_mode))
    → block ≡ Some (size_data s.recovery_read_block_size) → per_sync ≡ option_map size_data s.bytes_per_sync
    → version ≡ Some (integer (pos (version_number s.format_version))) → target ≡ Some (size_data s.target_file_size)
    → threshold ≡ Some (size_data s.purge_threshold) → rewrite ≡ option_map size_data s.purge_rewrite_threshold
    → memory ≡ option_map size_data s.memory_limit → prefill ≡ option_map size_data s.prefill_limit
    → ((codes "dir", dir) ∷ (codes "dir-limit", dir_limit) ∷ (codes "spill-dir", spill)
    ∷ (codes "spill-dir-limit", spill_limit)
    ∷ (codes "recovery-mode", mode) ∷ (codes "recovery-read-block-size", block)
    ∷ (codes "recovery-threads", Some (integer (pos s.recovery_threads))) ∷ (codes "bytes-per-sync", per_sync)
    ∷ (codes "format-version", version) ∷ (codes "target-file-size", target) ∷ (codes "purge-threshold", threshold)
    ∷ (codes "purge-rewrite-threshold", rewrite)
    ∷ (codes "purge-rewrite-garbage-ratio", Some (integer (pos s.purge_rewrite_garbage_ratio))) ∷ (codes "memory-limit", memory)
    ∷ (codes "enable-log-recycle", Some (boolean s.enable_log_recycle))
    ∷ (codes "prefill-for-recycle", Some (boolean s.prefill_for_recycle)) ∷ (codes "prefill-limit", prefill) ∷ []) ≡ rows_of s
these_rows s dir dir_limit spill spill_limit mode block per_sync version target threshold rewrite memory prefill
    e1 e2 e3 e4 e5 e6 e7 e8 e9 e10 e11 e12 e13 =
    rw (e1, e2, e3, e4, e5, e6, e7, e8, e9, e10, e11, e12, e13) refl

-- a size is a number or a text

pub small_size : (n : ℕ) → n < 2 ^ 63 → integer (pos n) ≡ size_data n
small_size n lt = elim (cases_Bool (nat_le (2 ^ 63) n)) [
  | inl e ↦ absurd (omega (arith, leb-true (2 ^ 63) n e))
  | inr e ↦ rw e refl
]

-- Reading what was put.

size_reads : (key : List ℕ) (n a : ℕ) → n < 2 ^ 64 → at_value key size_of a (Some (size_data n)) ≡ Ok n
size_reads key n a lt =
    elim (cases_Bool (nat_le (2 ^ 63) n)) [
      | inl e ↦ rw e (ap (λ r. ok_or (result_ok r) key) (size_in-size_text n lt))
      | inr e ↦ rw e refl
    ]

maybe_size_reads : (key : List ℕ) (o : Option ℕ) → SizeFits o → at_value key (maybe size_of) None (option_or (option_map size_data o) None) ≡ Ok o
maybe_size_reads key None fits = refl
maybe_size_reads key (Some n) fits =
    elim (cases_Bool (nat_le (2 ^ 63) n)) [
      | inl e ↦ rw e (ap (λ r. ok_or (option_map (λ x. Some x) (result_ok r)) key) (size_in-size_text n fits))
      | inr e ↦ rw e refl
    ]

maybe_text_reads : (key : List ℕ) (o : Option (List ℕ)) → at_value key (maybe as_str) None (option_or (option_map (λ d. string d) o) None) ≡ Ok o
maybe_text_reads key None = refl
maybe_text_reads key (Some t) = refl

version_reads : (key : List ℕ) (a v : Version) → at_value key version_of a (Some (integer (pos (version_number v)))) ≡ Ok v
version_reads key a V1 = refl
version_reads key a V2 = refl

mode_reads : (key : List ℕ) (a m : RecoveryMode) → at_value key mode_of a (Some (string (word_of m))) ≡ Ok m
mode_reads key a AbsoluteConsistency = refl
mode_reads key a TolerateTailCorruption = refl
mode_reads key a TolerateAnyCorruption = refl

module _ (s : Settings) (t : Members) (printed : HasRows (rows_of s) t) (fit : SizesFit s) where
  recovery_reads : recovery_in default_settings t ≡ Ok (s.recovery_mode, s.recovery_read_block_size, s.recovery_threads)
  unfolding recovery_in
  recovery_reads =
      let mode : at (codes "recovery-mode") mode_of TolerateTailCorruption t ≡ Ok s.recovery_mode
      = ap (at_value (codes "recovery-mode") mode_of TolerateTailCorruption) (printed.at (codes "recovery-mode")) ∙ mode_reads (codes "recovery-mode") TolerateTailCorruption s.recovery_mode in
      let block : at (codes "recovery-read-block-size") size_of (16 * 2 ^ 10) t ≡ Ok s.recovery_read_block_size
      = ap (at_value (codes "recovery-read-block-size") size_of (16 * 2 ^ 10)) (printed.at (codes "recovery-read-block-size")) ∙ size_reads (codes "recovery-read-block-size") s.recovery_read_block_size (16 * 2 ^ 10) fit.block in
      let threads : at (codes "recovery-threads") number_of 4 t ≡ Ok s.recovery_threads
      = ap (at_value (codes "recovery-threads") number_of 4) (printed.at (codes "recovery-threads")) in
      rw (mode, block, threads) refl

  files_reads : files_in default_settings t ≡ Ok (s.bytes_per_sync, s.format_version, s.target_file_size)
  unfolding files_in
  files_reads =
      let per_sync : at (codes "bytes-per-sync") (maybe size_of) None t ≡ Ok s.bytes_per_sync
      = ap (at_value (codes "bytes-per-sync") (maybe size_of) None) (printed.at (codes "bytes-per-sync")) ∙ maybe_size_reads (codes "bytes-per-sync") s.bytes_per_sync fit.per_sync in
      let version : at (codes "format-version") version_of V2 t ≡ Ok s.format_version
      = ap (at_value (codes "format-version") version_of V2) (printed.at (codes "format-version")) ∙ version_reads (codes "format-version") V2 s.format_version in
      let target : at (codes "target-file-size") size_of (128 * 2 ^ 20) t ≡ Ok s.target_file_size
      = ap (at_value (codes "target-file-size") size_of (128 * 2 ^ 20)) (printed.at (codes "target-file-size")) ∙ size_reads (codes "target-file-size") s.target_file_size (128 * 2 ^ 20) fit.target in
      rw (per_sync, version, target) refl

  purging_reads : purging_in default_settings t ≡ Ok (s.purge_threshold, s.purge_rewrite_threshold, s.purge_rewrite_garbage_ratio)
  unfolding purging_in
  purging_reads =
      let threshold : at (codes "purge-threshold") size_of (10 * 2 ^ 30) t ≡ Ok s.purge_threshold
      = ap (at_value (codes "purge-threshold") size_of (10 * 2 ^ 30)) (printed.at (codes "purge-threshold")) ∙ size_reads (codes "purge-threshold") s.purge_threshold (10 * 2 ^ 30) fit.threshold in
      let rewrite : at (codes "purge-rewrite-threshold") (maybe size_of) None t ≡ Ok s.purge_rewrite_threshold
      = ap (at_value (codes "purge-rewrite-threshold") (maybe size_of) None) (printed.at (codes "purge-rewrite-threshold")) ∙ maybe_size_reads (codes "purge-rewrite-threshold") s.purge_rewrite_threshold fit.rewrite in
      let ratio : at (codes "purge-rewrite-garbage-ratio") ratio_of 600 t ≡ Ok s.purge_rewrite_garbage_ratio
      = ap (at_value (codes "purge-rewrite-garbage-ratio") ratio_of 600) (printed.at (codes "purge-rewrite-garbage-ratio")) in
      rw (threshold, rewrite, ratio) refl

  recycling_reads : recycling_in default_settings t ≡ Ok (s.enable_log_recycle, s.prefill_for_recycle, s.prefill_limit)
  unfolding recycling_in
  recycling_reads =
      let enable : at (codes "enable-log-recycle") as_bool true t ≡ Ok s.enable_log_recycle
      = ap (at_value (codes "enable-log-recycle") as_bool true) (printed.at (codes "enable-log-recycle")) in
      let prefill : at (codes "prefill-for-recycle") as_bool false t ≡ Ok s.prefill_for_recycle
      = ap (at_value (codes "prefill-for-recycle") as_bool false) (printed.at (codes "prefill-for-recycle")) in
      let limit : at (codes "prefill-limit") (maybe size_of) None t ≡ Ok s.prefill_limit
      = ap (at_value (codes "prefill-limit") (maybe size_of) None) (printed.at (codes "prefill-limit")) ∙ maybe_size_reads (codes "prefill-limit") s.prefill_limit fit.prefill in
      rw (enable, prefill, limit) refl

  directories_read : directories_in default_settings t ≡ Ok (s.dir, s.dir_limit, s.spill_dir, s.spill_dir_limit)
  unfolding directories_in
  directories_read =
      let dir : at (codes "dir") as_str [] t ≡ Ok s.dir
      = ap (at_value (codes "dir") as_str []) (printed.at (codes "dir")) in
      let dir_limit : at (codes "dir-limit") (maybe size_of) None t ≡ Ok s.dir_limit
      = ap (at_value (codes "dir-limit") (maybe size_of) None) (printed.at (codes "dir-limit"))
      ∙ maybe_size_reads (codes "dir-limit") s.dir_limit fit.dir in
      let spill : at (codes "spill-dir") (maybe as_str) None t ≡ Ok s.spill_dir
      = ap (at_value (codes "spill-dir") (maybe as_str) None) (printed.at (codes "spill-dir")) ∙ maybe_text_reads (codes "spill-dir") s.spill_dir in
      let spill_limit : at (codes "spill-dir-limit") (maybe size_of) None t ≡ Ok s.spill_dir_limit
      = ap (at_value (codes "spill-dir-limit") (maybe size_of) None) (printed.at (codes "spill-dir-limit"))
      ∙ maybe_size_reads (codes "spill-dir-limit") s.spill_dir_limit fit.spill in
      rw (dir, dir_limit, spill, spill_limit) refl

  pub printed_reads : settings_in t ≡ Ok s
  printed_reads =
      let memory : at (codes "memory-limit") (maybe size_of) None t ≡ Ok s.memory_limit
      = ap (at_value (codes "memory-limit") (maybe size_of) None) (printed.at (codes "memory-limit")) ∙ maybe_size_reads (codes "memory-limit") s.memory_limit fit.memory in
      all_read default_settings t _ _ _ _ s.memory_limit _ directories_read recovery_reads files_reads purging_reads memory
      recycling_reads
