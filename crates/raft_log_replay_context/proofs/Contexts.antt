-- What a context has read.
use Rattle.std.proofs.Common.{◌≡◌, ℕ, ◌≤◌, ◌==◌, Bool, true, false, List, [], ◌∷◌, ◌++◌, map, Option, Some, None, unwrap_or, refl, sym, ap, ap₂, subst, ◌∙◌, append_assoc, append-nil}
use Rattle.raft_log_record_base.specs.declared.errors.Error.{Error}
use Rattle.raft_log_record_base.specs.declared.pipe_log.FileId.{FileId}
use Rattle.raft_log_record_base.specs.declared.pipe_log.LogQueue.{LogQueue}
use Rattle.raft_log_record_base.specs.declared.pipe_log.LogQueue.TheVariants.{Append, Rewrite}
use Rattle.raft_log_record_items.specs.declared.item.LogItem.{LogItem}
use Rattle.raft_log_model_laws.specs.Item.{Record, Mark, items_of}
use Rattle.raft_log_model_laws.specs.Item.Record.{Plain, Part}
use Rattle.raft_log_model_laws.specs.Item.Mark.{End}
use Rattle.raft_log_model_laws.specs.Groups.{appended, contents, counts, none_open, of_group, onto, opened, rewritten, settle, Open}
use Rattle.raft_log_model_laws.specs.Meaning.{says}
use Rattle.raft_log_model_laws.specs.Tidy.{Tidy}
use Rattle.raft_log_model_laws.proofs.Public.{at_option, cut_anywhere, eq_true, head_append, if_true, tidy_back, tidy_front}
use Rattle.raft_log_machine_laws.specs.Machine.{AllFit, RecordsFit}
use Rattle.raft_log_machine_laws.proofs.Public.{no_word, RecordsFit-append}
use Rattle.std.specs.Global.{Vec}
use Rattle.raft_log_memtable_index.specs.declared.group_files.GroupFiles.{GroupFiles}
use Rattle.raft_log_memtable_index.specs.Noted.{start_of}
use Rattle.raft_log_model_laws.specs.Fragments.{completed, head, next_unfinished, unfinished, unfinished_after, Unfinished}
use Rattle.raft_log_model_laws.specs.Fragments.Head.{Ends, GoesOn}
use Rattle.raft_log_record_frames.specs.Meaning.{tagged_items}
use Rattle.raft_log_extents.specs.Entries.{place_of}
use Rattle.raft_log_memtable_index.specs.Shown.{whereabouts, KeyValue}
use Rattle.raft_log_memtable_index.specs.Bridge.{Located}
use Rattle.raft_log_memtable.specs.Replays.{in_append}
use Rattle.raft_log_memtables.specs.declared.mem_tables.MemTables.{MemTables}
use Rattle.raft_log_memtables.specs.Tables.{counts as counting_of, replayed_of, shown_of, IsAtRest}
use Rattle.raft_log_memtables.specs.Replaying.{ReadsAll}
use Rattle.raft_log_memtables.specs.Joining.{JoinsAll, MergesAll}
use Rattle.raft_log_memtables.proofs.Public.{table_is}
use Rattle.raft_log_memtable_index.specs.Replayed.{merged, told, IsReplayed}
use Rattle.raft_log_memtable_index.specs.Bridge.{IsMeant}
use Rattle.raft_log_memtable_index.proofs.Public.{means, recovers}
use Rattle.raft_log_machine_laws.specs.Recovery.{IsRecovered}
use Rattle.raft_log_replay_context.specs.declared.context.MemTableRecoverContext.{MemTableRecoverContext}
use Rattle.raft_log_replay_context.specs.Batches.{MergeDeclined, ReplayDeclined}
use Rattle.raft_log_replay_context.specs.declared.part.GroupPart.{GroupPart}
use Rattle.raft_log_replay_context.specs.declared.pieces.GroupPieces.{GroupPieces}
use Rattle.raft_log_replay_context.specs.Records.{counted, in_file, records_of, said_in, AreHealthy, AreReplayed, ReadItem, ReadRecord, TablesTake}
use Rattle.raft_log_replay_context.specs.Pieces.{as_file, as_said, groups_items, part_items, part_read, part_seen, parts_items, seen_as, seen_by, whole_seen, ArePieces, EndsGroup, EndsGroupWhole, IsBorder, IsCompleted, JoinsPieces, Reading, TakesRecord}
use Rattle.raft_log_replay_context.specs.Noting.{file_in, files_of, AllReadTo, AreNotedRead, AreWhereRead, CountsFrom, IsNotedTo, SettlesAll, SettlesWhole}
use Rattle.raft_log_replay_context.proofs.Begins.{all_seen, begins, lie_back, lie_front, upto_back, upto_front}
use Rattle.raft_log_replay_context.proofs.CarryOn.{all_turned}
use Rattle.raft_log_replay_context.proofs.Counting.{counts_left, counts_right}
use Rattle.raft_log_replay_context.proofs.Notes.{all_cover, all_take, completed_group, group_covers, group_takes, join_covers, plain_covers, Cover, CountsWhole}
use Rattle.raft_log_replay_context.specs.Context.{is_plain, tables_of, ArePlain, ComesOver, HasRead, IsSoundFor, MergesInto, ContextReadsOne, meant_by}
use Rattle.raft_log_replay_context.proofs.Fragments.{then_nothing}
use Rattle.raft_log_replay_context.proofs.GroupsCount.{all_count, counting_joined, counting_more, counting_over, counts_none, counts_read, whole_count, CountsItems}
use Rattle.raft_log_replay_context.proofs.NotedTo.{both_none, both_to, completed_to, no_files_to, of_group_read, of_groups_read, of_joins, of_merged, of_reads}
use Rattle.raft_log_replay_context.proofs.OpenGroups.{pieces_more, records_append, seen_said}
use Rattle.raft_log_replay_context.proofs.Taking.{counted_more, healthy_back, healthy_front, tables_joined, tables_more, read_fit, takes_none, takes_read}

-- Plain records.
pub plain_append : (xs ys : List ReadRecord) → ArePlain xs → ArePlain ys → ArePlain (xs ++ ys)
plain_append [] ys h k = k
plain_append (x ∷ xs) ys h k = (h.0, plain_append xs ys h.1 k)

next_plain : (us : List (Unfinished Located KeyValue)) (r : Record Located KeyValue) → is_plain r ≡ true → next_unfinished us r ≡ us
next_plain us (Plain xs) h = refl
next_plain us (Part m xs) h = let clash : false ≡ true = h in let never : ⊥ = cc in absurd never

plain_after : (us : List (Unfinished Located KeyValue)) (rs : List ReadRecord) → ArePlain rs → unfinished_after us (records_of rs) ≡ us
plain_after us [] h = refl
plain_after us (r ∷ rs) h = ap (λ vs. unfinished_after vs (records_of rs)) (next_plain us r.taken h.0) ∙ plain_after us rs h.1

pub plain_unfinished : (rs : List ReadRecord) → ArePlain rs → unfinished (records_of rs) ≡ []
plain_unfinished rs h = plain_after [] rs h

head_passes : (n : ℕ) (xs : List ReadItem) (r : Record Located KeyValue) (rs : List (Record Located KeyValue)) → is_plain r ≡ true → head n xs (r ∷ rs) ≡ head n xs rs
head_passes n xs (Plain ys) rs h = refl
head_passes n xs (Part m ys) rs h = let clash : false ≡ true = h in let never : ⊥ = cc in absurd never

plain_head : (n : ℕ) (rs : List ReadRecord) → ArePlain rs → head n [] (records_of rs) ≡ GoesOn []
plain_head n [] h = refl
plain_head n (r ∷ rs) h = head_passes n [] r.taken (records_of rs) h.0 ∙ plain_head n rs h.1

-- the same of whatever is made of their items
abbrev seen_read : Reading → List ReadRecord → List ReadRecord
seen_read φ [] = []
seen_read φ (r ∷ rs) = in_file r.file (seen_as φ r.file r.taken) ∷ seen_read φ rs

records_seen : (φ : Reading) (rs : List ReadRecord) → records_of (seen_read φ rs) ≡ seen_by φ rs
records_seen φ [] = refl
records_seen φ (r ∷ rs) = ap (λ l. seen_as φ r.file r.taken ∷ l) (records_seen φ rs)

plain_seen : (φ : Reading) (rs : List ReadRecord) → ArePlain rs → ArePlain (seen_read φ rs)
plain_seen φ [] h = tt
plain_seen φ (r ∷ rs) h = (one r.taken h.0, plain_seen φ rs h.1)
  where
    one : (x : Record Located KeyValue) → is_plain x ≡ true → is_plain (seen_as φ r.file x) ≡ true
    one (Plain xs) e = refl
    one (Part m xs) e = e

seen_unfinished : (φ : Reading) (rs : List ReadRecord) → ArePlain rs → unfinished (seen_by φ rs) ≡ []
seen_unfinished φ rs h = ap unfinished (sym (records_seen φ rs)) ∙ plain_unfinished (seen_read φ rs) (plain_seen φ rs h)

seen_head : (φ : Reading) (n : ℕ) (rs : List ReadRecord) → ArePlain rs → head n [] (seen_by φ rs) ≡ GoesOn []
seen_head φ n rs h = ap (head n []) (sym (records_seen φ rs)) ∙ plain_head n (seen_read φ rs) (plain_seen φ rs h)

settle_passes : (o : Open Located KeyValue) (r : Record Located KeyValue) (rs : List (Record Located KeyValue)) → is_plain r ≡ true
    → settle o (r ∷ rs) ≡ items_of r ++ settle o rs
settle_passes o (Plain xs) rs h = refl
settle_passes o (Part m xs) rs h = let clash : false ≡ true = h in let never : ⊥ = cc in absurd never

plain_settled : (rs : List ReadRecord) → ArePlain rs → settle none_open (records_of rs) ≡ contents (records_of rs)
plain_settled [] h = refl
plain_settled (r ∷ rs) h = settle_passes none_open r.taken (records_of rs) h.0 ∙ ap (λ l. items_of r.taken ++ l) (plain_settled rs h.1)

pub plain_counted : (g : ℕ) (rs : List ReadRecord) → ArePlain rs → counted g rs ≡ appended g (records_of rs)
plain_counted g rs h = ap (of_group g) (plain_settled rs h)

-- One more record.
pieces_plain : (rs : List ReadRecord) (n : ℕ) (xs : List ReadItem) (p : GroupPieces) → ArePieces rs p → ArePieces (rs ++ in_file n (Plain xs) ∷ []) p
pieces_plain rs n xs p h =
    pieces_more rs (in_file n (Plain xs)) p
    (λ φ k. h.heads φ k ∙ sym (head_append k [] (seen_by φ rs) (Plain (φ n xs) ∷ []) ∙ then_nothing (head k [] (seen_by φ rs)))) h.left_open

never_append : {P : Type 0} → false ≡ true → P
never_append h = let never : ⊥ = cc in absurd never

never_rewrite : {P : Type 0} → true ≡ false → P
never_rewrite h = let never : ⊥ = cc in absurd never

-- what counts with one more record
more_covers : (rs : List ReadRecord) (r : ReadRecord) (xs : List ReadItem) (g : ℕ) (noted : Option GroupFiles) → counts (opened none_open (records_of rs)) r.taken ≡ xs
    → Cover (rs ++ r ∷ []) g (counted g rs ++ of_group g xs) noted → Cover (rs ++ r ∷ []) g (counted g (rs ++ r ∷ [])) noted
more_covers rs r xs g noted is h =
    subst (λ l. Cover (rs ++ r ∷ []) g l noted) (sym (counted_more g rs r ∙ ap (λ l. counted g rs ++ of_group g l) is)) h

-- what was known before the record
module _ (rs : List ReadRecord) (r : ReadRecord) (xs : List ReadItem) (is : counts (opened none_open (records_of rs)) r.taken ≡ xs)
    (tidy : Tidy (records_of (rs ++ r ∷ []))) (g : ℕ) (healthy : AreHealthy (counted g (rs ++ r ∷ []))) where
  front_tidy : Tidy (records_of rs)
  front_tidy = tidy_front (records_of rs) (r.taken ∷ []) (subst Tidy (records_append rs (r ∷ [])) tidy)

  whole_healthy : AreHealthy (counted g rs ++ of_group g xs)
  whole_healthy = subst AreHealthy (counted_more g rs r ∙ ap (λ l. counted g rs ++ of_group g l) is) healthy

  front_healthy : AreHealthy (counted g rs)
  front_healthy = healthy_front (counted g rs) (of_group g xs) whole_healthy

-- each run of the records fits, in Append
fit_append : (xs ys : List ReadRecord) → RecordsFit (records_of xs) → RecordsFit (records_of ys) → RecordsFit (records_of (xs ++ ys))
fit_append xs ys h k = subst RecordsFit (sym (records_append xs ys)) (RecordsFit-append (records_of xs) (records_of ys) h k)

fit_plain : (b : Bool) → b ≡ true → (n : ℕ) (old new : MemTables) (items : List LogItem) → ReadsAll b n old new (tagged_items place_of items) → AllFit (said_in b n items)
fit_plain true q n old new items reads = read_fit n old new (tagged_items place_of items) reads
fit_plain false q n old new items reads = never_append q

notes_plain : (b : Bool) → b ≡ false → (rs : List ReadRecord) (n : ℕ) (old new : MemTables) (items : List LogItem) → ReadsAll b n old new (tagged_items place_of items)
    → AreNotedRead rs (replayed_of old) → AreNotedRead (rs ++ in_file n (Plain (said_in b n items)) ∷ []) (replayed_of new)
notes_plain true q rs n old new items reads h = never_rewrite q
notes_plain false q rs n old new items reads h = λ lie tidy g healthy.
    let xs = said_in false n items in
    let r = in_file n (Plain xs) in
    more_covers rs r xs g (replayed_of new g).table.noted refl
    (plain_covers rs g n old new items reads (lie_back rs (r ∷ []) lie).0
    (h (lie_front rs (r ∷ []) lie) (front_tidy rs r xs refl tidy g healthy) g (front_healthy rs r xs refl tidy g healthy)))

pub reads_plain : (queue : LogQueue) (n : ℕ) (old new : MemTableRecoverContext) (items : List LogItem)
    → ReadsAll (in_append queue) n (tables_of old) (tables_of new) (tagged_items place_of items) → new.pieces ≡ old.pieces
    → ContextReadsOne queue (Some (in_file n (Plain (said_in (in_append queue) n items)))) old new
reads_plain queue n old new items reads same = λ rs h.
    let r = in_file n (Plain (said_in (in_append queue) n items)) in
    record {
      plain = λ q. plain_append rs (r ∷ []) (h.plain q) (refl, tt);
      fit = λ q. fit_append rs (r ∷ []) (h.fit q) (fit_plain (in_append queue) q n old.tables new.tables items reads, tt);
      tables = tables_more (in_append queue) rs r (replayed_of old.tables) (replayed_of new.tables) h.tables (takes_read (in_append queue) n old.tables new.tables items reads);
      counting = counting_more rs r (counting_of old.tables) (counting_of new.tables) h.counting (counts_read (in_append queue) n old.tables new.tables items reads);
      notes = λ q. notes_plain (in_append queue) q rs n old.tables new.tables items reads (h.notes q);
      ends = λ q m upto g. of_reads (IsNotedTo m) tt (both_to m) (in_append queue) n old.tables new.tables (tagged_items place_of items) reads g (h.ends q m (upto_front m rs (r ∷ []) upto) g);
      none = λ q g. of_reads (λ o. o ≡ None) refl both_none (in_append queue) n old.tables new.tables (tagged_items place_of items) reads g (h.none q g);
      pieces = subst (ArePieces (rs ++ r ∷ [])) (sym same) (pieces_plain rs n (said_in (in_append queue) n items) old.pieces h.pieces);
    }

-- a record with which nothing counts
notes_quiet : (rs : List ReadRecord) (r : ReadRecord) (old new : MemTables) → counts (opened none_open (records_of rs)) r.taken ≡ [] → new ≡ old
    → AreNotedRead rs (replayed_of old) → AreNotedRead (rs ++ r ∷ []) (replayed_of new)
notes_quiet rs r old new quiet same h = λ lie tidy g healthy.
    more_covers rs r [] g (replayed_of new g).table.noted quiet
    (λ s c stands. counts_right rs (r ∷ []) g (start_of (file_in c) (replayed_of new g).table.noted) s
    (subst (λ m. CountsFrom rs g (start_of (file_in c) (replayed_of m g).table.noted) s) (sym same)
    (h (lie_front rs (r ∷ []) lie) (front_tidy rs r [] quiet tidy g healthy) g (front_healthy rs r [] quiet tidy g healthy) s c
    (ap (says s) (sym (append-nil (counted g rs))) ∙ stands))))

pub reads_quiet : (m : Mark) (part : GroupPart) (old new : MemTableRecoverContext) → ((o : Open Located KeyValue) → counts o (Part m (part_items part)) ≡ [])
    → TakesRecord (part_read m part) old.pieces new.pieces → new.tables ≡ old.tables → ContextReadsOne Rewrite (Some (part_read m part)) old new
reads_quiet m part old new quiet takes same = λ rs h. record {
  plain = λ q. never_append q;
  fit = λ q. never_append q;
  tables = tables_more false rs (part_read m part) (replayed_of old.tables) (replayed_of new.tables) h.tables
      (subst (λ l. TablesTake false l (replayed_of old.tables) (replayed_of new.tables)) (sym (quiet (opened none_open (records_of rs))))
      (subst (λ t. TablesTake false [] (replayed_of old.tables) (replayed_of t)) (sym same) (takes_none false (replayed_of old.tables))));
  counting = counting_more rs (part_read m part) (counting_of old.tables) (counting_of new.tables) h.counting
      (subst (λ l. CountsItems l (counting_of old.tables) (counting_of new.tables)) (sym (quiet (opened none_open (records_of rs)))) (counts_none old.tables new.tables same));
  notes = λ q. notes_quiet rs (part_read m part) old.tables new.tables (quiet (opened none_open (records_of rs))) same (h.notes q);
  ends = λ q n upto g. subst (λ t. IsNotedTo n (replayed_of t g).table.noted) (sym same) (h.ends q n (upto_front n rs (part_read m part ∷ []) upto) g);
  none = λ q. never_append q;
  pieces = takes rs h.pieces;
}

-- what counts with the end of a group
ended_items : (rs : List ReadRecord) (n : ℕ) (part : GroupPart) (whole : Option (Vec GroupPart)) → EndsGroupWhole rs n part whole
    → counts (opened none_open (records_of rs)) (Part (End n) (part_items part)) ≡ whole_seen as_said whole
ended_items rs n part whole ends = ap (λ l. counts (opened none_open l) (Part (End n) (part_items part))) (sym (seen_said rs)) ∙ sym (ends as_said)

-- a group that ends is complete with the record that ends it
ends_complete : (rs : List ReadRecord) (n : ℕ) (part : GroupPart) (ps : Vec GroupPart) → EndsGroupWhole rs n part (Some ps) → (z : List ReadItem)
    → opened none_open (seen_by as_said rs) n ≡ Some z → IsCompleted rs (part_read (End n) part ∷ []) ps.items
ends_complete rs n part ps ends z is_open = (
  n,
  λ φ.
      let b = begins n rs as_said z is_open in
      let so_far = all_seen φ (b.first ∷ b.more) in
      let here = b.opened_is φ none_open in
      record {
        so_far = so_far;
        behind = part_seen φ part;
        begun = here;
        ends = if_true (n == n) (Ends (part_seen φ part)) (GoesOn []) (eq_true n n refl);
        parts = ends φ ∙ ap (λ o. unwrap_or (onto o (part_seen φ part)) []) here;
      },
)

whole_counts : (rs : List ReadRecord) (n : ℕ) (part : GroupPart) (ps : Vec GroupPart) → EndsGroupWhole rs n part (Some ps) → AreWhereRead (rs ++ part_read (End n) part ∷ [])
    → (g : ℕ) → CountsWhole (rs ++ part_read (End n) part ∷ []) g ps.items
whole_counts rs n part ps ends lie g files is s c now =
    at_option (opened none_open (seen_by as_said rs) n)
    (λ _. (file_in c ≤ files.to) × CountsFrom (rs ++ part_read (End n) part ∷ []) g files.from s)
    (λ none. no_word (Some c)
    (sym (ap (λ l. says s (of_group g l)) (ends as_said ∙ ap (λ o. unwrap_or (onto o (part_seen as_said part)) []) none)) ∙ now))
    (λ z is_open. completed_group rs (part_read (End n) part ∷ []) ps.items (ends_complete rs n part ps ends z is_open) lie g files is s c now)

notes_end : (rs : List ReadRecord) (n : ℕ) (part : GroupPart) (whole : Option (Vec GroupPart)) (old new : MemTables) → EndsGroupWhole rs n part whole
    → SettlesWhole whole old new → AreReplayed false (rs ++ part_read (End n) part ∷ []) (replayed_of new)
    → AreNotedRead rs (replayed_of old) → AreNotedRead (rs ++ part_read (End n) part ∷ []) (replayed_of new)
notes_end rs n part None old new ends settles read h = notes_quiet rs (part_read (End n) part) old new (ended_items rs n part None ends) settles h
notes_end rs n part (Some ps) old new ends settles read h = λ lie tidy g healthy.
    let r = part_read (End n) part in
    let is = ended_items rs n part (Some ps) ends in
    more_covers rs r (parts_items ps.items) g (replayed_of new g).table.noted is
    (group_covers (rs ++ r ∷ []) g (counted g rs) ps.items old new settles
    (subst (λ l. IsReplayed false l (replayed_of new g)) (counted_more g rs r ∙ ap (λ l. counted g rs ++ of_group g l) is) (read tidy g healthy))
    (whole_counts rs n part ps ends lie g)
    (λ s c stands. counts_right rs (r ∷ []) g (start_of (file_in c) (replayed_of old g).table.noted) s
    (h (lie_front rs (r ∷ []) lie) (front_tidy rs r (parts_items ps.items) is tidy g healthy) g (front_healthy rs r (parts_items ps.items) is tidy g healthy) s c stands)))

-- its files were read
whole_upto : (rs : List ReadRecord) (n : ℕ) (part : GroupPart) (ps : Vec GroupPart) → EndsGroupWhole rs n part (Some ps) → (m : ℕ) → AllReadTo m (rs ++ part_read (End n) part ∷ []) → IsNotedTo m (files_of ps.items)
whole_upto rs n part ps ends m upto =
    at_option (opened none_open (seen_by as_file rs) n) (λ o. opened none_open (seen_by as_file rs) n ≡ o → IsNotedTo m (files_of ps.items))
    (λ _ none. no_files_to m ps.items (ends as_file ∙ ap (λ o. unwrap_or (onto o (part_seen as_file part)) []) none))
    (λ z _ is_open.
    let b = begins n rs as_file z is_open in
    completed_to rs (part_read (End n) part ∷ []) ps.items (ends_complete rs n part ps ends (all_seen as_said (b.first ∷ b.more)) (b.opened_is as_said none_open)) m upto) refl

ends_whole : (rs : List ReadRecord) (n : ℕ) (part : GroupPart) (whole : Option (Vec GroupPart)) (old new : MemTables) → EndsGroupWhole rs n part whole → SettlesWhole whole old new
    → (m : ℕ) → AllReadTo m (rs ++ part_read (End n) part ∷ []) → (g : ℕ) → IsNotedTo m (replayed_of old g).table.noted → IsNotedTo m (replayed_of new g).table.noted
ends_whole rs n part None old new ends same m upto g h = subst (λ t. IsNotedTo m (replayed_of t g).table.noted) (sym same) h
ends_whole rs n part (Some ps) old new ends settles m upto g h = of_group_read (IsNotedTo m) tt (both_to m) ps.items old new settles (whole_upto rs n part ps ends m upto) g h

whole_takes : (whole : Option (Vec GroupPart)) (old new : MemTables) → SettlesWhole whole old new → TablesTake false (whole_seen as_said whole) (replayed_of old) (replayed_of new)
whole_takes None old new same = subst (λ m. TablesTake false [] (replayed_of old) (replayed_of m)) (sym same) (takes_none false (replayed_of old))
whole_takes (Some ps) old new settles = group_takes ps.items old new settles

pub reads_end : (n : ℕ) (part : GroupPart) (whole : Option (Vec GroupPart)) (old new : MemTableRecoverContext) → EndsGroup n part old.pieces new.pieces whole
    → SettlesWhole whole old.tables new.tables → ContextReadsOne Rewrite (Some (part_read (End n) part)) old new
reads_end n part whole old new ends settles = λ rs h.
    let told = ends rs h.pieces in
    let tables = tables_more false rs (part_read (End n) part) (replayed_of old.tables) (replayed_of new.tables) h.tables
    (subst (λ l. TablesTake false l (replayed_of old.tables) (replayed_of new.tables)) (sym (ended_items rs n part whole told.1)) (whole_takes whole old.tables new.tables settles)) in
    record {
      plain = λ q. never_append q;
      fit = λ q. never_append q;
      tables = tables;
      counting = counting_more rs (part_read (End n) part) (counting_of old.tables) (counting_of new.tables) h.counting
          (subst (λ l. CountsItems l (counting_of old.tables) (counting_of new.tables)) (sym (ended_items rs n part whole told.1)) (whole_count whole old.tables new.tables settles));
      notes = λ q. notes_end rs n part whole old.tables new.tables told.1 settles tables (h.notes q);
      ends = λ q m upto g. ends_whole rs n part whole old.tables new.tables told.1 settles m upto g (h.ends q m (upto_front m rs (part_read (End n) part ∷ []) upto) g);
      none = λ q. never_append q;
      pieces = told.0;
    }

-- Two segments.
pub border_items : (xs ys : List ReadRecord) (done : List (Vec GroupPart)) → IsBorder xs ys done
    → groups_items done ≡ completed (unfinished (records_of xs)) (λ n. head n [] (records_of ys))
border_items xs ys done border =
    border.items as_said ∙ ap₂ (λ a b. completed (unfinished a) (λ n. head n [] b)) (seen_said xs) (seen_said ys)

notes_joined : (xs ys : List ReadRecord) (done : List (Vec GroupPart)) (old between later new : MemTables) → IsBorder xs ys done → SettlesAll done old between
    → JoinsAll between later new → AreReplayed false xs (replayed_of old) → AreReplayed false ys (replayed_of later)
    → AreNotedRead xs (replayed_of old) → AreNotedRead ys (replayed_of later) → AreNotedRead (xs ++ ys) (replayed_of new)
notes_joined xs ys done old between later new border settles merges read behind noted noted_behind = λ lie tidy g healthy.
    let rs = records_of xs in
    let qs = records_of ys in
    let all = xs ++ ys in
    let both = subst Tidy (records_append xs ys) tidy in
    let brought = of_group g (groups_items done) in
    let cut = ap (rewritten g) (records_append xs ys) ∙ cut_anywhere g rs qs both ∙ ap (λ l. counted g xs ++ (of_group g l ++ counted g ys)) (sym (border_items xs ys done border)) in
    let parted = cut ∙ sym (append_assoc (counted g xs) brought (counted g ys)) in
    let whole = subst AreHealthy parted healthy in
    let front = healthy_front (counted g xs ++ brought) (counted g ys) whole in
    let first = healthy_front (counted g xs) brought front in
    let last = healthy_back (counted g xs ++ brought) (counted g ys) whole in
    let front_read = read (tidy_front rs qs both) g first in
    subst (λ l. Cover all g l (replayed_of new g).table.noted) (sym parted)
    (join_covers all ys g (counted g xs ++ brought) between later new merges (behind (tidy_back rs qs both) g last) (λ n s. counts_left xs ys g n s)
    (all_cover all g (counted g xs) done old between settles front front_read
    (all_turned (IsCompleted xs ys) (CountsWhole all g) done (λ ps is. completed_group xs ys ps is lie g) border.groups)
    (λ s c stands. counts_right xs ys g (start_of (file_in c) (replayed_of old g).table.noted) s
    (noted (lie_front xs ys lie) (tidy_front rs qs both) g first s c stands)))
    (noted_behind (lie_back xs ys lie) (tidy_back rs qs both) g last))

pub merges_rewrite : (done : List (Vec GroupPart)) (between : MemTables) (old later new : MemTableRecoverContext) → JoinsPieces old.pieces later.pieces new.pieces done
    → SettlesAll done old.tables between → JoinsAll between later.tables new.tables → MergesInto Rewrite old later new
merges_rewrite done between old later new joins settles merges = λ xs ys h k.
    let told = joins xs ys h.pieces k.pieces in
    record {
      plain = λ q. never_append q;
      fit = λ q. never_append q;
      tables = tables_joined false xs ys (replayed_of old.tables) between later.tables new.tables h.tables k.tables
          (subst (λ l. TablesTake false l (replayed_of old.tables) (replayed_of between)) (border_items xs ys done told.1) (all_take done old.tables between settles)) merges;
      counting = counting_joined false xs ys (counting_of old.tables) between later.tables new.tables h.counting k.counting k.tables
          (subst (λ l. CountsItems l (counting_of old.tables) (counting_of between)) (border_items xs ys done told.1) (all_count done old.tables between settles)) merges;
      notes = λ q. notes_joined xs ys done old.tables between later.tables new.tables told.1 settles merges h.tables k.tables (h.notes q) (k.notes q);
      ends = λ q n upto g.
          of_joins (IsNotedTo n) tt (both_to n) between later.tables new.tables merges g
          (of_groups_read (IsNotedTo n) tt (both_to n) done old.tables between settles
          (all_turned (IsCompleted xs ys) (λ ps. IsNotedTo n (files_of ps)) done (λ ps is. completed_to xs ys ps is n upto) told.1.groups) g (h.ends q n (upto_front n xs ys upto) g))
          (k.ends q n (upto_back n xs ys upto) g);
      none = λ q. never_append q;
      pieces = told.0;
    }

plain_pieces : (xs ys : List ReadRecord) (p : GroupPieces) → ArePlain xs → ArePlain ys → ArePieces xs p → ArePieces (xs ++ ys) p
plain_pieces xs ys p h k pieces =
    let both = plain_append xs ys h k in
    record {
      heads = λ φ n. pieces.heads φ n ∙ seen_head φ n xs h ∙ sym (seen_head φ n (xs ++ ys) both);
      left_open = λ φ. pieces.left_open φ ∙ seen_unfinished φ xs h ∙ sym (seen_unfinished φ (xs ++ ys) both);
    }

pub merges_append : (old later new : MemTableRecoverContext) → new.pieces ≡ old.pieces → JoinsAll old.tables later.tables new.tables → MergesInto Append old later new
merges_append old later new same merges = λ xs ys h k.
    record {
      plain = λ q. plain_append xs ys (h.plain q) (k.plain q);
      fit = λ q. fit_append xs ys (h.fit q) (k.fit q);
      tables = tables_joined true xs ys (replayed_of old.tables) old.tables later.tables new.tables h.tables k.tables
          (subst (λ us. TablesTake true (completed us (λ n. head n [] (records_of ys))) (replayed_of old.tables) (replayed_of old.tables)) (sym (plain_unfinished xs (h.plain refl)))
          (takes_none true (replayed_of old.tables))) merges;
      counting = counting_joined true xs ys (counting_of old.tables) old.tables later.tables new.tables h.counting k.counting k.tables
          (subst (λ us. CountsItems (completed us (λ n. head n [] (records_of ys))) (counting_of old.tables) (counting_of old.tables)) (sym (plain_unfinished xs (h.plain refl)))
          (counts_none old.tables old.tables refl)) merges;
      notes = λ q. never_rewrite q;
      ends = λ q. never_rewrite q;
      none = λ q g. of_joins (λ o. o ≡ None) refl both_none old.tables later.tables new.tables merges g (h.none q g) (k.none q g);
      pieces = subst (ArePieces (xs ++ ys)) (sym same) (plain_pieces xs ys old.pieces (h.plain refl) (k.plain refl) h.pieces);
    }

-- Append over Rewrite.
pub comes_over : (old append : MemTableRecoverContext) (new : MemTables) → MergesAll old.tables append.tables new
    → (rewrite behind : List ReadRecord) → HasRead Rewrite rewrite old → HasRead Append behind append → ComesOver rewrite behind new
comes_over old append new merges rewrite behind h k = λ tidy neat g whole sound. record {
  rewritten = replayed_of old.tables g;
  appended = replayed_of append.tables g;
  of_rewrite = h.tables tidy g whole;
  of_append = k.tables neat g sound;
  noted = λ lie. h.notes refl lie tidy g whole;
  ends = λ n upto.
      subst (λ v. IsNotedTo n v.noted) (sym ((merges g).shows ∙ ap (λ v. merged v (replayed_of append.tables g)) (sym (table_is old.tables g))))
      (of_merged (IsNotedTo n) tt (both_to n) (replayed_of old.tables g).table (replayed_of append.tables g) (h.ends refl n upto g) (subst (IsNotedTo n) (sym (k.none refl g)) tt));
  shows = (merges g).shows ∙ ap (λ v. merged v (replayed_of append.tables g)) (sym (table_is old.tables g));
  counting = counting_over rewrite behind old.tables append.tables new merges h.counting k.counting k.tables tidy neat g whole sound;
}

-- the directory's tables
module _ {E : Type 0} (at : Located → E) (rewrite append : List ReadRecord) (m : MemTables) (over : ComesOver rewrite append m) (g : ℕ) (sound : IsSoundFor at rewrite append g) where
  pub over_means : IsMeant at (shown_of m g) (meant_by at rewrite append g)
  over_means =
      let told_all = over sound.tidy sound.tidy_append g sound.of_rewrite sound.of_append in
      subst (λ v. IsMeant at v (meant_by at rewrite append g)) (sym told_all.shows)
      (means at (counted g rewrite) (counted g append) told_all.rewritten told_all.appended told_all.of_rewrite told_all.of_append sound.solid)

  pub over_recovers : IsRecovered (meant_by at rewrite append g) (map (told at) (counted g append)) (whereabouts (shown_of m g))
  over_recovers =
      let told_all = over sound.tidy sound.tidy_append g sound.of_rewrite sound.of_append in
      subst (λ v. IsRecovered (meant_by at rewrite append g) (map (told at) (counted g append)) (whereabouts v)) (sym told_all.shows)
      (recovers at (counted g rewrite) (counted g append) told_all.rewritten told_all.appended told_all.of_rewrite told_all.of_append sound.solid)

-- what was read isn't changed by what is counted
read_as_counted : (queue : LogQueue) (rs : List ReadRecord) (c : MemTableRecoverContext) (n : ℕ) (rests : IsAtRest c.tables) → HasRead queue rs c
    → HasRead queue rs (record c { written = n; rests = rests })
read_as_counted queue rs c n rests h = record { plain = h.plain; fit = h.fit; tables = h.tables; counting = h.counting; notes = h.notes; ends = h.ends; none = h.none; pieces = h.pieces }

pub replay_declined_counted : (file : FileId) (items : List LogItem) (c : MemTableRecoverContext) (n : ℕ) (rests : IsAtRest c.tables) (e : Error)
    → ReplayDeclined file items (record c { written = n; rests = rests }) e → ReplayDeclined file items c e
replay_declined_counted file items c n rests e h rs read = h rs (read_as_counted file.queue rs c n rests read)

pub merge_declined_counted : (queue : LogQueue) (c later : MemTableRecoverContext) (n : ℕ) (rests : IsAtRest c.tables) (e : Error)
    → MergeDeclined queue (record c { written = n; rests = rests }) later e → MergeDeclined queue c later e
merge_declined_counted queue c later n rests e h xs ys read = h xs ys (read_as_counted queue xs c n rests read)
