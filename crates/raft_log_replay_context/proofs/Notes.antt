-- The files that tables note while records are read, and that each slot counts from its own on.
use Rattle.std.proofs.Common.{◌≡◌, ℕ, ◌≤◌, ◌||◌, Bool, true, false, if◌then◌else◌, List, [], ◌∷◌, ◌++◌, map, Option, Some, None, unwrap_or, refl, sym, ap, ap₂, subst, ◌∙◌, inl, inr, append_assoc, append-nil, arith}
use Rattle.std.specs.Option.{option_or}
use Rattle.std.specs.Global.{Vec}
use Rattle.raft_log_record_items.specs.declared.item.LogItem.{LogItem}
use Rattle.raft_log_model_laws.specs.Item.{Item}
use Rattle.raft_log_model_laws.specs.Item.Item.{Run, Clean, Compact, Put, Del}
use Rattle.raft_log_model_laws.specs.Item.Record.{Plain}
use Rattle.raft_log_model_laws.specs.Meaning.{says, write, Content, Slot}
use Rattle.raft_log_model_laws.specs.Meaning.Slot.{Index, Key}
use Rattle.raft_log_model_laws.specs.Groups.{none_open, of_group, opened}
use Rattle.raft_log_model_laws.specs.Fragments.{head}
use Rattle.raft_log_model_laws.specs.Holes.{is_past}
use Rattle.raft_log_model_laws.proofs.Public.{at_bool, nothing_stands, of_group_append, says_append, table_holds}
use Rattle.raft_log_model_laws.specs.Table.{content}
use Rattle.raft_log_machine_laws.proofs.Public.{no_word}
use Rattle.raft_log_record_frames.specs.Meaning.{tagged_items}
use Rattle.raft_log_extents.specs.declared.place.Place.{Place}
use Rattle.raft_log_extents.specs.Entries.{place_of}
use Rattle.raft_log_memtable_index.specs.declared.group_files.GroupFiles.{GroupFiles}
use Rattle.raft_log_memtable_index.specs.Shown.{span, KeyValue, Shown}
use Rattle.raft_log_memtable_index.specs.Bridge.{Located}
use Rattle.raft_log_memtable_index.specs.Noted.{start_of}
use Rattle.raft_log_memtable_index.specs.Replayed.{both_noted, joined, nothing_replayed, placed, replay_step, replayed, standing, summary_of, IsReplayed, Replayed}
use Rattle.raft_log_memtable_index.proofs.Public.{both_cover, joined_cover, read_noted}
use Rattle.raft_log_memtables.specs.declared.mem_tables.MemTables.{MemTables}
use Rattle.raft_log_memtables.specs.Batch.{mentions}
use Rattle.raft_log_memtables.specs.Replaying.{all_replayed, ReadsAll}
use Rattle.raft_log_memtables.specs.Joining.{JoinsAll}
use Rattle.raft_log_memtables.specs.Tables.{replayed_of}
use Rattle.raft_log_memtables.proofs.Public.{none_said}
use Rattle.raft_log_replay_context.specs.declared.part.GroupPart.{GroupPart}
use Rattle.raft_log_replay_context.specs.Records.{counted, in_file, said_in, AreHealthy, KeepsRead, ReadItem, ReadRecord, TablesTake}
use Rattle.raft_log_replay_context.specs.Pieces.{as_file, as_said, groups_items, part_items, parts_items, parts_seen, seen_by, with_file, AllGroups, GoesToEnd, IsCompleted, Reading}
use Rattle.raft_log_replay_context.specs.Noting.{file_in, files_after, files_of, parts_mention, AllReadTo, AreWhereRead, CountsFrom, ItemsLieIn, NotesAll, NotesAt, ReadsParts, SettlesAll, SettlesGroup}
use Rattle.raft_log_replay_context.proofs.Counting.{all_within, counts_completed, counts_here, counts_lower, counts_right, either_says, said_lies, seen_lies, silent_no_clean, silent_rest, start_low, AllWithin}
use Rattle.raft_log_replay_context.proofs.Begins.{all_seen, begins, ends_by, lie_back, lie_both, lie_front, same_ends, seen_both, upto_back, upto_both, upto_front, BeginsIn, EndsBy}
use Rattle.raft_log_replay_context.proofs.Taking.{healthy_front, placed_group, takes_both, takes_kept, takes_none, takes_read}

-- Items that are read.
either_keeps : (v : Shown) (b : Bool) (t u : Shown) → t.noted ≡ v.noted → u.noted ≡ v.noted → (if b then t else u).noted ≡ v.noted
either_keeps v true t u h k = h
either_keeps v false t u h k = k

step_keeps : (n : ℕ) (s : Slot) (v : Shown) (x : Item Place (List ℕ)) → write s (placed false n x) ≡ None → (replay_step false n v x).noted ≡ v.noted
step_keeps n s v (Run f []) h = refl
step_keeps n s v (Run f (p ∷ ps)) h = either_keeps v (is_past (span v) f) _ _ refl refl
step_keeps n (Index i) v Clean h = no_word None (sym h)
step_keeps n (Key k) v Clean h = no_word None (sym h)
step_keeps n s v (Compact c) h = refl
step_keeps n s v (Put k w) h = refl
step_keeps n s v (Del k) h = refl

silent_first : (newer older : Option (Option (Content Located KeyValue))) → option_or newer older ≡ None → older ≡ None
silent_first None older h = h
silent_first (Some w) older h = no_word w (sym h)

-- items that say nothing of a slot have no Clean: what is noted stays
all_keep : (n : ℕ) (s : Slot) (z : Replayed) (xs : List (Item Place (List ℕ))) → says s (map (placed false n) xs) ≡ None → (all_replayed false n z xs).table.noted ≡ z.table.noted
all_keep n s z [] h = refl
all_keep n s z (x ∷ xs) h =
    all_keep n s (replayed false n z x) xs (silent_rest (says s (map (placed false n) xs)) (write s (placed false n x)) h)
    ∙ step_keeps n s z.table x (silent_first (says s (map (placed false n) xs)) (write s (placed false n x)) h)

pub reads_keep : (n g : ℕ) (s : Slot) (old new : MemTables) (items : List LogItem) → ReadsAll false n old new (tagged_items place_of items)
    → says s (of_group g (said_in false n items)) ≡ None → (replayed_of new g).table.noted ≡ (replayed_of old g).table.noted
reads_keep n g s old new items reads h =
    ap (λ z. z.table.noted) (reads.read g)
    ∙ all_keep n s (replayed_of old g) (of_group g (tagged_items place_of items)) (ap (says s) (sym (placed_group false n g (tagged_items place_of items))) ∙ h)

says_of : (s : Slot) (g : ℕ) (xs ys : List ReadItem) → says s (of_group g (xs ++ ys)) ≡ option_or (says s (of_group g ys)) (says s (of_group g xs))
says_of s g xs ys = ap (says s) (of_group_append g xs ys) ∙ says_append s (of_group g xs) (of_group g ys)

parts_keep : (ps : List GroupPart) (g : ℕ) (s : Slot) (old new : MemTables) → ReadsParts ps old new → says s (of_group g (parts_items ps)) ≡ None
    → (replayed_of new g).table.noted ≡ (replayed_of old g).table.noted
parts_keep [] g s old new same h = ap (λ m. (replayed_of m g).table.noted) same
parts_keep (p ∷ ps) g s old new reads h =
    let both = sym (says_of s g (part_items p) (parts_items ps)) ∙ h in
    parts_keep ps g s reads.0 new reads.2 (silent_rest (says s (of_group g (parts_items ps))) (says s (of_group g (part_items p))) both)
    ∙ reads_keep p.file g s old reads.0 p.items.items reads.1 (silent_first (says s (of_group g (parts_items ps))) (says s (of_group g (part_items p))) both)

-- The items of a whole group are taken.
parts_take : (ps : List GroupPart) (old new : MemTables) → ReadsParts ps old new → TablesTake false (parts_items ps) (replayed_of old) (replayed_of new)
parts_take [] old new same = subst (λ m. TablesTake false [] (replayed_of old) (replayed_of m)) (sym same) (takes_none false (replayed_of old))
parts_take (p ∷ ps) old new reads =
    takes_both false (part_items p) (parts_items ps) (replayed_of old) (replayed_of reads.0) (replayed_of new)
    (takes_read false p.file old reads.0 p.items.items reads.1) (parts_take ps reads.0 new reads.2)

at_keeps : (files : GroupFiles) (a b : Replayed) (q : Bool) (xs : List (Item Located KeyValue)) → NotesAt files a b → IsReplayed q xs a → IsReplayed q xs b
at_keeps files a b q xs (inl is) h = subst (λ z. IsReplayed q xs z) (sym is) (read_noted q xs a (both_noted a.table.noted (Some files)) h)
at_keeps files a b q xs (inr nothing) h = subst (λ z. IsReplayed q xs z) (nothing.0 ∙ sym nothing.1) h

pub notes_keep : (o : Option GroupFiles) (test : ℕ → Bool) (a b : ℕ → Replayed) → NotesAll o test a b → KeepsRead a b
notes_keep None test a b notes g q xs h = subst (λ z. IsReplayed q xs z) (sym (notes g)) h
notes_keep (Some files) test a b notes g q xs h =
    at_bool (test g) (λ t. test g ≡ t → IsReplayed q xs (b g)) (λ _ t. at_keeps files (a g) (b g) q xs ((notes g).0 t) h)
    (λ _ t. subst (λ z. IsReplayed q xs z) (sym ((notes g).1 t)) h) refl

pub group_takes : (ps : List GroupPart) (old new : MemTables) → SettlesGroup ps old new → TablesTake false (parts_items ps) (replayed_of old) (replayed_of new)
group_takes ps old new h =
    takes_kept false (parts_items ps) (replayed_of old) (replayed_of h.between) (replayed_of new) (parts_take ps old h.between h.reads)
    (notes_keep (files_of ps) (λ g. parts_mention g ps) (replayed_of h.between) (replayed_of new) h.notes)

-- a raft group of which the records say nothing
neither : (a b : Bool) → (a || b) ≡ false → (a ≡ false) × (b ≡ false)
neither true b h = let clash : true ≡ false = h in let never : ⊥ = cc in absurd never
neither false b h = (refl, h)

unmentioned : (ps : List GroupPart) (g : ℕ) → parts_mention g ps ≡ false → of_group g (parts_items ps) ≡ []
unmentioned [] g h = refl
unmentioned (p ∷ ps) g h =
    let parts = neither (mentions g p.items.items) (parts_mention g ps) h in
    of_group_append g (part_items p) (parts_items ps)
    ∙ ap (λ l. l ++ of_group g (parts_items ps))
    (placed_group false p.file g (tagged_items place_of p.items.items) ∙ ap (map (placed false p.file)) (none_said place_of g p.items.items parts.0))
    ∙ unmentioned ps g parts.1

-- where nothing was read no content stands
nothing_read : {P : Type 0} (xs : List (Item Located KeyValue)) (s : Slot) (c : Content Located KeyValue) → IsReplayed false xs nothing_replayed → says s xs ≡ Some (Some c) → P
nothing_read xs s c h e = no_word c (sym (none_stands s) ∙ table_holds (summary_of nothing_replayed) xs s h.summary ∙ ap (λ w. unwrap_or w None) e)
  where
    none_stands : (t : Slot) → content (standing nothing_replayed.table) t ≡ None
    none_stands (Index i) = nothing_stands {E = Located} {V = KeyValue} i
    none_stands (Key k) = refl

never_none : (f : GroupFiles) (qs : List GroupPart) → files_after (Some f) qs ≡ None → ⊥
never_none f [] e = no_word f (sym e)
never_none f (q ∷ qs) e = never_none (with_file (Some f) q.file) qs e

-- Of a raft group: what stands by these items counts from the files that are noted of it.
abbrev pub Cover : List ReadRecord → ℕ → List (Item Located KeyValue) → Option GroupFiles → Type 0
Cover rs g xs noted = (s : Slot) (c : Content Located KeyValue) → says s xs ≡ Some (Some c) → CountsFrom rs g (start_of (file_in c) noted) s

-- an atomic group counts, and what it brings counts from its first file on
pub group_covers : (rs : List ReadRecord) (g : ℕ) (xs : List (Item Located KeyValue)) (ps : List GroupPart) (old new : MemTables) → SettlesGroup ps old new
    → IsReplayed false (xs ++ of_group g (parts_items ps)) (replayed_of new g)
    → ((files : GroupFiles) → files_of ps ≡ Some files → (s : Slot) (c : Content Located KeyValue) → says s (of_group g (parts_items ps)) ≡ Some (Some c)
    → (file_in c ≤ files.to) × CountsFrom rs g files.from s)
    → Cover rs g xs (replayed_of old g).table.noted → Cover rs g (xs ++ of_group g (parts_items ps)) (replayed_of new g).table.noted
group_covers rs g xs ps old new h read group so_far s c stands =
    elim (either_says s xs (of_group g (parts_items ps)) c stands) [
      | inl now ↦ brought (files_of ps) refl h.notes now
      | inr was ↦ (
          let same = parts_keep ps g s old h.between h.reads was.0 in
          stayed (files_of ps) h.notes (subst (λ o. CountsFrom rs g (start_of (file_in c) o) s) (sym same) (so_far s c was.1))
          )
    ]
  where
    brought : (o : Option GroupFiles) → files_of ps ≡ o → NotesAll o (λ k. parts_mention k ps) (replayed_of h.between) (replayed_of new)
        → says s (of_group g (parts_items ps)) ≡ Some (Some c) → CountsFrom rs g (start_of (file_in c) (replayed_of new g).table.noted) s
    brought None is notes now = no_word (Some c) (sym (none_of ps is) ∙ now)
      where
        none_of : (qs : List GroupPart) → files_of qs ≡ None → says s (of_group g (parts_items qs)) ≡ None
        none_of [] e = refl
        none_of (q ∷ qs) e = absurd (never_none (with_file None q.file) qs e)
    brought (Some files) is notes now = at_bool (parts_mention g ps) (λ t. parts_mention g ps ≡ t → CountsFrom rs g (start_of (file_in c) (replayed_of new g).table.noted) s)
        (λ _ t. at_files ((notes g).0 t))
        (λ _ t. no_word (Some c) (sym (ap (says s) (unmentioned ps g t)) ∙ now)) refl
      where
        told : (file_in c ≤ files.to) × CountsFrom rs g files.from s
        told = group files is s c now

        at_files : NotesAt files (replayed_of h.between g) (replayed_of new g) → CountsFrom rs g (start_of (file_in c) (replayed_of new g).table.noted) s
        at_files (inl noted) =
            let start = (both_cover (file_in c) (replayed_of h.between g).table.noted (Some files)).1 in
            let low = start_low (file_in c) files told.0 in
            subst (λ z. CountsFrom rs g (start_of (file_in c) z.table.noted) s) (sym noted)
            (counts_lower rs g files.from (start_of (file_in c) (both_noted (replayed_of h.between g).table.noted (Some files))) s (omega (arith, start, low)) told.1)
        at_files (inr nothing) =
            nothing_read (xs ++ of_group g (parts_items ps)) s c (subst (λ z. IsReplayed false (xs ++ of_group g (parts_items ps)) z) nothing.1 read) stands

    stayed : (o : Option GroupFiles) → NotesAll o (λ k. parts_mention k ps) (replayed_of h.between) (replayed_of new)
        → CountsFrom rs g (start_of (file_in c) (replayed_of h.between g).table.noted) s → CountsFrom rs g (start_of (file_in c) (replayed_of new g).table.noted) s
    stayed None notes was = subst (λ z. CountsFrom rs g (start_of (file_in c) z.table.noted) s) (sym (notes g)) was
    stayed (Some files) notes was = at_bool (parts_mention g ps) (λ t. parts_mention g ps ≡ t → CountsFrom rs g (start_of (file_in c) (replayed_of new g).table.noted) s)
        (λ _ t. at_files ((notes g).0 t)) (λ _ t. subst (λ z. CountsFrom rs g (start_of (file_in c) z.table.noted) s) (sym ((notes g).1 t)) was) refl
      where
        at_files : NotesAt files (replayed_of h.between g) (replayed_of new g) → CountsFrom rs g (start_of (file_in c) (replayed_of new g).table.noted) s
        at_files (inl noted) =
            let start = (both_cover (file_in c) (replayed_of h.between g).table.noted (Some files)).0 in
            subst (λ z. CountsFrom rs g (start_of (file_in c) z.table.noted) s) (sym noted)
            (counts_lower rs g (start_of (file_in c) (replayed_of h.between g).table.noted) (start_of (file_in c) (both_noted (replayed_of h.between g).table.noted (Some files))) s start was)
        at_files (inr nothing) = subst (λ z. CountsFrom rs g (start_of (file_in c) z.table.noted) s) (nothing.0 ∙ sym nothing.1) was

same_some : (a b : List ReadItem) → Some a ≡ Some b → a ≡ b
same_some a b h = cc

-- A group that is completed counts from its first file on, and all of it lies up to its last.
module _ (xs ys : List ReadRecord) (ps : List GroupPart) (whole : IsCompleted xs ys ps) where
  said_whole : GoesToEnd as_said (opened none_open (seen_by as_said xs) whole.0) (head whole.0 [] (seen_by as_said ys)) ps
  said_whole = whole.1 as_said

  pub start : BeginsIn whole.0 xs
  start = begins whole.0 xs as_said said_whole.so_far said_whole.begun

  pub end : EndsBy whole.0 ys
  end = ends_by whole.0 ys as_said said_whole.behind said_whole.ends

  abbrev pub records : List ReadRecord
  records = (start.first ∷ start.more) ++ end.more

  pub parts_are : (φ : Reading) → parts_seen φ ps ≡ all_seen φ records
  parts_are φ =
      let at = whole.1 φ in
      let so_far : Some at.so_far ≡ Some (all_seen φ (start.first ∷ start.more)) = sym at.begun ∙ start.opened_is φ none_open in
      let behind = same_ends at.behind (all_seen φ end.more) (sym at.ends ∙ end.head_is φ) in
      at.parts ∙ ap₂ (λ a b. a ++ b) (same_some at.so_far (all_seen φ (start.first ∷ start.more)) so_far) behind ∙ sym (seen_both φ (start.first ∷ start.more) end.more)

  -- they were read up to the file where all were
  pub records_upto : (n : ℕ) → AllReadTo n (xs ++ ys) → AllReadTo n records
  records_upto n upto = upto_both n (start.first ∷ start.more) end.more (start.upto n (upto_front n xs ys upto)) (end.upto n (upto_back n xs ys upto))

  pub completed_group : AreWhereRead (xs ++ ys) → (g : ℕ) (files : GroupFiles) → files_of ps ≡ Some files → (s : Slot) (c : Content Located KeyValue)
      → says s (of_group g (parts_items ps)) ≡ Some (Some c) → (file_in c ≤ files.to) × CountsFrom (xs ++ ys) g files.from s
  completed_group lie g files is s c now =
      let within : AllWithin files records = all_within None ps records files (parts_are as_file) is in
      let lies = lie_both (start.first ∷ start.more) end.more (start.lie (lie_front xs ys lie)) (end.lie (lie_back xs ys lie)) in (
        seen_lies files g s records c within lies (ap (λ l. says s (of_group g l)) (sym (parts_are as_said)) ∙ now),
        counts_lower (xs ++ ys) g start.first.file files.from s within.0
            (counts_completed xs ys whole.0 said_whole.so_far said_whole.behind said_whole.begun said_whole.ends start g s
            (Some c, ap (λ l. says s (of_group g l)) (sym said_whole.parts) ∙ now)),
      )

-- groups that are completed, one after another
abbrev pub CountsWhole : List ReadRecord → ℕ → List GroupPart → Type 0
CountsWhole rs g ps =
    (files : GroupFiles) → files_of ps ≡ Some files → (s : Slot) (c : Content Located KeyValue) → says s (of_group g (parts_items ps)) ≡ Some (Some c)
    → (file_in c ≤ files.to) × CountsFrom rs g files.from s

pub all_take : (pss : List (Vec GroupPart)) (old new : MemTables) → SettlesAll pss old new → TablesTake false (groups_items pss) (replayed_of old) (replayed_of new)
all_take [] old new same = subst (λ m. TablesTake false [] (replayed_of old) (replayed_of m)) (sym same) (takes_none false (replayed_of old))
all_take (ps ∷ pss) old new h =
    takes_both false (parts_items ps.items) (groups_items pss) (replayed_of old) (replayed_of h.0) (replayed_of new) (group_takes ps.items old h.0 h.1) (all_take pss h.0 new h.2)

pub all_cover : (rs : List ReadRecord) (g : ℕ) (xs : List (Item Located KeyValue)) (pss : List (Vec GroupPart)) (old new : MemTables) → SettlesAll pss old new
    → AreHealthy (xs ++ of_group g (groups_items pss)) → IsReplayed false xs (replayed_of old g) → AllGroups (CountsWhole rs g) pss
    → Cover rs g xs (replayed_of old g).table.noted → Cover rs g (xs ++ of_group g (groups_items pss)) (replayed_of new g).table.noted
all_cover rs g xs [] old new same healthy read groups so_far =
    subst (λ l. Cover rs g l (replayed_of new g).table.noted) (sym (append-nil xs)) (subst (λ m. Cover rs g xs (replayed_of m g).table.noted) (sym same) so_far)
all_cover rs g xs (ps ∷ pss) old new h healthy read groups so_far =
    let here = of_group g (parts_items ps.items) in
    let rest = of_group g (groups_items pss) in
    let parted = ap (λ l. xs ++ l) (of_group_append g (parts_items ps.items) (groups_items pss)) ∙ sym (append_assoc xs here rest) in
    let whole = subst AreHealthy parted healthy in
    let now = group_takes ps.items old h.0 h.1 g xs (healthy_front (xs ++ here) rest whole) read in
    subst (λ l. Cover rs g l (replayed_of new g).table.noted) (sym parted)
    (all_cover rs g (xs ++ here) pss h.0 new h.2 whole now groups.1 (group_covers rs g xs ps.items old h.0 h.1 now groups.0 so_far))

-- the later segment comes behind
pub join_covers : (rs ys : List ReadRecord) (g : ℕ) (xs : List (Item Located KeyValue)) (old later new : MemTables) → JoinsAll old later new
    → IsReplayed false (counted g ys) (replayed_of later g) → ((n : ℕ) (s : Slot) → CountsFrom ys g n s → CountsFrom rs g n s)
    → Cover rs g xs (replayed_of old g).table.noted → Cover ys g (counted g ys) (replayed_of later g).table.noted
    → Cover rs g (xs ++ counted g ys) (replayed_of new g).table.noted
join_covers rs ys g xs old later new joins read wider so_far behind s c stands =
    let a = replayed_of old g in
    let z = replayed_of later g in
    let covers = joined_cover a z (file_in c) in
    subst (λ u. CountsFrom rs g (start_of (file_in c) u.table.noted) s) (sym (joins g).read)
    (elim (either_says s xs (counted g ys) c stands) [
      | inl now ↦ counts_lower rs g (start_of (file_in c) z.table.noted) (start_of (file_in c) (joined a z).table.noted) s covers.0
          (wider (start_of (file_in c) z.table.noted) s (behind s c now))
      | inr was ↦ counts_lower rs g (start_of (file_in c) a.table.noted) (start_of (file_in c) (joined a z).table.noted) s
          (covers.1 (read.marks.cleaned ∙ silent_no_clean s (counted g ys) was.0)) (so_far s c was.1)
    ])

-- a record that counts at once
pub plain_covers : (rs : List ReadRecord) (g n : ℕ) (old new : MemTables) (items : List LogItem) → ReadsAll false n old new (tagged_items place_of items)
    → ItemsLieIn n (said_in false n items) → Cover rs g (counted g rs) (replayed_of old g).table.noted
    → Cover (rs ++ in_file n (Plain (said_in false n items)) ∷ []) g (counted g rs ++ of_group g (said_in false n items)) (replayed_of new g).table.noted
plain_covers rs g n old new items reads lie so_far s c stands =
    let xs = said_in false n items in
    let r = in_file n (Plain xs) in
    elim (either_says s (counted g rs) (of_group g xs) c stands) [
      | inl now ↦ (
          let same = said_lies n g s xs c lie now in
          let low = (both_cover (file_in c) None (replayed_of new g).table.noted).0 in
          counts_here rs g n (start_of (file_in c) (replayed_of new g).table.noted) xs s (omega (arith, same, low)) (Some c, now)
          )
      | inr was ↦ counts_right rs (r ∷ []) g (start_of (file_in c) (replayed_of new g).table.noted) s
          (subst (λ o. CountsFrom rs g (start_of (file_in c) o) s) (sym (reads_keep n g s old new items reads was.0)) (so_far s c was.1))
    ]
