-- The marks that are owed, table by table.
use Rattle.std.proofs.Common.{◌≡◌, ℕ, ◌==◌, ◌&&◌, Bool, true, false, if◌then◌else◌, nat_lt, List, [], ◌∷◌, ◌++◌, map, Option, Some, None, refl, sym, ap, subst, ◌∙◌, arith, append_assoc, append-nil}
use Rattle.std.specs.List.Sorted.{IsStrictlySortedBy}
use Rattle.raft_log_record_items.specs.declared.entry.EntryIndex.{EntryIndex}
use Rattle.raft_log_record_items.specs.declared.command.Command.{Command}
use Rattle.raft_log_record_items.specs.declared.command.Command.TheVariants as commands
use Rattle.raft_log_record_items.specs.declared.item.LogItemContent.TheVariants as contents
use Rattle.raft_log_record_items.specs.declared.item.LogItem.{LogItem}
use Rattle.raft_log_record_items.specs.Items.{item_of}
use Rattle.raft_log_model_laws.specs.Item.{Item, Tagged}
use Rattle.raft_log_model_laws.specs.Item.Item.{Clean, Compact, Del}
use Rattle.raft_log_model_laws.specs.Groups.{of_group}
use Rattle.raft_log_model_laws.specs.Meaning.{Slot, Content}
use Rattle.raft_log_model_laws.specs.Renamed.{renamed}
use Rattle.raft_log_model_laws.proofs.Public.{of_group_append}
use Rattle.raft_log_machine_laws.specs.Whereabouts.{top, CarriesAll}
use Rattle.raft_log_record_frames.specs.declared.marking.Marking.TheVariants.{Unmarked}
use Rattle.raft_log_record_frames.specs.Marking.{has_mark_key, mark_of, marking_of, marking_of_items, part_or_broken, joined_marking}
use Rattle.raft_log_record_frames.specs.Meaning.{tagged, tagged_items, unless_mark}
use Rattle.raft_log_memtable_index.specs.Shown.{Shown, nothing_shown, whereabouts}
use Rattle.raft_log_memtable_index.specs.Bridge.{dels, marks, unmarked}
use Rattle.raft_log_memtable_index.proofs.Public.{marks_carry}
use Rattle.raft_log_memtable_index.specs.Listing.{ListsMarked}
use Rattle.raft_log_memtable.specs.Moves.{owed_compact}
use Rattle.raft_log_memtable.specs.Table.{shown}
use Rattle.raft_log_memtables.specs.declared.group_table.GroupTable.{GroupTable}
use Rattle.raft_log_memtables.specs.declared.mem_tables.MemTables.{MemTables}
use Rattle.raft_log_memtables.specs.Tables.{shown_in}
use Rattle.raft_log_memtables.specs.Owing.{compact_items, delete_item, owed_items, AddsOwed, AreOwed, AreOwedAt}
use Rattle.raft_log_memtables.proofs.Ready.{by_group, same_or_apart}
use Rattle.raft_log_memtables.proofs.Segments.{AllOnce, found, found_first, found_later}

-- what is said of this group
abbrev of_one : ℕ → Item EntryIndex (List ℕ) → Tagged EntryIndex (List ℕ)
of_one g x = record { group = g; item = x }

never : (b : Bool) → (b && false) ≡ false
never true = refl
never false = refl

-- commands and deletions are no marks of atomic groups
command_counts : (g : ℕ) (c : Command) → has_mark_key (item_of g (contents.Command c)) ≡ false
unfolding has_mark_key
command_counts g c = never (g == 0)

delete_counts : (g : ℕ) (k : List ℕ) → has_mark_key (delete_item g k) ≡ false
unfolding has_mark_key
delete_counts g k = never (g == 0)

unmarked_item : (x : LogItem) → has_mark_key x ≡ false → marking_of x ≡ Unmarked
unfolding marking_of
unmarked_item x h = ap (λ (b : Bool). if b then part_or_broken (mark_of x) else Unmarked) h

-- one item that is no mark
one_said : (x : LogItem) (xs : List LogItem) → has_mark_key x ≡ false → tagged_items (λ e. e) (x ∷ xs) ≡ tagged (λ e. e) x ∷ tagged_items (λ e. e) xs
one_said x xs h = ap (λ (b : Bool). unless_mark b (tagged {E = EntryIndex} (λ e. e) x) (tagged_items (λ e. e) xs)) h

plain_more : (x : LogItem) (xs : List LogItem) → has_mark_key x ≡ false → marking_of_items (x ∷ xs) ≡ marking_of_items xs
plain_more x xs h = ap (λ m. joined_marking m (marking_of_items xs)) (unmarked_item x h)

-- Before others: what the items say, and that they are no marks.
module _ (ys : List LogItem) where
  deletes_said : (g : ℕ) (ks : List (List ℕ)) → tagged_items (λ e. e) (map (delete_item g) ks ++ ys) ≡ map (of_one g) (dels ks) ++ tagged_items (λ e. e) ys
  deletes_said g [] = refl
  deletes_said g (k ∷ ks) = one_said (delete_item g k) (map (delete_item g) ks ++ ys) (delete_counts g k) ∙ ap (λ l. of_one g (Del k) ∷ l) (deletes_said g ks)

  compact_said : (g index : ℕ) (b : Bool) (ks : List (List ℕ))
      → tagged_items (λ e. e) ((compact_items g (if b then Some index else None) ++ map (delete_item g) ks) ++ ys)
      ≡ map (of_one g) ((if b then Compact index ∷ [] else []) ++ dels ks) ++ tagged_items (λ e. e) ys
  compact_said g index true ks =
      one_said (item_of g (contents.Command (commands.Compact index))) (map (delete_item g) ks ++ ys) (command_counts g (commands.Compact index))
      ∙ ap (λ l. of_one g (Compact index) ∷ l) (deletes_said g ks)
  compact_said g index false ks = deletes_said g ks

  clean_said : (g index : ℕ) (a b : Bool) (ks : List (List ℕ))
      → tagged_items (λ e. e) ((((if a then item_of g (contents.Command commands.Clean) ∷ [] else []) ++ compact_items g (if b then Some index else None)) ++ map (delete_item g) ks) ++ ys)
      ≡ map (of_one g) ((if a then Clean ∷ [] else []) ++ ((if b then Compact index ∷ [] else []) ++ dels ks)) ++ tagged_items (λ e. e) ys
  clean_said g index true b ks =
      one_said (item_of g (contents.Command commands.Clean)) ((compact_items g (if b then Some index else None) ++ map (delete_item g) ks) ++ ys) (command_counts g commands.Clean)
      ∙ ap (λ l. of_one g Clean ∷ l) (compact_said g index b ks)
  clean_said g index false b ks = compact_said g index b ks

  deletes_plain : (g : ℕ) (ks : List (List ℕ)) → marking_of_items (map (delete_item g) ks ++ ys) ≡ marking_of_items ys
  deletes_plain g [] = refl
  deletes_plain g (k ∷ ks) = plain_more (delete_item g k) (map (delete_item g) ks ++ ys) (delete_counts g k) ∙ deletes_plain g ks

  compact_plain : (g : ℕ) (o : Option ℕ) (ks : List (List ℕ)) → marking_of_items ((compact_items g o ++ map (delete_item g) ks) ++ ys) ≡ marking_of_items ys
  compact_plain g (Some index) ks =
      plain_more (item_of g (contents.Command (commands.Compact index))) (map (delete_item g) ks ++ ys) (command_counts g (commands.Compact index)) ∙ deletes_plain g ks
  compact_plain g None ks = deletes_plain g ks

  clean_plain : (g : ℕ) (a : Bool) (o : Option ℕ) (ks : List (List ℕ))
      → marking_of_items ((((if a then item_of g (contents.Command commands.Clean) ∷ [] else []) ++ compact_items g o) ++ map (delete_item g) ks) ++ ys) ≡ marking_of_items ys
  clean_plain g true o ks =
      plain_more (item_of g (contents.Command commands.Clean)) ((compact_items g o ++ map (delete_item g) ks) ++ ys) (command_counts g commands.Clean) ∙ compact_plain g o ks
  clean_plain g false o ks = compact_plain g o ks

-- of the group these are all, and of others none
said_here : (g : ℕ) (xs : List (Item EntryIndex (List ℕ))) → of_group g (map (of_one g) xs) ≡ xs
said_here g [] = refl
said_here g (x ∷ xs) = ap (λ (b : Bool). if b then x ∷ of_group g (map (of_one g) xs) else of_group g (map (of_one g) xs)) (itself g) ∙ ap (λ l. x ∷ l) (said_here g xs)
  where
    itself : (k : ℕ) → (k == k) ≡ true
    itself k = grind (arith)

said_there : (h g : ℕ) (xs : List (Item EntryIndex (List ℕ))) → (h == g) ≡ false → of_group g (map (of_one h) xs) ≡ []
said_there h g [] apart = refl
said_there h g (x ∷ xs) apart = ap (λ (b : Bool). if b then x ∷ of_group g (map (of_one h) xs) else of_group g (map (of_one h) xs)) apart ∙ said_there h g xs apart

-- the items are what these tables owe, one after another
abbrev pub OwesAll : List (ℕ × GroupTable) → List LogItem → Type 0
OwesAll [] xs = xs ≡ []
OwesAll (e ∷ es) xs =
    (ks : List (List ℕ)) × (ys : List LogItem) × ListsMarked (shown e.1.table).deleted ks × OwesAll es ys × (xs ≡ owed_items e.0 (shown e.1.table) ks ++ ys)

-- one table more
pub owes_more : (all rest : List (ℕ × GroupTable)) (e : ℕ × GroupTable) (old new : List LogItem) → ((ys : List LogItem) → OwesAll (e ∷ rest) ys → OwesAll all (old ++ ys))
    → AddsOwed e.0 (shown e.1.table) old new → (ys : List LogItem) → OwesAll rest ys → OwesAll all (new ++ ys)
owes_more all rest e old new so_far adds ys h =
    subst (OwesAll all) (sym (ap (λ l. l ++ ys) adds.2 ∙ append_assoc old (owed_items e.0 (shown e.1.table) adds.0) ys))
    (so_far (owed_items e.0 (shown e.1.table) adds.0 ++ ys) (adds.0, ys, adds.1, h, refl))

nothing_listed : ListsMarked (λ k. false) []
unfolding IsStrictlySortedBy
nothing_listed = record { rising = tt; owed = tt; all = λ k. refl }

nothing_owed : (xs : List (Item EntryIndex (List ℕ))) → AreOwedAt nothing_shown xs → xs ≡ []
nothing_owed xs h = h.2 ∙ ap (marks nothing_shown) (none h.0 h.1)
  where
    none : (ks : List (List ℕ)) → ListsMarked (λ k. false) ks → ks ≡ []
    none [] l = refl
    none (k ∷ ks) l = absurd (let clash : false ≡ true = l.owed.0 in let never : ⊥ = cc in never)

nothing_more : (l : List (Item EntryIndex (List ℕ))) (k : List (Item EntryIndex (List ℕ))) → k ≡ [] → l ++ k ≡ l
nothing_more l k h = ap (λ m. l ++ m) h ∙ append-nil l

pub owed_at : (es : List (ℕ × GroupTable)) (xs : List LogItem) → AllOnce es → OwesAll es xs → (g : ℕ) → AreOwedAt (shown_in (found es g)) (of_group g (tagged_items (λ e. e) xs))
owed_at [] xs once h g = ([], nothing_listed, ap (λ l. of_group g (tagged_items {E = EntryIndex} (λ e. e) l)) h)
owed_at (e ∷ es) xs once h g =
    let v = shown e.1.table in
    let ys = h.1 in
    let said : of_group g (tagged_items (λ e. e) xs) ≡ of_group g (map (of_one e.0) (marks v h.0)) ++ of_group g (tagged_items (λ e. e) ys) =
    ap (λ l. of_group g (tagged_items {E = EntryIndex} (λ e. e) l)) h.4
    ∙ ap (of_group g) (clean_said ys e.0 (if nat_lt 0 v.rewritten then v.first else top) v.cleaned v.compacted h.0)
    ∙ of_group_append g (map (of_one e.0) (marks v h.0)) (tagged_items (λ e. e) ys) in
    let rest = owed_at es ys once.1 h.3 g in
    by_group e.0 g (same_or_apart e.0 g)
    (λ t is.
    let none : found es g ≡ None = subst (λ j. found es j ≡ None) is once.0 in
    let behind = nothing_owed (of_group g (tagged_items (λ e. e) ys)) (subst (λ o. AreOwedAt (shown_in o) (of_group g (tagged_items (λ e. e) ys))) none rest) in
    let here : found (e ∷ es) g ≡ Some e.1 = subst (λ j. found (e ∷ es) j ≡ Some e.1) is (found_first e es) in
    subst (λ o. AreOwedAt (shown_in o) (of_group g (tagged_items (λ e. e) xs))) (sym here) (
      h.0,
      h.2,
      said ∙ nothing_more (of_group g (map (of_one e.0) (marks v h.0))) (of_group g (tagged_items (λ e. e) ys)) behind
          ∙ subst (λ j. of_group j (map (of_one e.0) (marks v h.0)) ≡ marks v h.0) is (said_here e.0 (marks v h.0)),
    ))
    (λ apart.
    subst (λ o. AreOwedAt (shown_in o) (of_group g (tagged_items (λ e. e) xs))) (sym (found_later e es g apart))
    (rest.0, rest.1, said ∙ ap (λ l. l ++ of_group g (tagged_items (λ e. e) ys)) (said_there e.0 g (marks v h.0) apart) ∙ rest.2))

pub owed_plain : (es : List (ℕ × GroupTable)) (xs : List LogItem) → OwesAll es xs → marking_of_items xs ≡ Unmarked
owed_plain [] xs h = ap marking_of_items h
owed_plain (e ∷ es) xs h =
    ap marking_of_items h.4 ∙ clean_plain h.1 e.0 (shown e.1.table).cleaned (owed_compact (shown e.1.table)) h.0 ∙ owed_plain es h.1 h.3

-- a list that was made of all tables
pub all_owed : (m : MemTables) (items : List LogItem) (rest : List (ℕ × GroupTable)) → rest ≡ [] → AllOnce m.groups.entries
    → ((ys : List LogItem) → OwesAll rest ys → OwesAll m.groups.entries (items ++ ys)) → AreOwed m items
all_owed m items rest none once h =
    let whole : OwesAll m.groups.entries items =
    subst (OwesAll m.groups.entries) (append-nil items) (h [] (subst (λ l. OwesAll l []) (sym none) refl)) in
    record { plain = owed_plain m.groups.entries items whole; owed = owed_at m.groups.entries items once whole }

-- Rewrite may take them
marks_renamed : {E : Type 0} (f : EntryIndex → E) (v : Shown) (ks : List (List ℕ)) → map (renamed f) (marks v ks) ≡ marks v ks
marks_renamed {E = E} f v ks = clean v.cleaned v.compacted (if nat_lt 0 v.rewritten then v.first else top)
  where
    deletes : (ls : List (List ℕ)) → ◌≡◌ {A = List (Item E (List ℕ))} (map (renamed f) (dels ls)) (dels ls)
    deletes [] = refl
    deletes (l ∷ ls) = ap (λ (xs : List (Item E (List ℕ))). Del l ∷ xs) (deletes ls)

    compact : (b : Bool) (index : ℕ)
        → ◌≡◌ {A = List (Item E (List ℕ))} (map (renamed f) ((if b then Compact index ∷ [] else []) ++ dels ks)) ((if b then Compact index ∷ [] else []) ++ dels ks)
    compact true index = ap (λ (xs : List (Item E (List ℕ))). Compact index ∷ xs) (deletes ks)
    compact false index = deletes ks

    clean : (a b : Bool) (index : ℕ)
        → ◌≡◌ {A = List (Item E (List ℕ))} (map (renamed f) ((if a then Clean ∷ [] else []) ++ ((if b then Compact index ∷ [] else []) ++ dels ks)))
        ((if a then Clean ∷ [] else []) ++ ((if b then Compact index ∷ [] else []) ++ dels ks))
    clean true b index = ap (λ (xs : List (Item E (List ℕ))). Clean ∷ xs) (compact b index)
    clean false b index = compact b index

pub owed_carry : {E : Type 0} (f : EntryIndex → E) (m : Slot → Option (Content E (List ℕ))) (v : Shown) (xs : List (Item EntryIndex (List ℕ))) → AreOwedAt v xs
    → CarriesAll m (whereabouts v) (map (renamed f) xs) (whereabouts (unmarked v))
owed_carry f m v xs h =
    subst (λ l. CarriesAll m (whereabouts v) l (whereabouts (unmarked v))) (sym (ap (map (renamed f)) h.2 ∙ marks_renamed f v h.0))
    (marks_carry m v h.0 h.1.owed h.1.all)
