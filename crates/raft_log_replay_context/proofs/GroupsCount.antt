-- Which groups count once items were read, and once segments are put together.
use Rattle.std.proofs.Common.{◌≡◌, ℕ, Bool, true, false, not, ◌&&◌, ◌||◌, List, [], ◌∷◌, ◌++◌, map, Option, Some, None, refl, sym, ap, ap₂, subst, ◌∙◌, append_assoc}
use Rattle.std.specs.Global.{Vec}
use Rattle.raft_log_record_items.specs.declared.item.LogItem.{LogItem}
use Rattle.raft_log_model_laws.specs.Item.{Item}
use Rattle.raft_log_model_laws.specs.Item.Item.{Run, Clean, Compact, Put, Del}
use Rattle.raft_log_model_laws.specs.Holes.{has_clean}
use Rattle.raft_log_model_laws.specs.Groups.{counts as brings, none_open, of_group, opened, rewritten}
use Rattle.raft_log_model_laws.specs.Fragments.{completed, head, unfinished}
use Rattle.raft_log_model_laws.specs.Tidy.{Tidy}
use Rattle.raft_log_model_laws.proofs.Public.{cut_anywhere, of_group_append, tidy_back, tidy_front}
use Rattle.raft_log_record_frames.specs.Meaning.{tagged_items}
use Rattle.raft_log_extents.specs.declared.place.Place.{Place}
use Rattle.raft_log_extents.specs.Entries.{place_of}
use Rattle.raft_log_memtable_index.specs.Replayed.{placed}
use Rattle.raft_log_memtables.specs.declared.mem_tables.MemTables.{MemTables}
use Rattle.raft_log_memtables.specs.Batch.{counts_after, counts_at_end}
use Rattle.raft_log_memtables.specs.Joining.{JoinsAll, MergesAll}
use Rattle.raft_log_memtables.specs.Replaying.{ReadsAll}
use Rattle.raft_log_memtables.specs.Tables.{counts, replayed_of, shown_of}
use Rattle.raft_log_memtables.proofs.Public.{table_is}
use Rattle.raft_log_replay_context.specs.declared.part.GroupPart.{GroupPart}
use Rattle.raft_log_replay_context.specs.Records.{counted, records_of, said_in, AreHealthy, AreReplayed, ReadItem, ReadRecord}
use Rattle.raft_log_replay_context.specs.Pieces.{as_said, groups_items, part_items, parts_items, whole_seen}
use Rattle.raft_log_replay_context.specs.Noting.{ReadsParts, SettlesAll, SettlesGroup, SettlesWhole}
use Rattle.raft_log_replay_context.specs.Context.{AreCounting}
use Rattle.raft_log_replay_context.proofs.OpenGroups.{records_append}
use Rattle.raft_log_replay_context.proofs.Taking.{counted_more, healthy_back, healthy_front, placed_group}

-- Items, one after another.
never_and : (b : Bool) → (b && false) ≡ false
never_and true = refl
never_and false = refl

and_always : (b : Bool) → b ≡ (b && true)
and_always true = refl
and_always false = refl

or_never : (b : Bool) → b ≡ (b || false)
or_never true = refl
or_never false = refl

or_twice : (a b : Bool) → (a || b) ≡ ((a || b) || b)
or_twice true b = refl
or_twice false true = refl
or_twice false false = refl

or_less : (a b c : Bool) → (a || b) ≡ ((a || b) || (c && b))
or_less true b c = refl
or_less false true c = refl
or_less false false c = sym (never_and c)

module _ {E V : Type 0} where
  at_end_append : (b : Bool) (xs ys : List (Item E V)) → counts_at_end b (xs ++ ys) ≡ counts_at_end (counts_at_end b xs) ys
  at_end_append b [] ys = refl
  at_end_append b (x ∷ xs) ys = at_end_append (counts_after b x) xs ys

  -- a group that counts goes on to without a Clean
  touched : (xs : List (Item E V)) → counts_at_end true xs ≡ (counts_at_end false xs || not (has_clean xs)) → counts_at_end true xs ≡ (counts_at_end true xs || not (has_clean xs))
  touched xs h = h ∙ or_twice (counts_at_end false xs) (not (has_clean xs)) ∙ ap (λ a. a || not (has_clean xs)) (sym h)

  at_true : (xs : List (Item E V)) → counts_at_end true xs ≡ (counts_at_end false xs || not (has_clean xs))
  at_true [] = refl
  at_true (Run f es ∷ xs) = touched xs (at_true xs)
  at_true (Clean ∷ xs) = or_never (counts_at_end false xs)
  at_true (Compact c ∷ xs) = touched xs (at_true xs)
  at_true (Put k v ∷ xs) = touched xs (at_true xs)
  at_true (Del k ∷ xs) = touched xs (at_true xs)

  kept : (b : Bool) (xs : List (Item E V)) → counts_at_end true xs ≡ (counts_at_end true xs || (b && not (has_clean xs)))
  kept b xs =
      let h = at_true xs in
      h ∙ or_less (counts_at_end false xs) (not (has_clean xs)) b ∙ ap (λ a. a || (b && not (has_clean xs))) (sym h)

  -- a group counts after items if it does by them alone, or if it did before and they have no Clean
  at_end_either : (b : Bool) (xs : List (Item E V)) → counts_at_end b xs ≡ (counts_at_end false xs || (b && not (has_clean xs)))
  at_end_either b [] = and_always b
  at_end_either b (Run f es ∷ xs) = kept b xs
  at_end_either b (Clean ∷ xs) = or_never (counts_at_end false xs) ∙ ap (λ a. counts_at_end false xs || a) (sym (never_and b))
  at_end_either b (Compact c ∷ xs) = kept b xs
  at_end_either b (Put k v ∷ xs) = kept b xs
  at_end_either b (Del k ∷ xs) = kept b xs

  -- so it is of a later segment's
  at_later : (b later cleaned : Bool) (xs : List (Item E V)) → later ≡ counts_at_end false xs → cleaned ≡ has_clean xs
      → (later || (b && not cleaned)) ≡ counts_at_end b xs
  at_later b later cleaned xs h k = ap₂ (λ p q. p || (b && not q)) h k ∙ sym (at_end_either b xs)

after_placed : (q : Bool) (n : ℕ) (b : Bool) (x : Item Place (List ℕ)) → counts_after b (placed q n x) ≡ counts_after b x
after_placed q n b (Run f ps) = refl
after_placed q n b Clean = refl
after_placed q n b (Compact c) = refl
after_placed q n b (Put k w) = refl
after_placed q n b (Del k) = refl

at_end_placed : (q : Bool) (n : ℕ) (b : Bool) (xs : List (Item Place (List ℕ))) → counts_at_end b (map (placed q n) xs) ≡ counts_at_end b xs
at_end_placed q n b [] = refl
at_end_placed q n b (x ∷ xs) = ap (λ c. counts_at_end c (map (placed q n) xs)) (after_placed q n b x) ∙ at_end_placed q n (counts_after b x) xs

-- Which groups count after these items.
abbrev pub CountsItems : List ReadItem → (ℕ → Bool) → (ℕ → Bool) → Type 0
CountsItems xs old new = (g : ℕ) → new g ≡ counts_at_end (old g) (of_group g xs)

pub counts_read : (q : Bool) (n : ℕ) (old new : MemTables) (items : List LogItem) → ReadsAll q n old new (tagged_items place_of items)
    → CountsItems (said_in q n items) (counts old) (counts new)
counts_read q n old new items reads g =
    let xs = of_group g (tagged_items place_of items) in
    reads.counting g ∙ sym (at_end_placed q n (counts old g) xs) ∙ ap (counts_at_end (counts old g)) (sym (placed_group q n g (tagged_items place_of items)))

pub counts_none : (old new : MemTables) → new ≡ old → CountsItems [] (counts old) (counts new)
counts_none old new same g = ap (λ m. counts m g) same

counts_both : (xs ys : List ReadItem) (a b c : ℕ → Bool) → CountsItems xs a b → CountsItems ys b c → CountsItems (xs ++ ys) a c
counts_both xs ys a b c first later g =
    later g ∙ ap (λ k. counts_at_end k (of_group g ys)) (first g) ∙ sym (at_end_append (a g) (of_group g xs) (of_group g ys))
    ∙ ap (counts_at_end (a g)) (sym (of_group_append g xs ys))

parts_count : (ps : List GroupPart) (old new : MemTables) → ReadsParts ps old new → CountsItems (parts_items ps) (counts old) (counts new)
parts_count [] old new same = counts_none old new same
parts_count (p ∷ ps) old new reads =
    counts_both (part_items p) (parts_items ps) (counts old) (counts reads.0) (counts new) (counts_read false p.file old reads.0 p.items.items reads.1)
    (parts_count ps reads.0 new reads.2)

group_count : (ps : List GroupPart) (old new : MemTables) → SettlesGroup ps old new → CountsItems (parts_items ps) (counts old) (counts new)
group_count ps old new h g = h.counting g ∙ parts_count ps old h.between h.reads g

pub all_count : (pss : List (Vec GroupPart)) (old new : MemTables) → SettlesAll pss old new → CountsItems (groups_items pss) (counts old) (counts new)
all_count [] old new same = counts_none old new same
all_count (ps ∷ pss) old new h =
    counts_both (parts_items ps.items) (groups_items pss) (counts old) (counts h.0) (counts new) (group_count ps.items old h.0 h.1) (all_count pss h.0 new h.2)

pub whole_count : (whole : Option (Vec GroupPart)) (old new : MemTables) → SettlesWhole whole old new → CountsItems (whole_seen as_said whole) (counts old) (counts new)
whole_count None old new same = counts_none old new same
whole_count (Some ps) old new settles = group_count ps.items old new settles

-- One more record.
pub counting_more : (rs : List ReadRecord) (r : ReadRecord) (a b : ℕ → Bool) → AreCounting rs a
    → CountsItems (brings (opened none_open (records_of rs)) r.taken) a b → AreCounting (rs ++ r ∷ []) b
counting_more rs r a b so_far takes tidy g healthy =
    let more = counted_more g rs r in
    let last = of_group g (brings (opened none_open (records_of rs)) r.taken) in
    let front = tidy_front (records_of rs) (r.taken ∷ []) (subst Tidy (records_append rs (r ∷ [])) tidy) in
    takes g ∙ ap (λ k. counts_at_end k last) (so_far front g (healthy_front (counted g rs) last (subst AreHealthy more healthy)))
    ∙ sym (at_end_append false (counted g rs) last) ∙ ap (counts_at_end false) (sym more)

-- Two segments, with what the border completes between them.
pub counting_joined : (q : Bool) (xs ys : List ReadRecord) (a : ℕ → Bool) (old later new : MemTables) → AreCounting xs a → AreCounting ys (counts later)
    → AreReplayed q ys (replayed_of later) → CountsItems (completed (unfinished (records_of xs)) (λ n. head n [] (records_of ys))) a (counts old)
    → JoinsAll old later new → AreCounting (xs ++ ys) (counts new)
counting_joined q xs ys a old later new so_far behind read takes joins tidy g healthy =
    let rs = records_of xs in
    let qs = records_of ys in
    let both = subst Tidy (records_append xs ys) tidy in
    let between = of_group g (completed (unfinished rs) (λ n. head n [] qs)) in
    let cut = ap (rewritten g) (records_append xs ys) ∙ cut_anywhere g rs qs both in
    let parted = cut ∙ sym (append_assoc (counted g xs) between (counted g ys)) in
    let whole = subst AreHealthy parted healthy in
    let front = healthy_front (counted g xs ++ between) (counted g ys) whole in
    let back = healthy_back (counted g xs ++ between) (counted g ys) whole in
    let first = so_far (tidy_front rs qs both) g (healthy_front (counted g xs) between front) in
    let cleaned = ap (λ v. v.cleaned) (sym (table_is later g)) ∙ (read (tidy_back rs qs both) g back).marks.cleaned in
    let here = takes g ∙ ap (λ k. counts_at_end k between) first ∙ sym (at_end_append false (counted g xs) between) in
    (joins g).counting
    ∙ at_later (counts old g) (counts later g) (shown_of later g).cleaned (counted g ys) (behind (tidy_back rs qs both) g back) cleaned
    ∙ ap (λ k. counts_at_end k (counted g ys)) here
    ∙ sym (at_end_append false (counted g xs ++ between) (counted g ys)) ∙ ap (counts_at_end false) (sym parted)

-- Append over Rewrite.
pub counting_over : (rewrite append : List ReadRecord) (old later new : MemTables) → MergesAll old later new → AreCounting rewrite (counts old)
    → AreCounting append (counts later) → AreReplayed true append (replayed_of later) → Tidy (records_of rewrite) → Tidy (records_of append)
    → (g : ℕ) → AreHealthy (counted g rewrite) → AreHealthy (counted g append)
    → counts new g ≡ counts_at_end (counts_at_end false (counted g rewrite)) (counted g append)
counting_over rewrite append old later new merges first behind read tidy neat g whole sound =
    let cleaned = ap (λ v. v.cleaned) (sym (table_is later g)) ∙ (read neat g sound).marks.cleaned in
    (merges g).counting
    ∙ at_later (counts old g) (counts later g) (shown_of later g).cleaned (counted g append) (behind neat g sound) cleaned
    ∙ ap (λ k. counts_at_end k (counted g append)) (first tidy g whole)
