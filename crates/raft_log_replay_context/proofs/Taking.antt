-- Tables that take items, and what they have read then.
use Rattle.std.proofs.Common.{◌≡◌, ℕ, ◌+◌, ◌≤◌, ◌==◌, Bool, true, false, if◌then◌else◌, List, [], ◌∷◌, ◌++◌, map, refl, sym, ap, subst, ◌∙◌, append_assoc, append-nil}
use Rattle.std.proofs.lemmas.List.{length-map}
use Rattle.raft_log_record_items.specs.declared.item.LogItem.{LogItem}
use Rattle.raft_log_model_laws.specs.Item.{Item, Tagged}
use Rattle.raft_log_model_laws.specs.Item.Item.{Run, Clean, Compact, Put, Del}
use Rattle.raft_log_model_laws.specs.Groups.{of_group, counts, none_open, opened, rewritten, settled}
use Rattle.raft_log_model_laws.specs.Fragments.{completed, head, unfinished}
use Rattle.raft_log_model_laws.specs.Tidy.{Tidy}
use Rattle.raft_log_model_laws.specs.Holes.{nothing, Window}
use Rattle.raft_log_model_laws.proofs.Public.{at_bool, cut_anywhere, eq_true, no_hole_front, no_hole_later, of_group_append, settle_append, tidy_back, tidy_front}
use Rattle.raft_log_machine_laws.specs.Machine.{AllFit, Fits}
use Rattle.raft_log_machine_laws.specs.Whereabouts.{top}
use Rattle.raft_log_record_frames.specs.Meaning.{tagged_items}
use Rattle.raft_log_extents.specs.declared.place.Place.{Place}
use Rattle.raft_log_extents.specs.Entries.{place_of}
use Rattle.raft_log_memtable_index.specs.Shown.{next_span, span, KeyValue, MayAllFollow}
use Rattle.raft_log_memtable_index.specs.Bridge.{in_queue, Located}
use Rattle.raft_log_memtable_index.specs.Replayed.{placed, replayed, IsReplayed, Replayed}
use Rattle.raft_log_memtable_index.proofs.Public.{healthy_fits, joined_is, read_one}
use Rattle.raft_log_memtables.specs.declared.mem_tables.MemTables.{MemTables}
use Rattle.raft_log_memtables.specs.Tables.{replayed_of, shown_of}
use Rattle.raft_log_memtables.specs.Replaying.{all_replayed, ReadsAll}
use Rattle.raft_log_memtables.specs.Joining.{JoinsAll}
use Rattle.raft_log_replay_context.specs.Records.{counted, placed_tagged, records_of, said_in, AreHealthy, AreReplayed, KeepsRead, ReadItem, ReadRecord, RunsFit, TablesTake}
use Rattle.raft_log_replay_context.proofs.OpenGroups.{records_append}

-- Healthy items.
module _ {E V : Type 0} where
  fit_front : (xs ys : List (Item E V)) → RunsFit (xs ++ ys) → RunsFit xs
  fit_front [] ys h = tt
  fit_front (x ∷ xs) ys h = (h.0, fit_front xs ys h.1)

  pub fit_back : (xs ys : List (Item E V)) → RunsFit (xs ++ ys) → RunsFit ys
  fit_back [] ys h = h
  fit_back (x ∷ xs) ys h = fit_back xs ys h.1

  pub healthy_front : (xs ys : List (Item E V)) → AreHealthy (xs ++ ys) → AreHealthy xs
  healthy_front xs ys h = (no_hole_front nothing xs ys h.0, fit_front xs ys h.1)

  pub healthy_back : (xs ys : List (Item E V)) → AreHealthy (xs ++ ys) → AreHealthy ys
  healthy_back xs ys h = (no_hole_later xs ys h.0, fit_back xs ys h.1)

-- Items as they were read.
placed_if : (b : Bool) (q : Bool) (n : ℕ) (x : Item Place (List ℕ)) (xs : List (Item Place (List ℕ)))
    → (if b then placed q n x ∷ map (placed q n) xs else map (placed q n) xs) ≡ map (placed q n) (if b then x ∷ xs else xs)
placed_if true q n x xs = refl
placed_if false q n x xs = refl

pub placed_group : (q : Bool) (n g : ℕ) (xs : List (Tagged Place (List ℕ))) → of_group g (map (placed_tagged q n) xs) ≡ map (placed q n) (of_group g xs)
placed_group q n g [] = refl
placed_group q n g (x ∷ xs) =
    ap (λ ys. if x.group == g then placed q n x.item ∷ ys else ys) (placed_group q n g xs) ∙ placed_if (x.group == g) q n x.item (of_group g xs)

pub placed_fits : (q : Bool) (n : ℕ) (x : Item Place (List ℕ)) → Fits (placed q n x) → Fits x
placed_fits q n (Run f ps) h = subst (λ k. f + k ≤ top) (length-map ps (in_queue q)) h
placed_fits q n Clean h = tt
placed_fits q n (Compact c) h = tt
placed_fits q n (Put k v) h = tt
placed_fits q n (Del k) h = tt

fits_placed : (q : Bool) (n : ℕ) (x : Item Place (List ℕ)) → Fits x → Fits (placed q n x)
fits_placed q n (Run f ps) h = subst (λ k. f + k ≤ top) (sym (length-map ps (in_queue q))) h
fits_placed q n Clean h = tt
fits_placed q n (Compact c) h = tt
fits_placed q n (Put k v) h = tt
fits_placed q n (Del k) h = tt

-- Items that may follow, group by group, fit.
abbrev FollowInEach : List (Tagged Place (List ℕ)) → Type 0
FollowInEach xs = (g : ℕ) → (w : Window) × MayAllFollow w (of_group g xs)

follow_here : (x : Tagged Place (List ℕ)) (xs : List (Tagged Place (List ℕ))) → FollowInEach (x ∷ xs) → Fits x.item
follow_here x xs h =
    at_bool (x.group == x.group) (λ b. ((w : Window) × MayAllFollow w (if b then x.item ∷ of_group x.group xs else of_group x.group xs)) → Fits x.item)
    (λ _ follow. follow.1.0.1) (λ off follow. absurd (let clash : false ≡ true = sym off ∙ eq_true x.group x.group refl in let never : ⊥ = cc in never)) (h x.group)

follow_rest : (x : Tagged Place (List ℕ)) (xs : List (Tagged Place (List ℕ))) → FollowInEach (x ∷ xs) → FollowInEach xs
follow_rest x xs h g =
    at_bool (x.group == g) (λ b. ((w : Window) × MayAllFollow w (if b then x.item ∷ of_group g xs else of_group g xs)) → (w : Window) × MayAllFollow w (of_group g xs))
    (λ _ follow. (next_span follow.0 x.item, follow.1.1)) (λ _ follow. follow) (h g)

all_fit : (q : Bool) (n : ℕ) (xs : List (Tagged Place (List ℕ))) → FollowInEach xs → AllFit (map (placed_tagged q n) xs)
all_fit q n [] h = tt
all_fit q n (x ∷ xs) h = (fits_placed q n x.item (follow_here x xs h), all_fit q n xs (follow_rest x xs h))

-- the items of a batch that was read in Append do
pub read_fit : (n : ℕ) (old new : MemTables) (xs : List (Tagged Place (List ℕ))) → ReadsAll true n old new xs → AllFit (map (placed_tagged true n) xs)
read_fit n old new xs reads = all_fit true n xs (λ g. (span (shown_of old g), reads.fits refl g))

one_by_one : (q : Bool) (n : ℕ) (z : Replayed) (before : List (Item Located KeyValue)) (xs : List (Item Place (List ℕ)))
    → AreHealthy (before ++ map (placed q n) xs) → IsReplayed q before z → IsReplayed q (before ++ map (placed q n) xs) (all_replayed q n z xs)
one_by_one q n z before [] h r = subst (λ l. IsReplayed q l z) (sym (append-nil before)) r
one_by_one q n z before (x ∷ xs) h r =
    let y = placed q n x in
    let parted = append_assoc before (y ∷ []) (map (placed q n) xs) in
    let whole = subst AreHealthy (sym parted) h in
    let first = healthy_front (before ++ y ∷ []) (map (placed q n) xs) whole in
    let last = fit_back before (y ∷ []) first.1 in
    subst (λ l. IsReplayed q l (all_replayed q n (replayed q n z x) xs)) parted
    (one_by_one q n (replayed q n z x) (before ++ y ∷ []) xs whole
    (read_one q n before z x r (healthy_fits q n before z x r first.0, placed_fits q n x last.0)))

pub takes_tagged : (q : Bool) (n : ℕ) (old new : MemTables) (ts : List (Tagged Place (List ℕ))) → ReadsAll q n old new ts
    → TablesTake q (map (placed_tagged q n) ts) (replayed_of old) (replayed_of new)
takes_tagged q n old new ts h g before healthy r =
    let xs = of_group g ts in
    let said = placed_group q n g ts in
    subst (λ l. IsReplayed q (before ++ l) (replayed_of new g)) (sym said)
    (subst (λ z. IsReplayed q (before ++ map (placed q n) xs) z) (sym (h.read g))
    (one_by_one q n (replayed_of old g) before xs (subst (λ l. AreHealthy (before ++ l)) said healthy) r))

pub takes_read : (q : Bool) (n : ℕ) (old new : MemTables) (items : List LogItem) → ReadsAll q n old new (tagged_items place_of items)
    → TablesTake q (said_in q n items) (replayed_of old) (replayed_of new)
takes_read q n old new items h = takes_tagged q n old new (tagged_items place_of items) h

pub takes_none : (q : Bool) (z : ℕ → Replayed) → TablesTake q [] z z
takes_none q z g before healthy r = subst (λ l. IsReplayed q l (z g)) (sym (append-nil before)) r

pub takes_both : (q : Bool) (xs ys : List ReadItem) (a b c : ℕ → Replayed) → TablesTake q xs a b → TablesTake q ys b c → TablesTake q (xs ++ ys) a c
takes_both q xs ys a b c first later g before healthy r =
    let parted = of_group_append g xs ys in
    let assoc = append_assoc before (of_group g xs) (of_group g ys) in
    let whole = subst AreHealthy (ap (λ l. before ++ l) parted ∙ sym assoc) healthy in
    subst (λ l. IsReplayed q l (c g)) (assoc ∙ ap (λ l. before ++ l) (sym parted))
    (later g (before ++ of_group g xs) whole (first g before (healthy_front (before ++ of_group g xs) (of_group g ys) whole) r))

-- What the records come to, with one more.
pub counted_more : (g : ℕ) (rs : List ReadRecord) (r : ReadRecord)
    → counted g (rs ++ r ∷ []) ≡ counted g rs ++ of_group g (counts (opened none_open (records_of rs)) r.taken)
counted_more g rs r =
    let o = opened none_open (records_of rs) in
    ap (rewritten g) (records_append rs (r ∷ []))
    ∙ ap (of_group g) (settle_append none_open (records_of rs) (r.taken ∷ []))
    ∙ of_group_append g (settled (records_of rs)) (counts o r.taken ++ [])
    ∙ ap (λ l. counted g rs ++ of_group g l) (append-nil (counts o r.taken))

pub tables_more : (q : Bool) (rs : List ReadRecord) (r : ReadRecord) (a b : ℕ → Replayed) → AreReplayed q rs a
    → TablesTake q (counts (opened none_open (records_of rs)) r.taken) a b → AreReplayed q (rs ++ r ∷ []) b
tables_more q rs r a b so_far takes tidy g healthy =
    let more = counted_more g rs r in
    let last = of_group g (counts (opened none_open (records_of rs)) r.taken) in
    let whole = subst AreHealthy more healthy in
    subst (λ l. IsReplayed q l (b g)) (sym more)
    (takes g (counted g rs) whole
    (so_far (tidy_front (records_of rs) (r.taken ∷ []) (subst Tidy (records_append rs (r ∷ [])) tidy)) g (healthy_front (counted g rs) last whole)))

-- two segments, with what the border completes between them
pub tables_joined : (q : Bool) (xs ys : List ReadRecord) (a : ℕ → Replayed) (old later new : MemTables)
    → AreReplayed q xs a → AreReplayed q ys (replayed_of later)
    → TablesTake q (completed (unfinished (records_of xs)) (λ n. head n [] (records_of ys))) a (replayed_of old)
    → JoinsAll old later new → AreReplayed q (xs ++ ys) (replayed_of new)
tables_joined q xs ys a old later new so_far behind takes joins tidy g healthy =
    let rs = records_of xs in
    let qs = records_of ys in
    let both = subst Tidy (records_append xs ys) tidy in
    let between = of_group g (completed (unfinished rs) (λ n. head n [] qs)) in
    let cut = ap (rewritten g) (records_append xs ys) ∙ cut_anywhere g rs qs both in
    let parted = cut ∙ sym (append_assoc (counted g xs) between (counted g ys)) in
    let whole = subst AreHealthy parted healthy in
    let front = healthy_front (counted g xs ++ between) (counted g ys) whole in
    let first = takes g (counted g xs) front (so_far (tidy_front rs qs both) g (healthy_front (counted g xs) between front)) in
    let last = behind (tidy_back rs qs both) g (healthy_back (counted g xs ++ between) (counted g ys) whole) in
    subst (λ l. IsReplayed q l (replayed_of new g)) (sym parted)
    (subst (λ z. IsReplayed q ((counted g xs ++ between) ++ counted g ys) z) (sym (joins g).read)
    (joined_is q (counted g xs ++ between) (counted g ys) (replayed_of old g) (replayed_of later g) first last whole.0))

-- what stays read was taken
pub takes_kept : (q : Bool) (xs : List ReadItem) (a b c : ℕ → Replayed) → TablesTake q xs a b → KeepsRead b c → TablesTake q xs a c
takes_kept q xs a b c takes keeps g before healthy r = keeps g q (before ++ of_group g xs) (takes g before healthy r)
