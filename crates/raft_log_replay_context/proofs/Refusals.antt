-- Why a context reads no further.
use Rattle.std.proofs.Common.{◌≡◌, ◌⊎◌, inl, inr, ℕ, ◌==◌, Bool, true, false, List, [], ◌∷◌, ◌++◌, map, Option, Some, None, refl, sym, ap, subst, ◌∙◌, append_assoc, arith}
use Rattle.std.proofs.lemmas.List.{map-append}
use Rattle.std.proofs.lemmas.Bool.Decides.{nat_tests}
use Rattle.raft_log_record_base.specs.declared.errors.Error.{Error}
use Rattle.raft_log_record_base.specs.declared.errors.Error.TheVariants as errors
use Rattle.raft_log_record_base.specs.declared.pipe_log.LogQueue.TheVariants.{Append, Rewrite}
use Rattle.raft_log_record_items.specs.declared.item.LogItem.{LogItem}
use Rattle.raft_log_model_laws.specs.Item.{Tagged}
use Rattle.raft_log_model_laws.specs.Item.Record.{Plain}
use Rattle.raft_log_model_laws.specs.Groups.{of_group, rewritten}
use Rattle.raft_log_model_laws.specs.Fragments.{completed, head, unfinished}
use Rattle.raft_log_model_laws.specs.Tidy.{Tidy}
use Rattle.raft_log_model_laws.specs.Holes.{FitsOn}
use Rattle.raft_log_model_laws.proofs.Public.{cut_anywhere, of_group_append, tidy_back, tidy_front}
use Rattle.raft_log_record_frames.specs.Meaning.{tagged_items}
use Rattle.raft_log_extents.specs.declared.place.Place.{Place}
use Rattle.raft_log_extents.specs.Entries.{place_of}
use Rattle.raft_log_memtable_index.specs.Shown.{span, MayFollow}
use Rattle.raft_log_memtable_index.specs.Replayed.{placed, IsReplayed, LeavesHole, Replayed}
use Rattle.raft_log_memtable_index.proofs.Public.{healthy_fits, healthy_joint}
use Rattle.raft_log_memtables.specs.declared.mem_tables.MemTables.{MemTables}
use Rattle.raft_log_memtables.specs.Tables.{replayed_of, shown_of}
use Rattle.raft_log_memtables.specs.Replaying.{ReadsAll, ReadsUpTo}
use Rattle.raft_log_memtables.specs.Joining.{JoinRefused}
use Rattle.raft_log_memtables.proofs.Public.{of_group_here, table_is}
use Rattle.raft_log_replay_context.specs.declared.context.MemTableRecoverContext.{MemTableRecoverContext}
use Rattle.raft_log_replay_context.specs.declared.pieces.GroupPieces.{GroupPieces}
use Rattle.raft_log_replay_context.specs.Records.{counted, in_file, record_read, records_of, said_in, AreHealthy, AreReplayed, ReadRecord, TablesTake}
use Rattle.raft_log_replay_context.specs.Pieces.{IsBrokenMark, JoinsPieces}
use Rattle.raft_log_replay_context.specs.Context.{HasRead}
use Rattle.raft_log_replay_context.specs.Batches.{StayApart, AreOrderly, IsBatchDeclined, RewriteIsUnread, MergeDeclined}
use Rattle.raft_log_replay_context.proofs.OpenGroups.{records_append}
use Rattle.raft_log_replay_context.proofs.Contexts.{border_items, plain_unfinished}
use Rattle.raft_log_replay_context.proofs.Notes.{all_take}
use Rattle.raft_log_replay_context.specs.Noting.{SettlesAll}
use Rattle.raft_log_replay_context.specs.declared.part.GroupPart.{GroupPart}
use Rattle.std.specs.Global.{Vec}
use Rattle.raft_log_replay_context.proofs.Taking.{counted_more, fit_back, healthy_back, healthy_front, placed_fits, placed_group, takes_none, takes_tagged}

-- Batches of Rewrite.
pub memory_unread : (r : Option ReadRecord) (e : Error) → e ≡ errors.Memory → RewriteIsUnread r e
memory_unread r e is = subst (RewriteIsUnread r) (sym is) tt

pub stops_unread : (r : Option ReadRecord) (n : ℕ) (old new : MemTables) (xs : List (Tagged Place (List ℕ))) (e : Error) → ReadsUpTo false n old new xs e → RewriteIsUnread r e
stops_unread r n old new xs e stops = memory_unread r e (only_memory stops.refused)
  where
    only_memory : {A : Type 0} {P : Type 0} → (A × (false ≡ true) × P) ⊎ (e ≡ errors.Memory) → e ≡ errors.Memory
    only_memory (inl h) = let clash : false ≡ true = h.1 in let never : ⊥ = cc in absurd never
    only_memory (inr is) = is

pub broken_unread : (r : Option ReadRecord) (e : Error) → r ≡ None → IsBrokenMark e → RewriteIsUnread r e
broken_unread r (errors.Corruption text) none h = (none, h)
broken_unread r errors.Memory none h = tt
broken_unread r _ none h = absurd h

pub unread_declined : (rs : List ReadRecord) (r : Option ReadRecord) (e : Error) → RewriteIsUnread r e → IsBatchDeclined rs r e
unread_declined rs r (errors.Corruption text) h = h
unread_declined rs r errors.Memory h = tt
unread_declined rs r _ h = absurd h

-- A batch of Append whose runs are in order may come.
module _ (n : ℕ) (items : List LogItem) (old : MemTableRecoverContext) (new : MemTables) (rs : List ReadRecord) (h : HasRead Append rs old) where
  may_follow : (front back : List (Tagged Place (List ℕ))) (stop : Tagged Place (List ℕ)) → tagged_items place_of items ≡ front ++ (stop ∷ back)
      → ReadsAll true n old.tables new front → AreOrderly (rs ++ in_file n (Plain (said_in true n items)) ∷ []) → MayFollow (span (shown_of new stop.group)) stop.item
  may_follow front back stop whole reads o =
      let r = in_file n (Plain (said_in true n items)) in
      let g = stop.group in
      let s = stop.item in
      let P = placed true n in
      let F = of_group g front in
      let B = of_group g back in
      let this : (g == g) ≡ true = grind (arith, nat_tests) in
      let here = of_group_here front stop g this in
      let split = whole ∙ sym (append_assoc front (stop ∷ []) back) in
      let of_g = ap (of_group g) split ∙ of_group_append g (front ++ stop ∷ []) back ∙ ap (λ l. l ++ B) here in
      let said = placed_group true n g (tagged_items place_of items) ∙ ap (map P) of_g ∙ map-append P (F ++ s ∷ []) B ∙ ap (λ l. l ++ map P B) (map-append P F (s ∷ [])) in
      let Y = counted g rs ++ map P F in
      let all = counted_more g rs r ∙ ap (λ l. counted g rs ++ l) said ∙ sym (append_assoc (counted g rs) (map P F ++ P s ∷ []) (map P B))
      ∙ ap (λ l. l ++ map P B) (sym (append_assoc (counted g rs) (map P F) (P s ∷ []))) in
      let up_to = healthy_front (Y ++ P s ∷ []) (map P B) (subst AreHealthy all (o.healthy g)) in
      let so_far = healthy_front Y (P s ∷ []) up_to in
      let was = h.tables (tidy_front (records_of rs) (r.taken ∷ []) (subst Tidy (records_append rs (r ∷ [])) o.tidy)) g (healthy_front (counted g rs) (map P F) so_far) in
      let front_said = placed_group true n g front in
      let now = subst (λ l. IsReplayed true (counted g rs ++ l) (replayed_of new g)) front_said
      (takes_tagged true n old.tables new front reads g (counted g rs) (subst (λ l. AreHealthy (counted g rs ++ l)) (sym front_said) so_far) was) in
      (subst (λ v. FitsOn (span v) s) (table_is new g) (healthy_fits true n Y (replayed_of new g) s now up_to.0), placed_fits true n s (fit_back Y (P s ∷ []) up_to.1).0)

declined_by : (rs : List ReadRecord) (r : ReadRecord) (e : Error) {P : Type 0} → ((e ≡ errors.Hole) × (true ≡ true) × (P → ⊥)) ⊎ (e ≡ errors.Memory)
    → (AreOrderly (rs ++ r ∷ []) → P) → IsBatchDeclined rs (Some r) e
declined_by rs r e (inl h) fits = subst (IsBatchDeclined rs (Some r)) (sym h.0) (λ o. h.2 (fits o))
declined_by rs r e (inr is) fits = subst (IsBatchDeclined rs (Some r)) (sym is) tt

pub declined_in_append : (n : ℕ) (items : List LogItem) (old : MemTableRecoverContext) (before new : MemTables) (e : Error)
    → ReadsUpTo true n old.tables new (tagged_items place_of items) e → (rs : List ReadRecord) → HasRead Append rs old → IsBatchDeclined rs (record_read Append n items) e
declined_in_append n items old before new e stops rs h =
    declined_by rs (in_file n (Plain (said_in true n items))) e stops.refused (may_follow n items old new rs h stops.front stops.back stops.stop stops.items stops.read)

-- Segments that are in order are put together.
never_apart : (q : Bool) (xs ys : List ReadRecord) (a : ℕ → Replayed) (old later : MemTables)
    → AreReplayed q xs a → AreReplayed q ys (replayed_of later)
    → TablesTake q (completed (unfinished (records_of xs)) (λ n. head n [] (records_of ys))) a (replayed_of old)
    → AreOrderly (xs ++ ys) → (g : ℕ) → LeavesHole (shown_of old g) (replayed_of later g) → ⊥
never_apart q xs ys a old later so_far behind takes o g hole =
    let rs = records_of xs in
    let qs = records_of ys in
    let both = subst Tidy (records_append xs ys) o.tidy in
    let between = of_group g (completed (unfinished rs) (λ n. head n [] qs)) in
    let cut = ap (rewritten g) (records_append xs ys) ∙ cut_anywhere g rs qs both in
    let parted = cut ∙ sym (append_assoc (counted g xs) between (counted g ys)) in
    let whole = subst AreHealthy parted (o.healthy g) in
    let front = healthy_front (counted g xs ++ between) (counted g ys) whole in
    let first = takes g (counted g xs) front (so_far (tidy_front rs qs both) g (healthy_front (counted g xs) between front)) in
    let last = behind (tidy_back rs qs both) g (healthy_back (counted g xs ++ between) (counted g ys) whole) in
    healthy_joint q (counted g xs ++ between) (counted g ys) (replayed_of old g) (replayed_of later g) first last whole.0
    (subst (λ v. LeavesHole v (replayed_of later g)) (sym (table_is old g)) hole)

apart_of : (rs : List ReadRecord) (e : Error) (old later : MemTables) → JoinRefused old later e
    → (AreOrderly rs → (g : ℕ) → LeavesHole (shown_of old g) (replayed_of later g) → ⊥) → StayApart rs e
apart_of rs e old later (inl h) never = subst (StayApart rs) (sym h.0) (λ o. never o h.1.0 h.1.1)
apart_of rs e old later (inr is) never = subst (StayApart rs) (sym is) tt

pub apart_in_append : (old later : MemTableRecoverContext) (e : Error) → JoinRefused old.tables later.tables e → MergeDeclined Append old later e
apart_in_append old later e refused = λ xs ys h k.
    apart_of (xs ++ ys) e old.tables later.tables refused
    (never_apart true xs ys (replayed_of old.tables) old.tables later.tables h.tables k.tables
    (subst (λ us. TablesTake true (completed us (λ n. head n [] (records_of ys))) (replayed_of old.tables) (replayed_of old.tables)) (sym (plain_unfinished xs (h.plain refl)))
    (takes_none true (replayed_of old.tables))))

pub apart_in_rewrite : (done : List (Vec GroupPart)) (between : MemTables) (old later : MemTableRecoverContext) (pieces : GroupPieces) (e : Error)
    → JoinsPieces old.pieces later.pieces pieces done → SettlesAll done old.tables between → JoinRefused between later.tables e
    → MergeDeclined Rewrite old later e
apart_in_rewrite done between old later pieces e joins settles refused = λ xs ys h k.
    let told = joins xs ys h.pieces k.pieces in
    apart_of (xs ++ ys) e between later.tables refused
    (never_apart false xs ys (replayed_of old.tables) between later.tables h.tables k.tables
    (subst (λ l. TablesTake false l (replayed_of old.tables) (replayed_of between)) (border_items xs ys done told.1) (all_take done old.tables between settles)))
