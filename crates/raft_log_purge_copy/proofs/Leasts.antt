-- From the least file in use on a queue has all that stands in it.
use Rattle.std.proofs.Common.{◌≡◌, ◌⊎◌, ◌+◌, ◌-◌, ◌<◌, ◌≤◌, ◌==◌, ◌||◌, ℕ, Bool, true, false, List, [], ◌∷◌, ◌++◌, length, map, take, get_or, Option, Some, None, option_map, if◌then◌else◌, bytes_eq, inl, inr, refl, sym, ap, subst, max, min, nat_le, ◌∙◌, arith}
use Rattle.std.specs.Prelude.{Result, Ok, Err, IfErr, IfOk, OnOk}
use Rattle.std.specs.List.{list_any}
use Rattle.std.specs.BTreeMap.{get}
use Rattle.std.specs.Ordering.{nat_cmp}
use Rattle.std.proofs.lemmas.List.{take_more}
use Rattle.raft_log_model_laws.proofs.Public.{at_bool, if_false, if_true, le_false}
use Rattle.raft_log_machine_laws.proofs.Public.{no_word}
use Rattle.raft_log_record_base.specs.declared.errors.Error.{Error}
use Rattle.raft_log_record_base.specs.declared.errors.Error.TheVariants as errors
use Rattle.raft_log_record_base.specs.declared.pipe_log.LogQueue.{LogQueue}
use Rattle.raft_log_record_base.specs.declared.pipe_log.LogQueue.TheVariants.{Append, Rewrite}
use Rattle.raft_log_memtable_index.specs.Shown.{IsOrderly, KeyValue, Shown}
use Rattle.raft_log_memtable_index.specs.Noted.{IsLeastInRewrite, start_of}
use Rattle.raft_log_memtable_index.specs.declared.key_map.HeldValue.{HeldValue}
use Rattle.raft_log_memtable_index.specs.declared.key_map.KeySlot.{KeySlot}
use Rattle.raft_log_memtable_index.specs.LeastFiles.{file_of_value, least_over, least_value, lesser}
use Rattle.raft_log_memtable_index.specs.Keys.{held_in, slot_at, value_of}
use Rattle.raft_log_engine_laws.specs.raft_log_memtable.specs.Files.{FrontIsLeast, IsLeastInAppend, first_place, min_file}
use Rattle.raft_log_engine_laws.specs.raft_log_memtable.specs.Table.{Raw, shown}
use Rattle.raft_log_engine_laws.specs.raft_log_memtable.proofs.Public.{front_is_least, least_in_append, least_in_rewrite, nothing_in_rewrite, place_there}
use Rattle.raft_log_memtables.specs.declared.group_table.GroupTable.{GroupTable}
use Rattle.raft_log_memtables.specs.declared.mem_tables.MemTables.{MemTables}
use Rattle.raft_log_memtables.specs.Tables.{shown_in, shown_of}
use Rattle.raft_log_memtables.specs.Walking.{IsLeastOf, least_in}
use Rattle.raft_log_fs.specs.Causes.{IsLater}
use Rattle.raft_log_memtable_index.specs.declared.group_files.GroupFiles.{GroupFiles}
use Rattle.raft_log_file_pipe.specs.Purging.{IsInSpan}
use Rattle.raft_log_dual_pipes.specs.State.{pipe_at}
use Rattle.raft_log_dual_pipes.specs.Pipes.{LogPipes, RunsOn, State, files_of, which_of}
use Rattle.raft_log_dual_pipes.specs.Calls.{FailsToPurgeQueue, PurgesQueue, TellsFailure}
use Rattle.raft_log_dual_pipes.specs.Numbers.{EndsNumbersBelow}
use Rattle.raft_log_block_cache.specs.declared.block_cache.BlockCache.{BlockCache}
use Rattle.raft_log_block_cache.proofs.Public.{none_kept}
use Rattle.raft_log_engine_laws.specs.EngineState.{LogDirectories, LogMap, EngineState, sense, shows}
use Rattle.raft_log_engine_laws.specs.Settled.{HoldsSettled}
use Rattle.raft_log_engine_laws.specs.Raising.{MayBegin, PurgeLeavesHeld}
use Rattle.raft_log_engine_laws.proofs.Public.{raise_refused, raised}
use Rattle.raft_log_purge_copy.specs.Files.{FailsToLoseFiles, LosesFiles, MayLoseFiles, RemainsSettled}
use Rattle.raft_log_purge_copy.proofs.PartExits.{alive_ok, same_later, tells_err}
use Rattle.raft_log_purge_copy.proofs.Spanned.{lose_reason}

-- Group by group.

any_push : (f : ℕ → Bool) (xs : List ℕ) (x : ℕ) → list_any f (xs ++ x ∷ []) ≡ true → (list_any f xs ≡ true) ⊎ (f x ≡ true)
any_push f [] x h = inr (at_bool (f x) (λ b. (b || false) ≡ true → b ≡ true) (λ _ e. refl) (λ _ e. e) h)
any_push f (y ∷ ys) x h =
    at_bool (f y) (λ b. (b || list_any f (ys ++ x ∷ [])) ≡ true → ((b || list_any f ys) ≡ true) ⊎ (f x ≡ true)) (λ _ e. inl refl) (λ _ e. any_push f ys x e) h

-- of the first groups and one more
pub among_more : (g : ℕ) (xs : List ℕ) (i d x : ℕ) → i < length xs → x ≡ get_or xs i d → list_any (λ k. k == g) (take (i + 1) xs) ≡ true
    → (list_any (λ k. k == g) (take i xs) ≡ true) ⊎ (x ≡ g)
among_more g xs i d x lt is h =
    let more = take_more xs i d lt ∙ ap (λ (y : ℕ). take i xs ++ y ∷ []) (sym is) in
    elim (any_push (λ k. k == g) (take i xs) x (ap (list_any (λ k. k == g)) (sym more) ∙ h)) [
      | inl before ↦ inl before
      | inr now ↦ inr (grind (arith, now))
    ]

-- Where no file of Append is in use, nothing stands there.

none_lesser : (a b : Option ℕ) → lesser a b ≡ None → (a ≡ None) × (b ≡ None)
none_lesser None b h = (refl, h)
none_lesser (Some a) None h = no_word a (sym h)
none_lesser (Some a) (Some b) h = absurd (let never : ⊥ = cc h in never)

none_over : (slots : List (List ℕ × KeySlot)) (acc : Option ℕ) → least_over true acc (map (λ e. e.1) slots) ≡ None
    → (acc ≡ None) × ((k : List ℕ) (s : KeySlot) → slot_at slots k ≡ Some s → file_of_value true s.held ≡ None)
none_over [] acc h = (h, λ k s e. no_word s e)
none_over (e ∷ es) acc h =
    let rest = none_over es (lesser acc (file_of_value true e.1.held)) h in
    let both = none_lesser acc (file_of_value true e.1.held) rest.0 in (
      both.0,
      λ k s. at_bool (bytes_eq k e.0) (λ b. (if b then Some e.1 else slot_at es k) ≡ Some s → file_of_value true s.held ≡ None)
          (λ _ here. let same : e.1 ≡ s = cc in subst (λ (x : KeySlot). file_of_value true x.held ≡ None) same both.1)
          (λ _ behind. rest.1 k s behind),
    )

none_held : (o : Option HeldValue) (deleted : Bool) (h : KeyValue) → held_in (Some (record { held = o; deleted = deleted })) ≡ Some h → h.appended ≡ true → file_of_value true o ≡ None → ⊥
none_held None deleted h e a none = no_word h e
none_held (Some x) deleted h e a none =
    let same : value_of x ≡ h = cc in
    no_word x.file (sym none ∙ if_true x.appended (Some x.file) None (ap (λ (v : KeyValue). v.appended) same ∙ a))

none_slot : (o : Option KeySlot) (h : KeyValue) → held_in o ≡ Some h → h.appended ≡ true → ((s : KeySlot) → o ≡ Some s → file_of_value true s.held ≡ None) → ⊥
none_slot None h e a none = no_word h e
none_slot (Some s) h e a none = none_held s.held s.deleted h e a (none s refl)

nothing_in_append : (t : Raw) (n : ℕ) → min_file Append t ≡ None → IsLeastInAppend (shown t) n
nothing_in_append t n none =
    let both = none_lesser (first_place Append t) (least_value true t.keys) none in (
      λ i from to.
          let there = place_there t.places.items t.rewritten (omega (arith, from, to)) in
          no_word there.0.file (sym both.0 ∙ ap (option_map (λ p. p.file)) there.1),
      λ k h held appended. absurd (none_slot (slot_at t.keys k) h held appended ((none_over t.keys None both.1).1 k)),
    )

-- The queue may begin at that file.

lower_append : (v : Shown) (least n : ℕ) → least ≤ n → IsLeastInAppend v n → IsLeastInAppend v least
lower_append v least n low is = (
  λ i from to. (let one = is.0 i from to in omega (arith, low, one)),
  λ k h held appended. (let one = is.1 k h held appended in omega (arith, low, one)),
)

append_table : (t : Raw) (least : ℕ) → FrontIsLeast (shown t) → (o : Option ℕ) → min_file Append t ≡ o → ((n : ℕ) → o ≡ Some n → least ≤ n) → IsLeastInAppend (shown t) least
append_table t least front None is below = nothing_in_append t least is
append_table t least front (Some n) is below = lower_append (shown t) least n (below n refl) (least_in_append t n front is)

append_group : (o : Option GroupTable) (least : ℕ) → FrontIsLeast (shown_in o) → ((n : ℕ) → least_in Append (option_map (λ t. t.table) o) ≡ Some n → least ≤ n) → IsLeastInAppend (shown_in o) least
append_group None least front below = (λ i from to. absurd (omega (arith, from, to)), λ k h held appended. no_word h held)
append_group (Some t) least front below = append_table t.table least front (min_file Append t.table) refl below

past_noted : (least : ℕ) (noted : Option GroupFiles) → (k : ℕ) × (least ≤ start_of k noted)
past_noted least None = (least, omega arith)
past_noted least (Some files) =
    let k = least + files.to + 1 in
    let same : start_of k (Some files) ≡ k = if_false (nat_le k files.to) (min files.from k) k (le_false k files.to (omega arith)) in
    (k, omega (arith, same))

rewrite_table : (t : Raw) (least : ℕ) → IsOrderly (shown t) → FrontIsLeast (shown t) → (o : Option ℕ) → min_file Rewrite t ≡ o → ((n : ℕ) → o ≡ Some n → least ≤ n)
    → (k : ℕ) × IsLeastInRewrite (shown t) k × (least ≤ start_of k t.noted)
rewrite_table t least orderly front None is below =
    let none = nothing_in_rewrite t orderly.parts is in
    let past = past_noted least t.noted in
    (past.0, ((λ i from to. absurd (let zero = none.0 in omega (arith, from, to, zero))), (λ k h held appended. absurd (none.1 k h held appended))), past.1)
rewrite_table t least orderly front (Some n) is below =
    let one = least_in_rewrite t n orderly.parts front is in
    (one.0, one.1, (let low = below n refl in let same = one.2 in omega (arith, low, same)))

rewrite_group : (o : Option GroupTable) (least : ℕ) → IsOrderly (shown_in o) → FrontIsLeast (shown_in o) → ((n : ℕ) → least_in Rewrite (option_map (λ t. t.table) o) ≡ Some n → least ≤ n)
    → (k : ℕ) × IsLeastInRewrite (shown_in o) k × (least ≤ start_of k (shown_in o).noted)
rewrite_group None least orderly front below = (least, ((λ i from to. absurd (omega (arith, from, to))), (λ k h held appended. no_word h held)), omega arith)
rewrite_group (Some t) least orderly front below = rewrite_table t.table least orderly front (min_file Rewrite t.table) refl below

pub queue_may_begin : (queue : LogQueue) (limit least : ℕ) (m : MemTables) → IsLeastOf queue limit m least → ((g : ℕ) → IsOrderly (shown_of m g)) → ((g : ℕ) → FrontIsLeast (shown_of m g)) → MayLoseFiles (which_of queue) (shown_of m)
    → MayBegin (which_of queue) least (shown_of m)
queue_may_begin Append limit least m is orderly fronts owes = λ g. (owes g, append_group (get nat_cmp m.groups g) least (fronts g) (is.below g))
queue_may_begin Rewrite limit least m is orderly fronts owes = λ g. rewrite_group (get nat_cmp m.groups g) least (orderly g) (fronts g) (is.below g)

-- The exits.

remains_settled : (home : LogDirectories) (m : LogMap) (t : EngineState) (error : Error) → PurgeLeavesHeld home m t error → RemainsSettled home m t error
remains_settled home m t errors.Memory h = h
remains_settled home m t (errors.Other fault) h = h
remains_settled home m t errors.NumberRange h = h
remains_settled home m t errors.Failed h = h
remains_settled home m t _ h = absurd h

-- where a span begins whose first files went
span_begins : (queue : LogQueue) (home : LogDirectories) (v w : LogPipes) (n : ℕ) (s : State) → RunsOn (sense home) v s → PurgesQueue (which_of queue) n v w → (pipe_at (which_of queue) (files_of w)).first_seq ≡ n
span_begins Append home v w n s runs call = (let (on, step) = call (sense home) s runs in on.run.append.first)
span_begins Rewrite home v w n s runs call = (let (on, step) = call (sense home) s runs in on.run.rewrite.first)

module _ (queue : LogQueue) (limit : ℕ) (m : MemTables) (v w : LogPipes) (old new : BlockCache) (none : new.place ≡ None) (least : ℕ) (is : IsLeastOf queue limit m least) (later : IsLater v.disk w.disk) where
  begins : (home : LogDirectories) (log : LogMap) → HoldsSettled home (shows v m old) log → MayLoseFiles (which_of queue) (shown_of m) → MayBegin (which_of queue) least (shown_of m)
  begins home log h owes = queue_may_begin queue limit least m is h.meant.orderly (λ g. front_is_least h.state.append.files.last h.state.rewrite.files.last (shown_of m g) (h.rises g)) owes

  begins_there : (pipe_at (which_of queue) (files_of v)).first_seq ≤ least → PurgesQueue (which_of queue) least v w → (home : LogDirectories) (log : LogMap) → HoldsSettled home (shows v m old) log
      → (pipe_at (which_of queue) (files_of w)).first_seq ≡ max (pipe_at (which_of queue) (files_of v)).first_seq least
  begins_there above call home log h = (let there = span_begins queue home v w least h.state h.runs call in omega (arith, above, there))

  pub loses_files : (count : ℕ) → TellsFailure (Ok count) w → (pipe_at (which_of queue) (files_of v)).first_seq ≤ least → PurgesQueue (which_of queue) least v w
      → count ≡ least - (pipe_at (which_of queue) (files_of v)).first_seq → LosesFiles queue limit m count (shows v m old) (shows w m new)
  loses_files count tells above call counted = record {
    least = least;
    is = is;
    counted = counted;
    alive = λ lived. alive_ok count w tells;
    none = none;
    later = later;
    begins = begins_there above call;
    keeps = λ home log h owes. raised (which_of queue) home (shows v m old) (shows w m new) log least h (begins home log h owes) refl none call;
  }

  pub fails_to_lose : {A : Type 0} (error : Error) → TellsFailure {A = A} (Err error) w → (pipe_at (which_of queue) (files_of v)).first_seq ≤ least → FailsToPurgeQueue (which_of queue) least error v w → EndsNumbersBelow (which_of queue) error v
      → FailsToLoseFiles queue limit error (shows v m old) (shows w m new)
  fails_to_lose {A} error tells above call ends = record {
    tells = λ lived. tells_err {A = A} error w tells;
    later = later;
    remains = λ home log h owes.
        remains_settled home log (shows w m new) error
        (raise_refused (which_of queue) home (shows v m old) (shows w m new) log least error h (begins home log h owes) refl none call);
    cause = λ home log h. lose_reason queue limit least home error (shows v m old) (shows w m new) h.state is.limited above h.runs call ends;
  }

-- a file in use is older than the span: none goes
pub none_older : (queue : LogQueue) (limit : ℕ) (m : MemTables) (v : LogPipes) (old new : BlockCache) → new.place ≡ None → (least : ℕ) → IsLeastOf queue limit m least → least < (pipe_at (which_of queue) (files_of v)).first_seq
    → LosesFiles queue limit m 0 (shows v m old) (shows v m new)
none_older queue limit m v old new none least is low = record {
  least = least;
  is = is;
  counted = omega (arith, low);
  alive = λ lived. lived;
  none = none;
  later = same_later v.disk;
  begins = λ home log h. omega (arith, low);
  keeps = λ home log h owes. record {
    state = h.state;
    map = h.map;
    runs = h.runs;
    stored = h.stored;
    rises = h.rises;
    noted = h.noted;
    meant = h.meant;
    cached = none_kept h.state new none;
    at = h.at;
  };
}

-- What a purge tells, whichever way it went.

pub purged : (queue : LogQueue) (limit : ℕ) (m : MemTables) (v w : LogPipes) (old new : BlockCache) → new.place ≡ None → (least : ℕ) → IsLeastOf queue limit m least → IsLater v.disk w.disk → (r : Result ℕ Error) → TellsFailure r w
    → OnOk r (PurgesQueue (which_of queue) least v w)
    → IfOk r (λ count. IsInSpan least (pipe_at (which_of queue) (files_of v)) × (count ≡ least - (pipe_at (which_of queue) (files_of v)).first_seq))
    → IfOk r (λ count. LosesFiles queue limit m count (shows v m old) (shows w m new))
purged queue limit m v w old new none least is later (Ok count) tells call counted = loses_files queue limit m v w old new none least is later count tells counted.0.0 call counted.1
purged queue limit m v w old new none least is later (Err e) tells call counted = tt

pub not_purged : (queue : LogQueue) (limit : ℕ) (m : MemTables) (v w : LogPipes) (old new : BlockCache) → new.place ≡ None → (least : ℕ) → IsLeastOf queue limit m least → IsLater v.disk w.disk → (r : Result ℕ Error) → TellsFailure r w
    → (pipe_at (which_of queue) (files_of v)).first_seq ≤ least → IfErr r (λ error. FailsToPurgeQueue (which_of queue) least error v w) → IfErr r (λ error. EndsNumbersBelow (which_of queue) error v) → IfErr r (λ error. FailsToLoseFiles queue limit error (shows v m old) (shows w m new))
not_purged queue limit m v w old new none least is later (Ok count) tells above call ends = tt
not_purged queue limit m v w old new none least is later (Err e) tells above call ends = fails_to_lose queue limit m v w old new none least is later {A = ℕ} e tells above call ends
