-- What a table's places mean follows the batch.
use Rattle.std.proofs.Common.{◌≡◌, ℕ, ◌+◌, ◌-◌, min, Bool, true, false, ◌&&◌, List, [], ◌∷◌, map, Option, Some, None, option_map, unwrap_or, slice_get, if◌then◌else◌, nat_le, nat_lt, bytes_eq, refl, sym, ap, ap₂, subst, ◌∙◌}
use Rattle.std.proofs.lemmas.Option.{slice_get-map}
use Rattle.std.proofs.Math.Path.{fun_ext}
use Rattle.raft_log_model_laws.specs.Item.{Item}
use Rattle.raft_log_model_laws.specs.Item.Item.{Run, Clean, Compact, Put, Del}
use Rattle.raft_log_model_laws.specs.Meaning.{Slot, Content, write, says, after}
use Rattle.raft_log_model_laws.specs.Meaning.Slot.{Index, Key}
use Rattle.raft_log_model_laws.specs.Meaning.Content.{Entry, Value}
use Rattle.raft_log_model_laws.specs.Holes.{Window, FitsOn}
use Rattle.raft_log_model_laws.specs.Table.{Table, content, span_of, table_step}
use Rattle.raft_log_model_laws.specs.Renamed.{renamed, renamed_content, renamed_word}
use Rattle.raft_log_model_laws.proofs.Public.{table_takes, unwrap_or_option_or, write_renamed}
use Rattle.raft_log_extents.specs.declared.place.Place.{Place}
use Rattle.raft_log_memtable_index.specs.Shown.{KeyValue, Shown, with_held, with_run, stepped, all_stepped, span, IsOrderly, MayFollow, MayAllFollow}
use Rattle.raft_log_memtable_index.specs.Bridge.{Located, in_queue, bytes_held, table_of, written, IsMeant}
use Rattle.raft_log_memtable_index.proofs.Queues.{located_length, located_run, located_drop}
use Rattle.raft_log_memtable_index.proofs.Spans.{orderly_stepped}
use Rattle.raft_log_memtable_index.proofs.Grow.{follow_on}

-- the item with its places in Append
abbrev pub in_append : Item Place (List ℕ) → Item Located (List ℕ)
in_append x = renamed (in_queue true) x

pub tables : (t u : Table Located (List ℕ)) → t.first ≡ u.first → t.entries ≡ u.entries → t.values ≡ u.values → t ≡ u
tables t u e h k = ap₂ (λ f es. record { first = f; entries = es; values = t.values }) e h ∙ ap (λ w. record { first = u.first; entries = u.entries; values = w }) k

bytes_of : (b : Bool) (h old : Option KeyValue) → bytes_held (if b then h else old) ≡ (if b then bytes_held h else bytes_held old)
bytes_of true h old = refl
bytes_of false h old = refl

pub values_with : (v : Shown) (k : List ℕ) (h : Option KeyValue)
    → ◌≡◌ {A = List ℕ → Option (List ℕ)} (λ q. bytes_held (with_held v.held k h q)) (λ q. if bytes_eq k q then bytes_held h else bytes_held (v.held q))
values_with v k h = fun_ext (λ q. bytes_of (bytes_eq k q) h (v.held q))

-- what shows follows an item as a table of the model does
table_stepped : (n : ℕ) (v : Shown) (x : Item Place (List ℕ)) → IsOrderly v → table_of (stepped n v x) ≡ table_step (table_of v) (in_append x)
table_stepped n v (Run f []) o = refl
table_stepped n v (Run f (p ∷ ps)) o =
    tables (table_of (with_run v f (p ∷ ps))) (table_step (table_of v) (in_append (Run f (p ∷ ps))))
    (ap (λ l. if nat_lt v.first f && nat_lt 0 l then v.first else f) (sym (located_length v.rewritten v.places)))
    (located_run (min v.rewritten (f - v.first)) v.rewritten (f - v.first) v.places (p ∷ ps) refl o.parts) refl
table_stepped n v Clean o = refl
table_stepped n v (Compact c) o =
    tables (table_of (stepped n v (Compact c))) (table_step (table_of v) (Compact c))
    (ap (λ l. v.first + min (c - v.first) l) (sym (located_length v.rewritten v.places)))
    (located_drop (v.rewritten - (c - v.first)) v.rewritten (c - v.first) v.places refl) refl
table_stepped n v (Put k w) o = ap (λ h. record (table_of v) { values = h }) (values_with v k (Some (record { bytes = w; appended = true; file = n })))
table_stepped n v (Del k) o = ap (λ h. record (table_of v) { values = h }) (values_with v k None)

pub span_of_table : (v : Shown) → ◌≡◌ {A = Window} (span v) (span_of (table_of v))
span_of_table v = ap (λ l. record { first = v.first; end = v.first + l }) (sym (located_length v.rewritten v.places))

fits_renamed : {E F V : Type 0} (f : E → F) (w : Window) (x : Item E V) → FitsOn w x → FitsOn w (renamed f x)
fits_renamed f w (Run n []) h = h
fits_renamed f w (Run n (e ∷ es)) h = h
fits_renamed f w Clean h = h
fits_renamed f w (Compact c) h = h
fits_renamed f w (Put k v) h = h
fits_renamed f w (Del k) h = h

word_else : {E F V : Type 0} (f : E → F) (a : Option (Option (Content E V))) (d : Option (Content E V))
    → option_map (renamed_content f) (unwrap_or a d) ≡ unwrap_or (renamed_word f a) (option_map (renamed_content f) d)
word_else f None d = refl
word_else f (Some a) d = refl

renamed_twice : {E : Type 0} (at : Located → E) (s : Slot) (x : Item Place (List ℕ))
    → renamed_word at (write s (in_append x)) ≡ write s (written at x)
renamed_twice at s (Run f ps) =
    ap (renamed_word at) (write_renamed (in_queue true) s (Run f ps)) ∙ twice (write s (Run f ps)) ∙ sym (write_renamed (λ p. at (in_queue true p)) s (Run f ps))
  where
    content_twice : (c : Option (Content Place (List ℕ))) → option_map (renamed_content at) (option_map (renamed_content (in_queue true)) c) ≡ option_map (renamed_content (λ p. at (in_queue true p))) c
    content_twice None = refl
    content_twice (Some (Entry e)) = refl
    content_twice (Some (Value v)) = refl

    twice : (w : Option (Option (Content Place (List ℕ)))) → renamed_word at (renamed_word (in_queue true) w) ≡ renamed_word (λ p. at (in_queue true p)) w
    twice None = refl
    twice (Some c) = ap Some (content_twice c)
renamed_twice at (Index i) Clean = refl
renamed_twice at (Key q) Clean = refl
renamed_twice at s (Compact c) = sym (write_renamed at s (Compact c))
renamed_twice at s (Put k v) = sym (write_renamed at s (Put k v))
renamed_twice at s (Del k) = sym (write_renamed at s (Del k))

module _ {E : Type 0} (at : Located → E) where
  -- one item puts its word on the map
  step_meant : (n : ℕ) (v : Shown) (x : Item Place (List ℕ)) (m : Slot → Option (Content E (List ℕ))) → IsOrderly v → MayFollow (span v) x
      → IsMeant at v m → IsMeant at (stepped n v x) (λ s. unwrap_or (write s (written at x)) (m s))
  step_meant n v x m o h meant s =
      ap (λ t. option_map (renamed_content at) (content t s)) (table_stepped n v x o)
      ∙ ap (option_map (renamed_content at)) (table_takes (table_of v) (in_append x) s (subst (λ w. FitsOn w (in_append x)) (span_of_table v) (fits_renamed (in_queue true) (span v) x h.0)))
      ∙ word_else at (write s (in_append x)) (content (table_of v) s)
      ∙ ap₂ unwrap_or (renamed_twice at s x) (meant s)

  -- and so does item after item
  pub batch_meant : (n : ℕ) (v : Shown) (xs : List (Item Place (List ℕ))) (m : Slot → Option (Content E (List ℕ))) → IsOrderly v → MayAllFollow (span v) xs
      → IsMeant at v m → IsMeant at (all_stepped n v xs) (after m (map (written at) xs))
  batch_meant n v [] m o h meant s = meant s
  batch_meant n v (x ∷ xs) m o h meant s =
      batch_meant n (stepped n v x) xs (λ q. unwrap_or (write q (written at x)) (m q)) (orderly_stepped n v x o h.0) (follow_on n v x xs h.0 h.1) (step_meant n v x m o h.0 meant) s
      ∙ sym (unwrap_or_option_or (says s (map (written at) xs)) (write s (written at x)) (m s))

-- a value stands as it is
value_stays : {E F V : Type 0} (f : E → F) (o : Option V)
    → ◌≡◌ {A = Option (Content F V)} (option_map (renamed_content f) (option_map Value o)) (option_map Value o)
value_stays f None = refl
value_stays f (Some v) = refl

entry_bytes : {E F V : Type 0} (f : E → F) (o : Option E)
    → ◌≡◌ {A = Option (Content F V)} (option_map (renamed_content f) (option_map Entry o)) (option_map Entry (option_map f o))
entry_bytes f None = refl
entry_bytes f (Some e) = refl

content_if : {E F V : Type 0} (f : E → F) (b : Bool) (o : Option E)
    → ◌≡◌ {A = Option (Content F V)} (option_map (renamed_content f) (if b then option_map Entry o else None)) (if b then option_map Entry (option_map f o) else None)
content_if f true o = entry_bytes f o
content_if f false o = refl

-- what stands in a table, told by the bytes of its entries
pub content_bytes : {E F : Type 0} (at : E → F) (t : Table E (List ℕ)) (i : ℕ)
    → ◌≡◌ {A = Option (Content F (List ℕ))} (option_map (renamed_content at) (content t (Index i))) (if nat_le t.first i then option_map Entry (slice_get (map at t.entries) (i - t.first)) else None)
content_bytes at t i =
    content_if at (nat_le t.first i) (slice_get t.entries (i - t.first))
    ∙ ap (λ o. if nat_le t.first i then option_map Entry o else None) (sym (slice_get-map at t.entries (i - t.first)))

-- only the bytes at a table's own places matter, and which values are held
pub same_bytes : {E F H : Type 0} (at : E → H) (other : F → H) (t : Table E (List ℕ)) (u : Table F (List ℕ)) → u.first ≡ t.first → map other u.entries ≡ map at t.entries
    → ((k : List ℕ) → u.values k ≡ t.values k) → (s : Slot) → option_map (renamed_content other) (content u s) ≡ option_map (renamed_content at) (content t s)
same_bytes {H = H} at other t u first entries values (Index i) =
    content_bytes other u i
    ∙ ap₂ {C = Option (Content H (List ℕ))} (λ n es. if nat_le n i then option_map Entry (slice_get es (i - n)) else None) first entries
    ∙ sym (content_bytes at t i)
same_bytes at other t u first entries values (Key k) = value_stays other (u.values k) ∙ ap (option_map Value) (values k) ∙ sym (value_stays at (t.values k))
