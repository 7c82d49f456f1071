-- Where an open atomic group has begun, which records it has, and what counts once it ends.
use Rattle.std.proofs.Common.{◌≡◌, ◌⊎◌, ℕ, ◌==◌, true, false, if◌then◌else◌, List, [], ◌∷◌, ◌++◌, Option, Some, None, unwrap_or, refl, sym, ap, ◌∙◌, inl, inr, append_assoc, append-nil}
use Rattle.raft_log_model_laws.specs.Item.{Record, items_of, Tagged}
use Rattle.raft_log_model_laws.specs.Item.Record.{Plain, Part}
use Rattle.raft_log_model_laws.specs.Item.Mark.{Begin, Middle, End}
use Rattle.raft_log_model_laws.specs.Groups.{Open, none_open, onto, opens, opened, set_open, settle}
use Rattle.raft_log_model_laws.specs.Fragments.{Head, head}
use Rattle.raft_log_model_laws.specs.Fragments.Head.{GoesOn, Ends, BeginsAnew}
use Rattle.raft_log_model_laws.proofs.Public.{at_bool, from_eq_true, if_false, if_true}
use Rattle.raft_log_machine_laws.proofs.Public.{no_word}
use Rattle.raft_log_memtable_index.specs.Shown.{KeyValue}
use Rattle.raft_log_memtable_index.specs.Bridge.{Located}
use Rattle.raft_log_replay_context.specs.Records.{ReadItem, ReadRecord}
use Rattle.raft_log_replay_context.specs.Pieces.{seen_as, seen_by, Reading}
use Rattle.raft_log_replay_context.specs.Noting.{AllReadTo, AreWhereRead}

-- what is made of these records, one after another
abbrev pub all_seen : Reading → List ReadRecord → List ReadItem
all_seen φ [] = []
all_seen φ (r ∷ rs) = φ r.file (items_of r.taken) ++ all_seen φ rs

abbrev Opens : Type 0
Opens = Open Located KeyValue

-- What becomes of a group in the records: it goes on with some of them; or it ended; or it begins at one of
-- them and goes on with some behind that.
pub record GoesOnBy (k : ℕ) (rs : List ReadRecord) : Type 0 where
  pub more : List ReadRecord
  pub lie : AreWhereRead rs → AreWhereRead more
  pub upto : (n : ℕ) → AllReadTo n rs → AllReadTo n more
  pub opened_is : (φ : Reading) (o : Opens) → opened o (seen_by φ rs) k ≡ onto (o k) (all_seen φ more)

abbrev pub IsOver : ℕ → List ReadRecord → Type 0
IsOver k rs = (φ : Reading) (o : Opens) → opened o (seen_by φ rs) k ≡ None

pub record BeginsIn (k : ℕ) (rs : List ReadRecord) : Type 0 where
  pub front : List ReadRecord
  pub first : ReadRecord
  pub back : List ReadRecord
  pub more : List ReadRecord
  pub splits : front ++ (first ∷ back) ≡ rs
  pub lie : AreWhereRead rs → AreWhereRead (first ∷ more)
  pub upto : (n : ℕ) → AllReadTo n rs → AllReadTo n (first ∷ more)
  pub opened_is : (φ : Reading) (o : Opens) → opened o (seen_by φ rs) k ≡ Some (all_seen φ (first ∷ more))
  pub opened_here : (φ : Reading) (o : Opens) → opened o (seen_by φ (first ∷ back)) k ≡ Some (all_seen φ (first ∷ more))

onto_nil : (o : Option (List ReadItem)) → o ≡ onto o []
onto_nil None = refl
onto_nil (Some xs) = ap Some (sym (append-nil xs))

onto_twice : (o : Option (List ReadItem)) (xs ys : List ReadItem) → onto (onto o xs) ys ≡ onto o (xs ++ ys)
onto_twice None xs ys = refl
onto_twice (Some zs) xs ys = ap Some (append_assoc zs xs ys)

there : (o : Opens) (n k : ℕ) (v : Option (List ReadItem)) → (n == k) ≡ true → set_open o n v k ≡ v
there o n k v h = if_true (n == k) v (o k) h

elsewhere : (o : Opens) (n k : ℕ) (v : Option (List ReadItem)) → (n == k) ≡ false → set_open o n v k ≡ o k
elsewhere o n k v h = if_false (n == k) v (o k) h

abbrev Becomes : ℕ → List ReadRecord → Type 0
Becomes k rs = GoesOnBy k rs ⊎ (IsOver k rs ⊎ BeginsIn k rs)

-- a record that is not of the group
passes : (k : ℕ) (r : ReadRecord) (rs : List ReadRecord) (h : GoesOnBy k rs) → ((φ : Reading) (o : Opens) → opens o (seen_as φ r.file r.taken) k ≡ o k) → GoesOnBy k (r ∷ rs)
passes k r rs h same = record {
  more = h.more;
  lie = λ l. h.lie l.1;
  upto = λ m l. h.upto m l.1;
  opened_is = λ φ o. h.opened_is φ (opens o (seen_as φ r.file r.taken)) ∙ ap (λ v. onto v (all_seen φ h.more)) (same φ o);
}

next : (k n : ℕ) (x : Record Located KeyValue) (rs : List ReadRecord) (h : GoesOnBy k rs) → Becomes k (record { file = n; taken = x } ∷ rs)
next k n (Plain xs) rs h = inl (passes k (record { file = n; taken = Plain xs }) rs h (λ φ o. refl))
next k n (Part (Begin j) xs) rs h =
    let r : ReadRecord = record { file = n; taken = Part (Begin j) xs } in
    at_bool (j == k) (λ _. Becomes k (r ∷ rs))
    (λ e. inr (inr (record {
      front = [];
      first = r;
      back = rs;
      more = h.more;
      splits = refl;
      lie = λ l. (l.0, h.lie l.1);
      upto = λ m l. (l.0, h.upto m l.1);
      opened_is = λ φ o. h.opened_is φ (opens o (Part (Begin j) (φ n xs))) ∙ ap (λ v. onto v (all_seen φ h.more)) (there o j k (Some (φ n xs)) e);
      opened_here = λ φ o. h.opened_is φ (opens o (Part (Begin j) (φ n xs))) ∙ ap (λ v. onto v (all_seen φ h.more)) (there o j k (Some (φ n xs)) e);
    })))
    (λ e. inl (passes k r rs h (λ φ o. elsewhere o j k (Some (φ n xs)) e)))
next k n (Part (Middle j) xs) rs h =
    let r : ReadRecord = record { file = n; taken = Part (Middle j) xs } in
    at_bool (j == k) (λ _. Becomes k (r ∷ rs))
    (λ e. inl (record {
      more = r ∷ h.more;
      lie = λ l. (l.0, h.lie l.1);
      upto = λ m l. (l.0, h.upto m l.1);
      opened_is = λ φ o.
          h.opened_is φ (opens o (Part (Middle j) (φ n xs)))
          ∙ ap (λ v. onto v (all_seen φ h.more)) (there o j k (onto (o j) (φ n xs)) e ∙ ap (λ m. onto (o m) (φ n xs)) (from_eq_true j k e))
          ∙ onto_twice (o k) (φ n xs) (all_seen φ h.more);
    }))
    (λ e. inl (passes k r rs h (λ φ o. elsewhere o j k (onto (o j) (φ n xs)) e)))
next k n (Part (End j) xs) rs h =
    let r : ReadRecord = record { file = n; taken = Part (End j) xs } in
    at_bool (j == k) (λ _. Becomes k (r ∷ rs))
    (λ e. inr (inl (λ φ o. h.opened_is φ (opens o (Part (End j) (φ n xs))) ∙ ap (λ v. onto v (all_seen φ h.more)) (there o j k None e))))
    (λ e. inl (passes k r rs h (λ φ o. elsewhere o j k None e)))

becomes : (k : ℕ) (rs : List ReadRecord) → Becomes k rs
becomes k [] = inl (record { more = []; lie = λ l. tt; upto = λ m l. tt; opened_is = λ φ o. onto_nil (o k) })
becomes k (r ∷ rs) = elim (becomes k rs) [
  | inl h ↦ next k r.file r.taken rs h
  | inr (inl over) ↦ inr (inl (λ φ o. over φ (opens o (seen_as φ r.file r.taken))))
  | inr (inr b) ↦ inr (inr (record {
    front = r ∷ b.front;
    first = b.first;
    back = b.back;
    more = b.more;
    splits = ap (λ l. r ∷ l) b.splits;
    lie = λ l. b.lie l.1;
    upto = λ m l. b.upto m l.1;
    opened_is = λ φ o. b.opened_is φ (opens o (seen_as φ r.file r.taken));
    opened_here = b.opened_here;
  }))
]

-- so a group that is open has begun
pub begins : (k : ℕ) (rs : List ReadRecord) (φ : Reading) (z : List ReadItem) → opened none_open (seen_by φ rs) k ≡ Some z → BeginsIn k rs
begins k rs φ z is_open = elim (becomes k rs) [
  | inl h ↦ no_word z (sym (h.opened_is φ none_open) ∙ is_open)
  | inr (inl over) ↦ no_word z (sym (over φ none_open) ∙ is_open)
  | inr (inr b) ↦ b
]

-- What a group brings where it ends counts, among what else counts.
pub record Among {A : Type 0} (all part : List A) : Type 0 where
  pub before : List A
  pub behind : List A
  pub splits : all ≡ before ++ (part ++ behind)

later : {A : Type 0} (xs all part : List A) → Among all part → Among (xs ++ all) part
later xs all part h = record {
  before = xs ++ h.before;
  behind = h.behind;
  splits = ap (λ l. xs ++ l) h.splits ∙ sym (append_assoc xs h.before (part ++ h.behind));
}

same_end : {E V : Type 0} (xs ys : List (Tagged E V)) → ◌≡◌ {A = Head E V} (Ends xs) (Ends ys) → xs ≡ ys
same_end xs ys h = cc

not_on : {E V P : Type 0} (xs ys : List (Tagged E V)) → ◌≡◌ {A = Head E V} (GoesOn xs) (Ends ys) → P
not_on xs ys h = absurd (let never : ⊥ = cc in never)

not_anew : {E V P : Type 0} (ys : List (Tagged E V)) → ◌≡◌ {A = Head E V} BeginsAnew (Ends ys) → P
not_anew ys h = absurd (let never : ⊥ = cc in never)

pub ends_among : (k : ℕ) (base so_far w : List ReadItem) (o : Opens) (rs : List (Record Located KeyValue)) → o k ≡ Some (base ++ so_far) → head k so_far rs ≡ Ends w
    → Among (settle o rs) (base ++ w)
ends_among k base so_far w o [] is_open h = not_on so_far w h
ends_among k base so_far w o (Plain xs ∷ rs) is_open h = later xs (settle o rs) (base ++ w) (ends_among k base so_far w o rs is_open h)
ends_among k base so_far w o (Part (Begin j) xs ∷ rs) is_open h =
    at_bool (j == k) (λ b. (if b then BeginsAnew else head k so_far rs) ≡ Ends w → Among (settle (set_open o j (Some xs)) rs) (base ++ w))
    (λ e anew. not_anew w anew)
    (λ e on. ends_among k base so_far w (set_open o j (Some xs)) rs (elsewhere o j k (Some xs) e ∙ is_open) on) h
ends_among k base so_far w o (Part (Middle j) xs ∷ rs) is_open h =
    at_bool (j == k)
    (λ b. (if b then head k (so_far ++ xs) rs else head k so_far rs) ≡ Ends w → Among (settle (set_open o j (onto (o j) xs)) rs) (base ++ w))
    (λ e on. ends_among k base (so_far ++ xs) w (set_open o j (onto (o j) xs)) rs
    (there o j k (onto (o j) xs) e ∙ ap (λ m. onto (o m) xs) (from_eq_true j k e) ∙ ap (λ v. onto v xs) is_open ∙ ap Some (append_assoc base so_far xs)) on)
    (λ e on. ends_among k base so_far w (set_open o j (onto (o j) xs)) rs (elsewhere o j k (onto (o j) xs) e ∙ is_open) on) h
ends_among k base so_far w o (Part (End j) xs ∷ rs) is_open h =
    at_bool (j == k)
    (λ b. (if b then Ends (so_far ++ xs) else head k so_far rs) ≡ Ends w
    → Among (unwrap_or (onto (o j) xs) [] ++ settle (set_open o j None) rs) (base ++ w))
    (λ e now. record {
      before = [];
      behind = settle (set_open o j None) rs;
      splits = ap (λ l. l ++ settle (set_open o j None) rs)
          (ap (λ v. unwrap_or (onto v xs) []) (ap o (from_eq_true j k e) ∙ is_open) ∙ append_assoc base so_far xs ∙ ap (λ l. base ++ l) (same_end (so_far ++ xs) w now));
    })
    (λ e on. later (unwrap_or (onto (o j) xs) []) (settle (set_open o j None) rs) (base ++ w)
    (ends_among k base so_far w (set_open o j None) rs (elsewhere o j k None e ∙ is_open) on)) h

-- What some records do with a group that is open before them: each time with some of the records.
pub data HeadIs (k : ℕ) (rs : List ReadRecord) : Type 0 where
  On : (more : List ReadRecord) → ((φ : Reading) (acc : List ReadItem) → head k acc (seen_by φ rs) ≡ GoesOn (acc ++ all_seen φ more)) → (AreWhereRead rs → AreWhereRead more)
      → ((n : ℕ) → AllReadTo n rs → AllReadTo n more) → HeadIs k rs
  Over : (more : List ReadRecord) → ((φ : Reading) (acc : List ReadItem) → head k acc (seen_by φ rs) ≡ Ends (acc ++ all_seen φ more)) → (AreWhereRead rs → AreWhereRead more)
      → ((n : ℕ) → AllReadTo n rs → AllReadTo n more) → HeadIs k rs
  Anew : ((φ : Reading) (acc : List ReadItem) → head k acc (seen_by φ rs) ≡ BeginsAnew) → HeadIs k rs

skips : (k : ℕ) (r : ReadRecord) (rs : List ReadRecord) → ((φ : Reading) (acc : List ReadItem) → head k acc (seen_by φ (r ∷ rs)) ≡ head k acc (seen_by φ rs)) → HeadIs k rs → HeadIs k (r ∷ rs)
skips k r rs same (On more is lie upto) = On more (λ φ acc. same φ acc ∙ is φ acc) (λ l. lie l.1) (λ n l. upto n l.1)
skips k r rs same (Over more is lie upto) = Over more (λ φ acc. same φ acc ∙ is φ acc) (λ l. lie l.1) (λ n l. upto n l.1)
skips k r rs same (Anew is) = Anew (λ φ acc. same φ acc ∙ is φ acc)

takes_in : (k : ℕ) (r : ReadRecord) (rs : List ReadRecord)
    → ((φ : Reading) (acc : List ReadItem) → head k acc (seen_by φ (r ∷ rs)) ≡ head k (acc ++ φ r.file (items_of r.taken)) (seen_by φ rs)) → HeadIs k rs → HeadIs k (r ∷ rs)
takes_in k r rs same (On more is lie upto) =
    On (r ∷ more) (λ φ acc. same φ acc ∙ is φ (acc ++ φ r.file (items_of r.taken)) ∙ ap GoesOn (append_assoc acc (φ r.file (items_of r.taken)) (all_seen φ more))) (λ l. (l.0, lie l.1))
    (λ n l. (l.0, upto n l.1))
takes_in k r rs same (Over more is lie upto) =
    Over (r ∷ more) (λ φ acc. same φ acc ∙ is φ (acc ++ φ r.file (items_of r.taken)) ∙ ap Ends (append_assoc acc (φ r.file (items_of r.taken)) (all_seen φ more))) (λ l. (l.0, lie l.1))
    (λ n l. (l.0, upto n l.1))
takes_in k r rs same (Anew is) = Anew (λ φ acc. same φ acc ∙ is φ (acc ++ φ r.file (items_of r.taken)))

next_head : (k n : ℕ) (x : Record Located KeyValue) (rs : List ReadRecord) → HeadIs k rs → HeadIs k (record { file = n; taken = x } ∷ rs)
next_head k n (Plain xs) rs h = skips k (record { file = n; taken = Plain xs }) rs (λ φ acc. refl) h
next_head k n (Part (Begin j) xs) rs h =
    let r : ReadRecord = record { file = n; taken = Part (Begin j) xs } in
    at_bool (j == k) (λ _. HeadIs k (r ∷ rs))
    (λ e. Anew (λ φ acc. if_true (j == k) BeginsAnew (head k acc (seen_by φ rs)) e))
    (λ e. skips k r rs (λ φ acc. if_false (j == k) BeginsAnew (head k acc (seen_by φ rs)) e) h)
next_head k n (Part (Middle j) xs) rs h =
    let r : ReadRecord = record { file = n; taken = Part (Middle j) xs } in
    at_bool (j == k) (λ _. HeadIs k (r ∷ rs))
    (λ e. takes_in k r rs (λ φ acc. if_true (j == k) (head k (acc ++ φ n xs) (seen_by φ rs)) (head k acc (seen_by φ rs)) e) h)
    (λ e. skips k r rs (λ φ acc. if_false (j == k) (head k (acc ++ φ n xs) (seen_by φ rs)) (head k acc (seen_by φ rs)) e) h)
next_head k n (Part (End j) xs) rs h =
    let r : ReadRecord = record { file = n; taken = Part (End j) xs } in
    at_bool (j == k) (λ _. HeadIs k (r ∷ rs))
    (λ e. Over (r ∷ []) (λ φ acc. if_true (j == k) (Ends (acc ++ φ n xs)) (head k acc (seen_by φ rs)) e ∙ ap (λ l. Ends (acc ++ l)) (sym (append-nil (φ n xs)))) (λ l. (l.0, tt)) (λ m l. (l.0, tt)))
    (λ e. skips k r rs (λ φ acc. if_false (j == k) (Ends (acc ++ φ n xs)) (head k acc (seen_by φ rs)) e) h)

head_is : (k : ℕ) (rs : List ReadRecord) → HeadIs k rs
head_is k [] = On [] (λ φ acc. ap GoesOn (sym (append-nil acc))) (λ l. tt) (λ n l. tt)
head_is k (r ∷ rs) = next_head k r.file r.taken rs (head_is k rs)

-- the records of a group that ends, up to its end
pub record EndsBy (k : ℕ) (rs : List ReadRecord) : Type 0 where
  pub more : List ReadRecord
  pub head_is : (φ : Reading) → head k [] (seen_by φ rs) ≡ Ends (all_seen φ more)
  pub lie : AreWhereRead rs → AreWhereRead more
  pub upto : (n : ℕ) → AllReadTo n rs → AllReadTo n more

pub ends_by : (k : ℕ) (rs : List ReadRecord) (φ : Reading) (w : List ReadItem) → head k [] (seen_by φ rs) ≡ Ends w → EndsBy k rs
ends_by k rs φ w h = by_head (head_is k rs)
  where
    by_head : HeadIs k rs → EndsBy k rs
    by_head (On more is lie upto) = not_on ([] ++ all_seen φ more) w (sym (is φ []) ∙ h)
    by_head (Over more is lie upto) = record { more = more; head_is = λ ψ. is ψ []; lie = lie; upto = upto }
    by_head (Anew is) = not_anew w (sym (is φ []) ∙ h)

pub same_ends : (xs ys : List ReadItem) → ◌≡◌ {A = Head Located KeyValue} (Ends xs) (Ends ys) → xs ≡ ys
same_ends xs ys h = cc

pub seen_both : (φ : Reading) (rs qs : List ReadRecord) → all_seen φ (rs ++ qs) ≡ all_seen φ rs ++ all_seen φ qs
seen_both φ [] qs = refl
seen_both φ (r ∷ rs) qs = ap (λ l. φ r.file (items_of r.taken) ++ l) (seen_both φ rs qs) ∙ sym (append_assoc (φ r.file (items_of r.taken)) (all_seen φ rs) (all_seen φ qs))

pub lie_both : (rs qs : List ReadRecord) → AreWhereRead rs → AreWhereRead qs → AreWhereRead (rs ++ qs)
lie_both [] qs l m = m
lie_both (r ∷ rs) qs l m = (l.0, lie_both rs qs l.1 m)

pub lie_front : (rs qs : List ReadRecord) → AreWhereRead (rs ++ qs) → AreWhereRead rs
lie_front [] qs l = tt
lie_front (r ∷ rs) qs l = (l.0, lie_front rs qs l.1)

pub lie_back : (rs qs : List ReadRecord) → AreWhereRead (rs ++ qs) → AreWhereRead qs
lie_back [] qs l = l
lie_back (r ∷ rs) qs l = lie_back rs qs l.1

pub upto_both : (n : ℕ) (rs qs : List ReadRecord) → AllReadTo n rs → AllReadTo n qs → AllReadTo n (rs ++ qs)
upto_both n [] qs l m = m
upto_both n (r ∷ rs) qs l m = (l.0, upto_both n rs qs l.1 m)

pub upto_front : (n : ℕ) (rs qs : List ReadRecord) → AllReadTo n (rs ++ qs) → AllReadTo n rs
upto_front n [] qs l = tt
upto_front n (r ∷ rs) qs l = (l.0, upto_front n rs qs l.1)

pub upto_back : (n : ℕ) (rs qs : List ReadRecord) → AllReadTo n (rs ++ qs) → AllReadTo n qs
upto_back n [] qs l = l
upto_back n (r ∷ rs) qs l = upto_back n rs qs l.1
