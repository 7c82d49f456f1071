-- What shows of a group once the parts that restate it moved: all that it has in Rewrite lies where they lie.
use Rattle.std.proofs.Common.{◌≡◌, ℕ, zero, suc, ◌+◌, ◌-◌, ◌<◌, ◌≤◌, inl, max, min, nat_le, nat_lt, slice_get, Bool, true, false, not, List, [], ◌∷◌, ◌++◌, length, take, drop, Option, Some, None, is_some, if◌then◌else◌, refl, sym, ap, subst, ◌∙◌, arith, append-nil}
use Rattle.std.proofs.lemmas.Bool.{false≢true}
use Rattle.std.proofs.lemmas.List.{take_at}
use Rattle.raft_log_machine_laws.specs.Whereabouts.{top}
use Rattle.raft_log_machine_laws.proofs.Public.{no_word}
use Rattle.raft_log_extents.specs.declared.place.Place.{Place}
use Rattle.raft_log_memtable_index.specs.declared.group_files.GroupFiles.{GroupFiles}
use Rattle.raft_log_memtable_index.specs.Shown.{IsOrderly, KeyValue, Shown}
use Rattle.raft_log_memtable_index.specs.Noted.{IsLeastInRewrite, noting, place_file}
use Rattle.raft_log_memtable_index.specs.Listing.{ListsAll, asked_bytes, rewritten_values}
use Rattle.raft_log_engine_laws.specs.raft_log_memtable.specs.Moves.{rewritten_at, rewritten_to}
use Rattle.raft_log_engine_laws.specs.raft_log_memtable.specs.Files.{ArePast, IsLeastRewritten, noted_after}
use Rattle.raft_log_engine_laws.specs.raft_log_memtable.proofs.Public.{begins_past, notes_past}
use Rattle.raft_log_block_cache.specs.Stored.{Each}
use Rattle.raft_log_engine_laws.specs.Parts.{WrittenPart}
use Rattle.raft_log_engine_laws.specs.Whole.{all_places, filed_in, parts_moved}
use Rattle.raft_log_engine_laws.specs.Restating.{HoldsRewritten}
use Rattle.raft_log_engine_laws.proofs.Public.{all_filed, all_parts, first_pieces_move, one_part}
use Rattle.raft_log_purge_copy.proofs.KeyCopies.{EachOf, after, each_after, each_listed, shown_after}
use Rattle.raft_log_purge_copy.specs.Pieces.{put_items}
use Rattle.raft_log_purge_copy.specs.Owed.{OwesSame}
use Rattle.raft_log_purge_copy.specs.Restated.{LieFrom, IsNotedFrom, IsRestatedFrom}
use Rattle.raft_log_purge_copy.proofs.Parting.{PartsFrom, WholeFiled, key_bytes}

-- Keys that are listed stand in Rewrite.

asked_rewritten : (o : Option KeyValue) (w : List ℕ) → asked_bytes None o ≡ Some w → (h : KeyValue) × (o ≡ Some h) × (h.bytes ≡ w) × (h.appended ≡ false)
asked_rewritten None w asked = no_word w asked
asked_rewritten (Some x) w asked = by x.appended refl
  where
    by : (b : Bool) → x.appended ≡ b → (h : KeyValue) × (◌≡◌ {A = Option KeyValue} (Some x) (Some h)) × (h.bytes ≡ w) × (h.appended ≡ false)
    by true is = no_word w (subst (λ (b : Bool). ◌≡◌ {A = Option (List ℕ)} (if not b then Some x.bytes else None) (Some w)) is asked)
    by false is =
        let told : ◌≡◌ {A = Option (List ℕ)} (Some x.bytes) (Some w) = subst (λ (b : Bool). ◌≡◌ {A = Option (List ℕ)} (if not b then Some x.bytes else None) (Some w)) is asked in
        let same : x.bytes ≡ w = cc in (x, refl, same, is)

all_held : (v : Shown) (pairs : List (List ℕ × List ℕ)) → EachOf (rewritten_values v) pairs → Each (HoldsRewritten v) (key_bytes pairs)
all_held v [] all = tt
all_held v (e ∷ es) (one, rest) = (let k = asked_rewritten (v.held e.0) e.1 one in (record { held = k.0; is = k.1; bytes = k.2; rewritten = k.3 }, all_held v es rest))

pub listed_held : (v : Shown) (pairs : List (List ℕ × List ℕ)) → ListsAll (rewritten_values v) pairs → Each (HoldsRewritten v) (key_bytes pairs)
listed_held v pairs lists = all_held v pairs (each_listed (rewritten_values v) pairs lists.rising lists.exact)

-- What shows then.

pub whole_shown : (v : Shown) (g : ℕ) (pairs : List (List ℕ × List ℕ)) (ps : List WrittenPart) (w : WholeFiled g v.first v.rewritten pairs ps) → IsOrderly v
    → parts_moved None g ps v ≡ record (rewritten_at v 0 (all_places w.runs)) { held = after None w.file v.held pairs }
whole_shown v g pairs ps w o =
    let many = w.many in
    let u : Shown = rewritten_at v 0 (all_places w.runs) in
    all_parts None g ps v
    ∙ ap (all_filed None v) w.items
    ∙ first_pieces_move None v w.runs (filed_in w.file (put_items pairs)) o (omega (arith, many))
    ∙ ap (all_filed None u) (sym (append-nil (filed_in w.file (put_items pairs))))
    ∙ one_part None w.file u (put_items pairs) []
    ∙ shown_after None w.file u pairs

-- the value of a key that is written again if it stands in Rewrite
moved_value : (file n : ℕ) (o : Option KeyValue) (h : KeyValue) → n ≤ file → (if is_some (asked_bytes None o) then rewritten_to None file o else o) ≡ Some h → h.appended ≡ false → n ≤ h.file
moved_value file n None h low is rewritten = no_word h is
moved_value file n (Some x) h low is rewritten = by x.appended refl
  where
    moved : Bool → Option KeyValue
    moved b = if is_some (if not b then Some x.bytes else None) then (if not b then Some (record { bytes = x.bytes; appended = false; file = file }) else Some x) else Some x

    by : (b : Bool) → x.appended ≡ b → n ≤ h.file
    by true there =
        let told : ◌≡◌ {A = Option KeyValue} (Some x) (Some h) = subst (λ (b : Bool). moved b ≡ Some h) there is in
        let same : x ≡ h = cc in absurd (false≢true (sym rewritten ∙ ap (λ (k : KeyValue). k.appended) (sym same) ∙ there))
    by false there =
        let told : ◌≡◌ {A = Option KeyValue} (Some (record { bytes = x.bytes; appended = false; file = file })) (Some h) = subst (λ (b : Bool). moved b ≡ Some h) there is in
        let same : ◌≡◌ {A = KeyValue} (record { bytes = x.bytes; appended = false; file = file }) h = cc in
        let where_it_is : file ≡ h.file = ap (λ (k : KeyValue). k.file) same in omega (arith, where_it_is, low)

-- All that stands in Rewrite lies from that file on, what was noted is noted, and what was owed is owed.
pub record LiesFrom (n : ℕ) (v u : Shown) : Type 0 where
  pub entries : LieFrom n (take u.rewritten u.places)
  pub values : (k : List ℕ) (h : KeyValue) → u.held k ≡ Some h → h.appended ≡ false → n ≤ h.file
  pub noted : u.noted ≡ v.noted
  pub owes : OwesSame v u

module _ (v : Shown) (g : ℕ) (pairs : List (List ℕ × List ℕ)) (ps : List WrittenPart) (w : WholeFiled g v.first v.rewritten pairs ps) (o : IsOrderly v) (lists : ListsAll (rewritten_values v) pairs) (n : ℕ) (low : PartsFrom n ps) where
  abbrev places : List Place
  places = all_places w.runs

  abbrev final : Shown
  final = record (rewritten_at v 0 places) { held = after None w.file v.held pairs }

  front : take final.rewritten final.places ≡ places
  front =
      let many = w.many in
      let reach : max v.rewritten (0 + length places) ≡ length places = omega (arith, many) in
      ap (λ (k : ℕ). take k (places ++ drop (0 + length places) v.places)) reach ∙ take_at places (drop (0 + length places) v.places) (length places) refl

  lies_there : LiesFrom n v final
  lies_there = record {
    entries = subst (LieFrom n) (sym front) (w.from n low).0;
    values = λ k h held rewritten.
        moved_value w.file n (v.held k) h (w.from n low).1
        (ap (λ (x : Option (List ℕ)). if is_some x then rewritten_to None w.file (v.held k) else v.held k) (sym (lists.exact k)) ∙ sym (each_after None w.file v.held pairs k) ∙ held) rewritten;
    noted = refl;
    owes = record {
      cleaned = refl;
      compact = ap (λ (n : ℕ). if v.compacted then Some (if nat_lt 0 n then v.first else top) else None) (let many = w.many in let same : max v.rewritten (0 + length places) ≡ v.rewritten = omega (arith, many) in same);
      deleted = refl;
    };
  }

  pub whole_lies : LiesFrom n v (parts_moved None g ps v)
  whole_lies = subst (LiesFrom n v) (sym (whole_shown v g pairs ps w o)) lies_there

-- What is restated.

-- nothing was noted
pub restated_plain : (n : ℕ) (v u : Shown) → LiesFrom n v u → IsRestatedFrom n v u
restated_plain n v u lies = record {
  entries = lies.entries;
  values = lies.values;
  noted = λ k low from. subst (IsNotedFrom k) (sym lies.noted) from;
  past = λ k low past. subst (ArePast k) (sym lies.noted) past;
  owes = lies.owes;
}

-- what lies from a file on lies in no file before it
each_from : (n : ℕ) (ps : List Place) (count j : ℕ) → j < count → count ≤ length ps → LieFrom n (take count ps) → n ≤ place_file (slice_get ps j)
each_from n [] count j less within all = absurd (omega (arith, less, within))
each_from n (p ∷ ps) zero j less within all = absurd (omega (arith, less))
each_from n (p ∷ ps) (suc count) zero less within (first, rest) = first
each_from n (p ∷ ps) (suc count) (suc j) less within (first, rest) = each_from n ps count j (omega (arith, less)) (omega (arith, within)) rest

pub least_from : (n : ℕ) (u : Shown) → u.rewritten ≤ length u.places → LieFrom n (take u.rewritten u.places)
    → ((k : List ℕ) (h : KeyValue) → u.held k ≡ Some h → h.appended ≡ false → n ≤ h.file) → IsLeastInRewrite u n
least_from n u within entries values = (λ i from to. each_from n u.places u.rewritten (i - u.first) (omega (arith, from, to)) within entries, values)

lower_least : (v : Shown) (n m : ℕ) → m ≤ n → IsLeastInRewrite v n → IsLeastInRewrite v m
lower_least v n m low is = (
  λ i from to. (let one = is.0 i from to in omega (arith, low, one)),
  λ k h held rewritten. (let one = is.1 k h held rewritten in omega (arith, low, one)),
)

-- noted groups that begin past a file, or end at or before it, do so once a group is noted that begins past it
after_past : (v : Shown) (k : ℕ) (least : Option ℕ) (new : GroupFiles) → IsLeastInRewrite v (k + 1) → IsLeastRewritten v least → k < new.from → ArePast k v.noted
    → ArePast k (Some (noted_after least v.noted new))
after_past v k None new low is from past = inl from
after_past v k (Some m) new low is from past = notes_past v k m new (begins_past (record v { noted = None }) k m low tt (Some m, is, refl)) from past

noting_from : (k least : ℕ) (old : Option GroupFiles) (new : GroupFiles) → IsNotedFrom k old → k ≤ new.from → k ≤ (noting least old new).from
noting_from k least None new from low = low
noting_from k least (Some files) new from low = by (nat_le least files.to)
  where
    by : (b : Bool) → k ≤ (if b then (record { from = min files.from new.from; to = max files.to new.to }) else new).from
    by true = omega (arith, from, low)
    by false = low

after_from : (k : ℕ) (least : Option ℕ) (old : Option GroupFiles) (new : GroupFiles) → IsNotedFrom k old → k ≤ new.from → k ≤ (noted_after least old new).from
after_from k None old new from low = low
after_from k (Some least) old new from low = noting_from k least old new from low

-- an atomic group was noted that lies from there on
pub restated_noted : (n : ℕ) (v u w : Shown) (least : Option ℕ) (files : GroupFiles) → LiesFrom n v u → u.rewritten ≤ length u.places → n ≤ files.from → IsLeastRewritten u least → w ≡ record u { noted = Some (noted_after least u.noted files) } → IsRestatedFrom n v w
restated_noted n v u w least files lies within low is_least is =
    subst (IsRestatedFrom n v) (sym is) (record {
      entries = lies.entries;
      values = lies.values;
      noted = λ k few from. after_from k least u.noted files (subst (IsNotedFrom k) (sym lies.noted) from) (omega (arith, few, low));
      past = λ k few past.
          after_past u k least files (lower_least u n (k + 1) (omega (arith, few)) (least_from n u within lies.entries lies.values)) is_least (omega (arith, few, low))
          (subst (ArePast k) (sym lies.noted) past);
      owes = record { cleaned = lies.owes.cleaned; compact = lies.owes.compact; deleted = lies.owes.deleted };
    })
