-- Pieces: what a segment has of atomic groups that are only partly in it. A segment (not a segment file) is a list of
-- consecutive records that one worker reads by itself. It may begin within an atomic group, and leave one open at its
-- end.
use Rattle.std.specs.Prelude.{◌≡◌, ℕ, ◌-◌, min, max, slice_get, ◌==◌, Bool, false, List, [], ◌∷◌, ◌++◌, map, length, Option, Some, None, codes}
use Rattle.std.specs.String.{string_bytes}
use Rattle.std.specs.Global.{Vec}
use Rattle.std.specs.BTreeMap.{get}
use Rattle.std.specs.Ordering.{nat_cmp}
use Rattle.raft_log_model_laws.specs.Item.{Mark, Record}
use Rattle.raft_log_model_laws.specs.Item.Record.{Part, Plain}
use Rattle.raft_log_model_laws.specs.Item.Item.{Compact}
use Rattle.raft_log_model_laws.specs.Item.Mark.{End}
use Rattle.raft_log_model_laws.specs.Groups.{counts, none_open, opened}
use Rattle.raft_log_model_laws.specs.Fragments.{carried_on, completed, head, then_head, unfinished, Head, Unfinished}
use Rattle.raft_log_model_laws.specs.Fragments.Head.{GoesOn, Ends, BeginsAnew}
use Rattle.raft_log_record_base.specs.declared.errors.Error.{Error}
use Rattle.raft_log_record_base.specs.declared.errors.Error.TheVariants as errors
use Rattle.raft_log_memtable_index.specs.declared.group_files.GroupFiles.{GroupFiles}
use Rattle.raft_log_memtable_index.specs.Shown.{KeyValue}
use Rattle.raft_log_memtable_index.specs.Bridge.{Located}
use Rattle.raft_log_replay_context.specs.declared.part.GroupPart.{GroupPart}
use Rattle.raft_log_replay_context.specs.declared.head.GroupHead.{GroupHead}
use Rattle.raft_log_replay_context.specs.declared.head.GroupHead.TheVariants as code
use Rattle.raft_log_replay_context.specs.declared.open_groups.OpenGroup.{OpenGroup}
use Rattle.raft_log_replay_context.specs.declared.pieces.GroupPieces.{GroupPieces}
use Rattle.raft_log_replay_context.specs.OpenGroups.{Begun}
use Rattle.raft_log_replay_context.specs.Records.{in_file, said_in, ReadItem, ReadRecord}

-- What a statement looks at in a record: a function of the record's file and items. Statements about pieces hold for
-- every such function. With `as_said` they are about the items, with `as_file` about the files.
abbrev pub Reading : Type 0
Reading = ℕ → List ReadItem → List ReadItem

-- the items of a record, unchanged
abbrev pub as_said : Reading
as_said n xs = xs

-- the file of a record, encoded as a single item
abbrev pub as_file : Reading
as_file n xs = record { group = 0; item = Compact n } ∷ []

-- the record with its items replaced by what `φ` makes of them
abbrev pub seen_as : Reading → ℕ → Record Located KeyValue → Record Located KeyValue
seen_as φ n (Plain xs) = Plain (φ n xs)
seen_as φ n (Part m xs) = Part m (φ n xs)

-- the records with their items replaced by what `φ` makes of them
abbrev pub seen_by : Reading → List ReadRecord → List (Record Located KeyValue)
seen_by φ rs = map (λ r. seen_as φ r.file r.taken) rs

-- the items of one record of an atomic group, which take effect when the group ends
abbrev pub part_items : GroupPart → List ReadItem
part_items p = said_in false p.file p.items.items

-- what `φ` makes of one record of an atomic group
abbrev pub part_seen : Reading → GroupPart → List ReadItem
part_seen φ p = φ p.file (part_items p)

-- what `φ` makes of these records of an atomic group, one after another
abbrev pub parts_seen : Reading → List GroupPart → List ReadItem
parts_seen φ [] = []
parts_seen φ (p ∷ ps) = part_seen φ p ++ parts_seen φ ps

-- the items of these records of an atomic group
abbrev pub parts_items : List GroupPart → List ReadItem
parts_items ps = parts_seen as_said ps

-- what `φ` makes of the records of a complete atomic group, if there is one
abbrev pub whole_seen : Reading → Option (Vec GroupPart) → List ReadItem
whole_seen φ None = []
whole_seen φ (Some ps) = parts_seen φ ps.items

-- the record of this part of an atomic group, with this mark
abbrev pub part_read : Mark → GroupPart → ReadRecord
part_read m p = in_file p.file (Part m (part_items p))

-- What a segment does with an atomic group that may be open before the segment. It continues the group, ends it, or
-- begins a new group with the same number.
abbrev pub head_of : Reading → GroupHead → Head Located KeyValue
head_of φ (code.GoesOn ps) = GoesOn (parts_seen φ ps.items)
head_of φ (code.Ends ps) = Ends (parts_seen φ ps.items)
head_of φ code.BeginsAnew = BeginsAnew

-- What a segment does with an atomic group, from the group's entry in the segment's pieces. Without an entry, the
-- segment has no record of the group, and so continues it with nothing.
abbrev pub head_in : Reading → Option GroupHead → Head Located KeyValue
head_in φ None = GoesOn []
head_in φ (Some h) = head_of φ h

-- what a segment with the pieces `p` does with the atomic group number `n`
abbrev pub head_at : Reading → GroupPieces → ℕ → Head Located KeyValue
head_at φ p n = head_in φ (get nat_cmp p.heads n)

-- an atomic group that has begun and not ended, with what `φ` makes of its records
abbrev pub unfinished_of : Reading → Begun → Unfinished Located KeyValue
unfinished_of φ u = record { number = u.0; items = parts_seen φ u.1 }

-- the atomic groups that the segment leaves open, with what `φ` makes of their records
abbrev pub left_open : Reading → GroupPieces → List (Unfinished Located KeyValue)
left_open φ p = map (unfinished_of φ) p.left_open

-- `p` has the pieces of the records `rs`: what these do with each group that may be open before them, and the groups
-- that they leave open. This holds for every function `φ` of their files and items.
pub record ArePieces (rs : List ReadRecord) (p : GroupPieces) : Type 0 where
  pub heads : (φ : Reading) (n : ℕ) → head_at φ p n ≡ head n [] (seen_by φ rs)
  pub left_open : (φ : Reading) → left_open φ p ≡ unfinished (seen_by φ rs)

-- if `old` has the pieces of some records, `new` has the pieces of these records and then `r`
abbrev pub TakesRecord : ReadRecord → GroupPieces → GroupPieces → Type 0
TakesRecord r old new = (rs : List ReadRecord) → ArePieces rs old → ArePieces (rs ++ r ∷ []) new

-- `part` ends atomic group number `n` after the records `rs`. `whole` has the group's records, `part` included, if the
-- group began in `rs`, and otherwise no record.
abbrev pub EndsGroupWhole : List ReadRecord → ℕ → GroupPart → Option (Vec GroupPart) → Type 0
EndsGroupWhole rs n part whole =
    (φ : Reading)
    → whole_seen φ whole ≡ counts (opened none_open (seen_by φ rs)) (Part (End n) (part_seen φ part))

-- `part` ends atomic group number `n`. If `old` has the pieces of some records, `new` has the pieces of these records
-- and then `part`. `whole` has the group's records if the group began in these records (`EndsGroupWhole`).
abbrev pub EndsGroup : ℕ → GroupPart → GroupPieces → GroupPieces → Option (Vec GroupPart) → Type 0
EndsGroup n part old new whole =
    (rs : List ReadRecord) → ArePieces rs old
    → ArePieces (rs ++ part_read (End n) part ∷ []) new × EndsGroupWhole rs n part whole

-- what `φ` makes of the records of these groups, group after group
abbrev pub groups_seen : Reading → List (Vec GroupPart) → List ReadItem
groups_seen φ [] = []
groups_seen φ (ps ∷ pss) = parts_seen φ ps.items ++ groups_seen φ pss

-- the items of these groups, group after group
abbrev pub groups_items : List (Vec GroupPart) → List ReadItem
groups_items pss = groups_seen as_said pss

-- `P` is true of the records of each of these groups
abbrev pub AllGroups : (List GroupPart → Type 0) → List (Vec GroupPart) → Type 0
AllGroups P [] = Unit {0}
AllGroups P (ps ∷ pss) = P ps.items × AllGroups P pss

-- An atomic group was open: `state` has its items so far. The next segment ends it: `head` has the group's items in
-- that segment. `ps` are the group's records from both.
pub record GoesToEnd (φ : Reading) (state : Option (List ReadItem)) (head : Head Located KeyValue)
    (ps : List GroupPart) : Type 0 where
  pub so_far : List ReadItem
  pub behind : List ReadItem
  pub begun : state ≡ Some so_far
  pub ends : head ≡ Ends behind
  pub parts : parts_seen φ ps ≡ so_far ++ behind

-- some atomic group is open after the records `xs`, the records `ys` end it, and `ps` are its records
abbrev pub IsCompleted : List ReadRecord → List ReadRecord → List GroupPart → Type 0
IsCompleted xs ys ps =
    (n : ℕ)
    × ((φ : Reading)
    → GoesToEnd φ (opened none_open (seen_by φ xs) n) (head n [] (seen_by φ ys)) ps)

-- `done` are the atomic groups that the records `xs` leave open and the records `ys` end, in the order in which they
-- began
pub record IsBorder (xs ys : List ReadRecord) (done : List (Vec GroupPart)) : Type 0 where
  pub items : (φ : Reading)
      → groups_seen φ done ≡ completed (unfinished (seen_by φ xs)) (λ n. head n [] (seen_by φ ys))
  pub groups : AllGroups (IsCompleted xs ys) done

-- The pieces `later` of the next segment were joined to `old`, which gives `new`. `done` are the atomic groups that
-- this completes.
abbrev pub JoinsPieces : GroupPieces → GroupPieces → GroupPieces → List (Vec GroupPart) → Type 0
JoinsPieces old later new done =
    (xs ys : List ReadRecord) → ArePieces xs old → ArePieces ys later
    → ArePieces (xs ++ ys) new × IsBorder xs ys done

-- Let the groups `old` be open after the records `rs`. The next segment does with each of them what `before` says.
-- `done` has the items of the groups that the segment ends. `new` are the groups that it leaves open. To each group,
-- `rs` and then `after` do the same as `rs` and then `before`.
pub record CarryOn (old : List (Unfinished Located KeyValue)) (before : ℕ → Head Located KeyValue)
    (new : List (Unfinished Located KeyValue)) (after : ℕ → Head Located KeyValue) (done : List ReadItem)
    (rs : List (Record Located KeyValue)) : Type 0 where
  pub items : done ≡ completed old before
  pub left : new ≡ carried_on old before
  pub heads : (n : ℕ) → then_head (head n [] rs) (after n) ≡ then_head (head n [] rs) (before n)

-- The next segment does with each group that `old` leaves open what `heads` says. `done` are the groups that the
-- segment ends, `new` has those that it leaves open. To each group, the records of `old` and then `left` do the same as
-- these records and then `heads`. This holds for every function `φ` of records.
abbrev pub CarriesOn : GroupPieces → (Reading → ℕ → Head Located KeyValue) → GroupPieces
    → (Reading → ℕ → Head Located KeyValue) → List (Vec GroupPart) → Type 0
CarriesOn old heads new left done =
    (φ : Reading) (rs : List (Record Located KeyValue)) → left_open φ old ≡ unfinished rs
    → CarryOn (left_open φ old) (heads φ) (left_open φ new) (left φ) (groups_seen φ done) rs

-- each of the groups in `done` was left open by `old`, and the next segment ends it
abbrev pub HandsOut : GroupPieces → (Reading → ℕ → Head Located KeyValue) → List (Vec GroupPart) → Type 0
HandsOut old heads done =
    AllGroups (λ ps. (n : ℕ)
    × ((φ : Reading) (rs : List (Record Located KeyValue)) → left_open φ old ≡ unfinished rs
    → GoesToEnd φ (opened none_open rs n) (heads φ n) ps)) done

-- `old` and `new` are lists of complete groups. The second argument says what the next segment does with `group`. If it
-- ends the group, `new` is `old` and then this group with all its records. Otherwise `new` is `old`.
abbrev pub PassesOn : OpenGroup → Option GroupHead → List (Vec GroupPart) → List (Vec GroupPart) → Type 0
PassesOn group (Some (code.Ends more)) old new =
    (ps : Vec GroupPart) × (new ≡ old ++ ps ∷ [])
    × ((φ : Reading)
    → parts_seen φ ps.items ≡ parts_seen φ group.parts.items ++ parts_seen φ more.items)
PassesOn group _ old new = new ≡ old

-- the range of files `files`, extended by file `n`
abbrev pub with_file : Option GroupFiles → ℕ → GroupFiles
with_file None n = record { from = n; to = n }
with_file (Some files) n = record { from = min files.from n; to = max files.to n }

-- whether there is a number, and it is `g`
abbrev pub is_number : ℕ → Option ℕ → Bool
is_number g None = false
is_number g (Some n) = n == g

-- whether `g` is the last element of the list
abbrev pub ends_with : List ℕ → ℕ → Bool
ends_with gs g = is_number g (slice_get gs (length gs - 1))

-- the error's text if a batch has a broken mark or two marks
abbrev pub invalid_mark : List ℕ
invalid_mark = codes "Invalid atomic group mark"

-- the error for a batch with a broken mark or two marks: `Corruption` with the text above, or `Memory`
abbrev pub IsBrokenMark : Error → Type 0
IsBrokenMark (errors.Corruption text) = string_bytes text ≡ invalid_mark
IsBrokenMark errors.Memory = Unit {0}
IsBrokenMark _ = ⊥
