-- One change more, and what was synced and written before it stays.
use Rattle.std.specs.Prelude.{◌≡◌, ℕ, ◌+◌, ◌<◌, suc, Option, Some, None, List, [], ◌∷◌, ◌++◌, length}
use Rattle.std.specs.Option.{option_map}
use Rattle.std.proofs.Common.{refl, sym, ◌∙◌, ap, arith, get_or}
use Rattle.std.proofs.lemmas.List.{get_or_default}
use Rattle.raft_log_fs.specs.Disk.{changed}
use Rattle.raft_log_fs.specs.Disk as disk
use Rattle.raft_log_fs_state.specs.declared.change.Change.{Change}
use Rattle.raft_log_fs_state.specs.declared.change.Change.TheVariants.{Write, Shortening, Growth}
use Rattle.raft_log_fs_state.specs.declared.change.Stamped.{Stamped}
use Rattle.raft_log_fs_state.specs.Changes.{Made, change_of, rest_of, bytes_in, made_of}
use Rattle.raft_log_fs_state.specs.Former.{restored, Restores}
use Rattle.raft_log_fs_state.specs.declared.files.Stored.{Stored}
use Rattle.raft_log_fs_state.specs.Held.{Held, held, held_of, before, written, made_in, with_made}
use Rattle.raft_log_fs_state.specs.Stamps.{stamps_in, stamps_on, stamps_of, file_stamps}
use Rattle.raft_log_fs_state.proofs.Restoring.{written_back}
use Rattle.raft_log_fs_state.proofs.RisingLaws.{both}

pub before-append : (us : List Stamped) (v : Stamped) (content : List ℕ) → before (us ++ v ∷ []) content ≡ before us (restored v.former content)
before-append [] v content = refl
before-append (u ∷ us) v content = ap (restored u.former) (before-append us v content)

pub made_in-append : (us : List Stamped) (v : Stamped) (content : List ℕ)
    → made_in (us ++ v ∷ []) content ≡ made_in us (restored v.former content) ++ made_of v (bytes_in v.change v.length content) ∷ []
made_in-append [] v content = refl
made_in-append (u ∷ us) v content =
    ap (λ (xs : List ℕ). made_of u (bytes_in u.change u.length xs) ∷ made_in (us ++ v ∷ []) content) (before-append us v content)
    ∙ ap (λ (ms : List Made). made_of u (written u us (restored v.former content)) ∷ ms) (made_in-append us v content)

-- the bytes that a change wrote stand in the content after it
change_back : (change : Change) (bytes old : List ℕ) → change_of change (bytes_in change (length bytes) (changed (change_of change bytes) old)) ≡ change_of change bytes
change_back (Write offset rest) bytes old = ap (change_of (Write offset rest)) (written_back offset bytes old)
change_back (Shortening size) bytes old = refl
change_back (Growth size rest) bytes old = refl

-- what is kept of a file with this content and these changes
abbrev pub held_by : List Stamped → List ℕ → Held
held_by us content = record { content = content; synced = before us content; changes = made_in us content }

-- a file with a change more
pub held_more : (us : List Stamped) (v : Stamped) (bytes old : List ℕ) → v.length ≡ length bytes → Restores (change_of v.change bytes) old v.former
    → held_by (us ++ v ∷ []) (changed (change_of v.change bytes) old) ≡ with_made v.stamp (change_of v.change bytes) (rest_of v.change) (held_by us old)
held_more us v bytes old size back =
    let change : disk.Change = change_of v.change bytes in
    let now : List ℕ = changed change old in
    let last : List ℕ = bytes_in v.change v.length now in
    let synced : before (us ++ v ∷ []) now ≡ before us old = before-append us v now ∙ ap (before us) back in
    let same : change_of v.change last ≡ change =
    ap (λ (n : ℕ). change_of v.change (bytes_in v.change n now)) size ∙ change_back v.change bytes old in
    let made : made_in (us ++ v ∷ []) now ≡ made_in us old ++ record { stamp = v.stamp; change = change; rest = rest_of v.change } ∷ [] =
    made_in-append us v now
    ∙ (ap (λ (xs : List ℕ). made_in us xs ++ made_of v last ∷ []) back
    ∙ ap (λ (c : disk.Change). made_in us old ++ record { stamp = v.stamp; change = c; rest = rest_of v.change } ∷ []) same) in
    ap (λ (xs : List ℕ). let file : Held = record { content = now; synced = xs; changes = made_in (us ++ v ∷ []) now } in file) synced
    ∙ ap (λ (ms : List Made). let file : Held = record { content = now; synced = before us old; changes = ms } in file) made

-- the stamps of changes are those of what they made
pub stamps_made : (us : List Stamped) (content : List ℕ) → stamps_in (made_in us content) ≡ stamps_on us
stamps_made [] content = refl
stamps_made (u ∷ us) content = ap (λ (ns : List ℕ). u.stamp ∷ ns) (stamps_made us content)

-- the stamps of a file, as it is kept
abbrev pub kept_stamps : Option Stored → List ℕ
kept_stamps None = []
kept_stamps (Some stored) = stamps_on stored.changes.items

file_kept : (o : Option Stored) → file_stamps (option_map held o) ≡ kept_stamps o
file_kept None = refl
file_kept (Some stored) = stamps_made stored.changes.items stored.content

-- one file's stamps more
pub stamps_more : (files : List (Option Stored)) (i : ℕ) (o : Option Stored) (front after : List ℕ) → i < length files → o ≡ get_or files i o
    → front ≡ stamps_of (held_of files) i → after ≡ front ++ kept_stamps o → after ≡ stamps_of (held_of files) (i + 1)
stamps_more files i o front after below is so_far added =
    let here : held_of files i ≡ option_map held o = ap (option_map held) (get_or_default files i None o below ∙ sym is) in
    let next : suc i ≡ i + 1 = omega arith in
    added
    ∙ (both so_far (sym (file_kept o) ∙ sym (ap file_stamps here))
    ∙ ap (stamps_of (held_of files)) next)
