-- A piece that is read of a file is written back.
use Rattle.std.specs.Prelude.{◌≡◌, ℕ, ◌+◌, ◌-◌, ◌<◌, ◌≤◌, min, Option, Some, None, List, ◌∷◌, ◌++◌, length, take, drop}
use Rattle.std.specs.Option.{option_map}
use Rattle.std.proofs.Common.{sym, ◌∙◌, ap, subst, arith}
use Rattle.std.proofs.lemmas.List.{length-take-le, length-drop, length-append, take_at}
use Rattle.std.proofs.Math.Nat.{min-le_left, min-le_right}
use Rattle.raft_log_fs.specs.Disk.{File}
use Rattle.raft_log_fs_state.specs.declared.storage.Storage.{Storage}
use Rattle.raft_log_fs_state.specs.Held.{Held, held_of, file_of, ReadsNumber, ReadsFront}
use Rattle.raft_log_fs_state.specs.Steps.{size_of}
use Rattle.raft_log_fs_state.specs.Storage.{contents_of}
use Rattle.raft_log_fs_state.proofs.Public.{some_file_held}
use Rattle.raft_log_fs_traced.specs.Device.{HasBytes, Trace, WroteBack, held_by, noted}
use Rattle.raft_log_fs_traced.specs.WritingBack.{WroteBackTo, WrotePieces, piece}

-- what is known of a piece that was read of a file that is there
pub record Piece (storage : Storage) (id offset size count : ℕ) (room new : List ℕ) : Type 0 where
  pub has : HasBytes id offset (take count new) (contents_of storage)
  pub long : length (take count new) ≡ count
  pub within : count ≤ length new
  pub same_room : length new ≡ length room
  pub some : 0 < count
  pub fits : offset + count ≤ size

module _ (storage : Storage) (id offset size count : ℕ) (room new : List ℕ) (file : Held) (is : held_of storage.files.items id ≡ Some file)
    (sized : size ≡ length file.content) (number : count ≡ min (length room) (length file.content - offset)) (front : new ≡ take count (drop offset file.content) ++ drop count room) where
  left : count ≤ length file.content - offset
  left = subst (λ (n : ℕ). n ≤ length file.content - offset) (sym number) (min-le_right (length room) (length file.content - offset))

  small : count ≤ length room
  small = subst (λ (n : ℕ). n ≤ length room) (sym number) (min-le_left (length room) (length file.content - offset))

  cut : length (take count (drop offset file.content)) ≡ count
  cut = length-take-le count (drop offset file.content) (subst (λ (n : ℕ). count ≤ n) (sym (length-drop offset file.content)) left)

  front_is : take count new ≡ take count (drop offset file.content)
  front_is = ap (λ (xs : List ℕ). take count xs) front ∙ take_at (take count (drop offset file.content)) (drop count room) count cut

  whole : length new ≡ length room
  whole = ap length front ∙ (length-append (take count (drop offset file.content)) (drop count room) ∙ (ap (λ (n : ℕ). n + length (drop count room)) cut ∙ (ap (λ (n : ℕ). count + n) (length-drop count room) ∙ omega (arith, small))))

  fits : offset < size → offset + count ≤ size
  fits below = omega (arith, left, sized, below)

  long : length (take count new) ≡ count
  long = ap length front_is ∙ cut

  has : offset < size → HasBytes id offset (take count new) (contents_of storage)
  has below state at =
      let same : file_of file ≡ state = let e : Some (file_of file) ≡ Some state = sym (ap (option_map file_of) is) ∙ at in cc in
      let content : file.content ≡ state.content = ap (λ (f : File). f.content) same in
      subst (λ (bytes : List ℕ). (offset + length (take count new) ≤ length bytes) × (take (length (take count new)) (drop offset bytes) ≡ take count new)) content
      (omega (arith, long, fits below, sized), ap (λ (n : ℕ). take n (drop offset file.content)) long ∙ sym front_is)

  is_piece : offset < size → 0 < length room → Piece storage id offset size count room new
  is_piece below roomy = record {
    has = has below;
    long = long;
    within = omega (arith, small, whole);
    same_room = whole;
    some = omega (arith, number, sized, roomy, below);
    fits = fits below;
  }

-- what was read of a file that is there is a piece of it
pub piece_read : (storage : Storage) (id offset size count : ℕ) (room new : List ℕ) → (held_of storage.files.items id ≡ None → ⊥)
    → size ≡ size_of ((contents_of storage).files id) → ReadsNumber storage.files.items id offset (length room) count → ReadsFront storage.files.items id offset count room new
    → offset < size → 0 < length room → Piece storage id offset size count room new
piece_read storage id offset size count room new there sized number front below roomy =
    let file = some_file_held (held_of storage.files.items id) there in
    is_piece storage id offset size count room new file.0 file.1 (sized ∙ ap (λ (o : Option Held). size_of (option_map file_of o)) file.1)
    (number file.0 file.1) (front file.0 file.1) below roomy

-- one more piece of a file is written back
pub one_more : (file at count next : ℕ) (bytes : List ℕ) (old now new : Trace) → length bytes ≡ count → next ≡ at + count → WrotePieces file at old now
    → new ≡ noted (WroteBack file at bytes) now → WrotePieces file next old new
one_more file at count next bytes old now new long is pieces noted_is =
    subst (λ (t : Trace). WrotePieces file next old t) (sym noted_is) (record {
      found = pieces.found;
      made = subst (λ (n : ℕ). WroteBackTo file old.made n (WroteBack file at bytes ∷ now.made)) (ap (λ (n : ℕ). at + n) long ∙ sym is) (piece bytes pieces.made);
    })

-- a file is being written back: the pieces before a place are, and a crash finds what it found before
pub record WritesOn (file size offset room : ℕ) (old now : Trace) : Type 0 where
  pub same : held_by now ≡ held_by old
  pub pieces : WrotePieces file offset old now
  pub within : offset ≤ size
  pub roomy : 0 < room

pub goes_on : (file size at count next room : ℕ) (bytes : List ℕ) (old now new : Trace) → WritesOn file size at room old now → length bytes ≡ count → next ≡ at + count
    → at + count ≤ size → new ≡ noted (WroteBack file at bytes) now → WritesOn file size next room old new
goes_on file size at count next room bytes old now new on long is fits noted_is = record {
  same = ap held_by noted_is ∙ on.same;
  pieces = one_more file at count next bytes old now new long is on.pieces noted_is;
  within = subst (λ (n : ℕ). n ≤ size) (sym is) fits;
  roomy = on.roomy;
}
