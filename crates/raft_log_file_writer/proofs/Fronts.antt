-- What stands at the front of a file, and what is durable of it, through each change of it.
use Rattle.std.specs.Prelude.{◌≡◌, ℕ, ◌+◌, ◌-◌, ◌<◌, ◌≤◌, List, [], ◌∷◌, ◌++◌, length}
use Rattle.std.proofs.Common.{refl, sym, ◌∙◌, ap, arith, inl, inr, take, drop, length-append}
use Rattle.std.proofs.lemmas.List.{append-nil, append_assoc, take_at, take-append-drop, take-append-le, length-take, length-take-le, get_or-take, ext_get_or}
use Rattle.std.proofs.lemmas.List.Elements.{All-push}
use Rattle.raft_log_fs.specs.Disk.{Change, Wrote, ShortenedTo, GrewTo, File, zeros, grown}
use Rattle.raft_log_fs.specs.Image.{IsSoundFile, Spares}
use Rattle.raft_log_fs.specs.Calls.{with_change, after_change, flushed, IsTorn, InPart}
use Rattle.raft_log_fs.proofs.Public.{overwritten_torn, part_may}
use Rattle.raft_log_file_writer.proofs.KeepsSyncedLaws.{left_keeps_part}
use Rattle.raft_log_file_writer.specs.Writer.{IsDurable}

-- the file begins with these bytes, and ends here at the latest
pub record IsFront (front : List ℕ) (end : ℕ) (file : File) : Type 0 where
  pub behind : List ℕ
  pub content : file.content ≡ front ++ behind
  pub ends : length file.content ≤ end

-- it may as well end later
pub front_later : (front : List ℕ) (end later : ℕ) (file : File) → end ≤ later → IsFront front end file → IsFront front later file
front_later front end later file more is = record { behind = is.behind; content = is.content; ends = omega (arith, more, is.ends) }

pub front_short : (front : List ℕ) (end : ℕ) (file : File) → IsFront front end file → length front ≤ length file.content
front_short front end file is = omega (arith, ap length is.content, length-append front is.behind)

-- a content with the same first bytes begins with them too
front_of : (front : List ℕ) (old new : List ℕ) (behind : List ℕ) → old ≡ front ++ behind → take (length front) new ≡ take (length front) old → new ≡ front ++ drop (length front) new
front_of front old new behind is same =
    let first : take (length front) new ≡ front = same ∙ ap (λ (b : List ℕ). take (length front) b) is ∙ take_at front behind (length front) refl in
    sym (take-append-drop (length front) new) ∙ ap (λ (b : List ℕ). b ++ drop (length front) new) first

-- it grows, in whole or in part
pub front_grown : (front : List ℕ) (end size : ℕ) (file : File) (content : List ℕ) → end ≤ size → IsFront front end file → InPart (GrewTo size) file.content content
    → IsFront front size (with_change (GrewTo size) content file)
front_grown front end size file content more is (count, fits, same) = record {
  behind = is.behind ++ zeros count;
  content = same ∙ ap (λ (b : List ℕ). b ++ zeros count) is.content ∙ append_assoc front is.behind (zeros count);
  ends = (part_may (GrewTo size) file.content content (count, fits, same)).within size (omega (arith, more, is.ends)) (omega arith);
}

-- bytes in front of the place of a torn write stand
torn_front : (at : ℕ) (bytes old new : List ℕ) → IsTorn at bytes old new → at ≤ length old → take at new ≡ take at old
torn_front at bytes old new torn long =
    let room : at ≤ length new = omega (arith, torn.longer, long) in
    let one = length-take-le at new room in
    let other = length-take-le at old long in
    ext_get_or 0 (take at new) (take at old) (one ∙ sym other) (λ i less.
    (let inside : i < at = omega (arith, one, less) in
    get_or-take at new i 0 inside ∙ torn.outside i (omega (arith, inside, long)) (inl inside) ∙ sym (get_or-take at old i 0 inside)))

-- a write behind these bytes leaves them, whatever of it was carried out
pub front_torn : (front bytes : List ℕ) (end : ℕ) (file : File) (content : List ℕ) → length front + length bytes ≤ end → IsFront front end file → IsTorn (length front) bytes file.content content
    → IsFront front end (with_change (Wrote (length front) bytes) content file)
front_torn front bytes end file content fits is torn = record {
  behind = drop (length front) content;
  content = front_of front file.content content is.behind is.content (torn_front (length front) bytes file.content content torn (front_short front end file is));
  ends = torn.within end is.ends fits;
}

-- written whole, they stand behind these
pub front_written : (front bytes : List ℕ) (end : ℕ) (file : File) → length front + length bytes ≤ end → IsFront front end file → IsFront (front ++ bytes) end (after_change (Wrote (length front) bytes) file)
front_written front [] end file fits is =
    let none = append-nil front in
    record { behind = is.behind; content = is.content ∙ ap (λ (b : List ℕ). b ++ is.behind) (sym none); ends = is.ends }
front_written front (b ∷ bs) end file fits is =
    let bytes : List ℕ = b ∷ bs in
    let room : List ℕ = grown (length front + length bytes) file.content in
    let rest : List ℕ = drop (length front + length bytes) room in
    let first : take (length front) room ≡ front =
    take-append-le (length front) file.content (zeros (length front + length bytes - length file.content)) (front_short front end file is)
    ∙ ap (λ (c : List ℕ). take (length front) c) is.content ∙ take_at front is.behind (length front) refl in
    record {
      behind = rest;
      content = ap (λ (c : List ℕ). c ++ (bytes ++ rest)) first ∙ sym (append_assoc front bytes rest);
      ends = (overwritten_torn (length front) bytes file.content).within end is.ends fits;
    }

-- cut behind these bytes, the file is just these
pub cut_whole : (front : List ℕ) (end : ℕ) (file : File) → IsFront front end file → take (length front) file.content ≡ front
cut_whole front end file is = ap (λ (c : List ℕ). take (length front) c) is.content ∙ take_at front is.behind (length front) refl

pub front_whole : (front : List ℕ) (file : File) → file.content ≡ front → IsFront front (length front) file
front_whole front file is = record { behind = []; content = is ∙ sym (append-nil front); ends = omega (arith, ap length is) }

-- a cut behind them leaves them, whether it was carried out or not
pub front_cut : (front : List ℕ) (end : ℕ) (file : File) (content : List ℕ) → IsFront front end file → InPart (ShortenedTo (length front)) file.content content
    → IsFront front end (with_change (ShortenedTo (length front)) content file)
front_cut front end file content is (inl same) = record { behind = is.behind; content = same ∙ is.content; ends = omega (arith, ap length same, is.ends) }
front_cut front end file content is (inr cut) =
    let whole = cut ∙ cut_whole front end file is in
    record { behind = []; content = whole ∙ sym (append-nil front); ends = omega (arith, ap length whole, front_short front end file is, is.ends) }

-- What is durable.

-- a change that spares these bytes leaves them durable
pub durable_spared : (bytes : List ℕ) (change : Change) (content : List ℕ) (file : File) → ((place : ℕ) → place < length bytes → Spares place change) → IsDurable bytes file
    → IsDurable bytes (with_change change content file)
durable_spared bytes change content file spares is = record {
  front = is.front;
  spared = λ place below. All-push (Spares place) file.changes change (is.spared place below) (spares place below);
}

pub durable_grown : (bytes : List ℕ) (size : ℕ) (content : List ℕ) (file : File) → IsDurable bytes file → IsDurable bytes (with_change (GrewTo size) content file)
durable_grown bytes size content file is = durable_spared bytes (GrewTo size) content file (λ place below touched. touched) is

pub durable_behind : (bytes : List ℕ) (at : ℕ) (written content : List ℕ) (file : File) → length bytes ≤ at → IsDurable bytes file → IsDurable bytes (with_change (Wrote at written) content file)
durable_behind bytes at written content file within is = durable_spared bytes (Wrote at written) content file (λ place below touched. omega (arith, within, below, touched.0)) is

pub durable_cut : (bytes : List ℕ) (size : ℕ) (content : List ℕ) (file : File) → length bytes ≤ size → IsDurable bytes file → IsDurable bytes (with_change (ShortenedTo size) content file)
durable_cut bytes size content file within is = durable_spared bytes (ShortenedTo size) content file (λ place below touched. omega (arith, within, below, touched)) is

-- after a sync all bytes are
pub durable_all : (front : List ℕ) (end : ℕ) (file : File) → IsFront front end file → IsDurable front (flushed file)
durable_all front end file is = record { front = cut_whole front end file is; spared = λ place below k d inside. absurd (omega arith) }

-- and those that were stay so
pub durable_flushed : (bytes : List ℕ) (file : File) → IsSoundFile file → IsDurable bytes file → IsDurable bytes (flushed file)
durable_flushed bytes file sound is =
    let n = length bytes in
    let long : n ≤ length file.synced = omega (arith, ap length is.front, length-take n file.synced) in
    let stands = left_keeps_part 0 n file file.content (omega (arith, long)) (λ place from below. is.spared place (omega (arith, below))) sound.stands in
    record { front = stands ∙ is.front; spared = λ place below k d inside. absurd (omega arith) }
