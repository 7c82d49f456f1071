-- A write of which the front was made, beside the whole that was asked for.
use Rattle.std.specs.Prelude.{◌≡◌, ℕ, ◌+◌, ◌-◌, ◌<◌, ◌≤◌, List, [], ◌∷◌, ◌++◌, length}
use Rattle.std.specs.List.{AllZip}
use Rattle.std.proofs.Common.{refl, ◌∙◌, ap, subst, arith, inl, inr, take, drop}
use Rattle.std.proofs.lemmas.List.{append-nil, length-append, length-replicate, take-append-drop}
use Rattle.raft_log_fs.specs.Disk.{Change, Wrote, ShortenedTo, GrewTo, File, changed, overwritten, grown, zeros}
use Rattle.raft_log_fs.specs.Image.{Spares, end_of, IsSoundFile}
use Rattle.raft_log_fs.specs.Disk.{file_limit}
use Rattle.raft_log_fs.specs.Calls.{with_change, InPart, after_change}
use Rattle.raft_log_fs.proofs.Public.{changed_in_part, sound_with_change, MayBecome}
use Rattle.raft_log_fs_state.specs.Changes.{Made, with_rest, IsLanded}
use Rattle.raft_log_fs_state.specs.Held.{changes_in, landed_in}
use Rattle.raft_log_fs_state.specs.Steps.{after_part}

pub with_no_rest : (change : Change) → with_rest change [] ≡ change
with_no_rest (Wrote at bytes) = ap (Wrote at) (append-nil bytes)
with_no_rest (ShortenedTo size) = refl
with_no_rest (GrewTo size) = ap GrewTo (let same : size + 0 ≡ size = omega arith in same)

-- a change of which no more was asked for
pub after_whole : (change : Change) (file : File) → after_part change [] file ≡ after_change change file
after_whole change file = ap (λ (c : Change). with_change c (changed change file.content) file) (with_no_rest change)

pub front_ends : (change : Change) (rest : List ℕ) → end_of change ≤ end_of (with_rest change rest)
front_ends (Wrote at bytes) rest = omega (arith, length-append bytes rest)
front_ends (ShortenedTo size) rest = omega arith
front_ends (GrewTo size) rest = omega arith

pub front_short : (change : Change) (rest : List ℕ) → end_of (with_rest change rest) < file_limit → end_of change < file_limit
front_short change rest short = omega (arith, front_ends change rest, short)

front_spares : (place : ℕ) (change : Change) (rest : List ℕ) → Spares place (with_rest change rest) → Spares place change
front_spares place (Wrote at bytes) rest spared = λ touched. spared (touched.0, omega (arith, touched.1, length-append bytes rest))
front_spares place (ShortenedTo size) rest spared = spared
front_spares place (GrewTo size) rest spared = spared

pub with_rest_may : (change : Change) (rest old new : List ℕ) → MayBecome change old new → MayBecome (with_rest change rest) old new
with_rest_may change rest old new may = record {
  kept = λ place below spared. may.kept place below (front_spares place change rest spared);
  within = λ size fits ends. may.within size fits (omega (arith, front_ends change rest, ends));
}

pub front_in_part : (change : Change) (rest old new : List ℕ) → InPart change old new → InPart (with_rest change rest) old new
front_in_part (Wrote at bytes) rest old new torn = record {
  outside = λ place below apart. torn.outside place below (elim apart [
    | inl before ↦ inl before
    | inr behind ↦ inr (omega (arith, behind, length-append bytes rest))
  ]);
  longer = torn.longer;
  within = λ size fits ends. torn.within size fits (omega (arith, ends, length-append bytes rest));
}
front_in_part (ShortenedTo size) rest old new part = part
front_in_part (GrewTo size) rest old new part = (
  part.0,
  elim part.1 [ inl fits ↦ inl (omega (arith, fits)) | inr none ↦ inr none ],
  part.2,
)

pub sound_after_part : (file : File) (change : Change) (rest : List ℕ) → IsSoundFile file → end_of (with_rest change rest) < file_limit → IsSoundFile (after_part change rest file)
sound_after_part file change rest sound short =
    sound_with_change file (with_rest change rest) (changed change file.content) sound
    (front_in_part change rest file.content (changed change file.content) (changed_in_part change file.content)) short

-- each change of a file as it was made, beside what was asked for
pub landed_beside : (ms : List Made) → AllZip IsLanded (landed_in ms) (changes_in ms)
landed_beside [] = tt
landed_beside (m ∷ ms) = ((m.rest, refl), landed_beside ms)

-- the front of a write, of which the rest was asked for, as the disk has it
pub front_change : (at : ℕ) (bytes : List ℕ) (count : ℕ) (file : File)
    → after_part (Wrote at (take count bytes)) (drop count bytes) file ≡ with_change (Wrote at bytes) (overwritten at (take count bytes) file.content) file
front_change at bytes count file =
    ap (λ (bs : List ℕ). with_change (Wrote at bs) (overwritten at (take count bytes) file.content) file) (take-append-drop count bytes)

pub front_torn : (at : ℕ) (bytes : List ℕ) (count : ℕ) (old : List ℕ) → InPart (Wrote at bytes) old (overwritten at (take count bytes) old)
front_torn at bytes count old =
    subst (λ (bs : List ℕ). InPart (Wrote at bs) old (overwritten at (take count bytes) old)) (take-append-drop count bytes)
    (front_in_part (Wrote at (take count bytes)) (drop count bytes) old (overwritten at (take count bytes) old) (changed_in_part (Wrote at (take count bytes)) old))

-- a growth of which no zero was added, as the disk has it
pub unmade_growth : (made rest : ℕ) (file : File) → made ≤ length file.content → after_part (GrewTo made) (zeros rest) file ≡ with_change (GrewTo (made + rest)) file.content file
unmade_growth made rest file is =
    let same : grown made file.content ≡ file.content = ap (λ (n : ℕ). file.content ++ zeros n) (let none : made - length file.content ≡ 0 = omega (arith, is) in none) ∙ append-nil file.content in
    ap (λ (bytes : List ℕ). with_change (GrewTo (made + length (zeros rest))) bytes file) same
    ∙ ap (λ (n : ℕ). with_change (GrewTo (made + n)) file.content file) (length-replicate {A = ℕ} rest 0)
