-- The lines of a session, taken off one by one.
use Rattle.std.proofs.Common.{◌≡◌, ℕ, ◌+◌, ◌<◌, ◌≤◌, ◌∙◌, Bool, true, false, not, cond, nat_le, List, [], ◌∷◌, length, take, Some, None, Result, Err, length-take, length-drop, refl, sym, ap, arith}
use Rattle.std.proofs.lemmas.List.Splits.{slice_split_first}
use Rattle.std.specs.List.{before_first, after_first, slice_split, position_or_len}
use Rattle.raft_voter_session.specs.Words.{is_line_feed}
use Rattle.raft_voter_session.specs.Told.{SessionContent}
use Rattle.raft_voter_session.specs.Session.{Progress, after_line, finish, no_progress, session_of, or_unreadable, read_from}

-- a text has a piece at least
pub record Pieces (pieces : List (List ℕ)) : Type 0 where
  pub first : List ℕ
  pub others : List (List ℕ)
  pub all : pieces ≡ first ∷ others

pieces_at : (b : ℕ) (pieces : List (List ℕ)) (text : List ℕ) (s : Bool) → is_line_feed b ≡ s → Pieces (slice_split is_line_feed text) → Pieces (slice_split is_line_feed (b ∷ text))
pieces_at b pieces text true h p = record { first = []; others = slice_split is_line_feed text; all = rw h refl }
pieces_at b pieces text false h p = record { first = b ∷ p.first; others = p.others; all = rw (h, p.all) refl }

pieces_of : (text : List ℕ) → Pieces (slice_split is_line_feed text)
pieces_of [] = record { first = []; others = []; all = refl }
pieces_of (b ∷ text) = pieces_at b [] text (is_line_feed b) refl (pieces_of text)

one_piece_at : (b : ℕ) (text : List ℕ) (s : Bool) → is_line_feed b ≡ s → (length text ≤ position_or_len is_line_feed text → slice_split is_line_feed text ≡ text ∷ []) → length (b ∷ text) ≤ cond (not s) (1 + position_or_len is_line_feed text) 0 → slice_split is_line_feed (b ∷ text) ≡ (b ∷ text) ∷ []
one_piece_at b text true h p none = absurd (omega arith)
one_piece_at b text false h p none = rw (h, p (omega arith)) refl

pub one_piece : (text : List ℕ) → length text ≤ position_or_len is_line_feed text → slice_split is_line_feed text ≡ text ∷ []
one_piece [] none = refl
one_piece (b ∷ text) none = one_piece_at b text (is_line_feed b) refl (one_piece text) none

-- The first line of a text, cut off.
pub record IsLine (text line rest : List ℕ) : Type 0 where
  pub within : position_or_len is_line_feed text < length text
  pub before : line ≡ before_first is_line_feed text
  pub behind : rest ≡ after_first is_line_feed text

read_from-line : (text line rest : List ℕ) (number : ℕ) (whole : Bool) (p : Progress) → IsLine text line rest
    → read_from (slice_split is_line_feed text) number whole p ≡ or_unreadable number (after_line line p) (read_from (slice_split is_line_feed rest) (number + 1) whole)
read_from-line text line rest number whole p h =
    let w = pieces_of rest in
    rw (slice_split_first is_line_feed text 0 h.within, ← h.before, ← h.behind, w.all) refl

pub unreadable_line : (text line rest : List ℕ) (number : ℕ) (whole : Bool) (p : Progress) (all : Result SessionContent ℕ) → IsLine text line rest
    → read_from (slice_split is_line_feed text) number whole p ≡ all → after_line line p ≡ None → all ≡ Err number
unreadable_line text line rest number whole p all h so_far lost =
    sym so_far ∙ read_from-line text line rest number whole p h ∙ ap (λ o. or_unreadable number o (read_from (slice_split is_line_feed rest) (number + 1) whole)) lost

pub next_line : (text line rest : List ℕ) (number : ℕ) (whole : Bool) (p next : Progress) (all : Result SessionContent ℕ) → IsLine text line rest
    → read_from (slice_split is_line_feed text) number whole p ≡ all → after_line line p ≡ Some next
    → read_from (slice_split is_line_feed rest) (number + 1) whole next ≡ all
next_line text line rest number whole p next all h so_far one =
    sym (sym so_far ∙ read_from-line text line rest number whole p h ∙ ap (λ o. or_unreadable number o (read_from (slice_split is_line_feed rest) (number + 1) whole)) one)

pub last_line : (text : List ℕ) (number : ℕ) (whole : Bool) (p : Progress) (all : Result SessionContent ℕ) → length text ≤ position_or_len is_line_feed text
    → read_from (slice_split is_line_feed text) number whole p ≡ all → finish number whole text p ≡ all
last_line text number whole p all h so_far =
    sym (ap (λ pieces. read_from pieces number whole p) (one_piece text h)) ∙ so_far

pub first_line : (input left : List ℕ) (p : Progress) → left ≡ take 268435456 input → p ≡ no_progress
    → read_from (slice_split is_line_feed left) 1 (nat_le (length input) 268435456) p ≡ session_of input
unfolding session_of
first_line input left p e f = rw (e, f) refl

pub length-front : (most : ℕ) (input left : List ℕ) → left ≡ take most input → length left ≤ length input
length-front most input left e = rw e (omega (arith, length-take {A = ℕ}))

pub length-rest : (text line rest : List ℕ) → IsLine text line rest → length rest + 1 ≤ length text
length-rest text line rest h = rw h.behind (omega (arith, h.within, length-drop {A = ℕ}))
