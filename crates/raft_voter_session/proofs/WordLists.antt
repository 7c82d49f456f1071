-- The words of a text, taken off one by one.
use Rattle.std.proofs.Common.{◌≡◌, ℕ, ◌∙◌, Bool, true, false, cond, List, [], ◌∷◌, ◌++◌, length, drop, Option, Some, None, unwrap_or, append_assoc, refl, sym, ap, subst, arith}
use Rattle.std.proofs.lemmas.Grind.{common_steps}
use Rattle.std.specs.List.{before_first, slice_split}
use Rattle.std.specs.Option.{option_map}
use Rattle.raft_voter_session.specs.Words.{◌>>=◌, is_space, word_at, words_of}
use Rattle.raft_voter_session.specs.Requests.{entry_of, entries_at}

-- the first word of these, and the others
pub record Begins (pieces : List (List ℕ)) (word rest : List ℕ) : Type 0 where
  pub others : List (List ℕ)
  pub left : words_of rest ≡ Some others
  pub all : pieces ≡ word ∷ others

begins_at : (b : ℕ) (text : List ℕ) (s : Bool) → is_space b ≡ s
    → Begins (slice_split is_space text) (before_first is_space text) (drop (length (before_first is_space text)) text)
    → Begins (slice_split is_space (b ∷ text)) (before_first is_space (b ∷ text)) (drop (length (before_first is_space (b ∷ text))) (b ∷ text))
begins_at b text true h prior =
    let none : before_first is_space (b ∷ text) ≡ [] = rw h refl in
    let P : List ℕ → Type 0 = λ w. Begins (slice_split is_space (b ∷ text)) w (drop (length w) (b ∷ text)) in
    subst P (sym none) (record { others = slice_split is_space text; left = rw h refl; all = rw h refl })
begins_at b text false h prior =
    let one : before_first is_space (b ∷ text) ≡ b ∷ before_first is_space text = rw h (grind (arith, common_steps)) in
    let P : List ℕ → Type 0 = λ w. Begins (slice_split is_space (b ∷ text)) w (drop (length w) (b ∷ text)) in
    subst P (sym one) (record { others = prior.others; left = prior.left; all = rw h (rw prior.all refl) })

pub begins : (text : List ℕ) → Begins (slice_split is_space text) (before_first is_space text) (drop (length (before_first is_space text)) text)
begins [] = record { others = []; left = refl; all = refl }
begins (b ∷ text) = begins_at b text (is_space b) refl (begins text)

-- the entries of a text are that of its first word, and those of the others
abbrev pub first_and : List ℕ → List ℕ → Option (List (ℕ × List ℕ))
first_and word rest = do
  entry ← entry_of word
  entries ← entries_at rest
  Some (entry ∷ entries)

behind : (b : ℕ) (text : List ℕ) → is_space b ≡ true → entries_at (b ∷ text) ≡ first_and (before_first is_space text) (drop (length (before_first is_space text)) text)
unfolding entries_at
behind b text h = let w = begins text in rw (h, w.left, w.all) refl

-- `word_at` behind a byte, by what it is
abbrev found : Bool → List ℕ → Option (List ℕ × List ℕ)
found s text = cond s (Some (before_first is_space text, drop (length (before_first is_space text)) text)) None

entries_at-found : (s : Bool) (b : ℕ) (text word rest : List ℕ) → is_space b ≡ s → found s text ≡ Some (word, rest) → entries_at (b ∷ text) ≡ first_and word rest
entries_at-found true b text word rest h e =
    let first : before_first is_space text ≡ word = ap (λ (o : Option (List ℕ × List ℕ)). (unwrap_or o ([], [])).0) e in
    let others : drop (length (before_first is_space text)) text ≡ rest = ap (λ (o : Option (List ℕ × List ℕ)). (unwrap_or o ([], [])).1) e in
    behind b text h ∙ ap (λ w. first_and w (drop (length (before_first is_space text)) text)) first ∙ ap (first_and word) others
entries_at-found false b text word rest h e = cc

pub entries_at-word : (text word rest : List ℕ) → word_at text ≡ Some (word, rest) → entries_at text ≡ first_and word rest
entries_at-word [] word rest e = cc
entries_at-word (b ∷ text) word rest e = entries_at-found (is_space b) b text word rest refl e

pub entries_at-empty : (text : List ℕ) → length text ≡ 0 → entries_at text ≡ Some []
unfolding entries_at
entries_at-empty [] h = refl
entries_at-empty (b ∷ text) h = absurd (omega arith)

-- Entries that are read one by one: those before these, and what the rest of the text has.
abbrev pub with_more : List (ℕ × List ℕ) → Option (List (ℕ × List ℕ)) → Option (List (ℕ × List ℕ))
with_more entries more = option_map (λ es. entries ++ es) more

regroup : (entries : List (ℕ × List ℕ)) (entry : ℕ × List ℕ) (more : Option (List (ℕ × List ℕ)))
    → with_more (entries ++ entry ∷ []) more ≡ with_more entries (more >>= (λ es. Some (entry ∷ es)))
regroup entries entry None = refl
regroup entries entry (Some es) = ap Some (append_assoc entries (entry ∷ []) es)

pub goes_on : (entries now : List (ℕ × List ℕ)) (entry : ℕ × List ℕ) (left word rest : List ℕ) (all : Option (List (ℕ × List ℕ)))
    → entries_at left ≡ first_and word rest → entry_of word ≡ Some entry → now ≡ entries ++ entry ∷ []
    → with_more entries (entries_at left) ≡ all → with_more now (entries_at rest) ≡ all
goes_on entries now entry left word rest all split one more so_far =
    let e : first_and word rest ≡ (entries_at rest >>= (λ es. Some (entry ∷ es))) = rw one refl in
    rw more (regroup entries entry (entries_at rest) ∙ ap (with_more entries) (sym (split ∙ e)) ∙ so_far)

pub stops : (entries : List (ℕ × List ℕ)) (left word rest : List ℕ) (all : Option (List (ℕ × List ℕ)))
    → entries_at left ≡ first_and word rest → entry_of word ≡ None
    → with_more entries (entries_at left) ≡ all → None ≡ all
stops entries left word rest all split one so_far =
    let e : first_and word rest ≡ None = rw one refl in
    ap (with_more entries) (sym (split ∙ e)) ∙ so_far
