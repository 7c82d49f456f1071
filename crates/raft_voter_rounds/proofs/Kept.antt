-- The records that a journal keeps are the last ones of its history.
use Rattle.std.proofs.Common.{◌≡◌, ℕ, ◌+◌, ◌≤◌, ◌<◌, List, [], ◌++◌, length, take, drop, set, get_or, refl, sym, subst, ap, ◌∙◌}
use Rattle.std.specs.List.{All}
use Rattle.std.proofs.Math.Seq.{drop-append_seam, take-length}
use Rattle.std.proofs.lemmas.List.{append-nil, length-take-le, nil_from_length, set-get_or, take-append-drop}
use Rattle.raft_voter_messages.specs.declared.round.Round.{Round}
use Rattle.raft_voter_history.specs.History.{HasPart}
use Rattle.std.proofs.lemmas.List.Elements.{All-more}
use Rattle.raft_voter_rounds.specs.Proving.{IsAt}
use Rattle.raft_voter_rounds.specs.Taking.{HasTaken}
use Rattle.raft_voter_rounds.specs.declared.receipt.Statement.{Statement}

-- those that are kept are a part of the history
pub kept_part :
    (history kept : List Round) (n : ℕ) → n ≤ length history → drop n history ≡ kept → HasPart history n kept
kept_part history kept n inside last = record {
  before = take n history;
  later = [];
  is = sym (take-append-drop n history) ∙ ap (λ (l : List Round). take n history ++ l) (last ∙ sym (append-nil kept));
  at = length-take-le n history inside;
}

-- no records are a part of any history
pub none_part : (history : List Round) → HasPart history 0 []
none_part history = record { before = []; later = history; is = refl; at = refl }

-- the records that are kept follow those that were taken
pub takes_all : (history kept old : List Round) (n : ℕ) → drop n history ≡ kept → length old ≡ n → HasTaken history old → old ++ kept ≡ history
takes_all history kept old n last many has =
    let rest : kept ≡ has.0 = sym last ∙ ap (λ (m : ℕ). drop m history) (sym many) ∙ ap (drop (length old)) has.1 ∙ drop-append_seam old has.0 in
    ap (λ (l : List Round). old ++ l) rest ∙ sym has.1

-- one receipt more was compared with the history, and is as it was
pub receipts_same : (rs now : List Statement) (index : ℕ) (item after : Statement) → now ≡ rs → after ≡ get_or now index item → set now index after ≡ rs
receipts_same rs now index item after same is = ap (set now index) is ∙ set-get_or now index item ∙ same

pub confirmed_more : (history keeper : List Round) (rs now : List Statement) (index : ℕ) (item : Statement) → index < length rs → keeper ≡ history → now ≡ rs
    → All (λ r. IsAt history r) (take index rs) → IsAt keeper (get_or now index item) → All (λ r. IsAt history r) (take (index + 1) rs)
confirmed_more history keeper rs now index item inside kept same so_far here =
    All-more (λ r. IsAt history r) rs index item inside so_far
    (subst (λ (h : List Round). IsAt h (get_or rs index item)) kept (subst (λ (l : List Statement). IsAt keeper (get_or l index item)) same here))

pub confirmed_all : (history : List Round) (rs : List Statement) (index : ℕ) → index ≡ length rs → All (λ r. IsAt history r) (take index rs) → All (λ r. IsAt history r) rs
confirmed_all history rs index all so_far =
    subst (λ (l : List Statement). All (λ r. IsAt history r) l) (ap (λ (n : ℕ). take n rs) all ∙ take-length rs) so_far

-- a part that begins at the first place
pub taken_first : (history : List Round) (first : ℕ) (part : List Round) → first ≡ 0 → HasPart history first part → HasTaken history part
taken_first history first part none h =
    (h.later, h.is ∙ ap (λ (l : List Round). l ++ (part ++ h.later)) (nil_from_length h.before (h.at ∙ none)))
