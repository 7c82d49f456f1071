use Rattle.std.proofs.Common.{◌≡◌, ◌+◌, ◌<◌, ◌≤◌, ◌∙◌, ℕ, List, None, ap, arith, drop, inr, length, max, refl, slice_index_or, subst, sum_by, take}
use Rattle.std.proofs.lemmas.List.{drop_all}
use Rattle.std.proofs.lemmas.List.Sums.{sum_by-drop_more, sum_by-take-drop}
use Rattle.raft_log_record_items.specs.declared.compression.CompressionType.TheVariants as types
use Rattle.raft_log_record_items.specs.declared.entry.EntryIndex.{EntryIndex}
use Rattle.raft_log_purge_copy.specs.Pieces.{MakeOnePiece, fitting, piece_count}
use Rattle.raft_log_purge_copy.specs.Entries.{max_piece}
use Rattle.raft_log_purge_copy.proofs.Handing.{count_of_part, count_of_whole, fits_more, fits_no_more}
use Rattle.raft_log_purge_copy.proofs.pieces.piece_len.Goals as goal

-- an entry, for where none stands
abbrev no_entry : EntryIndex
no_entry = record { index = 0; entries = None; compression_type = types.None; entry_offset = 0; entry_len = 0 }

-- one more entry
sum_more : (es : List EntryIndex) (i : ℕ) (d : EntryIndex) → i < length es
    → sum_by (λ e. e.entry_len) (take (i + 1) es) ≡ sum_by (λ e. e.entry_len) (take i es) + (slice_index_or es i d).entry_len
sum_more es i d less =
    omega (
      arith,
      sum_by-take-drop (λ (e : EntryIndex). e.entry_len) es i,
      sum_by-take-drop (λ (e : EntryIndex). e.entry_len) es (i + 1),
      sum_by-drop_more (λ (e : EntryIndex). e.entry_len) es i d less,
    )

pub loop-i-init : goal.loop-i-init
loop-i-init c = record { sum = refl; fits = omega arith }

pub loop-i-preserved : goal.loop-i-preserved
loop-i-preserved c = record {
  sum = omega (arith, c.loop-i.invariant.sum, sum_more c.args.entries.now c.loop-i.i no_entry c.loop-i-test.true);
  fits =
      (let low : (slice_index_or c.args.entries.now c.loop-i.i no_entry).entry_len ≤ c.loop-i.left = omega arith in
      let next = fits_more c.loop-i.left c.loop-i.i c.args.entries.now no_entry c.loop-i-test.true low in
      omega (arith, c.loop-i.invariant.fits, next));
}

pub returns-else-i-eq0-clause-piece : goal.returns-else-i-eq0-clause-piece
returns-else-i-eq0-clause-piece c = inr (omega (arith, c.loop-i.invariant.sum))

pub returns-clause-piece : goal.returns-clause-piece
returns-clause-piece c =
    let all : c.loop-i.i ≡ length c.args.entries.now = omega arith in
    subst (λ n. MakeOnePiece (take n c.args.entries.now)) all (inr (omega (arith, c.loop-i.invariant.sum)))

-- how many fit, where the next one doesn't
fit_here : (left i : ℕ) (es : List EntryIndex) → fitting max_piece es ≡ i + fitting left (drop i es) → i < length es → left < (slice_index_or es i no_entry).entry_len → max 1 i ≡ piece_count es
fit_here left i es fits less high = count_of_part es i less (let none = fits_no_more left i es no_entry less high in omega (arith, fits, none))

pub returns-then-i-eq0-clause-most : goal.returns-then-i-eq0-clause-most
returns-then-i-eq0-clause-most c =
    (let one : 1 ≡ max 1 c.loop-i.i = omega (arith, c.if-i-eq0.true) in one) ∙ fit_here c.loop-i.left c.loop-i.i c.args.entries.now c.loop-i.invariant.fits c.loop-i-test.true (let high : c.loop-i.left < (slice_index_or c.args.entries.now c.loop-i.i no_entry).entry_len = omega arith in high)

pub returns-else-i-eq0-clause-most : goal.returns-else-i-eq0-clause-most
returns-else-i-eq0-clause-most c =
    (let some : c.loop-i.i ≡ max 1 c.loop-i.i = omega (arith, c.if-i-eq0.false) in some) ∙ fit_here c.loop-i.left c.loop-i.i c.args.entries.now c.loop-i.invariant.fits c.loop-i-test.true (let high : c.loop-i.left < (slice_index_or c.args.entries.now c.loop-i.i no_entry).entry_len = omega arith in high)

-- all of them do
all_fit : (left i : ℕ) (es : List EntryIndex) → i ≡ length es → fitting max_piece es ≡ i + fitting left (drop i es) → i ≡ piece_count es
all_fit left i es all fits =
    let none : fitting left (drop i es) ≡ 0 = ap (fitting left) (drop_all i es (omega (arith, all))) in
    count_of_whole es i all (omega (arith, fits, none))

pub returns-clause-most : goal.returns-clause-most
returns-clause-most c =
    let all : c.loop-i.i ≡ length c.args.entries.now = omega arith in
    subst (λ n. n ≡ piece_count c.args.entries.now) all (all_fit c.loop-i.left c.loop-i.i c.args.entries.now all c.loop-i.invariant.fits)
