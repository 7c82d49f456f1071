-- What parts that restate a group have of each group, and what they say.
use Rattle.std.proofs.Common.{◌≡◌, ℕ, ◌+◌, ◌<◌, ◌≤◌, ◌==◌, false, List, [], ◌∷◌, ◌++◌, length, map, refl, sym, ap, ap₂, subst, ◌∙◌, arith, append-nil, append_assoc, length-append}
use Rattle.raft_log_model_laws.specs.Item.{Item}
use Rattle.raft_log_model_laws.specs.Item.Item.{Run}
use Rattle.raft_log_model_laws.specs.Groups.{of_group}
use Rattle.raft_log_record_base.specs.declared.pipe_log.FileBlockHandle.{FileBlockHandle}
use Rattle.raft_log_record_batches.specs.Batch.{Batch}
use Rattle.raft_log_extents.specs.declared.place.Place.{Place}
use Rattle.raft_log_memtable_index.specs.Noted.{AllIn}
use Rattle.raft_log_engine_laws.specs.Writing.{items_at}
use Rattle.raft_log_engine_laws.specs.Parts.{FilesGoUp, WrittenPart, said_items}
use Rattle.raft_log_engine_laws.specs.Whole.{Filed, RunPiece, all_places, batches_of, filed_in, filed_items, in_pieces}
use Rattle.raft_log_engine_laws.specs.Restating.{KeyBytes, entries_of_pieces, puts, runs_in, said_of_group}
use Rattle.raft_log_purge_copy.specs.Pieces.{IsPiece, put_items, run_items}
use Rattle.raft_log_purge_copy.specs.GroupParts.{SayPieces}
use Rattle.raft_log_purge_copy.specs.Restated.{LieFrom}
use Rattle.raft_log_purge_copy.proofs.Saying.{all_of_group, none_of_group}

-- Files.

-- the parts lie in files from that one on
abbrev pub PartsFrom : ℕ → List WrittenPart → Type 0
PartsFrom n [] = Unit {0}
PartsFrom n (p ∷ ps) = (n ≤ p.block.id.seq) × PartsFrom n ps

pub parts_from : (n low high : ℕ) (ps : List WrittenPart) → n ≤ low → FilesGoUp low high ps → PartsFrom n ps
parts_from n low high [] below up = tt
parts_from n low high (p ∷ ps) below (first, rest) = (omega (arith, below, first), parts_from n p.block.id.seq high ps (omega (arith, below, first)) rest)

pub one_more_from : (n : ℕ) (ps : List WrittenPart) (p : WrittenPart) → PartsFrom n ps → n ≤ p.block.id.seq → PartsFrom n (ps ++ p ∷ [])
one_more_from n [] p all last = (last, tt)
one_more_from n (q ∷ ps) p all last = (all.0, one_more_from n ps p all.1 last)

in_file_from : (n m : ℕ) (ps : List Place) → n ≤ m → AllIn m ps → LieFrom n ps
in_file_from n m [] low all = tt
in_file_from n m (p ∷ ps) low (is, all) = (omega (arith, low, is), in_file_from n m ps low all)

both_from : (n : ℕ) (ps qs : List Place) → LieFrom n ps → LieFrom n qs → LieFrom n (ps ++ qs)
both_from n [] qs one other = other
both_from n (p ∷ ps) qs one other = (one.0, both_from n ps qs one.1 other)

-- Items in files.

pub filed_both : (n : ℕ) (xs ys : List (Item Place (List ℕ))) → filed_in n (xs ++ ys) ≡ filed_in n xs ++ filed_in n ys
filed_both n [] ys = refl
filed_both n (x ∷ xs) ys = ap (λ (l : List Filed). record { file = n; item = x } ∷ l) (filed_both n xs ys)

filed_more : (g : ℕ) (ps : List WrittenPart) (p : WrittenPart) → filed_items g (ps ++ p ∷ []) ≡ filed_items g ps ++ filed_in p.block.id.seq (of_group g (items_at p.block p.batch))
filed_more g [] p = append-nil (filed_in p.block.id.seq (of_group g (items_at p.block p.batch)))
filed_more g (q ∷ ps) p =
    let front = filed_in q.block.id.seq (of_group g (items_at q.block q.batch)) in
    ap (λ (l : List Filed). front ++ l) (filed_more g ps p) ∙ sym (append_assoc front (filed_items g ps) (filed_in p.block.id.seq (of_group g (items_at p.block p.batch))))

-- a run of one record as a piece, if it has entries
abbrev pub run_piece : ℕ → List Place → List RunPiece
run_piece n [] = []
run_piece n (p ∷ ps) = record { file = n; places = p ∷ ps } ∷ []

pub piece_filed : (n f : ℕ) (ps : List Place) → filed_in n (run_items f ps) ≡ in_pieces f (run_piece n ps)
piece_filed n f [] = refl
piece_filed n f (p ∷ ps) = refl

pub piece_places : (n : ℕ) (ps : List Place) → all_places (run_piece n ps) ≡ ps
piece_places n [] = refl
piece_places n (p ∷ ps) = append-nil (p ∷ ps)

pieces_both : (f : ℕ) (xs ys : List RunPiece) → in_pieces f (xs ++ ys) ≡ in_pieces f xs ++ in_pieces (f + length (all_places xs)) ys
pieces_both f [] ys = ap (λ (n : ℕ). in_pieces n ys) (let same : f ≡ f + 0 = omega arith in same)
pieces_both f (x ∷ xs) ys =
    let long = length-append x.places (all_places xs) in
    ap (λ (l : List Filed). record { file = x.file; item = Run f x.places } ∷ l)
    (pieces_both (f + length x.places) xs ys
    ∙ ap (λ (n : ℕ). in_pieces (f + length x.places) xs ++ in_pieces n ys) (let same : (f + length x.places) + length (all_places xs) ≡ f + length (x.places ++ all_places xs) = omega (arith, long) in same))

places_both : (xs ys : List RunPiece) → all_places (xs ++ ys) ≡ all_places xs ++ all_places ys
places_both [] ys = refl
places_both (x ∷ xs) ys = ap (λ (l : List Place). x.places ++ l) (places_both xs ys) ∙ sym (append_assoc x.places (all_places xs) (all_places ys))

-- what a piece has of its group
pub piece_of_group : (g f : ℕ) (bytes : List (List ℕ)) (pairs : List (List ℕ × List ℕ)) (b : Batch) (is : IsPiece g f bytes pairs b) (block : FileBlockHandle) → of_group g (items_at block b) ≡ run_items f (is.there block).0 ++ put_items pairs
piece_of_group g f bytes pairs b is block = ap (of_group g) (is.there block).3 ∙ all_of_group g (run_items f (is.there block).0 ++ put_items pairs)

-- The parts have a run in pieces: so many entries from an index on.
record AreFiled (g f count : ℕ) (ps : List WrittenPart) : Type 0 where
  runs : List RunPiece
  items : filed_items g ps ≡ in_pieces f runs
  many : length (all_places runs) ≡ count
  from : (n : ℕ) → PartsFrom n ps → LieFrom n (all_places runs)

parts_filed : (g f : ℕ) (pieces : List (List (List ℕ))) (ps : List WrittenPart) → SayPieces g f pieces ps → AreFiled g f (length (entries_of_pieces pieces)) ps
parts_filed g f [] [] are = record { runs = []; items = refl; many = refl; from = λ n all. tt }
parts_filed g f [] (p ∷ ps) are = absurd are
parts_filed g f (es ∷ more) [] are = absurd are
parts_filed g f (es ∷ more) (p ∷ ps) (some, piece, rest) =
    let n : ℕ = p.block.id.seq in
    let there = piece.there p.block in
    let qs : List Place = there.0 in
    let long : length qs ≡ length es = there.1 in
    let on = parts_filed g (f + length es) more ps rest in
    let shift : (f + length es) ≡ f + length (all_places (run_piece n qs)) = (let same = ap length (piece_places n qs) in omega (arith, same, long)) in
    let both = length-append es (entries_of_pieces more) in
    let all = ap length (places_both (run_piece n qs) on.runs) ∙ length-append (all_places (run_piece n qs)) (all_places on.runs) in
    record {
      runs = run_piece n qs ++ on.runs;
      items =
          ap (λ (l : List (Item Place (List ℕ))). filed_in n l ++ filed_items g ps) (piece_of_group g f es [] p.batch piece p.block ∙ append-nil (run_items f qs))
          ∙ ap₂ (λ (x y : List Filed). x ++ y) (piece_filed n f qs) (on.items ∙ ap (λ (k : ℕ). in_pieces k on.runs) shift)
          ∙ sym (pieces_both f (run_piece n qs) on.runs);
      many = (let same = ap length (piece_places n qs) in let rest_many = on.many in omega (arith, all, same, long, both, rest_many));
      from = λ k low.
          subst (LieFrom k) (sym (places_both (run_piece n qs) on.runs))
          (both_from k (all_places (run_piece n qs)) (all_places on.runs) (subst (LieFrom k) (sym (piece_places n qs)) (in_file_from k n qs low.0 there.2)) (on.from k low.1));
    }

-- The parts have a run in pieces, from an index on, and keys behind it, in the last file.
pub record WholeFiled (g f count : ℕ) (pairs : List (List ℕ × List ℕ)) (ps : List WrittenPart) : Type 0 where
  pub runs : List RunPiece
  pub file : ℕ
  pub items : filed_items g ps ≡ in_pieces f runs ++ filed_in file (put_items pairs)
  pub many : length (all_places runs) ≡ count
  pub from : (n : ℕ) → PartsFrom n ps → LieFrom n (all_places runs) × (n ≤ file)

from_first : (n : ℕ) (ps : List WrittenPart) (p : WrittenPart) → PartsFrom n (ps ++ p ∷ []) → PartsFrom n ps × (n ≤ p.block.id.seq)
from_first n [] p all = (tt, all.0)
from_first n (q ∷ ps) p all = (let rest = from_first n ps p all.1 in ((all.0, rest.0), rest.1))

module _ (g f : ℕ) (pieces : List (List (List ℕ))) (ps : List WrittenPart) (are : SayPieces g f pieces ps) (bytes : List (List ℕ)) (pairs : List (List ℕ × List ℕ)) (b : Batch)
    (is : IsPiece g (f + length (entries_of_pieces pieces)) bytes pairs b) where
  pub whole_filed : (block : FileBlockHandle) → WholeFiled g f (length (entries_of_pieces pieces) + length bytes) pairs (ps ++ record { block = block; batch = b } ∷ [])
  whole_filed block =
      let n : ℕ = block.id.seq in
      let k : ℕ = f + length (entries_of_pieces pieces) in
      let front = parts_filed g f pieces ps are in
      let there = is.there block in
      let qs : List Place = there.0 in
      let long = there.1 in
      let many = front.many in
      let shift : k ≡ f + length (all_places front.runs) = omega (arith, many) in
      let all = ap length (places_both front.runs (run_piece n qs)) ∙ length-append (all_places front.runs) (all_places (run_piece n qs)) in
      record {
        runs = front.runs ++ run_piece n qs;
        file = n;
        items =
            filed_more g ps (record { block = block; batch = b })
            ∙ ap₂ (λ (x y : List Filed). x ++ y) front.items
            (ap (filed_in n) (piece_of_group g k bytes pairs b is block)
            ∙ filed_both n (run_items k qs) (put_items pairs)
            ∙ ap (λ (l : List Filed). l ++ filed_in n (put_items pairs)) (piece_filed n k qs ∙ ap (λ (j : ℕ). in_pieces j (run_piece n qs)) shift))
            ∙ sym (append_assoc (in_pieces f front.runs) (in_pieces (f + length (all_places front.runs)) (run_piece n qs)) (filed_in n (put_items pairs)))
            ∙ ap (λ (l : List Filed). l ++ filed_in n (put_items pairs)) (sym (pieces_both f front.runs (run_piece n qs)));
        many = (let same = ap length (piece_places n qs) in omega (arith, all, same, long, many));
        from = λ j low.
            (let both = from_first j ps (record { block = block; batch = b }) low in (
              subst (LieFrom j) (sym (places_both front.runs (run_piece n qs)))
                  (both_from j (all_places front.runs) (all_places (run_piece n qs)) (front.from j both.0) (subst (LieFrom j) (sym (piece_places n qs)) (in_file_from j n qs both.1 there.2))),
              both.1,
            ));
      }

-- Of other groups they have nothing.

pub piece_of_other : (g h f : ℕ) (bytes : List (List ℕ)) (pairs : List (List ℕ × List ℕ)) (b : Batch) → IsPiece g f bytes pairs b → (g == h) ≡ false → (block : FileBlockHandle) → of_group h (items_at block b) ≡ []
piece_of_other g h f bytes pairs b is apart block = ap (of_group h) (is.there block).3 ∙ none_of_group g h (run_items f (is.there block).0 ++ put_items pairs) apart

others_filed : (g h f : ℕ) (pieces : List (List (List ℕ))) (ps : List WrittenPart) → SayPieces g f pieces ps → (g == h) ≡ false → filed_items h ps ≡ []
others_filed g h f [] [] are apart = refl
others_filed g h f [] (p ∷ ps) are apart = absurd are
others_filed g h f (es ∷ more) [] are apart = absurd are
others_filed g h f (es ∷ more) (p ∷ ps) (some, piece, rest) apart =
    ap₂ (λ (x : List (Item Place (List ℕ))) (y : List Filed). filed_in p.block.id.seq x ++ y) (piece_of_other g h f es [] p.batch piece apart p.block) (others_filed g h (f + length es) more ps rest apart)

pub no_others_filed : (g h f k : ℕ) (pieces : List (List (List ℕ))) (ps : List WrittenPart) → SayPieces g f pieces ps → (bytes : List (List ℕ)) (pairs : List (List ℕ × List ℕ)) (b : Batch) → IsPiece g k bytes pairs b
    → (g == h) ≡ false → (block : FileBlockHandle) → filed_items h (ps ++ record { block = block; batch = b } ∷ []) ≡ []
no_others_filed g h f k pieces ps are bytes pairs b is apart block =
    filed_more h ps (record { block = block; batch = b })
    ∙ ap₂ (λ (x : List Filed) (y : List (Item Place (List ℕ))). x ++ filed_in block.id.seq y) (others_filed g h f pieces ps are apart) (piece_of_other g h k bytes pairs b is apart block)

-- What they say.

-- entries as a piece, if there are any
abbrev pub said_piece : List (List ℕ) → List (List (List ℕ))
said_piece [] = []
said_piece (e ∷ es) = (e ∷ es) ∷ []

-- a key with its value
abbrev pub key_bytes : List (List ℕ × List ℕ) → List KeyBytes
key_bytes pairs = map (λ e. record { key = e.0; value = e.1 }) pairs

puts_same : (pairs : List (List ℕ × List ℕ)) → put_items pairs ≡ puts (key_bytes pairs)
puts_same [] = refl
puts_same (e ∷ es) = ap (λ l. put_items (e ∷ []) ++ l) (puts_same es)

runs_both : (f : ℕ) (xs : List (List (List ℕ))) (es : List (List ℕ)) → runs_in f (xs ++ said_piece es) ≡ runs_in f xs ++ run_items (f + length (entries_of_pieces xs)) es
runs_both f [] [] = refl
runs_both f [] (e ∷ es) = ap (λ (n : ℕ). Run n (e ∷ es) ∷ []) (let same : f ≡ f + 0 = omega arith in same)
runs_both f (x ∷ xs) es =
    let long = length-append x (entries_of_pieces xs) in
    ap (λ l. Run f x ∷ l)
    (runs_both (f + length x) xs es
    ∙ ap (λ (n : ℕ). runs_in (f + length x) xs ++ run_items n es) (let same : (f + length x) + length (entries_of_pieces xs) ≡ f + length (x ++ entries_of_pieces xs) = omega (arith, long) in same))

pub entries_both : (xs : List (List (List ℕ))) (es : List (List ℕ)) → entries_of_pieces (xs ++ said_piece es) ≡ entries_of_pieces xs ++ es
entries_both [] [] = refl
entries_both [] (e ∷ es) = append-nil (e ∷ es)
entries_both (x ∷ xs) es = ap (λ l. x ++ l) (entries_both xs es) ∙ sym (append_assoc x (entries_of_pieces xs) es)

piece_said : (g f : ℕ) (bytes : List (List ℕ)) (pairs : List (List ℕ × List ℕ)) (b : Batch) → IsPiece g f bytes pairs b → of_group g (said_items b) ≡ run_items f bytes ++ put_items pairs
piece_said g f bytes pairs b is = ap (of_group g) is.said ∙ all_of_group g (run_items f bytes ++ put_items pairs)

some_run : {E : Type 0} (f : ℕ) (es : List E) → 0 < length es → run_items f es ≡ Run f es ∷ []
some_run f [] some = absurd (omega (arith, some))
some_run f (e ∷ es) some = refl

parts_said : (g f : ℕ) (pieces : List (List (List ℕ))) (ps : List WrittenPart) → SayPieces g f pieces ps → said_of_group g (batches_of ps) ≡ runs_in f pieces
parts_said g f [] [] are = refl
parts_said g f [] (p ∷ ps) are = absurd are
parts_said g f (es ∷ more) [] are = absurd are
parts_said g f (es ∷ more) (p ∷ ps) (some, piece, rest) =
    ap₂ (λ x y. x ++ y) (piece_said g f es [] p.batch piece ∙ append-nil (run_items f es) ∙ some_run f es some) (parts_said g (f + length es) more ps rest)

said_more : (g : ℕ) (bs : List Batch) (b : Batch) → said_of_group g (bs ++ b ∷ []) ≡ said_of_group g bs ++ of_group g (said_items b)
said_more g [] b = append-nil (of_group g (said_items b))
said_more g (x ∷ bs) b = ap (λ l. of_group g (said_items x) ++ l) (said_more g bs b) ∙ sym (append_assoc (of_group g (said_items x)) (said_of_group g bs) (of_group g (said_items b)))

pub whole_said : (g f : ℕ) (pieces : List (List (List ℕ))) (ps : List WrittenPart) → SayPieces g f pieces ps → (bytes : List (List ℕ)) (pairs : List (List ℕ × List ℕ)) (b : Batch)
    → IsPiece g (f + length (entries_of_pieces pieces)) bytes pairs b → said_of_group g (batches_of ps ++ b ∷ []) ≡ runs_in f (pieces ++ said_piece bytes) ++ puts (key_bytes pairs)
whole_said g f pieces ps are bytes pairs b is =
    let k : ℕ = f + length (entries_of_pieces pieces) in
    said_more g (batches_of ps) b
    ∙ ap₂ (λ x y. x ++ y) (parts_said g f pieces ps are) (piece_said g k bytes pairs b is)
    ∙ sym (append_assoc (runs_in f pieces) (run_items k bytes) (put_items pairs))
    ∙ ap₂ (λ x y. x ++ y) (sym (runs_both f pieces bytes)) (puts_same pairs)

others_said : (g h f : ℕ) (pieces : List (List (List ℕ))) (ps : List WrittenPart) → SayPieces g f pieces ps → (g == h) ≡ false → said_of_group h (batches_of ps) ≡ []
others_said g h f [] [] are apart = refl
others_said g h f [] (p ∷ ps) are apart = absurd are
others_said g h f (es ∷ more) [] are apart = absurd are
others_said g h f (es ∷ more) (p ∷ ps) (some, piece, rest) apart =
    ap₂ (λ x y. x ++ y) (ap (of_group h) piece.said ∙ none_of_group g h (run_items f es ++ put_items []) apart) (others_said g h (f + length es) more ps rest apart)

pub no_others_said : (g h f k : ℕ) (pieces : List (List (List ℕ))) (ps : List WrittenPart) → SayPieces g f pieces ps → (bytes : List (List ℕ)) (pairs : List (List ℕ × List ℕ)) (b : Batch) → IsPiece g k bytes pairs b
    → (g == h) ≡ false → said_of_group h (batches_of ps ++ b ∷ []) ≡ []
no_others_said g h f k pieces ps are bytes pairs b is apart =
    said_more h (batches_of ps) b ∙ ap₂ (λ x y. x ++ y) (others_said g h f pieces ps are apart) (ap (of_group h) is.said ∙ none_of_group g h (run_items k bytes ++ put_items pairs) apart)
