-- What holds of chains of records over any frame relation in which no spelling begins another.
use Rattle.std.proofs.Common.{◌≡◌, ℕ, ◌+◌, ◌<◌, ◌≤◌, zero, suc, List, [], ◌∷◌, ◌++◌, length, take, drop, refl, sym, ◌∙◌, ap, subst, inl, inr, arith, length-append, length-drop}
use Rattle.std.proofs.lemmas.List.{append-nil, append_assoc, append_cancel_left, drop_at, drop-take, take_at, take-append-drop}
use Rattle.raft_log_file_writer.specs.LawsChains.{Written, IsSelfDelimiting, spelled, AreFrames, Refuses, BeginsWith, Reads, Meets, LiesIn, CanTell}

pub spelled-append : {R : Type 0} (vs ws : List (Written R)) → spelled (vs ++ ws) ≡ spelled vs ++ spelled ws
spelled-append [] ws = refl
spelled-append (v ∷ vs) ws = ap (λ bs. v.bytes ++ bs) (spelled-append vs ws) ∙ sym (append_assoc v.bytes (spelled vs) (spelled ws))

-- what lies within a part lies within the whole
pub lies_within : (a b c : ℕ) (x y z : List ℕ) → LiesIn a x b y → LiesIn b y c z → LiesIn a x c z
lies_within a b c x y z outer inner = record {
  ahead = outer.ahead ++ inner.ahead;
  behind = inner.behind ++ outer.behind;
  splits = outer.splits ∙ ap (λ (p : List ℕ). outer.ahead ++ (p ++ outer.behind)) inner.splits
      ∙ ap (λ (p : List ℕ). outer.ahead ++ p) (append_assoc inner.ahead (z ++ inner.behind) outer.behind ∙ ap (λ (p : List ℕ). inner.ahead ++ p) (append_assoc z inner.behind outer.behind))
      ∙ sym (append_assoc outer.ahead inner.ahead (z ++ (inner.behind ++ outer.behind)));
  place = omega (arith, inner.place, outer.place, length-append outer.ahead inner.ahead);
}

-- what lies within bytes lies within more of them
pub lies_in_more : (a c : ℕ) (x y z : List ℕ) → LiesIn a x c z → LiesIn a (x ++ y) c z
lies_in_more a c x y z inner = lies_within a a c (x ++ y) x z (record { ahead = []; behind = y; splits = refl; place = omega arith }) inner

-- a beginning of a list, with one more element in front
one_more : {R : Type 0} (w : Written R) (ws after todo : List (Written R)) (k : ℕ) → todo ≡ w ∷ after → k ≤ length after → ws ≡ take k after
    → (n : ℕ) × (n ≤ length todo) × (w ∷ ws ≡ take n todo)
one_more {R} w ws after todo k e less same =
    let count = ap length e in
    let first : w ∷ ws ≡ w ∷ take k after = ap (λ (vs : List (Written R)). w ∷ vs) same in
    let taken : take (suc k) todo ≡ w ∷ take k after = ap (λ (vs : List (Written R)). take (suc k) vs) e in
    (suc k, omega arith, first ∙ sym taken)

module _ {R : Type 0} (IsFrame : List ℕ → R → Type 0) where
  pub frames_append : (vs ws : List (Written R)) → AreFrames IsFrame vs → AreFrames IsFrame ws → AreFrames IsFrame (vs ++ ws)
  frames_append [] ws _ h = h
  frames_append (v ∷ vs) ws g h = (g.0, frames_append vs ws g.1 h)

  pub frames_front : (vs ws : List (Written R)) → AreFrames IsFrame (vs ++ ws) → AreFrames IsFrame vs
  frames_front [] ws _ = tt
  frames_front (v ∷ vs) ws h = (h.0, frames_front vs ws h.1)

  pub frames_back : (vs ws : List (Written R)) → AreFrames IsFrame (vs ++ ws) → AreFrames IsFrame ws
  frames_back [] ws h = h
  frames_back (v ∷ vs) ws h = frames_back vs ws h.1

  -- bytes that begin with these records and others begin with these
  pub begins_front : (start : ℕ) (vs ws : List (Written R)) (bytes : List ℕ) → BeginsWith IsFrame start (vs ++ ws) bytes → BeginsWith IsFrame start vs bytes
  begins_front start vs ws bytes begins = record {
    rest = spelled ws ++ begins.rest;
    splits = begins.splits ∙ ap (λ (b : List ℕ). b ++ begins.rest) (spelled-append vs ws) ∙ append_assoc (spelled vs) (spelled ws) begins.rest;
    frames = frames_front vs ws begins.frames;
  }

  -- what is read is what the bytes begin with
  pub reads_begin : (start : ℕ) (ws : List (Written R)) (bytes : List ℕ) → Reads IsFrame start ws bytes → BeginsWith IsFrame start ws bytes
  reads_begin start ws bytes reads = record { rest = reads.rest; splits = reads.splits; frames = reads.frames }

  -- files that agree up to the end of a chain both begin with it
  pub chains_agree : (start : ℕ) (ws : List (Written R)) (c d : List ℕ) → take (start + length (spelled ws)) d ≡ take (start + length (spelled ws)) c
      → BeginsWith IsFrame start ws c → BeginsWith IsFrame start ws d
  chains_agree start ws c d same begins =
      let n = length (spelled ws) in
      let front : take n (drop start d) ≡ spelled ws =
      sym (drop-take start n d) ∙ ap (λ (b : List ℕ). drop start b) same ∙ drop-take start n c ∙ ap (λ (b : List ℕ). take n b) begins.splits ∙ take_at (spelled ws) begins.rest n refl in
      record { rest = drop n (drop start d); splits = sym (take-append-drop n (drop start d)) ∙ ap (λ (b : List ℕ). b ++ drop n (drop start d)) front; frames = begins.frames }

  module _ (free : IsSelfDelimiting IsFrame) where
    -- a spelling has a first byte
    pub frame_filled : (bytes : List ℕ) (r : R) → IsFrame bytes r → 0 < length bytes
    frame_filled [] r h = absurd (free.filled r h)
    frame_filled (x ∷ xs) r h = omega arith

    -- no record begins where no byte is left
    pub nothing_refuses : Refuses IsFrame []
    nothing_refuses w rest h e =
        let some = frame_filled w.bytes w.value h in
        absurd (omega (arith, ap length e, length-append w.bytes rest))

    -- a beginning of a spelling, short of the whole, is refused: a write that was cut off there reads as nothing
    pub cut_off_refuses : (w : Written R) (n : ℕ) → IsFrame w.bytes w.value → n < length w.bytes → Refuses IsFrame (take n w.bytes)
    cut_off_refuses w n framed less v rest h e =
        let whole : v.bytes ++ (rest ++ drop n w.bytes) ≡ w.bytes ++ [] =
        sym (append_assoc v.bytes rest (drop n w.bytes)) ∙ ap (λ (b : List ℕ). b ++ drop n w.bytes) (sym e) ∙ take-append-drop n w.bytes ∙ sym (append-nil w.bytes) in
        let same = free.apart v.bytes w.bytes (rest ++ drop n w.bytes) [] v.value w.value h framed whole in
        let short = ap length whole in
        absurd (omega (arith, ap length same.0, length-append v.bytes (rest ++ drop n w.bytes), length-append rest (drop n w.bytes), length-drop n w.bytes, length-append w.bytes []))

    -- two records that begin the same bytes are one, and the same follows
    pub same_head : (v w : Written R) (x y : List ℕ) → IsFrame v.bytes v.value → IsFrame w.bytes w.value → v.bytes ++ x ≡ w.bytes ++ y → (v ≡ w) × (x ≡ y)
    same_head v w x y g h e =
        let same = free.apart v.bytes w.bytes x y v.value w.value g h e in
        let whole : v ≡ w = λ i. record { bytes = same.0 i; value = same.1 i } in
        (whole, append_cancel_left v.bytes x y (e ∙ ap (λ (b : List ℕ). b ++ y) (sym same.0)))

    -- what is read of bytes that begin with these records goes on behind them
    pub goes_on : (vs ws : List (Written R)) (x y : List ℕ) → AreFrames IsFrame vs → AreFrames IsFrame ws → spelled vs ++ x ≡ spelled ws ++ y → Refuses IsFrame y
        → (more : List (Written R)) × (ws ≡ vs ++ more) × (x ≡ spelled more ++ y)
    goes_on [] ws x y _ _ e _ = (ws, refl, e)
    goes_on (v ∷ vs) [] x y g _ e ends = absurd (ends v (spelled vs ++ x) g.0 (sym e ∙ append_assoc v.bytes (spelled vs) x))
    goes_on (v ∷ vs) (w ∷ ws) x y g h e ends =
        let head = same_head v w (spelled vs ++ x) (spelled ws ++ y) g.0 h.0 (sym (append_assoc v.bytes (spelled vs) x) ∙ e ∙ append_assoc w.bytes (spelled ws) y) in
        let rest = goes_on vs ws x y g.1 h.1 head.1 ends in
        let first = head.0 in
        let others = rest.1 in
        (rest.0, cc, rest.2)

    -- the same, of a file
    pub reads_further : (start : ℕ) (vs ws : List (Written R)) (bytes : List ℕ) → BeginsWith IsFrame start vs bytes → Reads IsFrame start ws bytes → (more : List (Written R)) × (ws ≡ vs ++ more)
    reads_further start vs ws bytes begins reads =
        let more = goes_on vs ws begins.rest reads.rest begins.frames reads.frames (sym begins.splits ∙ reads.splits) reads.ends in
        (more.0, more.1)

    none_more : (more : List (Written R)) (x y : List ℕ) → AreFrames IsFrame more → Refuses IsFrame x → x ≡ spelled more ++ y → more ≡ []
    none_more [] x y _ _ _ = refl
    none_more (m ∷ ms) x y h ends e = absurd (ends m (spelled ms ++ y) h.0 (e ∙ append_assoc m.bytes (spelled ms) y))

    -- bytes are read in one way
    pub reads_unique : (start : ℕ) (vs ws : List (Written R)) (bytes : List ℕ) → Reads IsFrame start vs bytes → Reads IsFrame start ws bytes → ws ≡ vs
    reads_unique start vs ws bytes g h =
        let more = goes_on vs ws g.rest h.rest g.frames h.frames (sym g.splits ∙ h.splits) h.ends in
        let none = none_more more.0 g.rest h.rest (frames_back vs more.0 (subst (AreFrames IsFrame) more.1 h.frames)) g.ends more.2 in
        more.1 ∙ ap (λ (m : List (Written R)). vs ++ m) none ∙ append-nil vs

    next_from : (todo : List (Written R)) (w : Written R) (behind : List ℕ) → AreFrames IsFrame todo → IsFrame w.bytes w.value → spelled todo ≡ w.bytes ++ behind → (after : List (Written R)) × (todo ≡ w ∷ after)
    next_from [] w behind _ framed e = absurd (nothing_refuses w behind framed e)
    next_from (v ∷ vs) w behind h framed e = (vs, ap (λ (u : Written R). u ∷ vs) (same_head v w (spelled vs) behind h.0 framed e).0)

    next_of_chain : (all done todo : List (Written R)) (w : Written R) (start : ℕ) → AreFrames IsFrame all → all ≡ done ++ todo → IsFrame w.bytes w.value
        → LiesIn start (spelled all) (start + length (spelled done)) w.bytes → (after : List (Written R)) × (todo ≡ w ∷ after)
    next_of_chain all done todo w start h e framed inside =
        let both = ap spelled e ∙ spelled-append done todo in
        let same : length inside.ahead ≡ length (spelled done) = omega (arith, inside.place) in
        let behind : spelled todo ≡ w.bytes ++ inside.behind =
        sym (drop_at (spelled done) (spelled todo) (length (spelled done)) refl) ∙ ap (λ (b : List ℕ). drop (length (spelled done)) b) (sym both ∙ inside.splits)
        ∙ drop_at inside.ahead (w.bytes ++ inside.behind) (length (spelled done)) same in
        next_from todo w inside.behind (frames_back done todo (subst (AreFrames IsFrame) e h)) framed behind

    -- where each record that reading meets lies in the chain, reading goes on as the chain does
    pub follows_chain : (all done todo ws : List (Written R)) (start : ℕ) (bytes : List ℕ) → AreFrames IsFrame all → all ≡ done ++ todo → BeginsWith IsFrame start (done ++ ws) bytes
        → ((at : ℕ) (w : Written R) → Meets IsFrame start at w bytes → LiesIn start (spelled all) at w.bytes)
        → (k : ℕ) × (k ≤ length todo) × (ws ≡ take k todo)
    follows_chain all done todo [] start bytes h e begins met = (0, omega arith, refl)
    follows_chain all done todo (w ∷ ws) start bytes h e begins met =
        let step : done ++ w ∷ ws ≡ (done ++ w ∷ []) ++ ws = sym (append_assoc done (w ∷ []) ws) in
        let longer = subst (λ (vs : List (Written R)). BeginsWith IsFrame start vs bytes) step begins in
        let here = begins_front start (done ++ w ∷ []) ws bytes longer in
        let framed = frames_back done (w ∷ []) here.frames in
        let next = next_of_chain all done todo w start h e framed.0 (met (start + length (spelled done)) w (record { before = done; begins = here; place = refl })) in
        let after = next.0 in
        let split : all ≡ (done ++ w ∷ []) ++ after = e ∙ ap (λ (vs : List (Written R)). done ++ vs) next.1 ∙ sym (append_assoc done (w ∷ []) after) in
        let rest = follows_chain all (done ++ w ∷ []) after ws start bytes h split longer met in
        one_more w ws after todo rest.0 next.1 rest.1 rest.2

    reads_rest : CanTell IsFrame → (room : ℕ) (bytes : List ℕ) → length bytes ≤ room → (ws : List (Written R)) × (rest : List ℕ) × (bytes ≡ spelled ws ++ rest) × AreFrames IsFrame ws × Refuses IsFrame rest
    reads_rest tell zero bytes less = ([], bytes, refl, tt, λ w rest h e. absurd (omega (arith, frame_filled w.bytes w.value h, ap length e, length-append w.bytes rest)))
    reads_rest tell (suc room) bytes less = elim (tell bytes) [
      | inl (w, rest, h, e) ↦
          (let more = reads_rest tell room rest (omega (arith, frame_filled w.bytes w.value h, ap length e, length-append w.bytes rest)) in
          (w ∷ more.0, more.1, e ∙ ap (λ (b : List ℕ). w.bytes ++ b) more.2 ∙ sym (append_assoc w.bytes (spelled more.0) more.1), (h, more.3), more.4))
      | inr none ↦ ([], bytes, refl, tt, none)
    ]

    -- where it can be told whether a record begins, every file has a reading
    pub reads_some : CanTell IsFrame → (start : ℕ) (bytes : List ℕ) → (ws : List (Written R)) × Reads IsFrame start ws bytes
    reads_some tell start bytes =
        let all = reads_rest tell (length (drop start bytes)) (drop start bytes) (omega arith) in
        (all.0, record { rest = all.1; splits = all.2; frames = all.3; ends = all.4 })
