-- One more entry is read.
use Rattle.std.proofs.Common.{◌≡◌, ℕ, ◌+◌, ◌<◌, List, [], ◌∷◌, ◌++◌, length, map, length-take, take, get_or, sym, ap, subst, ◌∙◌, arith}
use Rattle.std.proofs.lemmas.List.{length-map, map-append, take_more}
use Rattle.raft_log_record_items.specs.declared.raw_message.RawMessage.{RawMessage}
use Rattle.raft_voter_messages.specs.declared.reply.Entry.{Entry}
use Rattle.raft_voter_messages.specs.StoredForms.{IsEntry}
use Rattle.raft_voter.specs.Laws.{AreReadAs}

behind : (first : ℕ) (texts : List (List ℕ)) (es : List Entry) (text : List ℕ) (e : Entry) (at : ℕ) → at ≡ first + length texts → AreReadAs first texts es → IsEntry text at e
    → AreReadAs first (texts ++ text ∷ []) (es ++ e ∷ [])
behind first [] [] text e at is read one =
    let here : at ≡ first = omega arith in
    (subst (λ (i : ℕ). IsEntry text i e) here one, tt)
behind first [] (f ∷ fs) text e at is read one = absurd read
behind first (t ∷ ts) [] text e at is read one = absurd read
behind first (t ∷ ts) (f ∷ fs) text e at is read one = (read.0, behind (first + 1) ts fs text e at (omega arith) read.1 one)

pub read_more : (first i index : ℕ) (ms : List RawMessage) (m : RawMessage) (before after : List Entry) (e : Entry) → i < length ms → m ≡ get_or ms i m → index ≡ first + i
    → AreReadAs first (map (λ (x : RawMessage). x.bytes) (take i ms)) before → after ≡ before ++ e ∷ [] → IsEntry m.bytes index e
    → AreReadAs first (map (λ (x : RawMessage). x.bytes) (take (i + 1) ms)) after
read_more first i index ms m before after e lt is at read now one =
    let text : RawMessage → List ℕ = λ x. x.bytes in
    let some : List (List ℕ) = map text (take i ms) in
    let count : length some ≡ i = omega (arith, length-map (take i ms) text, length-take i ms) in
    let all : map text (take (i + 1) ms) ≡ some ++ m.bytes ∷ [] =
    ap (λ (l : List RawMessage). map text l) (take_more ms i m lt ∙ ap (λ (x : RawMessage). take i ms ++ x ∷ []) (sym is)) ∙ map-append text (take i ms) (m ∷ []) in
    let next : AreReadAs first (some ++ m.bytes ∷ []) (before ++ e ∷ []) = behind first some before m.bytes e index (omega (arith, at, count)) read one in
    let P : List (List ℕ) → Type 0 = λ l. AreReadAs first l after in
    let Q : List Entry → Type 0 = λ l. AreReadAs first (some ++ m.bytes ∷ []) l in
    subst P (sym all) (subst Q (sym now) next)
