-- The places that were refused, one reply more.
use Rattle.std.proofs.Common.{◌≡◌, ℕ, ◌+◌, true, false, if◌then◌else◌, List, [], ◌∷◌, ◌++◌, length, length-take, take, get_or, ◌<◌, refl, sym, ap, ◌∙◌, arith}
use Rattle.std.proofs.lemmas.List.{take_more}
use Rattle.raft_voter_messages.specs.declared.reply.Reply.{Reply}
use Rattle.raft_voter.specs.Service.{is_refused, refused_from}

pub refused_behind : (p at : ℕ) (rs : List Reply) (r : Reply) → at ≡ p + length rs → refused_from p (rs ++ r ∷ []) ≡ refused_from p rs ++ refused_from at (r ∷ [])
refused_behind p at [] r is =
    let here : at ≡ p = omega arith in
    rw here refl
refused_behind p at (x ∷ xs) r is =
    let more = refused_behind (p + 1) at xs r (omega arith) in
    elim (is_refused x) as (λ b. (if b then p ∷ refused_from (p + 1) (xs ++ r ∷ []) else refused_from (p + 1) (xs ++ r ∷ []))
    ≡ (if b then p ∷ refused_from (p + 1) xs else refused_from (p + 1) xs) ++ refused_from at (r ∷ []))
    [ true ↦ ap (λ (l : List ℕ). p ∷ l) more | false ↦ more ]

pub refused_more : (i : ℕ) (rs : List Reply) (r : Reply) (before after : List ℕ) → i < length rs → r ≡ get_or rs i r → before ≡ refused_from 0 (take i rs) → after ≡ before ++ refused_from i (r ∷ [])
    → after ≡ refused_from 0 (take (i + 1) rs)
refused_more i rs r before after lt is h now =
    now ∙ ap (λ (l : List ℕ). l ++ refused_from i (r ∷ [])) h
    ∙ sym (ap (λ (l : List Reply). refused_from 0 l) (take_more rs i r lt ∙ ap (λ (x : Reply). take i rs ++ x ∷ []) (sym is)) ∙ refused_behind 0 i (take i rs) r (omega (arith, length-take i rs)))
