-- Two stores that serve the same voters reply alike.
use Rattle.std.proofs.Common.{◌≡◌, ◌∙◌, ℕ, List, [], ◌∷◌, length, ap, refl, subst, sym}
use Rattle.raft_voter_messages.specs.declared.reply.Reply.{Reply}
use Rattle.raft_voter_messages.specs.declared.request.Request.{Request}
use Rattle.raft_voter.specs.Rounds.{World, after, replies_from, taken_from}
use Rattle.raft_voter.specs.Service.{Answers, IsOpenAt, Service, refused_from}
use Rattle.raft_voter_world.specs.Alike.{AllReplyAlike, refused_in}

-- one round
one_alike : (W X Y : World) (requests : List (ℕ × Request)) (told others : List Reply) → Answers W requests told X → Answers W requests others Y
    → refused_from 0 told ≡ refused_from 0 others → (told ≡ others) × (X ≡ Y)
one_alike W X Y requests told others a b same = (
  a.told ∙ ap (λ (ps : List ℕ). replies_from 0 ps W requests) same ∙ sym b.told,
  a.taken ∙ ap (λ (ps : List ℕ). after W (taken_from 0 (length requests) ps requests)) same ∙ sym b.taken,
)

first_of : (xs ys : List ℕ) (xss yss : List (List ℕ)) → (xs ∷ xss) ≡ (ys ∷ yss) → (xs ≡ ys) × (xss ≡ yss)
first_of xs ys xss yss e = (cc, cc)

pub all_alike : {S T : Type 0} (v : Service S) (w : Service T) → AllReplyAlike v w
all_alike v w voters [] [] [] old new first last at a here b same = refl
all_alike v w voters [] [] (o ∷ others) old new first last at a here b same = absurd b
all_alike v w voters [] (t ∷ told) others old new first last at a here b same = absurd a
all_alike v w voters (r ∷ rounds) [] others old new first last at a here b same = absurd a
all_alike v w voters (r ∷ rounds) (t ∷ told) [] old new first last at a here b same = absurd b
all_alike v w voters (r ∷ rounds) (t ∷ told) (o ∷ others) old new first last at a here b same =
    let mine = a.1 voters at in
    let other = b.1 voters here in
    let places = first_of (refused_from 0 t) (refused_from 0 o) (refused_in told) (refused_in others) same in
    let both = one_alike voters mine.0 other.0 r t o mine.1 other.1 places.0 in
    let there : IsOpenAt w b.0 mine.0 = subst (λ (W : World). IsOpenAt w b.0 W) (sym both.1) other.2 in
    let rest : told ≡ others = all_alike v w mine.0 rounds told others a.0 new b.0 last mine.2 a.2 there b.2 places.1 in
    ap (λ (x : List Reply). x ∷ told) both.0 ∙ ap (λ (xs : List (List Reply)). o ∷ xs) rest
