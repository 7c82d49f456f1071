use Rattle.std.proofs.Common.{◌≡◌, ℕ, ◌≤◌, ◌∙◌, List, [], ◌∷◌, ◌++◌, length, drop, append-nil, refl, sym, ap, arith}
use Rattle.std.proofs.lemmas.List.{at_drop_all}
use Rattle.raft_voter_messages.specs.declared.reply.Reply.{Reply}
use Rattle.raft_voter_messages.specs.declared.request.Request.{Request}
use Rattle.raft_voter_session.specs.Text.{places_text}
use Rattle.raft_voter_session.proofs.text.write_replies.Goals as goal

no_places : (place : ℕ) (qs : List (ℕ × Request)) → places_text place qs [] ≡ []
no_places place [] = refl
no_places place (q ∷ qs) = refl

all_written : (text : List ℕ) (place : ℕ) (qs : List (ℕ × Request)) (replies : List Reply) (all : List ℕ) → length replies ≤ place
    → text ++ places_text place qs (drop place replies) ≡ all → text ≡ all
all_written text place qs replies all h so_far =
    let none : places_text place qs (drop place replies) ≡ [] = at_drop_all (places_text place qs) replies place h ∙ no_places place qs in
    sym (append-nil text) ∙ ap (λ more. text ++ more) (sym none) ∙ so_far

pub returns : goal.returns
returns c = all_written _ c.loop-place.place (drop c.loop-place.place c.args.requests.now) c.args.replies.now _ (omega arith) c.loop-place.invariant
