-- A store is opened several times, one after another. Threads share each opened store. When they are done, the store is
-- settled, and the next open finds what the store left.
use Rattle.std.specs.Prelude.{◌≡◌, ◌≤◌, true, List, [], ◌∷◌, length, map}
use Rattle.raft_voter.specs.Rounds.{Explains, World, fresh_world}
use Rattle.raft_voter.specs.Service.{CutRound, IsOpenAt, MayFollow, Service}
use Rattle.raft_voter_rounds.specs.Journal.{IsLegal}
use Rattle.raft_voter_shared.specs.Openings.{Session, TookUpTo, all_cuts, all_rounds}
use Rattle.raft_voter_shared.specs.Standing.{is_last, standing}

-- One opening: the store when it was opened, its session, and the store when it was settled. The session has the
-- journal of the rounds, and how the store failed, as settling returned them. The rounds in which the store failed are
-- cut as one round, and the session also has this cut.
pub record Sharing (S : Type 0) : Type 0 where
  pub opened : S
  pub session : Session
  pub settled : S

-- Which voters the store may leave, if it was opened with the voters of `W`: those that are possible after this cut-off
-- round. If the store failed in rounds that it served together, the cut-off round is these rounds as one. Possible are
-- voters that took its requests before some position, without the refused ones. Otherwise no round was cut off, and
-- only the voters after all records are possible.
abbrev pub behind : World → Session → CutRound
behind W s = standing W s.journal s.failure

-- What settling a store returns, for any voters that it served when it was opened:
-- - `legal`: the journal is a legal history that begins with these voters.
-- - `last`: if the store failed in rounds, the records of these rounds and all later ones were cut off.
-- - `left`: the store leaves voters that are possible after the journal.
pub record Settles {S : Type 0} (v : Service S) (x : Sharing S) : Type 0 where
  pub legal : (W : World) → IsOpenAt v x.opened W → IsLegal W x.session.journal
  pub last : is_last x.session.failure x.session.journal ≡ true
  pub left : (W : World) → IsOpenAt v x.opened W → ∥ v.leaves x.settled (behind W x.session) ∥₁

-- if the opening `x` began with the voters of a world, the store `next` serves voters that are possible after `x`
abbrev pub ContinuesFrom : {S : Type 0} → Service S → Sharing S → S → Type 0
ContinuesFrom v x next = (W : World) → IsOpenAt v x.opened W
    → ∥ ((X : World) × MayFollow (behind W x.session) X × IsOpenAt v next X) ∥₁

-- Which voters the next opened store serves. They took the journal's rounds before those in which the store failed. The
-- rounds in which it failed count as one. Of this round, they took the requests before the session's cut, without the
-- refused ones.
abbrev pub ShowsPlace : {S : Type 0} → Service S → Sharing S → S → Type 0
ShowsPlace v x next = (W X : World) → IsOpenAt v x.opened W → IsOpenAt v next X
    → TookUpTo (behind W x.session) X x.session.place

-- If no open follows, the rounds in which the store failed count as one, and the session's cut may be any position in
-- it. If there are no such rounds, the cut is 0.
abbrev pub HasPlace : {S : Type 0} → Service S → Sharing S → Type 0
HasPlace v x = (W : World) → IsOpenAt v x.opened W → x.session.place ≤ length (behind W x.session).requests

-- What follows the opening `x`. The next opening finds voters that are possible after `x`: those that took the requests
-- up to the cut of `x`. If there is no next opening, the cut may be any position.
abbrev pub IsFollowedBy : {S : Type 0} → Service S → Sharing S → List (Sharing S) → Type 0
IsFollowedBy v x [] = HasPlace v x
IsFollowedBy v x (y ∷ ys) = ContinuesFrom v x y.opened × ShowsPlace v x y.opened

-- each store was settled, and the next opening continues from what it left
abbrev pub AreJoined : {S : Type 0} → Service S → List (Sharing S) → Type 0
AreJoined v [] = Unit {0}
AreJoined v (x ∷ xs) = Settles v x × IsFollowedBy v x xs × AreJoined v xs

-- the store of the first opening serves fresh voters
abbrev pub BeginsFresh : {S : Type 0} → Service S → List (Sharing S) → Type 0
BeginsFresh v [] = Unit {0}
BeginsFresh v (x ∷ xs) = ∥ IsOpenAt v x.opened fresh_world ∥₁

-- the sessions that settling the stores returned, in order
abbrev pub sessions_of : {S : Type 0} → List (Sharing S) → List Session
sessions_of xs = map (λ x. x.session) xs

-- Voters that never fail give exactly the replies in all journals, one after another. The rounds in which a store
-- failed are cut, as one round, at the position that the next open shows. The cut of each other round without replies
-- is 0.
abbrev pub JoinedOpeningsAreExplained : {S : Type 0} → Service S → Type 0
JoinedOpeningsAreExplained {S} v = (xs : List (Sharing S)) → BeginsFresh v xs → AreJoined v xs
    → Explains (all_rounds (sessions_of xs)) (all_cuts (sessions_of xs))
