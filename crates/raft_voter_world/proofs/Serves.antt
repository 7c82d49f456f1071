-- The stores of a run serve voters, where each that was opened served some.
use Rattle.std.proofs.Common.{◌≡◌, false, List, [], ◌∷◌, ◌++◌, refl, subst, inl, inr}
use Rattle.raft_voter.specs.Rounds.{World, fresh_world}
use Rattle.raft_voter.specs.Service.{CutRound, IsOpenAt, Service, uncut}
use Rattle.raft_voter_world.specs.declared.event.Left.{Left}
use Rattle.raft_voter_world.specs.declared.event.Left.TheVariants.{Last}
use Rattle.raft_voter_world.specs.declared.storage.Storage.{Storage}
use Rattle.raft_voter_world.specs.declared.storage.Storage.TheVariants.{Closed, Open}
use Rattle.raft_voter_world.specs.Cuts.{ServeSome, cut_after, cut_by}
use Rattle.raft_voter_world.specs.History.{Ends, Falls, Happen, Happens, Moment, behind, behind_all}
use Rattle.raft_voter_world.specs.History.Moment.{opened, unread, fell, unopened, crashed, kept, answered, cut_off, idle}
use Rattle.raft_voter_world.specs.Run.{ending_left, moments_of}
use Rattle.raft_voter_world.specs.Stores.{Disk, Upkeep}
use Rattle.raft_voter_world.proofs.Explaining.{answered_on, cut_serves, kept_serves}
use Rattle.raft_voter_world.proofs.Leading.{Serving}
use Rattle.raft_voter_world.specs.Causes.{HappenedTo, StoresOfRunsServe}
use Rattle.raft_voter_world.proofs.Told.{run_happened}

-- Opens among moments.

-- where those of the first moments serve voters, and those of the others, all do
serve_more : {S F : Type 0} (v : Service S) (ms ns : List (Moment S F)) → ServeSome v ms → ServeSome v ns → ServeSome v (ms ++ ns)
serve_more v [] ns a b = b
serve_more v (opened workers store voters place now ∷ ms) ns a b = (a.0, serve_more v ms ns a.1 b)
serve_more v (unread workers store now files ∷ ms) ns a b = serve_more v ms ns a b
serve_more v (fell workers store gone files ∷ ms) ns a b = serve_more v ms ns a b
serve_more v (unopened workers cause files ∷ ms) ns a b = serve_more v ms ns a b
serve_more v (crashed gone files ∷ ms) ns a b = serve_more v ms ns a b
serve_more v (kept change now ∷ ms) ns a b = serve_more v ms ns a b
serve_more v (answered round now ∷ ms) ns a b = serve_more v ms ns a b
serve_more v (cut_off round cause now ∷ ms) ns a b = serve_more v ms ns a b
serve_more v (idle round files ∷ ms) ns a b = serve_more v ms ns a b

-- where all do, those of the first moments do
pub serve_first : {S F : Type 0} (v : Service S) (ms ns : List (Moment S F)) → ServeSome v (ms ++ ns) → ServeSome v ms
serve_first v [] ns a = tt
serve_first v (opened workers store voters place now ∷ ms) ns a = (a.0, serve_first v ms ns a.1)
serve_first v (unread workers store now files ∷ ms) ns a = serve_first v ms ns a
serve_first v (fell workers store gone files ∷ ms) ns a = serve_first v ms ns a
serve_first v (unopened workers cause files ∷ ms) ns a = serve_first v ms ns a
serve_first v (crashed gone files ∷ ms) ns a = serve_first v ms ns a
serve_first v (kept change now ∷ ms) ns a = serve_first v ms ns a
serve_first v (answered round now ∷ ms) ns a = serve_first v ms ns a
serve_first v (cut_off round cause now ∷ ms) ns a = serve_first v ms ns a
serve_first v (idle round files ∷ ms) ns a = serve_first v ms ns a

-- a fall opens nothing
falls_serve : {S F : Type 0} (v : Service S) (u : Upkeep S) (d : Disk S F) (gone : Left) (storage : Storage S F) (ms : List (Moment S F)) → Falls u d gone storage ms → ServeSome v ms
falls_serve v u d gone storage [] f = tt
falls_serve v u d gone storage (crashed other files ∷ []) f = tt
falls_serve v u d gone storage (m ∷ ms) f = absurd f

-- nor does a run's end
ends_serve : {S F : Type 0} (v : Service S) (u : Upkeep S) (d : Disk S F) (gone : Left) (storage : Storage S F) (ms : List (Moment S F)) → Ends u d gone storage ms → ServeSome v ms
ends_serve v u d gone (Closed files) ms e = falls_serve v u d gone (Closed files) ms e
ends_serve v u d gone (Open store) [] e = absurd e
ends_serve v u d gone (Open store) (kept change now ∷ ms) e = falls_serve v u d gone now ms e.1
ends_serve v u d gone (Open store) (m ∷ ms) e = absurd e.0

-- Stores that go on serving.

-- behind a moment an open store serves, as it did before
serves_on : {S F : Type 0} (v : Service S) (u : Upkeep S) (d : Disk S F) (storage : Storage S F) (cut : CutRound) (m : Moment S F) (ms : List (Moment S F)) → Happens v u d storage m → ServeSome v (m ∷ ms) → Serving v storage cut
    → (next : CutRound) × Serving v (behind m) next × ServeSome v ms
serves_on v u d (Closed files) cut (opened workers store voters place now) ms h s serving = (uncut s.0.0, (λ alive. (refl, h.2.served s.0.0 s.0.1)), s.1)
serves_on v u d (Closed files) cut (unread workers store now left) ms h s serving = (cut, tt, s)
serves_on v u d (Closed files) cut (fell workers store gone left) ms h s serving = (cut, tt, s)
serves_on v u d (Closed files) cut (unopened workers cause back) ms h s serving = (cut, tt, s)
serves_on v u d storage cut (crashed gone left) ms h s serving = (cut, tt, s)
serves_on v u d (Closed files) cut (kept change now) ms h s serving = (cut, kept_serves v u d change (Closed files) now cut h serving, s)
serves_on v u d (Open store) cut (kept change now) ms h s serving = (cut, kept_serves v u d change (Open store) now cut h serving, s)
serves_on v u d (Open store) cut (answered round now) ms h s serving = (cut_after cut round, (λ alive. (refl, (answered_on v store now cut round ms 0 h (serving h.alive.0)).0)), s)
serves_on v u d (Open store) cut (cut_off round cause now) ms h s serving = (cut_by cause cut round, cut_serves v store now cut round cause h serving, s)
serves_on v u d (Closed files) cut (idle round now) ms h s serving = (cut, tt, s)
serves_on v u d (Open store) cut (opened workers old voters place now) ms h s serving = absurd h
serves_on v u d (Open store) cut (unread workers old now left) ms h s serving = absurd h
serves_on v u d (Open store) cut (fell workers old gone left) ms h s serving = absurd h
serves_on v u d (Open store) cut (unopened workers cause back) ms h s serving = absurd h
serves_on v u d (Open store) cut (idle round now) ms h s serving = absurd h
serves_on v u d (Closed files) cut (answered round now) ms h s serving = absurd h
serves_on v u d (Closed files) cut (cut_off round cause now) ms h s serving = absurd h

-- so does each store to which a moment of several happened
served_to : {S F : Type 0} (v : Service S) (u : Upkeep S) (d : Disk S F) (m : Moment S F) (store : S) (storage : Storage S F) (cut : CutRound) (ms : List (Moment S F))
    → Happen v u d storage ms → ServeSome v ms → Serving v storage cut → HappenedTo m (Open store) storage ms → v.is_failed store ≡ false → (W : World) × IsOpenAt v store W
served_to v u d m store storage cut [] h s serving among alive = absurd among
served_to {S} {F} v u d m store storage cut (n ∷ ms) h s serving (inl (is, there)) alive =
    let here : Storage S F = Open store in
    let serves : Serving v here cut = subst (λ (x : Storage S F). Serving v x cut) there serving in
    (cut.before, (serves alive).1)
served_to v u d m store storage cut (n ∷ ms) h s serving (inr later) alive =
    let on = serves_on v u d storage cut n ms h.0 s serving in
    served_to v u d m store (behind n) on.0 ms h.1 on.2 on.1 later alive

pub stores_of_runs_serve : {S F : Type 0} (v : Service S) (u : Upkeep S) (d : Disk S F) → StoresOfRunsServe v u d
stores_of_runs_serve v u d files events report run serve m store among alive =
    let closed = ends_serve v u d (ending_left Last events) (behind_all (Closed files) (moments_of run.turns)) run.closing run.ended in
    served_to v u d m store (Closed files) (uncut fresh_world) (moments_of run.turns ++ run.closing) (run_happened v u d files events report run)
    (serve_more v (moments_of run.turns) run.closing serve closed) tt among alive
