-- Events behind events, and the end of a run.
use Rattle.std.proofs.Common.{◌≡◌, inl, inr, ℕ, ◌+◌, true, false, List, [], ◌∷◌, ◌++◌, length, Some, None, append_assoc, append-nil, ap, refl, sym, subst, ◌∙◌, arith}
use Rattle.std.proofs.lemmas.Grind.{flat_map-append}
use Rattle.raft_voter_messages.specs.declared.round.Round.{Round}
use Rattle.raft_voter.specs.Rounds.{Explains, fresh_world}
use Rattle.raft_voter.specs.Service.{CutRound, Service, uncut}
use Rattle.raft_voter_world.specs.declared.event.Event.{Event}
use Rattle.raft_voter_world.specs.declared.event.Left.{Left}
use Rattle.raft_voter_world.specs.declared.event.Left.TheVariants.{Last}
use Rattle.raft_voter_world.specs.declared.notes.Notes.{Notes}
use Rattle.raft_voter_world.specs.declared.report.WorldReport.{WorldReport}
use Rattle.raft_voter_world.specs.declared.storage.Storage.{Storage}
use Rattle.raft_voter_world.specs.declared.storage.Storage.TheVariants.{Closed, Open}
use Rattle.raft_voter_world.specs.declared.world.World.{World}
use Rattle.raft_voter_world.specs.Cuts.{AreLeast, NoneLost, ServeSome, cuts_in, lost_at, lost_from, next_place}
use Rattle.raft_voter_world.specs.History.{Crashes, Ends, Happen, IsClosedAs, Moment, Plays, Turns, behind_all, left_from, rounds_in, rounds_of}
use Rattle.raft_voter_world.specs.History.Change.{closes}
use Rattle.raft_voter_world.specs.History.Moment.{opened, unread, fell, unopened, crashed, kept, answered, cut_off, idle}
use Rattle.raft_voter_world.specs.Notes.{Settles, all_cuts, all_rounds, cut_of}
use Rattle.raft_voter_world.specs.Played.{AddTurns, Ended, HasPlayed, Stands}
use Rattle.raft_voter_world.specs.Run.{IsRun, ending_left, moments_of}
use Rattle.raft_voter_world.specs.Steps.{Grows, IsReady, IsStep, WhereAlive}
use Rattle.raft_voter_world.specs.Stores.{Disk, Upkeep}
use Rattle.raft_voter_world.proofs.Joining.{behind_more, happen_more}
use Rattle.raft_voter_world.proofs.Whole.{all_explained, all_transparent}

-- One more event.

moments_more : {S F : Type 0} (mss : List (List (Moment S F))) (ms : List (Moment S F)) → moments_of (mss ++ ms ∷ []) ≡ moments_of mss ++ ms
moments_more [] ms = append-nil ms
moments_more (ns ∷ mss) ms = ap (λ xs. ns ++ xs) (moments_more mss ms) ∙ sym (append_assoc ns (moments_of mss) ms)

left_more : (gone : Left) (es : List Event) (e : Event) → ending_left gone (es ++ e ∷ []) ≡ left_from e (ending_left gone es)
left_more gone [] e = refl
left_more gone (x ∷ es) e = left_more (left_from x gone) es e

plays_more : {S F : Type 0} (v : Service S) (u : Upkeep S) (d : Disk S F) (gone : Left) (storage : Storage S F) (es : List Event) (mss : List (List (Moment S F))) (e : Event) (ms : List (Moment S F)) → Plays v u d gone storage es mss
    → Turns u d (ending_left gone es) (behind_all storage (moments_of mss)) e ms → Happen v u d (behind_all storage (moments_of mss)) ms → Plays v u d gone storage (es ++ e ∷ []) (mss ++ ms ∷ [])
plays_more v u d gone storage [] [] e ms p t h = (t, h, tt)
plays_more {S} {F} v u d gone storage (x ∷ es) (ns ∷ mss) e ms p t h = (
  p.0,
  p.1,
  plays_more v u d (left_from x gone) (behind_all storage ns) es mss e ms p.2
      (subst (λ (y : Storage S F). Turns u d (ending_left (left_from x gone) es) y e ms) (behind_more storage ns (moments_of mss)) t)
      (subst (λ (y : Storage S F). Happen v u d y ms) (behind_more storage ns (moments_of mss)) h),
)
plays_more v u d gone storage [] (ns ∷ mss) e ms p t h = absurd p
plays_more v u d gone storage (x ∷ es) [] e ms p t h = absurd p

as_many : {S F : Type 0} (v : Service S) (u : Upkeep S) (d : Disk S F) (gone : Left) (storage : Storage S F) (es : List Event) (mss : List (List (Moment S F))) → Plays v u d gone storage es mss → length mss ≡ length es
as_many v u d gone storage [] [] p = refl
as_many v u d gone storage (x ∷ es) (ns ∷ mss) p =
    let rest = as_many v u d (left_from x gone) (behind_all storage ns) es mss p.2 in
    omega (arith, rest)
as_many v u d gone storage [] (ns ∷ mss) p = absurd p
as_many v u d gone storage (x ∷ es) [] p = absurd p

lost_behind : {S F : Type 0} (first : ℕ) (mss : List (List (Moment S F))) (ms : List (Moment S F)) → lost_from first (mss ++ ms ∷ []) ≡ lost_from first mss ++ lost_at (first + length mss) ms
lost_behind first [] ms =
    let here : first ≡ first + 0 = omega arith in
    append-nil (lost_at first ms) ∙ ap (λ n. lost_at n ms) here
lost_behind first (ns ∷ mss) ms =
    let further : first + 1 + length mss ≡ first + length (ns ∷ mss) = omega arith in
    ap (λ ls. lost_at first ns ++ ls) (lost_behind (first + 1) mss ms ∙ ap (λ n. lost_from (first + 1) mss ++ lost_at n ms) further)
    ∙ sym (append_assoc (lost_at first ns) (lost_from (first + 1) mss) (lost_at (first + length (ns ∷ mss)) ms))

turns_more : {S F : Type 0} (event : ℕ) (old mid new : Notes) (mss : List (List (Moment S F))) (ms : List (Moment S F)) → AddTurns old mss mid → event ≡ length mss → Grows event mid ms new → AddTurns old (mss ++ ms ∷ []) new
turns_more {S} {F} event old mid new mss ms a at g = record {
  rounds = g.rounds ∙ ap (λ (rs : List Round). rs ++ rounds_in ms) a.rounds ∙ append_assoc (all_rounds old) (rounds_in (moments_of mss)) (rounds_in ms)
      ∙ ap (λ (rs : List Round). all_rounds old ++ rs) (sym (flat_map-append rounds_of (moments_of mss) ms)) ∙ ap (λ (xs : List (Moment S F)). all_rounds old ++ rounds_in xs) (sym (moments_more mss ms));
  cuts = λ last rest.
      subst (λ (xs : List (Moment S F)). all_cuts old (next_place last xs) ++ cuts_in last xs ≡ all_cuts new (next_place last rest) ++ cuts_in last rest)
      (sym (ap (λ (xs : List (Moment S F)). xs ++ rest) (moments_more mss ms) ∙ append_assoc (moments_of mss) ms rest)) (a.cuts last (ms ++ rest) ∙ g.cuts last rest);
  least = λ rest l.
      subst (λ (xs : List (Moment S F)). AreLeast (cut_of old) xs)
      (sym (ap (λ (xs : List (Moment S F)). xs ++ rest) (moments_more mss ms) ∙ append_assoc (moments_of mss) ms rest)) (a.least (ms ++ rest) (g.least rest l));
  lost = g.lost ∙ ap (λ (ls : List ℕ). ls ++ lost_at event ms) a.lost ∙ append_assoc old.lost.items (lost_from 0 mss) (lost_at event ms)
      ∙ ap (λ (ls : List ℕ). old.lost.items ++ ls) (ap (λ (n : ℕ). lost_from 0 mss ++ lost_at n ms) (counted at) ∙ sym (lost_behind 0 mss ms));
}
  where
    counted : event ≡ length mss → event ≡ 0 + length mss
    counted e = omega (arith, e)

pub none_played : {S F : Type 0} (v : Service S) (u : Upkeep S) (d : Disk S F) (world : World S F) → HasPlayed v u d world [] world
none_played v u d world = record {
  turns = [];
  played = tt;
  now = refl;
  left = refl;
  noted = record { rounds = sym (append-nil (all_rounds world.notes)); cuts = λ last rest. refl; least = λ rest l. l; lost = sym (append-nil world.notes.lost.items) };
  ready = λ r. r;
}

played_more : {S F : Type 0} (v : Service S) (u : Upkeep S) (d : Disk S F) (place : ℕ) (old mid new : World S F) (es : List Event) (e : Event) → HasPlayed v u d old es mid → place ≡ length es → IsStep v u d place e mid new → HasPlayed v u d old (es ++ e ∷ []) new
played_more {S} {F} v u d place old mid new es e p at s = record {
  turns = p.turns ++ s.moments ∷ [];
  played = plays_more v u d old.left old.storage es p.turns e s.moments p.played
      (subst (λ (y : Storage S F). Turns u d (ending_left old.left es) y e s.moments) p.now (subst (λ (g : Left). Turns u d g mid.storage e s.moments) p.left s.turns))
      (subst (λ (y : Storage S F). Happen v u d y s.moments) p.now s.moves.happened);
  now = s.moves.now ∙ ap (λ (y : Storage S F). behind_all y s.moments) p.now ∙ sym (behind_more old.storage (moments_of p.turns) s.moments)
      ∙ ap (λ (xs : List (Moment S F)). behind_all old.storage xs) (sym (moments_more p.turns s.moments));
  left = s.left ∙ ap (left_from e) p.left ∙ sym (left_more old.left es e);
  noted = turns_more place old.notes mid.notes new.notes p.turns s.moments p.noted (at ∙ sym (as_many v u d old.left old.storage es p.turns p.played)) s.moves.noted;
  ready = λ r. s.moves.ready (p.ready r);
}

-- some of the events were played
pub record IsUnderWay {S F : Type 0} (v : Service S) (u : Upkeep S) (d : Disk S F) (all : List Event) (old : World S F) (ahead : List Event) (place : ℕ) (world : World S F) : Type 0 where
  pub done : List Event
  pub parts : all ≡ done ++ ahead
  pub at : place ≡ length done
  pub played : HasPlayed v u d old done world

pub begins : {S F : Type 0} (v : Service S) (u : Upkeep S) (d : Disk S F) (all : List Event) (world : World S F) → IsUnderWay v u d all world all 0 world
begins v u d all world = record { done = []; parts = refl; at = refl; played = none_played v u d world }

pub ready_on : {S F : Type 0} (v : Service S) (u : Upkeep S) (d : Disk S F) (all ahead : List Event) (old world : World S F) (place : ℕ) → IsReady v old → IsUnderWay v u d all old ahead place world → IsReady v world
ready_on v u d all ahead old world place r i = i.played.ready r

pub goes_on : {S F : Type 0} (v : Service S) (u : Upkeep S) (d : Disk S F) (all ahead rest : List Event) (old world new : World S F) (place : ℕ) (e : Event) → IsUnderWay v u d all old ahead place world → ahead ≡ e ∷ rest → IsStep v u d place e world new
    → IsUnderWay v u d all old rest (place + 1) new
goes_on v u d all ahead rest old world new place e i next s = record {
  done = i.done ++ e ∷ [];
  parts = i.parts ∙ ap (λ (xs : List Event). i.done ++ xs) next ∙ sym (append_assoc i.done (e ∷ []) rest);
  at = ap (λ n. n + 1) i.at ∙ sym (one_longer i.done e);
  played = played_more v u d place old world new i.done e i.played i.at s;
}
  where
    one_longer : (xs : List Event) (x : Event) → length (xs ++ x ∷ []) ≡ length xs + 1
    one_longer [] x = refl
    one_longer (y ∷ xs) x =
        let rest = one_longer xs x in
        omega (arith, rest)

pub all_played : {S F : Type 0} (v : Service S) (u : Upkeep S) (d : Disk S F) (all ahead : List Event) (old world : World S F) (place : ℕ) → IsUnderWay v u d all old ahead place world → ahead ≡ [] → HasPlayed v u d old all world
all_played {S} {F} v u d all ahead old world place i none =
    subst (λ (es : List Event). HasPlayed v u d old es world) (sym (i.parts ∙ ap (λ (xs : List Event). i.done ++ xs) none ∙ append-nil i.done)) i.played

-- The end.

-- how a run ended, of the moments of its end, which have no round and no open
ended_by : {S F : Type 0} (v : Service S) (u : Upkeep S) (d : Disk S F) (world : World S F) (files : F) (settled : Notes) (report : WorldReport F) (closing : List (Moment S F)) → Settles world.notes 0 settled → settled.lost ≡ world.notes.lost
    → report ≡ record { transcript = record { rounds = settled.rounds.items }; cuts = settled.cuts.items; files = files; lost = settled.lost.items } → Ends u d world.left world.storage closing → Happen v u d world.storage closing
    → behind_all world.storage closing ≡ Closed files → rounds_in closing ≡ [] → next_place 0 closing ≡ 0 → cuts_in 0 closing ≡ [] → AreLeast (cut_of world.notes) closing → ServeSome v closing → NoneLost closing → Ended v u d world report
ended_by {S} {F} v u d world files settled report closing s lost told e h left none place cuts least served unlost = record {
  closing = closing;
  ended = e;
  closed = h;
  files_left = left ∙ ap (λ (r : WorldReport F). Closed r.files) (sym told);
  rounds = ap (λ (r : WorldReport F). r.transcript.rounds) told ∙ s.rounds ∙ sym (append-nil (all_rounds world.notes)) ∙ ap (λ (rs : List Round). all_rounds world.notes ++ rs) (sym none);
  cuts = ap (λ (r : WorldReport F). r.cuts) told ∙ s.cuts ∙ sym (append-nil (all_cuts world.notes 0)) ∙ ap (λ (cs : List ℕ). all_cuts world.notes 0 ++ cs) (sym cuts)
      ∙ ap (λ (n : ℕ). all_cuts world.notes n ++ cuts_in 0 closing) (sym place);
  least = least;
  served = served;
  none_lost = unlost;
  lost = ap (λ (r : WorldReport F). r.lost) told ∙ ap (λ l. l.items) lost;
}

pub ends : {S F : Type 0} (v : Service S) (u : Upkeep S) (d : Disk S F) (world : World S F) (storage : Storage S F) (given files : F) (settled : Notes) (report : WorldReport F) → world.storage ≡ storage → IsClosedAs v d storage given
    → Stands v d given world.left files → Settles world.notes 0 settled → settled.lost ≡ world.notes.lost → report ≡ record { transcript = record { rounds = settled.rounds.items }; cuts = settled.cuts.items; files = files; lost = settled.lost.items }
    → Ended v u d world report
ends {S} {F} v u d world (Closed before) given files settled report is k (inl (runs, same)) s lost told =
    ended_by v u d world files settled report [] s lost told
    (subst (λ (y : Storage S F). Ends u d world.left y []) (sym is) (subst (λ (x : F). d.has_stopped x ≡ false) k runs)) tt (is ∙ ap Closed (sym k ∙ sym same)) refl refl refl tt tt tt
ends {S} {F} v u d world (Closed before) given files settled report is k (inr (stopped, crash)) s lost told =
    let ms : List (Moment S F) = crashed world.left files ∷ [] in
    ended_by v u d world files settled report ms s lost told
    (subst (λ (y : Storage S F). Ends u d world.left y ms) (sym is) (subst (λ (x : F). d.has_stopped x ≡ true) k stopped, refl))
    (subst (λ (y : Storage S F). Happen v u d y ms) (sym is) (subst (λ (x : F). Crashes v d (Closed x) world.left files) k crash, tt)) refl refl refl refl tt tt tt
ends {S} {F} v u d world (Open store) given files settled report is k (inl (runs, same)) s lost told =
    let ms : List (Moment S F) = kept closes (Closed given) ∷ [] in
    ended_by v u d world files settled report ms s lost told
    (subst (λ (y : Storage S F). Ends u d world.left y ms) (sym is) (refl, runs)) (subst (λ (y : Storage S F). Happen v u d y ms) (sym is) (k, tt)) (ap Closed (sym same)) refl refl refl tt tt tt
ends {S} {F} v u d world (Open store) given files settled report is k (inr (stopped, crash)) s lost told =
    let ms : List (Moment S F) = kept closes (Closed given) ∷ crashed world.left files ∷ [] in
    ended_by v u d world files settled report ms s lost told
    (subst (λ (y : Storage S F). Ends u d world.left y ms) (sym is) (refl, (stopped, refl))) (subst (λ (y : Storage S F). Happen v u d y ms) (sym is) (k, (crash, tt))) refl refl refl refl tt tt tt

-- The whole.

plays_happen : {S F : Type 0} (v : Service S) (u : Upkeep S) (d : Disk S F) (gone : Left) (storage : Storage S F) (es : List Event) (mss : List (List (Moment S F))) → Plays v u d gone storage es mss → Happen v u d storage (moments_of mss)
plays_happen v u d gone storage [] [] p = tt
plays_happen v u d gone storage (x ∷ es) (ns ∷ mss) p = happen_more v u d storage ns (moments_of mss) p.1 (plays_happen v u d (left_from x gone) (behind_all storage ns) es mss p.2)
plays_happen v u d gone storage [] (ns ∷ mss) p = absurd p
plays_happen v u d gone storage (x ∷ es) [] p = absurd p

serve_more : {S F : Type 0} (v : Service S) (ms ns : List (Moment S F)) → ServeSome v ms → ServeSome v ns → ServeSome v (ms ++ ns)
serve_more v [] ns a b = b
serve_more v (opened workers store voters place now ∷ ms) ns a b = (a.0, serve_more v ms ns a.1 b)
serve_more v (unread workers store now files ∷ ms) ns a b = serve_more v ms ns a b
serve_more v (fell workers store gone files ∷ ms) ns a b = serve_more v ms ns a b
serve_more v (unopened workers cause files ∷ ms) ns a b = serve_more v ms ns a b
serve_more v (crashed gone files ∷ ms) ns a b = serve_more v ms ns a b
serve_more v (kept change now ∷ ms) ns a b = serve_more v ms ns a b
serve_more v (answered round now ∷ ms) ns a b = serve_more v ms ns a b
serve_more v (cut_off round cause now ∷ ms) ns a b = serve_more v ms ns a b
serve_more v (idle round files ∷ ms) ns a b = serve_more v ms ns a b

-- where an event lost nothing, and nothing behind it was lost
none_more : {S F : Type 0} (event : ℕ) (ms ns : List (Moment S F)) → lost_at event ms ≡ [] → NoneLost ns → NoneLost (ms ++ ns)
none_more event [] ns a b = b
none_more event (opened workers store voters (Some place) now ∷ ms) ns a b = none_more event ms ns a b
none_more event (opened workers store voters None now ∷ ms) ns a b = absurd (let no : ⊥ = cc in no)
none_more event (unread workers store now files ∷ ms) ns a b = none_more event ms ns a b
none_more event (fell workers store gone files ∷ ms) ns a b = none_more event ms ns a b
none_more event (unopened workers cause files ∷ ms) ns a b = none_more event ms ns a b
none_more event (crashed gone files ∷ ms) ns a b = none_more event ms ns a b
none_more event (kept change now ∷ ms) ns a b = none_more event ms ns a b
none_more event (answered round now ∷ ms) ns a b = none_more event ms ns a b
none_more event (cut_off round cause now ∷ ms) ns a b = none_more event ms ns a b
none_more event (idle round files ∷ ms) ns a b = none_more event ms ns a b

nothing_in : (xs ys : List ℕ) → xs ++ ys ≡ [] → (xs ≡ []) × (ys ≡ [])
nothing_in [] ys e = (refl, e)
nothing_in (x ∷ xs) ys e = absurd (let no : ⊥ = cc in no)

none_lost_in : {S F : Type 0} (first : ℕ) (mss : List (List (Moment S F))) (ns : List (Moment S F)) → lost_from first mss ≡ [] → NoneLost ns → NoneLost (moments_of mss ++ ns)
none_lost_in first [] ns e n = n
none_lost_in {S} {F} first (ms ∷ mss) ns e n =
    let parts = nothing_in (lost_at first ms) (lost_from (first + 1) mss) e in
    subst (λ (xs : List (Moment S F)). NoneLost xs) (sym (append_assoc ms (moments_of mss) ns)) (none_more first ms (moments_of mss ++ ns) parts.0 (none_lost_in (first + 1) mss ns parts.1 n))

-- a world to which nothing has happened
pub record IsNew {S F : Type 0} (files : F) (world : World S F) : Type 0 where
  pub storage : world.storage ≡ Closed files
  pub cut : cut_of world.notes ≡ uncut fresh_world
  pub rounds : all_rounds world.notes ≡ []
  pub cuts : (place : ℕ) → all_cuts world.notes place ≡ []
  pub lost : world.notes.lost.items ≡ []
  pub left : world.left ≡ Last

pub new_ready : {S F : Type 0} (v : Service S) (files : F) (world : World S F) → world.storage ≡ Closed files → IsReady v world
new_ready {S} {F} v files world is = subst (λ (y : Storage S F). WhereAlive v y (world.notes.unsettled ≡ None)) (sym is) tt

pub runs : {S F : Type 0} (v : Service S) (u : Upkeep S) (d : Disk S F) (files : F) (events : List Event) (first last : World S F) (report : WorldReport F) → IsNew files first → HasPlayed v u d first events last → Ended v u d last report → IsRun v u d files events report
runs {S} {F} v u d files events first last report new p e =
    record {
      turns = p.turns;
      closing = e.closing;
      played = played;
      ended = subst (λ (y : Storage S F). Ends u d (ending_left Last events) y e.closing) there (subst (λ (g : Left). Ends u d g last.storage e.closing) (p.left ∙ ap (λ (g : Left). ending_left g events) new.left) e.ended);
      closed = closed;
      files_left = behind_more (Closed files) (moments_of p.turns) e.closing ∙ ap (λ (y : Storage S F). behind_all y e.closing) (sym there) ∙ e.files_left;
      rounds = rounds_are;
      cuts = cuts_are;
      least = least;
      lost = lost_are;
      explained = λ serve none.
          subst (λ (rs : List Round). Explains rs report.cuts) (sym rounds_are)
          (subst (λ (cs : List ℕ). Explains (rounds_in (moments_of p.turns ++ e.closing)) cs) (sym cuts_are)
          (all_explained v u d files (moments_of p.turns ++ e.closing) happened least (serve_more v (moments_of p.turns) e.closing serve e.served)
          (none_lost_in 0 p.turns e.closing (sym lost_are ∙ none) e.none_lost)));
      transparent = λ known. all_transparent v u d files (moments_of p.turns ++ e.closing) happened least known;
    }
  where
    there : last.storage ≡ behind_all (Closed files) (moments_of p.turns)
    there = p.now ∙ ap (λ (y : Storage S F). behind_all y (moments_of p.turns)) new.storage

    played : Plays v u d Last (Closed files) events p.turns
    played = subst (λ (y : Storage S F). Plays v u d Last y events p.turns) new.storage (subst (λ (g : Left). Plays v u d g first.storage events p.turns) new.left p.played)

    closed : Happen v u d (behind_all (Closed files) (moments_of p.turns)) e.closing
    closed = subst (λ (y : Storage S F). Happen v u d y e.closing) there e.closed

    happened : Happen v u d (Closed files) (moments_of p.turns ++ e.closing)
    happened = happen_more v u d (Closed files) (moments_of p.turns) e.closing (plays_happen v u d Last (Closed files) events p.turns played) closed

    rounds_are : report.transcript.rounds ≡ rounds_in (moments_of p.turns ++ e.closing)
    rounds_are =
        e.rounds ∙ ap (λ (rs : List Round). rs ++ rounds_in e.closing) (p.noted.rounds ∙ ap (λ (rs : List Round). rs ++ rounds_in (moments_of p.turns)) new.rounds)
        ∙ sym (flat_map-append rounds_of (moments_of p.turns) e.closing)

    cuts_are : report.cuts ≡ cuts_in 0 (moments_of p.turns ++ e.closing)
    cuts_are = e.cuts ∙ sym (p.noted.cuts 0 e.closing) ∙ ap (λ (cs : List ℕ). cs ++ cuts_in 0 (moments_of p.turns ++ e.closing)) (new.cuts (next_place 0 (moments_of p.turns ++ e.closing)))

    least : AreLeast (uncut fresh_world) (moments_of p.turns ++ e.closing)
    least = subst (λ (C : CutRound). AreLeast C (moments_of p.turns ++ e.closing)) new.cut (p.noted.least e.closing e.least)

    lost_are : report.lost ≡ lost_from 0 p.turns
    lost_are = e.lost ∙ p.noted.lost ∙ ap (λ (ls : List ℕ). ls ++ lost_from 0 p.turns) new.lost
