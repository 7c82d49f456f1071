-- A log whose files are as they were stays as it is.
use Rattle.std.proofs.Common.{◌≡◌, ℕ, ◌<◌, Option, Some, List, [], refl, sym, ap, subst, ◌∙◌, inl, inr, arith}
use Rattle.raft_log_model_laws.specs.Item.{Record}
use Rattle.raft_log_model_laws.specs.Groups.{Map}
use Rattle.raft_log_machine_laws.specs.Files.{FileQueue}
use Rattle.raft_log_fs.specs.Disk.{File, Disk}
use Rattle.raft_log_file_writer.specs.LogFormat.{Format}
use Rattle.raft_log_file_writer.specs.LogQueue.{LogFiles, HoldsLast, IsLeftover}
use Rattle.raft_log_active_file.specs.Standing.{Names, Stands}
use Rattle.raft_log_active_file.specs.Bridge.{IsFileQueue}
use Rattle.raft_log_machine_laws.specs.Model.{Files}
use Rattle.raft_log_machine_laws.specs.Log.{IsLog}
use Rattle.raft_log_dual_pipes.specs.Queues.{AreTwoQueues, IsQueueLayout, QueueLayout, TwoQueues}
use Rattle.raft_log_dual_pipes.specs.State.{AreThere, HoldsQueue, IsStopped, LogOnDisk, Spanned, Ties}
use Rattle.raft_log_dual_pipes.specs.OpenOrClosed.{IsUnbegun, LiesQueue, IsOpenOrClosed, none_open}
use Rattle.raft_log_dual_pipes.specs.Reopening.{RestBoth, RestsQueue}
use Rattle.raft_log_dual_pipes.specs.OnDisk.{LogLiesOn, IsDurableAs}
use Rattle.raft_log_dual_pipes.proofs.Public.{rests_lie}
use Rattle.raft_log_recovery_laws.specs.Keeping.{KeepsBothQueues, KeepsNumbered, KeptLogsStay, RestsStill}

pub keeps_same : {R : Type 0} (F : Format R) (old new : Disk) → new.names ≡ old.names → new.directories ≡ old.directories → new.files ≡ old.files → KeepsNumbered F old new
keeps_same F old new names directories files = record {
  names = λ m path less at. ap (λ (f : Names). f path) names;
  files = λ m path id less at there. ap (λ (f : ℕ → Option File). f id) files;
  places = λ m path less at place. record {
    apart = ap (λ (f : List ℕ → _). f path) directories ∙ place.apart;
    home = record { directory = place.home.directory; inside = place.home.inside; there = ap (λ (f : List ℕ → _). f place.home.directory) directories ∙ place.home.there };
  };
}

pub keeps_then : {R : Type 0} (F : Format R) (a b c : Disk) → KeepsNumbered F a b → KeepsNumbered F b c → KeepsNumbered F a c
keeps_then F a b c first next = record {
  names = λ m path less at. next.names m path less at ∙ first.names m path less at;
  files = λ m path id less at there. next.files m path id less at (first.names m path less at ∙ there) ∙ first.files m path id less at there;
  places = λ m path less at place. next.places m path less at (first.places m path less at place);
}

module _ {R : Type 0} (layout : QueueLayout R) (old new : Disk) (keeps : KeepsNumbered layout.format old new) where
  pub stands_kept : (base : Disk) (q : LogFiles R) (path : List ℕ) (id : ℕ) (P : File → Type 0) (N : Names) → Stands layout.format layout.own base q path id P N old
      → Stands layout.format layout.own new q path id P new.names new
  stands_kept base q path id P N s =
      let bound = s.bound in
      let here : old.names path ≡ Some id = ap (λ (f : Names). f path) s.names ∙ s.named in
      record {
        names = refl;
        bound = s.bound;
        at = s.at;
        named = keeps.names q.last path s.bound s.at ∙ here;
        alone = λ other j at is. s.alone other j at (ap (λ (f : Names). f other) (sym s.names) ∙ sym (keeps.names q.last other s.bound at) ∙ is);
        none = λ m other above less at. keeps.names m other less at ∙ ap (λ (f : Names). f other) s.names ∙ s.none m other above less at;
        headed = s.headed;
        places = λ m other less at. keeps.places m other less at (s.places m other less at);
        file = record { file = s.file.file; is = keeps.files q.last path id s.bound s.at here ∙ s.file.is; has = s.file.has };
        older = λ m j other below at is.
            (let less : m < layout.format.limit = omega (arith, below, bound) in
            let there : old.names other ≡ Some j = sym (keeps.names m other less at) ∙ is in
            let was = s.older m j other below at (ap (λ (f : Names). f other) (sym s.names) ∙ there) in
            record { file = was.file; is = keeps.files m other j less at there ∙ was.is; has = was.has });
        single = λ m i j a b below at_a at_b is_a is_b.
            (let less : m < layout.format.limit = omega (arith, below, bound) in
            let was : (other : List ℕ) (k : ℕ) → layout.format.IsPath m other → new.names other ≡ Some k → N other ≡ Some k = λ other k at is.
            ap (λ (f : Names). f other) (sym s.names) ∙ sym (keeps.names m other less at) ∙ is in
            s.single m i j a b below at_a at_b (was a i at_a is_a) (was b j at_b is_b));
        others = record { directories = refl; names = λ p apart. refl; files = λ p j apart is. refl };
      }

  pub stopped_kept : (q : LogFiles R) → IsStopped layout q old → IsStopped layout q new
  stopped_kept q left = record { path = left.path; id = left.id; N = new.names; stands = stands_kept old q left.path left.id (IsLeftover layout.format q) left.N left.stands }

  held_kept : (q : LogFiles R) → HoldsQueue layout q old → HoldsQueue layout q new
  held_kept q (inl left) = inl (record { path = left.path; id = left.id; N = new.names; stands = stands_kept old q left.path left.id (HoldsLast layout.format q) left.N left.stands })
  held_kept q (inr left) = inr (stopped_kept q left)

  there_kept : (first end : ℕ) → end < layout.format.limit → AreThere layout.format first end old → AreThere layout.format first end new
  there_kept first end bound there m from below =
      let is = there m from below in
      let less : m < layout.format.limit = omega (arith, below, bound) in
      record { path = is.path; at = is.at; id = is.id; named = keeps.names m is.path less is.at ∙ is.named }

  pub unbegun_kept : (q : Spanned R) → IsUnbegun layout q old → IsUnbegun layout q new
  unbegun_kept q is = record {
    fresh = record {
      none = λ m less path at. keeps.names m path less at ∙ is.fresh.none m less path at;
      places = λ m path less at. keeps.places m path less at (is.fresh.places m path less at);
      others = record { directories = refl; names = λ p apart. refl; files = λ p j apart is. refl };
    };
    is = is.is;
  }

  bound_of : (q : LogFiles R) → HoldsQueue layout q old → q.last < layout.format.limit
  bound_of q (inl left) = left.stands.bound
  bound_of q (inr left) = left.stands.bound

  pub rests_kept : (q : Spanned R) → RestsQueue layout q old → RestsQueue layout q new
  rests_kept q (inl (left, span)) = inl (stopped_kept q.files left, there_kept q.first q.files.last left.stands.bound span)
  rests_kept q (inr unbegun) = inr (unbegun_kept q unbegun)

  pub lies_kept : (q : Spanned R) → LiesQueue layout q old → LiesQueue layout q new
  lies_kept q (inl (held, span)) = inl (held_kept q.files held, there_kept q.first q.files.last (bound_of q.files held) span)
  lies_kept q (inr unbegun) = inr (unbegun_kept q unbegun)

  pub bounded : (q : Spanned R) → 1 < layout.format.limit → LiesQueue layout q old → q.files.last < layout.format.limit
  bounded q some (inl (held, span)) = bound_of q.files held
  bounded q some (inr unbegun) = subst (λ (x : Spanned R). x.files.last < layout.format.limit) (sym unbegun.is.3) some

  pub numbered_kept : {E V : Type 0} (says : R → Record E V) (q : LogFiles R) (low first : ℕ) (files : FileQueue E V) → q.last < layout.format.limit → IsFileQueue says layout.format q low first old files
      → IsFileQueue says layout.format q low first new files
  numbered_kept says q low first files bound is =
      let below = is.below in
      let above = is.above in
      record {
        back = is.back;
        forth = is.forth;
        below = is.below;
        above = is.above;
        gone = is.gone;
        full = is.full;
        last = is.last;
        synced = is.synced;
        pending = is.pending;
        behind = is.behind;
        gap = λ m next path at. keeps.names m path (omega (arith, next, below, above, bound)) at ∙ is.gap m next path at;
      }

some_numbers : {R : Type 0} (layout : QueueLayout R) → IsQueueLayout layout → 1 < layout.format.limit
some_numbers layout told = (let limit = told.lawful.limit in omega (arith, limit))

-- Both queues.
module _ {R E V : Type 0} (log : TwoQueues R E V) (two : AreTwoQueues log) where
  -- the log on another disk
  abbrev pub moved : LogOnDisk R → Disk → LogOnDisk R
  moved s new = record s { disk = new }

  pub ties_kept : (s : LogOnDisk R) (new : Disk) → KeepsBothQueues log s.disk new → IsOpenOrClosed log none_open s → (f : Files E V) → Ties log s f → Ties log (moved s new) f
  ties_kept s new keeps lies f ties = record {
    append = numbered_kept log.append s.disk new keeps.append log.says s.append.files f.append_from s.append.first f.append (bounded log.append s.disk new keeps.append s.append (some_numbers log.append two.append) lies.append) ties.append;
    rewrite = numbered_kept log.rewrite s.disk new keeps.rewrite log.says s.rewrite.files f.rewrite_from s.rewrite.first f.rewrite
        (bounded log.rewrite s.disk new keeps.rewrite s.rewrite (some_numbers log.rewrite two.rewrite) lies.rewrite) ties.rewrite;
  }

  pub log_kept : (s : LogOnDisk R) (new : Disk) (m : Map E V) (pending : List (Record E V)) → KeepsBothQueues log s.disk new → IsOpenOrClosed log none_open s → IsLog (Ties log s) m pending → IsLog (Ties log (moved s new)) m pending
  log_kept s new m pending keeps lies is = record {
    files = is.files;
    whereabouts = is.whereabouts;
    failed = is.failed;
    sound = is.sound;
    ends = is.ends;
    there = ties_kept s new keeps lies is.files is.there;
  }

  pub both_kept : (s : LogOnDisk R) (new : Disk) → KeepsBothQueues log s.disk new → RestBoth log s → RestBoth log (moved s new)
  both_kept s new keeps rests = record {
    append = rests_kept log.append s.disk new keeps.append s.append rests.append;
    rewrite = rests_kept log.rewrite s.disk new keeps.rewrite s.rewrite rests.rewrite;
  }

  pub both_lie : (s : LogOnDisk R) → RestBoth log s → IsOpenOrClosed log none_open s
  both_lie s rests = record { append = rests_lie log.append s.append s.disk rests.append; rewrite = rests_lie log.rewrite s.rewrite s.disk rests.rewrite }

  pub rests_there : (old new : Disk) (m : Map E V) → KeepsBothQueues log old new → IsDurableAs log old m → IsDurableAs log new m
  rests_there old new m keeps h =
      let here : KeepsBothQueues log h.state.disk new = subst (λ (d : Disk). KeepsBothQueues log d new) (sym h.disk) keeps in
      record {
        state = moved h.state new;
        disk = refl;
        rests = both_kept h.state new here h.rests;
        append_synced = h.append_synced;
        rewrite_synced = h.rewrite_synced;
        holds = log_kept h.state new m [] here (both_lie h.state h.rests) h.holds;
      }

  pub still : (old new : Disk) (m : Map E V) → KeepsBothQueues log old new → (h : IsDurableAs log old m) → RestsStill log old m h new
  unfolding rests_there
  still old new m keeps h = (rests_there old new m keeps h, refl)

  pub lies_there : (old new : Disk) (m : Map E V) (pending : List (Record E V)) → KeepsBothQueues log old new → LogLiesOn log none_open old m pending → LogLiesOn log none_open new m pending
  lies_there old new m pending keeps h =
      let here : KeepsBothQueues log h.state.disk new = subst (λ (d : Disk). KeepsBothQueues log d new) (sym h.disk) keeps in
      record {
        state = moved h.state new;
        disk = refl;
        stands = record {
          append = lies_kept log.append h.state.disk new here.append h.state.append h.stands.append;
          rewrite = lies_kept log.rewrite h.state.disk new here.rewrite h.state.rewrite h.stands.rewrite;
        };
        holds = log_kept h.state new m pending here h.stands h.holds;
      }

pub kept_logs_stay : {R E V : Type 0} (log : TwoQueues R E V) → KeptLogsStay log
kept_logs_stay log two old new keeps = record {
  rests = λ m h. still log two old new m keeps h;
  lies = λ m pending h. lies_there log two old new m pending keeps h;
}
