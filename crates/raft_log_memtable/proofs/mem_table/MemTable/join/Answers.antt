use Rattle.std.proofs.Common.{◌≡◌, ◌+◌, ap, ap₂, arith, length, nat_lt, sym, if◌then◌else◌, ◌∙◌}
use Rattle.raft_log_model_laws.proofs.Public.{if_false, if_true, lt_false, lt_true}
use Rattle.raft_log_memtable_index.specs.Replayed.{left, with_newer}
use Rattle.raft_log_memtable_index.specs.Keys.{keys_of}
use Rattle.raft_log_memtable.specs.Replays.{under}
use Rattle.raft_log_memtable.specs.Table.{promise, replay_of, shown}
use Rattle.raft_log_memtable.specs.contracts.mem_table.MemTable.{the_view}
use Rattle.raft_log_memtable.proofs.Reread.{newer_shows, noted_too}
use Rattle.raft_log_memtable.proofs.mem_table.MemTable.join.Goals as goal
use Rattle.raft_log_memtable.proofs.mem_table.MemTable.join.Goals.{then-len-gt0, else-len-gt0}

pub join-requires : goal.join-requires
join-requires c = λ k is.
    let narrowed = ap (λ q. q.has k) c.narrow.ensures.room ∙ ap (λ t. (promise t).has k) c.join_bounds.ensures
    ∙ c.requires.1 k (ap (λ t. (keys_of t.keys).has k) (sym c.newer.view_is) ∙ is) in
    elim c.if-len-gt0.branch [
      | then-len-gt0 w ↦ ap (λ t. (promise t).has k) (c.self.view_is ∙ w.self-is) ∙ ap (λ q. q.has k) w.give_way.ensures.room ∙ narrowed
      | else-len-gt0 w ↦ ap (λ t. (promise t).has k) (c.self.view_is ∙ w.self-is) ∙ narrowed
    ]

pub returns-clause-shows : goal.returns-clause-shows
returns-clause-shows c =
    let z = replay_of (the_view c.newer.inside) in
    let g = shown (the_view c.self.inside) in
    let n = shown c.narrow.new.self in
    let bounds : shown c.join_bounds.new.self ≡ noted_too (shown c.args.self.now) z =
    ap shown c.join_bounds.ensures ∙ ap (λ t. noted_too (shown c.args.self.now) (replay_of t)) (sym c.newer.view_is) in
    let given : g ≡ (if nat_lt 0 (length c.newer.inside.places.items) then under n c.newer.inside.first else n) = elim c.if-len-gt0.branch [
      | then-len-gt0 w ↦
          ap shown (c.self.view_is ∙ w.self-is) ∙ w.give_way.ensures.shows
          ∙ sym (if_true (nat_lt 0 (length c.newer.inside.places.items)) (under n c.newer.inside.first) n
          (lt_true 0 (length c.newer.inside.places.items) (omega (arith, w.if-len-gt0.true, c.len.ensures))))
      | else-len-gt0 w ↦
          ap shown (c.self.view_is ∙ w.self-is)
          ∙ sym (if_false (nat_lt 0 (length c.newer.inside.places.items)) (under n c.newer.inside.first) n
          (lt_false 0 (length c.newer.inside.places.items) (omega (arith, w.if-len-gt0.false, c.len.ensures))))
    ] in
    c.take_back.ensures.shows
    ∙ ap₂ (λ items ks. record g {
      places = items;
      rewritten = c.self.inside.rewritten + c.newer.inside.rewritten;
      held = ks.values;
      deleted = ks.deleted;
    }) c.append.ensures.items c.join.ensures
    ∙ newer_shows (shown c.args.self.now) n g z (c.narrow.ensures.shows ∙ ap (λ v. left v c.newer.inside.low c.newer.inside.high) bounds) given c.newer.invariant.0
    ∙ ap (λ t. with_newer (shown c.args.self.now) (replay_of t)) c.newer.view_is
