use Rattle.std.proofs.Common.{refl, sym, ◌∙◌, subst, arith, ◌≡◌, length, ℕ, ◌+◌, take}
use Rattle.raft_log_fs_traced.specs.Device.{Held, HasBytes}
use Rattle.raft_log_fs_traced.specs.WritingBack.{none}
use Rattle.raft_log_fs_traced.proofs.Pieces.{WritesOn, piece_read, goes_on}
use Rattle.raft_log_fs_traced.proofs.writing_back.write_pieces.Goals as goal

pub loop-offset-init : goal.loop-offset-init
loop-offset-init g c = record { same = refl; pieces = record { found = refl; made = none }; within = omega arith; roomy = c.requires.room }

pub slice_bounds-write_back-end : goal.slice_bounds-write_back-end
slice_bounds-write_back-end g c = (piece_read c.args.storage.now c.args.file c.loop-offset.offset c.size-size.result c.read-count.result c.loop-offset.room c.read-count.new.room c.requires.there c.size-size.ensures c.read-count.ensures.number c.read-count.ensures.bytes c.loop-offset-test.true c.loop-offset.invariant.roomy).within

pub slice_bounds-write_back-end-in-loop-offset : goal.slice_bounds-write_back-end-in-loop-offset
slice_bounds-write_back-end-in-loop-offset g c = sym (piece_read c.args.storage.now c.args.file c.loop-offset.offset c.size-size.result c.read-count.result c.loop-offset.room c.read-count.new.room c.requires.there c.size-size.ensures c.read-count.ensures.number c.read-count.ensures.bytes c.loop-offset-test.true c.loop-offset.invariant.roomy).long

pub write_back-requires : goal.write_back-requires
write_back-requires g c =
    let p = piece_read c.args.storage.now c.args.file c.loop-offset.offset c.size-size.result c.read-count.result c.loop-offset.room c.read-count.new.room c.requires.there c.size-size.ensures c.read-count.ensures.number c.read-count.ensures.bytes c.loop-offset-test.true c.loop-offset.invariant.roomy in
    record { same = subst (λ (h : Held). HasBytes c.args.file c.loop-offset.offset (take c.read-count.result c.read-count.new.room) h.seen) (sym (c.loop-offset.invariant.same ∙ c.requires.follows)) p.has }

pub loop-offset-smaller : goal.loop-offset-smaller
loop-offset-smaller g c =
    let p = piece_read c.args.storage.now c.args.file c.loop-offset.offset c.size-size.result c.read-count.result c.loop-offset.room c.read-count.new.room c.requires.there c.size-size.ensures c.read-count.ensures.number c.read-count.ensures.bytes c.loop-offset-test.true c.loop-offset.invariant.roomy in
    let next : c.saturating_add-offset.result ≡ c.loop-offset.offset + c.read-count.result = omega (arith, c.saturating_add-offset.ensures, p.fits, c.size-size.type_inv) in
    omega (arith, next, p.some, p.fits)

pub loop-offset-preserved : goal.loop-offset-preserved
loop-offset-preserved g c =
    let p = piece_read c.args.storage.now c.args.file c.loop-offset.offset c.size-size.result c.read-count.result c.loop-offset.room c.read-count.new.room c.requires.there c.size-size.ensures c.read-count.ensures.number c.read-count.ensures.bytes c.loop-offset-test.true c.loop-offset.invariant.roomy in
    let next : c.saturating_add-offset.result ≡ c.loop-offset.offset + c.read-count.result = omega (arith, c.saturating_add-offset.ensures, p.fits, c.size-size.type_inv) in
    goes_on c.args.file c.size-size.result c.loop-offset.offset c.read-count.result c.saturating_add-offset.result (length c.read-count.new.room) (take c.read-count.result c.read-count.new.room)
    (g.D.Device.trace c.args.device.now) (g.D.Device.trace c.loop-offset.device) (g.D.Device.trace c.write_back.new.self)
    (subst (λ (n : ℕ). WritesOn c.args.file c.size-size.result c.loop-offset.offset n (g.D.Device.trace c.args.device.now) (g.D.Device.trace c.loop-offset.device)) (sym p.same_room) c.loop-offset.invariant)
    p.long next p.fits c.in_ok-write_back.ensures.ok
