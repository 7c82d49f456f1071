use Rattle.std.proofs.Common.{◌≡◌, ◌+◌, ◌<◌, ◌*◌, ap, arith, length, slice_index, subst, suc-mul, sym, ◌∙◌}
use Rattle.raft_log_extents.specs.Bounds.{bounds_of, AreShort}
use Rattle.raft_log_extents.proofs.Rising.{length_rising, rising_at}
use Rattle.raft_log_extents.proofs.bounds.Bounds.at.Goals as goal

pub overflow_mul-start : goal.overflow_mul-start
overflow_mul-start c =
    let short = subst AreShort c.in-Even.is c.requires.short in
    let long = length_rising c.in-Even.start c.in-Even.size (c.in-Even.count + 1) in
    let there = subst (λ b. c.args.number + 1 < length (bounds_of b)) c.in-Even.is c.requires.there in
    let low = short c.args.number (omega (arith, there, long)) in
    omega (arith, low)

pub overflow_add-start : goal.overflow_add-start
overflow_add-start c =
    let short = subst AreShort c.in-Even.is c.requires.short in
    let long = length_rising c.in-Even.start c.in-Even.size (c.in-Even.count + 1) in
    let there = subst (λ b. c.args.number + 1 < length (bounds_of b)) c.in-Even.is c.requires.there in
    let low = short c.args.number (omega (arith, there, long)) in
    omega (arith, low)

pub overflow_add-result : goal.overflow_add-result
overflow_add-result c =
    let short = subst AreShort c.in-Even.is c.requires.short in
    let long = length_rising c.in-Even.start c.in-Even.size (c.in-Even.count + 1) in
    let there = subst (λ b. c.args.number + 1 < length (bounds_of b)) c.in-Even.is c.requires.there in
    let low = short c.args.number (omega (arith, there, long)) in
    omega (arith, low)

pub returns-in-Even-clause-start : goal.returns-in-Even-clause-start
returns-in-Even-clause-start c =
    let long = length_rising c.in-Even.start c.in-Even.size (c.in-Even.count + 1) in
    let there = subst (λ b. c.args.number + 1 < length (bounds_of b)) c.in-Even.is c.requires.there in
    sym (ap (λ b. slice_index (bounds_of b) c.args.number) c.in-Even.is
    ∙ rising_at c.in-Even.start c.in-Even.size (c.in-Even.count + 1) c.args.number (omega (arith, there, long)))

pub returns-in-Even-clause-end : goal.returns-in-Even-clause-end
returns-in-Even-clause-end c =
    let long = length_rising c.in-Even.start c.in-Even.size (c.in-Even.count + 1) in
    let there = subst (λ b. c.args.number + 1 < length (bounds_of b)) c.in-Even.is c.requires.there in
    let one = suc-mul c.args.number c.in-Even.size in
    let same : c.in-Even.start + (c.args.number + 1) * c.in-Even.size ≡ c.in-Even.start + c.args.number * c.in-Even.size + c.in-Even.size = omega (arith, one) in
    sym (ap (λ b. slice_index (bounds_of b) (c.args.number + 1)) c.in-Even.is
    ∙ rising_at c.in-Even.start c.in-Even.size (c.in-Even.count + 1) (c.args.number + 1) (omega (arith, there, long)) ∙ same)
