use Rattle.std.proofs.Common.{◌≡◌, refl, arith}
use Rattle.theory.specs.Arrivals.{before}
use Rattle.theory.proofs.Jobs.{released, finishes_later, start_warm}
use Rattle.theory.proofs.Judging.{seen_none, seen_more, seen_late, seen_all}
use Rattle.response.specs.Cases.{own_timing, equations_of}
use Rattle.response.proofs.case.Case.outcome.Goals as goal

pub loop-k-init : goal.loop-k-init
loop-k-init c =
    let q = c.args.self.now in
    (seen_none (equations_of q) (own_timing q), record { from = omega arith; up = omega arith; under = λ m p h. omega arith })

pub overflow_mul-response : goal.overflow_mul-response
overflow_mul-response c =
    let q = c.args.self.now in
    let p = c.in-Some.ensures in
    record { fits = omega (arith, released (equations_of q) (own_timing q) q.regular c.loop-k.k c.in-Some.period c.start-start.result p.0 c.start-start.ensures.is c.start-start.ensures.within) }

pub overflow_sub-response : goal.overflow_sub-response
overflow_sub-response c =
    let q = c.args.self.now in
    let p = c.in-Some.ensures in
    omega (
      arith,
      released (equations_of q) (own_timing q) q.regular c.loop-k.k c.in-Some.period c.start-start.result p.0 c.start-start.ensures.is c.start-start.ensures.within,
      finishes_later (equations_of q) (own_timing q) q.regular c.loop-k.k c.start-start.result c.finish-finish.result c.start-start.ensures.is c.finish-finish.ensures.is,
    )

pub returns-then-response-timing : goal.returns-then-response-timing
returns-then-response-timing c =
    let q = c.args.self.now in
    let p = c.in-Some.ensures in
    seen_late (equations_of q) (own_timing q) c.in-Some.period p.0 p.1 c.loop-k.k c.loop-k.worst _ (omega arith) c.loop-k.invariant.0
    (record { start = c.start-start.result; finish = c.finish-finish.result; starts = c.start-start.ensures.is; finishes = c.finish-finish.ensures.is; is = refl })
    c.if-response-timing.true

pub loop-k-preserved : goal.loop-k-preserved
loop-k-preserved c =
    let q = c.args.self.now in (
      seen_more (equations_of q) (own_timing q) c.loop-k.k c.loop-k.worst _ c.max-worst.result c.loop-k.invariant.0
          (record { start = c.start-start.result; finish = c.finish-finish.result; starts = c.start-start.ensures.is; finishes = c.finish-finish.ensures.is; is = refl })
          c.if-response-timing.false c.max-worst.ensures,
      start_warm (equations_of q) (own_timing q) q.regular c.loop-k.k c.start-start.result c.start-start.ensures.is,
    )

pub returns : goal.returns
returns c =
    let q = c.args.self.now in
    let p = c.in-Some.ensures in
    let all : c.loop-k.k ≡ before (own_timing q) c.in-Some.period = omega arith in
    seen_all (equations_of q) (own_timing q) c.in-Some.period p.0 p.1 c.loop-k.k c.loop-k.worst q.regular.apart all c.loop-k.invariant.0
