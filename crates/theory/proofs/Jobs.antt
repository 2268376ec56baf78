-- The jobs of an active period: each has a start below its end and a finish after the start and within it, and is
-- finished after its release. Where an iteration for the next job, or for a finish, may start.
use Rattle.std.proofs.Common.{◌≡◌, ℕ, ◌+◌, ◌-◌, ◌*◌, ◌<◌, ◌≤◌, refl, ap, ◌∙◌, inl, inr, eq-zero-or-pos, zero-mul, arith}
use Rattle.std.proofs.lemmas.Bool.{cases_lt}
use Rattle.theory.specs.Arrivals.{before}
use Rattle.theory.specs.Equations.{Equations, Period, Start, Finish, Job, Response}
use Rattle.theory.specs.Figures.{Timing}
use Rattle.theory.specs.Regular.{Climbs, Regular}
use Rattle.theory.proofs.Arrivals.{before_under}
use Rattle.theory.proofs.Solutions.{least_under, has_least, least_one}

pub response_one : (e : Equations) (w : Timing) (k a b : ℕ) → Response e w k a → Response e w k b → a ≡ b
response_one e w k a b x y =
    let s : x.start ≡ y.start = least_one x.starts y.starts in
    let g : Finish e k x.start y.finish = rw s y.finishes in
    let f : x.finish ≡ y.finish = least_one x.finishes g in
    omega (arith, x.is, y.is)

-- a job of the active period is one of those that are released before its end
pub job_of : (e : Equations) (w : Timing) (l k : ℕ) → Period e l → Job e w k → k < before w l
job_of e w l k p j = rw (least_one p j.active) j.among

module _ (e : Equations) (w : Timing) (ok : Regular e w) where
  -- every number that a finish asks no more at is after the start
  finish_past : (k s f : ℕ) → Start e k s → 1 ≤ f → e.finish k s f ≤ f → s < f
  finish_past k s f b o h =
      let r : 1 ≤ w.c = ok.runs in
      elim (cases_lt s f) [
        | inl lt ↦ lt
        | inr ge ↦ omega (
          arith,
          least_under (ok.start_up k) (omega arith) b (f - 1) (omega arith) (omega (arith, ok.finish_after k s (f - 1) f (omega arith) (omega arith))),
        )
      ]

  -- a job finishes after its start
  pub finishes_later : (k s f : ℕ) → Start e k s → Finish e k s f → s < f
  finishes_later k s f b c = finish_past k s f b c.solves.from (let z = c.solves.same in omega arith)

  start_some : (k s : ℕ) → 1 ≤ k → w.c ≤ e.start k s
  start_some k s o =
      let z : k ≡ k - 1 + 1 = omega arith in
      omega (arith, ap (λ (n : ℕ). e.start n s) z, ok.start_next (k - 1) s)

  -- a job of the active period starts no sooner than it is released
  pub released : (k l s : ℕ) → Period e l → Start e k s → s < l → k * w.t ≤ s
  released k l s p b lt =
      let r : 1 ≤ w.c = ok.runs in
      let z = b.solves.same in
      elim (cases_lt s (k * w.t)) [
        | inr h ↦ h
        | inl h ↦
            let few = ok.period_start k s (before_under w ok.apart s k (omega arith)) in
            elim (eq-zero-or-pos s) [
              | inl none ↦ elim (eq-zero-or-pos k) [
                | inl first ↦ omega (arith, ap (λ (n : ℕ). n * w.t) first ∙ zero-mul w.t)
                | inr later ↦ omega (arith, start_some k s later)
              ]
              | inr some ↦ omega (arith, least_under ok.period_up ok.period_first p s some (omega arith))
            ]
      ]

  -- each job of an active period has a start below its end, and a finish within it
  pub starts : (k l : ℕ) → Period e l → k < before w l → (s : ℕ) × Start e k s × (s < l)
  starts k l p b =
      let a = has_least (ok.start_up k) (omega arith) (l - 1) (omega arith) (ok.start_within k l p b) in
      (a.0, a.1, omega (arith, p.solves.from, a.2))

  pub finishes : (k s l : ℕ) → Period e l → k < before w l → s < l → (f : ℕ) × Finish e k s f × (f ≤ l)
  finishes k s l p b lt = has_least (ok.finish_up k s) (ok.finish_first k s) l p.solves.from (ok.finish_within k s l p b lt)

  pub responds : (k : ℕ) → Job e w k → (r : ℕ) × Response e w k r
  responds k j =
      let a = starts k j.length j.active j.among in
      let b = finishes k a.0 j.length j.active j.among a.2 in
      (b.0 - k * w.t, record { start = a.0; finish = b.0; starts = a.1; finishes = b.1; is = refl })

  -- the next start is a run time or more after the last one
  pub start_warm : (k s : ℕ) → Start e k s → Climbs 0 (e.start (k + 1)) (s + w.c)
  start_warm k s b =
      let z = b.solves.same in
      record {
        from = omega arith;
        up = omega (arith, ok.start_next k (s + w.c), ok.start_up k s (s + w.c) (omega arith));
        under = λ m p q.
            let n = ok.start_next k m in
            let u = ok.start_up k (m - w.c) m (omega arith) in
            omega (arith, least_under (ok.start_up k) (omega arith) b (m - w.c) (omega arith) (omega arith));
      }

  -- and a finish a run time or more after its start
  pub finish_warm : (k s : ℕ) → Start e k s → Climbs 1 (e.finish k s) (s + w.c)
  finish_warm k s b =
      let r : 1 ≤ w.c = ok.runs in
      let z = b.solves.same in
      record {
        from = omega arith;
        up = omega (arith, ok.finish_after k s s (s + w.c) (omega arith) (omega arith));
        under = λ m p q. omega (arith, ok.finish_after k s s m (omega arith) (finish_past k s m b p q));
      }
