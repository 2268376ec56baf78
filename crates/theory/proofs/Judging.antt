-- Each question has exactly one outcome, and an easier question that passes, passes no later.
use Rattle.std.proofs.Common.{◌≡◌, ℕ, zero, suc, ◌+◌, ◌<◌, ◌≤◌, max, cond, ◌&&◌, eqb, ltb, ◌⊎◌, refl, ap, subst, inl, inr, eq-zero-or-pos, arith, below_more}
use Rattle.std.proofs.lemmas.Bool.{cases_lt, cases_order, cases_Bool, and_parts, and_from, both_ways, eqb-true, eq-eqb}
use Rattle.std.proofs.lemmas.Bool.Decides.{nat_tests}
use Rattle.theory.specs.Arrivals.{before, through}
use Rattle.theory.specs.Delays.{too_much}
use Rattle.theory.specs.Equations.{Question, Equations, equations, Period, Start, Finish, Job, Response, period_top}
use Rattle.theory.specs.Figures.{Timing, is_row}
use Rattle.theory.specs.Outcomes.{Verdict, overcharged, no_period, late, passes, Overcharged, Affordable, NoPeriod, FirstLate, InTime, Judged}
use Rattle.theory.specs.Regular.{Regular}
use Rattle.theory.proofs.Arrivals.{before_up, through_up, through_before, before_some}
use Rattle.theory.proofs.Demands.{Proper, eased, above_less, regular}
use Rattle.theory.proofs.Jobs.{response_one, job_of, finishes_later, responds}
use Rattle.theory.proofs.Solutions.{least_under, has_least, least_or_none}

-- the first n jobs meet the deadline, and the greatest of their responses is worst
pub record Seen (e : Equations) (w : Timing) (n worst : ℕ) : Type 0 where
  pub all : (m t : ℕ) → m < n → Response e w m t → (t ≤ w.d) × (t ≤ worst)
  pub none : n ≡ 0 → worst ≡ 0
  pub some : 0 < n → (m : ℕ) × (m < n) × Response e w m worst

module _ (e : Equations) (w : Timing) where
  pub seen_none : Seen e w 0 0
  seen_none = record { all = λ m t h. absurd (omega arith); none = λ _. refl; some = λ h. absurd (omega arith) }

  pub seen_more : (n a r v : ℕ) → Seen e w n a → Response e w n r → r ≤ w.d → v ≡ max a r → Seen e w (n + 1) v
  seen_more n a r v seen x d is =
      record {
        all = λ m t h y. elim (cases_lt m n) [
          | inr g ↦ (let i : m ≡ n = omega arith in
              let z : Response e w n t = subst (λ (k : ℕ). Response e w k t) i y in
              let u : t ≡ r = response_one e w n t r z x in (omega arith, omega arith))
          | inl g ↦ (let z = seen.all m t g y in (z.0, omega arith))
        ];
        none = λ h. absurd (omega arith);
        some = λ _. elim (cases_lt r a) [
          | inr g ↦ (let u : r ≡ v = omega arith in (n, omega arith, subst (λ (k : ℕ). Response e w n k) u x))
          | inl g ↦ elim (eq-zero-or-pos n) [
            | inl z ↦ absurd (omega (arith, seen.none z))
            | inr z ↦ (let u : a ≡ v = omega arith in
                let s = seen.some z in (s.0, omega arith, subst (λ (k : ℕ). Response e w s.0 k) u s.2))
          ]
        ];
      }

  module _ (l : ℕ) (active : Period e l) (short : l ≤ period_top) where
    -- the next job is late, after jobs that were not
    pub seen_late : (n a r : ℕ) → n < before w l → Seen e w n a → Response e w n r → w.d < r → FirstLate e w n r
    seen_late n a r among seen x d =
        record {
          job = record { length = l; active = active; short = short; among = among };
          responds = x;
          late = d;
          earlier = λ m t h y. (seen.all m t h y).0;
        }

    -- all jobs of the active period have been seen
    pub seen_all : (n a : ℕ) → 1 ≤ w.t → n ≡ before w l → Seen e w n a → InTime e w a
    seen_all n a apart is seen =
        let some : 0 < n = omega (arith, before_some w apart l active.solves.from) in
        let s = seen.some some in
        record {
          every = λ m t j y. seen.all m t (omega (arith, job_of e w l m active j)) y;
          worst = s.0;
          job = record { length = l; active = active; short = short; among = omega (arith, s.1) };
          responds = s.2;
        }

-- ---- a question has an outcome
module _ (q : Question) (ok : Proper q) where
  abbrev e : Equations
  e = equations q

  abbrev w : Timing
  w = q.own

  -- the n jobs from k on
  jobs_judged : (l : ℕ) → Period e l → l ≤ period_top → (n k a : ℕ) → k + n ≡ before w l → Seen e w k a
      → ((m : ℕ) × (r : ℕ) × FirstLate e w m r) ⊎ ((r : ℕ) × InTime e w r)
  jobs_judged l p short zero k a sum seen = inr (a, seen_all e w l p short k a ok.apart (omega arith) seen)
  jobs_judged l p short (suc n) k a sum seen =
      let x = responds e w (regular q ok) k (record { length = l; active = p; short = short; among = omega arith }) in
      elim (cases_lt w.d x.0) [
        | inl d ↦ inl (k, x.0, seen_late e w l p short k a x.0 (omega arith) seen x.1 d)
        | inr d ↦ jobs_judged l p short n (k + 1) (max a x.0) (omega arith) (seen_more e w k a x.0 (max a x.0) seen x.1 d refl)
      ]

  -- the most urgent row that is charged too much, from j on
  charges_judged : (n j : ℕ) → j + n ≡ q.place → ((m : ℕ) → m < j → Overcharged q m → ⊥) → ((m : ℕ) × Judged q (overcharged m)) ⊎ Affordable q
  charges_judged zero j sum none = inr (λ m t. none m (omega (arith, t.above)) t)
  charges_judged (suc n) j sum none =
      elim (cases_Bool (is_row (q.rows j) && eqb (q.charge j) too_much)) [
        | inl d ↦ (let parts = and_parts _ _ d in inl (j, (record { above = omega arith; row = parts.0; top = eqb-true _ _ parts.1 }, none)))
        | inr d ↦ charges_judged n (j + 1) (omega arith) (below_more (λ m. Overcharged q m → ⊥) j none
            (λ t. both_ways _ d (and_from _ _ t.row (eq-eqb _ _ t.top))))
      ]

  pub judged_some : (v : Verdict) × Judged q v
  judged_some =
      elim (charges_judged q.place 0 (omega arith) (λ m h. absurd (omega arith))) [
        | inl top ↦ (overcharged top.0, top.1)
        | inr none ↦ elim (least_or_none (regular q ok).period_up (regular q ok).period_first period_top) [
          | inr no_end ↦ (no_period, (none, no_end))
          | inl p ↦ elim (jobs_judged p.0 p.1 p.2 (before w p.0) 0 0 (omega arith) (seen_none e w)) [
            | inl x ↦ (late x.0 x.1, (none, x.2))
            | inr x ↦ (passes x.0, (none, x.1))
          ]
        ]
      ]

-- ---- and no other
module _ (q : Question) where
  abbrev e' : Equations
  e' = equations q

  no_job : (k : ℕ) → Job e' q.own k → NoPeriod e' → ⊥
  no_job k j none = none j.length j.active.solves j.short

  late_in_time : (k r t : ℕ) → FirstLate e' q.own k r → InTime e' q.own t → ⊥
  late_in_time k r t a b = omega (arith, (b.every k r a.job a.responds).0, a.late)

  pub judged_one : (v u : Verdict) → Judged q v → Judged q u → v ≡ u
  judged_one (overcharged j) (overcharged k) a b =
      ap overcharged (elim (cases_order j k) [ inl is ↦ is | inr s ↦ elim s [ inl l ↦ absurd (b.1 j l a.0) | inr l ↦ absurd (a.1 k l b.0) ] ])
  judged_one (overcharged j) no_period a b = absurd (b.0 j a.0)
  judged_one (overcharged j) (late k r) a b = absurd (b.0 j a.0)
  judged_one (overcharged j) (passes r) a b = absurd (b.0 j a.0)
  judged_one no_period (overcharged j) a b = absurd (a.0 j b.0)
  judged_one no_period no_period a b = refl
  judged_one no_period (late k r) a b = absurd (no_job k b.1.job a.1)
  judged_one no_period (passes r) a b = absurd (no_job b.1.worst b.1.job a.1)
  judged_one (late k r) (overcharged j) a b = absurd (a.0 j b.0)
  judged_one (late k r) no_period a b = absurd (no_job k a.1.job b.1)
  judged_one (late k r) (late m t) a b =
      let is : k ≡ m = elim (cases_order k m) [
        | inl is ↦ is
        | inr s ↦ elim s [
          | inl l ↦ absurd (omega (arith, b.1.earlier k r l a.1.responds, a.1.late))
          | inr l ↦ absurd (omega (arith, a.1.earlier m t l b.1.responds, b.1.late))
        ]
      ] in
      let x : Response e' q.own m r = subst (λ (n : ℕ). Response e' q.own n r) is a.1.responds in
      let d : r ≡ t = response_one e' q.own m r t x b.1.responds in
      cc
  judged_one (late k r) (passes t) a b = absurd (late_in_time k r t a.1 b.1)
  judged_one (passes r) (overcharged j) a b = absurd (a.0 j b.0)
  judged_one (passes r) no_period a b = absurd (no_job a.1.worst a.1.job b.1)
  judged_one (passes r) (late k t) a b = absurd (late_in_time k t r b.1 a.1)
  judged_one (passes r) (passes t) a b =
      ap passes (omega (arith, (b.1.every a.1.worst r a.1.job a.1.responds).1, (a.1.every b.1.worst t b.1.job b.1.responds).1))

-- ---- lower charges and a stronger threshold
module _ (q : Question) (ok : Proper q) (c : ℕ → ℕ) (t : ℕ) (ok' : Proper (eased q c t)) (less : (j : ℕ) → j < q.place → c j ≤ q.charge j) (nearer : t ≤ q.threshold) where
  abbrev p : Question
  p = eased q c t

  abbrev hard : Equations
  hard = equations q

  abbrev easy : Equations
  easy = equations p

  abbrev own : Timing
  own = q.own

  regular' : Regular easy own
  regular' = regular p ok'

  period_lower : (x : ℕ) → easy.period x ≤ hard.period x
  period_lower x = omega (arith, above_less q ok c less {n = λ j v. before v x} {m = λ j v. before v x} (λ j v _. omega arith) t)

  start_lower : (k a b : ℕ) → Start easy k a → Start hard k b → a ≤ b
  start_lower k a b x y =
      let z = y.solves.same in
      least_under (regular'.start_up k) (omega arith) x b (omega arith)
      (omega (arith, above_less q ok c less {n = λ j v. through v b} {m = λ j v. through v b} (λ j v _. omega arith) t))

  -- where a row no longer pre-empts, what it releases up to the earlier start comes before the later finish
  counts_lower : (s u x : ℕ) → s ≤ u → u < x → (j : ℕ) (v : Timing) → 1 ≤ v.t
      → cond (ltb j t) (before v x) (through v s) ≤ cond (ltb j q.threshold) (before v x) (through v u)
  counts_lower s u x le lt j v o =
      let a : through v s ≤ through v u = through_up v le in
      let b : through v u ≤ before v x = through_before v o lt in
      grind (arith, nat_tests)

  finish_lower : (k s u a b : ℕ) → Start easy k s → Start hard k u → Finish easy k s a → Finish hard k u b → a ≤ b
  finish_lower k s u a b i j x y =
      let z = y.solves.same in
      least_under (regular'.finish_up k s) (regular'.finish_first k s) x b y.solves.from
      (omega (
        arith,
        above_less q ok c less {n = λ j v. cond (ltb j t) (before v b) (through v s)} {m = λ j v. cond (ltb j q.threshold) (before v b) (through v u)}
            (counts_lower s u b (start_lower k s u i j) (finishes_later hard own (regular q ok) k u b j y)) t,
      ))

  response_lower : (k a b : ℕ) → Response easy own k a → Response hard own k b → a ≤ b
  response_lower k a b x y =
      omega (arith, finish_lower k x.start y.start x.finish y.finish x.starts y.starts x.finishes y.finishes, x.is, y.is)

  -- the active period is no longer, and so has no job more
  period_easier : (l : ℕ) → Period hard l → (a : ℕ) × Period easy a × (a ≤ l)
  period_easier l x = has_least regular'.period_up regular'.period_first l x.solves.from (let z = x.solves.same in omega (arith, period_lower l))

  job_harder : (k m : ℕ) → Job hard own m → Job easy own k → Job hard own k
  job_harder k m i j =
      let up = least_under regular'.period_up regular'.period_first j.active i.length i.active.solves.from
      (let z = i.active.solves.same in omega (arith, period_lower i.length)) in
      record { length = i.length; active = i.active; short = i.short; among = omega (arith, j.among, before_up own up) }

  pub judged_easier : (r : ℕ) → Judged q (passes r) → (v : Verdict) → Judged p v → (u : ℕ) × Judged p (passes u) × (u ≤ r)
  judged_easier r a (passes u) b =
      let i = job_harder b.1.worst a.1.worst a.1.job b.1.job in
      let x = responds hard own (regular q ok) b.1.worst i in
      (u, b, omega (arith, response_lower b.1.worst u x.0 b.1.responds x.1, (a.1.every b.1.worst x.0 i x.1).1))
  judged_easier r a (overcharged j) b =
      let x = b.0 in
      absurd (a.0 j (record { above = x.above; row = x.row; top = omega (arith, x.top, less j x.above, ok.charged j) }))
  judged_easier r a no_period b =
      let j = a.1.job in
      let x = period_easier j.length j.active in
      absurd (b.1 x.0 x.1.solves (omega (arith, x.2, j.short)))
  judged_easier r a (late k u) b =
      let i = job_harder k a.1.worst a.1.job b.1.job in
      let x = responds hard own (regular q ok) k i in
      absurd (omega (arith, response_lower k u x.0 b.1.responds x.1, b.1.late, (a.1.every k x.0 i x.1).0))
