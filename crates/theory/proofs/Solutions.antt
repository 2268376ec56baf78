-- Least solutions of equations whose right side never falls, and how an iteration climbs to them.
use Rattle.std.proofs.Common.{◌≡◌, ℕ, zero, suc, ◌+◌, ◌<◌, ◌≤◌, ◌⊎◌, sym, subst, inl, inr, eq-or-lt_of_le, arith}
use Rattle.std.proofs.lemmas.Bool.{cases_lt}
use Rattle.theory.specs.Least.{Solves, Least}
use Rattle.theory.specs.Regular.{Mono, Climbs}

pub climb_first : {low : ℕ} {F : ℕ → ℕ} → low ≤ F low → Climbs low F low
climb_first h = record { from = omega arith; up = h; under = λ m p q. p }

module _ {low : ℕ} {F : ℕ → ℕ} (mono : Mono F) where
  climb_next : {x : ℕ} → Climbs low F x → Climbs low F (F x)
  climb_next {x} c =
      record {
        from = omega arith;
        up = mono x (F x) c.up;
        under = λ m p q. omega (arith, mono x m (c.under m p q));
      }

  -- the next turn, at the value y that it computed
  pub climb_to : {x y : ℕ} → Climbs low F x → y ≡ F x → Climbs low F y
  climb_to c e = subst (λ (z : ℕ). Climbs low F z) (sym e) (climb_next c)

  pub climb_least : {x : ℕ} → Climbs low F x → x ≡ F x → Least low F x
  climb_least c e = record { solves = record { from = c.from; same = e }; least = λ m s. c.under m s.from (let z = s.same in omega arith) }

  pub climb_past : {x : ℕ} → Climbs low F x → (m : ℕ) → Solves low F m → x ≤ m
  climb_past c m s = c.under m s.from (let z = s.same in omega arith)

  -- an iteration ends at the least solution, or past the limit
  climb_ends : (limit fuel x : ℕ) → Climbs low F x → limit < x + fuel
      → ((y : ℕ) × Least low F y × (y ≤ limit)) ⊎ ((y : ℕ) × Climbs low F y × (limit < y))
  climb_ends limit zero x c h = inr (x, c, omega arith)
  climb_ends limit (suc fuel) x c h =
      elim (cases_lt limit x) [
        | inl past ↦ inr (x, c, past)
        | inr at ↦ elim (eq-or-lt_of_le c.up) [
          | inl e ↦ inl (x, climb_least c e, at)
          | inr lt ↦ climb_ends limit fuel (F x) (climb_next c) (omega arith)
        ]
      ]

  module _ (first : low ≤ F low) where
    pub least_or_none : (limit : ℕ) → ((y : ℕ) × Least low F y × (y ≤ limit)) ⊎ ((m : ℕ) → Solves low F m → m ≤ limit → ⊥)
    least_or_none limit =
        elim (climb_ends limit (limit + 1) low (climb_first first) (omega arith)) [
          | inl found ↦ inl found
          | inr past ↦ inr (λ m s b. omega (arith, climb_past past.1 m s, past.2))
        ]

    -- a number that F does not raise has a least solution below it
    pub has_least : (b : ℕ) → low ≤ b → F b ≤ b → (n : ℕ) × Least low F n × (n ≤ b)
    has_least b p q =
        elim (climb_ends b (b + 1) low (climb_first first) (omega arith)) [
          | inl found ↦ found
          | inr past ↦ absurd (omega (arith, past.1.under b p q, past.2))
        ]

    pub least_under : {n : ℕ} → Least low F n → (m : ℕ) → low ≤ m → F m ≤ m → n ≤ m
    least_under l m p q = let a = has_least m p q in omega (arith, l.least a.0 a.1.solves, a.2)

-- an equation has one least solution
pub least_one : {low : ℕ} {F : ℕ → ℕ} {a b : ℕ} → Least low F a → Least low F b → a ≡ b
least_one {a = a} {b = b} x y = omega (arith, x.least b y.solves, y.least a x.solves)
