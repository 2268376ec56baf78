-- The two laws, for the charges that are reckoned from blocks and for the switch over any charge.
use Rattle.std.proofs.Common.{◌≡◌, ℕ, ◌+◌, ◌*◌, ◌≤◌, min, Bool, true, false, cond, ◌||◌, eqb, leb, List, sym, refl, ap, ◌∙◌, ⊎_elim, mul-le-mul_left, mul-zero, arith}
use Rattle.std.proofs.lemmas.Nat.{mul-le}
use Rattle.std.proofs.lemmas.Bool.{and_parts, and_from, and_left, cases_Bool, cond-true, cond-false, or_cases, leb-true, eqb-true, ltb-true, lt-ltb}
use Rattle.theory.specs.Sets.{Sets, cache_sets, size, intersection, in_one, union_over, counted, largest}
use Rattle.theory.specs.Blocks.{Blocks, reload_top}
use Rattle.theory.specs.Reckonings.{Reckoned, useful_size, met_size, lost_e, lost_u, lost_v, lost_x, reloads, up_to, Sharper}
use Rattle.theory.specs.Columns.{entry}
use Rattle.theory.specs.Delays.{Charge, too_much, asked, affected, some_row, NoGreater, Alike, Lawful, switched}
use Rattle.theory.specs.Figures.{priorities, Within}
use Rattle.theory.proofs.Counting.{cond_mono, none_some, some_mono, some_none, largest-le, largest_mono, count-le, count_mono, count_none}

module _ (i b j : ℕ) (g h : List ℕ) (le : NoGreater i b g h) where
  entry_mono : (k : ℕ) → 1 ≤ k → (leb k i || eqb k b) ≡ true → entry g k ≤ entry h k
  entry_mono k l e =
      ⊎_elim
      (λ u. le.above k (l, leb-true k i u))
      (λ u. let same : k ≡ b = eqb-true k b u in rw same le.blocker)
      (or_cases (leb k i) (eqb k b) e)

  -- what is affected stays so under weaker thresholds
  pub affected_mono : (k : ℕ) → Within priorities k → affected i b j g k ≡ true → affected i b j h k ≡ true
  affected_mono k l e =
      let parts = and_parts _ _ e in
      let up = entry_mono k l.0 parts.1 in
      let below = ltb-true j (entry g k) parts.0 in
      and_from _ _ (lt-ltb j (entry h k) (omega arith)) parts.1

  pub some_affected_mono : some_row (affected i b j g) ≡ true → some_row (affected i b j h) ≡ true
  some_affected_mono = some_mono (affected i b j g) (affected i b j h) priorities (λ k l u. affected_mono k (l, u))

-- every priority that passes p passes q
abbrev pub Wider : (ℕ → Bool) → (ℕ → Bool) → Type 0
Wider p q = (k : ℕ) → Within priorities k → p k ≡ true → q k ≡ true

-- What a reckoning owes: more affected rows lose no fewer blocks, none loses more than the cache has, and where no
-- row is affected no block is lost.
pub record Keeps (lost : Reckoned) : Type 0 where
  pub more : (m : Blocks) (j : ℕ) (p q : ℕ → Bool) → Wider p q → lost m j p ≤ lost m j q
  pub few : (m : Blocks) (j : ℕ) (p : ℕ → Bool) → lost m j p ≤ cache_sets
  pub none : (m : Blocks) (j : ℕ) (p : ℕ → Bool) → some_row p ≡ false → lost m j p ≡ 0

module _ (p q : ℕ → Bool) (wider : Wider p q) where
  wider_some : some_row p ≡ true → some_row q ≡ true
  wider_some = some_mono p q priorities (λ k l u. wider k (l, u))

  wider_largest : (f : ℕ → ℕ) → largest p f ≤ largest q f
  unfolding counted
  wider_largest f =
      largest_mono (counted p f) (counted q f) priorities (λ k l u. cond_mono (p k) (q k) (f k) (wider k (l, u)))

  wider_union : (x : ℕ → Sets) (s : ℕ) → union_over p x s ≡ true → union_over q x s ≡ true
  unfolding union_over in_one
  wider_union x s =
      some_mono (in_one p x s) (in_one q x s) priorities
      (λ k l u e. let parts = and_parts _ _ e in and_from _ _ (wider k (l, u) parts.0) parts.1)

size-le : (x : Sets) → size x ≤ cache_sets
size-le x = count-le x cache_sets

largest_few : (p : ℕ → Bool) (f : ℕ → ℕ) → ((k : ℕ) → f k ≤ cache_sets) → largest p f ≤ cache_sets
unfolding counted
largest_few p f each =
    largest-le (counted p f) cache_sets priorities
    (λ k l u. elim (p k) as (λ v. cond v (f k) 0 ≤ cache_sets) [ true ↦ each k | false ↦ omega arith ])

largest_none : (p : ℕ → Bool) (f : ℕ → ℕ) → some_row p ≡ false → largest p f ≡ 0
unfolding counted
largest_none p f none =
    let zeros = largest-le (counted p f) 0 priorities (λ k l u. let e = cond-false (p k) (f k) 0 (none_some p priorities none k l u) in omega arith) in
    omega arith

union_none : (p : ℕ → Bool) (x : ℕ → Sets) (s : ℕ) → some_row p ≡ false → union_over p x s ≡ false
unfolding union_over in_one
union_none p x s none =
    some_none (in_one p x s) priorities (λ k l u. and_left (p k) (x k s) (none_some p priorities none k l u))

pub keeps_e : Keeps lost_e
keeps_e =
    record {
      more = λ m j p q wider. cond_mono (some_row p) (some_row q) (size (m.evicting j)) (wider_some p q wider);
      few = λ m j p. elim (some_row p) as (λ v. cond v (size (m.evicting j)) 0 ≤ cache_sets) [ true ↦ size-le (m.evicting j) | false ↦ omega arith ];
      none = λ m j p. cond-false (some_row p) (size (m.evicting j)) 0;
    }

pub keeps_u : Keeps lost_u
unfolding useful_size
keeps_u =
    record {
      more = λ m j p q wider. wider_largest p q wider (useful_size m);
      few = λ m j p. largest_few p (useful_size m) (λ k. size-le (m.useful k));
      none = λ m j p. largest_none p (useful_size m);
    }

pub keeps_v : Keeps lost_v
unfolding intersection
keeps_v =
    record {
      more = λ m j p q wider. count_mono (intersection (union_over p m.useful) (m.evicting j)) (intersection (union_over q m.useful) (m.evicting j)) cache_sets
          (λ s e. let parts = and_parts _ _ e in and_from _ _ (wider_union p q wider m.useful s parts.0) parts.1);
      few = λ m j p. size-le (intersection (union_over p m.useful) (m.evicting j));
      none = λ m j p e. count_none (intersection (union_over p m.useful) (m.evicting j)) cache_sets (λ s. and_left _ _ (union_none p m.useful s e));
    }

pub keeps_x : Keeps lost_x
unfolding met_size
keeps_x =
    record {
      more = λ m j p q wider. wider_largest p q wider (met_size m j);
      few = λ m j p. largest_few p (met_size m j) (λ k. size-le _);
      none = λ m j p. largest_none p (met_size m j);
    }

-- a reckoning looks at no number but the priorities
pub lost_same : (lost : Reckoned) → Keeps lost → (m : Blocks) (j : ℕ) (p q : ℕ → Bool) → ((k : ℕ) → Within priorities k → p k ≡ q k) → lost m j p ≡ lost m j q
lost_same lost keeps m j p q same =
    let up = keeps.more m j p q (λ k l e. sym (same k l) ∙ e) in
    let down = keeps.more m j q p (λ k l e. same k l ∙ e) in
    omega arith

-- a map with a reload time in range
pub reloads_lawful : (lost : Reckoned) → Keeps lost → (m : Blocks) → m.reload ≤ reload_top → Lawful (reloads lost m)
reloads_lawful lost keeps m small =
    record {
      monotone = λ i b j g h le.
          let more = mul-le-mul_left m.reload (keeps.more m j (affected i b j g) (affected i b j h) (affected_mono i b j g h le)) in
          elim (asked i b j) as (λ v. cond v (m.reload * lost m j (affected i b j g)) 0 ≤ cond v (m.reload * lost m j (affected i b j h)) 0)
          [ true ↦ more | false ↦ omega arith ];
      bounded = λ i b j h.
          let few = mul-le m.reload (lost m j (affected i b j h)) reload_top cache_sets small (keeps.few m j (affected i b j h)) in
          elim (asked i b j) as (λ v. cond v (m.reload * lost m j (affected i b j h)) 0 ≤ too_much)
          [ true ↦ omega arith | false ↦ omega arith ];
    }

-- where no row is affected, nothing is charged
pub reloads_none : (lost : Reckoned) → Keeps lost → (m : Blocks) (i b j : ℕ) (h : List ℕ) → some_row (affected i b j h) ≡ false → reloads lost m i b j h ≡ 0
reloads_none lost keeps m i b j h none =
    let zeros : m.reload * lost m j (affected i b j h) ≡ 0 = rw (keeps.none m j (affected i b j h) none) (mul-zero m.reload) in
    elim (asked i b j) as (λ v. cond v (m.reload * lost m j (affected i b j h)) 0 ≡ 0) [ true ↦ zeros | false ↦ refl ]

-- a reckoning that never counts more never charges more
reloads_less : (few many : Reckoned) (m : Blocks) (i b j : ℕ) (h : List ℕ) → few m j (affected i b j h) ≤ many m j (affected i b j h) → reloads few m i b j h ≤ reloads many m i b j h
reloads_less few many m i b j h less =
    let more = mul-le-mul_left m.reload less in
    elim (asked i b j) as (λ v. cond v (m.reload * few m j (affected i b j h)) 0 ≤ cond v (m.reload * many m j (affected i b j h)) 0)
    [ true ↦ more | false ↦ omega arith ]

v_below_e : (m : Blocks) (j : ℕ) (p : ℕ → Bool) → lost_v m j p ≤ lost_e m j p
unfolding intersection
v_below_e m j p =
    ⊎_elim
    (λ some.
    let own = cond-true (some_row p) (size (m.evicting j)) 0 some in
    let part : lost_v m j p ≤ size (m.evicting j) = count_mono (intersection (union_over p m.useful) (m.evicting j)) (m.evicting j) cache_sets (λ s e. (and_parts (union_over p m.useful s) (m.evicting j s) e).1) in
    omega arith)
    (λ none. let zeros = keeps_v.none m j p none in omega arith)
    (cases_Bool (some_row p))

x_below_u : (m : Blocks) (j : ℕ) (p : ℕ → Bool) → lost_x m j p ≤ lost_u m j p
unfolding counted met_size useful_size intersection
x_below_u m j p =
    largest_mono (counted p (met_size m j)) (counted p (useful_size m)) priorities
    (λ k l u.
    let part = count_mono (intersection (m.useful k) (union_over (up_to j) m.evicting)) (m.useful k) cache_sets (λ s e. (and_parts _ _ e).0) in
    elim (p k) as (λ v. cond v (size (intersection (m.useful k) (union_over (up_to j) m.evicting))) 0 ≤ cond v (size (m.useful k)) 0) [ true ↦ part | false ↦ omega arith ])

pub sharper : (m : Blocks) → Sharper m
sharper m i b j h =
    (reloads_less lost_v lost_e m i b j h (v_below_e m j (affected i b j h)), reloads_less lost_x lost_u m i b j h (x_below_u m j (affected i b j h)))

-- charging nothing
pub nothing_lawful : Lawful (λ i b j h. 0)
nothing_lawful = record { monotone = λ i b j g h le. omega arith; bounded = λ i b j h. omega arith }

pub switched_monotone : (w : ℕ) (c : Charge) → ((i b j : ℕ) (g h : List ℕ) → NoGreater i b g h → c i b j g ≤ c i b j h) → (i b j : ℕ) (g h : List ℕ) → NoGreater i b g h → switched w c i b j g ≤ switched w c i b j h
switched_monotone w c monotone i b j g h le =
    let below = monotone i b j g h le in
    let more = cond_mono (some_row (affected i b j g)) (some_row (affected i b j h)) w (some_affected_mono i b j g h le) in
    elim (asked i b j) as (λ v. cond v (min (c i b j g + cond (some_row (affected i b j g)) w 0) too_much) 0 ≤ cond v (min (c i b j h + cond (some_row (affected i b j h)) w 0) too_much) 0)
    [ true ↦ omega arith | false ↦ omega arith ]

pub switched_bounded : (w : ℕ) (c : Charge) (i b j : ℕ) (h : List ℕ) → switched w c i b j h ≤ too_much
switched_bounded w c i b j h =
    elim (asked i b j) as (λ v. cond v (min (c i b j h + cond (some_row (affected i b j h)) w 0) too_much) 0 ≤ too_much)
    [ true ↦ omega arith | false ↦ omega arith ]

pub switched_lawful : (w : ℕ) (c : Charge) → Lawful c → Lawful (switched w c)
switched_lawful w c laws =
    record { monotone = switched_monotone w c laws.monotone; bounded = switched_bounded w c }

module _ (w : ℕ) (c : Charge) (i b j : ℕ) (h : List ℕ) (in_range : asked i b j ≡ true) where
  pub switched_none : some_row (affected i b j h) ≡ false → c i b j h ≤ too_much → switched w c i b j h ≡ c i b j h
  switched_none none small =
      let plain : min (c i b j h + 0) too_much ≡ c i b j h = omega arith in
      cond-true _ _ _ in_range ∙ ap (λ (n : ℕ). min (c i b j h + n) too_much) (cond-false _ w 0 none) ∙ plain

  pub switched_some : some_row (affected i b j h) ≡ true → switched w c i b j h ≡ min (c i b j h + w) too_much
  switched_some some = cond-true _ _ _ in_range ∙ ap (λ (n : ℕ). min (c i b j h + n) too_much) (cond-true _ w 0 some)

-- equal numbers are no greater, either way round
pub alike_charged : (c : Charge) → Lawful c → (i b j : ℕ) (g h : List ℕ) → Alike i b g h → c i b j g ≡ c i b j h
alike_charged c laws i b j g h same =
    let there : NoGreater i b g h = record { zeros = same.zeros; above = λ p l. let e = same.above p l in omega arith; blocker = let e = same.blocker in omega arith } in
    let back : NoGreater i b h g = record { zeros = λ p l. ((same.zeros p l).1, (same.zeros p l).0); above = λ p l. let e = same.above p l in omega arith; blocker = let e = same.blocker in omega arith } in
    let up = laws.monotone i b j g h there in
    let down = laws.monotone i b j h g back in
    omega arith
