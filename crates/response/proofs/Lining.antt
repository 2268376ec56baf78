-- Rows set down one by one, without gaps.
use Rattle.std.proofs.Common.{◌≡◌, ℕ, ◌+◌, ◌-◌, ◌<◌, ◌≤◌, min, List, [], ◌++◌, length, take, set, Ok, Some, None, Option, sym, refl, ◌∙◌, subst, inl, inr, eq-or-lt_of_le, add-one, arith}
use Rattle.std.proofs.lemmas.Bool.{cases_lt}
use Rattle.std.proofs.lemmas.List.{append-nil, length-set, take_more_set, take-set-le}
use Rattle.theory.specs.Figures.{Table, priorities}
use Rattle.response.specs.declared.source.Above.{Above}
use Rattle.response.specs.declared.source.Source.{Source}
use Rattle.response.specs.Gathering.{present, Lined, SourceOf, Sourced, TooDear, NoneDear, Gathered}

module _ (rows : Table) (charge : ℕ → ℕ) where
  lined_at : {n m : ℕ} (xs : List Source) → n ≡ m → Lined rows charge n xs → Lined rows charge m xs
  lined_at xs e l = subst (λ (k : ℕ). Lined rows charge k xs) e l

  lined_next : (n : ℕ) (xs ys : List Source) (s : Option Source) → Lined rows charge n ys → SourceOf (rows (n + 1)) (charge (n + 1)) s → xs ≡ ys ++ present s
      → Lined rows charge (n + 1) xs
  unfolding Lined
  lined_next n xs ys s l is e = lined_at xs (sym (add-one n)) (ys, s, l, is, e)

  -- row j behind those before it
  lined_more : (j : ℕ) (xs ys : List Source) (s : Option Source) → 1 ≤ j → Lined rows charge (j - 1) ys → SourceOf (rows j) (charge j) s → xs ≡ ys ++ present s
      → Lined rows charge j xs
  lined_more j xs ys s h l is e =
      let same : j - 1 + 1 ≡ j = omega (arith, h) in
      lined_at xs same (lined_next (j - 1) xs ys s l (subst (λ (k : ℕ). SourceOf (rows k) (charge k) s) (sym same) is) e)

  cheap_more : (j : ℕ) → NoneDear rows charge j → (TooDear rows charge j → ⊥) → NoneDear rows charge (j + 1)
  cheap_more j cheap here k l u d = elim (eq-or-lt_of_le (let le : k ≤ j = omega (arith, u) in le)) [
    | inl same ↦ here (subst (TooDear rows charge) same d)
    | inr less ↦ cheap k l less d
  ]

  module _ (t : ℕ) where
    pub gathered_none : (xs : List Source) → length xs ≡ priorities → Gathered rows charge t 1 (record { sources = xs; preempting = 0; len = 0 })
    unfolding Lined
    gathered_none xs long =
        record {
          long = long;
          few = omega arith;
          among = omega arith;
          lined = refl;
          first = lined_at [] (let e : 0 ≡ min (t - 1) 0 = omega arith in e) refl;
          cheap = λ j l u. absurd (omega (arith, l, u));
        }

    -- no row is at j
    pub gathered_skip : (j : ℕ) (x : Above) (o : Option Source) → 1 ≤ j → Gathered rows charge t j x → Sourced rows charge j (Ok o) → o ≡ None → Gathered rows charge t (j + 1) x
    gathered_skip j x o h g found at =
        let to : j ≡ j + 1 - 1 = omega arith in
        let none : SourceOf (rows j) (charge j) None = subst (SourceOf (rows j) (charge j)) at found.0 in
        record {
          long = g.long;
          few = omega (arith, g.few);
          among = g.among;
          lined = lined_at _ to (lined_more j _ _ None h g.lined none (sym (append-nil _)));
          first = elim (cases_lt j t) [
            | inl below ↦
                let before : min (t - 1) (j - 1) ≡ j - 1 = omega (arith, below) in
                let now : j ≡ min (t - 1) (j + 1 - 1) = omega (arith, below, h) in
                lined_at _ now (lined_more j _ _ None h (lined_at _ before g.first) none (sym (append-nil _)))
            | inr from ↦ lined_at _ (let e : min (t - 1) (j - 1) ≡ min (t - 1) (j + 1 - 1) = omega (arith, from, h) in e) g.first
          ];
          cheap = cheap_more j g.cheap found.1;
        }

    -- the source of row j, set behind those before it, in lists of which few places are taken
    module _ (j : ℕ) (xs : List Source) (p n : ℕ) (s : Source) (o : Option Source) (h : 1 ≤ j) (room : n < priorities)
        (g : Gathered rows charge t j (record { sources = xs; preempting = p; len = n })) (found : Sourced rows charge j (Ok o)) (at : o ≡ Some s) where
      abbrev ys : List Source
      ys = set xs n s

      more : Lined rows charge j (take (n + 1) ys)
      more = lined_more j _ _ (Some s) h g.lined (subst (SourceOf (rows j) (charge j)) at found.0) (take_more_set xs n s (omega (arith, room, g.long)))

      to : j ≡ j + 1 - 1
      to = omega arith

      pub gathered_below : j < t → Gathered rows charge t (j + 1) (record { sources = ys; preempting = n + 1; len = n + 1 })
      gathered_below below =
          record {
            long = length-set xs n s ∙ g.long;
            few = omega (arith, g.few, h);
            among = omega arith;
            lined = lined_at _ to more;
            first = lined_at _ (let e : j ≡ min (t - 1) (j + 1 - 1) = omega (arith, below, h) in e) more;
            cheap = cheap_more j g.cheap found.1;
          }

      pub gathered_from : t ≤ j → Gathered rows charge t (j + 1) (record { sources = ys; preempting = p; len = n + 1 })
      gathered_from from =
          let same : take p ys ≡ take p xs = take-set-le p xs n s g.among in
          record {
            long = length-set xs n s ∙ g.long;
            few = omega (arith, g.few, h);
            among = omega (arith, g.among);
            lined = lined_at _ to more;
            first = rw same (lined_at _ (let e : min (t - 1) (j - 1) ≡ min (t - 1) (j + 1 - 1) = omega (arith, from, h) in e) g.first);
            cheap = cheap_more j g.cheap found.1;
          }
