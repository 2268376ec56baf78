use Rattle.std.proofs.Common.{rules, ◌≡◌, ℕ, ◌<◌, ◌≤◌, min, Bool, List, [], ◌∷◌, Option, Some, None, MatchOption, ◌+◌, ◌-◌, ◌*◌, ◌%◌, true, false, refl, ap, ◌∙◌, arith}
use Rattle.std.specs.List.{fold}
use Rattle.std.proofs.lemmas.Bool.{and_parts}
use Rattle.std.proofs.lemmas.Bool.Decides.{nat_tests}
use Rattle.text.specs.Text.{digit, all_digits, spelled}
use Rattle.text.proofs.number_within.Goals as goal

-- what a byte counts for, by a difference that wraps only where it is no digit
abbrev value : ℕ → ℕ
value b = (256 + b - 48) % 256

abbrev more : ℕ → ℕ → ℕ
more m b = m * 10 + value b

value_is : (b : ℕ) → digit b ≡ true → value b ≡ b - 48
value_is b h = grind (arith, nat_tests)

spells : (n : ℕ) (ds : List ℕ) → all_digits ds ≡ true → fold more n ds ≡ spelled n ds
unfolding spelled
spells n [] h = refl
spells n (b ∷ bs) h =
    let g = and_parts (digit b) (all_digits bs) h in
    ap (λ (v : ℕ). fold more (n * 10 + v) bs) (value_is b g.0) ∙ spells (n * 10 + (b - 48)) bs g.1

-- what is kept within the top at each step is within it at the end
kept_within : {A : Type 0} (f : ℕ → A → ℕ) (top n : ℕ) (xs : List A) → n ≤ top → fold (λ m x. min (f m x) top) n xs ≤ top
kept_within f top n [] h = h
kept_within f top n (x ∷ xs) h = kept_within f top (min (f n x) top) xs (omega arith)

-- a run to the end read all the digits, and one that broke off read some that spell a number above the top
settled : (whole : Bool) (r : Option ℕ) (top read kept all : ℕ) → read ≤ all → (whole ≡ true → read ≡ all) → kept ≤ top →
    (whole ≡ true → MatchOption r ⊥ (λ n. (n ≡ read) × (n ≡ kept))) → (whole ≡ false → MatchOption r (top < read) (λ n. ⊥)) →
    MatchOption r (top < all) (λ n. (n ≡ all) × (n ≤ top))
settled true None top read kept all grows same k ends breaks = absurd (ends refl)
settled true (Some n) top read kept all grows same k ends breaks = let e = ends refl in (e.0 ∙ same refl, omega (arith, e.1, k))
settled false None top read kept all grows same k ends breaks = omega (arith, breaks refl, grows)
settled false (Some n) top read kept all grows same k ends breaks = absurd (breaks refl)

pub returns : goal.returns
returns c =
    let top = c.args.top in
    let w = c.args.word.now in
    let p = c.try_fold.ensures.runs.0 in
    let read = fold (λ m b. more m b.now) 0 p.items in
    let kept = fold (λ m b. min (more m b.now) top) 0 p.items in
    let grows : read ≤ fold more 0 w = search rules in
    let same : p.whole ≡ true → read ≡ fold more 0 w = search rules in
    let ends : p.whole ≡ true → MatchOption c.try_fold.result ⊥ (λ n. (n ≡ read) × (n ≡ kept)) = search rules in
    let breaks : p.whole ≡ false → MatchOption c.try_fold.result (top < read) (λ n. ⊥) = search rules in
    let cap = kept_within (λ m b. more m b.now) top 0 p.items (omega arith) in
    let settles = settled p.whole c.try_fold.result top read kept (fold more 0 w) grows same cap ends breaks in
    rw (spells 0 w c.requires) at settles
