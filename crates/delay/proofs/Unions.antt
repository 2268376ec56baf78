-- Equal sets have equal sizes, intersections and unions; sets gathered row by row.
use Rattle.std.proofs.Common.{◌≡◌, ℕ, Bool, false, ◌&&◌, ◌||◌, List, [], ◌∷◌, ◌++◌, fold, sym, ap, ◌∙◌, ap₂}
use mathlib.Core.Path.{fun_ext}
use Rattle.std.proofs.lemmas.List.Sums.{fold_push}
use Rattle.theory.specs.Sets.{Sets, SameSets, cache_sets, union, size, counted, in_one, largest, intersection, union_over}
use Rattle.theory.specs.Figures.{Within, priorities}
use Rattle.blocks.specs.declared.sets.CacheSets.{CacheSets}
use Rattle.blocks.specs.Members.{has}
use Rattle.theory.proofs.Counting.{count_same, some_same}

pub size_same : (x y : Sets) → SameSets x y → size x ≡ size y
size_same x y same = count_same x y cache_sets same

pub intersection_same : (x y v w : Sets) → SameSets x v → SameSets y w → SameSets (intersection x y) (intersection v w)
unfolding intersection
intersection_same x y v w left right s l = ap₂ ◌&&◌ (left s l) (right s l)

pub largest_same : (test : ℕ → Bool) (f g : ℕ → ℕ) → ((k : ℕ) → f k ≡ g k) → largest test f ≡ largest test g
largest_same test f g same = ap (largest test) (fun_ext same)

module _ (x : ℕ → Sets) where
  -- what is in one of the sets of some rows
  abbrev pub gathered : List ℕ → Sets
  gathered ks s = fold (λ v k. v || x k s) false ks

  pub gathered_more : (a b : Sets) (ks : List ℕ) (k : ℕ) → SameSets b (union a (x k)) → SameSets a (gathered ks) → SameSets b (gathered (ks ++ k ∷ []))
  unfolding union
  gathered_more a b ks k more before s l =
      more s l ∙ ap (λ (v : Bool). v || x k s) (before s l) ∙ sym (fold_push (λ v k. v || x k s) false ks k)

pub union_with : (a b r y : Sets) → SameSets b (union a r) → SameSets r y → SameSets b (union a y)
unfolding union
union_with a b r y more same s l = more s l ∙ ap (λ (v : Bool). a s || v) (same s l)

pub size_with : (r : CacheSets) (y : Sets) (n : ℕ) → n ≡ size (has r) → SameSets (has r) y → n ≡ size y
size_with r y n counted same = counted ∙ size_same (has r) y same

pub union_same : (p q : ℕ → Bool) (x : ℕ → Sets) (s : ℕ) → ((k : ℕ) → Within priorities k → p k ≡ q k) → union_over p x s ≡ union_over q x s
unfolding union_over in_one
union_same p q x s same =
    some_same (in_one p x s) (in_one q x s) priorities (λ k l u. ap (λ (v : Bool). v && x k s) (same k (l, u)))
