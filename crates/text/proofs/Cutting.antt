-- Cutting a text into lines, and a line into words.
use Rattle.std.proofs.Common.{◌≡◌, ℕ, suc, ◌+◌, ◌-◌, ◌<◌, min, Bool, true, false, cond, not, ◌||◌, List, [], ◌∷◌, length, take, drop, sym, refl, ap, ◌∙◌, not-suc-le-zero, one-add, arith, length-drop}
use Rattle.std.specs.List.{prefix_len}
use Rattle.std.proofs.lemmas.Bool.{cond_both, cond-true, cond-false, or_parts, not-true}
use Rattle.std.proofs.lemmas.Bool.Decides.{nat_tests}
use Rattle.text.specs.Text.{in_front, line_end, lines, blank, hash, wordy, goes_on, words}

-- a run that goes on by one element where v is true, and is over where it is not
drop_run : (v : Bool) (n b : ℕ) (bs : List ℕ) → drop (cond v (1 + n) 0) (b ∷ bs) ≡ cond v (drop n bs) (b ∷ bs)
drop_run true n b bs = rw one-add
drop_run false n b bs = refl

-- no element that passes follows a whole run of them
run_over : (p : ℕ → Bool) (bs : List ℕ) → prefix_len p (drop (prefix_len p bs) bs) ≡ 0
run_over p [] = refl
run_over p (b ∷ bs) =
    let n = prefix_len p bs in
    ap (prefix_len p) (drop_run (p b) n b bs)
    ∙ cond_both (p b) (drop n bs) (b ∷ bs) (λ (l : List ℕ). prefix_len p l ≡ 0) (λ h. run_over p bs) (λ h. cond-false (p b) (1 + n) 0 h)

no_run : (v : Bool) (n : ℕ) → cond v (1 + n) 0 ≡ 0 → v ≡ false
no_run true n h = absurd (omega arith)
no_run false n h = refl

some_run : (v : Bool) (n : ℕ) → 0 < cond v (1 + n) 0 → v ≡ true
some_run true n h = refl
some_run false n h = absurd (not-suc-le-zero h)

blank_not_hash : (b : ℕ) → blank b ≡ true → hash b ≡ false
blank_not_hash b h = grind (arith, nat_tests)

second_part : (x y : Bool) → x ≡ false → not (x || y) ≡ false → y ≡ true
second_part false true e h = refl
second_part false false e h = sym h
second_part true y e h = cc

-- the cases of words at a byte
at_blank : (b : ℕ) (bs : List ℕ) → blank b ≡ true → words (b ∷ bs) ≡ words bs
unfolding words
at_blank b bs h = cond-false (hash b) _ _ (blank_not_hash b h) ∙ cond-true (blank b) _ _ h

at_hash : (b : ℕ) (bs : List ℕ) → hash b ≡ true → words (b ∷ bs) ≡ []
unfolding words
at_hash b bs h = cond-true (hash b) _ _ h

at_wordy : (b : ℕ) (bs : List ℕ) → wordy b ≡ true → words (b ∷ bs) ≡ cond (goes_on bs) (in_front b (words bs)) ((b ∷ []) ∷ words bs)
unfolding words
at_wordy b bs h = let g = or_parts (blank b) (hash b) (not-true (blank b || hash b) h) in cond-false (hash b) _ _ g.1 ∙ cond-false (blank b) _ _ g.0

-- leading blanks belong to no word
words_blanks : (text : List ℕ) → words text ≡ words (drop (prefix_len blank text) text)
words_blanks [] = refl
words_blanks (b ∷ bs) =
    let n = prefix_len blank bs in
    cond_both (blank b) (drop n bs) (b ∷ bs) (λ (l : List ℕ). words (b ∷ bs) ≡ words l) (λ h. at_blank b bs h ∙ words_blanks bs) (λ h. refl)
    ∙ ap words (sym (drop_run (blank b) n b bs))

-- a byte of a word, and those that follow it, before c where v is true
word_goes_on : (v : Bool) (n b c : ℕ) (cs : List ℕ) → (v ≡ true → words (c ∷ cs) ≡ (c ∷ take n cs) ∷ words (drop n cs)) →
    cond v (in_front b (words (c ∷ cs))) ((b ∷ []) ∷ words (c ∷ cs)) ≡ (b ∷ take (cond v (1 + n) 0) (c ∷ cs)) ∷ words (drop (cond v (1 + n) 0) (c ∷ cs))
unfolding in_front
word_goes_on true n b c cs h = rw one-add (ap (in_front b) (h refl))
word_goes_on false n b c cs h = refl

word_from : (b : ℕ) (bs : List ℕ) → wordy b ≡ true → words (b ∷ bs) ≡ (b ∷ take (prefix_len wordy bs) bs) ∷ words (drop (prefix_len wordy bs) bs)
word_from b [] h = at_wordy b [] h
word_from b (c ∷ cs) h = at_wordy b (c ∷ cs) h ∙ word_goes_on (wordy c) (prefix_len wordy cs) b c cs (word_from c cs)

-- a text that begins with no blank and no byte of a word has no words
words_none : (text : List ℕ) → prefix_len blank text ≡ 0 → prefix_len wordy text ≡ 0 → words text ≡ []
unfolding words
words_none [] b w = refl
words_none (x ∷ xs) b w = at_hash x xs (second_part (blank x) (hash x) (no_run (blank x) (prefix_len blank xs) b) (no_run (wordy x) (prefix_len wordy xs) w))

-- the bytes of a word that a text begins with are its first word
words_first : (text : List ℕ) → 0 < prefix_len wordy text → words text ≡ take (prefix_len wordy text) text ∷ words (drop (prefix_len wordy text) text)
words_first [] some = absurd (not-suc-le-zero some)
words_first (b ∷ bs) some =
    let n = prefix_len wordy bs in
    let h = some_run (wordy b) n some in
    let e : suc n ≡ cond (wordy b) (1 + n) 0 = sym (cond-true (wordy b) (1 + n) 0 h ∙ one-add n) in
    word_from b bs h ∙ ap (λ (k : ℕ). take k (b ∷ bs) ∷ words (drop k (b ∷ bs))) e

-- A text cut after its leading blanks, and again after n bytes of a word.
module _ (text start : List ℕ) (is : start ≡ drop (prefix_len blank text) text) (n : ℕ) (run : n ≡ prefix_len wordy start) where
  at_start : words text ≡ words start
  at_start = words_blanks text ∙ ap words (sym is)

  pub cut_none : n ≡ 0 → words text ≡ []
  cut_none h = at_start ∙ words_none start (ap (prefix_len blank) is ∙ run_over blank text) (sym run ∙ h)

  pub cut_first : (word rest : List ℕ) → 0 < n → word ≡ take n start → rest ≡ drop n start → words text ≡ word ∷ words rest
  cut_first word rest some w r = rw (w, r, run) (at_start ∙ words_first start (rw run at some))

-- the bytes of a line
abbrev pub unended : ℕ → Bool
unended b = not (line_end b)

-- a byte of a line, and those that follow it, unless v, which says that it is the line's end
line_goes_on : (v : Bool) (n b : ℕ) (bs : List ℕ) → in_front b (lines bs) ≡ (b ∷ take n bs) ∷ lines (drop 1 (drop n bs)) →
    cond v ([] ∷ lines bs) (in_front b (lines bs)) ≡ take (cond (not v) (1 + n) 0) (b ∷ bs) ∷ lines (drop 1 (drop (cond (not v) (1 + n) 0) (b ∷ bs)))
line_goes_on true n b bs h = refl
line_goes_on false n b bs h = rw one-add h

-- the bytes that a text begins with and that end no line are its first line
line_from : (b : ℕ) (bs : List ℕ) → let n = prefix_len unended (b ∷ bs) in lines (b ∷ bs) ≡ take n (b ∷ bs) ∷ lines (drop 1 (drop n (b ∷ bs)))
unfolding in_front lines
line_from b [] = line_goes_on (line_end b) 0 b [] refl
line_from b (c ∷ cs) = line_goes_on (line_end b) (prefix_len unended (c ∷ cs)) b (c ∷ cs) (ap (in_front b) (line_from c cs))

drop_one : (e : List ℕ) → drop (min (length e) 1) e ≡ drop 1 e
drop_one [] = refl
drop_one (x ∷ xs) = let z : min (suc (length xs)) 1 ≡ 1 = omega arith in ap (λ (k : ℕ). drop k (x ∷ xs)) z

-- a text cut before and after its first line end
pub cut_line : (text line end rest : List ℕ) → 0 < length text → line ≡ take (prefix_len unended text) text → end ≡ drop (prefix_len unended text) text →
    rest ≡ drop (min (length end) 1) end → lines text ≡ line ∷ lines rest
cut_line [] line end rest some l e r = absurd (not-suc-le-zero some)
cut_line (b ∷ bs) line end rest some l e r = rw (l, r, drop_one, e) (line_from b bs)

pub rest_shorter : (text end rest : List ℕ) (n : ℕ) → 0 < length text → end ≡ drop n text → rest ≡ drop (min (length end) 1) end → length rest < length text
rest_shorter text end rest n some e r =
    let l = ap length (r ∙ drop_one end ∙ ap (drop 1) e) ∙ length-drop 1 (drop n text) ∙ ap (λ (k : ℕ). k - 1) (length-drop n text) in
    omega arith

pub no_lines : (text : List ℕ) → length text ≡ 0 → lines text ≡ []
unfolding lines
no_lines [] e = refl
no_lines (b ∷ bs) e = let never : ⊥ = omega arith in absurd never
