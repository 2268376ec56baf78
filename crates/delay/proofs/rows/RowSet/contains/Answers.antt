use Rattle.std.proofs.Common.{◌≡◌, ℕ, ◌/◌, ◌^◌, eqb, bit_and, refl, ◌-◌, false, Ok, Err, Result, cond, ◌&&◌, sym, ap, ◌∙◌, inl, inr, rules}
use Rattle.std.proofs.lemmas.Bool.{cases_Bool}
use Rattle.names.specs.declared.refusal.Refusal.{Refusal}
use Rattle.names.specs.declared.refusal.Refusal.TheVariants.{PriorityRange}
use Rattle.theory.specs.Figures.{priorities, within}
use Rattle.blocks.specs.Members.{bit}
use Rattle.delay.proofs.RowBits.{row_read}
use Rattle.delay.proofs.rows.RowSet.contains.Goals as goal

pub returns : goal.returns
returns c =
    let k = c.args.k.0 in
    elim (cases_Bool (within priorities k)) [
      | inl inside ↦
          let is : ◌≡◌ {A = Result ℕ Refusal} c.index.result (Ok (k - 1)) = c.index.ensures ∙ ap (λ b. cond b (Ok (k - 1)) (Err (PriorityRange k))) inside in
          let read : c.is_ok_and.result ≡ eqb (bit_and (c.args.self.0 / 2 ^ (k - 1)) 1) 1 = search rules in
          read ∙ row_read c.args.self.0 k (k - 1) inside refl
      | inr outside ↦
          let is : ◌≡◌ {A = Result ℕ Refusal} c.index.result (Err (PriorityRange k)) = c.index.ensures ∙ ap (λ b. cond b (Ok (k - 1)) (Err (PriorityRange k))) outside in
          let read : c.is_ok_and.result ≡ false = search rules in
          read ∙ sym (ap (λ b. b && bit c.args.self.0 (k - 1)) outside)
    ]
