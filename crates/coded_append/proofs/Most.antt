-- A batch is as much as there is room for.
use Rattle.std.proofs.Common.{◌≡◌, ℕ, zero, suc, ◌+◌, ◌-◌, ◌<◌, ◌≤◌, List, [], ◌∷◌, length, map, take, Bool, true, Some, refl, ap, sym, subst, ◌∙◌, arith}
use Rattle.std.specs.Prelude.{◌&&◌, nat_le, slice_get}
use Rattle.std.specs.List.{list_all}
use Rattle.std.proofs.lemmas.Bool.{cond_both, false≢true, leb-true, leb-false}
use Rattle.std.proofs.lemmas.Option.{none-some, same_Some}
use Rattle.craft_base.specs.declared.command.Entry.{Entry}
use Rattle.entry_frames.specs.Entries.{is_whole}
use Rattle.entry_frames.specs.MessageFields.{entry_size}
use Rattle.coded_append.specs.Batches.{before_part, fitting}
use Rattle.coded_append.specs.Laws.{IsAsMuch}

module _ (k : ℕ) (send : Entry → Entry) where
  -- where nothing goes, there is no place, nothing to send, a part, or no room
  none_goes : (places room : ℕ) (es : List Entry)
      → ((e : Entry) → slice_get es 0 ≡ Some e → is_whole e.form ≡ true → 0 < places → room < 0 + entry_size k (send e)) → IsAsMuch k places room send es []
  none_goes places room es most = record { in_order = refl; held = refl; few = omega arith; small = omega arith; most = most }

  one_more : (places room : ℕ) (e : Entry) (es rest : List Entry) → is_whole e.form ≡ true → entry_size k (send e) ≤ room
      → IsAsMuch k places (room - entry_size k (send e)) send es rest → IsAsMuch k (suc places) room send (e ∷ es) (send e ∷ rest)
  one_more places room e es rest whole fits is = record {
    in_order = ap (λ (xs : List Entry). send e ∷ xs) is.in_order;
    held = ap (λ (b : Bool). b && list_all (λ (x : Entry). is_whole x.form) (take (length rest) es)) whole ∙ is.held;
    few = omega (arith, is.few);
    small = omega (arith, is.small, fits);
    most = λ x here held lt.
        let less : length rest < places = omega (arith, lt) in
        omega (arith, is.most x here held less, fits);
  }

  pub as_much : (places room : ℕ) (es : List Entry) → IsAsMuch k places room send es (fitting k places room (map send (before_part es)))
  as_much zero room es = none_goes zero room es (λ e here whole lt. absurd (omega (arith, lt)))
  as_much (suc places) room [] = none_goes (suc places) room [] (λ e here whole lt. absurd (none-some e here))
  as_much (suc places) room (e ∷ es) =
      let rest = fitting k places (room - entry_size k (send e)) (map send (before_part es)) in
      let more : IsAsMuch k places (room - entry_size k (send e)) send es rest = as_much places (room - entry_size k (send e)) es in
      cond_both (is_whole e.form) (e ∷ before_part es) [] (λ front. IsAsMuch k (suc places) room send (e ∷ es) (fitting k (suc places) room (map send front)))
      (λ whole. cond_both (nat_le (entry_size k (send e)) room) (send e ∷ rest) [] (λ batch. IsAsMuch k (suc places) room send (e ∷ es) batch)
      (λ fits. one_more places room e es rest whole (leb-true (entry_size k (send e)) room fits) more)
      (λ full. none_goes (suc places) room (e ∷ es) (λ x here held lt.
      subst (λ (y : Entry). room < 0 + entry_size k (send y)) (same_Some e x here) (omega (arith, leb-false (entry_size k (send e)) room full)))))
      (λ part. none_goes (suc places) room (e ∷ es) (λ x here held lt.
      absurd (false≢true (sym part ∙ ap (λ (y : Entry). is_whole y.form) (same_Some e x here) ∙ held))))
