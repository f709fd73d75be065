-- The records of an append that is taken: each can be applied to what those before it leave, and after them the log goes as far as
-- the message.
use Rattle.std.proofs.Common.{◌≡◌, ℕ, suc, ◌+◌, ◌-◌, ◌<◌, ◌≤◌, false, List, [], ◌∷◌, ◌++◌, length, take, drop, map, Option, None, Some, refl, sym, ap, subst, ◌∙◌, arith, length-append, length-drop, length-take-le}
use Rattle.std.specs.Option.{option_to_list}
use Rattle.std.proofs.lemmas.Bool.{leb-false}
use Rattle.craft_base.specs.Shape.{Shape}
use Rattle.craft_base.specs.declared.command.Entry.{Entry}
use Rattle.entry_frames.specs.Bodies.{HaveSpellings}
use Rattle.entry_frames.specs.Durable.{Durable, CanApplyAll, IsNextEntry, IsUncommitted, after, applied}
use Rattle.entry_frames.specs.Limits.{last_place}
use Rattle.entry_frames.specs.Logs.{term_at}
use Rattle.entry_frames.specs.Records.{Record, Add, Cut}
use Rattle.entry_frames.specs.Stored.{AreEntries, DurableInRange}
use Rattle.entry_frames.proofs.Durable.{can_apply-append}
use Rattle.entry_frames.proofs.Stored.{last_after, last_is, taken}
use Rattle.world_model.specs.Rules.Append.{common, completions, difference, difference_at, is_clash, taken_records}
use Rattle.world_model.proofs.Recorded.{after-append}
use Rattle.world_model.proofs.Ranges.Completions.{AreSound, IsCompleted, all_complete, completions_sound}
use Rattle.world_model.proofs.Ranges.Orders.{behind_common, common_own, common_sent, common_term, last_after-append, last_of_front, taken_stands}
use Rattle.world_model.proofs.Ranges.Records.{add_fits, cut_fits, spelled-append}

-- the records can be applied and have spellings, and the log after them goes to that index at least
pub record Takes (shape : Shape) (d : Durable) (records : List Record) (reach : ℕ) : Type 0 where
  pub applies : CanApplyAll shape d records
  pub written : HaveSpellings shape.need records
  pub reaches : reach ≤ length (after d records).log

module _ (shape : Shape) where
  -- entries that are added in order
  adds_take :
      (es : List Entry) (d : Durable) (low reach : ℕ) → last_after 0 d.log ≡ low → AreEntries shape.need low d.term es → length d.log + length es ≤ last_place →
      reach ≤ length d.log + length es → Takes shape d (map Add es) reach
  adds_take [] d low reach is are short reaches = record { applies = tt; written = tt; reaches = omega (arith, reaches) }
  adds_take (e ∷ es) d low reach is are short reaches =
      let longer : length (d.log ++ e ∷ []) ≡ length d.log + 1 = length-append d.log (e ∷ []) in
      let now : Durable = applied d (Add e) in
      let next : IsNextEntry d e = record {
        room = omega (arith, short);
        no_earlier = omega (arith, last_is d.log, is, are.1);
        no_later = are.2;
      } in
      let rest : Takes shape now (map Add es) reach =
      adds_take es now e.term reach (last_after-append 0 d.log (e ∷ [])) are.3 (omega (arith, longer, short)) (omega (arith, longer, reaches)) in record {
        applies = (next, rest.applies);
        written = (add_fits shape.need e are.0, rest.written);
        reaches = rest.reaches;
      }

  more_take :
      (d : Durable) (first more : List Record) (reach : ℕ) → AreSound shape d first → Takes shape (after d first) more reach → Takes shape d (first ++ more) reach
  more_take d first more reach sound rest = record {
    applies = can_apply-append shape d first more sound.0 rest.applies;
    written = spelled-append shape.need first more sound.1 rest.written;
    reaches = subst (λ (e : Durable). reach ≤ length e.log) (sym (after-append d first more)) rest.reaches;
  }

module _
    (shape : Shape) (d : Durable) (keeps : DurableInRange shape d) (prev : ℕ) (es : List Entry) (within : prev ≤ length d.log)
    (are : AreEntries shape.need (term_at d.log prev) d.term es) (short : prev + length es ≤ last_place) where
  abbrev same : ℕ
  same = common (drop prev d.log) es

  abbrev firsts : List Record
  firsts = completions (prev + 1) (take same (drop prev d.log)) (take same es)

  -- once parts have become whole
  abbrev now : Durable
  now = after d firsts

  now_is : IsCompleted d now
  now_is = all_complete d (prev + 1) (take same (drop prev d.log)) (take same es)

  in_own : prev + same ≤ length d.log
  in_own = omega (arith, within, common_own (drop prev d.log) es, length-drop prev d.log)

  in_sent : same ≤ length es
  in_sent = common_sent (drop prev d.log) es

  firsts_sound : AreSound shape d firsts
  firsts_sound =
      completions_sound shape (take same (drop prev d.log)) (take same es) d (term_at d.log prev) d.term (prev + 1) prev keeps (omega arith)
      (taken_stands d.log prev same) (omega (arith, short, in_sent, length-take-le same es in_sent))
      (taken shape.need (term_at d.log prev) d.term same es are)

  -- what the log lacks goes on from the last term that both have
  rest_in_order : AreEntries shape.need (term_at d.log (prev + same)) d.term (drop same es)
  rest_in_order =
      subst (λ (t : ℕ). AreEntries shape.need t d.term (drop same es)) (common_term d.log prev same within in_own)
      (behind_common shape.need (term_at d.log prev) d.term (drop prev d.log) es are)

  rest_long : length (drop same es) ≡ length es - same
  rest_long = length-drop same es

  abbrev Rest : List Entry → List Entry → Type 0
  Rest own new =
      Takes shape now (map Cut (option_to_list (difference_at (prev + 1 + same) own new)) ++ map Add new) (prev + length es)

  added_behind : (new : List Entry) → drop (prev + same) d.log ≡ [] → drop same es ≡ new → Rest [] new
  added_behind new ends is =
      let none : length d.log - (prev + same) ≡ 0 = sym (length-drop (prev + same) d.log) ∙ ap length ends in
      let at : length now.log ≡ prev + same = omega (arith, now_is.long, none, in_own) in
      let more : length new ≡ length es - same = sym (ap length is) ∙ rest_long in
      let last : last_after 0 now.log ≡ term_at d.log (prev + same) = last_is now.log ∙ ap (term_at now.log) at ∙ now_is.terms (prev + same) in
      adds_take shape new now (term_at d.log (prev + same)) (prev + length es) last
      (subst (λ (t : ℕ). AreEntries shape.need (term_at d.log (prev + same)) t new) (sym now_is.term)
      (subst (AreEntries shape.need (term_at d.log (prev + same)) d.term) is rest_in_order))
      (omega (arith, at, more, short, in_sent)) (omega (arith, at, more, in_sent))

  nothing_added : drop same es ≡ [] → Takes shape now [] (prev + length es)
  nothing_added none =
      let all : length es - same ≡ 0 = sym rest_long ∙ ap length none in record {
        applies = tt;
        written = tt;
        reaches = omega (arith, now_is.long, in_own, all);
      }

  replaced_by :
      (o : Entry) (own : List Entry) (e : Entry) (new : List Entry) → drop (prev + same) d.log ≡ o ∷ own → drop same es ≡ e ∷ new →
      d.commit < prev + 1 + same → Rest (o ∷ own) (e ∷ new)
  replaced_by o own e new rest is open' =
      let index : ℕ = prev + 1 + same in
      let before : index - 1 ≡ prev + same = omega arith in
      let left : length d.log - (prev + same) ≡ suc (length own) = sym (length-drop (prev + same) d.log) ∙ ap length rest in
      let inside : prev + same ≤ length now.log = omega (arith, now_is.long, left) in
      let cut : Durable = applied now (Cut index) in
      let front : cut.log ≡ take (prev + same) now.log = ap (λ (n : ℕ). take n now.log) before in
      let at : length cut.log ≡ prev + same = ap length front ∙ length-take-le (prev + same) now.log inside in
      let more : length (e ∷ new) ≡ length es - same = sym (ap length is) ∙ rest_long in
      let last : last_after 0 cut.log ≡ term_at d.log (prev + same) = ap (last_after 0) front ∙ last_of_front (prev + same) now.log inside ∙ now_is.terms (prev + same) in
      let can : IsUncommitted now index = record { behind = omega (arith, open', now_is.commit); within = omega (arith, now_is.long, left) } in
      let adds : Takes shape cut (map Add (e ∷ new)) (prev + length es) =
      adds_take shape (e ∷ new) cut (term_at d.log (prev + same)) (prev + length es) last
      (subst (λ (t : ℕ). AreEntries shape.need (term_at d.log (prev + same)) t (e ∷ new)) (sym now_is.term)
      (subst (AreEntries shape.need (term_at d.log (prev + same)) d.term) is rest_in_order))
      (omega (arith, at, more, short, in_sent)) (omega (arith, at, more, in_sent)) in record {
        applies = (can, adds.applies);
        written = (cut_fits shape.need index (omega arith) (omega (arith, left, keeps.short)), adds.written);
        reaches = adds.reaches;
      }

  rest_takes :
      (own new : List Entry) → drop (prev + same) d.log ≡ own → drop same es ≡ new → is_clash d.commit (difference_at (prev + 1 + same) own new) ≡ false → Rest own new
  rest_takes [] new ends is clear = added_behind new ends is
  rest_takes (o ∷ own) [] rest is clear = nothing_added is
  rest_takes (o ∷ own) (e ∷ new) rest is clear = replaced_by o own e new rest is (leb-false (prev + 1 + same) d.commit clear)

  -- the records of a message that doesn't clash
  pub records_take : is_clash d.commit (difference prev d.log es) ≡ false → Takes shape d (taken_records prev d.log es) (prev + length es)
  records_take clear =
      more_take shape d firsts _ (prev + length es) firsts_sound (rest_takes (drop (prev + same) d.log) (drop same es) refl refl clear)

-- ---- the term

added_term : (d : Durable) (es : List Entry) → (after d (map Add es)).term ≡ d.term
added_term d [] = refl
added_term d (e ∷ es) = added_term (applied d (Add e)) es

rest_term : (d : Durable) (cut : Option ℕ) (es : List Entry) → (after d (map Cut (option_to_list cut) ++ map Add es)).term ≡ d.term
rest_term d None es = added_term d es
rest_term d (Some index) es = added_term (applied d (Cut index)) es

-- no record of them changes it
pub taken_term : (d : Durable) (prev : ℕ) (es : List Entry) → (after d (taken_records prev d.log es)).term ≡ d.term
taken_term d prev es =
    let same : ℕ = common (drop prev d.log) es in
    let firsts : List Record = completions (prev + 1) (take same (drop prev d.log)) (take same es) in
    let rest : List Record = map Cut (option_to_list (difference prev d.log es)) ++ map Add (drop same es) in
    ap (λ (e : Durable). e.term) (after-append d firsts rest) ∙ rest_term (after d firsts) (difference prev d.log es) (drop same es)
    ∙ (all_complete d (prev + 1) (take same (drop prev d.log)) (take same es)).term
