-- An outline tells of a state what has to be known of it.
use Rattle.std.proofs.Common.{◌≡◌, ◌⊎◌, inl, inr, ℕ, zero, suc, ◌<◌, ◌≤◌, Bool, true, false, not, ◌&&◌, ◌||◌, List, [], ◌∷◌, ◌++◌, length, get_or, take, set, refl, ap, ◌∙◌, arith}
use Rattle.std.specs.Prelude.{slice_get, Option, None, Some, is_some, nat_le, nat_lt, ◌==◌}
use Rattle.std.proofs.lemmas.Bool.Decides.{nat_tests}
use Rattle.std.proofs.lemmas.Bool.{eqb-true}
use Rattle.craft_base.specs.Shape.{Shape}
use Rattle.craft_base.specs.declared.command.Entry.{Entry}
use Rattle.craft_base.specs.declared.command.Form.{Form}
use Rattle.craft_base.specs.declared.command.Form.TheVariants as forms
use Rattle.entry_frames.specs.Durable.{Durable, CanApply, applied, IsLaterTerm, IsFirstVote, IsVoter, IsNextEntry, IsUncommitted, LacksValue, IsPartOf, complete_at}
use Rattle.entry_frames.specs.Entries.{is_whole}
use Rattle.entry_frames.specs.Limits.{greatest, last_place}
use Rattle.entry_frames.specs.Logs.{entry_at, term_at, term_of_entry}
use Rattle.entry_frames.specs.Records.{Record, Term, Add, Cut, Whole, Commit}
use Rattle.synced_log.specs.declared.outline.EntryOutline.{EntryOutline}
use Rattle.synced_log.specs.Outlines.{outline_of_entry, outlines_of, outline_of, is_voter, term_of_outline, outline_at, lacks_value, can_apply_entry, is_uncommitted, can_apply, whole_outline, make_whole, outline_after}

-- ---- the outline of one entry changes

pub set_whole : (entries : List EntryOutline) (i : ℕ) (d : EntryOutline) → i < length entries → set entries i (whole_outline (get_or entries i d)) ≡ make_whole entries i
set_whole [] i d lt = absurd (omega arith)
set_whole (m ∷ entries) zero d lt = refl
set_whole (m ∷ entries) (suc i) d lt = ap (λ (l : List EntryOutline). m ∷ l) (set_whole entries i d (omega arith))

pub none_whole : (entries : List EntryOutline) (i : ℕ) → length entries ≤ i → entries ≡ make_whole entries i
none_whole [] i le = refl
none_whole (m ∷ entries) zero le = absurd (omega arith)
none_whole (m ∷ entries) (suc i) le = ap (λ (l : List EntryOutline). m ∷ l) (none_whole entries i (omega arith))

-- ---- the entries of a log

length-outlines : (log : List Entry) → length (outlines_of log) ≡ length log
length-outlines [] = refl
length-outlines (e ∷ log) = omega (arith, length-outlines log)

outlines-push : (log : List Entry) (e : Entry) → outlines_of (log ++ e ∷ []) ≡ outlines_of log ++ outline_of_entry e ∷ []
outlines-push [] e = refl
outlines-push (x ∷ log) e = ap (λ (l : List EntryOutline). outline_of_entry x ∷ l) (outlines-push log e)

outlines-take : (n : ℕ) (log : List Entry) → outlines_of (take n log) ≡ take n (outlines_of log)
outlines-take zero log = refl
outlines-take (suc n) [] = refl
outlines-take (suc n) (x ∷ log) = ap (λ (l : List EntryOutline). outline_of_entry x ∷ l) (outlines-take n log)

outlines-complete : (log : List Entry) (i : ℕ) (bytes : List ℕ) → outlines_of (complete_at log i bytes) ≡ make_whole (outlines_of log) i
outlines-complete [] i bytes = refl
outlines-complete (x ∷ log) zero bytes = refl
outlines-complete (x ∷ log) (suc i) bytes = ap (λ (l : List EntryOutline). outline_of_entry x ∷ l) (outlines-complete log i bytes)

term_there : (log : List Entry) (i : ℕ) → term_of_outline (slice_get (outlines_of log) i) ≡ term_of_entry (slice_get log i)
term_there [] i = refl
term_there (x ∷ log) zero = refl
term_there (x ∷ log) (suc i) = term_there log i

outlined_term : (log : List Entry) (i : ℕ) → term_of_outline (outline_at (outlines_of log) i) ≡ term_at log i
outlined_term log zero = refl
outlined_term log (suc i) = term_there log i

-- ---- tests

both : (a b : Bool) → (a && b) ≡ true → (a ≡ true) × (b ≡ true)
both true b e = (refl, e)
both false b e = absurd cc

either : (a b : Bool) → (a || b) ≡ true → (a ≡ true) ⊎ (b ≡ true)
either true b e = inl refl
either false b e = inr e

not_true : (a : Bool) → not a ≡ true → a ≡ false
not_true true e = absurd cc
not_true false e = refl

later_is : (d : Durable) (term : ℕ) → (nat_le 1 term && nat_le term greatest && nat_lt d.term term) ≡ true → IsLaterTerm d term
later_is d term e =
    let h = both (nat_le 1 term && nat_le term greatest) (nat_lt d.term term) e in
    let k = both (nat_le 1 term) (nat_le term greatest) h.0 in
    record { least = grind (arith, nat_tests, k.0); most = grind (arith, nat_tests, k.1); later = grind (arith, nat_tests, h.1) }

is_later : (d : Durable) (term : ℕ) → IsLaterTerm d term → (nat_le 1 term && nat_le term greatest && nat_lt d.term term) ≡ true
is_later d term h = grind (arith, nat_tests, h.least, h.most, h.later)

voter_is : (shape : Shape) (vote : Option ℕ) → is_voter shape vote ≡ true → IsVoter shape vote
voter_is shape None e = absurd cc
voter_is shape (Some member) e = grind (arith, nat_tests, e)

is_a_voter : (shape : Shape) (vote : Option ℕ) → IsVoter shape vote → is_voter shape vote ≡ true
is_a_voter shape None h = absurd h
is_a_voter shape (Some member) h = grind (arith, nat_tests, h)

none_is : (o : Option ℕ) → is_some o ≡ false → o ≡ None
none_is None e = refl
none_is (Some x) e = absurd cc

first_is : (shape : Shape) (d : Durable) (term : ℕ) (vote : Option ℕ) → ((term == d.term) && not (is_some d.vote) && is_voter shape vote) ≡ true → IsFirstVote shape d term vote
first_is shape d term vote e = let h = both ((term == d.term) && not (is_some d.vote)) (is_voter shape vote) e in let k = both (term == d.term) (not (is_some d.vote)) h.0 in record {
  same = eqb-true _ _ k.0;
  none_yet = none_is d.vote (not_true _ k.1);
  voter = voter_is shape vote h.1;
}

is_first : (shape : Shape) (d : Durable) (term : ℕ) (vote : Option ℕ) → IsFirstVote shape d term vote → ((term == d.term) && not (is_some d.vote) && is_voter shape vote) ≡ true
is_first shape d term vote h =
    rw (h.none_yet, is_a_voter shape vote h.voter) (grind (arith, nat_tests, h.same))

or_left : (a b : Bool) → a ≡ true → (a || b) ≡ true
or_left true b e = refl
or_left false b e = absurd cc

or_right : (a b : Bool) → b ≡ true → (a || b) ≡ true
or_right true b e = refl
or_right false b e = e

part_is : (e : Entry) (n : ℕ) → lacks_value (Some (outline_of_entry e)) n ≡ true → LacksValue (Some e) n
part_is e n h = by_form e.form h
  where
    by_form : (f : Form) → (not (is_whole f) && (e.head.vlen == n)) ≡ true → IsPartOf f e.head.vlen n
    by_form (forms.Whole bytes) h = absurd cc
    by_form (forms.Part bytes) h = eqb-true _ _ h

is_part : (e : Entry) (n : ℕ) → LacksValue (Some e) n → lacks_value (Some (outline_of_entry e)) n ≡ true
is_part e n h = by_form e.form h
  where
    by_form : (f : Form) → IsPartOf f e.head.vlen n → (not (is_whole f) && (e.head.vlen == n)) ≡ true
    by_form (forms.Whole bytes) h = absurd h
    by_form (forms.Part bytes) h = grind (arith, nat_tests, h)

lacking : (log : List Entry) (i n : ℕ) → lacks_value (slice_get (outlines_of log) i) n ≡ true → LacksValue (slice_get log i) n
lacking [] i n h = absurd cc
lacking (x ∷ log) zero n h = part_is x n h
lacking (x ∷ log) (suc i) n h = lacking log i n h

lacking_at : (log : List Entry) (i n : ℕ) → lacks_value (outline_at (outlines_of log) i) n ≡ true → LacksValue (entry_at log i) n
lacking_at log zero n h = absurd cc
lacking_at log (suc i) n h = lacking log i n h

lacks : (log : List Entry) (i n : ℕ) → LacksValue (slice_get log i) n → lacks_value (slice_get (outlines_of log) i) n ≡ true
lacks [] i n h = absurd h
lacks (x ∷ log) zero n h = is_part x n h
lacks (x ∷ log) (suc i) n h = lacks log i n h

lacks_at : (log : List Entry) (i n : ℕ) → LacksValue (entry_at log i) n → lacks_value (outline_at (outlines_of log) i) n ≡ true
lacks_at log zero n h = absurd h
lacks_at log (suc i) n h = lacks log i n h

uncommitted_is : (d : Durable) (index : ℕ) → is_uncommitted (outline_of d) index ≡ true → IsUncommitted d index
uncommitted_is d index e = let h = both (nat_lt d.commit index) (nat_le index (length (outlines_of d.log))) e in record {
  behind = grind (arith, nat_tests, h.0);
  within = omega (arith, length-outlines d.log, index_within (length (outlines_of d.log)) h.1);
}
  where
    index_within : (n : ℕ) → nat_le index n ≡ true → index ≤ n
    index_within n e = grind (arith, nat_tests, e)

is_not_committed : (d : Durable) (index : ℕ) → IsUncommitted d index → is_uncommitted (outline_of d) index ≡ true
is_not_committed d index h = rw length-outlines (grind (arith, nat_tests, h.behind, h.within))

next_is : (d : Durable) (e : Entry) → can_apply_entry (outline_of d) e.term ≡ true → IsNextEntry d e
next_is d e t = plain (length (outlines_of d.log)) (term_of_outline (outline_at (outlines_of d.log) (length (outlines_of d.log)))) (length-outlines d.log)
    (outlined_term d.log (length (outlines_of d.log)) ∙ ap (λ n. term_at d.log n) (length-outlines d.log)) t
  where
    plain : (n t : ℕ) → n ≡ length d.log → t ≡ term_at d.log (length d.log) → (nat_lt n last_place && nat_le t e.term && nat_le e.term d.term) ≡ true → IsNextEntry d e
    plain n t n_is t_is e' =
        let h = both (nat_lt n last_place && nat_le t e.term) (nat_le e.term d.term) e' in
        let k = both (nat_lt n last_place) (nat_le t e.term) h.0 in
        let a : n < last_place = grind (arith, nat_tests, k.0) in
        let b : t ≤ e.term = grind (arith, nat_tests, k.1) in
        let f : e.term ≤ d.term = grind (arith, nat_tests, h.1) in
        record { room = omega (arith, a, n_is); no_earlier = omega (arith, b, t_is); no_later = f }

is_next : (d : Durable) (e : Entry) → IsNextEntry d e → can_apply_entry (outline_of d) e.term ≡ true
is_next d e h = plain (length (outlines_of d.log)) (term_of_outline (outline_at (outlines_of d.log) (length (outlines_of d.log)))) (length-outlines d.log)
    (outlined_term d.log (length (outlines_of d.log)) ∙ ap (λ n. term_at d.log n) (length-outlines d.log))
  where
    plain : (n t : ℕ) → n ≡ length d.log → t ≡ term_at d.log (length d.log) → (nat_lt n last_place && nat_le t e.term && nat_le e.term d.term) ≡ true
    plain n t n_is t_is =
        let a : n < last_place = omega (arith, n_is, h.room) in
        let b : t ≤ e.term = omega (arith, t_is, h.no_earlier) in
        grind (arith, nat_tests, a, b, h.no_later)

-- ---- a record can be applied exactly where the outline says so

pub can_be_applied : (shape : Shape) (d : Durable) (r : Record) → can_apply shape (outline_of d) r ≡ true → CanApply shape d r
can_be_applied shape d (Term term vote) e = elim (either _ _ e) [ inl h ↦ inl (later_is d term h) | inr h ↦ inr (first_is shape d term vote h) ]
can_be_applied shape d (Add entry) e = next_is d entry e
can_be_applied shape d (Cut index) e = uncommitted_is d index e
can_be_applied shape d (Whole index bytes) e = lacking_at d.log index (length bytes) e
can_be_applied shape d (Commit index) e = uncommitted_is d index e

pub can_apply_it : (shape : Shape) (d : Durable) (r : Record) → CanApply shape d r → can_apply shape (outline_of d) r ≡ true
can_apply_it shape d (Term term vote) (inl h) = or_left _ _ (is_later d term h)
can_apply_it shape d (Term term vote) (inr h) = or_right _ _ (is_first shape d term vote h)
can_apply_it shape d (Add entry) h = is_next d entry h
can_apply_it shape d (Cut index) h = is_not_committed d index h
can_apply_it shape d (Whole index bytes) h = lacks_at d.log index (length bytes) h
can_apply_it shape d (Commit index) h = is_not_committed d index h

-- and what it does is told
pub outlined : (d : Durable) (r : Record) → outline_after (outline_of d) r ≡ outline_of (applied d r)
outlined d (Term term vote) = refl
outlined d (Add entry) = simp outlines-push
outlined d (Cut index) = simp outlines-take
outlined d (Whole index bytes) = simp outlines-complete
outlined d (Commit index) = refl
