-- The members' places.
use Rattle.std.proofs.Common.{◌≡◌, ◌⊎◌, ⊎_elim, ℕ, zero, suc, ◌+◌, ◌<◌, ◌≤◌, List, [], ◌∷◌, ◌++◌, length, None, Some, get_or, replicate, slice_get, slice_set, refl, ap, ◌∙◌, sym, subst, inl, inr, arith, length-append}
use Rattle.std.proofs.lemmas.Bool.{cases_eq}
use Rattle.std.proofs.lemmas.List.{length-set}
use Rattle.std.proofs.lemmas.Option.{same_Some, slice_get-get_or, slice_get_past, slice_get_within}
use Rattle.craft_base.specs.Shape.{Shape, members_of}
use Rattle.world_model.specs.World.{Member, newborn}
use Rattle.world_model.proofs.Positions.{repeated_at, set_here, set_there}
use Rattle.schedule_replay.specs.Seats.{AreSeats, IsNewborn, Sits}
use Rattle.schedule_replay.specs.declared.seat.Seat.{Seat}

-- the member in a place that there is
pub record IsFound (shape : Shape) (members : List Member) (me : ℕ) (seat : Seat) : Type 0 where
  pub member : Member
  pub here : slice_get members me ≡ Some member
  pub sits : Sits shape me seat member

some_at : (members : List Member) (me : ℕ) → me < length members → (m : Member) × (slice_get members me ≡ Some m)
some_at [] me within = absurd (omega (arith, within))
some_at (m ∷ members) zero within = (m, refl)
some_at (m ∷ members) (suc me) within = some_at members me (omega (arith, within))

pub found_at : (shape : Shape) (seats : List Seat) (members : List Member) → AreSeats shape seats members → (me : ℕ) (seat : Seat) → me < length seats
    → get_or seats me seat ≡ seat → IsFound shape members me seat
found_at shape seats members a me seat within is =
    let m = some_at members me (omega (arith, within, a.all, a.same)) in
    record { member = m.0; here = m.1; sits = a.sits me seat m.0 (slice_get-get_or seats me seat within ∙ ap Some is) m.1 }

pub none_at : (shape : Shape) (seats : List Seat) (members : List Member) → AreSeats shape seats members → (me : ℕ) → length seats ≤ me → slice_get members me ≡ None
none_at shape seats members a me past = slice_get_past members me (omega (arith, past, a.all, a.same))

-- another member sits in a place
pub seated : (shape : Shape) (seats : List Seat) (members : List Member) → AreSeats shape seats members → (me : ℕ) (seat : Seat) (m next : Member)
    → slice_get members me ≡ Some m → Sits shape me seat next → AreSeats shape (slice_set seats me seat) (slice_set members me next)
seated shape seats members a me seat m next here sits = record {
  all = length-set seats me seat ∙ a.all;
  same = length-set members me next ∙ a.same;
  sits = λ k s n at_seat at_member. elim (cases_eq k me) [
    | inl is ↦
        let within : me < length seats = omega (arith, slice_get_within members me m here, a.all, a.same) in
        let seat_there = set_here seats me (get_or seats me seat) seat (slice_get-get_or seats me seat within) in
        let its_seat : seat ≡ s = same_Some _ _ (sym seat_there ∙ subst (λ i. slice_get (slice_set seats me seat) i ≡ Some s) is at_seat) in
        let its_member : next ≡ n = same_Some _ _ (sym (set_here members me m next here) ∙ subst (λ i. slice_get (slice_set members me next) i ≡ Some n) is at_member) in
        subst (λ i. Sits shape i s n) (sym is) (subst (λ x. Sits shape me x n) its_seat (subst (λ x. Sits shape me seat x) its_member sits))
    | inr apart ↦ a.sits k s n (sym (set_there seats me k seat apart) ∙ at_seat) (sym (set_there members me k next apart) ∙ at_member)
  ];
}

-- a member that stays sits where it sat
pub stays_put : {X : Type 0} (xs : List X) (i : ℕ) (x : X) → slice_get xs i ≡ Some x → xs ≡ slice_set xs i x
stays_put [] i x e = cc
stays_put (y ∷ xs) zero x e = ap (λ first. first ∷ xs) (same_Some y x e)
stays_put (y ∷ xs) (suc i) x e = ap (λ rest. y ∷ rest) (stays_put xs i x e)

-- ---- members that were never run before

-- so many places, in which members sit that run and have never run before
pub record AreNewborn (shape : Shape) (seats : List Seat) (count : ℕ) : Type 0 where
  pub all : length seats ≡ count
  pub sits : (me : ℕ) (s : Seat) → slice_get seats me ≡ Some s → Sits shape me s newborn

pub nobody_yet : (shape : Shape) → AreNewborn shape [] 0
nobody_yet shape = record { all = refl; sits = λ me s here. absurd cc }

last_or_before : (seats : List Seat) (seat : Seat) (k : ℕ) (s : Seat) → slice_get (seats ++ seat ∷ []) k ≡ Some s → (slice_get seats k ≡ Some s) ⊎ ((k ≡ length seats) × (seat ≡ s))
last_or_before [] seat zero s e = inr (refl, same_Some seat s e)
last_or_before [] seat (suc k) s e = absurd cc
last_or_before (x ∷ seats) seat zero s e = inl e
last_or_before (x ∷ seats) seat (suc k) s e = ⊎_elim (λ before. inl before) (λ last. inr (ap suc last.0, last.1)) (last_or_before seats seat k s e)

pub one_more_born : (shape : Shape) (before after : List Seat) (count : ℕ) → AreNewborn shape before count → IsNewborn shape count before after → AreNewborn shape after (count + 1)
one_more_born shape before after count a b = record {
  all = ap length b.after_is ∙ length-append before (b.seat ∷ []) ∙ ap (λ n. n + 1) a.all;
  sits = λ me s here. ⊎_elim (λ was. a.sits me s was)
      (λ last. subst (λ i. Sits shape i s newborn) (sym (last.0 ∙ a.all)) (subst (λ x. Sits shape count x newborn) last.1 b.sits))
      (last_or_before before b.seat me s (subst (λ l. slice_get l me ≡ Some s) b.after_is here));
}

length-replicate : {X : Type 0} (n : ℕ) (x : X) → length (replicate n x) ≡ n
length-replicate zero x = refl
length-replicate (suc n) x = ap suc (length-replicate n x)

pub newborns_sit : (shape : Shape) (seats : List Seat) → AreNewborn shape seats (members_of shape) → AreSeats shape seats (replicate (members_of shape) newborn)
newborns_sit shape seats a = record {
  all = a.all;
  same = length-replicate (members_of shape) newborn;
  sits = λ me s m at_seat at_member. subst (λ x. Sits shape me s x) (repeated_at (members_of shape) newborn me m at_member).1 (a.sits me s at_seat);
}
