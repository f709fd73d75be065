-- The group behind an open gate.
use Rattle.std.proofs.Common.{◌≡◌, ℕ, ◌+◌, ◌-◌, ◌^◌, ◌<◌, ◌&&◌, true, List, [], ◌∷◌, ◌++◌, length, take, drop, Result, Ok, refl, sym, ap, ◌∙◌, subst, arith, append_assoc}
use Rattle.std.specs.Int.{w64, to_be_bytes}
use Rattle.std.specs.Prelude.{nat_le}
use Rattle.std.proofs.lemmas.Bool.Decides.{nat_tests}
use Rattle.std.proofs.lemmas.List.{append-nil, length-append, take_at, drop_at}
use Rattle.craft_base.specs.Shape.{Shape}
use Rattle.entry_frames.specs.Durable.{Durable}
use Rattle.entry_frames.specs.Formats.{AreBytes, Fits, Taken, spelling, reading, front_of}
use Rattle.entry_frames.specs.declared.fault.FrameFault.{FrameFault}
use Rattle.entry_frames.specs.Records.{Record, record_spellings}
use Rattle.entry_frames.proofs.Formats.{Faithful, front_reads_again, spelled_at_front}
use Rattle.entry_frames.proofs.Numbers.{ok_is}
use Rattle.entry_frames.specs.Bodies.{HaveSpellings, SpellsAll}
use Rattle.synced_log.specs.Journal.{StandsBehind, body_of}
use Rattle.synced_log.specs.Outlines.{Outline}
use Rattle.synced_log.specs.Walks.{body_fields, AppliesRecords, AppliesGroup}

fits_body : (body : List ℕ) → length body < 2 ^ 64 → Fits body_fields body
fits_body body lt = ((lt, in_range (length body) lt), (refl, refl))
  where
    in_range : (n : ℕ) → n < 2 ^ 64 → (nat_le 0 n && nat_le n (2 ^ 64 - 1)) ≡ true
    in_range n lt = grind (arith, nat_tests)

-- what a body and its length are spelled as
spelled_body : (body rest : List ℕ) → spelling body_fields body ++ rest ≡ to_be_bytes w64 (length body) ++ (body ++ rest)
spelled_body body rest =
    append_assoc (to_be_bytes w64 (length body)) (body ++ []) rest ∙ ap (λ (l : List ℕ). to_be_bytes w64 (length body) ++ (l ++ rest)) (append-nil body)

abbrev pub the_body : (body rest : List ℕ) → Result (Taken (List ℕ)) FrameFault
the_body body rest = Ok (record { value = body; cursor = record { at = length (spelling body_fields body); rest = rest } })

-- the only body that bytes can begin with is the one that is read
pub only_body : (bytes body rest : List ℕ) → length bytes < 2 ^ 63 → bytes ≡ to_be_bytes w64 (length body) ++ (body ++ rest) → reading body_fields (front_of bytes) ≡ the_body body rest
only_body bytes body rest room is =
    let size = ap length is in
    let whole = length-append (to_be_bytes w64 (length body)) (body ++ rest) in
    let lt : length body < 2 ^ 64 = omega (arith, size, whole, length-append body rest, room) in
    front_reads_again body_fields body bytes rest (fits_body body lt) (is ∙ sym (spelled_body body rest))

value_of_read : (a b : Taken (List ℕ)) (r : Result (Taken (List ℕ)) FrameFault) → r ≡ Ok a → r ≡ Ok b → a.value ≡ b.value
value_of_read a b r p q = ap (λ (t : Taken (List ℕ)). t.value) (ok_is a b (sym p ∙ q))

body_faithful : Faithful body_fields (λ v. Unit {0})
body_faithful = λ n fits counts bytes len. ((tt, len), refl)

-- what was read is spelled so
pub body_spelled : (bytes body : List ℕ) → AreBytes bytes → reading body_fields (front_of bytes) ≡ Ok (record { value = body; cursor = record { at = 8 + length body; rest = drop (8 + length body) bytes } })
    → bytes ≡ spelling body_fields body ++ drop (8 + length body) bytes
body_spelled bytes body are read = (spelled_at_front body_fields bytes (λ (b : List ℕ). b) (λ b. 8 + length b) (Ok body) body_faithful are read).1

abbrev pub NoneBehind : Shape → Durable → List ℕ → Type 0
NoneBehind shape d bytes = (records : List Record) (rest : List ℕ) → StandsBehind shape d bytes records rest → ⊥

no_bytes : (k : ℕ) (records : List Record) → [] ≡ body_of k records → HaveSpellings k records → records ≡ []
no_bytes k [] e h = refl
no_bytes k (r ∷ records) e h = absurd cc

module _ (shape : Shape) (d : Durable) (bytes body : List ℕ) (at : ℕ) (tail : List ℕ) (room : length bytes < 2 ^ 63)
    (read : reading body_fields (front_of bytes) ≡ Ok (record { value = body; cursor = record { at = at; rest = tail } })) where
  same_body : (records : List Record) (rest : List ℕ) → StandsBehind shape d bytes records rest → body ≡ body_of shape.need records
  same_body records rest stands =
      value_of_read (record { value = body; cursor = record { at = at; rest = tail } })
      (record { value = body_of shape.need records; cursor = record { at = length (spelling body_fields (body_of shape.need records)); rest = rest } })
      (reading body_fields (front_of bytes)) read (only_body bytes (body_of shape.need records) rest room stands.is)

  pub empty_body : body ≡ [] → NoneBehind shape d bytes
  empty_body none records rest stands = stands.can.some (no_bytes shape.need records (sym none ∙ same_body records rest stands) stands.can.spelled)

  pub no_records : ((records : List Record) → SpellsAll shape d body records → ⊥) → NoneBehind shape d bytes
  no_records none records rest stands = none records (record { spelled = stands.can.spelled; applies = stands.can.applies; is = same_body records rest stands })

pub group_applied : (shape : Shape) (d : Durable) (bytes body : List ℕ) (new : Outline) → 0 < length body → bytes ≡ spelling body_fields body ++ drop (8 + length body) bytes
    → AppliesRecords shape d body new → AppliesGroup shape d bytes (length body) new
group_applied shape d bytes body new some is t =
    let split : bytes ≡ to_be_bytes w64 (length body) ++ (body ++ drop (8 + length body) bytes) = is ∙ spelled_body body (drop (8 + length body) bytes) in
    let size : length bytes ≡ 8 + (length body + length (drop (8 + length body) bytes)) = omega (arith, ap length split, length-append (to_be_bytes w64 (length body)) (body ++ drop (8 + length body) bytes), length-append body (drop (8 + length body) bytes)) in
    record {
      records = t.records;
      stands = record {
        is = subst (λ (b : List ℕ). bytes ≡ to_be_bytes w64 (length b) ++ (b ++ drop (8 + length body) bytes)) t.spells.is split;
        can = record { some = λ none. not_none none; spelled = t.spells.spelled; applies = t.spells.applies };
      };
      size = ap length t.spells.is;
      body = sym t.spells.is ∙ sym (take_at body (drop (8 + length body) bytes) (length body) refl)
          ∙ ap (take (length body)) (sym (ap (drop 8) split ∙ drop_at (to_be_bytes w64 (length body)) (body ++ drop (8 + length body) bytes) 8 refl));
      within = omega (arith, size);
      leaves = t.leaves;
    }
  where
    not_none : t.records ≡ [] → ⊥
    not_none none = absurd (omega (arith, some, ap length (t.spells.is ∙ ap (record_spellings shape.need) none)))
