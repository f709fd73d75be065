-- A file is read in one way.
use Rattle.std.proofs.Common.{◌≡◌, ◌⊎◌, inl, inr, ℕ, ◌+◌, ◌^◌, ◌<◌, List, [], ◌∷◌, ◌++◌, length, get_or, take, drop, Result, Ok, refl, sym, ap, ◌∙◌, subst, arith, append_assoc, length-append}
use Rattle.std.specs.Int.{w64, to_be_bytes}
use Rattle.craft_base.specs.Shape.{Shape}
use Rattle.entry_frames.specs.declared.fault.FrameFault.{FrameFault}
use Rattle.entry_frames.specs.Durable.{Durable, born, after}
use Rattle.entry_frames.specs.Formats.{Fits, Taken, spelling, reading, front_of as front_place}
use Rattle.entry_frames.specs.Records.{Record, record_fields}
use Rattle.entry_frames.proofs.Formats.{front_reads_again}
use Rattle.entry_frames.proofs.Numbers.{ok_is}
use Rattle.synced_log.specs.declared.owner.Owner.{Owner}
use Rattle.entry_frames.specs.Bodies.{HaveSpellings}
use Rattle.synced_log.specs.Journal.{header, shape_of, IsGroupOf, AreGroups, open_group, open_groups, after_groups, body_of, front_of, EndsThere, IsJournal, IsNoGate, closed_gate}
use Rattle.synced_log.specs.Laws.{OneOwner, OneJournal, NoFault, OneFault}
use Rattle.synced_log.specs.Walks.{body_fields}
use Rattle.synced_log.proofs.Behind.{only_body}

-- ---- records

-- what was read twice from the same bytes
both_taken : {V : Type 0} (a b : Taken V) (r : Result (Taken V) FrameFault) → r ≡ Ok a → r ≡ Ok b → a ≡ b
both_taken a b r p q = ok_is a b (sym p ∙ q)

first_record : (k : ℕ) (r s : Record) (more others : List ℕ) → Fits (record_fields k) r → Fits (record_fields k) s → spelling (record_fields k) r ++ more ≡ spelling (record_fields k) s ++ others
    → (r ≡ s) × (more ≡ others)
first_record k r s more others fits fits' same =
    let bytes = spelling (record_fields k) r ++ more in
    let t = both_taken (record { value = r; cursor = record { at = length (spelling (record_fields k) r); rest = more } }) (record { value = s; cursor = record { at = length (spelling (record_fields k) s); rest = others } })
    (reading (record_fields k) (front_place bytes)) (front_reads_again (record_fields k) r bytes more fits refl) (front_reads_again (record_fields k) s bytes others fits' same) in
    (ap (λ (x : Taken Record). x.value) t, ap (λ (x : Taken Record). x.cursor.rest) t)

same_records : (k : ℕ) (records others : List Record) → HaveSpellings k records → HaveSpellings k others → body_of k records ≡ body_of k others → records ≡ others
same_records k [] [] h h' same = refl
same_records k [] (s ∷ others) h h' same = absurd cc
same_records k (r ∷ records) [] h h' same = absurd cc
same_records k (r ∷ records) (s ∷ others) h h' same =
    let first = first_record k r s (body_of k records) (body_of k others) h.0 h'.0 same in
    (λ i. first.0 i ∷ same_records k records others h.1 h'.1 first.1 i)

-- ---- groups

same_body : (body other more rest : List ℕ) → length (to_be_bytes w64 (length body) ++ (body ++ more)) < 2 ^ 63
    → to_be_bytes w64 (length body) ++ (body ++ more) ≡ to_be_bytes w64 (length other) ++ (other ++ rest) → (body ≡ other) × (more ≡ rest)
same_body body other more rest room same =
    let bytes = to_be_bytes w64 (length body) ++ (body ++ more) in
    let t = both_taken (record { value = body; cursor = record { at = length (spelling body_fields body); rest = more } }) (record { value = other; cursor = record { at = length (spelling body_fields other); rest = rest } })
    (reading body_fields (front_place bytes)) (only_body bytes body more room refl) (only_body bytes other rest room same) in
    (ap (λ (x : Taken (List ℕ)). x.value) t, ap (λ (x : Taken (List ℕ)). x.cursor.rest) t)

-- how the groups of a file stop
abbrev Stops : Shape → Durable → List ℕ → Type 0
Stops shape d rest = EndsThere rest ⊎ IsNoGate shape d rest

first_group : (body more rest : List ℕ) → (open_group body ++ more) ++ rest ≡ 1 ∷ (to_be_bytes w64 (length body) ++ (body ++ (more ++ rest)))
first_group body more rest =
    let len = to_be_bytes w64 (length body) in
    ap (λ (l : List ℕ). 1 ∷ l) (append_assoc (len ++ body) more rest ∙ append_assoc len body (more ++ rest))

not_stopped : (shape : Shape) (d : Durable) (records : List Record) (tail rest : List ℕ) → IsGroupOf shape d records
    → rest ≡ 1 ∷ (to_be_bytes w64 (length (body_of shape.need records)) ++ (body_of shape.need records ++ tail)) → Stops shape d rest → ⊥
not_stopped shape d records tail rest can is (inl ends) =
    let same : ends.gate ∷ ends.rest ≡ 1 ∷ (to_be_bytes w64 (length (body_of shape.need records)) ++ (body_of shape.need records ++ tail)) = sym ends.is ∙ is in
    ends.closed (ap (λ (l : List ℕ). get_or l 0 0) same)
not_stopped shape d records tail rest can is (inr none) =
    let at_one = subst (IsNoGate shape d) is none in
    at_one.1 records tail (record { is = refl; can = can })

groups_unique : (shape : Shape) (d : Durable) (gs hs : List (List Record)) (r s : List ℕ) → length (open_groups shape.need gs ++ r) < 2 ^ 63 → AreGroups shape d gs → AreGroups shape d hs
    → open_groups shape.need gs ++ r ≡ open_groups shape.need hs ++ s → Stops shape (after_groups d gs) r → Stops shape (after_groups d hs) s → (gs ≡ hs) × (r ≡ s)
groups_unique shape d [] [] r s room are are' same stops stops' = (refl, same)
groups_unique shape d [] (h ∷ hs) r s room are are' same stops stops' =
    absurd (not_stopped shape d h (open_groups shape.need hs ++ s) r are'.0 (same ∙ first_group (body_of shape.need h) (open_groups shape.need hs) s) stops)
groups_unique shape d (g ∷ gs) [] r s room are are' same stops stops' =
    absurd (not_stopped shape d g (open_groups shape.need gs ++ r) s are.0 (sym same ∙ first_group (body_of shape.need g) (open_groups shape.need gs) r) stops')
groups_unique shape d (g ∷ gs) (h ∷ hs) r s room are are' same stops stops' =
    let body = body_of shape.need g in
    let other = body_of shape.need h in
    let more = open_groups shape.need gs ++ r in
    let rest = open_groups shape.need hs ++ s in
    let split = first_group body (open_groups shape.need gs) r in
    let tails : to_be_bytes w64 (length body) ++ (body ++ more) ≡ to_be_bytes w64 (length other) ++ (other ++ rest)
    = ap (drop 1) (sym split ∙ same ∙ first_group other (open_groups shape.need hs) s) in
    let long : length (open_groups shape.need (g ∷ gs) ++ r) ≡ 1 + length (to_be_bytes w64 (length body) ++ (body ++ more)) = omega (arith, ap length split) in
    let size = length-append (to_be_bytes w64 (length body)) (body ++ more) in
    let first = same_body body other more rest (omega (arith, room, long)) tails in
    let records : g ≡ h = same_records shape.need g h are.0.spelled are'.0.spelled first.0 in
    let others = groups_unique shape (after d g) gs hs r s (omega (arith, room, long, size, length-append body more)) are.1
    (subst (λ x. AreGroups shape (after d x) hs) (sym records) are'.1) first.1 stops (subst (λ x. Stops shape (after_groups (after d x) hs) s) (sym records) stops') in
    (λ i. records i ∷ others.0 i, others.1)

not_both : (shape : Shape) (d : Durable) (rest : List ℕ) → EndsThere rest → IsNoGate shape d rest → ⊥
not_both shape d rest ends none = ends.closed (subst (IsNoGate shape d) ends.is none).0

-- ---- owners

same_owner : (o p : Owner) → header o ≡ header p → o ≡ p
same_owner o p same =
    let f : o.f ≡ p.f = ap (λ (l : List ℕ). get_or l 9 0) same in
    let k : o.k ≡ p.k = ap (λ (l : List ℕ). get_or l 10 0) same in
    let me : o.me ≡ p.me = ap (λ (l : List ℕ). get_or l 11 0) same in
    λ i. record { f = f i; k = k i; me = me i }

pub one_owner : OneOwner
one_owner bytes o p a b = same_owner o p (sym a.is ∙ b.is)

-- the header and what is behind it
header_is : (bytes : List ℕ) (o : Owner) (groups : List (List Record)) (rest : List ℕ) → bytes ≡ front_of o groups ++ rest → take 32 bytes ≡ header o
header_is bytes o groups rest is = ap (take 32) is

behind : (bytes : List ℕ) (o : Owner) (groups : List (List Record)) (rest : List ℕ) → bytes ≡ front_of o groups ++ rest → drop 32 bytes ≡ open_groups o.k groups ++ rest
behind bytes o groups rest is = ap (drop 32) is

room_behind : (bytes : List ℕ) (o : Owner) (groups : List (List Record)) (rest : List ℕ) → length bytes < 2 ^ 63 → bytes ≡ front_of o groups ++ rest → length (open_groups o.k groups ++ rest) < 2 ^ 63
room_behind bytes o groups rest room is = omega (arith, room, ap length is, length-append (front_of o groups) rest, length-append (header o) (open_groups o.k groups), length-append (open_groups o.k groups) rest)

-- ---- the laws

pub one_journal : OneJournal
one_journal bytes o p groups others room a b =
    let owner : o ≡ p = same_owner o p (sym (header_is bytes o groups a.rest a.is) ∙ header_is bytes p others b.rest b.is) in
    let b' = subst (λ (w : Owner). IsJournal bytes w others) (sym owner) b in
    let both = groups_unique (shape_of o) born groups others a.rest b'.rest (room_behind bytes o groups a.rest room a.is) a.groups_are b'.groups_are
    (sym (behind bytes o groups a.rest a.is) ∙ behind bytes o others b'.rest b'.is) (inl a.ends) (inl b'.ends) in
    (owner, both.0)

pub no_fault : NoFault
no_fault bytes o groups offset room a (inl none) = none.1 o (record { owner = a.owner; is = header_is bytes o groups a.rest a.is })
no_fault bytes o groups offset room a (inr (others, b, at)) =
    let both = groups_unique (shape_of o) born groups others a.rest b.rest (room_behind bytes o groups a.rest room a.is) a.groups_are b.groups_are
    (sym (behind bytes o groups a.rest a.is) ∙ behind bytes o others b.rest b.is) (inl a.ends) (inr b.fault) in
    not_both (shape_of o) (after_groups born others) b.rest (subst EndsThere both.1 a.ends) b.fault

pub one_fault : OneFault
one_fault bytes o offset other room owner (inl a) (inl b) = a.0 ∙ sym b.0
one_fault bytes o offset other room owner (inl a) (inr (hs, b, at)) = absurd (a.1 o (record { owner = owner; is = header_is bytes o hs b.rest b.is }))
one_fault bytes o offset other room owner (inr (gs, a, at)) (inl b) = absurd (b.1 o (record { owner = owner; is = header_is bytes o gs a.rest a.is }))
one_fault bytes o offset other room owner (inr (gs, a, at)) (inr (hs, b, at')) =
    let both = groups_unique (shape_of o) born gs hs a.rest b.rest (room_behind bytes o gs a.rest room a.is) a.groups_are b.groups_are
    (sym (behind bytes o gs a.rest a.is) ∙ behind bytes o hs b.rest b.is) (inr a.fault) (inr b.fault) in
    at ∙ ap (λ (x : List (List Record)). closed_gate o x) both.0 ∙ sym at'
