-- The versions that are told are indexes.
use Rattle.std.proofs.Common.{◌≡◌, ℕ, ◌+◌, ◌≤◌, List, [], ◌∷◌, Bool, true, false, length, Option, None, Some, subst, inl, inr, arith}
use Rattle.std.specs.Prelude.{◌&&◌, ◌==◌, nat_lt, bytes_eq, if◌then◌else◌}
use Rattle.std.proofs.lemmas.Bool.{cases_Bool, eqb-false}
use Rattle.craft_base.specs.declared.command.Head.{Head}
use Rattle.craft_base.specs.declared.command.Op.{Op}
use Rattle.craft_base.specs.declared.command.Op.TheVariants as ops
use Rattle.kv_apply.specs.Commands.{answer, answer_by, is_asked, is_effective, is_of, is_write, kept_by, kept_of, last_of, outcome, outcome_of, version, version_left}
use Rattle.kv_apply.specs.Laws.{TellsIndexes}
use Rattle.kv_apply.specs.declared.outcome.Kept.{Kept}
use Rattle.kv_apply.specs.declared.outcome.Kept.TheVariants as keeps
use Rattle.kv_apply.specs.declared.outcome.Last.{Last}
use Rattle.kv_apply.specs.declared.outcome.Outcome.{Outcome}
use Rattle.kv_apply.specs.declared.outcome.Outcome.TheVariants.{Done, Differs, Gone, Found, Nothing, Old}

-- ---- versions

left_within : (op : Op) (index : ℕ) → version_left op index ≤ index
left_within ops.Noop index = omega arith
left_within ops.Put index = omega arith
left_within (ops.PutIf expected) index = omega arith
left_within ops.Del index = omega arith
left_within ops.Get index = omega arith

either_within : (test : Bool) (x y n : ℕ) → x ≤ n + 1 → y ≤ n → (if test then x else y) ≤ n + 1
either_within true x y n left earlier = left
either_within false x y n left earlier = omega (arith, earlier)

pub version_within : (key : List ℕ) (heads : List Head) → version key heads ≤ length heads
version_within key [] = omega arith
version_within key (h ∷ earlier) =
    omega (
      arith,
      either_within (is_effective h earlier && (bytes_eq h.key key && is_write h.op (version key earlier))) (version_left h.op (length earlier + 1)) (version key earlier)
          (length earlier) (left_within h.op (length earlier + 1)) (version_within key earlier),
    )

-- ---- outcomes

outcome_within : (op : Op) (n before : ℕ) → before ≤ n → TellsIndexes (n + 1) (outcome_of op (n + 1) before)
outcome_within ops.Noop n before within = record {}
outcome_within ops.Put n before within = (omega arith, omega arith)
outcome_within (ops.PutIf expected) n before within = elim (cases_Bool (before == expected)) [
  | inl same ↦ rw same (omega arith, omega arith)
  | inr differ ↦ rw differ (omega (arith, within))
]
outcome_within ops.Del n before within = record {}
outcome_within ops.Get n before within = elim (cases_Bool (before == 0)) [
  | inl absent ↦ rw absent record {}
  | inr there ↦ rw there (omega (arith, eqb-false before 0 there), omega (arith, within))
]

further : (n m : ℕ) (o : Outcome) → n ≤ m → TellsIndexes n o → TellsIndexes m o
further n m (Done version) more tells = (tells.0, omega (arith, more, tells.1))
further n m (Differs version) more tells = omega (arith, more, tells)
further n m (Gone was_there) more tells = record {}
further n m (Found version) more tells = (tells.0, omega (arith, more, tells.1))
further n m Nothing more tells = record {}
further n m Old more tells = record {}

-- ---- what is kept

abbrev LastWithin : ℕ → Option Last → Type 0
LastWithin n None = Unit {0}
LastWithin n (Some last) = TellsIndexes n last.outcome

last_with : (test : Bool) (number n : ℕ) (o : Outcome) (last : Option Last) → TellsIndexes (n + 1) o → LastWithin n last
    → LastWithin (n + 1) (if test then Some (record { number = number; outcome = o }) else last)
last_with true number n o last new was = new
last_with false number n o None new was = record {}
last_with false number n o (Some last) new was = further n (n + 1) last.outcome (omega arith) was

last_within : (client : ℕ) (heads : List Head) → LastWithin (length heads) (last_of client heads)
last_within client [] = record {}
last_within client (h ∷ earlier) =
    let next : length earlier + 1 ≡ length (h ∷ earlier) = omega arith in
    subst (λ (n : ℕ). LastWithin n (last_of client (h ∷ earlier))) next
    (last_with (is_of client h && is_effective h earlier) h.seq (length earlier) (outcome h earlier) (last_of client earlier)
    (outcome_within h.op (length earlier) (version h.key earlier) (version_within h.key earlier)) (last_within client earlier))

abbrev KeptWithin : ℕ → Kept → Type 0
KeptWithin n keeps.New = Unit {0}
KeptWithin n (keeps.Same o) = TellsIndexes n o
KeptWithin n keeps.Old = Unit {0}

by_last : (seq n : ℕ) (last : Option Last) → LastWithin n last → KeptWithin n (kept_by seq last)
by_last seq n None within = record {}
by_last seq n (Some last) within = split (nat_lt last.number seq) (nat_lt seq last.number) where
  split : (above below : Bool) → KeptWithin n (if above then keeps.New else (if below then keeps.Old else keeps.Same last.outcome))
  split true below = record {}
  split false true = record {}
  split false false = within

kept_within : (client seq : ℕ) (heads : List Head) → KeptWithin (length heads) (kept_of client seq heads)
kept_within client seq heads = by_last seq (length heads) (last_of client heads) (last_within client heads)

pub same_within : (client seq : ℕ) (heads : List Head) (o : Outcome) → kept_of client seq heads ≡ keeps.Same o → TellsIndexes (length heads) o
same_within client seq heads o same = subst (KeptWithin (length heads)) same (kept_within client seq heads)

-- ---- what is answered

by_kept : (n : ℕ) (kept : Kept) (fresh : Outcome) → KeptWithin n kept → TellsIndexes (n + 1) fresh → TellsIndexes (n + 1) (answer_by kept fresh)
by_kept n keeps.New fresh was new = new
by_kept n (keeps.Same o) fresh was new = further n (n + 1) o (omega arith) was
by_kept n keeps.Old fresh was new = record {}

if_asked : (test : Bool) (n : ℕ) (o : Outcome) → TellsIndexes n o → TellsIndexes n (if test then o else Nothing)
if_asked true n o tells = tells
if_asked false n o tells = record {}

pub answer_within : (h : Head) (earlier : List Head) → TellsIndexes (length earlier + 1) (answer h earlier)
answer_within h earlier =
    if_asked (is_asked h) (length earlier + 1) _
    (by_kept (length earlier) (kept_of h.client h.seq earlier) (outcome h earlier) (kept_within h.client h.seq earlier)
    (outcome_within h.op (length earlier) (version h.key earlier) (version_within h.key earlier)))
