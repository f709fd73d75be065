-- Where the groups of a file lie.
use Rattle.std.proofs.Common.{◌≡◌, ℕ, zero, suc, ◌+◌, ◌<◌, ◌≤◌, List, [], ◌∷◌, length, get_or, refl, sym, ap, ◌∙◌, subst, arith}
use Rattle.std.specs.Prelude.{Some, slice_get}
use Rattle.synced_log.specs.declared.span.GroupSpan.{GroupSpan}
use Rattle.synced_log.specs.Walks.{placed_in, all_placed, AllInside}

pub length-all_placed : (file : List ℕ) (spans : List GroupSpan) → length (all_placed file spans) ≡ length spans
length-all_placed file [] = refl
length-all_placed file (p ∷ spans) = omega (arith, length-all_placed file spans)

pub placed_at : (file : List ℕ) (spans : List GroupSpan) (n : ℕ) (d : GroupSpan) → n < length spans → slice_get (all_placed file spans) n ≡ Some (placed_in file (get_or spans n d))
placed_at file [] n d lt = absurd (omega arith)
placed_at file (q ∷ spans) zero d lt = refl
placed_at file (q ∷ spans) (suc n) d lt = placed_at file spans n d (omega arith)

pub inside_at : (file : List ℕ) (spans : List GroupSpan) (n : ℕ) (d : GroupSpan) → AllInside file spans → n < length spans → (get_or spans n d).gate + 9 + (get_or spans n d).len ≤ length file
inside_at file [] n d all lt = absurd (omega arith)
inside_at file (q ∷ spans) zero d all lt = all.0
inside_at file (q ∷ spans) (suc n) d all lt = inside_at file spans n d all.1 (omega arith)

-- the same of an element that was read
pub placed_of : (file : List ℕ) (spans : List GroupSpan) (n : ℕ) (p : GroupSpan) → n < length spans → p ≡ get_or spans n p → slice_get (all_placed file spans) n ≡ Some (placed_in file p)
placed_of file spans n p lt is = placed_at file spans n p lt ∙ ap (λ (q : GroupSpan). Some (placed_in file q)) (sym is)

pub inside_of : (file : List ℕ) (spans : List GroupSpan) (n : ℕ) (p : GroupSpan) → AllInside file spans → n < length spans → p ≡ get_or spans n p → p.gate + 9 + p.len ≤ length file
inside_of file spans n p all lt is = subst (λ (q : GroupSpan). q.gate + 9 + q.len ≤ length file) (sym is) (inside_at file spans n p all lt)
