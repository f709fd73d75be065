-- The state of the member that is committed furthest: it is some member's, or none is committed at all, and none is further.
use Rattle.std.proofs.Common.{◌≡◌, ℕ, zero, suc, ◌<◌, ◌≤◌, nat_lt, List, [], ◌∷◌, length, Some, slice_get, refl, subst, arith, le_refl, le_trans}
use Rattle.std.proofs.lemmas.Bool.{cond_both, ltb-true, ltb-false}
use Rattle.std.proofs.lemmas.Option.{same_Some}
use Rattle.craft_base.specs.Shape.{Shape, members_of}
use Rattle.entry_frames.specs.Durable.{Durable, born}
use Rattle.world_model.specs.Safety.{further, furthest}
use Rattle.world_model.specs.World.{Member, World}
use Rattle.protocol.specs.History as protocol
use Rattle.protocol.specs.Laws.{IsDecidedFront}
use Rattle.protocol.specs.Moves.{Moves, Reached}
use Rattle.protocol.proofs.Fronts.{commits_are_decided, commits_grow}
use Rattle.protocol.proofs.Logs.{agree_none}
use Rattle.bridge.specs.Agreement.{WorldAgrees}
use Rattle.bridge.specs.Traced.{AllStand, Holder, holder}
use Rattle.bridge.specs.Views.{log_seen}
use Rattle.bridge.proofs.Views.{length_seen}

-- there is something at each position of a list
pub at_position : {X : Type 0} (xs : List X) (i : ℕ) → i < length xs → (x : X) × (slice_get xs i ≡ Some x)
at_position [] i lt = absurd (omega (arith, lt))
at_position (x ∷ xs) zero lt = (x, refl)
at_position (x ∷ xs) (suc i) lt = at_position xs i (omega (arith, lt))

-- ---- the furthest of some states

further_first : (one other : Durable) → one.commit ≤ (further one other).commit
further_first one other =
    cond_both (nat_lt one.commit other.commit) other one (λ d. one.commit ≤ d.commit) (λ less. let lt = ltb-true _ _ less in omega (arith, lt)) (λ no. le_refl _)

further_second : (one other : Durable) → other.commit ≤ (further one other).commit
further_second one other =
    cond_both (nat_lt one.commit other.commit) other one (λ d. other.commit ≤ d.commit) (λ less. le_refl _) (λ no. ltb-false _ _ no)

further_is : (P : Durable → Type 0) (one other : Durable) → P one → P other → P (further one other)
further_is P one other p q = cond_both (nat_lt one.commit other.commit) other one P (λ less. q) (λ no. p)

furthest_first : (d : Durable) (members : List Member) → d.commit ≤ (furthest d members).commit
furthest_first d [] = le_refl _
furthest_first d (m ∷ members) = le_trans (further_first d m.durable) (furthest_first (further d m.durable) members)

pub furthest_each :
    (d : Durable) (members : List Member) (k : ℕ) (m : Member) → slice_get members k ≡ Some m → m.durable.commit ≤ (furthest d members).commit
furthest_each d [] k m e = cc
furthest_each d (first ∷ members) zero m e =
    le_trans (subst (λ it. it.durable.commit ≤ (further d first.durable).commit) (same_Some first m e) (further_second d first.durable))
    (furthest_first (further d first.durable) members)
furthest_each d (first ∷ members) (suc k) m e = furthest_each (further d first.durable) members k m e

-- what holds of the first and of each member's state holds of it
furthest_is :
    (P : Durable → Type 0) (d : Durable) (members : List Member) → P d → ((k : ℕ) (m : Member) → slice_get members k ≡ Some m → P m.durable) →
    P (furthest d members)
furthest_is P d [] p each = p
furthest_is P d (m ∷ members) p each =
    furthest_is P (further d m.durable) members (further_is P d m.durable p (each zero m refl)) (λ k it e. each (suc k) it e)

-- ---- in a world that agrees with a history

-- the log up to the commit index was decided, its entries stand in the book, and each later world has a member that is committed as far
pub record IsCommitted (shape : Shape) (h : protocol.History) (w : World) (d : Durable) : Type 0 where
  pub front : IsDecidedFront h (log_seen d.log) d.commit
  pub within : d.commit ≤ length d.log
  pub at : Holder
  pub stand : AllStand at w.book 1 d.log
  pub later :
      (g : protocol.History) (now : World) → Moves shape.faults h g → WorldAgrees shape g now → d.commit ≤ (furthest born now.members).commit

module _ {shape : Shape} {h : protocol.History} {w : World} (reached : Reached shape.faults h) (a : WorldAgrees shape h w) where
  pub member_committed : (k : ℕ) (m : Member) → slice_get w.members k ≡ Some m → IsCommitted shape h w m.durable
  member_committed k m here =
      let node = a.members k m here in
      let decided : IsDecidedFront h (h.log k) (h.commit k) = commits_are_decided shape.faults h reached k in
      let front : IsDecidedFront h (log_seen m.durable.log) m.durable.commit =
      subst (λ log. IsDecidedFront h log m.durable.commit) node.log (subst (λ c. IsDecidedFront h (h.log k) c) node.commit decided) in
      let left : m.durable.commit ≤ length (log_seen m.durable.log) = front.2.left in
      let seen : length (log_seen m.durable.log) ≡ length m.durable.log = length_seen m.durable.log in
      record {
        front = front;
        within = omega (arith, left, seen);
        at = holder shape k;
        stand = a.logs k m here;
        later = λ g now run agrees.
            let member : k < members_of shape = node.within in
            let found = at_position now.members k (omega (arith, member, agrees.many)) in
            let grown : h.commit k ≤ g.commit k = (commits_grow shape.faults h g reached run k).0 in
            let then_commit = (agrees.members k found.0 found.1).commit in
            let most : found.0.durable.commit ≤ (furthest born now.members).commit = furthest_each born now.members k found.0 found.1 in
            omega (arith, grown, then_commit, node.commit, most);
      }

  none_committed : IsCommitted shape h w born
  none_committed = record {
    front = (0, omega arith, agree_none [] (h.led 0));
    within = omega arith;
    at = holder shape 0;
    stand = tt;
    later = λ g now run agrees. omega arith;
  }

  pub furthest_committed : IsCommitted shape h w (furthest born w.members)
  furthest_committed = furthest_is (IsCommitted shape h w) born w.members none_committed member_committed
