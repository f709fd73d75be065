-- Records of a message, made one after the other.
use Rattle.std.proofs.Common.{◌≡◌, ℕ, zero, suc, ◌<◌, List, [], ◌∷◌, ◌++◌, length, None, Some, refl, ap, sym, subst, ◌∙◌, arith}
use Rattle.std.specs.Prelude.{slice_get}
use Rattle.std.proofs.lemmas.Option.{none-some}
use Rattle.entry_frames.specs.Bodies.{HaveSpellings}
use Rattle.entry_frames.specs.Durable.{Durable, CanApply, CanApplyAll, applied}
use Rattle.entry_frames.specs.Durable as durable
use Rattle.entry_frames.specs.Records.{Record}
use Rattle.craft_base.specs.Shape.{Shape}
use Rattle.world_model.proofs.Recorded.{after-append}
use Rattle.node_core.specs.declared.act.Act.{Act}
use Rattle.node_core.specs.declared.member.Member.{Member}
use Rattle.node_core.specs.Acting.{MayRecord, Recorded}
use Rattle.node_core.proofs.Acting.{recorded_after, stays_acted}

-- ---- what may be recorded

pub can_front : (shape : Shape) (d : Durable) (records more : List Record) → CanApplyAll shape d (records ++ more) → CanApplyAll shape d records
can_front shape d [] more can = tt
can_front shape d (r ∷ records) more can = (can.0, can_front shape (applied d r) records more can.1)

can_rest : (shape : Shape) (d : Durable) (records more : List Record) → CanApplyAll shape d (records ++ more) → CanApplyAll shape (durable.after d records) more
can_rest shape d [] more can = can
can_rest shape d (r ∷ records) more can = can_rest shape (applied d r) records more can.1

pub spelled_front : (k : ℕ) (records more : List Record) → HaveSpellings k (records ++ more) → HaveSpellings k records
spelled_front k [] more have = tt
spelled_front k (r ∷ records) more have = (have.0, spelled_front k records more have.1)

spelled_rest : (k : ℕ) (records more : List Record) → HaveSpellings k (records ++ more) → HaveSpellings k more
spelled_rest k [] more have = have
spelled_rest k (r ∷ records) more have = spelled_rest k records more have.1

-- the first of some records
pub may_front : (m : Member) (records more : List Record) → MayRecord m (records ++ more) → MayRecord m records
may_front m records more may = record {
  apply = can_front m.store.shape m.store.kept records more may.apply;
  written = spelled_front m.store.shape.need records more may.written;
}

-- those behind the ones that were made
pub may_rest : (records more : List Record) (before after : Act) → MayRecord before.member (records ++ more) → Recorded records before after → MayRecord after.member more
may_rest records more before after may made = record {
  apply =
      subst (λ s. CanApplyAll s after.member.store.kept more) (sym made.shape)
      (subst (λ d. CanApplyAll before.member.store.shape d more) (sym made.kept) (can_rest before.member.store.shape before.member.store.kept records more may.apply));
  written = subst (λ s. HaveSpellings s.need more) (sym made.shape) (spelled_rest before.member.store.shape.need records more may.written);
}

-- ---- what was recorded

pub none_recorded : (act : Act) → Recorded [] act act
none_recorded act = record { acts = λ n is. stays_acted act n is; kept = refl; shape = refl; role = refl; gather = refl }

pub both_recorded :
    (records more : List Record) (before between after : Act) → Recorded records before between → Recorded more between after → Recorded (records ++ more) before after
both_recorded records more before between after first second = record {
  acts = λ n is. let one = first.acts n is in recorded_after n records more before between after one (second.acts _ one.node);
  kept = second.kept ∙ ap (λ d. durable.after d more) first.kept ∙ sym (after-append before.member.store.kept records more);
  shape = second.shape ∙ first.shape;
  role = second.role ∙ first.role;
  gather = second.gather ∙ first.gather;
}

-- ---- places of lists

pub there_is : {A : Type 0} (xs : List A) (place : ℕ) → place < length xs → (x : A) × (slice_get xs place ≡ Some x)
there_is [] place within = absurd (omega (arith, within))
there_is (x ∷ xs) zero within = (x, refl)
there_is (x ∷ xs) (suc place) within = there_is xs place (omega (arith, within))

pub never_none : {A : Type 0} (xs : List A) (place : ℕ) → place < length xs → slice_get xs place ≡ None → ⊥
never_none xs place within none = let there = there_is xs place within in none-some there.0 (sym none ∙ there.1)
