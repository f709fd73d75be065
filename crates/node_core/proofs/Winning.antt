-- A candidate that has won decides nothing before it was shown anything.
use Rattle.std.proofs.Common.{◌≡◌, ℕ, suc, zero, ◌≤◌, ◌==◌, nat_lt, Bool, true, false, cond, List, [], ◌∷◌, length, None, refl, ap, arith}
use Rattle.std.specs.List.{count_by, range_with_len}
use Rattle.std.specs.Prelude.{◌||◌}
use Rattle.std.proofs.lemmas.Bool.{eqb-true, leb-true, ne_eqb}
use Rattle.commit_rules.proofs.Rows.{count_more}
use Rattle.craft_base.specs.Knowledge.{members}
use Rattle.craft_base.specs.Shape.{Shape, IsShape, majority_of, members_of}
use Rattle.entry_frames.specs.Limits.{last_place}
use Rattle.entry_frames.specs.Records.{Add, Record}
use Rattle.entry_frames.specs.declared.role.Role.{Role}
use Rattle.leader_prep.specs.Decisions.{OpenPart, decided, decision_at, open_parts, verdict_at}
use Rattle.leader_prep.specs.Pages.{Page}
use Rattle.leader_prep.specs.Verdicts as verdicts
use Rattle.leader_prep.specs.Verdicts.{Verdict, is_covered, usable_form, verdict_of_forms}
use Rattle.world_model.specs.Nodes.{Node}
use Rattle.world_model.specs.Rules.Acts.{followed_by, keeping, recording, recording_all, sending, stays}
use Rattle.world_model.specs.Rules.Prepare.{act_of_first, act_of_leading, act_of_winning, cursor_at, decided_records, leading, noop, preparing}
use Rattle.world_model.specs.Rules.Say.{appends_to_others}

-- ---- who covers an index before any page

module _ (me : ℕ) where
  abbrev is_me : ℕ → Bool
  is_me member = (member == me) || false

  other : (member : ℕ) → (member == me) ≡ false → is_me member ≡ false
  other member is = ap (λ (b : Bool). b || false) is

  none_below : (n : ℕ) → n ≤ me → count_by is_me (range_with_len 0 n) ≡ 0
  none_below zero le = refl
  none_below (suc n) le =
      let none : cond {A = ℕ} (is_me n) 1 0 ≡ 0 = ap (λ (b : Bool). cond {A = ℕ} b 1 0) (other n (ne_eqb n me (λ same. omega (arith, le, same)))) in
      omega (arith, count_more is_me 0 n n (omega arith), none_below n (omega (arith, le)), none)

  one_more : (n : ℕ) → count_by is_me (range_with_len 0 n) ≤ 1 → (b : Bool) → (n == me) ≡ b → count_by is_me (range_with_len 0 (suc n)) ≤ 1
  one_more n before true is =
      let none : count_by is_me (range_with_len 0 n) ≡ 0 = none_below n (omega (arith, eqb-true n me is)) in
      let one : cond {A = ℕ} (is_me n) 1 0 ≡ 1 = ap (λ (b : Bool). cond {A = ℕ} (b || false) 1 0) is in
      omega (arith, count_more is_me 0 n n (omega arith), none, one)
  one_more n before false is =
      let none : cond {A = ℕ} (is_me n) 1 0 ≡ 0 = ap (λ (b : Bool). cond {A = ℕ} (b || false) 1 0) is in
      omega (arith, count_more is_me 0 n n (omega arith), none, before)

  one_at_most : (n : ℕ) → count_by is_me (range_with_len 0 n) ≤ 1
  one_at_most zero = omega arith
  one_at_most (suc n) = one_more n (one_at_most n) (n == me) refl

few_cover : (shape : Shape) (me : ℕ) → IsShape shape → is_covered shape me (λ member. false) ≡ false
few_cover shape me is = one (is_covered shape me (λ member. false)) refl where
  one : (b : Bool) → is_covered shape me (λ member. false) ≡ b → b ≡ false
  one false covered = refl
  one true covered =
      absurd (omega (arith, is.0, one_at_most me (members_of shape), leb-true (majority_of shape) (count_by (is_me me) (members shape)) covered))

-- ---- nothing is decided

module _ (shape : Shape) (me : ℕ) (is : IsShape shape) where
  waits : (part : OpenPart) → verdict_at shape me [] part ≡ verdicts.Wait
  waits part = ap (λ (b : Bool). cond b (verdict_of_forms shape part.entry (usable_form me part.entry (λ member. None))) verdicts.Wait) (few_cover shape me is)

  nothing : (parts : List OpenPart) → decided_records (decided (verdict_at shape me []) parts) ≡ []
  nothing [] = refl
  nothing (part ∷ parts) = ap (λ (v : Verdict). decided_records (decision_at part.index v (decided (verdict_at shape me []) parts))) (waits part)

-- so it leads, or asks
pub winning_is : (n : Node) → IsShape n.shape → act_of_winning n ≡ act_of_first (cursor_at n) (record n { volatile = preparing n })
winning_is n is =
    let now : Node = record n { volatile = preparing n } in
    ap (λ (records : List Record). followed_by (recording_all records (stays now)) (λ decided. act_of_first (cursor_at decided) decided))
    (nothing n.shape n.me is (open_parts n.durable.commit n.durable.log))

-- ---- who leads is the same, whatever it was before

module _ (n : Node) (role : Role) (pages : List Page) where
  abbrev before : Node
  before = record n { volatile = record n.volatile { role = role; pages = pages } }

  begins : (room : Bool) → keeping (leading n) (cond room (recording (Add (noop n.durable.term)) (stays before)) (stays before))
      ≡ keeping (leading n) (cond room (recording (Add (noop n.durable.term)) (stays n)) (stays n))
  begins true = refl
  begins false = refl

  pub leading_is : act_of_leading before ≡ act_of_leading n
  leading_is = ap (λ act. sending (appends_to_others act.node) act) (begins (nat_lt (length n.durable.log) last_place))
