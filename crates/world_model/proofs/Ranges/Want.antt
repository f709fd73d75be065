-- Want: what a leader asks for is an index of its log.
use Rattle.std.proofs.Common.{◌≡◌, ℕ, zero, suc, ◌≤◌, nat_le, min, Bool, true, false, List, [], ◌∷◌, filter, if◌then◌else◌, length, Option, None, Some, refl, ap, subst, ◌∙◌, arith}
use Rattle.std.specs.Prelude.{is_some}
use Rattle.std.specs.List.{All}
use Rattle.std.proofs.lemmas.Bool.{leb-true, leb-false}
use Rattle.std.proofs.lemmas.List.Elements.{All-head, All-nil, All-tail, filter_passes}
use Rattle.std.proofs.lemmas.Option.{same_Some, slice_get_within}
use Rattle.craft_base.specs.Knowledge.{least_of}
use Rattle.craft_base.specs.Shape.{Shape, IsShape}
use Rattle.craft_base.specs.declared.command.Entry.{Entry}
use Rattle.entry_frames.specs.Entries.{is_whole}
use Rattle.entry_frames.specs.Logs.{entry_at}
use Rattle.entry_frames.specs.declared.peer.Peer.TheVariants as peers
use Rattle.entry_frames.specs.declared.role.Role.TheVariants.{Leader}
use Rattle.leader_prep.specs.Decisions.{if_part}
use Rattle.world_model.specs.Nodes.{Node, Volatile}
use Rattle.world_model.specs.Ranges.{NodeInRange, PageInRange}
use Rattle.world_model.specs.Rules.Acts.{messages_to_others, stays}
use Rattle.world_model.specs.Rules.Prepare.{act_of_asking_again}
use Rattle.world_model.specs.Rules.Want.{act_of_gathering, act_of_new_want, act_of_want, is_part_at, least, needed, part_at, want_of, wanting}
use Rattle.world_model.proofs.Wanting.{gathering_keeps, want_keeps}
use Rattle.world_model.proofs.Ranges.Acts.{ActInRange, before_in_range, in_volatile, messages_to_others_fit, sending_in_range, stays_in_range}
use Rattle.world_model.proofs.Ranges.Bodies.{ask_fits}
use Rattle.world_model.proofs.Ranges.Knowing.{leader_begun}

-- ---- an entry that is a part

part_is : (e own : Entry) → if_part (Some e) ≡ Some own → (e ≡ own) × (is_whole own.form ≡ false)
part_is e own = one (is_whole e.form) refl where
  one : (whole : Bool) → is_whole e.form ≡ whole → (if whole then None else Some e) ≡ Some own → (e ≡ own) × (is_whole own.form ≡ false)
  one true here is = cc
  one false here is = (same_Some e own is, subst (λ (it : Entry). is_whole it.form ≡ false) (same_Some e own is) here)

-- what is held as a part at an index stands there
pub part_there : (log : List Entry) (index : ℕ) (own : Entry) → part_at log index ≡ Some own → (entry_at log index ≡ Some own) × (is_whole own.form ≡ false)
part_there log index own = of_entry (entry_at log index) refl where
  of_entry : (o : Option Entry) → entry_at log index ≡ o → if_part o ≡ Some own → (entry_at log index ≡ Some own) × (is_whole own.form ≡ false)
  of_entry None here is = cc
  of_entry (Some e) here is =
      let both = part_is e own is in
      (here ∙ ap Some both.0, both.1)

pub entry_within : (log : List Entry) (index : ℕ) (own : Entry) → entry_at log index ≡ Some own → (1 ≤ index) × (index ≤ length log)
entry_within log zero own here = cc
entry_within log (suc place) own here = (omega arith, omega (arith, slice_get_within log place own here))

-- ---- the least

least_between : (P : ℕ → Type 0) (a b : ℕ) → P a → P b → P (min a b)
least_between P a b one other = by_order (nat_le a b) refl where
  by_order : (order : Bool) → nat_le a b ≡ order → P (min a b)
  by_order true e =
      let is : a ≡ min a b = omega (arith, leb-true a b e) in
      subst P is one
  by_order false e =
      let is : b ≡ min a b = omega (arith, leb-false a b e) in
      subst P is other

-- what all have, the least has
pub least_has : (P : ℕ → Type 0) (indexes : List ℕ) (index : ℕ) → All P indexes → least indexes ≡ Some index → P index
least_has P [] index all is = cc
least_has P (first ∷ indexes) index all is =
    by_rest (least indexes) refl is (λ later e. least_has P indexes later (All-tail P first indexes all) e)
  where
    by_rest : (rest : Option ℕ) → least indexes ≡ rest → least_of (Some first) rest ≡ Some index → ((later : ℕ) → least indexes ≡ Some later → P later) → P index
    by_rest None e is rest = subst P (same_Some first index is) (All-head P first indexes all)
    by_rest (Some later) e is rest =
        subst P (same_Some (min first later) index is) (least_between P first later (All-head P first indexes all) (rest later e))

-- ---- the want

-- the node holds what it wants as a part
pub wanted_part : (n : Node) (index : ℕ) → want_of n ≡ Some index → is_part_at n.durable.log index ≡ true
wanted_part n index is =
    least_has (λ at. is_part_at n.durable.log at ≡ true) (filter (is_part_at n.durable.log) (needed n)) index (filter_passes (is_part_at n.durable.log) (needed n)) is

pub part_within : (log : List Entry) (index : ℕ) → is_part_at log index ≡ true → (1 ≤ index) × (index ≤ length log)
part_within log index = of_part (part_at log index) refl where
  of_part : (o : Option Entry) → part_at log index ≡ o → is_some o ≡ true → (1 ≤ index) × (index ≤ length log)
  of_part None here is = cc
  of_part (Some own) here is = entry_within log index own (part_there log index own here).0

-- and so it is an index of the log
pub want_within : (n : Node) (index : ℕ) → want_of n ≡ Some index → (1 ≤ index) × (index ≤ length n.durable.log)
want_within n index is = part_within n.durable.log index (wanted_part n index is)

-- ---- the rule

abbrev IsWithin : (last : ℕ) → Option ℕ → Type 0
IsWithin last None = Unit {0}
IsWithin last (Some index) = (1 ≤ index) × (index ≤ last)

want_is_within : (n : Node) → IsWithin (length n.durable.log) (want_of n)
want_is_within n = by_want (want_of n) refl where
  by_want : (want : Option ℕ) → want_of n ≡ want → IsWithin (length n.durable.log) want
  by_want None e = tt
  by_want (Some index) e = want_within n index e

module _ {shape : Shape} (is : IsShape shape) {member : ℕ} {n : Node} (a : NodeInRange shape member n) (leads : n.volatile.role ≡ Leader) where
  again_in_range : (want : Option ℕ) → IsWithin (length n.durable.log) want → ActInRange shape member n (act_of_asking_again want n)
  again_in_range None within = stays_in_range a
  again_in_range (Some index) within =
      sending_in_range (messages_to_others n (peers.Ask index)) (stays n)
      (messages_to_others_fit is a (leader_begun a leads) (peers.Ask index)
      (ask_fits shape.need n.durable.term index within.0 (omega (arith, within.1, a.durable.short)))) (stays_in_range a)

module _ {shape : Shape} (is : IsShape shape) {member : ℕ} {n : Node} (a : NodeInRange shape member n) where
  new_want_in_range : n.volatile.role ≡ Leader → ActInRange shape member n (act_of_new_want (want_of n) n)
  new_want_in_range leads =
      let v : Volatile = (wanting (want_of n) n).volatile in
      let now : NodeInRange shape member (wanting (want_of n) n) = in_volatile a v a.clients a.knows (All-nil (PageInRange shape.need)) in
      before_in_range v (act_of_new_want (want_of n) n) (again_in_range is now leads (want_of n) (want_is_within n))

  pub gathering_in_range : n.volatile.role ≡ Leader → ActInRange shape member n (act_of_gathering n)
  gathering_in_range leads =
      gathering_keeps n (ActInRange shape member n) (again_in_range is a leads (want_of n) (want_is_within n)) (new_want_in_range leads)

  pub want_in_range : ActInRange shape member n (act_of_want n)
  want_in_range = want_keeps n (ActInRange shape member n) (stays_in_range a) new_want_in_range
