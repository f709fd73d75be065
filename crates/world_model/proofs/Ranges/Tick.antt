-- Tick: who stands has a term left, and asks with the end of its log.
use Rattle.std.proofs.Common.{◌≡◌, ℕ, ◌+◌, ◌%◌, ◌<◌, nat_le, nat_lt, true, Option, None, Some, [], ◌∷◌, length, inl, refl, sym, subst, arith}
use Rattle.std.proofs.lemmas.Bool.{cond_both, and_parts, ltb-true}
use Rattle.std.proofs.lemmas.List.Elements.{All-nil}
use Rattle.craft_base.specs.Shape.{Shape}
use Rattle.entry_frames.specs.Limits.{greatest}
use Rattle.entry_frames.specs.Records.{Term}
use Rattle.entry_frames.specs.declared.role.Role.{Role}
use Rattle.entry_frames.specs.declared.role.Role.TheVariants.{Follower, Candidate, Preparing, Leader}
use Rattle.craft_base.specs.Knowledge.{Beat}
use Rattle.world_model.specs.Nodes.{Node, node_hearing}
use Rattle.world_model.specs.Ranges.{IsMember, IsOfNoLog, NodeInRange}
use Rattle.world_model.specs.Rules.Acts.{stays}
use Rattle.world_model.specs.Rules.Prepare.{act_of_asking_again, cursor_at}
use Rattle.world_model.specs.Rules.Say.{act_of_saying}
use Rattle.world_model.specs.Rules.Want.{act_of_gathering}
use Rattle.world_model.specs.Rules.Tick.{act_of_beat, act_of_candidacy, act_of_election, act_of_tick, act_of_tick_as, act_of_waiting, is_due, vote_requests, waiting_node}
use Rattle.craft_base.specs.Shape.{IsShape}
use Rattle.world_model.proofs.Ranges.Acts.{ActInRange, before_in_range, enters_in_range, followed_in_range, in_volatile, messages_to_others_fit, sending_in_range, stays_in_range}
use Rattle.world_model.proofs.Ranges.Bodies.{request_fits}
use Rattle.world_model.proofs.Ranges.Knowing.{hears}
use Rattle.world_model.proofs.Ranges.Prepare.{asking_all_in_range}
use Rattle.world_model.proofs.Ranges.Records.{term_fits}
use Rattle.world_model.proofs.Ranges.Say.{saying_in_range}
use Rattle.world_model.proofs.Ranges.Want.{gathering_in_range}

module _ {shape : Shape} (is : IsShape shape) {member : ℕ} {n : Node} (a : NodeInRange shape member n) where
  candidacy_in_range : (word : ℕ) → is_due n.volatile.quiet word n.durable.term ≡ true → ActInRange shape member n (act_of_candidacy n)
  candidacy_in_range word due =
      let left : n.durable.term < greatest = ltb-true n.durable.term greatest (and_parts (nat_le (3 + word % 8) n.volatile.quiet) (nat_lt n.durable.term greatest) due).1 in
      enters_in_range a (Term (n.durable.term + 1) (Some n.me) ∷ []) (record n.volatile { role = Candidate; quiet = 0; hint = None; heard = []; first = 0 })
      (inl (record { least = omega arith; most = omega (arith, left); later = omega arith }), tt)
      (term_fits shape is (n.durable.term + 1) (Some n.me) (omega (arith, left)) (subst (IsMember shape) (sym a.me) a.is_member), tt) (tt, a.clients.1)
      (All-nil IsOfNoLog) a.pages

  election_in_range : (word : ℕ) → is_due n.volatile.quiet word n.durable.term ≡ true → ActInRange shape member n (act_of_election n)
  election_in_range word due =
      let now = candidacy_in_range word due in
      sending_in_range (vote_requests (act_of_candidacy n).node) (act_of_candidacy n)
      (messages_to_others_fit is now.node (omega arith) _ (request_fits shape.need (n.durable.term + 1) n.durable.log a.durable.stored a.durable.short)) now

  waiting_in_range : (word : ℕ) → ActInRange shape member n (act_of_waiting word n)
  waiting_in_range word =
      cond_both (is_due n.volatile.quiet word n.durable.term) (act_of_election n) (stays n) (ActInRange shape member n)
      (election_in_range word) (λ early. stays_in_range a)

module _ {shape : Shape} (is : IsShape shape) {member : ℕ} {n : Node} (word : ℕ) (a : NodeInRange shape member n) where
  waited_in_range : ActInRange shape member n (act_of_waiting word (waiting_node n))
  waited_in_range =
      let v = (waiting_node n).volatile in
      before_in_range v (act_of_waiting word (waiting_node n)) (waiting_in_range is (in_volatile a v a.clients a.knows a.pages) word)

  beat_in_range : NodeInRange shape member (node_hearing Beat n)
  beat_in_range =
      in_volatile a (node_hearing Beat n).volatile a.clients (hears n.volatile.role (length n.durable.log) n.volatile.first Beat n.volatile.heard tt a.knows) a.pages

  asking_in_range : (cursor : Option ℕ) → cursor_at n ≡ cursor → ActInRange shape member (node_hearing Beat n) (act_of_asking_again cursor (node_hearing Beat n))
  asking_in_range None there = stays_in_range beat_in_range
  asking_in_range (Some cursor) there = asking_all_in_range is beat_in_range cursor there

  tick_as_in_range : (role : Role) → n.volatile.role ≡ role → ActInRange shape member n (act_of_tick_as role word n)
  tick_as_in_range Follower e = waited_in_range
  tick_as_in_range Candidate e = waited_in_range
  tick_as_in_range Preparing e =
      before_in_range (node_hearing Beat n).volatile (act_of_asking_again (cursor_at n) (node_hearing Beat n)) (asking_in_range (cursor_at n) refl)
  tick_as_in_range Leader e =
      before_in_range (node_hearing Beat n).volatile (act_of_beat (node_hearing Beat n))
      (followed_in_range (act_of_saying (node_hearing Beat n)) act_of_gathering refl (saying_in_range is beat_in_range e) (gathering_in_range is beat_in_range e))

  pub tick_in_range : ActInRange shape member n (act_of_tick word n)
  tick_in_range = tick_as_in_range n.volatile.role refl
