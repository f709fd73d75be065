-- Of two entries of one term at one index both stand for one command of the book: so a slot that was shown counts where it has the own
-- entry's term.
use Rattle.std.proofs.Common.{◌≡◌, ℕ, true, List, Option, Some, refl, sym, ap, subst, ◌∙◌}
use Rattle.std.specs.List.{All}
use Rattle.std.proofs.lemmas.Bool.{and_from, eq-eqb}
use Rattle.std.proofs.lemmas.Option.{same_Some}
use Rattle.std.proofs.lemmas.Slice.Eq.{bytes_eq-Decides}
use Rattle.craft_base.specs.Shape.{Shape}
use Rattle.craft_base.specs.declared.command.Entry.{Entry}
use Rattle.craft_base.specs.declared.command.Head.{Head}
use Rattle.craft_base.specs.declared.command.Op.{Op}
use Rattle.craft_base.specs.declared.command.Op.TheVariants as ops
use Rattle.leader_prep.specs.Pages.{Page, latest_slot}
use Rattle.leader_prep.specs.Verdicts.{is_same_head, is_same_op, is_usable}
use Rattle.world_model.specs.Safety.{StandsFor, command_in}
use Rattle.world_model.specs.Traces.{Command, Proposal}
use Rattle.bridge.specs.Traced.{PageStands, StandsAt, holder}
use Rattle.bridge.proofs.Pages.{latest_stands}

-- ---- heads

same_op : (op : Op) → is_same_op op op ≡ true
same_op ops.Noop = refl
same_op ops.Put = refl
same_op (ops.PutIf expected) = eq-eqb expected expected refl
same_op ops.Del = refl
same_op ops.Get = refl

same_head : (head : Head) → is_same_head head head ≡ true
same_head head =
    and_from _ _
    (and_from _ _ (and_from _ _ (and_from _ _ (eq-eqb head.client head.client refl) (eq-eqb head.seq head.seq refl)) (same_op head.op))
    ((bytes_eq-Decides head.key head.key).1 refl))
    (eq-eqb head.vlen head.vlen refl)

module _
    (shape : Shape) (book : List Proposal) (me index : ℕ) (own : Entry) (stands : StandsAt (holder shape me) book index own) (pages : List Page)
    (shown : All (PageStands shape book) pages)
  where
    abbrev command : Command
    command = stands.0

    abbrev slot : ℕ → Option Entry
    slot member = latest_slot member pages index

    -- what another member showed of the own entry's term stands for the same command
    same_command : (member : ℕ) (entry : Entry) → slot member ≡ Some entry → own.term ≡ entry.term → StandsFor shape.need member entry command
    same_command member entry e term =
        let it : StandsAt (holder shape member) book index entry = latest_stands shape book index member pages shown entry e in
        let same : it.0 ≡ command = same_Some it.0 command (sym it.1 ∙ ap (λ t. command_in book t index) (sym term) ∙ stands.1) in
        subst (StandsFor shape.need member entry) same it.2

    -- so its head is the own one, and it counts
    pub counts : (member : ℕ) (entry : Entry) → slot member ≡ Some entry → own.term ≡ entry.term → is_usable own entry ≡ true
    counts member entry e term =
        let heads : own.head ≡ entry.head = stands.2.1 ∙ sym (same_command member entry e term).1 in
        and_from _ _ (eq-eqb own.term entry.term term) (subst (λ head. is_same_head own.head head ≡ true) heads (same_head own.head))
