use Rattle.std.proofs.Common.{◌≡◌, ◌≤◌, ◌∙◌, sym, subst, arith, length, List, ℕ, Some}
use Rattle.std.proofs.lemmas.List.{with_items_is}
use Rattle.craft_base.specs.Knowledge.{members}
use Rattle.gather_read.specs.Gathered.{IsGiven, source_in}
use Rattle.gather_read.specs.Keeping.{kept_slot}
use Rattle.leader_prep.specs.Verdicts.{parts_of, usable_form, verdict_of_parts}
use Rattle.gather_read.proofs.Values.{solved}
use Rattle.gather_read.proofs.gather.Gather.value_of_parts.Goals as goal

pub returns : goal.returns
returns c =
    let self = c.args.self.now in
    let own = c.args.own.now.entry in
    let parts = parts_of (usable_form self.me own (kept_slot self.slots)) (members self.shape) in
    let value : c.of.result ≡ c.write.new.out = c.of.ensures ∙ with_items_is c.in_ok-value.value c.write.new.out (c.write.auto.out ∙ c.deref_mut.ensures.len) in
    let enough : self.shape.need ≤ length c.in_ok-rebuilder.rebuilder.parts = omega (arith, c.if-count-need.false, c.need.ensures.value, c.count.ensures.value) in
    subst (λ (bytes : List ℕ). IsGiven (source_in (verdict_of_parts self.shape own parts)) (Some bytes)) (sym value)
    (solved self.shape own parts c.in_ok-rebuilder.rebuilder c.write.new.out c.in_ok-rebuilder.ensures enough c.write.ensures.solution c.write.ensures.only c.write.ensures.value)
