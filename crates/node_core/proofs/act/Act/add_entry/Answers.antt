use Rattle.std.proofs.Common.{◌≡◌, ◌≤◌, ℕ, length, sym, subst, ap, ◌∙◌, arith}
use Rattle.std.proofs.lemmas.Result.{IfOk-weaker}
use Rattle.craft_base.specs.declared.command.Entry.{Entry}
use Rattle.entry_frames.specs.Durable.{Durable}
use Rattle.entry_frames.specs.Entries.{entry_fields}
use Rattle.entry_frames.specs.Formats.{Fits}
use Rattle.entry_frames.specs.Limits.{greatest}
use Rattle.entry_frames.specs.Records.{Add}
use Rattle.entry_frames.specs.Stored.{DurableInRange}
use Rattle.entry_frames.proofs.Stored.{term_most}
use Rattle.world_model.specs.Rules.Acts.{recording, stays}
use Rattle.world_model.specs.Rules.Call as rule
use Rattle.world_model.proofs.Ranges.Knowing.{leader_begun}
use Rattle.world_model.proofs.Ranges.Requests.{entry_for_fits}
use Rattle.node_core.specs.Acting.{IsActed, is_preparing}
use Rattle.node_core.proofs.act.Act.add_entry.Goals as goal

pub of-requires-clause-fits : goal.of-requires-clause-fits
of-requires-clause-fits c =
    let r = c.requires.ranged in
    let term = c.term.result in
    let own : term ≡ r.node.durable.term = c.term.ensures ∙ ap (λ d. d.term) r.is.stands.of_durable in
    let begun : 1 ≤ term = subst (λ (t : ℕ). 1 ≤ t) (sym own) (leader_begun r.ranged (sym r.is.stands.of_role ∙ c.requires.leads)) in
    let most : term ≤ greatest = subst (λ (t : ℕ). t ≤ greatest) (sym own) r.ranged.durable.stored.term_most in
    subst (λ (e : Entry). Fits (entry_fields c.need-need.result) e) (sym c.in_ok-entry.ensures) (entry_for_fits c.need-need.result term begun most c.args.request.now c.requires.fits)

pub record-requires-clause-free : goal.record-requires-clause-free
record-requires-clause-free c = ap is_preparing c.requires.leads

pub record-requires-clause-can : goal.record-requires-clause-can
record-requires-clause-can c =
    let d = c.args.self.member.store.kept in
    let r = c.requires.ranged in
    let ranged : DurableInRange r.node.shape d = subst (λ (x : Durable). DurableInRange r.node.shape x) (sym r.is.stands.of_durable) r.ranged.durable in
    let term : c.of.result.entry.term ≡ d.term = ap (λ v. v.entry.term) c.of.ensures ∙ ap (λ (e : Entry). e.term) c.in_ok-entry.ensures ∙ c.term.ensures in
    record {
      room = omega (arith, c.requires.room);
      no_earlier = omega (arith, term, term_most r.node.shape.need 0 d.term d.log (length d.log) ranged.stored.entries);
      no_later = omega (arith, term);
    }

pub returns : goal.returns
returns c = IfOk-weaker c.record.result _ _ (λ x recorded n is.
    let added : c.of.result.entry ≡ rule.entry_for n.durable.term c.args.request.now =
    ap (λ v. v.entry) c.of.ensures ∙ c.in_ok-entry.ensures ∙ ap (λ term. rule.entry_for term c.args.request.now) (c.term.ensures ∙ ap (λ d. d.term) is.stands.of_durable) in
    subst (λ (e : Entry). IsActed (recording (Add e) (stays n)) c.args.self x) added (recorded n is))
    c.record.ensures.acts
