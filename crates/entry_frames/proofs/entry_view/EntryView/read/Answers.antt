use Rattle.std.proofs.Common.{subst, drop, arith}
use Rattle.entry_frames.specs.Entries.{entry_fields}
use Rattle.entry_frames.specs.Steps.{ReadsTo}
use Rattle.entry_frames.specs.Limits.{greatest}
use Rattle.entry_frames.proofs.Entries.{entry_faithful}
use Rattle.entry_frames.proofs.Formats.{front_reads_again, spelled_at_front, length_at_front}
use Rattle.entry_frames.proofs.entry_view.EntryView.read.Goals as goal

pub returns-clause-found : goal.returns-clause-found
returns-clause-found c =
    spelled_at_front (entry_fields c.args.k) c.args.bytes.now (λ x. x.0.entry) (λ x. x.1) c.at_front.result (entry_faithful c.args.k 0 greatest) (record { each = λ i. omega (arith, c.type_inv.bytes i) }) c.at_front.ensures.exact

pub returns-clause-only : goal.returns-clause-only
returns-clause-only c = λ v rest fits is.
    subst (λ r. ReadsTo (λ x. x.0.entry) (λ x. record { at = x.1; rest = drop x.1 c.args.bytes.now }) c.at_front.result r)
    (front_reads_again (entry_fields c.args.k) v c.args.bytes.now rest fits is) c.at_front.ensures.exact

pub returns-clause-len : goal.returns-clause-len
returns-clause-len c =
    length_at_front (entry_fields c.args.k) c.args.bytes.now (λ x. x.0.entry) (λ x. x.1) c.at_front.result (entry_faithful c.args.k 0 greatest) (record { each = λ i. omega (arith, c.type_inv.bytes i) }) c.at_front.ensures.exact
