use Rattle.std.proofs.Common.{subst, drop, arith}
use Rattle.entry_frames.specs.Records.{record_fields}
use Rattle.entry_frames.specs.Steps.{ReadsTo}
use Rattle.entry_frames.specs.RecordViews.{record_of}
use Rattle.entry_frames.proofs.Records.{record_faithful}
use Rattle.entry_frames.proofs.Formats.{front_reads_again, spelled_at_front, length_at_front}
use Rattle.entry_frames.proofs.record_view.RecordView.read.Goals as goal

pub returns-clause-found : goal.returns-clause-found
returns-clause-found c =
    spelled_at_front (record_fields c.args.k) c.args.bytes.now (λ x. record_of x.0) (λ x. x.1) c.at_front.result (record_faithful c.args.k) (record { each = λ i. omega (arith, c.type_inv.bytes i) }) c.at_front.ensures.exact

pub returns-clause-only : goal.returns-clause-only
returns-clause-only c = λ v rest fits is.
    subst (λ r. ReadsTo (λ x. record_of x.0) (λ x. record { at = x.1; rest = drop x.1 c.args.bytes.now }) c.at_front.result r)
    (front_reads_again (record_fields c.args.k) v c.args.bytes.now rest fits is) c.at_front.ensures.exact

pub returns-clause-len : goal.returns-clause-len
returns-clause-len c =
    length_at_front (record_fields c.args.k) c.args.bytes.now (λ x. record_of x.0) (λ x. x.1) c.at_front.result (record_faithful c.args.k) (record { each = λ i. omega (arith, c.type_inv.bytes i) }) c.at_front.ensures.exact
