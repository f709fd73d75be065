use Rattle.std.proofs.Common.{subst, arith}
use Rattle.entry_frames.specs.Steps.{ReadsAll}
use Rattle.peer_frames.proofs.Whole.{all_found, all_again}
use Rattle.peer_frames.proofs.message_view.MessageView.read.Goals as goal

pub returns-clause-found : goal.returns-clause-found
returns-clause-found c = all_found c.args.shape.now c.args.bytes.now (λ v. v.frame) c.all_of.result (record { each = λ i. omega (arith, c.type_inv.bytes i) }) c.all_of.ensures.exact

pub returns-clause-only : goal.returns-clause-only
returns-clause-only c = λ f fits is. subst (λ r. ReadsAll (λ v. v.frame) c.all_of.result r) (all_again c.args.shape.now c.args.bytes.now f fits is) c.all_of.ensures.exact
