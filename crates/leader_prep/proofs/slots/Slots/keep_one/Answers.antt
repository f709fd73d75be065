use Rattle.std.proofs.Common.{Result, Ok, Err}
use Rattle.std.specs.Prelude.{OnOk}
use Rattle.leader_prep.proofs.Placing.{kept_put}
use Rattle.leader_prep.proofs.slots.Slots.keep_one.Goals as goal

on_ok : {A E : Type 0} (r : Result A E) (P Q : Type 0) → (P → Q) → OnOk r P → OnOk r Q
on_ok (Ok x) P Q f p = f p
on_ok (Err e) P Q f p = p

pub returns-clause-keeps : goal.returns-clause-keeps
returns-clause-keeps c =
    on_ok c.put.result _ _
    (λ put. kept_put c.args.self.now c.put.new.self c.args.cursor c.args.member c.args.index c.args.view.now.entry put c.if-index-cursor.false c.requires.near)
    c.put.ensures.puts
