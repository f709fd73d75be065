use Rattle.std.proofs.Common.{◌≡◌, ◌∙◌, true, false, sym, subst}
use Rattle.std.proofs.lemmas.Result.{IfOk-weaker}
use Rattle.world_model.specs.Rules.Want.{is_same_want, want_of}
use Rattle.node_core.specs.Acting.{IsActed}
use Rattle.node_core.proofs.Acting.{stays_acted}
use Rattle.node_core.proofs.Wanting.{same_by, wants_anew, wants_still}
use Rattle.node_core.proofs.act.Act.want_if_new.Goals as goal

pub returns-then-is_same_want : goal.returns-then-is_same_want
returns-then-is_same_want c = λ n is.
    let same : is_same_want n.volatile.want (want_of n) ≡ true =
    same_by n c.gathered.result c.wanted-want.result (c.gathered.ensures n is) (c.wanted-want.ensures n is) ∙ sym c.is_same_want.ensures ∙ c.if-is_same_want.true in
    subst (λ a. IsActed a c.args.self c.args.self) (sym (wants_still n same)) (stays_acted c.args.self n is)

pub want_anew-requires-clause-want : goal.want_anew-requires-clause-want
want_anew-requires-clause-want c = c.wanted-want.ensures

pub returns : goal.returns
returns c = IfOk-weaker c.want_anew.result _ _ (λ x wanted n is.
    let other : is_same_want n.volatile.want (want_of n) ≡ false =
    same_by n c.gathered.result c.wanted-want.result (c.gathered.ensures n is) (c.wanted-want.ensures n is) ∙ sym c.is_same_want.ensures ∙ c.if-is_same_want.false in
    subst (λ a. IsActed a c.args.self x) (sym (wants_anew n other)) (wanted n is))
    c.want_anew.ensures
