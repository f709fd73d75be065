use Rattle.std.proofs.Common.{◌≡◌, ◌-◌, ◌+◌, ℕ, refl, arith, sym, subst, ◌∙◌}
use Rattle.std.proofs.lemmas.Result.{err_from_is_err_and}
use Rattle.craft_client.specs.Asking.{asked_next, packets_of_try, request_to}
use Rattle.craft_client.specs.Telling.{Listens}
use Rattle.craft_client.proofs.AllTries.{AsksOn, asks_first, asks_on, asks_all, asks_part, asks_in_vain, ends_early, one_less, stays_told, stays_told_at_most}
use Rattle.craft_client.proofs.asking.ask_group.Goals as goal

pub loop-init : goal.loop-init
loop-init g c =
    let start = asks_first c.args.shape.now c.args.places.now c.args.request.now c.args.tries (g.L.Link.coming c.args.link.now) (g.L.Link.sent c.args.link.now) in
    let all : c.args.tries ≡ c.args.tries - 0 = omega arith in
    record {
      room = omega (arith, c.in_ok-buf.ensures.len);
      member = omega (arith, c.default-member.ensures);
      asked = subst (λ (member : ℕ). AsksOn c.args.shape.now c.args.places.now c.args.request.now c.args.tries (c.args.tries - 0) member
          (g.L.Link.coming c.args.link.now) (g.L.Link.coming c.args.link.now) (g.L.Link.sent c.args.link.now) (g.L.Link.sent c.args.link.now)) (sym c.default-member.ensures)
          (subst (λ (left : ℕ). AsksOn c.args.shape.now c.args.places.now c.args.request.now c.args.tries left 0
          (g.L.Link.coming c.args.link.now) (g.L.Link.coming c.args.link.now) (g.L.Link.sent c.args.link.now) (g.L.Link.sent c.args.link.now)) all start);
      coming = refl;
      sent = refl;
      later = omega arith;
    }

pub returns-in_err-told-clause-answers : goal.returns-in_err-told-clause-answers
returns-in_err-told-clause-answers g c =
    let l = c.loop in
    let e = c.in_err-told.ensures in
    let p = err_from_is_err_and c.from_residual-in_err-told.result c.from_residual-in_err-told.ensures.1 in
    let so_far = one_less c.args.shape.now c.args.places.now c.args.request.now c.args.tries l.counter l.member (g.L.Link.coming c.args.link.now) (g.L.Link.coming l.link)
    (g.L.Link.sent c.args.link.now) (g.L.Link.sent l.link) c.loop-test.true l.invariant.asked in
    rw (p.1, p.2) (ends_early c.args.shape.now c.args.places.now c.args.request.now c.args.tries
    (record { coming = g.L.Link.coming c.args.link.now; sent = g.L.Link.sent c.args.link.now; faults = g.L.Link.faults c.args.link.now })
    (record { coming = g.L.Link.coming c.try_member.new.link; sent = g.L.Link.sent c.try_member.new.link; faults = g.L.Link.faults c.try_member.new.link })
    (g.L.Link.faults l.link) c.in_err-told.field-0.0 l.invariant.later e.early
    (asks_part c.args.shape.now c.args.places.now c.args.request.now c.args.tries (c.args.tries - (l.counter + 1)) l.member
    (g.L.Link.sent c.args.link.now) (g.L.Link.sent l.link) (g.L.Link.sent c.try_member.new.link) (g.L.Link.coming c.args.link.now) (g.L.Link.coming l.link) so_far e.part))

pub returns-in_err-told-clause-sent : goal.returns-in_err-told-clause-sent
returns-in_err-told-clause-sent g c =
    stays_told_at_most (g.L.Link.sent c.loop.link) (g.L.Link.sent c.try_member.new.link) (request_to c.args.shape.now c.args.places.now c.args.request.now c.loop.member) c.in_err-told.ensures.part
    ∙ c.loop.invariant.sent

pub returns-in-Final-clause-answers : goal.returns-in-Final-clause-answers
returns-in-Final-clause-answers g c =
    let l = c.loop in
    let e = c.in_ok-told.ensures in
    let so_far = one_less c.args.shape.now c.args.places.now c.args.request.now c.args.tries l.counter l.member (g.L.Link.coming c.args.link.now) (g.L.Link.coming l.link)
    (g.L.Link.sent c.args.link.now) (g.L.Link.sent l.link) c.loop-test.true l.invariant.asked in
    let heard = subst (Listens c.args.shape.now c.args.request.now packets_of_try (g.L.Link.coming l.link) (g.L.Link.coming c.try_member.new.link)) c.in-Final.is e.told in
    asks_all c.args.shape.now c.args.places.now c.args.request.now c.args.tries (c.args.tries - (l.counter + 1)) l.member
    (g.L.Link.sent c.args.link.now) (g.L.Link.sent l.link) (g.L.Link.sent c.try_member.new.link) (g.L.Link.faults c.args.link.now) (g.L.Link.faults c.try_member.new.link) c.in-Final.answer
    (g.L.Link.coming c.args.link.now) (g.L.Link.coming l.link) (g.L.Link.coming c.try_member.new.link) so_far heard e.whole

pub returns-in-Final-clause-sent : goal.returns-in-Final-clause-sent
returns-in-Final-clause-sent g c =
    stays_told (g.L.Link.sent c.loop.link) (g.L.Link.sent c.try_member.new.link) _ c.in_ok-told.ensures.whole ∙ c.loop.invariant.sent

pub loop-preserved : goal.loop-preserved
loop-preserved g c =
    let l = c.loop in
    let e = c.in_ok-told.ensures in
    let told = c.in_ok-told.told in
    let so_far = one_less c.args.shape.now c.args.places.now c.args.request.now c.args.tries l.counter l.member (g.L.Link.coming c.args.link.now) (g.L.Link.coming l.link)
    (g.L.Link.sent c.args.link.now) (g.L.Link.sent l.link) c.loop-test.true l.invariant.asked in
    let next : c.next_asked-member.result ≡ asked_next c.args.shape.now l.member told = cc in
    record {
      room = l.invariant.room;
      member = c.next_asked-member.ensures.range;
      asked = subst (λ (member : ℕ). AsksOn c.args.shape.now c.args.places.now c.args.request.now c.args.tries (c.args.tries - (l.counter + 1)) member
          (g.L.Link.coming c.args.link.now) (g.L.Link.coming c.try_member.new.link) (g.L.Link.sent c.args.link.now) (g.L.Link.sent c.try_member.new.link)) (sym next)
          (asks_on c.args.shape.now c.args.places.now c.args.request.now c.args.tries (c.args.tries - (l.counter + 1)) l.member
          (g.L.Link.sent c.args.link.now) (g.L.Link.sent l.link) (g.L.Link.sent c.try_member.new.link) told
          (g.L.Link.coming c.args.link.now) (g.L.Link.coming l.link) (g.L.Link.coming c.try_member.new.link) so_far e.told e.whole c.in_default.not-Final);
      coming = e.coming ∙ l.invariant.coming;
      sent = stays_told (g.L.Link.sent l.link) (g.L.Link.sent c.try_member.new.link) _ e.whole ∙ l.invariant.sent;
      later = omega (arith, e.later, l.invariant.later);
    }

pub returns-clause-answers : goal.returns-clause-answers
returns-clause-answers g c =
    let l = c.loop in
    let none : c.args.tries - l.counter ≡ 0 = omega (arith, c.loop-test.false) in (
      refl,
      asks_in_vain c.args.shape.now c.args.places.now c.args.request.now c.args.tries l.member (g.L.Link.faults c.args.link.now) (g.L.Link.faults l.link)
          (g.L.Link.coming c.args.link.now) (g.L.Link.coming l.link) (g.L.Link.sent c.args.link.now) (g.L.Link.sent l.link)
          (subst (λ (left : ℕ). AsksOn c.args.shape.now c.args.places.now c.args.request.now c.args.tries left l.member
          (g.L.Link.coming c.args.link.now) (g.L.Link.coming l.link) (g.L.Link.sent c.args.link.now) (g.L.Link.sent l.link)) none l.invariant.asked),
    )
