use Rattle.std.proofs.Common.{◌≡◌, true, false, Option, arith, ◌∙◌, subst}
use Rattle.craft_client.specs.Asking.{is_nothing}
use Rattle.craft_client.specs.Telling.{TakesPacket}
use Rattle.craft_client.specs.declared.told.Told.{Told}
use Rattle.craft_client.proofs.OneTry.{goes_on, told_at_last, told_nothing}
use Rattle.craft_client.proofs.listening.listen.Goals as goal
use Rattle.craft_client.proofs.listening.listen.Goals.{then-loop-packets-test+else-quiets-lt-QUIETS_OF_TRY, else-loop-packets-test}

pub returns-clause-told : goal.returns-clause-told
returns-clause-told g c =
    told_nothing c.args.shape.now c.args.request.now c.loop-packets.packets c.loop-packets.quiets (g.L.Link.coming c.args.link.now) (g.L.Link.coming c.loop-packets.link)
    c.loop-packets.invariant.told c.loop-packets.invariant.few
    (elim c.loop-packets-test.branch [ then-loop-packets-test+else-quiets-lt-QUIETS_OF_TRY w ↦ λ few. omega arith | else-loop-packets-test w ↦ λ few. absurd (omega arith) ])

pub loop-packets-preserved : goal.loop-packets-preserved
loop-packets-preserved g c =
    let l = c.loop-packets in
    let e = c.in_ok-next_told.ensures in
    let came = subst (λ (told : Option Told). TakesPacket c.args.shape.now c.args.request.now (g.L.Link.coming l.link) (g.L.Link.coming c.next_told.new.link) told) c.in-Some.is e.told in
    let none : is_nothing c.in-Some.told ≡ true = cc in
    record {
      few = omega arith;
      quiet = l.invariant.quiet;
      told = goes_on c.args.shape.now c.args.request.now l.packets l.quiets c.in-Some.told (g.L.Link.coming c.args.link.now) (g.L.Link.coming l.link) (g.L.Link.coming c.next_told.new.link)
          l.invariant.told (omega arith) came none;
      coming = e.coming ∙ l.invariant.coming;
      sent = e.sent ∙ l.invariant.sent;
      later = omega (arith, e.later, l.invariant.later);
    }

pub returns-in-Some-2-clause-told : goal.returns-in-Some-2-clause-told
returns-in-Some-2-clause-told g c =
    let l = c.loop-packets in
    let e = c.in_ok-next_told.ensures in
    let came = subst (λ (told : Option Told). TakesPacket c.args.shape.now c.args.request.now (g.L.Link.coming l.link) (g.L.Link.coming c.next_told.new.link) told) c.in-Some.is e.told in
    let some : is_nothing c.in-Some.told ≡ false = cc in
    told_at_last c.args.shape.now c.args.request.now l.packets l.quiets c.in-Some.told (g.L.Link.coming c.args.link.now) (g.L.Link.coming l.link) (g.L.Link.coming c.next_told.new.link)
    l.invariant.told (omega arith) came some
