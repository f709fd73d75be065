use Rattle.std.proofs.Common.{◌≡◌, ◌<◌, ◌+◌, ◌++◌, ◌∷◌, [], length, arith, ap, ◌∙◌, subst, sym}
use Rattle.std.proofs.lemmas.List.{length-map}
use Rattle.world_model.specs.Lines.{event_lines, event_text}
use Rattle.world_model.specs.Spelling.{IsLineOf}
use Rattle.world_model.specs.World as model
use Rattle.schedule_replay.specs.Network.{frame_bytes}
use Rattle.schedule_replay.specs.Seats.{AreSeats}
use Rattle.schedule_replay.specs.Worlds.{PartsStand, StandsFor}
use Rattle.schedule_replay.proofs.Spelled.{line_can_send, send_peers}
use Rattle.world_model.specs.Schedule.{most_lines}
use Rattle.schedule_replay.proofs.Standing.{event_number, world_more}
use Rattle.schedule_replay.proofs.Tallying.{counts_as}
use Rattle.schedule_replay.proofs.world.World.step.Goals as goal

pub keep_messages-requires : goal.keep_messages-requires
keep_messages-requires c =
    let shape = c.self.inside.shape in
    let of_line = subst (λ k. IsLineOf k.shape c.args.line.now) (sym c.self.view_is) c.requires.line in
    let w = model.run shape c.self.invariant.0 in
    let parts = c.self.invariant.1.parts in
    let seen = subst (λ sent. PartsStand shape c.self.inside.seats.items sent w) (sym c.deref.ensures.value) parts in
    line_can_send parts.is_shape parts.in_range c.args.line.now of_line c.deref-2.result.now (c.deref-2.ensures.value ∙ (c.in_ok-happened.ensures.told w seen).outputs)

pub event_text-requires-clause-sends : goal.event_text-requires-clause-sends
event_text-requires-clause-sends c =
    let shape = c.self.inside.shape in
    let of_line = subst (λ k. IsLineOf k.shape c.args.line.now) (sym c.self.view_is) c.requires.line in
    let w = model.run shape c.self.invariant.0 in
    let parts = c.self.invariant.1.parts in
    let seen = subst (λ sent. PartsStand shape c.self.inside.seats.items sent w) (sym c.deref.ensures.value) parts in
    let outputs = c.in_ok-happened.happened.outputs.items in
    send_peers shape outputs (line_can_send parts.is_shape parts.in_range c.args.line.now of_line outputs (c.in_ok-happened.ensures.told w seen).outputs)

-- what the clauses of the calls say of the world after the line, whatever events it stood for before
pub invariant_of-result : goal.invariant_of-result
invariant_of-result c =
    let shape = c.self.inside.shape in
    let of_line = subst (λ k. IsLineOf k.shape c.args.line.now) (sym c.self.view_is) c.requires.line in
    let events = c.self.invariant.0 in
    let s = c.self.invariant.1 in
    let w = model.run shape events in
    let seen = subst (λ sent. PartsStand shape c.self.inside.seats.items sent w) (sym c.deref.ensures.value) s.parts in
    let sit = c.in_ok-happened.ensures.seats w seen in
    let told = (c.in_ok-happened.ensures.told w seen).outputs in
    let same = c.deref-2.ensures.value ∙ told in
    let counts = counts_as c.deref-3.result.now c.deref-2.result.now c.self.inside.tally c.counted_on-tally.result (c.deref-3.ensures.value ∙ sym c.deref-2.ensures.value)
    c.counted_on-tally.ensures.replies c.counted_on-tally.ensures.leaders c.counted_on-tally.ensures.cuts in
    let most = c.most_committed.ensures shape (model.step w c.args.line.now).world.members (subst (λ l. AreSeats shape l (model.step w c.args.line.now).world.members) (sym c.deref-4.ensures.value) sit) in (
      events ++ c.args.line.now ∷ [],
      world_more shape events c.args.line.now c.self.inside.seats.items c.happen.new.seats.items c.self.inside.sent.items c.keep_messages.new.sent.items c.self.inside.tally c.counted_on-tally.result
          c.deref-2.result.now s of_line sit same c.in_ok-keep_messages.ensures c.counted_on-tally.ensures.events (omega (arith, c.counted_on-tally.ensures.frames, c.len-2.ensures, c.keep_messages.new.sent.ok.0)) (omega arith)
          counts.replies counts.leaders (c.counted_on-tally.ensures.commit ∙ most) (omega arith) counts.cuts,
    )

pub returns-clause-stands : goal.returns-clause-stands
returns-clause-stands c = λ events stands.
    let shape = c.self.inside.shape in
    let of_line = subst (λ k. IsLineOf k.shape c.args.line.now) (sym c.self.view_is) c.requires.line in
    let s = subst (λ k. StandsFor k events) (sym c.self.view_is) stands in
    let w = model.run shape events in
    let seen = subst (λ sent. PartsStand shape c.self.inside.seats.items sent w) (sym c.deref.ensures.value) s.parts in
    let sit = c.in_ok-happened.ensures.seats w seen in
    let told = (c.in_ok-happened.ensures.told w seen).outputs in
    let same = c.deref-2.ensures.value ∙ told in
    let counts = counts_as c.deref-3.result.now c.deref-2.result.now c.self.inside.tally c.counted_on-tally.result (c.deref-3.ensures.value ∙ sym c.deref-2.ensures.value)
    c.counted_on-tally.ensures.replies c.counted_on-tally.ensures.leaders c.counted_on-tally.ensures.cuts in
    let most = c.most_committed.ensures shape (model.step w c.args.line.now).world.members (subst (λ l. AreSeats shape l (model.step w c.args.line.now).world.members) (sym c.deref-4.ensures.value) sit) in
    world_more shape events c.args.line.now c.self.inside.seats.items c.happen.new.seats.items c.self.inside.sent.items c.keep_messages.new.sent.items c.self.inside.tally c.counted_on-tally.result
    c.deref-2.result.now s of_line sit same c.in_ok-keep_messages.ensures c.counted_on-tally.ensures.events (omega (arith, c.counted_on-tally.ensures.frames, c.len-2.ensures, c.keep_messages.new.sent.ok.0)) (omega arith)
    counts.replies counts.leaders (c.counted_on-tally.ensures.commit ∙ most) (omega arith) counts.cuts

pub returns-clause-text : goal.returns-clause-text
returns-clause-text c = λ events stands.
    let shape = c.self.inside.shape in
    let s = subst (λ k. StandsFor k events) (sym c.self.view_is) stands in
    let w = model.run shape events in
    let h = model.step w c.args.line.now in
    let seen = subst (λ sent. PartsStand shape c.self.inside.seats.items sent w) (sym c.deref.ensures.value) s.parts in
    let told = c.in_ok-happened.ensures.told w seen in
    let few : c.self.inside.tally.events < most_lines = subst (λ k. k.tally.events < most_lines) (sym c.self.view_is) c.requires.few in
    let number = event_number shape events c.self.inside.tally s.tally few in
    let first : c.len.result ≡ length c.self.inside.sent.items = omega (arith, c.len.ensures, c.self.inside.sent.ok.0) in
    let frames : c.len.result ≡ length w.sent = first ∙ ap length s.parts.sent_are ∙ length-map w.sent (frame_bytes shape) in
    subst (λ k. c.in_ok-text.text ≡ event_text (length events + 1) (model.run k.shape events) (model.step (model.run k.shape events) c.args.line.now)) c.self.view_is
    (c.in_ok-text.ensures h told ∙ ap (λ n. event_lines n (c.len.result + 1) h) number ∙ ap (λ f. event_lines (length events + 1) (f + 1) h) frames)
