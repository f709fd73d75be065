use Rattle.std.proofs.Common.{◌∙◌, ap, sym, subst}
use Rattle.synced_log.specs.Journal.{owned}
use Rattle.synced_log.proofs.States.{holds_opens}
use Rattle.schedule_replay.specs.Seats.{HasState}
use Rattle.schedule_replay.proofs.seat.rest.Goals as goal

pub returns : goal.returns
returns c = λ d has.
    let shell = c.in_ok-shell.shell in
    let runs = c.in_ok-shell.ensures d has in record {
      has = subst (λ disk. HasState c.args.shape.now c.args.me disk d) (sym c.give_back.ensures.disk)
          (record { steady = runs.steady; opens = holds_opens shell.disk.told.now.bytes shell.gate (owned c.args.shape.now c.args.me) d runs.holds });
      commit = c.commit-commit.ensures ∙ ap (λ kept. kept.commit) (c.store.ensures.kept ∙ ap (λ k. k.durable) c.core.ensures.core ∙ runs.core.of_durable);
    }
