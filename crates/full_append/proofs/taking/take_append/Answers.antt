use Rattle.std.proofs.Common.{◌≡◌, ℕ, ◌+◌, ◌∙◌, true, false, drop, ap, sym}
use Rattle.entry_frames.specs.MessageParts.{body_of, entries_of, prev_of, prev_term_of}
use Rattle.full_append.proofs.Completing.{wholes_are}
use Rattle.full_append.proofs.Naming.{named}
use Rattle.full_append.proofs.LogsAfter.{mask_is, within_log}
use Rattle.world_model.specs.Rules.Append.{difference, has_before, is_clash}
use Rattle.full_append.proofs.taking.take_append.Goals as goal

pub returns-clause-plan : goal.returns-clause-plan
returns-clause-plan g c =
    let body = body_of c.args.append.now.frame in
    let log = (g.L.LogView.log c.args.log.now).entries in
    let commit = (g.L.LogView.log c.args.log.now).commit in
    let before : has_before log (prev_of body) (prev_term_of body) ≡ true =
    ap (has_before log (prev_of body)) (sym c.prev_term.ensures) ∙ ap (λ (p : ℕ). has_before log p c.prev_term.result) (sym c.prev.ensures)
    ∙ sym c.has_before.ensures ∙ c.if-not-has_before.false in
    let unharmed : is_clash commit (difference (prev_of body) log (entries_of body)) ≡ false =
    ap (is_clash commit) (sym c.difference-cut.ensures) ∙ ap (λ (n : ℕ). is_clash n c.difference-cut.result) (sym c.commit-2.ensures)
    ∙ sym c.is_clash.ensures ∙ c.if-is_clash.false in (
      before,
      unharmed,
      record {
        cut_is = c.difference-cut.ensures;
        wholes_are = c.in_ok-found.ensures.wholes ∙ wholes_are (prev_of body + 1) (drop (prev_of body) log) (entries_of body);
        first_new_is = c.in_ok-found.ensures.same;
        mask_is = mask_is log (entries_of body) (prev_of body) c.in_ok-found.found.mask (within_log log (prev_of body) (prev_term_of body) before) c.in_ok-found.ensures.mask;
        commit_is = c.commit_after.ensures;
      },
    )

pub returns-clause-records : goal.returns-clause-records
returns-clause-records g c =
    let body = body_of c.args.append.now.frame in
    let log = (g.L.LogView.log c.args.log.now).entries in
    named (prev_of body) log (entries_of body) c.difference-cut.result c.in_ok-found.found.wholes.items c.in_ok-found.found.same c.difference-cut.ensures c.in_ok-found.ensures.wholes c.in_ok-found.ensures.same
