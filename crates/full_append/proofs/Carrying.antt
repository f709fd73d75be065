-- What carrying out a plan leaves.
use Rattle.std.proofs.Common.{◌≡◌, ℕ, ◌+◌, ◌≤◌, List, ◌++◌, length, take, drop, Option, None, Some, ap, sym, ◌∙◌, arith}
use Rattle.std.proofs.lemmas.List.{length-take-le, take-append-drop}
use Rattle.craft_base.specs.declared.command.Entry.{Entry}
use Rattle.entry_frames.specs.Durable.{Durable, after, applied, born}
use Rattle.entry_frames.specs.Records.{Record, Cut}
use Rattle.full_append.specs.Plans.{log_after}
use Rattle.full_append.proofs.Completing.{after-append, all_completed, completions_of, kept}
use Rattle.full_append.proofs.LogsAfter.{all_added, rest_of, told_after}
use Rattle.world_model.specs.Rules.Append.{common, difference, mask_of, taken_records}

-- The mask of a plan is that of what any state with that log becomes.
pub mask_of_any : (d : Durable) (prev : ℕ) (es : List Entry) → prev ≤ length d.log
    → mask_of (take (length es) (drop prev (log_after prev d.log es))) ≡ mask_of (take (length es) (drop prev (after d (taken_records prev d.log es)).log))
mask_of_any d prev es within = ap mask_of (told_after (record born { log = d.log }) prev es within ∙ sym (told_after d prev es within))

rest_on_log : (d : Durable) (cut : Option ℕ) (es : List Entry) → after d (rest_of cut es) ≡ record d { log = (after d (rest_of cut es)).log }
rest_on_log d None es = all_added d es ∙ sym (ap (λ (x : Durable). record d { log = x.log }) (all_added d es))
rest_on_log d (Some index) es =
    all_added (applied d (Cut index)) es ∙ sym (ap (λ (x : Durable). record d { log = x.log }) (all_added (applied d (Cut index)) es))

-- Its records change the log alone.
pub only_the_log : (d : Durable) (prev : ℕ) (es : List Entry) → prev ≤ length d.log
    → after d (taken_records prev d.log es) ≡ record d { log = (after d (taken_records prev d.log es)).log }
only_the_log d prev es within =
    let log = drop prev d.log in
    let front = take prev d.log in
    let long : length front ≡ prev = length-take-le prev d.log within in
    let start : prev + 1 ≡ length front + 1 = omega (arith, long) in
    let split : d.log ≡ front ++ log = sym (take-append-drop prev d.log) in
    let middle : Durable = record d { log = front ++ kept log es } in
    let rest : List Record = rest_of (difference prev d.log es) (drop (common log es) es) in
    let all : after d (taken_records prev d.log es) ≡ after middle rest =
    after-append d (completions_of (prev + 1) log es) rest ∙ ap (λ (x : Durable). after x rest) (all_completed d front log es (prev + 1) start split) in
    all ∙ rest_on_log middle (difference prev d.log es) (drop (common log es) es) ∙ sym (ap (λ (x : Durable). record d { log = x.log }) all)
