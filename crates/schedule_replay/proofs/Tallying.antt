-- A tally of one event more.
use Rattle.std.proofs.Common.{◌≡◌, ℕ, ◌+◌, ◌^◌, ◌<◌, max, cond, List, [], ◌∷◌, ◌++◌, Bool, zero, suc, replicate, length, take, get_or, refl, ap, ◌∙◌, sym, subst, arith, length-append}
use Rattle.std.specs.List.{count_by}
use Rattle.std.proofs.lemmas.List.{take_more}
use Rattle.std.proofs.lemmas.List.Sums.{fold-append, sum_by-append}
use Rattle.craft_base.specs.Shape.{Shape, members_of}
use Rattle.entry_frames.specs.declared.output.Output.{Output}
use Rattle.world_model.specs.Tallies.{counted, greatest_commit, is_cut, is_reply, tally_of, tells_leader, told_from}
use Rattle.world_model.specs.World.{Happened, Member, newborn, run, start, step}
use Rattle.world_model.specs.declared.line.Line.{Line}
use Rattle.world_model.specs.declared.tally.Tally.{Tally}
use Rattle.world_model.proofs.Runs.{run_from-append, told_from-append}

-- counting on from a number that stands still
pub counts_on : (n m : ℕ) → counted (counted n + m) ≡ counted (n + m)
counts_on n m = omega arith

pub counts_small : (n : ℕ) → n < 2 ^ 64 → counted n ≡ n
counts_small n small = omega (arith, small)

count_by-append : (p : Output → Bool) (xs ys : List Output) → count_by p (xs ++ ys) ≡ count_by p xs + count_by p ys
count_by-append p xs ys = sum_by-append (λ x. cond (p x) 1 0) xs ys

-- one member more among those whose commit indexes were compared
pub most_more : (members : List Member) (i : ℕ) (m : Member) → i < length members → get_or members i m ≡ m
    → greatest_commit (take (i + 1) members) ≡ max (greatest_commit (take i members)) m.durable.commit
most_more members i m within here =
    ap greatest_commit (take_more members i m within)
    ∙ fold-append (λ most (n : Member). max most n.durable.commit) 0 (take i members) (get_or members i m ∷ [])
    ∙ ap (λ (n : Member). max (greatest_commit (take i members)) n.durable.commit) here

same_tally : (a b : Tally) → a.events ≡ b.events → a.frames ≡ b.frames → a.replies ≡ b.replies → a.leaders ≡ b.leaders → a.commit ≡ b.commit → a.cuts ≡ b.cuts → a ≡ b
same_tally a b events frames replies leaders commit cuts = rw (events, frames, replies, leaders, commit, cuts) refl

module _ (shape : Shape) (events : List Line) (line : Line) where
  abbrev now : Happened
  now = step (run shape events) line

  told_more : told_from (start shape) (events ++ line ∷ []) ≡ told_from (start shape) events ++ now.outputs
  told_more = told_from-append (start shape) events line

  count_more : (p : Output → Bool) (before after : ℕ) (outputs : List Output) → before ≡ counted (count_by p (told_from (start shape) events)) → outputs ≡ now.outputs
      → after ≡ counted (before + count_by p outputs) → after ≡ counted (count_by p (told_from (start shape) (events ++ line ∷ [])))
  count_more p before after outputs is_before same is_after =
      is_after ∙ ap (λ n. counted (n + count_by p outputs)) is_before ∙ counts_on (count_by p (told_from (start shape) events)) (count_by p outputs)
      ∙ ap (λ os. counted (count_by p (told_from (start shape) events) + count_by p os)) same
      ∙ ap counted (sym (count_by-append p (told_from (start shape) events) now.outputs)) ∙ ap (λ os. counted (count_by p os)) (sym told_more)

  -- the tally of one event more
  pub tally_more :
      (before after : Tally) (outputs : List Output) → before ≡ tally_of shape events → outputs ≡ now.outputs → after.events ≡ counted (before.events + 1) →
      after.frames ≡ length now.world.sent → after.frames < 2 ^ 64 → after.replies ≡ counted (before.replies + count_by is_reply outputs) →
      after.leaders ≡ counted (before.leaders + count_by tells_leader outputs) → after.commit ≡ greatest_commit now.world.members → after.commit < 2 ^ 64 →
      after.cuts ≡ counted (before.cuts + count_by is_cut outputs) → after ≡ tally_of shape (events ++ line ∷ [])
  tally_more before after outputs is_before same more frames few_frames replies leaders commit few_commit cuts =
      let last = run_from-append (start shape) events (line ∷ []) in
      same_tally after (tally_of shape (events ++ line ∷ []))
      (more ∙ ap (λ t. counted (t.events + 1)) is_before ∙ counts_on (length events) 1 ∙ ap counted (sym (length-append events (line ∷ []))))
      (sym (counts_small after.frames few_frames) ∙ ap counted (frames ∙ ap (λ w. length w.sent) (sym last)))
      (count_more is_reply before.replies after.replies outputs (ap (λ t. t.replies) is_before) same replies)
      (count_more tells_leader before.leaders after.leaders outputs (ap (λ t. t.leaders) is_before) same leaders)
      (sym (counts_small after.commit few_commit) ∙ ap counted (commit ∙ ap (λ w. greatest_commit w.members) (sym last)))
      (count_more is_cut before.cuts after.cuts outputs (ap (λ t. t.cuts) is_before) same cuts)

-- nothing has happened in a cluster that has just started
none_committed : (n : ℕ) → greatest_commit (replicate n newborn) ≡ 0
none_committed zero = refl
none_committed (suc n) = none_committed n

pub nothing_yet : (shape : Shape) → record { events = 0; frames = 0; replies = 0; leaders = 0; commit = 0; cuts = 0 } ≡ tally_of shape []
nothing_yet shape = ap (λ most. record { events = 0; frames = 0; replies = 0; leaders = 0; commit = counted most; cuts = 0 }) (sym (none_committed (members_of shape)))

-- what was counted of some outputs is counted of the same ones
pub record Counts (before after : Tally) (outputs : List Output) : Type 0 where
  pub replies : after.replies ≡ counted (before.replies + count_by is_reply outputs)
  pub leaders : after.leaders ≡ counted (before.leaders + count_by tells_leader outputs)
  pub cuts : after.cuts ≡ counted (before.cuts + count_by is_cut outputs)

pub counts_as :
    (told outputs : List Output) (before after : Tally) → told ≡ outputs → after.replies ≡ counted (before.replies + count_by is_reply told) →
    after.leaders ≡ counted (before.leaders + count_by tells_leader told) → after.cuts ≡ counted (before.cuts + count_by is_cut told) → Counts before after outputs
counts_as told outputs before after same replies leaders cuts = subst (Counts before after) same (record { replies = replies; leaders = leaders; cuts = cuts })
