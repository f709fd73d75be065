-- What a replay has taken and written where it ends early.
use Rattle.std.proofs.Common.{◌≡◌, ◌⊎◌, inl, inr, ℕ, ◌+◌, ◌≤◌, List, [], ◌∷◌, ◌++◌, length, take, refl, ap, sym, subst, ◌∙◌, arith, append_assoc, append-nil, length-append, Option, None, Some}
use Rattle.std.specs.Prelude.{IfSome}
use Rattle.std.specs.Io.KnownBytes.{Appends, Consumes, Keeps}
use Rattle.std.proofs.KnownBytes.{Appends-nil, Appends-trans, Keeps-refl}
use Rattle.std.proofs.Math.Seq.{take-append-add}
use Rattle.std.proofs.lemmas.List.{take-append-le}
use Rattle.bridge.proofs.Safe.{every_run_is_safe}
use Rattle.craft_base.specs.Shape.{Shape, IsShape}
use Rattle.craft_edge.specs.Bytes.{AppendsPrefix}
use Rattle.craft_edge.specs.Causes.{Rose}
use Rattle.craft_edge.specs.Streams.{Streams, WhereBothTold}
use Rattle.craft_edge.proofs.StreamLemmas.{told_before, told_same, told_trans}
use Rattle.line_input.specs.Lines.{HasNoLineFeed, TakesUnfinished}
use Rattle.world_model.specs.Safety.{IsSafe}
use Rattle.world_model.specs.Lines.{event_text, lines_from, lines_of_run}
use Rattle.world_model.specs.Schedule.{reading, reading_from, lines_of}
use Rattle.world_model.specs.World as model
use Rattle.world_model.specs.declared.line.Line.{Line}
use Rattle.world_model.proofs.Readings.{reading_in_range}
use Rattle.world_model.proofs.Runs.{lines_from-append}
use Rattle.schedule_replay.specs.Replaying.{EndsEarly, PrintsPart, PrintsSome, PrintsTaken, Progress, ReadsNone, TakesLineOf, TakesLinesOf, after_events}
use Rattle.schedule_replay.proofs.Progressing.{read_on}
use Rattle.schedule_replay.specs.Worlds.{Kept, StandsFor}
use Rattle.schedule_replay.specs.declared.replay_end.ReplayEnd.{ReplayEnd}
use Rattle.schedule_replay.specs.declared.replay_end.ReplayEnd.TheVariants.{End, Bad, SourceFault, SinkFault, NoMemory}

-- ---- bytes that are told

consumed : (old new : Option (List ℕ)) (text : List ℕ) → Consumes old new text → WhereBothTold old new (λ before after. before ≡ text ++ after)
consumed None new text takes = tt
consumed (Some before) None text takes = absurd takes
consumed (Some before) (Some after) text takes = takes

kept_on : (old mid now : Option (List ℕ)) (text : List ℕ) → Appends old mid text → Keeps mid now → Appends old now text
kept_on None mid now text first keeps = tt
kept_on (Some a) None now text first keeps = absurd first
kept_on (Some a) (Some b) None text first keeps = absurd keeps
kept_on (Some a) (Some b) (Some c) text first keeps = keeps ∙ first

-- a text, and then a first part of the next
part_behind :
    (old mid now : Option (List ℕ)) (text next more : List ℕ) → Appends old mid text → AppendsPrefix mid now next → AppendsPrefix old now ((text ++ next) ++ more)
part_behind old mid now text next more first (n, le, part) =
    let short : length (text ++ next) ≡ length text + length next = length-append text next in
    let long : length ((text ++ next) ++ more) ≡ length (text ++ next) + length more = length-append (text ++ next) more in
    let is : take (length text + n) ((text ++ next) ++ more) ≡ text ++ take n next =
    take-append-le (length text + n) (text ++ next) more (omega (arith, short, le)) ∙ take-append-add text next n in
    (length text + n, omega (arith, short, long, le), subst (Appends old now) (sym is) (Appends-trans old mid now text (take n next) first part))

-- the text of a run begins with that of its first events
lines_from-front :
    (number : ℕ) (w : model.World) (events more : List Line) → (rest : List ℕ) × (lines_from number w (events ++ more) ≡ lines_from number w events ++ rest)
lines_from-front number w [] more = (lines_from number w more, refl)
lines_from-front number w (event ∷ events) more =
    let after = (model.step w event).world in
    let next = lines_from-front (number + 1) after events more in
    let here = event_text number w (model.step w event) in
    (next.0, ap (λ text. here ++ text) next.1 ∙ sym (append_assoc here (lines_from (number + 1) after events) next.0))

-- what some bytes say is a safe run
reading_is_safe : (shape : Shape) → IsShape shape → (bytes : List ℕ) → IsSafe shape (reading shape bytes).events
reading_is_safe shape is bytes = every_run_is_safe shape (reading shape bytes).events (record { of_shape = is; in_range = reading_in_range shape bytes })

-- nothing was read yet, and memory was wanting
pub early_start : (shape : Shape) → IsShape shape → (left taken : Option (List ℕ)) (source sink : ℕ)
    → PrintsSome shape (record { left = left; taken = taken; source_faults = source; sink_faults = sink }) (record { left = left; taken = taken; source_faults = source; sink_faults = sink })
early_start shape is left taken source sink =
    told_before left left (λ a b. Unit {0})
    (λ bytes. (events more : List Line) × ((reading shape bytes).events ≡ events ++ more) × Appends taken taken (lines_of_run shape events) × IsSafe shape events)
    (told_same left (λ a b. Unit {0}) (λ bytes. tt))
    (λ bytes same any. ([], (reading shape bytes).events, refl, Appends-nil taken, reading_is_safe shape is []))

module _ (shape : Shape) (number : ℕ) (world : Kept) (left mid taken written : Option (List ℕ)) (p : Progress shape number world left mid taken written) where
  is : IsShape shape
  is = subst IsShape p.of_shape p.reached.parts.is_shape

  -- the good lines say the events so far
  lines_say : (bytes rest : List ℕ) → (lines : TakesLinesOf shape number p.events bytes rest) → reading shape lines.0 ≡ record { events = p.events; bad = None }
  lines_say bytes rest lines =
      ap (reading shape) (sym (append-nil lines.0)) ∙ lines.2 [] ∙ ap (λ events. record { events = events; bad = None }) (append-nil p.events)

  is_safe : (bytes rest : List ℕ) → TakesLinesOf shape number p.events bytes rest → IsSafe shape p.events
  is_safe bytes rest lines = subst (IsSafe shape) (ap (λ r. r.events) (lines_say bytes rest lines)) (reading_is_safe shape is lines.0)

  -- the text of the events so far, and nothing more
  some_printed : (now all : Option (List ℕ)) → Keeps written all → (first last : ℕ) (a b : ℕ)
      → PrintsSome shape (record { left = left; taken = taken; source_faults = a; sink_faults = b }) (record { left = now; taken = all; source_faults = first; sink_faults = last })
  some_printed now all keeps first last a b =
      told_before left mid (TakesLinesOf shape number p.events)
      (λ bytes. (events more : List Line) × ((reading shape bytes).events ≡ events ++ more) × Appends taken all (lines_of_run shape events) × IsSafe shape events)
      p.read
      (λ before after lines. (
        p.events,
        (reading_from shape number (lines_of after)).events,
        ap (λ bytes. (reading shape bytes).events) lines.1 ∙ ap (λ r. r.events) (lines.2 after),
        kept_on taken written all (lines_of_run shape p.events) p.text keeps,
        is_safe before after lines,
      ))

  -- the lines so far were taken, and then an unfinished one
  taken_printed : (now : Option (List ℕ)) → TakesUnfinished mid now → (first last : ℕ) (a b : ℕ)
      → PrintsTaken shape (record { left = left; taken = taken; source_faults = a; sink_faults = b }) (record { left = now; taken = written; source_faults = first; sink_faults = last })
  taken_printed now (text, takes, none) first last a b =
      told_trans left mid now (TakesLinesOf shape number p.events) (λ before after. before ≡ text ++ after)
      (λ bytes rest.
      (events : List Line) × (good unfinished : List ℕ) × (bytes ≡ good ++ (unfinished ++ rest)) × (reading shape good ≡ record { events = events; bad = None })
      × HasNoLineFeed unfinished × Appends taken written (lines_of_run shape events) × IsSafe shape events)
      p.read (consumed mid now text takes)
      (λ bytes between rest lines left_is. (
        p.events,
        lines.0,
        text,
        lines.1 ∙ ap (λ it. lines.0 ++ it) left_is,
        lines_say bytes between lines,
        none,
        p.text,
        is_safe bytes between lines,
      ))

  -- no line was taken
  pub early_read :
      (now : Option (List ℕ)) (a b source sink source_now sink_now : ℕ) (e : ReplayEnd) → a ≤ source → ReadsNone source source_now e → (e ≡ SourceFault → TakesUnfinished mid now)
      → EndsEarly shape (record { left = left; taken = taken; source_faults = a; sink_faults = b }) (record { left = now; taken = written; source_faults = source_now; sink_faults = sink_now }) e
  early_read now a b source sink source_now sink_now SourceFault le rose unfinished =
      (omega (arith, le, rose), taken_printed now (unfinished refl) source_now sink_now a b)
  early_read now a b source sink source_now sink_now NoMemory le none unfinished = some_printed now written (Keeps-refl written) source_now sink_now a b
  early_read now a b source sink source_now sink_now SinkFault le none unfinished = absurd none
  early_read now a b source sink source_now sink_now End le none unfinished = absurd none
  early_read now a b source sink source_now sink_now (Bad line) le none unfinished = absurd none

  module _
      (event : Line) (now all : Option (List ℕ))
      (read : WhereBothTold mid now (TakesLineOf shape number event)) where
    abbrev text : Shape → ℕ → List ℕ
    text of count = event_text count (model.run of p.events) (model.step (model.run of p.events) event)

    -- the text of the lines so far, and a first part of the next one's
    part_printed : AppendsPrefix written all (text world.shape (length p.events + 1)) → (first last : ℕ) (a b : ℕ)
        → PrintsPart shape (record { left = left; taken = taken; source_faults = a; sink_faults = b }) (record { left = now; taken = all; source_faults = first; sink_faults = last })
    part_printed part first last a b =
        let at : length p.events + 1 ≡ 1 + length p.events = omega arith in
        let next : AppendsPrefix written all (text shape (1 + length p.events)) =
        subst (λ n. AppendsPrefix written all (text shape n)) at (subst (λ s. AppendsPrefix written all (text s (length p.events + 1))) p.of_shape part) in
        let events : List Line = p.events ++ event ∷ [] in
        let whole : (rest : List Line) → AppendsPrefix taken all (lines_of_run shape (events ++ rest)) =
        λ rest.
        let more = lines_from-front 1 (model.start shape) events rest in
        let is : lines_of_run shape (events ++ rest) ≡ (lines_of_run shape p.events ++ text shape (1 + length p.events)) ++ more.0 =
        more.1 ∙ ap (λ it. it ++ more.0) (lines_from-append 1 (model.start shape) p.events event) in
        subst (AppendsPrefix taken all) (sym is) (part_behind taken written all (lines_of_run shape p.events) (text shape (1 + length p.events)) more.0 p.text next) in
        told_before left now (λ bytes rest. AppendsPrefix taken all (lines_of_run shape (reading shape bytes).events))
        (λ bytes. AppendsPrefix taken all (lines_of_run shape (reading shape bytes).events) × IsSafe shape (reading shape bytes).events)
        (told_trans left mid now
        (λ before after. reading shape before ≡ after_events p.events (reading_from shape number (lines_of after)))
        (TakesLineOf shape number event)
        (λ bytes rest. AppendsPrefix taken all (lines_of_run shape (reading shape bytes).events))
        (read_on shape number world left mid taken written p) read
        (λ bytes between left_now first_is line.
        let rest = (reading_from shape (number + 1) (lines_of left_now)).events in
        let is : (reading shape bytes).events ≡ events ++ rest =
        ap (λ r. r.events) first_is ∙ ap (λ it. p.events ++ (reading_from shape number (lines_of it)).events) line.1 ∙ ap (λ r. p.events ++ r.events) (line.2 left_now) ∙ sym (append_assoc p.events (event ∷ []) rest) in
        subst (λ es. AppendsPrefix taken all (lines_of_run shape es)) (sym is) (whole rest)))
        (λ bytes rest part_of. (part_of, reading_is_safe shape is bytes))

    -- a line was taken, and its event wasn't carried out, or its text wasn't written whole
    pub early_print :
        (a b source sink source_now sink_now : ℕ) (e : ReplayEnd) → b ≤ sink → (e ≡ NoMemory) ⊎ ((e ≡ SinkFault) × Rose sink sink_now) → (e ≡ NoMemory → Keeps written all)
        → (e ≡ SinkFault → (events : List Line) → StandsFor world events → AppendsPrefix written all (event_text (length events + 1) (model.run world.shape events) (model.step (model.run world.shape events) event)))
        → EndsEarly shape (record { left = left; taken = taken; source_faults = a; sink_faults = b }) (record { left = now; taken = all; source_faults = source_now; sink_faults = sink_now }) e
    early_print a b source sink source_now sink_now e le (inl none) kept part =
        subst (EndsEarly shape (record { left = left; taken = taken; source_faults = a; sink_faults = b }) (record { left = now; taken = all; source_faults = source_now; sink_faults = sink_now })) (sym none)
        (some_printed now all (kept none) source_now sink_now a b)
    early_print a b source sink source_now sink_now e le (inr (failed, rose)) kept part =
        subst (EndsEarly shape (record { left = left; taken = taken; source_faults = a; sink_faults = b }) (record { left = now; taken = all; source_faults = source_now; sink_faults = sink_now })) (sym failed)
        (omega (arith, le, rose), part_printed (part failed p.events p.reached) source_now sink_now a b)
