-- A replay goes on by one line, and ends.
use Rattle.std.proofs.Common.{◌≡◌, ℕ, ◌+◌, List, [], ◌∷◌, ◌++◌, refl, ap, ◌∙◌, sym, subst, arith, append_assoc, append-nil, length, length-append, Option, None, Some}
use Rattle.std.specs.Prelude.{IfSome}
use Rattle.std.specs.Io.KnownBytes.{Appends}
use Rattle.std.proofs.KnownBytes.{Appends-nil, Appends-trans}
use Rattle.bridge.proofs.Safe.{every_run_is_safe}
use Rattle.craft_base.specs.Shape.{Shape, IsShape}
use Rattle.craft_edge.specs.Streams.{WhereBothTold}
use Rattle.craft_edge.proofs.StreamLemmas.{told_if, told_map, told_same, told_trans}
use Rattle.world_model.specs.Lines.{event_text, lines_of_run}
use Rattle.world_model.specs.Schedule.{reading, reading_from, lines_of}
use Rattle.world_model.specs.World as model
use Rattle.world_model.specs.declared.line.Line.{Line}
use Rattle.world_model.proofs.Readings.{reading_in_range}
use Rattle.world_model.proofs.Runs.{lines_from-append}
use Rattle.schedule_replay.specs.Replaying.{IsOfReading, PrintsReading, Progress, TakesLineOf, TakesLinesOf, after_events}
use Rattle.schedule_replay.specs.Worlds.{Kept, StandsFor}

-- nothing was read yet
pub begins : (shape : Shape) (world : Kept) (left taken : Option (List ℕ)) → world.shape ≡ shape → StandsFor world [] → Progress shape 1 world left left taken taken
begins shape world left taken of_shape started =
    record {
      of_shape = of_shape;
      events = [];
      counted = refl;
      reached = started;
      text = Appends-nil taken;
      read = told_same left (TakesLinesOf shape 1 []) (λ bytes. ([], refl, λ rest. refl));
    }

-- the text of an event of the world's cluster
abbrev text_at : Shape → ℕ → List Line → Line → List ℕ
text_at shape number events event = event_text number (model.run shape events) (model.step (model.run shape events) event)

-- one line more
pub goes_on : (shape : Shape) (number : ℕ) (world next : Kept) (left mid now taken written all : Option (List ℕ))
    → (p : Progress shape number world left mid taken written) → (event : Line)
    → WhereBothTold mid now (TakesLineOf shape number event)
    → next.shape ≡ world.shape → StandsFor next (p.events ++ event ∷ [])
    → Appends written all (event_text (length p.events + 1) (model.run world.shape p.events) (model.step (model.run world.shape p.events) event))
    → Progress shape (number + 1) next left now taken all
goes_on shape number world next left mid now taken written all p event read same stands text =
    let at : length p.events + 1 ≡ 1 + length p.events = omega arith in
    record {
      of_shape = same ∙ p.of_shape;
      events = p.events ++ event ∷ [];
      counted = omega (arith, p.counted, length-append p.events (event ∷ []));
      reached = stands;
      text =
          subst (Appends taken all)
          (ap (λ s. lines_of_run shape p.events ++ text_at s (length p.events + 1) p.events event) p.of_shape
          ∙ ap (λ n. lines_of_run shape p.events ++ text_at shape n p.events event) at
          ∙ sym (lines_from-append 1 (model.start shape) p.events event))
          (Appends-trans taken written all (lines_of_run shape p.events) (text_at world.shape (length p.events + 1) p.events event) p.text text);
      read =
          told_trans left mid now (TakesLinesOf shape number p.events) (TakesLineOf shape number event) (TakesLinesOf shape (number + 1) (p.events ++ event ∷ [])) p.read read
          (λ a b c first second. (
            first.0 ++ second.0,
            first.1 ∙ ap (λ bytes. first.0 ++ bytes) second.1 ∙ sym (append_assoc first.0 second.0 c),
            λ rest.
                ap (reading shape) (append_assoc first.0 second.0 rest) ∙ first.2 (second.0 ++ rest) ∙ ap (after_events p.events) (second.2 rest)
                ∙ ap (λ es. record (reading_from shape (number + 1) (lines_of rest)) { events = es })
                (sym (append_assoc p.events (event ∷ []) (reading_from shape (number + 1) (lines_of rest)).events)),
          ));
    }

module _ (shape : Shape) (number : ℕ) (world : Kept) (left mid taken all : Option (List ℕ)) (p : Progress shape number world left mid taken all) where
  -- what the bytes say, by what those say that are left
  pub read_on : WhereBothTold left mid (λ before after. reading shape before ≡ after_events p.events (reading_from shape number (lines_of after)))
  read_on =
      told_map left mid (TakesLinesOf shape number p.events) (λ before after. reading shape before ≡ after_events p.events (reading_from shape number (lines_of after))) p.read
      (λ before after takes. ap (reading shape) takes.1 ∙ takes.2 after)

  is : IsShape shape
  is = subst IsShape p.of_shape p.reached.parts.is_shape

  prints : (bad : Option ℕ) (bytes : List ℕ) → reading shape bytes ≡ after_events p.events (record { events = []; bad = bad }) → PrintsReading shape bad bytes taken all
  prints bad bytes read =
      record {
        first_bad = ap (λ r. r.bad) read;
        text = subst (λ es. Appends taken all (lines_of_run shape es)) (sym (ap (λ r. r.events) read ∙ append-nil p.events)) p.text;
        safe = every_run_is_safe shape (reading shape bytes).events (record { of_shape = is; in_range = reading_in_range shape bytes });
      }

  -- the world stands for all that was read
  stands_now : (bad : Option ℕ) (bytes : List ℕ) → reading shape bytes ≡ after_events p.events (record { events = []; bad = bad }) → StandsFor world (reading shape bytes).events
  stands_now bad bytes read = subst (StandsFor world) (sym (ap (λ r. r.events) read ∙ append-nil p.events)) p.reached

  -- the reading where the input has ended
  at_end : (a b : List ℕ) → reading shape a ≡ after_events p.events (reading_from shape number (lines_of b)) → b ≡ [] → reading shape a ≡ after_events p.events (record { events = []; bad = None })
  at_end a b first none = first ∙ ap (λ bytes. after_events p.events (reading_from shape number (lines_of bytes))) none

  -- the input has ended
  pub ends_well : (now : Option (List ℕ)) → WhereBothTold mid now (λ before after. (before ≡ []) × (after ≡ []))
      → WhereBothTold left now (λ bytes rest. PrintsReading shape None bytes taken all × (rest ≡ []))
  ends_well now end =
      told_trans left mid now
      (λ before after. reading shape before ≡ after_events p.events (reading_from shape number (lines_of after)))
      (λ before after. (before ≡ []) × (after ≡ []))
      (λ bytes rest. PrintsReading shape None bytes taken all × (rest ≡ []))
      read_on end
      (λ a b c first second. (prints None a (at_end a b first second.0), second.1))

  ended : (old now : Option (List ℕ)) → WhereBothTold old now (λ before after. (before ≡ []) × (after ≡ [])) → IfSome old (λ bytes. bytes ≡ [])
  ended None now end = tt
  ended (Some bytes) None end = absurd end
  ended (Some bytes) (Some rest) end = end.0

  pub ended_hands_back : (now : Option (List ℕ)) → WhereBothTold mid now (λ before after. (before ≡ []) × (after ≡ [])) → IsOfReading shape left (Some world)
  ended_hands_back now end = (
    p.of_shape,
    told_if left mid
        (λ before after. reading shape before ≡ after_events p.events (reading_from shape number (lines_of after)))
        (λ bytes. bytes ≡ []) (λ bytes. StandsFor world (reading shape bytes).events)
        read_on (ended mid now end) (λ a b first second. stands_now None a (at_end a b first second)),
  )

  -- the next line is bad
  pub ends_badly : IfSome mid (λ before. reading_from shape number (lines_of before) ≡ record { events = []; bad = Some number })
      → IfSome left (λ bytes. PrintsReading shape (Some number) bytes taken all)
  ends_badly bad =
      told_if left mid
      (λ before after. reading shape before ≡ after_events p.events (reading_from shape number (lines_of after)))
      (λ before. reading_from shape number (lines_of before) ≡ record { events = []; bad = Some number })
      (λ bytes. PrintsReading shape (Some number) bytes taken all)
      read_on bad
      (λ a b first second. prints (Some number) a (first ∙ ap (after_events p.events) second))

  pub bad_hands_back : IfSome mid (λ before. reading_from shape number (lines_of before) ≡ record { events = []; bad = Some number }) → IsOfReading shape left (Some world)
  bad_hands_back bad = (
    p.of_shape,
    told_if left mid
        (λ before after. reading shape before ≡ after_events p.events (reading_from shape number (lines_of after)))
        (λ before. reading_from shape number (lines_of before) ≡ record { events = []; bad = Some number })
        (λ bytes. StandsFor world (reading shape bytes).events)
        read_on bad (λ a b first second. stands_now (Some number) a (first ∙ ap (after_events p.events) second)),
  )
