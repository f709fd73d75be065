-- In every run clients are answered as by one map, which took the list that is committed.
use Rattle.std.proofs.Common.{◌≡◌, ℕ, zero, suc, ◌+◌, List, [], ◌∷◌, ◌++◌, map, take, Option, Some, refl, ap, subst, ◌∙◌}
use Rattle.std.specs.List.{All}
use Rattle.std.proofs.lemmas.List.Elements.{All-head, All-nil, All-replicate, All-tail}
use Rattle.craft_base.specs.Shape.{Shape, members_of}
use Rattle.craft_base.specs.declared.command.Entry.{Entry}
use Rattle.entry_frames.specs.Durable.{Durable, born}
use Rattle.world_model.specs.Safety.{AnswersAsOneMap, HoldsCommitted, IsFront, IsOfOneMap, commands_of, committed, furthest}
use Rattle.world_model.specs.Spelling.{IsLineOf}
use Rattle.world_model.specs.Traces.{Command, Proposal}
use Rattle.world_model.specs.World.{World, newborn, run_from, start, step}
use Rattle.world_model.specs.declared.line.Line.{Line}
use Rattle.protocol.specs.History.{History}
use Rattle.protocol.specs.Moves.{Reached}
use Rattle.bridge.specs.Agreement.{WorldAgrees}
use Rattle.bridge.specs.Traced.{AllStand, Holder}
use Rattle.bridge.proofs.Book.Standing.{stand_take}
use Rattle.bridge.proofs.Furthest.{IsCommitted, furthest_committed}
use Rattle.bridge.proofs.Replies.Dates.{IsDated}
use Rattle.bridge.proofs.Replies.Lists.{front_of_commands, is_in}
use Rattle.bridge.proofs.Replies.Outcomes.{told_longer, told_of_one_map}
use Rattle.bridge.proofs.Replies.World.{IsToldOf, MemberAnswers, WorldAnswers, step_answers}

pub start_answers : (shape : Shape) (listed : List (Option Command)) → WorldAnswers listed (start shape)
start_answers shape listed = record {
  members = All-replicate MemberAnswers (members_of shape) newborn (refl, refl);
  told = All-nil (IsToldOf listed []);
  dated = All-nil (IsDated 0);
}

-- after each front of the events what is committed is held, and is a front of that list
pub run_answers :
    (shape : Shape) (listed : List (Option Command)) (events : List Line) (w : World) → WorldAnswers listed w → All (IsLineOf shape) events →
    ((count : ℕ) → HoldsCommitted (run_from w (take count events))) → ((count : ℕ) → IsFront (committed (run_from w (take count events))) listed) →
    WorldAnswers listed (run_from w events)
run_answers shape listed [] w a within holds fronts = a
run_answers shape listed (line ∷ events) w a within holds fronts =
    run_answers shape listed events (step w line).world
    (step_answers shape listed w a line (All-head (IsLineOf shape) line events within) (holds (suc zero)) (fronts (suc zero)))
    (All-tail (IsLineOf shape) line events within) (λ count. holds (suc count)) (λ count. fronts (suc count))

-- entries that stand in the book have a command each
each_listed :
    (at : Holder) (book : List Proposal) (index : ℕ) (log : List Entry) → AllStand at book index log →
    (commands : List Command) × (commands_of book index log ≡ map Some commands)
each_listed at book index [] stand = ([], refl)
each_listed at book index (entry ∷ log) stand =
    let rest = each_listed at book (index + 1) log stand.1 in (
      stand.0.0 ∷ rest.0,
      ap (λ it. it ∷ commands_of book (index + 1) log) stand.0.1 ∙ ap (λ it. Some stand.0.0 ∷ it) rest.1,
    )

pub answers_as_one_map : {shape : Shape} {h : History} {w : World} → Reached shape.faults h → WorldAgrees shape h w → WorldAnswers (committed w) w → AnswersAsOneMap w
answers_as_one_map {shape = shape} {h = h} {w = w} reached a answers =
    let d : Durable = furthest born w.members in
    let most : IsCommitted shape h w d = furthest_committed reached a in
    let list = each_listed most.at w.book 1 (take d.commit d.log) (stand_take most.at w.book 1 d.commit d.log most.stand) in
    record {
      commands = list.0;
      are = list.1;
      replies = λ r among.
          let told : IsToldOf (committed w) w.book r = is_in (IsToldOf (committed w) w.book) w.replies answers.told r among in
          let more = front_of_commands told.commands told.front.0 list.0 (told.front.1 ∙ list.1) in
          subst (λ commands. IsOfOneMap commands r.client r.seq r.reply) more.1
          (told_of_one_map (told.commands ++ more.0) r.client r.seq r.reply (told_longer told.commands more.0 r.client r.seq r.reply told.told));
    }
