-- What the command `ask` does.
use Rattle.std.specs.Prelude.{◌≡◌, ◌⊎◌, ℕ, List, Ok, Err}
use Rattle.std.specs.Io.KnownBytes.{Appends}
use Rattle.command_words.specs.declared.command.AskCommand.{AskCommand}
use Rattle.craft_base.specs.declared.command.Reply.{Reply}
use Rattle.craft_client.specs.Telling.{LinkNow}
use Rattle.craft_client.specs.Telling as client
use Rattle.craft_client.specs.declared.client_fault.ClientFault.{ClientFault}
use Rattle.craft_client.specs.declared.client_fault.ClientFault.TheVariants as asking
use Rattle.craft_edge.specs.Bytes.{AppendsPrefix}
use Rattle.craft_edge.specs.Causes.{Rose}
use Rattle.craft_edge.specs.Streams.{Streams}
use Rattle.entry_frames.specs.declared.output.Output.TheVariants as outputs
use Rattle.world_model.specs.Lines.{output_line}
use Rattle.craft.specs.declared.status.Status.{Status}
use Rattle.craft.specs.declared.status.Status.TheVariants.{Done, SinkFault, LinkFault, NoAnswer, NoMemory}

-- how many requests are sent at most
abbrev pub tries : ℕ
tries = 20

-- the client has this answer: a reply, and the member that gave it
abbrev pub HasAnswer : AskCommand → (before after : LinkNow) → (ℕ × Reply) → Type 0
HasAnswer ask before after answer = client.Answers ask.shape ask.places ask.request tries before after (Ok answer)

-- it has none, for this reason
abbrev pub HasNone : AskCommand → (before after : LinkNow) → ClientFault → Type 0
HasNone ask before after fault = client.Answers ask.shape ask.places ask.request tries before after (Err fault)

-- the line of an answer
abbrev pub answer_line : AskCommand → (ℕ × Reply) → List ℕ
answer_line ask answer = output_line answer.0 0 (outputs.Reply ask.request.client ask.request.client ask.request.seq answer.1)

-- nothing was written
abbrev pub WritesNothing : (before after : Streams) → Type 0
WritesNothing before after = after.taken ≡ before.taken

-- What a status of `ask` means: the line of the final reply was written; or a first part of it, and the sink failed; or none came in
-- all the tries; or the link failed, or memory was wanting, and nothing was written.
abbrev pub Asks : AskCommand → (before after : Streams) → (link_before link_after : LinkNow) → Status → Type 0
Asks ask before after link_before link_after Done =
    (answer : ℕ × Reply) × HasAnswer ask link_before link_after answer × Appends before.taken after.taken (answer_line ask answer)
Asks ask before after link_before link_after SinkFault =
    (answer : ℕ × Reply) × HasAnswer ask link_before link_after answer × AppendsPrefix before.taken after.taken (answer_line ask answer)
    × Rose before.sink_faults after.sink_faults
Asks ask before after link_before link_after (NoAnswer sent) = HasNone ask link_before link_after (asking.NoAnswer sent) × WritesNothing before after
Asks ask before after link_before link_after LinkFault = HasNone ask link_before link_after asking.LinkFault × WritesNothing before after
Asks ask before after link_before link_after NoMemory =
    (HasNone ask link_before link_after asking.OutOfMemory ⊎ ((answer : ℕ × Reply) × HasAnswer ask link_before link_after answer))
    × WritesNothing before after
Asks ask before after link_before link_after _ = ⊥
