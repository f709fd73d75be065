-- What `ask` answers where the client has no answer.
use Rattle.std.proofs.Common.{◌≡◌, refl, inl, subst, sym}
use Rattle.command_words.specs.declared.command.AskCommand.{AskCommand}
use Rattle.craft_client.specs.Telling.{LinkNow}
use Rattle.craft_client.specs.declared.client_fault.ClientFault.{ClientFault}
use Rattle.craft_client.specs.declared.client_fault.ClientFault.TheVariants as asking
use Rattle.craft_edge.specs.Streams.{Streams}
use Rattle.command_words.specs.declared.command.Command.{Command}
use Rattle.command_words.specs.declared.command.Command.TheVariants.{Ask}
use Rattle.craft.specs.Asks.{Asks, HasNone}
use Rattle.craft.specs.Program.{Answers, Devices, ReadsNothing}
use Rattle.craft.specs.declared.status.Status.{Status}
use Rattle.craft.specs.declared.status.Status.TheVariants.{BadWords}
use Rattle.craft.specs.Statuses.{status_of_asking}

pub asked_none : (ask : AskCommand) (streams : Streams) (before after : LinkNow) (fault : ClientFault) → HasNone ask before after fault
    → Asks ask streams streams before after (status_of_asking fault)
asked_none ask streams before after (asking.NoAnswer sent) none = (none, refl)
asked_none ask streams before after asking.LinkFault none = (none, refl)
asked_none ask streams before after asking.OutOfMemory none = (inl none, refl)

pub asks_for : (command : Command) (ask : AskCommand) (before after : Devices) (status : Status) → command ≡ Ask ask
    → Asks ask before.streams after.streams before.link after.link status → ReadsNothing before after → Answers command before after status
asks_for command ask before after status is asks nothing = subst (λ known. Answers known before after status) (sym is) (asks, nothing)

pub knows_words : (ask : AskCommand) (before after : Streams) (link_before link_after : LinkNow) (status : Status)
    → Asks ask before after link_before link_after status → status ≡ BadWords → ⊥
knows_words ask before after link_before link_after status asks is = subst (λ told. Asks ask before after link_before link_after told) is asks
