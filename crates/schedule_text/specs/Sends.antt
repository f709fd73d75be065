-- What the code can send.
use Rattle.entry_frames.specs.MessageParts.{IsPeer}
use Rattle.entry_frames.specs.declared.output.Output.{Output}
use Rattle.entry_frames.specs.declared.output.Output.TheVariants.{Send}

-- what it sends, if anything, goes from one member to another
abbrev pub SendsPeer : Output → Type 0
SendsPeer (Send message) = IsPeer message
SendsPeer _ = Unit {0}
