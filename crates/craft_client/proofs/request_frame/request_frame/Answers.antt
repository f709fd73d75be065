use Rattle.std.proofs.Common.{rules}
use Rattle.craft_client.specs.Asking.{frame_to}
use Rattle.craft_client.proofs.request_frame.request_frame.Goals as goal

pub returns : goal.returns
unfolding frame_to
returns c = search rules
